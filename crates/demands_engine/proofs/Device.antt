-- Traces of any device go on, are cut, are determined where its contracts determine each result, and exist for all inputs where each call
-- has a result. By induction on the calls made.
use mathlib.Core.Path.{◌≡◌, refl, sym, ap, ◌∙◌}
use mathlib.Core.List.{List, [], ◌∷◌, ◌++◌, map}
use Prim.Native.Nat.{ℕ}
use native.Mathlib.Omega.{arith}
use lib.ListN.{length}
use Rattle.rules.specs.Lists.{All}
use Rattle.rules.specs.Follows.Wires.{Byte}
use Rattle.demands_engine.specs.Device.{Device, Made, Leads, Trace, More, Point, inputs, Answerable, Run}

module _ (d : Device) where
  -- ## The calls that led from one memory to another

  abbrev made : d.Input → d.Result → Made d
  made i r = record { input = i; result = r }

  pub led-more : (h : List (Made d)) (b m : d.Memory) (i : d.Input) (r : d.Result) → Leads d b h m → d.Typed i → d.Allowed m i r
      → Leads d b (h ++ (made i r ∷ [])) (d.left r)
  led-more [] b m i r l t a = rw (← l) (t, a, refl)
  led-more (x ∷ h) b m i r l t a = (l.0, l.1, led-more h (d.left x.result) m i r l.2 t a)

  -- one run of calls behind another
  pub led-append : (h g : List (Made d)) (b m n : d.Memory) → Leads d b h m → Leads d m g n → Leads d b (h ++ g) n
  led-append [] g b m n l k = rw (← l) k
  led-append (x ∷ h) g b m n l k = (l.0, l.1, led-append h g (d.left x.result) m n l.2 k)

  -- the memory after the calls
  abbrev reached : d.Memory → List (Made d) → d.Memory
  reached b [] = b
  reached b (x ∷ h) = reached (d.left x.result) h

  led-parts : (h g : List (Made d)) (b m : d.Memory) → Leads d b (h ++ g) m → Leads d b h (reached b h) × Leads d (reached b h) g m
  led-parts [] g b m l = (refl, l)
  led-parts (x ∷ h) g b m l = let p = led-parts h g (d.left x.result) m l.2 in ((l.0, l.1, p.0), p.1)

  -- what each call keeps
  pub led-kept : (P : d.Memory → Type 0)
      → ((m : d.Memory) (i : d.Input) (r : d.Result) → P m → d.Typed i → d.Allowed m i r → P (d.left r))
      → (h : List (Made d)) (b m : d.Memory) → P b → Leads d b h m → P m
  led-kept P k [] b m p l = rw l p
  led-kept P k (x ∷ h) b m p l = led-kept P k h (d.left x.result) m (k b x.input x.result p l.0 l.1) l.2

  -- what the types say of each input
  pub led-all : {A : Type 0} (f : d.Input → A) (P : A → Type 0) → ((i : d.Input) → d.Typed i → P (f i))
      → (h : List (Made d)) (b m : d.Memory) → Leads d b h m → All P (map (λ x. f x.input) h)
  led-all f P k [] b m l = tt
  led-all f P k (x ∷ h) b m l = (k x.input l.0, led-all f P k h (d.left x.result) m l.2)

  -- ## Traces

  module _ (name : List ℕ) where
    pub trace-more : (h : List (Made d)) (m : d.Memory) (i : d.Input) (r : d.Result) → More d name h m i r
        → Trace d name (h ++ (made i r ∷ [])) (d.left r)
    trace-more h m i r a =
        let t = a.trace in
        record {
          whole = t.whole;
          bytes = t.bytes;
          begun = t.begun;
          reply = t.reply;
          fresh = t.fresh;
          leads = led-more h t.begun m i r t.leads a.typed a.allowed;
        }

    pub trace-point : (h g : List (Made d)) (m : d.Memory) → Trace d name (h ++ g) m → Point d name h g m
    trace-point h g m t =
        let p = led-parts h g t.begun m t.leads in
        record {
          here = reached t.begun h;
          before = record { whole = t.whole; bytes = t.bytes; begun = t.begun; reply = t.reply; fresh = t.fresh; leads = p.0 };
          behind = p.1;
        }

  -- ## Where a contract allows one result

  made-same : (i j : d.Input) (r s : d.Result) (h g : List (Made d)) → i ≡ j → r ≡ s → h ≡ g
      → ◌≡◌ {A = List (Made d)} (made i r ∷ h) (made j s ∷ g)
  made-same i j r s h g e f c = cc

  module _ (one : (m : d.Memory) (i : d.Input) (r s : d.Result) → d.Allowed m i r → d.Allowed m i s → r ≡ s) where
    led-same : (h g : List (Made d)) (b m n : d.Memory) → Leads d b h m → Leads d b g n → inputs d h ≡ inputs d g → (h ≡ g) × (m ≡ n)
    led-same [] [] b m n l k e = (refl, l ∙ sym k)
    led-same [] (y ∷ g) b m n l k e = let z : ◌≡◌ {A = ℕ} 0 1 = cc in absurd (omega arith)
    led-same (x ∷ h) [] b m n l k e = let z : ◌≡◌ {A = ℕ} 0 1 = cc in absurd (omega arith)
    led-same (x ∷ h) (y ∷ g) b m n l k e =
        let i : x.input ≡ y.input = cc in
        let more : inputs d h ≡ inputs d g = cc in
        let r : x.result ≡ y.result = one b x.input x.result y.result l.1 (rw i k.1) in
        let p = led-same h g (d.left x.result) m n l.2 (rw r k.2) more in
        (made-same x.input y.input x.result y.result h g i r p.0, p.1)

    -- and fresh's leaves one memory
    module _ (begun : (name : List ℕ) (a c : d.Reply) (m n : d.Memory) → d.Begins name a m → d.Begins name c n → m ≡ n) where
      pub trace-same : (name : List ℕ) (h g : List (Made d)) (m n : d.Memory) → Trace d name h m → Trace d name g n
          → inputs d h ≡ inputs d g → (h ≡ g) × (m ≡ n)
      trace-same name h g m n t u e =
          let same : t.begun ≡ u.begun = begun name t.reply u.reply t.begun u.begun t.fresh u.fresh in
          led-same h g t.begun m n t.leads (rw same u.leads) e

  -- ## Where each call has a result, from each memory that L holds of

  module _ (L : d.Memory → Type 0)
      (keeps : (m : d.Memory) (i : d.Input) (r : d.Result) → L m → d.Typed i → d.Allowed m i r → L (d.left r))
      (answerable : (m : d.Memory) → L m → (i : d.Input) → d.Typed i → Answerable d m i) where
    -- a memory that the calls led to, with what they were
    record Led (b : d.Memory) (is : List d.Input) : Type 0 where
      course : List (Made d)
      memory : d.Memory
      leads : Leads d b course memory
      same : inputs d course ≡ is

    led : (is : List d.Input) (b : d.Memory) → L b → All d.Typed is → Led b is
    led [] b l t = record { course = []; memory = b; leads = refl; same = refl }
    led (i ∷ is) b l t =
        let a = answerable b l i t.0 in
        let r = a.result in
        let c = led is (d.left r) (keeps b i r l t.0 a.allowed) t.1 in
        record {
          course = made i r ∷ c.course;
          memory = c.memory;
          leads = (t.0, a.allowed, c.leads);
          same = ap (λ js. i ∷ js) c.same;
        }

    -- fresh, then the calls
    pub runs : (name : List ℕ) → length name ≡ 32 → All Byte name → (a : d.Reply) (b : d.Memory) → d.Begins name a b → L b
        → (is : List d.Input) → All d.Typed is → Run d name is
    runs name long bytes a b f l is t =
        let c = led is b l t in
        record {
          course = c.course;
          memory = c.memory;
          trace = record { whole = long; bytes = bytes; begun = b; reply = a; fresh = f; leads = c.leads };
          same = c.same;
        }
