-- What is held: each session's fields in their ranges, no number held twice by a connection, none held by a closed one.
-- Assumes nothing but, for the widths of numbers, that the bytes read are bytes.
use mathlib.Core.Path.{◌≡◌, refl, sym, ap, ◌∙◌}
use mathlib.Core.Bool.{Bool, true, false}
use mathlib.Core.List.{List, [], ◌∷◌}
use Prim.Native.Nat.{ℕ, zero, suc, ◌+◌, ◌*◌, ◌≤◌, ◌<◌}
use native.Mathlib.Omega.{arith}
use lib.Dec.{eqb, ltb}
use lib.ListN.{length, get_or, drop, set, length-set, length-drop}
use lib.Seq.{get_or-set_same, get_or-set_other, set-get_or, length-take-le, take-take}
use borrow.Author.Tests.{eqb-true, eqb-false, ne_eqb, ltb-false}
use Rattle.rules.specs.declared.Session.{Session}
use Rattle.rules.specs.declared.Link.{Link}
use Rattle.rules.specs.declared.Link.TheVariants.{Closed, Opened, Initialised}
use Rattle.rules.specs.declared.Start.{Start}
use Rattle.rules.specs.declared.Start.TheVariants.{Timed, Linked}
use Rattle.rules.specs.declared.Request.{Request}
use Rattle.rules.specs.Lists.{bit, count}
use Rattle.rules.specs.Bytes.{value_from, value, message_size, has_zero}
use Rattle.rules.specs.Request.{nobody}
use Rattle.rules.specs.Follows.ReadBack.{data_in}
use Rattle.rules.specs.Hardware.{hardware_place, hardware_length, longest_hardware, hardware_in, bad_hardware}
use Rattle.rules.specs.Reading.{bad_init}
use Rattle.rules.specs.State.{Queue, Splicer, of, is, held, holds, no_hardware, link_of, is_open, is_initialised, hardware_of, with_link}
use Rattle.rules.specs.State.{with_hardware, with_queue}
use Rattle.rules.specs.Ends.{closed_by, cancelled}
use Rattle.rules.specs.Instants.{playing, run_all}
use Rattle.rules.specs.Splicing.{start_of, prior_of, session_at, requested, accepted}
use Rattle.rules.specs.Calls.{Call, named, fresh}
use Rattle.rules.specs.HouseNumbers.{Called}
use Rattle.rules.proofs.Tests.{by, clash, and_both, or-none}
use Rattle.rules.proofs.All.{All}
use Rattle.rules.proofs.Bytes.{Byte, part-byte, name_in-zero, name_in-shorter, name_in-byte}
use Rattle.rules.proofs.Count.{some-none, count-omitted}
use Rattle.rules.proofs.Every.{Each}
use Rattle.rules.proofs.Checks.{Fitting, StartFits}
use Rattle.rules.proofs.Leaving.{evicted-fewer, aborted-fewer, closed_by-fewer}
use Rattle.rules.proofs.Always.{Wired, grants, fits, Named, Kept, KeptHeld}
use Rattle.rules.proofs.Sessions.{each-kept, held_count, count_held, fewer-held, held-accepted, held-tick}
pub use Rattle.rules.specs.Follows.Sound.{Proper, Small, Once, Structure, Linking}

-- ## Each session

pub proper-plays : (d : ℕ) (s : Session) → Proper s → Proper (playing d s)
proper-plays d s h = record {
  conn = h.conn;
  somebody = h.somebody;
  access = h.access;
  overrides = h.overrides;
  mux = h.mux;
  lasts =
      h.lasts;
}

pub proper-kept : {F : Call → Type 0} → KeptHeld F (λ now q. Each Proper q)
unfolding requested session_at
proper-kept =
    each-kept Proper proper-plays
    (λ s c r a h. let g = grants a in
    record {
      conn = a.low;
      somebody = a.passed.somebody;
      access = g.ranked;
      overrides = g.overrides;
      mux = g.mux;
      lasts =
          omega (arith, g.lasts);
    })

pub small-plays : (d : ℕ) (s : Session) → Small s → Small (playing d s)
small-plays d s h = record { id = h.id; event = h.event; prior = h.prior; duration = h.duration; timed = h.timed }

pub small-kept : KeptHeld Wired (λ now q. Each Small q)
unfolding requested session_at start_of
small-kept =
    each-kept Small small-plays
    (λ s c r a h. new s.queue c r a.passed.somebody (fits a))
  where
    prior : (f : Start) → StartFits f → prior_of f ≤ 0xFFFFFFFF
    prior (Timed t) h = omega arith
    prior (Linked p) h = omega arith

    timed : (c : ℕ) (f : Start) (q : Queue) → StartFits f → prior_of f ≡ nobody → start_of c f q < 4294967296 * 9000000
    timed c (Timed t) q h e = omega arith
    timed c (Linked p) q h e = absurd (omega arith)

    new : (q : Queue) (c : ℕ) (r : Request) → eqb r.id nobody ≡ false → Fitting r → Small (requested c r q)
    new q c r e f =
        let n = eqb-false r.id nobody e in
        record {
          id = omega (arith, f.id);
          event = omega (arith, f.event);
          prior = prior r.start f.start;
          duration = omega (arith, f.duration);
          timed = timed c r.start q f.start;
        }

-- ## No number twice

pub once-kept : {F : Call → Type 0} → KeptHeld F (λ now q. Once q)
unfolding requested session_at
once-kept =
    record {
      closing = λ now q c h d x. omega (arith, h d x, fewer-held (is d x) q _ (closed_by-fewer c q));
      aborting = λ now q c y e h d x. omega (arith, h d x, fewer-held (is d x) q _ (aborted-fewer c y q));
      accepting = λ s c r a h d x. new s.queue c r a.passed.number h d x (is d x (requested c r s.queue)) refl;
      ticking = λ now until q le h d x. omega (arith, h d x, held-tick (is d x) (λ e s. refl) now until q);
    }
  where
    new : (q : Queue) (c : ℕ) (r : Request) → holds c r.id q ≡ false → Once q → (d x : ℕ) (b : Bool) → is d x (requested c r q) ≡ b
        → held_count (accepted (requested c r q) q).queue (is d x) ≤ 1
    new q c r n h d x true e =
        let i = and_both (eqb d c) (eqb x r.id) e in
        let z : count (is d x) (held q) ≡ 0 = rw (eqb-true d c i.0, eqb-true x r.id i.1) (some-none (is c r.id) (held q) n) in
        let s = requested c r q in
        omega (
          arith,
          held-accepted (is d x) s q,
          ap bit e,
          fewer-held (is d x) q _ (evicted-fewer s.start.0 q),
          z,
          count_held (is d x) q,
        )
    new q c r n h d x false e =
        let s = requested c r q in
        omega (arith, held-accepted (is d x) s q, ap bit e, fewer-held (is d x) q _ (evicted-fewer s.start.0 q), h d x)

-- ## 02, CR 6: the Hardware_Configs that are kept

-- where nothing is kept
none-whole : Structure no_hardware
unfolding value value_from
none-whole = record { whole = refl; short = omega arith; bytes = (omega arith, (omega arith, tt)) }

pub structure-at : (c : ℕ) (l : List (List ℕ)) → All Structure l → Structure (get_or l c no_hardware)
structure-at c [] a = none-whole
structure-at zero (h ∷ l) a = a.0
structure-at (suc c) (h ∷ l) a = structure-at c l a.1

all_set : (l : List (List ℕ)) (c : ℕ) (h : List ℕ) → Structure h → All Structure l → All Structure (set l c h)
all_set [] c h k a = tt
all_set (x ∷ l) zero h k a = (k, a.1)
all_set (x ∷ l) (suc c) h k a = (a.0, all_set l c h k a.1)

-- one that was read has the bytes that its Length says
read_whole_lem : (d : List ℕ) → All Byte d → bad_init d ≡ false → Structure (hardware_in d)
read_whole_lem d a e =
    let n = hardware_length d in
    let o = (or-none (bad_hardware d) _ e).0 in
    let p = or-none (ltb longest_hardware (2 + n)) _ (or-none (ltb (length d) (hardware_place + 2)) _ o).1 in
    let short = ltb-false longest_hardware (2 + n) p.0 in
    let fits = ltb-false (length d) (hardware_place + 2 + n) p.1 in
    let long : length (hardware_in d) ≡ 2 + n = length-take-le (2 + n) (drop hardware_place d)
    (omega (arith, length-drop hardware_place d)) in
    record {
      whole = long ∙ ap (λ x. 2 + value x) (sym (take-take 2 (2 + n) (drop hardware_place d) (omega arith)));
      short = omega arith;
      bytes = part-byte hardware_place (2 + n) d a;
    }

named-whole : {c : ℕ} {h : List ℕ} → Named Wired c h → Structure h
named-whole n = rw n.same (read_whole_lem (data_in n.bytes) (part-byte 8 (message_size n.bytes) n.bytes n.given.0) n.good)

-- ## Connections and the name

-- connection c gets the link l and the Hardware_Config x, and the queue becomes q
linking-set : (s : Splicer) (q : Queue) (c : ℕ) (l : Link) (x : List ℕ) → c ≤ 3 → Linking s → (is_open l ≡ false → held_count q (of c) ≡ 0)
    → ((d : ℕ) → (d ≡ c → ⊥) → held_count q (of d) ≤ held_count s.queue (of d)) → Structure x → (is_initialised l ≡ false → x ≡ no_hardware)
    → Linking (with_hardware c x (with_link c l (with_queue q s)))
linking-set s q c l x low h own others k n =
    record {
      four = length-set s.links c l ∙ h.four;
      shut = λ d e. go d (eqb d c) refl e;
      zeros = h.zeros;
      short = h.short;
      bytes = h.bytes;
      keeping = length-set s.hardware c x ∙ h.keeping;
      kept = all_set s.hardware c x k h.kept;
      unkept = λ d e. bare d (eqb d c) refl e;
    }
  where
    bare : (d : ℕ) (b : Bool) → eqb d c ≡ b → is_initialised (get_or (set s.links c l) d Closed) ≡ false
        → get_or (set s.hardware c x) d no_hardware ≡ no_hardware
    bare d true f e =
        let i = eqb-true d c f in
        let g : is_initialised l ≡ false = rw (get_or-set_same s.links c l Closed (omega (arith, h.four))) at (rw i at e) in
        rw i (get_or-set_same s.hardware c x no_hardware (omega (arith, h.keeping)) ∙ n g)
    bare d false f e =
        let m = eqb-false d c f in
        let g : is_initialised (link_of d s) ≡ false = rw (get_or-set_other s.links c d l Closed m) at e in
        get_or-set_other s.hardware c d x no_hardware m ∙ h.unkept d g

    go : (d : ℕ) (b : Bool) → eqb d c ≡ b → is_open (get_or (set s.links c l) d Closed) ≡ false → held_count q (of d) ≡ 0
    go d true f e =
        let i = eqb-true d c f in
        let g : is_open l ≡ false = rw (get_or-set_same s.links c l Closed (omega (arith, h.four))) at (rw i at e) in
        rw i (own g)
    go d false f e =
        let n = eqb-false d c f in
        let g : is_open (link_of d s) ≡ false = rw (get_or-set_other s.links c d l Closed n) at e in
        omega (arith, others d n, h.shut d g)

linking-queue : (s : Splicer) (q : Queue) → Linking s → ((d : ℕ) → is_open (link_of d s) ≡ false
    → held_count q (of d) ≤ held_count s.queue (of d)) → Linking (with_queue q s)
linking-queue s q h le =
    record {
      four = h.four;
      shut = λ d e. omega (arith, le d e, h.shut d e);
      zeros = h.zeros;
      short = h.short;
      bytes = h.bytes;
      keeping = h.keeping;
      kept = h.kept;
      unkept = h.unkept;
    }

-- opening leaves what is kept: nothing
linking-open : (s : Splicer) (c : ℕ) → c ≤ 3 → is_open (link_of c s) ≡ false → Linking s → Linking (with_link c Opened s)
linking-open s c low e h =
    let k = linking-set s s.queue c Opened (hardware_of c s) low h (λ f. absurd (clash true refl f)) (λ d n. omega arith)
    (structure-at c s.hardware h.kept) (λ f. h.unkept c (shut-off (link_of c s) e)) in
    let same : set s.hardware c (hardware_of c s) ≡ s.hardware = set-get_or s.hardware c no_hardware in
    record {
      four = k.four;
      shut = k.shut;
      zeros = k.zeros;
      short = k.short;
      bytes = k.bytes;
      keeping = h.keeping;
      kept = h.kept;
      unkept = λ d f. ap (λ (l : List (List ℕ)). get_or l d no_hardware) (sym same) ∙ k.unkept d f;
    }
  where
    shut-off : (l : Link) → is_open l ≡ false → is_initialised l ≡ false
    shut-off Closed f = refl
    shut-off Opened f = refl
    shut-off Initialised f = f

pub linking-kept : Kept Wired Linking
unfolding requested session_at closed_by cancelled
linking-kept =
    record {
      opening = linking-open;
      naming = λ s c x n e h. linking-set s s.queue c Initialised x n.low h (λ f. absurd (clash true refl f)) (λ d m. omega arith)
          (named-whole n) (λ f. absurd (clash true refl f));
      closing = λ s c low e h. linking-set s (closed_by c s.queue).queue c Closed no_hardware low h (λ f. gone c s.queue)
          (λ d n. fewer-held (of d) s.queue _ (closed_by-fewer c s.queue))
          none-whole (λ f. refl);
      aborting = λ s c x low e a h. linking-queue s _ h (λ d f. fewer-held (of d) s.queue _ (aborted-fewer c x s.queue));
      accepting = λ s c r a h. linking-queue s _ h (λ d f. new s c r a.linked d f);
      ticking = λ s j until f b le h. let k = linking-queue s (run_all s.clock until s.queue).queue h
          (λ d e. held-tick (of d) (λ e u. refl) s.clock until s.queue) in
          record {
            four = k.four;
            shut = k.shut;
            zeros = k.zeros;
            short = k.short;
            bytes = k.bytes;
            keeping = k.keeping;
            kept =
                k.kept;
            unkept = k.unkept;
          };
    }
  where
    gone : (c : ℕ) (q : Queue) → held_count (closed_by c q).queue (of c) ≡ 0
    gone c q = omega (arith, count-omitted (of c) q.waiting, count-omitted (of c) q.started)

    new : (s : Splicer) (c : ℕ) (r : Request) → is_open (link_of c s) ≡ true → (d : ℕ) → is_open (link_of d s) ≡ false
        → held_count (accepted (requested c r s.queue) s.queue).queue (of d) ≤ held_count s.queue (of d)
    new s c r e d f =
        let n = requested c r s.queue in
        let z : eqb d c ≡ false = ne_eqb d c (λ i. clash (is_open (link_of c s)) e (rw i at f)) in
        omega (arith, held-accepted (of d) n s.queue, ap bit z, fewer-held (of d) s.queue _ (evicted-fewer n.start.0 s.queue))

pub linking-fresh : (name : List ℕ) → length name ≡ 32 → All Byte name → Linking (fresh name).splicer
unfolding fresh named
linking-fresh name e a =
    by (λ (k : Called). Linking k.splicer) (has_zero name) _ _
    (λ z. record {
      four = refl;
      shut = λ c f. refl;
      zeros = name_in-zero name;
      short = omega (arith, name_in-shorter name z);
      bytes =
          name_in-byte name a;
      keeping = refl;
      kept = all_none;
      unkept = λ c f. none_kept c;
    })
    (λ z. record {
      four = refl;
      shut = λ c f. refl;
      zeros = refl;
      short = omega arith;
      bytes = tt;
      keeping = refl;
      kept = all_none;
      unkept =
          λ c f. none_kept c;
    })
  where
    all_none : All Structure (no_hardware ∷ no_hardware ∷ no_hardware ∷ no_hardware ∷ [])
    all_none = (none-whole, (none-whole, (none-whole, (none-whole, tt))))

    none_kept : (c : ℕ) → get_or (no_hardware ∷ no_hardware ∷ no_hardware ∷ no_hardware ∷ []) c no_hardware ≡ no_hardware
    none_kept zero = refl
    none_kept (suc zero) = refl
    none_kept (suc (suc zero)) = refl
    none_kept (suc (suc (suc zero))) = refl
    none_kept (suc (suc (suc (suc c)))) = refl
