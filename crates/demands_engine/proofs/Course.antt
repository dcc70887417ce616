-- A whole trace: its events are the history of document 01's calls from a fresh splicer. By induction on the calls made, from Steps.
use mathlib.Core.Path.{◌≡◌, refl, ap, ◌∙◌}
use mathlib.Core.Bool.{false, cond}
use mathlib.Core.List.{List, [], ◌∷◌, ◌++◌}
use Prim.Native.Nat.{ℕ}
use Rattle.rules.specs.Lists.{All}
use Rattle.rules.specs.Bytes.{has_zero}
use Rattle.rules.specs.Calls.{fresh, Call, after}
use Rattle.demands.specs.History.{Reply, Event, history}
use Rattle.rules.specs.Follows.Sound.{Wired}
use Rattle.engine.specs.Lent.{Answer}
use Rattle.engine.specs.Lent.{Lent}
use Rattle.engine.proofs.Laws.{answers-same, fresh-refused}
use Rattle.demands.specs.Told.{FromFresh}
use Rattle.demands.proofs.Refusals as refusals
use Rattle.demands_engine.specs.Trace.{Memory, empty_memory, shown, Input, Typed, call_of, Result, Allowed, device, Made, made, Leads}
use Rattle.demands_engine.specs.Trace.{Trace, More, Point, event_of, events, calls, inputs, number_in}
use Rattle.demands_engine.proofs.Device as any
use Rattle.demands_engine.proofs.Steps.{wired, promised, replied, number_read, memory-same, step_same}

event-same : (k : Call) (x y : Reply) (h g : List Event) → x ≡ y → h ≡ g
    → ◌≡◌ {A = List Event} (record { call = k; reply = x } ∷ h) (record { call = k; reply = y } ∷ g)
event-same k x y h g e f = cc

-- the events of calls made one after the other
pub events-append : (h g : List Made) → events (h ++ g) ≡ events h ++ events g
events-append [] g = refl
events-append (x ∷ h) g = ap (λ l. event_of x ∷ l) (events-append h g)

-- ## The calls that led from one memory to another

pub led-wired : (h : List Made) (b m : Memory) → Leads b h m → All Wired (calls h)
led-wired = any.led-all device call_of Wired wired

pub led-heard : (h : List Made) (b m : Memory) → Leads b h m → events h ≡ history (calls h) (shown b)
unfolding history
led-heard [] b m l = refl
led-heard (x ∷ h) b m l =
    event-same (call_of x.input) _ _ _ _ (replied b x.input x.result l.1)
    (led-heard h x.result.memory m l.2 ∙ ap (history (calls h)) (promised b x.input x.result l.1).splicer)

pub led-shown : (h : List Made) (b m : Memory) → Leads b h m → shown m ≡ after (calls h) (shown b)
unfolding after
led-shown [] b m l = ap shown l
led-shown (x ∷ h) b m l =
    led-shown h x.result.memory m l.2 ∙ ap (after (calls h)) (promised b x.input x.result l.1).splicer

abbrev pub LentAt : Memory → Type 0
LentAt m = Lent m.words m.bytes

pub lent-next : (m : Memory) (i : Input) (r : Result) → LentAt m → Typed i → Allowed m i r → LentAt r.memory
lent-next m i r l t a = (promised m i r a).lent

-- ## Traces

-- what fresh leaves is determined
fresh-same : (name : List ℕ) (a c : Answer) (m n : Memory) → device.Begins name a m → device.Begins name c n → m ≡ n
fresh-same name a c m n f g =
    let s = answers-same (fresh name) 0 [] a c m.words m.bytes [] n.words n.bytes [] f g in
    memory-same m n s.1 s.2

module _ (name : List ℕ) where
  pub trace-lent : (h : List Made) (m : Memory) → Trace name h m → LentAt m
  trace-lent h m t = any.led-kept device LentAt lent-next h t.begun m t.fresh.lent t.leads

  pub trace-history : (h : List Made) (m : Memory) → Trace name h m
      → (events h ≡ history (calls h) (fresh name).splicer) × (shown m ≡ after (calls h) (fresh name).splicer)
  trace-history h m t =
      let b = t.begun in (
        led-heard h b m t.leads ∙ ap (history (calls h)) t.fresh.splicer,
        led-shown h b m t.leads ∙ ap (after (calls h)) t.fresh.splicer,
      )

  pub trace-told : (h : List Made) (m : Memory) → Trace name h m → FromFresh (events h) (shown m)
  trace-told h m t =
      let p = trace-history h m t in
      record {
        name = name;
        whole = t.whole;
        bytes = t.bytes;
        calls = calls h;
        wired = led-wired h t.begun m t.leads;
        heard = p.0;
        same = p.1;
      }

  pub trace-more : (h : List Made) (m : Memory) (i : Input) (r : Result) → More name h m i r → Trace name (h ++ (made i r ∷ [])) r.memory
  trace-more = any.trace-more device name

  pub trace-point : (h g : List Made) (m : Memory) → Trace name (h ++ g) m → Point name h g m
  trace-point = any.trace-point device name

  pub trace-same : (h g : List Made) (m n : Memory) → Trace name h m → Trace name g n → inputs h ≡ inputs g → (h ≡ g) × (m ≡ n)
  trace-same = any.trace-same device step_same fresh-same name

  -- ## Fresh

  module _ (h : List Made) (m : Memory) (t : Trace name h m) where
    pub fresh-number : number_in t.reply ≡ cond (has_zero name) 0 9
    fresh-number = rw t.fresh.answer (number_read (fresh name).answer (fresh name).moved ∙ refusals.fresh-number name)

    pub fresh-empty : has_zero name ≡ false → t.begun ≡ empty_memory
    fresh-empty z =
        let b = t.begun in
        let s = fresh-refused name t.reply b.words b.bytes [] t.whole t.bytes z t.fresh in
        memory-same b empty_memory s.1 s.2
