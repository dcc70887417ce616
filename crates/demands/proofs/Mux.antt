-- 02, CR 5: what is read of the one on air is what the request last accepted under its number asked, and lies in its range.
-- Rests on Book (a session held is as its entry says) and on what is known of every splicer from fresh.
use mathlib.Core.Path.{◌≡◌, refl, sym}
use mathlib.Core.List.{List, [], ◌∷◌}
use Prim.Native.Nat.{◌≤◌}
use native.Mathlib.Omega.{arith}
use Rattle.rules.specs.declared.Session.{Session}
use Rattle.rules.specs.Lists.{All}
use Rattle.rules.specs.State.{Splicer}
use Rattle.rules.specs.Answers.{air_mux}
use Rattle.rules.specs.Follows.Sound.{Each, Proper}
use Rattle.rules.proofs.All.{all-into}
use Rattle.demands.specs.History.{Event, Entry, book}
use Rattle.demands.specs.Told.{FromFresh, air_mux_told, MuxInRange}
use Rattle.demands.proofs.Room.{from-sound}
use Rattle.demands.proofs.Book.{Dated}
use Rattle.demands.proofs.Once.{book-told}

on-air : (k : List Session) (es : List Entry) → All (Dated es) k → air_mux k ≡ air_mux_told k es
unfolding air_mux air_mux_told
on-air [] es d = refl
on-air (air ∷ k) es d = sym d.0.1

pub air-told : (h : List Event) (s : Splicer) → FromFresh h s → air_mux s.queue.started ≡ air_mux_told s.queue.started (book h [])
air-told h s f = on-air s.queue.started (book h []) (book-told h s f).dated.started

pub held-in-range : (h : List Event) (s : Splicer) → FromFresh h s → Each MuxInRange s.queue
held-in-range h s f =
    let p = (from-sound h s f).holding.proper in
    record {
      waiting = all-into Proper MuxInRange (λ s g. g.mux) s.queue.waiting p.waiting;
      started = all-into Proper MuxInRange (λ s g. g.mux) s.queue.started p.started;
    }

air-range : (k : List Session) → All MuxInRange k → (1 ≤ air_mux k) × (air_mux k ≤ 10)
unfolding air_mux
air-range [] a = (omega arith, omega arith)
air-range (air ∷ k) a = a.0

pub air-in-range : (h : List Event) (s : Splicer) → FromFresh h s → (1 ≤ air_mux s.queue.started) × (air_mux s.queue.started ≤ 10)
air-in-range h s f = air-range s.queue.started (held-in-range h s f).started
