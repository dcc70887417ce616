-- A good close, and the calls after it. Rests on demands' closed-stays-ended and ends-are-owed.
use mathlib.Core.Path.{◌≡◌, refl, sym, ap, ◌∙◌}
use mathlib.Core.Bool.{Bool, true, false, ◌&&◌}
use mathlib.Core.List.{List, [], ◌∷◌, ◌++◌}
use Prim.Native.Nat.{ℕ, ◌+◌, ◌≤◌, ◌<◌}
use native.Mathlib.Omega.{arith}
use lib.Dec.{eqb}
use lib.ListN.{length}
use borrow.Author.Tests.{ne_eqb, lt-leb}
use Rattle.rules.specs.Lists.{All, put, bit}
use Rattle.demands.specs.History.{Event, Entry, entry_is, waiting_count, book}
use Rattle.rules.proofs.Count.{count-append}
use Rattle.demands.specs.Told.{full_told, unended, entries_of, Stands}
use Rattle.demands.proofs.Demands as told
use Rattle.demands_engine.specs.Trace.{Memory, shown, a_close, Result, Made, made, Trace, events, calls, number}
use Rattle.demands_engine.proofs.Steps.{number_is}
use Rattle.demands_engine.proofs.Course.{events-append, led-heard, led-wired, trace-told, trace-point}

-- fewer than the reserved places are never a full queue
pub not_full : (c : ℕ) (h : List Event) → waiting_count c h < 10 → full_told c h ≡ false
unfolding full_told
not_full c h few = rw (ne_eqb (waiting_count c h) 20 (λ e. omega arith), lt-leb 10 (waiting_count c h) few)

module _ (name : List ℕ) (h g : List Made) (m : Memory) (d : ℕ) (e : List ℕ) (r : Result)
    (t : Trace name (h ++ (made (a_close d e) r ∷ g)) m) (z : number r ≡ 0) where
  pub closed-stands : Stands d (book (events (h ++ (made (a_close d e) r ∷ []))) []) (book (events (h ++ (made (a_close d e) r ∷ g))) [])
  closed-stands =
      let x = made (a_close d e) r in
      let p = trace-point name h (x ∷ g) m t in
      let b = p.here in
      let l = p.behind in
      let one = led-heard (x ∷ []) b r.memory (l.0, l.1, refl) in
      let all = led-heard (x ∷ g) b m l in
      rw (events-append h (x ∷ []), events-append h (x ∷ g), one, all)
      (told.closed-stays-ended (events h) (shown b) (trace-told name h b p.before) d (length e)
      (sym (number_is b (a_close d e) r l.1) ∙ z) (calls g) (led-wired g r.memory m l.2))

-- ## An end that is written later is of a newer session

module _ (c x : ℕ) where
  abbrev open-one : Entry → Bool
  open-one f = entry_is c x f && eqb f.ends 0

  -- it is of an entry of the connection
  unended-kept : (fs : List Entry) → unended c x fs ≤ unended c x (entries_of c fs)
  unended-kept [] = omega arith
  unended-kept (f ∷ fs) = go (eqb c f.conn) refl (unended-kept fs)
    where
      go : (b : Bool) → eqb c f.conn ≡ b → unended c x fs ≤ unended c x (entries_of c fs)
          → bit ((b && eqb x f.id) && eqb f.ends 0) + unended c x fs ≤ unended c x (put b f (entries_of c fs))
      go true q ih = rw q (omega arith)
      go false q ih = omega arith

  unended-none : (es : List Entry) → All (λ f. f.ends ≡ 1) es → unended c x es ≡ 0
  unended-none [] a = refl
  unended-none (f ∷ es) a = rw a.0 (go (entry_is c x f) (unended-none es a.1))
    where
      go : (b : Bool) → unended c x es ≡ 0 → bit (b && false) + unended c x es ≡ 0
      go true ih = omega arith
      go false ih = omega arith

  pub unended-newer : (es fs : List Entry) (s : Stands c es fs) → unended c x fs ≤ unended c x s.newer
  unended-newer es fs s =
      let all = count-append open-one s.newer (entries_of c es) in
      omega (arith, unended-kept fs, ap (unended c x) s.same, unended-none (entries_of c es) s.ended)
