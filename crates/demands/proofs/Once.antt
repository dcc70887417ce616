-- "No accepted session gets a second end, and each gets exactly one end", from the answers' bytes, after every sequence of calls.
-- Rests on Book, on Sound (all that is held ends after the clock) and on the bytes giving back their records.
use mathlib.Core.Path.{◌≡◌, refl, ap, ◌∙◌}
use mathlib.Core.Bool.{Bool, true, false, cond}
use mathlib.Core.List.{List, [], ◌∷◌}
use Prim.Native.Nat.{ℕ, zero, suc, ◌+◌, ◌≤◌, ◌<◌}
use native.Mathlib.Omega.{arith}
use Rattle.rules.specs.Lists.{All}
use Rattle.rules.specs.Bytes.{has_zero}
use Rattle.rules.specs.State.{Splicer, is, held, holds}
use Rattle.rules.specs.HouseNumbers.{Called}
use Rattle.rules.specs.Calls.{ticked, Call, call, after, named, fresh}
use Rattle.demands.specs.History.{Event, Entry, entry_is, last_told, end_told, reply_of, history, book, clock_replied, clock_after}
use Rattle.rules.specs.Follows.Sound.{held_count}
use Rattle.rules.proofs.Tests.{by, clash, eqb_same}
use Rattle.rules.proofs.All.{all-into}
use Rattle.rules.proofs.Count.{some-none}
use Rattle.rules.proofs.Timed.{ends_held, end_of-held}
use Rattle.rules.proofs.Sessions.{count_held}
use Rattle.rules.proofs.Sound.{sound-fresh}
use Rattle.demands.proofs.Heard.{book-found}
use Rattle.demands.specs.Told.{FromFresh, Ended}
use Rattle.demands.proofs.Cases.{cases}
use Rattle.demands.proofs.Room.{from-sound}
use Rattle.demands.proofs.Book.{Settled, Owed, Booked, told-end, booked-always, booked-fresh}

-- ## The clock is the last good tick's

pub call-clock : (s : Splicer) (k : Call) → clock_replied k (reply_of (call k s).answer) s.clock ≡ (call k s).splicer.clock
unfolding clock_replied ticked
call-clock s =
    cases s (λ k r. clock_replied k (reply_of r.answer) s.clock ≡ r.splicer.clock) (record {
      refusing = λ k n. refl;
      opening = λ c low e. refl;
      closing = λ c room low e. refl;
      saying = λ c l loans n rs e p. refl;
      naming = λ c l loans n r hw e p. refl;
      aborting = λ c l loans n x e i. refl;
      declining = λ c l loans n r e y o. refl;
      accepting = λ c l loans n r e f p. refl;
      ticking = λ seconds micros room le. refl;
      moving = λ until room le. refl;
      cueing = λ l pts seconds micros room rs p. refl;
    })

clock-after : (ks : List Call) (s : Splicer) → clock_after (history ks s) s.clock ≡ (after ks s).clock
unfolding clock_after history after
clock-after [] s = refl
clock-after (k ∷ ks) s = ap (clock_after (history ks (call k s).splicer)) (call-clock s k) ∙ clock-after ks (call k s).splicer

pub fresh-clock : (name : List ℕ) → (fresh name).splicer.clock ≡ 0
unfolding fresh named
fresh-clock name = by (λ (r : Called). r.splicer.clock ≡ 0) (has_zero name) _ _ (λ e. refl) (λ e. refl)

pub clock-told : (h : List Event) (s : Splicer) → FromFresh h s → clock_after h 0 ≡ s.clock
clock-told h s f = rw (f.heard, f.same, ← (fresh-clock f.name)) (clock-after f.calls (fresh f.name).splicer)

-- ## The book of a history

pub book-told : (h : List Event) (s : Splicer) → FromFresh h s → Booked s.queue (book h [])
book-told h s f =
    let first = (fresh f.name).splicer in
    rw (f.heard, f.same, book-found f.calls first [] f.wired (sound-fresh f.name f.whole f.bytes))
    (booked-always f.calls first [] (booked-fresh f.name))

-- n sessions of the number are held
module _ (now c x n : ℕ) where
  fates : (es : List Entry) → (n ≡ 1 → now < end_told c x es) → Owed c x n es → All (λ e. entry_is c x e ≡ true → Ended now e) es
  unfolding last_told
  fates [] h f = tt
  fates (e ∷ es) h f = go (entry_is c x e) refl h f (fates es)
    where
      late : (k : ℕ) → k + n ≡ 1 → (n ≡ 1 → now < e.end) → e.end ≤ now → k ≡ 1
      late zero f h l = absurd (omega (arith, h (omega arith)))
      late (suc k) f h l = omega arith

      go : (b : Bool) → entry_is c x e ≡ b → (n ≡ 1 → now < cond b e.end (end_told c x es))
          → cond {A = Type 0} b ((e.ends + n ≡ 1) × (e.closed ≡ true → n ≡ 0) × Settled c x es) (Owed c x n es)
          → ((n ≡ 1 → now < end_told c x es) → Owed c x n es → All (λ u. entry_is c x u ≡ true → Ended now u) es)
          → (entry_is c x e ≡ true → Ended now e) × All (λ u. entry_is c x u ≡ true → Ended now u) es
      go true k h f ih = (
        (λ i. record { once = omega (arith, f.0); by_time = λ l. late e.ends f.0 h l; by_close = λ l. omega (arith, f.0, f.1 l) }),
        all-into (λ u. entry_is c x u ≡ true → u.ends ≡ 1) (λ u. entry_is c x u ≡ true → Ended now u)
            (λ u s i. let j = s i in record { once = omega arith; by_time = λ l. j; by_close = λ l. j }) es f.2,
      )
      go false k h f ih = ((λ i. absurd (clash (entry_is c x e) i k)), ih h f)

-- a fact of each number's entries is one of each entry
each-own : (P : Entry → Type 0) (es : List Entry) → ((c x : ℕ) → All (λ e. entry_is c x e ≡ true → P e) es) → All P es
each-own P [] h = tt
each-own P (e ∷ es) h = ((h e.conn e.id).0 (rw (eqb_same e.conn, eqb_same e.id)), each-own P es (λ c x. (h c x).1))

pub all-ended : (h : List Event) (s : Splicer) → FromFresh h s → All (Ended (clock_after h 0)) (book h [])
all-ended h s f =
    rw (clock-told h s f)
    (each-own (Ended s.clock) (book h []) (λ c x. fates s.clock c x (held_count s.queue (is c x)) (book h []) (held-late c x)
    (b.owed c x)))
  where
    b : Booked s.queue (book h [])
    b = book-told h s f

    is-held : (c x : ℕ) (k : Bool) → holds c x s.queue ≡ k → held_count s.queue (is c x) ≡ 1 → k ≡ true
    is-held c x true e n = refl
    is-held c x false e n = absurd (omega (arith, some-none (is c x) (held s.queue) e, count_held (is c x) s.queue))

    held-late : (c x : ℕ) → held_count s.queue (is c x) ≡ 1 → s.clock < end_told c x (book h [])
    held-late c x n =
        let e = is-held c x (holds c x s.queue) refl n in
        rw (told-end c x s.queue (book h []) b.dated e)
        (end_of-held (λ m. s.clock < m) c x s.queue e (ends_held s.clock s.queue (from-sound h s f).holding.timed))
