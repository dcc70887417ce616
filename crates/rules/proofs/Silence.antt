-- 02, CR 13: how much of a tick is the primary channel's: an instant at a time, never cut short, never more than the tick. Assumes nothing.
use mathlib.Core.Path.{◌≡◌, refl, ap, sym, ◌∙◌}
use mathlib.Core.List.{List, [], ◌∷◌}
use Prim.Native.Nat.{ℕ, zero, suc, ◌+◌, ◌-◌, ◌≤◌}
use native.Mathlib.Omega.{arith}
use Rattle.rules.specs.declared.Ninths.{Ninths}
use Rattle.rules.specs.declared.Session.{Session}
use Rattle.rules.specs.State.{Queue, due, not_after, to_come}
use Rattle.rules.specs.Instants.{elapse, silence, silent, silent_all}
use Rattle.rules.specs.Follows.Sound.{OnTime}
use Rattle.rules.proofs.Tick.{due-first, due-time, due-meets, elapse-due, moved, moved-less, due-none, by_next}
use Rattle.rules.proofs.Timed.{instant-timed, elapse-timed, meets-after}
use Rattle.std.specs.Prelude.{None, Option, Some}

-- ## The definition, an instant at a time

pub silent-stop : (n now until : ℕ) (q : Queue) → not_after until (due q) ≡ None → silent n now until q ≡ silence (until - now) q.started
unfolding silent
silent-stop zero now until q e = refl
silent-stop (suc n) now until q e = rw e

pub silent-more : (n now until : ℕ) (t : Ninths) (q : Queue) → not_after until (due q) ≡ Some t
    → silent (suc n) now until q ≡ silence (t.0 - now) q.started + silent n t.0 until (moved now t.0 q).queue
unfolding silent
silent-more n now until t q e = rw e

-- ## More instants change nothing

silent-enough : (m n now until : ℕ) (q : Queue) → to_come q ≤ m → to_come q ≤ n → silent m now until q ≡ silent n now until q
silent-enough zero n now until q f g = let e : not_after until (due q) ≡ None = rw (due-none q f) in
    silent-stop zero now until q e ∙ sym (silent-stop n now until q e)
silent-enough (suc m) zero now until q f g = let e : not_after until (due q) ≡ None = rw (due-none q g) in
    silent-stop (suc m) now until q e ∙ sym (silent-stop zero now until q e)
silent-enough (suc m) (suc n) now until q f g = go (not_after until (due q)) refl (λ t. silent-enough m n t until (moved now t q).queue)
  where
    go : (a : Option Ninths) → not_after until (due q) ≡ a
        → ((t : ℕ) → to_come (moved now t q).queue ≤ m → to_come (moved now t q).queue ≤ n
        → silent m t until (moved now t q).queue ≡ silent n t until (moved now t q).queue)
        → silent (suc m) now until q ≡ silent (suc n) now until q
    go (Some t) e ih =
        let l = moved-less now until t q e in
        silent-more m now until t q e ∙ ap (λ (d : ℕ). silence (t.0 - now) q.started + d) (ih t.0 (omega arith) (omega arith))
        ∙ sym (silent-more n now until t q e)
    go None e ih = silent-stop (suc m) now until q e ∙ sym (silent-stop (suc n) now until q e)

-- of a tick, as code goes through it: behind the last instant, and from one instant to the next
module _ (now until : ℕ) (q : Queue) where
  pub silent_all-stop : not_after until (due q) ≡ None → silent_all now until q ≡ silence (until - now) q.started
  unfolding silent_all
  silent_all-stop e = silent-stop (to_come q) now until q e

  pub silent_all-more : (t : Ninths) → not_after until (due q) ≡ Some t
      → silent_all now until q ≡ silence (t.0 - now) q.started + silent_all t.0 until (moved now t.0 q).queue
  unfolding silent_all
  silent_all-more t e =
      let n = to_come q in
      let u = (moved now t.0 q).queue in
      let l = moved-less now until t q e in
      silent-enough n (suc n) now until q (omega arith) (omega arith) ∙ silent-more n now until t q e
      ∙ ap (λ (d : ℕ). silence (t.0 - now) q.started + d) (silent-enough n (to_come u) t.0 until u (omega arith) (omega arith))

-- ## Of a tick no more than its length is the primary channel's

pub silence-most : (d : ℕ) (k : List Session) → silence d k ≤ d
silence-most d [] = omega arith
silence-most d (s ∷ k) = omega arith

silent-most : (n now until : ℕ) (q : Queue) → now ≤ until → OnTime now q → silent n now until q ≤ until - now
unfolding silent
silent-most zero now until q le h = silence-most (until - now) q.started
silent-most (suc n) now until q le h =
    by_next (λ (d : ℕ). d ≤ until - now) _ _ (not_after until (due q))
    (λ t e. let m = meets-after now t.0 q h (due-meets until t q e) in
    let o = instant-timed t.0 now (elapse (t.0 - now) q) (elapse-timed now (t.0 - now) q h)
    (elapse-due t.0 (t.0 - now) q (due-first until t q e)) in
    let i = due-time until t q e in
    omega (arith, silence-most (t.0 - now) q.started, silent-most n t.0 until (moved now t.0 q).queue i o))
    (λ e. silence-most (until - now) q.started)

pub silent_all-most : (now until : ℕ) (q : Queue) → now ≤ until → OnTime now q → silent_all now until q ≤ until - now
unfolding silent_all
silent_all-most now until q le h = silent-most (to_come q) now until q le h
