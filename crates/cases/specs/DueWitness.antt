-- The premises of docs/DEMANDS.md, "Premises", that speak of the reads for drivers, each met after calls with concrete bytes: the theorems
-- speak of something. Rests on computing alone.
use Rattle.std.specs.Prelude.{◌≡◌, refl, List, [], ◌∷◌, ℕ, ◌≤◌, ◌<◌, length, get_or, replicate}
use Rattle.std.proofs.Common.{sym, ap, subst, ◌∙◌, arith}
use Rattle.std.proofs.lemmas.List.{length-replicate}
use Rattle.rules.specs.State.{Splicer, due}
use Rattle.rules.specs.Calls.{due_row}
use Rattle.rules.specs.Rolling.{at, step_of, step_row}
use Rattle.demands.specs.Due.{time_in, Before, NotBefore, step_from}
use Rattle.cases.specs.Computing.{computing}
use Rattle.cases.specs.Rehearsed.{sent, from, init_of, asks, timed, to, card, plays, up, ready}

-- clock 1,000 s, and nothing is held
unfoldable pub idle : Splicer
idle = (plays ready card).splicer

-- and then a request for 1,010 s has come
unfoldable pub waits : Splicer
waits = (plays (timed 0 1 1010 0 1 0 90000 ∷ []) (plays ready card)).splicer

unfoldable working : ℕ
unfolding sent from init_of asks timed to card plays up ready computing idle waits
working = 0

-- ## When a tick would do anything

row : due_row (due waits.queue) ≡ 2 ∷ 9090000000 ∷ 1010 ∷ 0 ∷ []
unfolding working due_row
row = refl

pub due-by-a-tick : get_or (due_row (due waits.queue)) 0 0 ≡ 2
due-by-a-tick = ap (λ (v : List ℕ). get_or v 0 0) row

pub due-never : get_or (due_row (due idle.queue)) 0 0 ≤ 1
unfolding working due_row
due-never = omega arith

pub a-tick-before : Before (due_row (due waits.queue)) (time_in 1009 999999)
a-tick-before = subst (λ (v : List ℕ). Before v (time_in 1009 999999)) (sym row) (λ h. omega arith)

pub a-tick-from : NotBefore (due_row (due waits.queue)) (time_in 1010 0)
a-tick-from = subst (λ (v : List ℕ). NotBefore v (time_in 1010 0)) (sym row) (omega arith, omega arith)

pub low-micros : 0 ≤ 999999
low-micros = omega arith

abbrev buffer : List ℕ
buffer = replicate 4096 0

pub long-buffer : 4096 ≤ length buffer
long-buffer = let zero : ℕ = 0 in omega (arith, length-replicate 4096 zero)

-- ## When a reading would: the last good one was 7

steps : step_row (at 7) waits.clock (due waits.queue) ≡ 1 ∷ 900000 ∷ []
unfolding working step_row
steps = refl

pub due-by-a-reading : get_or (step_row (at 7) waits.clock (due waits.queue)) 0 0 ≡ 1
due-by-a-reading = ap (λ (v : List ℕ). get_or v 0 0) steps

one_less : step_from (at 7) 900006 ≡ 899999
unfolding step_from step_of
one_less = refl

so-many : step_from (at 7) 900007 ≡ 900000
unfolding step_from step_of
so-many = refl

pub a-reading-before : Before (step_row (at 7) waits.clock (due waits.queue)) (step_from (at 7) 900006)
a-reading-before = subst (λ (v : List ℕ). Before v (step_from (at 7) 900006)) (sym steps) (λ h. omega (arith, one_less))

pub a-reading-from : NotBefore (step_row (at 7) waits.clock (due waits.queue)) (step_from (at 7) 900007)
a-reading-from = subst (λ (v : List ℕ). NotBefore v (step_from (at 7) 900007)) (sym steps) (omega arith, omega (arith, so-many))

pub after-so-many : step_from (at 7) 900007 ≡ get_or (step_row (at 7) waits.clock (due waits.queue)) 1 0
after-so-many = so-many ∙ sym (ap (λ (v : List ℕ). get_or v 1 0) steps)

pub after_fewer : step_from (at 7) 900006 < get_or (step_row (at 7) waits.clock (due waits.queue)) 1 0
after_fewer = omega (arith, one_less, ap (λ (v : List ℕ). get_or v 1 0) steps)
