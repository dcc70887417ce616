-- What a scan looks for, and in which order.
use Rattle.std.specs.Prelude.{Bool, true, cond, not, ◌&&◌, ◌||◌, List, ℕ, Option, Some, None, ltb, length, get_or}
use Rattle.rules.specs.declared.Session.{Session}
use Rattle.rules.specs.State.{of, is, follows, starts_at, starts_after, ends_at}
use Rattle.recall_rows.specs.declared.Stand.{Stand}
use Rattle.recall_rows.specs.declared.Stand.TheVariants.{Waiting, Started, Held, Ended}
use Rattle.recall_rows.specs.declared.Test.{Test}
use Rattle.recall_rows.specs.declared.Test.TheVariants.{Any, Of, Is, Follows, StartsAt, StartsAfter, EndsAt, Unranked}
use Rattle.recall_rows.specs.declared.Order.{Order}
use Rattle.recall_rows.specs.declared.Order.TheVariants.{Highest, Earliest, Ending}
use Rattle.recall_rules.specs.declared.Phase.{Phase}
use Rattle.recall_rules.specs.declared.Verdict.{Verdict}
use Rattle.recall_rules.specs.Verdicts.{is_waiting, has_started, is_held, has_ended, none, stands, which, session_of, first}
use Rattle.recall_rules.specs.Work.{earlier, higher}

abbrev pub stand_test : Stand → Phase → Bool
stand_test Waiting = is_waiting
stand_test Started = has_started
stand_test Held = is_held
stand_test Ended = has_ended

abbrev pub session_test : Test → Session → Bool
session_test Any = λ s. true
session_test (Of c) = of c
session_test (Is c x) = is c x
session_test (Follows c x) = follows c x
session_test (StartsAt t) = starts_at t
session_test (StartsAfter t) = starts_after t
session_test (EndsAt t) = ends_at t
-- check d: the same start, and not below the rank
session_test (Unranked t rank) = λ s. starts_at t s && not (ltb s.access rank)

-- who is looked through in an order
abbrev pub order_stand : Order → Phase → Bool
order_stand Highest = has_started
order_stand Earliest = is_waiting
order_stand Ending = has_started

abbrev pub order_test : Order → Session → Session → Bool
order_test Highest = higher
order_test Earliest = earlier
order_test Ending = λ u s. ltb u.end.0 s.end.0

-- a place in the list; its length is none
abbrev pub place_in : {A : Type 0} → List A → ℕ → Option ℕ
place_in l i = cond (ltb i (length l)) (Some i) None

-- the place that an option names, or the length
abbrev pub or_length : {A : Type 0} → List A → Option ℕ → ℕ
or_length l None = length l
or_length l (Some i) = i

-- of those that are looked through and pass the test, the first call that none comes before, or the length
abbrev pub first_in : Order → Test → List Verdict → ℕ
first_in o t l = which (order_stand o) (first (order_stand o) (order_test o) (session_test t) l) l

-- call i is one, and comes before the call `best`, if that is any
abbrev pub is_better : Order → Test → List Verdict → (i best : ℕ) → Bool
is_better o t l i best =
    stands (order_stand o) (session_test t) (get_or l i none)
    && (not (ltb best (length l)) || order_test o (session_of l i) (session_of l best))
