-- A verdict for each request that was accepted: the session, and how it stands. In no order, nothing moved or removed.
use Rattle.std.specs.Prelude.{◌≡◌, Bool, true, false, not, ◌&&◌, List, [], ◌∷◌, ◌++◌, ℕ, zero, suc, ◌≤◌, eqb, get_or, set}
use Rattle.rules.specs.declared.Ending.{Ending}
use Rattle.rules.specs.declared.Session.{Session}
use Rattle.rules.specs.declared.Past.{Past}
use Rattle.rules.specs.Units.{to_ticks}
use Rattle.rules.specs.Lists.{put, some, count, place}
use Rattle.rules.specs.State.{Queue, empty}
use Rattle.rules.specs.Recent.{most_kept, unused, none_ended, remembered_all}
use Rattle.rules.specs.Records.{result_of}
use Rattle.rules.specs.Ends.{ended}
pub use Rattle.recall_rules.specs.declared.Phase.{Phase}
pub use Rattle.recall_rules.specs.declared.Phase.TheVariants.{Out, Waits, Started, Ended}
pub use Rattle.recall_rules.specs.declared.Verdict.{Verdict}

abbrev pub is_waiting : Phase → Bool
is_waiting Out = false
is_waiting Waits = true
is_waiting Started = false
is_waiting (Ended n r) = false

abbrev pub has_started : Phase → Bool
has_started Out = false
has_started Waits = false
has_started Started = true
has_started (Ended n r) = false

-- "Held means waiting, on air or covered."
abbrev pub is_held : Phase → Bool
is_held Out = false
is_held Waits = true
is_held Started = true
is_held (Ended n r) = false

abbrev pub has_ended : Phase → Bool
has_ended Out = false
has_ended Waits = false
has_ended Started = false
has_ended (Ended n r) = true

abbrev pub verdict : Phase → Session → Verdict
verdict f s = record { phase = f; session = s }

abbrev pub none : Verdict
none = verdict Out empty

-- the sessions that stand so, in the order of their calls
abbrev pub standing : (Phase → Bool) → List Verdict → List Session
standing h [] = []
standing h (v ∷ l) = put (h v.phase) v.session (standing h l)

abbrev pub stands : (Phase → Bool) → (Session → Bool) → Verdict → Bool
stands h p v = h v.phase && p v.session

-- the first call whose session stands so and passes the test, or the length
abbrev pub which : (Phase → Bool) → (Session → Bool) → List Verdict → ℕ
which h p l = place (stands h p) l

-- the session of call i
abbrev pub session_of : List Verdict → ℕ → Session
session_of l i = (get_or l i none).session

-- the session of call i stands so from now on
abbrev pub turned : ℕ → Phase → List Verdict → List Verdict
turned i f l = set l i (verdict f (session_of l i))

-- how many have ended
abbrev pub ends : List Verdict → ℕ
ends l = count (λ v. has_ended v.phase) l

-- s ends so, the next of all ends; the result is that of its record
abbrev pub as_ended : Ending → Session → List Verdict → Phase
as_ended e s l = Ended (ends l) (result_of (ended e s))

-- the session of call i ends so
abbrev pub over : Ending → ℕ → List Verdict → List Verdict
over e i l = turned i (as_ended e (session_of l i) l) l

-- s passes p, and none that stands so and passes p comes before it
abbrev pub first : (Phase → Bool) → (Session → Session → Bool) → (Session → Bool) → List Verdict → Session → Bool
first h before p l s = p s && not (some (λ u. p u && before u s) (standing h l))

-- ## 02, CR 8: what ended lately, by the numbers of the ends

-- the end of number n, the first being 0
abbrev pub is_end : ℕ → Phase → Bool
is_end n Out = false
is_end n Waits = false
is_end n Started = false
is_end n (Ended m r) = eqb n m

abbrev pub ended_as : ℕ → Verdict → Bool
ended_as n v = is_end n v.phase

abbrev pub result_in : Phase → ℕ
result_in Out = 0
result_in Waits = 0
result_in Started = 0
result_in (Ended n r) = r

-- "connection, SessionID, SpliceEventID, result, PlayedDuration (0 if never on air)"
abbrev pub past_of : Verdict → Past
past_of v =
    let s = v.session in
    record { conn = s.conn; id = s.id; event = s.event; result = result_in v.phase; played = (to_ticks s.played).0 }

-- what is told of the end of number n
abbrev pub nth_end : ℕ → List Verdict → Past
nth_end n l = past_of (get_or l (place (ended_as n) l) none)

-- "from the newest down": k of them, from the one before number n
unfoldable pub lately_from : (k n : ℕ) → List Verdict → List Past
lately_from zero n l = []
lately_from (suc k) zero l = unused ∷ lately_from k zero l
lately_from (suc k) (suc n) l = nth_end n l ∷ lately_from k n l

-- "the last 16 ended sessions": the ended verdicts with the latest ends
abbrev pub recent : List Verdict → List Past
recent l = lately_from most_kept (ends l) l

-- ## The tie to the two ordered lists, and to what is kept of those that ended

-- the ends of numbers below n, from the first
abbrev pub ends_below : ℕ → List Verdict → List Past
ends_below zero l = []
ends_below (suc n) l = ends_below n l ++ (nth_end n l ∷ [])

abbrev pub pasts : List Verdict → List Past
pasts l = ends_below (ends l) l

-- no number is given that is not below the number of ends
abbrev pub Numbered : List Verdict → Type 0
Numbered l = (n : ℕ) → ends l ≤ n → count (ended_as n) l ≡ 0

-- the same sessions, in any order: as many pass each test
abbrev pub Same : List Session → List Session → Type 0
Same l m = (p : Session → Bool) → count p l ≡ count p m

pub record Shows (l : List Verdict) (q : Queue) : Type 0 where
  pub waiting : Same (standing is_waiting l) q.waiting
  pub started : Same (standing has_started l) q.started
  pub lately : q.lately ≡ remembered_all (pasts l) none_ended
  pub numbered : Numbered l
