-- What theorems speak of beside the rules: the rolling card's calls as document 01's, descriptors one by one, the ranges of what is read.
-- By hand, with the numbers on both sides of each bound. Assumes nothing.
use Rattle.std.specs.Prelude.{◌≡◌, refl, true, false, List, [], ◌∷◌, ◌++◌, map, ℕ, length, replicate, None, Some}
use Rattle.std.proofs.Common.{arith}
use Rattle.rules.specs.declared.Start.TheVariants.{Timed, Linked}
use Rattle.rules.specs.declared.Message.TheVariants.{Init, Alive, Splice, Abort, Config, Extended}
use Rattle.rules.specs.declared.Refusal.TheVariants.{AlreadyOpen, NotOpen}
use Rattle.rules.specs.declared.Link.TheVariants.{Closed, Opened}
use Rattle.rules.specs.declared.Session.{Session}
use Rattle.rules.specs.Bytes.{padded}
use Rattle.rules.specs.State.{with_clock}
use Rattle.rules.specs.HouseNumbers.{refused, good, lending}
use Rattle.rules.specs.Calls.{fresh, opens, closes, messages, ticks, moves, cues}
use Rattle.rules.specs.Card.{card_name}
use Rattle.rules.specs.Rolling.{Rolling, at, RollingCall, known, instants, readings}
use Rattle.rules.specs.Rolling as rolling
use Rattle.rules.specs.Follows.Descriptors.{descriptors_in, cut, bytes_of, all_good, mux_values, last_or}
use Rattle.rules.specs.Follows.Asked.{Within, Reads}
use Rattle.rules.specs.Follows.Wires.{Sorted}
use Rattle.rules.specs.Follows.Sequences.{rolling_of, rolling_fresh, Timeless, rolled_after, as_calls, as_moves, roll_answers, RollWired}
use Rattle.cases.specs.Scenario.{hex}
use Rattle.cases.specs.Computing.{computing}

sequencing : ℕ
unfolding computing rolling.step_of rolling.instant_course rolling.step_course rolling.reading_course rolling.rolls rolling.instant_call
    rolling.reading_call rolling.roll cut bytes_of all_good mux_values last_or
sequencing = 0

-- ## 02, CR 9: "Its answers must be those of document 01 with the clock brought to the same instants in ninths"

-- 1,000 s at reading 5; a reading with too little room; one a tick on
some : List RollingCall
some =
    known (opens 0) ∷ known (opens 0) ∷ instants 1000 0 5 4096 ∷ readings 6 4095 ∷ known (closes 3 4096) ∷ readings 6 4096 ∷ known (opens 2)
    ∷ []

start : Rolling
start = rolling_of (rolling_fresh (padded card_name))

as-moves : as_moves some start
    ≡ opens 0 ∷ opens 0 ∷ moves 9000000000 4096 ∷ closes 3 4096 ∷ moves 9000000100 4096 ∷ opens 2 ∷ []
unfolding sequencing some start
as-moves = refl

answered : roll_answers some start ≡ good 0 [] ∷ refused AlreadyOpen ∷ good 0 [] ∷ refused NotOpen ∷ good 0 [] ∷ good 0 [] ∷ []
unfolding sequencing some start
answered = refl

after-all : (rolled_after some start).last ≡ at 6
unfolding sequencing some start
after-all = refl

links-after : (rolled_after some start).splicer.links ≡ Opened ∷ Closed ∷ Opened ∷ Closed ∷ []
unfolding sequencing some start
links-after = refl

-- the clock at 9,000, of which 100 ninths were the primary channel's
from-the-clock : as_calls (readings 6 4096) (record { splicer = with_clock 9000 100 (fresh (padded card_name)).splicer; last = at 5 })
    ≡ moves 9100 4096 ∷ []
unfolding sequencing
from-the-clock = refl

-- calls without a tick; Seconds and readings of four bytes
timeless : Timeless (opens 0) × Timeless (closes 0 0) × Timeless (messages 0 [] (lending 0)) × Timeless (cues [] 0 0 0 0)
timeless = (tt, tt, tt, tt)

not-timeless : (Timeless (ticks 0 0 0) → ⊥) × (Timeless (moves 0 0) → ⊥)
not-timeless = ((λ h. h), (λ h. h))

wired : RollWired (known (messages 0 (255 ∷ []) (lending 0))) × RollWired (instants 4294967295 0 4294967295 0)
    × RollWired (readings 4294967295 0)
wired = ((((omega arith, tt), tt, tt), tt), (omega arith, omega arith), omega arith)

not-wired : (RollWired (known (ticks 0 0 0)) → ⊥) × (RollWired (known (messages 0 (256 ∷ []) (lending 0))) → ⊥)
    × (RollWired (instants 4294967296 0 0 0) → ⊥) × (RollWired (instants 0 0 4294967296 0) → ⊥) × (RollWired (readings 4294967296 0) → ⊥)
not-wired = (
  (λ h. h.1),
  (λ h. omega (arith, h.0.0.0)),
  (λ h. omega (arith, h.0)),
  (λ h. omega (arith, h.1)),
  (λ h. omega (arith, h)),
)

-- ## "in order of start, no two alike"

session : ℕ → Session
session n =
    record {
      conn = 0;
      id = 0;
      prior = 0;
      start = record { 0 = n };
      end = record { 0 = 5 };
      access = 0;
      overrides = 0;
      mux = 0;
      event = 0;
      played = record { 0 = 5 };
    }

sorted : Sorted (session 1 ∷ session 2 ∷ session 9 ∷ [])
unfolding session
sorted = ((omega arith, (omega arith, tt)), ((omega arith, tt), (tt, tt)))

unsorted : (Sorted (session 2 ∷ session 2 ∷ []) → ⊥) × (Sorted (session 3 ∷ session 2 ∷ []) → ⊥)
    × (Sorted (session 1 ∷ session 3 ∷ session 2 ∷ []) → ⊥) × (Sorted (session 2 ∷ session 3 ∷ session 1 ∷ []) → ⊥)
unfolding session
unsorted = (
  (λ h. omega (arith, h.0.0)),
  (λ h. omega (arith, h.0.0)),
  (λ h. omega (arith, h.1.0.0)),
  (λ h. omega (arith, h.1.0.0)),
)

-- ## Descriptors one by one: two of six bytes with a muxpriority between them, then one of 130 and what is left

descriptors : List ℕ
descriptors = hex "0104 41424344 0205 53415049 07 0104 45464748" ++ (hex "0180" ++ (replicate 128 9 ++ hex "01"))

one_by_one : descriptors_in descriptors
    ≡ hex "0104 41424344" ∷ hex "0205 53415049 07" ∷ hex "0104 45464748" ∷ (hex "0180" ++ replicate 128 9) ∷ hex "01" ∷ []
unfolding sequencing descriptors
one_by_one = refl

none-of-none : map (λ l. length (descriptors_in l)) ([] ∷ (hex "017E" ++ replicate 126 9) ∷ (hex "01FE" ++ replicate 254 9) ∷ []) ≡ 0 ∷ 1
    ∷ 1 ∷ []
unfolding sequencing
none-of-none = refl

again : bytes_of ((1 ∷ 2 ∷ []) ∷ (3 ∷ []) ∷ (4 ∷ 5 ∷ []) ∷ []) ≡ 1 ∷ 2 ∷ 3 ∷ 4 ∷ 5 ∷ []
unfolding sequencing
again = refl

good-ones : map all_good
    ([] ∷ (hex "0104 41424344" ∷ hex "0104 41424344" ∷ []) ∷ (hex "0103 414243" ∷ hex "0104 41424344" ∷ [])
    ∷ (hex "0104 41424344" ∷ hex "0103 414243" ∷ []) ∷ []) ≡ true ∷ true ∷ false ∷ false ∷ []
unfolding sequencing
good-ones = refl

mux-values : mux_values (hex "0205 53415049 07" ∷ hex "0104 41424344" ∷ hex "0205 53415049 03" ∷ hex "0205 53415049 0A" ∷ []) ≡ 7 ∷ 3 ∷ 10
    ∷ []
unfolding sequencing
mux-values = refl

last_one : map (last_or 5) ([] ∷ (7 ∷ []) ∷ (7 ∷ 8 ∷ []) ∷ (7 ∷ 8 ∷ 9 ∷ []) ∷ []) ≡ 5 ∷ 7 ∷ 8 ∷ 9 ∷ []
unfolding sequencing
last_one = refl

-- ## What is known of every message that is read

within : Within (Timed (record { 0 = 4503599627370495 })) × Within (Linked 4294967294)
within = (omega arith, omega arith)

not_within : (Within (Timed (record { 0 = 4503599627370496 })) → ⊥) × (Within (Linked 4294967295) → ⊥)
not_within = ((λ h. omega (arith, h)), (λ h. omega (arith, h)))

reads : Reads (Some (Init 65535)) × Reads (Some Alive) × Reads (Some (Abort 4294967295)) × Reads (Some (Extended 4294967295))
    × Reads (Some Config) × Reads None
reads = (omega arith, tt, omega arith, omega arith, tt, tt)

not-reads : (Reads (Some (Init 65536)) → ⊥) × (Reads (Some (Abort 4294967296)) → ⊥) × (Reads (Some (Extended 4294967296)) → ⊥)
not-reads = ((λ h. omega (arith, h)), (λ h. omega (arith, h)), (λ h. omega (arith, h)))

far-number : Reads (Some (Splice (record {
  id = 4294967296;
  start = Linked 0;
  duration = record { 0 = 0 };
  event = 0;
  access = 0;
  overrides = 0;
  mux = 5;
}))) → ⊥
far-number h = omega (arith, h.id)
