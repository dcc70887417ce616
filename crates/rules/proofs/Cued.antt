-- 02, CR 7: what a cue call writes. What is shown of both records that a connection may get holds of all of them. Assumes nothing.
use mathlib.Core.Path.{◌≡◌}
use mathlib.Core.Bool.{Bool, true, false, not}
use mathlib.Core.List.{List, [], ◌∷◌, map}
use Prim.Native.Nat.{ℕ, ◌+◌, ◌*◌, ◌/◌, ◌≤◌, ◌<◌}
use native.Mathlib.Omega.{arith}
use lib.Dec.{eqb, ltb}
use lib.ListN.{length, get_or}
use borrow.Author.Tests.{ltb-false}
use Rattle.rules.specs.declared.Cue.{Cue}
use Rattle.rules.specs.declared.Cue.TheVariants.{At, Timeless, Silent, Bad}
use Rattle.rules.specs.declared.WireTime.{WireTime}
use Rattle.rules.specs.Lists.{put, keep}
use Rattle.rules.specs.declared.Link.{Link}
use Rattle.rules.specs.declared.Link.TheVariants.{Closed}
use Rattle.rules.specs.State.{is_initialised}
use Rattle.rules.specs.Units.{second, time_of, from_micros, to_micros}
use Rattle.rules.specs.Records.{Record, output}
use Rattle.rules.specs.Cues.{section_length, bad_section, exact_time, wire_time_of, cue_time, initialised_ones, passed_to, complained_to}
use Rattle.rules.specs.Cues.{cue_records}
use Rattle.rules.proofs.Tests.{by, or-none}
use Rattle.rules.proofs.All.{All}
use Rattle.rules.proofs.Records.{length-output}

-- ## The section, its time and who gets it

-- "under 20 or over 512" are refused
pub section-size : (l : List ℕ) → bad_section l ≡ false → (20 ≤ length l) × (length l ≤ 512)
section-size l e =
    let a = (or-none (not (eqb (length l) (3 + section_length l))) _ e).1 in
    let b = or-none (ltb (length l) 20) (ltb 512 (length l)) a in
    (ltb-false (length l) 20 b.0, ltb-false 512 (length l) b.1)

-- both numbers of a time have four bytes
abbrev pub Wide : WireTime → Type 0
Wide t = (t.seconds < 4294967296) × (t.micros < 4294967296)

wire-wide : (t : ℕ) → Wide (wire_time_of t)
unfolding wire_time_of
wire-wide t = by Wide (ltb 0xFFFFFFFF (t / second)) _ _ (λ e. (omega arith, omega arith))
    (λ e. (omega (arith, ltb-false 0xFFFFFFFF (t / second) e), omega arith))

pub cue-wide : (pts seconds micros : ℕ) (x : Cue) → Wide (cue_time pts seconds micros x)
unfolding cue_time
cue-wide pts seconds micros (At p) = wire-wide (to_micros (record { 0 = exact_time pts (from_micros (time_of seconds micros)).0 p })).0
cue-wide pts seconds micros Timeless = (omega arith, omega arith)
cue-wide pts seconds micros Silent = (omega arith, omega arith)
cue-wide pts seconds micros Bad = (omega arith, omega arith)

-- of the four connections those are kept that pass a test
module _ (p : ℕ → Bool) where
  put_low : (b : Bool) (c : ℕ) (l : List ℕ) → c ≤ 3 → All (λ d. d ≤ 3) l → All (λ d. d ≤ 3) (put b c l)
  put_low true c l h a = (h, a)
  put_low false c l h a = a

  put-length : (b : Bool) (c : ℕ) (l : List ℕ) → length (put b c l) ≤ 1 + length l
  put-length true c l = omega arith
  put-length false c l = omega arith

  keep_low : All (λ d. d ≤ 3) (keep p (0 ∷ 1 ∷ 2 ∷ 3 ∷ []))
  keep_low = put_low (p 0) 0 _ (omega arith) (put_low (p 1) 1 _ (omega arith)
      (put_low (p 2) 2 _ (omega arith) (put_low (p 3) 3 [] (omega arith) tt)))

  keep-four : length (keep p (0 ∷ 1 ∷ 2 ∷ 3 ∷ [])) ≤ 4
  keep-four = omega (
    arith,
    put-length (p 0) 0 (keep p (1 ∷ 2 ∷ 3 ∷ [])),
    put-length (p 1) 1 (keep p (2 ∷ 3 ∷ [])),
    put-length (p 2) 2 (keep p (3 ∷ [])),
    put-length (p 3) 3 [],
  )

pub initialised-low : (links : List Link) → All (λ c. c ≤ 3) (initialised_ones links)
unfolding initialised_ones
initialised-low links = keep_low (λ c. is_initialised (get_or links c Closed))

pub initialised-four : (links : List Link) → length (initialised_ones links) ≤ 4
unfolding initialised_ones
initialised-four links = keep-four (λ c. is_initialised (get_or links c Closed))

-- ## The records

module _ (P : Record → Type 0) (t : WireTime) (l : List ℕ) (passes : (c : ℕ) → c ≤ 3 → P (passed_to t l c))
    (complains : (c : ℕ) → c ≤ 3 → P (complained_to c)) where
  each : (f : ℕ → Record) → ((c : ℕ) → c ≤ 3 → P (f c)) → (cs : List ℕ) → All (λ c. c ≤ 3) cs → All P (map f cs)
  each f h [] a = tt
  each f h (c ∷ cs) a = (h c a.0, each f h cs a.1)

  pub cue-all : (x : Cue) (cs : List ℕ) → All (λ c. c ≤ 3) cs → All P (cue_records x t l cs)
  unfolding cue_records
  cue-all (At p) cs a = each (passed_to t l) passes cs a
  cue-all Timeless cs a = each (passed_to t l) passes cs a
  cue-all Silent cs a = tt
  cue-all Bad cs a = each complained_to complains cs a

-- 18 bytes and the section for each connection at most
pub cue-weight : (x : Cue) (t : WireTime) (l cs : List ℕ) → length l ≤ 512 → length (output (cue_records x t l cs)) ≤ 530 * length cs
unfolding cue_records output
cue-weight (At p) t l [] h = omega arith
cue-weight (At p) t l (c ∷ cs) h = omega (arith, length-output (passed_to t l c) (map (passed_to t l) cs) h, cue-weight (At p) t l cs h)
cue-weight Timeless t l [] h = omega arith
cue-weight Timeless t l (c ∷ cs) h = omega (arith, length-output (passed_to t l c) (map (passed_to t l) cs) h, cue-weight Timeless t l cs h)
cue-weight Silent t l cs h = omega arith
cue-weight Bad t l [] h = omega arith
cue-weight Bad t l (c ∷ cs) h = omega (arith, length-output (complained_to c) (map complained_to cs) tt, cue-weight Bad t l cs h)
