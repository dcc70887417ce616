-- What a request that is accepted has passed: reading, and checks b to e. Assumes nothing.
use mathlib.Core.Path.{◌≡◌, refl, ap}
use mathlib.Core.Bool.{Bool, true, false, cond, ◌&&◌, ◌||◌}
use mathlib.Core.List.{List}
use Prim.Native.Nat.{ℕ, ◌*◌, ◌≤◌, ◌<◌}
use native.Mathlib.Omega.{arith}
use lib.Dec.{eqb, ltb}
use lib.ListN.{length}
use borrow.Author.Tests.{ltb-false, eqb-false}
use Rattle.rules.specs.declared.Start.{Start}
use Rattle.rules.specs.declared.Start.TheVariants.{Timed, Linked}
use Rattle.rules.specs.declared.Request.{Request}
use Rattle.rules.specs.declared.Message.TheVariants.{Init, Alive, Splice, Abort, Config, Extended}
use Rattle.rules.specs.Units.{time_of}
use Rattle.rules.specs.Bytes.{field}
use Rattle.rules.specs.Request.{nobody, session_id}
use Rattle.rules.specs.Reading.{bad_init, bad_extended, read_init, read_alive, read_abort, read_config, read_extended}
use Rattle.rules.specs.Descriptors.{is_bad, mux_of}
use Rattle.rules.specs.Request.{descriptors_of, prior_session, seconds, micro_seconds, duration, access_type}
use Rattle.rules.specs.Request.{override_playing, read_start, tail_of, bad_tail, bad_splice, whole_request}
use Rattle.rules.specs.Request.{read_whole}
use Rattle.rules.specs.Request.{read_splice}
use Rattle.rules.specs.Reading.{read}
use Rattle.rules.specs.State.{Queue, holds}
use Rattle.rules.specs.Splicing.{requested, unknown_prior, wrong_number, too_late, collides, full, first_of, splice_result}
use Rattle.rules.proofs.Tests.{tests, or-none}
use Rattle.rules.proofs.All.{All}
use Rattle.rules.proofs.Bytes.{Byte, field_below}
use Rattle.rules.proofs.Streams.{tail-byte}
use Rattle.rules.proofs.Descriptors.{mux-range}
use Rattle.std.specs.Prelude.{None, Some}

-- ## Checks b to e

first-100 : (b c d e : Bool) → first_of b c d e ≡ 100 → (b ≡ false) × (c ≡ false) × (d ≡ false) × (e ≡ false)
first-100 true c d e h = absurd (omega arith)
first-100 false true d e h = absurd (omega arith)
first-100 false false true e h = absurd (omega arith)
first-100 false false false true h = absurd (omega arith)
first-100 false false false false h = (refl, refl, refl, refl)

pub record Passed (now c : ℕ) (r : Request) (q : Queue) : Type 0 where
  pub somebody : eqb r.id nobody ≡ false
  pub number : holds c r.id q ≡ false
  pub prior : unknown_prior c r.start q ≡ false
  pub soon : too_late now r.start ≡ false
  pub free : collides (requested c r q) q.waiting ≡ false
  pub room : full c q.waiting ≡ false

pub passed-all : (now c : ℕ) (r : Request) (q : Queue) → splice_result now c r (requested c r q) q ≡ 100 → Passed now c r q
unfolding splice_result
passed-all now c r q e =
    let k = first-100 (wrong_number c r q) (too_late now r.start) (collides (requested c r q) q.waiting) (full c q.waiting) e in
    let i = or-none (eqb r.id nobody) (holds c r.id q || unknown_prior c r.start q) k.0 in
    let j = or-none (holds c r.id q) (unknown_prior c r.start q) i.1 in
    record { somebody = i.0; number = j.0; prior = j.1; soon = k.1; free = k.2; room = k.3 }

-- ## Reading

init-other : (d : List ℕ) (r : Request) → read_init d ≡ Some (Splice r) → ⊥
unfolding read_init
init-other d r = go (bad_init d)
  where
    go : (b : Bool) → cond b None (Some (Init (field 0 2 d))) ≡ Some (Splice r) → ⊥
    go true e = let z : ◌≡◌ {A = ℕ} 0 1 = cc in omega arith
    go false e = let z : ◌≡◌ {A = ℕ} 0 1 = cc in omega arith

alive-other : (d : List ℕ) (r : Request) → read_alive d ≡ Some (Splice r) → ⊥
unfolding read_alive
alive-other d r = go (eqb (length d) 8)
  where
    go : (b : Bool) → cond b (Some Alive) None ≡ Some (Splice r) → ⊥
    go true e = let z : ◌≡◌ {A = ℕ} 0 1 = cc in omega arith
    go false e = let z : ◌≡◌ {A = ℕ} 0 1 = cc in omega arith

abort-other : (d : List ℕ) (r : Request) → read_abort d ≡ Some (Splice r) → ⊥
unfolding read_abort
abort-other d r = go (eqb (length d) 4)
  where
    go : (b : Bool) → cond b (Some (Abort (field 0 4 d))) None ≡ Some (Splice r) → ⊥
    go true e = let z : ◌≡◌ {A = ℕ} 0 1 = cc in omega arith
    go false e = let z : ◌≡◌ {A = ℕ} 0 1 = cc in omega arith

extended-other : (d : List ℕ) (r : Request) → read_extended d ≡ Some (Splice r) → ⊥
unfolding read_extended
extended-other d r = go (bad_extended d)
  where
    go : (b : Bool) → cond b None (Some (Extended (field 0 4 d))) ≡ Some (Splice r) → ⊥
    go true e = let z : ◌≡◌ {A = ℕ} 0 1 = cc in omega arith
    go false e = let z : ◌≡◌ {A = ℕ} 0 1 = cc in omega arith

config-other : (d : List ℕ) (r : Request) → read_config d ≡ Some (Splice r) → ⊥
unfolding read_config
config-other d r = go (eqb (length d) 0)
  where
    go : (b : Bool) → cond b (Some Config) None ≡ Some (Splice r) → ⊥
    go true e = let z : ◌≡◌ {A = ℕ} 0 1 = cc in omega arith
    go false e = let z : ◌≡◌ {A = ℕ} 0 1 = cc in omega arith

-- only a Splice_Request is read as one
pub read-splice : (id : ℕ) (d : List ℕ) (r : Request) → read id d ≡ Some (Splice r) → read_splice d ≡ Some (Splice r)
unfolding read
read-splice id d r = go (eqb id 0x0001) (eqb id 0x0005) (eqb id 0x0007) (eqb id 0x000E) (eqb id 0x0003) (eqb id 0x000A)
  where
    go : (a b c e f g : Bool)
        → cond a (read_init d) (cond b (read_alive d) (cond c (read_splice d)
        (cond e (read_abort d) (cond f (read_extended d) (cond g (read_config d) None))))) ≡ Some (Splice r)
        → read_splice d ≡ Some (Splice r)
    go true b c e f g h = absurd (init-other d r h)
    go false true c e f g h = absurd (alive-other d r h)
    go false false true e f g h = h
    go false false false true f g h = absurd (abort-other d r h)
    go false false false false true g h = absurd (extended-other d r h)
    go false false false false false true h = absurd (config-other d r h)
    go false false false false false false h = let z : ◌≡◌ {A = ℕ} 0 1 = cc in absurd (omega arith)

-- what is read whole has a good tail, and a good time if it is timed
pub whole-read : (d t : List ℕ) (r : Request) → read_whole d t ≡ Some (Splice r) → (r ≡ whole_request d t) × (bad_splice d t ≡ false)
unfolding read_whole
whole-read d t r h = go (bad_splice d t) refl h
  where
    taken : (a b : Request) → Some (Splice a) ≡ Some (Splice b) → b ≡ a
    taken a b e = cc

    go : (b : Bool) → bad_splice d t ≡ b → cond b None (Some (Splice (whole_request d t))) ≡ Some (Splice r)
        → (r ≡ whole_request d t) × (bad_splice d t ≡ false)
    go true f e = let z : ◌≡◌ {A = ℕ} 0 1 = cc in absurd (omega arith)
    go false f e = (taken (whole_request d t) r e, f)

pub read_whole_lem : (d : List ℕ) (r : Request) → read_splice d ≡ Some (Splice r)
    → (r ≡ whole_request d (tail_of d)) × (bad_splice d (tail_of d) ≡ false)
unfolding read_splice
read_whole_lem d r h = go (ltb (length d) 18) h
  where
    go : (a : Bool) → cond a None (read_whole d (tail_of d)) ≡ Some (Splice r)
        → (r ≡ whole_request d (tail_of d)) × (bad_splice d (tail_of d) ≡ false)
    go true e = let z : ◌≡◌ {A = ℕ} 0 1 = cc in absurd (omega arith)
    go false e = whole-read d (tail_of d) r e

-- whatever was read, its number is the SessionID
pub read-id : (d : List ℕ) (r : Request) → read_splice d ≡ Some (Splice r) → r.id ≡ session_id d
read-id d r h = ap (λ x. x.id) (read_whole_lem d r h).0

-- a linked start names a number
abbrev pub Named : Start → Type 0
Named (Timed t) = Unit {0}
Named (Linked p) = eqb p nobody ≡ false

-- what reading grants of a request
pub record Granted (r : Request) : Type 0 where
  pub lasts : 0 < r.duration.0
  pub ranked : r.access ≤ 9
  pub overrides : r.overrides ≤ 1
  pub mux : (1 ≤ r.mux) × (r.mux ≤ 10)
  pub names : Named r.start

-- and of bytes: "SessionID 4, PriorSession 4, time 8, ServiceID 2, Duration 4"
abbrev pub StartFits : Start → Type 0
StartFits (Timed t) = t.0 < 4294967296 * 1000000
StartFits (Linked p) = p < nobody

pub record Fitting (r : Request) : Type 0 where
  pub id : r.id < 4294967296
  pub duration : r.duration.0 < 4294967296
  pub event : r.event < 4294967296
  pub start : StartFits r.start

-- what a good tail is
pub record GoodTail (t : List ℕ) : Type 0 where
  pub lasts : 0 < duration t
  pub ranked : access_type t ≤ 9
  pub overrides : override_playing t ≤ 1

pub good-tail : (t : List ℕ) → bad_tail t ≡ false → GoodTail t
good-tail t e =
    let a = or-none (ltb (length t) 15) _ e in
    let b = or-none (is_bad (mux_of (descriptors_of t))) _ a.1 in
    let c = or-none (eqb (duration t) 0) _ b.1 in
    let f = or-none (ltb 9 (access_type t)) _ c.1 in
    let g = or-none (ltb 1 (override_playing t)) _ f.1 in
    let z = eqb-false (duration t) 0 c.0 in
    record { lasts = omega arith; ranked = ltb-false 9 (access_type t) f.0; overrides = ltb-false 1 (override_playing t) g.0 }

module _ (d : List ℕ) (r : Request) (h : read_splice d ≡ Some (Splice r)) where
  w : (r ≡ whole_request d (tail_of d)) × (bad_splice d (tail_of d) ≡ false)
  w = read_whole_lem d r h

  -- the tail is good, and the time of a timed one
  parts : (bad_tail (tail_of d) ≡ false) × ((eqb (prior_session d) nobody && ltb 999999 (micro_seconds d)) ≡ false)
  parts = or-none (bad_tail (tail_of d)) _ w.1

  pub granted : Granted r
  unfolding read_start
  granted = rw w.0 (record {
    lasts = good.lasts;
    ranked = good.ranked;
    overrides = good.overrides;
    mux =
        mux-range (descriptors_of (tail_of d));
    names = named (eqb (prior_session d) nobody) refl;
  })
    where
      good : GoodTail (tail_of d)
      good = good-tail (tail_of d) parts.0

      named : (b : Bool) → eqb (prior_session d) nobody ≡ b
          → Named (cond b (Timed (time_of (seconds d) (micro_seconds d))) (Linked (prior_session d)))
      named true e = tt
      named false e = e

  pub fitting : All Byte d → Fitting r
  unfolding read_start
  fitting a =
      rw w.0 (record {
        id = field_below 0 4 d a;
        duration = field_below 0 4 (tail_of d) (tail-byte d a);
        event =
            field_below 4 4 (tail_of d) (tail-byte d a);
        start = fits (eqb (prior_session d) nobody) refl parts.1;
      })
    where
      fits : (b : Bool) → eqb (prior_session d) nobody ≡ b → (b && ltb 999999 (micro_seconds d)) ≡ false
          → StartFits (cond b (Timed (time_of (seconds d) (micro_seconds d))) (Linked (prior_session d)))
      fits true e f = omega (arith, tests, field_below 8 4 d a)
      fits false e f = let z = eqb-false (prior_session d) nobody e in omega (arith, field_below 4 4 d a)

-- a start as wide as its fields
abbrev pub StartBelow : Start → Type 0
StartBelow (Timed t) = t.0 < 4294967296 * 1000001
StartBelow (Linked p) = p < 4294967296
