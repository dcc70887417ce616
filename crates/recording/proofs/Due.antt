-- Entries end where records end: what the card program writes for a call is whole entries, one for each record.
-- Rests on rules' `call_fits`: the fields of what is written fit their widths.
use mathlib.Core.Path.{◌≡◌, refl, sym, ap, ◌∙◌}
use mathlib.Core.List.{List, [], ◌∷◌, ◌++◌, map, append_assoc}
use Prim.Native.Nat.{ℕ, ◌+◌, ◌≤◌}
use native.Mathlib.Omega.{arith}
use lib.ListN.{length, length-append}
use borrow.Author.Tests.{le-ltb}
use Rattle.rules.specs.Bytes.{bytes, value_from, value, padded, largest_size}
use Rattle.rules.specs.Records.{Record, General, InitResponse, AliveResponse, SpliceResponse, SpliceComplete, AbortResponse, ConfigResponse}
use Rattle.rules.specs.Records.{ExtendedFound, ExtendedNone, end_descriptor, CueRequest, time_bytes, framed, record_bytes, output}
use Rattle.rules.specs.declared.Refusal.{Refusal}
use Rattle.rules.specs.State.{Splicer}
use Rattle.rules.specs.Follows.Sound.{Wired, Sound}
use Rattle.rules.specs.HouseNumbers.{Answer, refused, good, written_by}
use Rattle.rules.specs.Calls.{Call, call}
use Rattle.rules.specs.Card.{header_end, told}
use Rattle.rules.proofs.All.{All, all-into}
use Rattle.rules.proofs.Bytes.{value-bytes, length-padded}
use Rattle.rules.proofs.Records.{Fits, Roomy, fits-roomy}
use Rattle.rules.proofs.Fitted.{Healthy, records_of, call_fits}
use Rattle.feed.specs.Feed.{size_in}
use Rattle.recording.specs.declared.Entry.TheVariants.{Wrote}
use Rattle.recording.specs.Recording.{span, entry_in, wrote, entries}
use Rattle.recording.specs.Recorded.{pieces}
use Rattle.recording.proofs.Entries.{Whole, is-wrote, entries-wrote}

-- ## One record

module _ (c id r : ℕ) (d : List ℕ) (h : length d ≤ largest_size) where
  -- its MessageSize is that of its data
  framed-size : size_in (framed c id r d) ≡ length d
  unfolding framed bytes value value_from
  framed-size = value-bytes 2 (length d) (omega arith)

  framed-long : length (framed c id r d) ≡ header_end + length d
  unfolding framed bytes
  framed-long = omega arith

  framed-span : span (framed c id r d) ≡ header_end + length d
  unfolding framed bytes value value_from span
  framed-span =
      rw (
        le-ltb (length (framed c id r d)) header_end (omega (arith, framed-long)),
        framed-size,
        le-ltb largest_size (length d) h,
      )

  framed-entry : Whole Wrote (framed c id r d)
  unfolding framed value value_from
  framed-entry =
      is-wrote (framed c id r d) (omega arith) refl refl
      ∙ rw (le-ltb (length (framed c id r d)) (span (framed c id r d)) (omega (arith, framed-long, framed-span)))
      (ap Wrote (framed-span ∙ sym framed-long))

record-entry : (r : Record) → Roomy r → Whole Wrote (record_bytes r)
unfolding record_bytes bytes
record-entry (General c r) h = framed-entry c 0x0000 r [] (omega arith)
record-entry (InitResponse c r name) h = framed-entry c 0x0002 r (bytes 2 2 ++ padded name) (omega (arith, length-padded name h))
record-entry (AliveResponse c r state x t) h = framed-entry c 0x0006 r (bytes 4 state ++ (bytes 4 x ++ time_bytes t)) (omega arith)
record-entry (SpliceResponse c r x) h = framed-entry c 0x0008 r (bytes 4 x) (omega arith)
record-entry (SpliceComplete c r x flag played) h =
    framed-entry c 0x0009 r (bytes 4 x ++ (bytes 1 flag ++ (bytes 4 0 ++ bytes 4 played))) (omega arith)
record-entry (AbortResponse c r x) h = framed-entry c 0x000F r (bytes 4 x) (omega arith)
record-entry (CueRequest c a u l) h = framed-entry c 0x000C 0xFFFF (bytes 4 a ++ (bytes 4 u ++ l)) (omega arith)
record-entry (ExtendedFound c x event ended played) h =
    framed-entry c 0x0004 100 (bytes 4 x ++ end_descriptor event ended played) (omega arith)
record-entry (ExtendedNone c x) h = framed-entry c 0x0004 121 (bytes 4 x) (omega arith)
record-entry (ConfigResponse c r name s m) h =
    framed-entry c 0x000B r (padded name ++ (s ++ m))
    (omega (arith, length-append (padded name) (s ++ m), length-append s m, length-padded name h.0, h.1, h.2))

-- ## All that is written for a call

unfoldable pub joined : List (List ℕ) → List ℕ
joined [] = []
joined (w ∷ ws) = w ++ joined ws

pub told-joined : (a : Answer) → told a ≡ joined (pieces a)
unfolding told written_by output pieces joined
told-joined (refused n) = refl
told-joined (good consumed rs) = go rs
  where
    go : (rs : List Record) → output rs ≡ joined (map record_bytes rs)
    go [] = refl
    go (r ∷ rs) = ap (λ x. record_bytes r ++ x) (go rs)

refusal-entry : (n : Refusal) → Whole Wrote (told (refused n))
unfolding told entry_in span value value_from
refusal-entry n = refl

pieces_whole : (a : Answer) → All Roomy (records_of a) → All (Whole Wrote) (pieces a)
unfolding pieces
pieces_whole (refused n) f = (refusal-entry n, tt)
pieces_whole (good consumed rs) f = go rs f
  where
    go : (rs : List Record) → All Roomy rs → All (Whole Wrote) (map record_bytes rs)
    go [] f = tt
    go (r ∷ rs) f = (record-entry r f.0, go rs f.1)

healthy : (s : Splicer) → Sound s → Healthy s
healthy s h =
    let j = h.holding in
    record {
      lately = h.lately;
      aired = record { timed = j.timed; played = j.played };
      proper = j.proper;
      small = j.small;
      clock = h.clock;
      linking = h.linking;
    }

-- each record that is due is one entry
pub due-whole : (s : Splicer) (k : Call) → Wired k → Sound s → All (Whole Wrote) (pieces (call k s).answer)
due-whole s k w h =
    pieces_whole (call k s).answer (all-into Fits Roomy fits-roomy (records_of (call k s).answer) (call_fits k s w (healthy s h)))

entries-joined : (ws : List (List ℕ)) (m : List ℕ) → All (Whole Wrote) ws → entries (joined ws ++ m) ≡ map wrote ws ++ entries m
unfolding joined
entries-joined [] m a = refl
entries-joined (w ∷ ws) m a =
    ap entries (append_assoc w (joined ws) m) ∙ entries-wrote w (joined ws ++ m) a.0
    ∙ ap (λ es. wrote w ∷ es) (entries-joined ws m a.1)

pub entries-told : (s : Splicer) (k : Call) (m : List ℕ) → Wired k → Sound s
    → entries (told (call k s).answer ++ m) ≡ map wrote (pieces (call k s).answer) ++ entries m
entries-told s k m w h =
    ap (λ x. entries (x ++ m)) (told-joined (call k s).answer) ∙ entries-joined (pieces (call k s).answer) m (due-whole s k w h)
