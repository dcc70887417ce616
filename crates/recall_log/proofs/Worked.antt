-- 02, CR 12, worked by hand: small logs byte by byte, which the prover computes, and the boundaries of 13.
-- Rests on the definitions, and for the boundaries on the laws of Logs and Appends.
use mathlib.Core.Path.{◌≡◌, refl, ◌∙◌}
use mathlib.Core.Bool.{true, false}
use mathlib.Core.List.{List, [], ◌∷◌}
use Prim.Native.Nat.{ℕ, ◌≤◌, ◌<◌}
use native.Mathlib.Omega.{arith}
use lib.ListN.{length}
use borrow.Author.Tests.{lt-ltb, le-ltb}
use Rattle.rules.specs.Bytes.{bytes, value, value_from, message_size, written}
use Rattle.rules.specs.Calls.{opens, closes, messages, ticks}
use Rattle.rules.specs.HouseNumbers.{lending, lending_maps}
use Rattle.rules.specs.Card.{card_loans, next, next_message, next_tick}
use Rattle.std.specs.Prelude.{Err}
use Rattle.recall_log.specs.declared.Refused.TheVariants.{Full}
use Rattle.recall_log.specs.Log.{stepped, calls_in, bytes_in, kept_calls, taken, free, full, longest_record}
use Rattle.recall_log.specs.Kept.{kept_form, marked, appended, cleared, number_of}
use Rattle.recall_log.proofs.Appends.{Keepable, appended-free}
use Rattle.recall_log.proofs.Logs.{has_room, full-length, full-calls, full-space}

-- ## Logs

-- an open of 2, a tick to 1,000 s 5 µs, the zero; what stands behind it is read no more
log : List ℕ
log = 0x4F ∷ 0x02 ∷ 0x54 ∷ 0x00 ∷ 0x00 ∷ 0x00 ∷ 0x03 ∷ 0xE8 ∷ 0x00 ∷ 0x00 ∷ 0x00 ∷ 0x05 ∷ 0x00 ∷ 0x4F ∷ 0x01 ∷ 0x77 ∷ []

-- an open, and a header with MessageSize 4,089
oversized : List ℕ
oversized = 0x4F ∷ 0x00 ∷ 0x4D ∷ 0x00 ∷ 0x00 ∷ 0x05 ∷ 0x0F ∷ 0xF9 ∷ 0xFF ∷ 0xFF ∷ 0xFF ∷ 0xFF ∷ 0x4F ∷ 0x01 ∷ []

-- a tick whose second byte is not zero, and a cut open
other : List ℕ
other = 0x54 ∷ 0x99 ∷ 0x00 ∷ 0x00 ∷ 0x00 ∷ 0x01 ∷ 0x00 ∷ 0x00 ∷ 0x00 ∷ 0x00 ∷ 0x4F ∷ []

-- a message of one byte of data, and two bytes more
read : List ℕ
read = 0x00 ∷ 0x05 ∷ 0x00 ∷ 0x01 ∷ 0xFF ∷ 0xFF ∷ 0xFF ∷ 0xFF ∷ 0x07 ∷ 0xAA ∷ 0xBB ∷ []

computing : ℕ
unfolding log oversized other read stepped calls_in bytes_in kept_calls taken kept_form marked appended cleared number_of next next_message
    next_tick bytes value value_from written
computing = 0

reads-log : kept_calls log ≡ opens 2 ∷ ticks 1000 5 4096 ∷ []
unfolding computing
reads-log = refl

takes-log : taken log ≡ 12
unfolding computing
takes-log = refl

-- an oversize header ends the list too
reads-oversized : kept_calls oversized ≡ opens 0 ∷ []
unfolding computing
reads-oversized = refl

-- "the 0x00 isn't read"
reads_other : kept_calls other ≡ ticks 1 0 4096 ∷ []
unfolding computing
reads_other = refl

-- behind the last, a zero behind it, and every other byte as it was
appends-close : appended (kept_form (closes 2 9000)) log
    ≡ 0x4F ∷ 0x02 ∷ 0x54 ∷ 0x00 ∷ 0x00 ∷ 0x00 ∷ 0x03 ∷ 0xE8 ∷ 0x00 ∷ 0x00 ∷ 0x00 ∷ 0x05 ∷ 0x43 ∷ 0x02 ∷ 0x00 ∷ 0x77 ∷ []
unfolding computing
appends-close = refl

-- its 8 + MessageSize bytes, no more
keeps-message : appended (kept_form (messages 3 read (lending 5000))) (cleared log)
    ≡ 0x4D ∷ 0x03 ∷ 0x00 ∷ 0x05 ∷ 0x00 ∷ 0x01 ∷ 0xFF ∷ 0xFF ∷ 0xFF ∷ 0xFF ∷ 0x07 ∷ 0x00 ∷ 0x00 ∷ 0x00 ∷ 0x00 ∷ 0x00 ∷ []
unfolding computing
keeps-message = refl

-- 02, CR 6: lent sections are not kept; "The card program lends empty sections."
keeps-no-section : kept_form (messages 3 read (lending_maps (0x02 ∷ []) (0x02 ∷ 0xB0 ∷ []) 5000))
    ≡ messages 3 (0x00 ∷ 0x05 ∷ 0x00 ∷ 0x01 ∷ 0xFF ∷ 0xFF ∷ 0xFF ∷ 0xFF ∷ 0x07 ∷ []) (lending 4096)
unfolding computing
keeps-no-section = refl

-- 54 00 and the time
keeps-tick : appended (kept_form (ticks 1 2 4096)) (0x00 ∷ 0xEE ∷ 0xEE ∷ 0xEE ∷ 0xEE ∷ 0xEE ∷ 0xEE ∷ 0xEE ∷ 0xEE ∷ 0xEE ∷ 0xEE ∷ 0xEE ∷ [])
    ≡ 0x54 ∷ 0x00 ∷ 0x00 ∷ 0x00 ∷ 0x00 ∷ 0x01 ∷ 0x00 ∷ 0x00 ∷ 0x00 ∷ 0x02 ∷ 0x00 ∷ 0xEE ∷ []
unfolding computing
keeps-tick = refl

-- to the last byte: there is no room for a zero
fills-log : appended (kept_form (opens 1)) (0x00 ∷ 0x00 ∷ []) ≡ 0x4F ∷ 0x01 ∷ []
unfolding computing
fills-log = refl

full-number : number_of (Err Full) ≡ 13
unfolding computing
full-number = refl

-- ## 13

module _ (l : List ℕ) where
  length-65535 : length l ≡ 65535 → full l ≡ true
  length-65535 h = full-length l (λ e. omega arith)

  length-65537 : length l ≡ 65537 → full l ≡ true
  length-65537 h = full-length l (λ e. omega arith)

  module _ (h : length l ≡ 65536) where
    -- with 255 kept a call is answered and becomes the 256th
    kept-255 : length (kept_calls l) ≡ 255 → 4098 ≤ free l → full l ≡ false
    kept-255 n f = has_room l (record { long = h; few = omega arith; space = f })

    kept-256 : length (kept_calls l) ≡ 256 → full l ≡ true
    kept-256 n = full-calls l h (omega arith)

    free-4098 : length (kept_calls l) < 256 → free l ≡ 4098 → full l ≡ false
    free-4098 n f = full-space l h n ∙ le-ltb (free l) longest_record (omega arith)

    free-4097 : length (kept_calls l) < 256 → free l ≡ 4097 → full l ≡ true
    free-4097 n f = full-space l h n ∙ lt-ltb (free l) longest_record (omega arith)

    -- with 4,098 free a message of 4,088 is kept and fills the log to its last byte
    largest-fills : (c : ℕ) (m : List ℕ) → Keepable (messages c m card_loans) → message_size m ≡ 4088 → free l ≡ 4098
        → free (appended (messages c m card_loans) l) ≡ 0
    unfolding marked
    largest-fills c m k n f = omega (arith, k.1, appended-free (messages c m card_loans) l k (omega (arith, k.1)))
