-- Each record is its parts, in the order in which they are written.
-- Rests on the definitions of the bytes alone: `bytes` at a given width computes.
use mathlib.Core.Path.{◌≡◌, refl, sym, ap, ◌∙◌}
use mathlib.Core.List.{List, [], ◌∷◌, ◌++◌, append_assoc}
use Prim.Native.Nat.{ℕ, ◌+◌, ◌-◌, ◌/◌, ◌%◌, ◌^◌, ◌≤◌, ◌<◌}
use native.Mathlib.Omega.{arith}
use native.Mathlib.Numerals.{add-one}
use lib.ListN.{length, take, drop, set, get_or, length-append}
use lib.Seq.{length-take-le, take-suc}
use borrow.Rule.Slice.PartMut.{put_mid, mid_of}
use Rattle.std.specs.Int.{w16, w32, to_be_bytes}
use Rattle.rules.specs.Bytes.{bytes, name_in, padded, written}
use Rattle.rules.specs.Records.{General, InitResponse, AliveResponse, SpliceComplete, ConfigResponse, ExtendedFound, CueRequest, framed}
use Rattle.rules.specs.Records.{time_bytes, end_descriptor, record_bytes}
use Rattle.rules.proofs.Bytes.{length-bytes}
use Rattle.rules.proofs.Written.{written-set, written-more, written_next, length-written}
use Rattle.writing.specs.Header.{header_of}
use Rattle.writing.specs.Puts.{Wrote}

-- bytes in front of what was behind them
pub written-front : (e l : List ℕ) (n : ℕ) → length l ≡ n → l ++ drop n e ≡ written e 0 l
unfolding written
written-front e l n h = ap (λ (k : ℕ). l ++ drop k e) (omega arith)

-- the bytes that the library gives of a number
pub two_bytes : (x : ℕ) → to_be_bytes w16 x ≡ bytes 2 x
unfolding bytes
two_bytes x = grind arith

pub four_bytes : (x : ℕ) → to_be_bytes w32 (x % 2 ^ 32) ≡ bytes 4 x
unfolding bytes
four_bytes x = grind arith

pub header-parts : (c id n r : ℕ) → bytes 1 0x52 ++ bytes 1 c ++ bytes 2 id ++ bytes 2 n ++ bytes 2 r ++ bytes 2 0xFFFF ≡ header_of c id n r
unfolding header_of bytes
header-parts c id n r = refl

pub length-header : (c id n r : ℕ) → length (header_of c id n r) ≡ 10
unfolding header_of bytes
length-header c id n r = refl

-- the header says how much data stands behind it
pub framed-header : (c id n r : ℕ) (d : List ℕ) → n ≡ length d → header_of c id n r ++ d ≡ framed c id r d
unfolding framed header_of bytes
framed-header c id n r d e = ap (λ k. header_of c id k r ++ d) e

pub general-parts : (c r : ℕ) → header_of c 0x0000 0 r ≡ record_bytes (General c r)
unfolding record_bytes framed header_of bytes
general-parts c r = refl

pub init-parts : (c r : ℕ) (name : List ℕ) → length name ≡ 32 → name ≡ padded (name_in name) →
    header_of c 0x0002 34 r ++ bytes 2 2 ++ name ≡ record_bytes (InitResponse c r (name_in name))
unfolding record_bytes header_of bytes
init-parts c r name n e =
    framed-header c 0x0002 34 r (bytes 2 2 ++ name) (omega arith) ∙ ap (λ x. framed c 0x0002 r (bytes 2 2 ++ x)) e

pub alive-parts : (c state x t : ℕ) →
    header_of c 0x0006 16 100 ++ bytes 4 state ++ bytes 4 x ++ time_bytes t ≡ record_bytes (AliveResponse c 100 state x t)
unfolding record_bytes framed header_of bytes
alive-parts c state x t = refl

pub complete-parts : (c r x flag played : ℕ) →
    header_of c 0x0009 13 r ++ bytes 4 x ++ bytes 1 flag ++ bytes 4 0 ++ bytes 4 played ≡ record_bytes (SpliceComplete c r x flag played)
unfolding record_bytes framed header_of bytes
complete-parts c r x flag played = refl

pub cue-parts : (c a u : ℕ) (l : List ℕ) →
    header_of c 0x000C (8 + length l) 0xFFFF ++ bytes 4 a ++ bytes 4 u ++ l ≡ record_bytes (CueRequest c a u l)
unfolding record_bytes header_of bytes
cue-parts c a u l = framed-header c 0x000C (8 + length l) 0xFFFF (bytes 4 a ++ (bytes 4 u ++ l)) (omega arith)

-- the tag and the length are one number, and so are the two bytes of the result
pub end-parts : (event ended played : ℕ) →
    bytes 2 0x010E ++ bytes 4 0x43415244 ++ bytes 4 event ++ bytes 1 (ended / 256) ++ bytes 1 ended ++ bytes 4 played
    ≡ end_descriptor event ended played
unfolding bytes
end-parts event ended played = refl

pub found-parts : (c x event ended played : ℕ) →
    header_of c 0x0004 20 100 ++ bytes 4 x ++ end_descriptor event ended played ≡ record_bytes (ExtendedFound c x event ended played)
unfolding record_bytes framed header_of bytes
found-parts c x event ended played = refl

pub config-parts : (c n : ℕ) (name h m : List ℕ) → n ≡ 32 + (length h + length m) → length name ≡ 32 → name ≡ padded (name_in name) →
    ((header_of c 0x000B n 100 ++ name) ++ h) ++ m ≡ record_bytes (ConfigResponse c 100 (name_in name) h m)
unfolding record_bytes
config-parts c n name h m k l e =
    append_assoc (header_of c 0x000B n 100 ++ name) h m
    ∙ append_assoc (header_of c 0x000B n 100) name (h ++ m)
    ∙ framed-header c 0x000B n 100 (name ++ (h ++ m)) (omega (arith, k, l, length-append name (h ++ m), length-append h m))
    ∙ ap (λ x. framed c 0x000B 100 (x ++ (h ++ m))) e

-- ## A row of parts, each put directly behind the last

-- l, which has n bytes, stands at the start of the buffer that held e
pub record Row (e l : List ℕ) (n : ℕ) (xs : List ℕ) : Type 0 where
  pub is : xs ≡ written e 0 l
  pub long : length l ≡ n

module _ {e : List ℕ} where
  pub row_first : (w x : ℕ) {xs : List ℕ} → xs ≡ written e 0 (bytes w x) → Row e (bytes w x) w xs
  row_first w x p = record { is = p; long = length-bytes w x }

  pub row-header : (c id n r : ℕ) {xs : List ℕ} → xs ≡ written e 0 (header_of c id n r) → Row e (header_of c id n r) 10 xs
  row-header c id n r p = record { is = p; long = length-header c id n r }

  -- the next part m, of k bytes
  pub row_next : (m : List ℕ) {k : ℕ} → length m ≡ k → {l xs ys : List ℕ} {n : ℕ} → Row e l n xs
      → ys ≡ written (mid_of n (length xs - n) xs) 0 m →
      n + k ≤ length e → Row e (l ++ m) (n + k) (put_mid n (length xs - n) xs ys)
  row_next m {k} j {l} {xs} {ys} {n} v p h =
      record {
        is = written_next e 0 l m xs ys n v.is (omega (arith, v.long)) (omega arith) p;
        long = omega (arith, v.long, length-append l m);
      }

  -- a number
  pub row-bytes : (w x : ℕ) {l xs ys : List ℕ} {n : ℕ} → Row e l n xs → ys ≡ written (mid_of n (length xs - n) xs) 0 (bytes w x)
      → n + w ≤ length e →
      Row e (l ++ bytes w x) (n + w) (put_mid n (length xs - n) xs ys)
  row-bytes w x v p h = row_next (bytes w x) (length-bytes w x) v p h

  -- all of them are k
  pub row_wrote : {k l xs : List ℕ} {n r : ℕ} → Row e l n xs → l ≡ k → r ≡ n → n ≤ length e → Wrote k e r xs
  row_wrote {k} {l} v q c h =
      record { count = omega (arith, v.long, c, ap length q); fits = omega (arith, c); bytes = v.is ∙ ap (written e 0) q }

pub length-time : (t : ℕ) → length (time_bytes t) ≡ 8
unfolding bytes
length-time t = refl

pub length-end : (event ended played : ℕ) → length (end_descriptor event ended played) ≡ 16
unfolding bytes
length-end event ended played = refl

-- a turn of a copy: one byte more of l
pub copied : (e l o : List ℕ) (i : ℕ) → i < length l → length l ≤ length e → o ≡ written e 0 (take i l) →
    set o i (get_or l i 0) ≡ written e 0 (take (i + 1) l)
copied e l o i h k w =
    let n : length (take i l) ≡ i = length-take-le i l (omega arith) in
    let m : length o ≡ length e = ap length w ∙ length-written e 0 (take i l) (omega arith) in
    written-set o i (get_or l i 0) (omega arith)
    ∙ ap (λ x. written x i (get_or l i 0 ∷ [])) w
    ∙ written-more e 0 (take i l) (get_or l i 0 ∷ []) i (omega arith) (omega arith)
    ∙ ap (written e 0) (sym (take-suc l i 0 h) ∙ ap (λ j. take j l) (sym (add-one i)))
