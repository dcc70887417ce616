-- 02, CR 1: structures are read back as they were written and written back as they were read, and a request that names its PIDs is read
-- like any other. Rests on the laws of numbers in bytes and of `take`, `drop` and `++`.
use mathlib.Core.Path.{◌≡◌, refl, sym, ap, ap₂, ◌∙◌}
use mathlib.Core.Bool.{Bool, true, false, cond}
use mathlib.Core.List.{List, [], ◌∷◌, ◌++◌, append_assoc}
use Prim.Native.Nat.{ℕ, zero, suc, ◌+◌, ◌-◌, ◌*◌, ◌/◌, ◌%◌, ◌^◌, ◌≤◌, ◌<◌}
use native.Mathlib.Omega.{arith}
use lib.Dec.{eqb, ltb}
use lib.ListN.{length, get_or, take, drop, length-append, length-take, length-drop, take-append-drop}
use lib.Seq.{take-suc, take_at, drop_at, take-add, take-append-le, drop-append-le, length-take-le, take_all}
use borrow.Author.Tests.{le-ltb, ltb-false, eqb-false, eq-eqb, ne_eqb}
use Rattle.rules.specs.Bytes.{bytes, value_from, value, part, field}
use Rattle.rules.specs.Request.{separate_service, service_id, read_start}
use Rattle.rules.specs.Streams.{Stream}
use Rattle.rules.specs.Streams.{stream_length, stream_at, highest_pid, unknown_size, bad_stream, Listed, listed, unlisted, behind}
use Rattle.rules.specs.Streams.{streams_in, pcr_pid, pid_count, most_streams, bad_count, separate_in, rest_of, stream_bytes}
use Rattle.rules.specs.Follows.ReadBack.{Writable}
use Rattle.rules.specs.Streams.{streams_bytes, separate_bytes}
use Rattle.rules.specs.Request.{tail_of, read_whole, read_splice}
use Rattle.rules.proofs.Tests.{or-none}
use Rattle.rules.proofs.All.{All, all_drop, at_all}
use Rattle.rules.proofs.Bytes.{Byte, length-bytes, value-bytes, value-append, field_below}
use Rattle.rules.proofs.Values.{field-one}

-- ## What is behind the structures

-- what is said of the rest of good structures
behind-listed : (s : Stream) (x : Listed) (l : List Stream) (r : List ℕ) → behind s x ≡ listed l r
    → (m : List Stream) × (x ≡ listed m r) × (l ≡ s ∷ m)
unfolding behind
behind-listed s (listed m q) l r e =
    let i : l ≡ s ∷ m = cc in
    let j : q ≡ r = cc in
    (m, ap (listed m) j, i)
behind-listed s unlisted l r e = let z : ◌≡◌ {A = ℕ} 0 1 = cc in absurd (omega arith)

-- one structure in front of n
pub record Stepped (n : ℕ) (p : List ℕ) (l : List Stream) (r : List ℕ) : Type 0 where
  pub good : bad_stream p ≡ false
  pub more : List Stream
  pub rest : streams_in n (drop (stream_length p) p) ≡ listed more r
  pub is : l ≡ stream_at p ∷ more

pub streams-step : (n : ℕ) (p : List ℕ) (l : List Stream) (r : List ℕ) → streams_in (suc n) p ≡ listed l r → Stepped n p l r
unfolding streams_in
streams-step n p l r e = go (bad_stream p) refl e
  where
    go : (b : Bool) → bad_stream p ≡ b → cond b unlisted (behind (stream_at p) (streams_in n (drop (stream_length p) p))) ≡ listed l r
        → Stepped n p l r
    go true f e = let z : ◌≡◌ {A = ℕ} 0 1 = cc in absurd (omega arith)
    go false f e =
        let k = behind-listed (stream_at p) (streams_in n (drop (stream_length p) p)) l r e in
        record { good = f; more = k.0; rest = k.1; is = k.2 }

pub streams-none : (p : List ℕ) (l : List Stream) (r : List ℕ) → streams_in 0 p ≡ listed l r → (l ≡ []) × (r ≡ p)
unfolding streams_in
streams-none p l r e = (cc, cc)

streams-byte : (n : ℕ) (p : List ℕ) → All Byte p → All Byte (rest_of (streams_in n p))
unfolding streams_in rest_of behind
streams-byte zero p a = a
streams-byte (suc n) p a = go (bad_stream p) (streams_in n (drop (stream_length p) p))
    (streams-byte n (drop (stream_length p) p) (all_drop Byte (stream_length p) p a))
  where
    go : (b : Bool) (x : Listed) → All Byte (rest_of x) → All Byte (rest_of (cond b unlisted (behind (stream_at p) x)))
    go true x h = tt
    go false (listed l r) h = h
    go false unlisted h = tt

-- the tail of bytes is bytes
pub tail-byte : (d : List ℕ) → All Byte d → All Byte (tail_of d)
unfolding tail_of separate_in rest_of
tail-byte d a = go (eqb (service_id d) separate_service) (bad_count (drop 18 d))
  where
    b : All Byte (drop 18 d)
    b = all_drop Byte 18 d a

    go : (x y : Bool) → All Byte (cond x (rest_of (cond y unlisted (streams_in (pid_count (drop 18 d)) (drop 6 (drop 18 d))))) (drop 18 d))
    go true true = tt
    go true false = streams-byte (pid_count (drop 18 d)) (drop 6 (drop 18 d)) (all_drop Byte 6 (drop 18 d) b)
    go false y = b

-- ## Written back

-- what was read of n bytes is written as they stood
bytes-value : (n : ℕ) (l : List ℕ) → All Byte l → n ≤ length l → bytes n (value (take n l)) ≡ take n l
unfolding bytes value value_from
bytes-value zero l a h = refl
bytes-value (suc n) l a h =
    let b = get_or l n 0 in
    let e : take (suc n) l ≡ take n l ++ (b ∷ []) = take-suc l n 0 h in
    let low : b < 256 = at_all Byte 0 l (omega arith) a n in
    let v : value (take (suc n) l) ≡ value (take n l) * 256 ^ 1 + (0 * 256 + b) = ap value e ∙ value-append (take n l) (b ∷ []) in
    let q : value (take (suc n) l) / 256 ≡ value (take n l) = omega arith in
    let r : value (take (suc n) l) % 256 ≡ b = omega arith in
    ap₂ (λ x y. bytes n x ++ (y ∷ [])) q r ∙ ap (λ x. x ++ (b ∷ [])) (bytes-value n l a (omega arith)) ∙ sym e

module _ (l : List ℕ) (a : All Byte l) where
  field_back : (i n : ℕ) → i + n ≤ length l → bytes n (field i n l) ≡ part i n l
  field_back i n h = bytes-value n (drop i l) (all_drop Byte i l a) (simp length-drop (omega arith))

  -- one part directly behind the other
  join : (i n : ℕ) {x y : List ℕ} → x ≡ take i l → y ≡ part i n l → x ++ y ≡ take (i + n) l
  join i n e f = ap₂ ◌++◌ e f ∙ sym (take-add i n l)

-- what is good is long enough
pub record GoodStream (l : List ℕ) : Type 0 where
  pub long : 21 ≤ stream_length l
  pub within : stream_length l ≤ length l
  pub pid : field 1 2 l ≤ highest_pid
  pub typed : field 3 2 l ≡ unknown_size → ⊥

pub good-stream : (l : List ℕ) → bad_stream l ≡ false → GoodStream l
good-stream l e =
    let a = or-none (ltb (stream_length l) 21) _ e in
    let b = or-none (ltb (length l) (stream_length l)) _ a.1 in
    let c = or-none (ltb highest_pid (field 1 2 l)) _ b.1 in
    record {
      long = ltb-false (stream_length l) 21 a.0;
      within = ltb-false (length l) (stream_length l) b.0;
      pid =
          ltb-false highest_pid (field 1 2 l) c.0;
      typed = eqb-false (field 3 2 l) unknown_size c.1;
    }

pub length-kept : (l : List ℕ) → bad_stream l ≡ false → length (stream_at l).kept ≡ stream_length l - 21
length-kept l e = let g = good-stream l e in length-take-le (stream_length l - 21) (drop 21 l) (simp length-drop (omega arith))

pub stream-back : (l : List ℕ) → All Byte l → bad_stream l ≡ false → stream_bytes (stream_at l) ≡ take (stream_length l) l
unfolding stream_bytes
stream-back l a e =
    let g = good-stream l e in
    let n : 21 + length (stream_at l).kept ≡ field 0 1 l = rw (length-kept l e, field-one 0 l (omega arith)) (omega arith) in
    let first : bytes 1 (21 + length (stream_at l).kept) ≡ take 1 l = ap (bytes 1) n ∙ field_back l a 0 1 (omega arith) in
    let size : 21 + (stream_length l - 21) ≡ stream_length l = omega arith in
    join l a 21 (stream_length l - 21)
    (join l a 19 2
    (join l a 17 2
    (join l a 13 4
    (join l a 9 4
    (join l a 5 4
    (join l a 3 2
    (join l a 1 2 first (field_back l a 1 2 (omega arith)))
    (field_back l a 3 2 (omega arith)))
    (field_back l a 5 4 (omega arith)))
    (field_back l a 9 4 (omega arith)))
    (field_back l a 13 4 (omega arith)))
    (field_back l a 17 2 (omega arith)))
    (field_back l a 19 2 (omega arith)))
    refl
    ∙ ap (λ k. take k l) size

-- "whatever `streams_in` gives, writing it gives the bytes that were taken"
pub streams-write-back : (n : ℕ) (p : List ℕ) (l : List Stream) (r : List ℕ) → All Byte p → streams_in n p ≡ listed l r
    → streams_bytes l ++ r ≡ p
unfolding streams_bytes
streams-write-back zero p l r a e = let k = streams-none p l r e in rw k.0 k.1
streams-write-back (suc n) p l r a e =
    let k = streams-step n p l r e in
    rw k.is
    (append_assoc (stream_bytes (stream_at p)) (streams_bytes k.more) r
    ∙ ap₂ ◌++◌ (stream-back p a k.good) (streams-write-back n (drop (stream_length p) p) k.more r (all_drop Byte (stream_length p) p a)
    k.rest)
    ∙ take-append-drop (stream_length p) p)

-- as many as were asked for
pub streams-count : (n : ℕ) (p : List ℕ) (l : List Stream) (r : List ℕ) → streams_in n p ≡ listed l r → length l ≡ n
streams-count zero p l r e = ap length (streams-none p l r e).0
streams-count (suc n) p l r e = let k = streams-step n p l r e in rw k.is
    (ap suc (streams-count n (drop (stream_length p) p) k.more r k.rest))

-- ## Read back

module _ (s : Stream) (w : Writable s) where
  pub length-stream : length (stream_bytes s) ≡ 21 + length s.kept
  unfolding stream_bytes bytes
  length-stream = omega arith

  pub stream-length : (m : List ℕ) → stream_length (stream_bytes s ++ m) ≡ 21 + length s.kept
  unfolding stream_bytes bytes
  stream-length m = omega (arith, w.kept)

  pub stream-good : (m : List ℕ) → bad_stream (stream_bytes s ++ m) ≡ false
  unfolding stream_bytes bytes value value_from
  stream-good m =
      let p : field 1 2 (stream_bytes s ++ m) ≡ s.pid = value-bytes 2 s.pid (omega (arith, w.pid)) in
      let t : field 3 2 (stream_bytes s ++ m) ≡ s.stream_type = value-bytes 2 s.stream_type (omega (arith, w.stream_type)) in
      let n = stream-length m in
      let h : length (stream_bytes s ++ m) ≡ 21 + length s.kept + length m =
      length-append (stream_bytes s) m ∙ ap (λ x. x + length m) length-stream in
      rw (
        le-ltb (stream_length (stream_bytes s ++ m)) 21 (omega arith),
        le-ltb (length (stream_bytes s ++ m)) (stream_length (stream_bytes s ++ m)) (omega arith),
        le-ltb highest_pid (field 1 2 (stream_bytes s ++ m)) (omega (arith, w.pid)),
        ne_eqb (field 3 2 (stream_bytes s ++ m)) unknown_size (omega (arith, w.stream_type)),
      )

  -- the structure that stands first is found, with the bytes behind it
  pub stream-read : (m : List ℕ) → stream_at (stream_bytes s ++ m) ≡ s
  unfolding stream_bytes bytes value value_from
  stream-read m =
      let n : 21 + length s.kept < 256 = omega (arith, w.kept) in
      let k : ((21 + length s.kept) % 256) - 21 ≡ length s.kept = omega arith in
      let p = value-bytes 2 s.pid (omega (arith, w.pid)) in
      let t = value-bytes 2 s.stream_type (omega (arith, w.stream_type)) in
      let a = value-bytes 4 s.avg_bitrate w.avg_bitrate in
      let b = value-bytes 4 s.max_bitrate w.max_bitrate in
      let c = value-bytes 4 s.min_bitrate w.min_bitrate in
      let x = value-bytes 2 s.h_resolution w.h_resolution in
      let y = value-bytes 2 s.v_resolution w.v_resolution in
      let z : take (((21 + length s.kept) % 256) - 21) (s.kept ++ m) ≡ s.kept =
      ap (λ i. take i (s.kept ++ m)) k ∙ take_at s.kept m (length s.kept) refl in
      λ i. record {
        pid = p i;
        stream_type = t i;
        avg_bitrate = a i;
        max_bitrate = b i;
        min_bitrate = c i;
        h_resolution = x i;
        v_resolution = y i;
        kept = z i;
      }

  pub stream-rest : (m : List ℕ) → drop (stream_length (stream_bytes s ++ m)) (stream_bytes s ++ m) ≡ m
  stream-rest m = rw (stream-length m) (drop_at (stream_bytes s) m (21 + length s.kept) length-stream)

-- "for every list l of .. writable streams and every rest r"
pub streams-read-back : (l : List Stream) (r : List ℕ) → All Writable l → streams_in (length l) (streams_bytes l ++ r) ≡ listed l r
unfolding streams_in streams_bytes behind
streams-read-back [] r a = refl
streams-read-back (s ∷ l) r a =
    ap (λ p. cond (bad_stream p) unlisted (behind (stream_at p) (streams_in (length l) (drop (stream_length p) p))))
    (append_assoc (stream_bytes s) (streams_bytes l) r)
    ∙ rw (
      stream-good s a.0 (streams_bytes l ++ r),
      stream-read s a.0 (streams_bytes l ++ r),
      stream-rest s a.0 (streams_bytes l ++ r),
      streams-read-back l r a.1,
    ) refl

-- what is read is writable
pub stream-writable : (l : List ℕ) → All Byte l → bad_stream l ≡ false → Writable (stream_at l)
stream-writable l a e =
    let g = good-stream l e in
    let n : stream_length l < 256 = at_all Byte 0 l (omega arith) a 0 in
    record {
      pid = g.pid;
      stream_type = omega (arith, field_below 3 2 l a, g.typed);
      avg_bitrate = field_below 5 4 l a;
      max_bitrate = field_below 9 4 l a;
      min_bitrate = field_below 13 4 l a;
      h_resolution = field_below 17 2 l a;
      v_resolution = field_below 19 2 l a;
      kept = omega (arith, length-kept l e);
    }

pub streams-writable : (n : ℕ) (p : List ℕ) (l : List Stream) (r : List ℕ) → All Byte p → streams_in n p ≡ listed l r → All Writable l
streams-writable zero p l r a e = rw (streams-none p l r e).0 tt
streams-writable (suc n) p l r a e =
    let k = streams-step n p l r e in
    rw k.is (
      stream-writable p a k.good,
      streams-writable n (drop (stream_length p) p) k.more r (all_drop Byte (stream_length p) p a)
          k.rest,
    )

-- ## With PcrPID and PIDCount

pub record Separate (p : List ℕ) (l : List Stream) (r : List ℕ) : Type 0 where
  pub long : 6 ≤ length p
  pub pcr : pcr_pid p ≤ highest_pid
  pub few : pid_count p ≤ most_streams
  pub streams : streams_in (pid_count p) (drop 6 p) ≡ listed l r

pub separate-step : (p : List ℕ) (l : List Stream) (r : List ℕ) → separate_in p ≡ listed l r → Separate p l r
unfolding separate_in
separate-step p l r = go (bad_count p) refl
  where
    go : (b : Bool) → bad_count p ≡ b → cond b unlisted (streams_in (pid_count p) (drop 6 p)) ≡ listed l r → Separate p l r
    go true f e = let z : ◌≡◌ {A = ℕ} 0 1 = cc in absurd (omega arith)
    go false f e =
        let a = or-none (ltb (length p) 6) _ f in
        let b = or-none (ltb highest_pid (pcr_pid p)) _ a.1 in
        record {
          long = ltb-false (length p) 6 a.0;
          pcr = ltb-false highest_pid (pcr_pid p) b.0;
          few =
              ltb-false most_streams (pid_count p) b.1;
          streams = e;
        }

pub separate-write-back : (p : List ℕ) (l : List Stream) (r : List ℕ) → All Byte p → separate_in p ≡ listed l r
    → separate_bytes (pcr_pid p) l ++ r ≡ p
unfolding separate_bytes
separate-write-back p l r a e =
    let k = separate-step p l r e in
    let n = streams-count (pid_count p) (drop 6 p) l r k.streams in
    append_assoc (bytes 2 (pcr_pid p) ++ bytes 4 (length l)) (streams_bytes l) r
    ∙ ap₂ ◌++◌ (join p a 2 4 (field_back p a 0 2 (omega arith)) (ap (bytes 4) n ∙ field_back p a 2 4 (omega arith)))
    (streams-write-back (pid_count p) (drop 6 p) l r (all_drop Byte 6 p a) k.streams)
    ∙ take-append-drop 6 p

pub separate-read-back : (pcr : ℕ) (l : List Stream) (r : List ℕ) → pcr ≤ highest_pid → length l ≤ most_streams → All Writable l
    → separate_in (separate_bytes pcr l ++ r) ≡ listed l r
unfolding separate_in separate_bytes bytes value value_from
separate-read-back pcr l r low few a =
    let p = separate_bytes pcr l ++ r in
    let x : pcr_pid p ≡ pcr = value-bytes 2 pcr (omega arith) in
    let n : pid_count p ≡ length l = value-bytes 4 (length l) (omega arith) in
    rw (le-ltb (length p) 6 (omega arith), le-ltb highest_pid (pcr_pid p) (omega arith), le-ltb most_streams (pid_count p) (omega arith), n)
    (streams-read-back l r a)

pub pcr-read-back : (pcr : ℕ) (l : List Stream) (r : List ℕ) → pcr ≤ highest_pid → pcr_pid (separate_bytes pcr l ++ r) ≡ pcr
unfolding separate_bytes bytes value value_from
pcr-read-back pcr l r low = value-bytes 2 pcr (omega arith)

-- ## Read alike

-- a field of the first bytes
front-field : (x m : List ℕ) (i n : ℕ) → i + n ≤ length x → field i n (x ++ m) ≡ field i n x
front-field x m i n h =
    ap (λ y. value (take n y)) (drop-append-le i x m (omega arith))
    ∙ ap value (take-append-le n (drop i x) m (simp length-drop (omega arith)))

module _ (d e : List ℕ) (same : take 16 d ≡ take 16 e) (a : 16 ≤ length d) (b : 16 ≤ length e) where
  alike : (i n : ℕ) → i + n ≤ 16 → field i n d ≡ field i n e
  alike i n h = front d a ∙ ap (field i n) same ∙ sym (front e b)
    where
      front : (l : List ℕ) → 16 ≤ length l → field i n l ≡ field i n (take 16 l)
      front l k = ap (field i n) (sym (take-append-drop 16 l)) ∙ front-field (take 16 l) (drop 16 l) i n (simp length-take (omega arith))

  -- the same first 16 bytes with the same tail
  whole-alike : (t : List ℕ) → read_whole d t ≡ read_whole e t
  unfolding read_whole read_start
  whole-alike t = rw (alike 0 4 (omega arith), alike 4 4 (omega arith), alike 8 4 (omega arith), alike 12 4 (omega arith)) refl

-- "such requests go through the other reading rules": d with good structures and the tail t, and the data without them and with any other
-- ServiceID. So their descriptors are read alike too, and both ask the same of the multiplexer (CR 5)
pub separate-reads-alike : (d : List ℕ) (l : List Stream) (t : List ℕ) (service : ℕ) → 18 ≤ length d → service_id d ≡ separate_service
    → separate_in (drop 18 d) ≡ listed l t → service < separate_service → read_splice d ≡ read_splice (take 16 d ++ bytes 2 service ++ t)
unfolding read_splice tail_of rest_of
separate-reads-alike d l t service long is good other =
    let x = take 16 d ++ bytes 2 service in
    let e = x ++ t in
    let n : length x ≡ 18 = rw (length-append (take 16 d) (bytes 2 service), length-bytes 2 service, length-take-le 16 d (omega arith)) refl
    in
    let m : length e ≡ 18 + length t = length-append x t ∙ ap (λ k. k + length t) n in
    let s : service_id e ≡ service = front-field x t 16 2 (omega arith)
    ∙ ap (λ y. value (take 2 y)) (drop_at (take 16 d) (bytes 2 service) 16 (length-take-le 16 d (omega arith)))
    ∙ ap value (take_all 2 (bytes 2 service) (omega (arith, length-bytes 2 service))) ∙ value-bytes 2 service (omega arith) in
    let f : take 16 d ≡ take 16 e =
    sym (take-append-le 16 x t (omega arith) ∙ take_at (take 16 d) (bytes 2 service) 16 (length-take-le 16 d (omega arith))) in
    rw (
      le-ltb (length d) 18 (omega arith),
      le-ltb (length e) 18 (omega arith),
      eq-eqb (service_id d) separate_service is,
      good,
      ne_eqb (service_id e) separate_service (omega arith),
      drop_at x t 18 n,
    )
    (whole-alike d e f (omega arith) (omega arith) t)
