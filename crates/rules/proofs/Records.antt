-- The records that are written are those that are found in the bytes, if each field fits its width: so what is said of records is said of
-- bytes.
use mathlib.Core.Path.{◌≡◌, refl, sym, ap, ap₂, ◌∙◌}
use mathlib.Core.Bool.{false}
use mathlib.Core.List.{List, [], ◌∷◌, ◌++◌, append_assoc}
use Prim.Native.Nat.{ℕ, zero, suc, ◌+◌, ◌-◌, ◌*◌, ◌/◌, ◌%◌, ◌≤◌, ◌<◌}
use native.Mathlib.Omega.{arith}
use lib.Dec.{eqb}
use lib.ListN.{length, take, drop, length-append}
use lib.Seq.{drop_at, drop-drop, take_at}
use borrow.Author.Tests.{ne_eqb}
use Rattle.rules.specs.Bytes.{bytes, value_from, value, part, field, padded, name_in}
use Rattle.rules.specs.Records.{Record, General, InitResponse, AliveResponse, SpliceResponse, SpliceComplete, AbortResponse}
use Rattle.rules.specs.Records.{ConfigResponse, ExtendedFound, ExtendedNone, end_descriptor, CueRequest, framed, record_bytes, output}
use Rattle.rules.specs.Follows.ReadBack.{config_in, record_in, records_up_to, records_in}
use Rattle.rules.specs.Hardware.{longest_hardware}
use Rattle.rules.specs.HouseNumbers.{longest_section}
use Rattle.rules.specs.Follows.Sound.{Structure}
use Rattle.rules.proofs.All.{All, all_append}
use Rattle.rules.proofs.Bytes.{Byte, bytes-byte, value-bytes, NoZero, length-padded, name_in-padded, padded-byte}

-- the connection and the result fit a mark and a header
abbrev pub Headed : ℕ → ℕ → Type 0
Headed c r = (c < 256) × (r < 65536)

-- each field fits its width
abbrev pub Fits : Record → Type 0
Fits (General c r) = Headed c r
Fits (InitResponse c r name) = Headed c r × (length name ≤ 32) × NoZero name × All Byte name
Fits (AliveResponse c r state x t) = Headed c r × (state < 4294967296) × (x < 4294967296) × (t / 1000000 < 4294967296)
Fits (SpliceResponse c r x) = Headed c r × (x < 4294967296)
Fits (SpliceComplete c r x flag played) = Headed c r × (x < 4294967296) × (flag < 256) × (played < 4294967296)
Fits (AbortResponse c r x) = Headed c r × (x < 4294967296)
Fits (CueRequest c a u l) = (c < 256) × (a < 4294967296) × (u < 4294967296) × (length l ≤ 512) × All Byte l
Fits (ExtendedFound c x event ended played) = (c < 256) × (x < 4294967296) × (event < 4294967296) × (ended < 65536) × (played < 4294967296)
Fits (ExtendedNone c x) = (c < 256) × (x < 4294967296)
Fits (ConfigResponse c r name h m) =
    Headed c r × (length name ≤ 32) × NoZero name × All Byte name × Structure h × (length m ≤ longest_section) × All Byte m

-- ## Lengths

-- bytes of a record
abbrev pub size_of : Record → ℕ
size_of (General c r) = 10
size_of (InitResponse c r name) = 44
size_of (AliveResponse c r state x t) = 26
size_of (SpliceResponse c r x) = 14
size_of (SpliceComplete c r x flag played) = 23
size_of (AbortResponse c r x) = 14
size_of (CueRequest c a u l) = 18 + length l
size_of (ExtendedFound c x event ended played) = 30
size_of (ExtendedNone c x) = 14
size_of (ConfigResponse c r name h m) = 42 + (length h + length m)

-- a name that has 32 bytes' room, and a structure and sections that are not too long
abbrev pub Roomy : Record → Type 0
Roomy (General c r) = Unit {0}
Roomy (InitResponse c r name) = length name ≤ 32
Roomy (AliveResponse c r state x t) = Unit {0}
Roomy (SpliceResponse c r x) = Unit {0}
Roomy (SpliceComplete c r x flag played) = Unit {0}
Roomy (AbortResponse c r x) = Unit {0}
Roomy (CueRequest c a u l) = length l ≤ 512
Roomy (ExtendedFound c x event ended played) = Unit {0}
Roomy (ExtendedNone c x) = Unit {0}
Roomy (ConfigResponse c r name h m) = (length name ≤ 32) × (length h ≤ longest_hardware) × (length m ≤ longest_section)

pub fits-roomy : (r : Record) → Fits r → Roomy r
fits-roomy (General c r) f = tt
fits-roomy (InitResponse c r name) f = f.1
fits-roomy (AliveResponse c r state x t) f = tt
fits-roomy (SpliceResponse c r x) f = tt
fits-roomy (SpliceComplete c r x flag played) f = tt
fits-roomy (AbortResponse c r x) f = tt
fits-roomy (CueRequest c a u l) f = f.3
fits-roomy (ExtendedFound c x event ended played) f = tt
fits-roomy (ExtendedNone c x) f = tt
fits-roomy (ConfigResponse c r name h m) f = (f.1, f.4.short, f.5)

-- the data of a GetConfig_Response
abbrev config : (name h m : List ℕ) → List ℕ
config name h m = padded name ++ (h ++ m)

length-config : (name h m : List ℕ) → length name ≤ 32 → length (config name h m) ≡ 32 + (length h + length m)
length-config name h m l = omega (arith, length-append (padded name) (h ++ m), length-append h m, length-padded name l)

pub length-record : (r : Record) → Roomy r → length (record_bytes r) ≡ size_of r
unfolding record_bytes framed bytes
length-record (General c r) h = refl
length-record (InitResponse c r name) h = rw length-padded
length-record (AliveResponse c r state x t) h = refl
length-record (SpliceResponse c r x) h = refl
length-record (SpliceComplete c r x flag played) h = refl
length-record (AbortResponse c r x) h = refl
length-record (CueRequest c a u l) h = omega arith
length-record (ExtendedFound c x event ended played) h = refl
length-record (ExtendedNone c x) h = refl
length-record (ConfigResponse c r name s m) h = omega (arith, length-config name s m h.0)

-- ## Read back

three : {A B C D : Type 0} (f : A → B → C → D) {a a' : A} {b b' : B} {c c' : C} → a ≡ a' → b ≡ b' → c ≡ c' → f a b c ≡ f a' b' c'
three f p q r = λ i. f (p i) (q i) (r i)

four : {D : Type 0} (f : ℕ → ℕ → ℕ → List ℕ → D) {a a' b b' c c' : ℕ} {d d' : List ℕ} → a ≡ a' → b ≡ b' → c ≡ c' → d ≡ d'
    → f a b c d ≡ f a' b' c' d'
four f p q r s = λ i. f (p i) (q i) (r i) (s i)

five : {D : Type 0} (f : ℕ → ℕ → ℕ → ℕ → ℕ → D) {a a' b b' c c' d d' e e' : ℕ} → a ≡ a' → b ≡ b' → c ≡ c' → d ≡ d' → e ≡ e'
    → f a b c d e ≡ f a' b' c' d' e'
five f p q r s t = λ i. f (p i) (q i) (r i) (s i) (t i)

-- a GetConfig_Response: from its Hardware_Config on, whose Length says where the section begins
module _ (c r : ℕ) (name h m more : List ℕ) (l : length name ≤ 32) where
  abbrev whole : List ℕ
  whole = framed c 0x000B r (config name h m) ++ more

  from-hardware : drop 42 whole ≡ h ++ (m ++ more)
  unfolding framed bytes
  from-hardware =
      ap (drop 32) (append_assoc (padded name) (h ++ m) more ∙ ap (λ x. padded name ++ x) (append_assoc h m more))
      ∙ drop_at (padded name) (h ++ (m ++ more)) 32 (length-padded name l)

  hardware-long : Structure h → 2 + field 42 2 whole ≡ length h
  hardware-long s =
      ap (λ x. 2 + value (take 2 x)) from-hardware
      ∙ ap (λ x. 2 + value x) (front h (m ++ more) (omega (arith, s.whole)))
      ∙ sym s.whole
    where
      front : (x y : List ℕ) → 2 ≤ length x → take 2 (x ++ y) ≡ take 2 x
      front [] y k = absurd (omega arith)
      front (a ∷ []) y k = absurd (omega arith)
      front (a ∷ b ∷ x) y k = refl

  size_back : length h ≤ longest_hardware → length m ≤ longest_section → field 4 2 whole ≡ 32 + (length h + length m)
  unfolding framed bytes value value_from
  size_back i j =
      let n = length-config name h m l in
      value-bytes 2 (length (config name h m)) (omega arith) ∙ n

  config-at : (n : ℕ) → n ≡ length h → field 4 2 whole ≡ 32 + (length h + length m) → NoZero name → (c < 256) × (r < 65536)
      → config_in (field 1 1 whole) (field 6 2 whole) n whole ≡ ConfigResponse c r name h m
  unfolding framed bytes value value_from
  config-at n e k z low =
      let names : part 10 32 whole ≡ padded name =
      ap (take 32) (append_assoc (padded name) (h ++ m) more) ∙ take_at (padded name) ((h ++ m) ++ more) 32 (length-padded name l) in
      let hard : part 42 n whole ≡ h = ap (take n) from-hardware ∙ take_at h (m ++ more) n (sym e) in
      let rest : drop (42 + n) whole ≡ m ++ more = sym (drop-drop n 42 whole) ∙ ap (drop n) from-hardware
      ∙ drop_at h (m ++ more) n (sym e) in
      let section : part (42 + n) (field 4 2 whole - (32 + n)) whole ≡ m =
      ap (take (field 4 2 whole - (32 + n))) rest ∙ take_at m more (field 4 2 whole - (32 + n)) (omega (arith, e, k)) in
      λ i. ConfigResponse (value-bytes 1 c low.0 i) (value-bytes 2 r low.1 i) ((ap name_in names ∙ name_in-padded name z) i) (hard i)
      (section i)

-- the record that stands first is found
pub record-back : (r : Record) → Fits r → (more : List ℕ) → record_in (record_bytes r ++ more) ≡ r
unfolding record_in record_bytes framed bytes value value_from
record-back (General c r) f more = ap₂ General (value-bytes 1 c f.0) (value-bytes 2 r f.1)
record-back (InitResponse c r name) f more =
    three InitResponse (value-bytes 1 c f.0.0) (value-bytes 2 r f.0.1)
    (ap name_in (take_at (padded name) more 32 (length-padded name f.1)) ∙ name_in-padded name f.2)
record-back (AliveResponse c r state x t) f more =
    let s : value (bytes 4 (t / 1000000)) ≡ t / 1000000 = value-bytes 4 (t / 1000000) f.3 in
    let u : value (bytes 4 (t % 1000000)) ≡ t % 1000000 = value-bytes 4 (t % 1000000) (omega arith) in
    five AliveResponse (value-bytes 1 c f.0.0) (value-bytes 2 r f.0.1) (value-bytes 4 state f.1) (value-bytes 4 x f.2)
    (ap₂ (λ a b. a * 1000000 + b) s u ∙ omega arith)
record-back (SpliceResponse c r x) f more =
    three SpliceResponse (value-bytes 1 c f.0.0) (value-bytes 2 r f.0.1) (value-bytes 4 x f.1)
record-back (SpliceComplete c r x flag played) f more =
    five SpliceComplete (value-bytes 1 c f.0.0) (value-bytes 2 r f.0.1) (value-bytes 4 x f.1) (value-bytes 1 flag f.2)
    (value-bytes 4 played f.3)
record-back (AbortResponse c r x) f more =
    three AbortResponse (value-bytes 1 c f.0.0) (value-bytes 2 r f.0.1) (value-bytes 4 x f.1)
record-back (CueRequest c a u l) f more =
    let n = length (bytes 4 a ++ (bytes 4 u ++ l)) in
    four CueRequest (value-bytes 1 c f.0) (value-bytes 4 a f.1) (value-bytes 4 u f.2)
    (ap (λ k. take (k - 8) (l ++ more)) (value-bytes 2 n (omega (arith, f.3))) ∙ take_at l more (n - 8) (omega arith))
record-back (ExtendedFound c x event ended played) f more =
    five ExtendedFound (value-bytes 1 c f.0) (value-bytes 4 x f.1) (value-bytes 4 event f.2) (value-bytes 2 ended f.3)
    (value-bytes 4 played f.4)
record-back (ExtendedNone c x) f more = ap₂ ExtendedNone (value-bytes 1 c f.0) (value-bytes 4 x f.1)
record-back (ConfigResponse c r name h m) f more =
    config-at c r name h m more f.1 _ (hardware-long c r name h m more f.1 f.4)
    (size_back c r name h m more f.1 f.4.short f.5) f.2 f.0

-- what stands behind a framed body
frame-rest : (c id r : ℕ) (d more : List ℕ) → length d < 65536 → drop (10 + field 4 2 (framed c id r d ++ more)) (framed c id r d ++ more)
    ≡ more
unfolding framed bytes value value_from
frame-rest c id r d more h =
    ap (λ n. drop (10 + n) (framed c id r d ++ more)) (value-bytes 2 (length d) h)
    ∙ drop_at (framed c id r d) more (10 + length d) (omega arith)

rest_back : (r : Record) → Roomy r → (more : List ℕ) → drop (10 + field 4 2 (record_bytes r ++ more)) (record_bytes r ++ more) ≡ more
unfolding record_bytes bytes
rest_back (General c r) h more = frame-rest c 0x0000 r [] more (omega arith)
rest_back (InitResponse c r name) h more = frame-rest c 0x0002 r (bytes 2 2 ++ padded name) more (omega (arith, length-padded name h))
rest_back (AliveResponse c r state x t) h more =
    frame-rest c 0x0006 r (bytes 4 state ++ (bytes 4 x ++ (bytes 4 (t / 1000000) ++ bytes 4 (t % 1000000)))) more (omega arith)
rest_back (SpliceResponse c r x) h more = frame-rest c 0x0008 r (bytes 4 x) more (omega arith)
rest_back (SpliceComplete c r x flag played) h more =
    frame-rest c 0x0009 r (bytes 4 x ++ (bytes 1 flag ++ (bytes 4 0 ++ bytes 4 played))) more (omega arith)
rest_back (AbortResponse c r x) h more = frame-rest c 0x000F r (bytes 4 x) more (omega arith)
rest_back (CueRequest c a u l) h more = frame-rest c 0x000C 0xFFFF (bytes 4 a ++ (bytes 4 u ++ l)) more (omega arith)
rest_back (ExtendedFound c x event ended played) h more =
    frame-rest c 0x0004 100 (bytes 4 x ++ end_descriptor event ended played) more (omega arith)
rest_back (ExtendedNone c x) h more = frame-rest c 0x0004 121 (bytes 4 x) more (omega arith)
rest_back (ConfigResponse c r name s m) h more =
    frame-rest c 0x000B r (config name s m) more (omega (arith, length-config name s m h.0, h.1, h.2))

size-positive : (r : Record) → 0 < size_of r
size-positive (General c r) = omega arith
size-positive (InitResponse c r name) = omega arith
size-positive (AliveResponse c r state x t) = omega arith
size-positive (SpliceResponse c r x) = omega arith
size-positive (SpliceComplete c r x flag played) = omega arith
size-positive (AbortResponse c r x) = omega arith
size-positive (CueRequest c a u l) = omega arith
size-positive (ExtendedFound c x event ended played) = omega arith
size-positive (ExtendedNone c x) = omega arith
size-positive (ConfigResponse c r name h m) = omega arith

pub length-output : (r : Record) (rs : List Record) → Roomy r → length (output (r ∷ rs)) ≡ size_of r + length (output rs)
unfolding output
length-output r rs h = length-append (record_bytes r) (output rs) ∙ omega (arith, length-record r h)

back-up_to : (n : ℕ) (rs : List Record) → All Fits rs → length rs ≤ n → records_up_to n (output rs) ≡ rs
unfolding records_up_to output
back-up_to zero [] a h = refl
back-up_to (suc n) [] a h = refl
back-up_to zero (r ∷ rs) a h = absurd (omega arith)
back-up_to (suc n) (r ∷ rs) a h =
    let l = fits-roomy r a.0 in
    let e : eqb (length (record_bytes r ++ output rs)) 0 ≡ false =
    ne_eqb (length (record_bytes r ++ output rs)) 0 (λ z. omega (arith, length-output r rs l, size-positive r)) in
    rw e (ap₂ ◌∷◌ (record-back r a.0 (output rs)) (rw (rest_back r l (output rs)) (back-up_to n rs a.1 (omega arith))))

enough : (rs : List Record) → All Fits rs → length rs ≤ length (output rs)
unfolding output
enough [] a = omega arith
enough (r ∷ rs) a = omega (arith, length-output r rs (fits-roomy r a.0), size-positive r, enough rs a.1)

-- what was written is found in the bytes, in its order
pub read_back : (rs : List Record) → All Fits rs → records_in (output rs) ≡ rs
unfolding records_in
read_back rs a = back-up_to (length (output rs)) rs a (enough rs a)

-- ## Bytes

frame_byte : (c id r : ℕ) (d : List ℕ) → All Byte d → All Byte (framed c id r d)
unfolding framed
frame_byte c id r d a = (
  omega arith,
  all_append Byte (bytes 1 c) _ (bytes-byte 1 c)
      (all_append Byte (bytes 2 id) _ (bytes-byte 2 id)
      (all_append Byte (bytes 2 (length d)) _ (bytes-byte 2 (length d))
      (all_append Byte (bytes 2 r) _ (bytes-byte 2 r) (all_append Byte (bytes 2 0xFFFF) d (bytes-byte 2 0xFFFF) a)))),
)

pub record-byte : (r : Record) → Fits r → All Byte (record_bytes r)
unfolding record_bytes
record-byte (General c r) f = frame_byte c 0x0000 r [] tt
record-byte (InitResponse c r name) f =
    frame_byte c 0x0002 r (bytes 2 2 ++ padded name) (all_append Byte (bytes 2 2) (padded name) (bytes-byte 2 2) (padded-byte name f.3))
record-byte (AliveResponse c r state x t) f =
    let u = all_append Byte (bytes 4 (t / 1000000)) _ (bytes-byte 4 (t / 1000000)) (bytes-byte 4 (t % 1000000)) in
    frame_byte c 0x0006 r _ (all_append Byte (bytes 4 state) _ (bytes-byte 4 state) (all_append Byte (bytes 4 x) _ (bytes-byte 4 x) u))
record-byte (SpliceResponse c r x) f = frame_byte c 0x0008 r (bytes 4 x) (bytes-byte 4 x)
record-byte (SpliceComplete c r x flag played) f =
    let p = all_append Byte (bytes 4 0) _ (bytes-byte 4 0) (bytes-byte 4 played) in
    frame_byte c 0x0009 r _ (all_append Byte (bytes 4 x) _ (bytes-byte 4 x) (all_append Byte (bytes 1 flag) _ (bytes-byte 1 flag) p))
record-byte (AbortResponse c r x) f = frame_byte c 0x000F r (bytes 4 x) (bytes-byte 4 x)
record-byte (CueRequest c a u l) f =
    frame_byte c 0x000C 0xFFFF _ (all_append Byte (bytes 4 a) _ (bytes-byte 4 a) (all_append Byte (bytes 4 u) l (bytes-byte 4 u) f.4))
record-byte (ExtendedFound c x event ended played) f =
    let p = all_append Byte (bytes 4 event) _ (bytes-byte 4 event)
    (all_append Byte (bytes 2 ended) _ (bytes-byte 2 ended) (bytes-byte 4 played)) in
    let d = all_append Byte (bytes 1 14) _ (bytes-byte 1 14) (all_append Byte (bytes 4 0x43415244) _ (bytes-byte 4 0x43415244) p) in
    frame_byte c 0x0004 100 _ (all_append Byte (bytes 4 x) _ (bytes-byte 4 x) (all_append Byte (bytes 1 0x01) _ (bytes-byte 1 0x01) d))
record-byte (ExtendedNone c x) f = frame_byte c 0x0004 121 (bytes 4 x) (bytes-byte 4 x)
record-byte (ConfigResponse c r name h m) f =
    frame_byte c 0x000B r (config name h m) (all_append Byte (padded name) (h ++ m) (padded-byte name f.3)
    (all_append Byte h m f.4.bytes f.6))

pub output-byte : (rs : List Record) → All Fits rs → All Byte (output rs)
unfolding output
output-byte [] a = tt
output-byte (r ∷ rs) a = all_append Byte (record_bytes r) (output rs) (record-byte r a.0) (output-byte rs a.1)
