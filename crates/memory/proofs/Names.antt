-- How a name is kept: its bytes before the first zero, over zeros; and how a connection's structure is. Assumes nothing.
use mathlib.Core.Path.{◌≡◌, refl, sym, ap, ap₂, subst, ◌∙◌}
use mathlib.Core.Bool.{Bool, true, false}
use mathlib.Core.List.{List, [], ◌∷◌, ◌++◌, append_assoc}
use Prim.Native.Nat.{ℕ, suc, ◌+◌, ◌-◌, ◌*◌, ◌≤◌, ◌<◌}
use native.Mathlib.Omega.{arith}
use native.Mathlib.Numerals.{add-one}
use native.Mathlib.Nat.{zero-add}
use lib.Dec.{eqb, ltb}
use lib.ListN.{length, get_or, take, drop, set, length-set, length-append, length-drop, length-replicate, replicate-append-replicate}
use lib.ListN.{drop_of_length-le}
use lib.Seq.{length-take-le, take_all, drop-cons, drop_at, drop-drop, take_at, paste, paste-suc, ext_get_or, get_or-set_same}
use lib.Seq.{get_or-set_other}
use borrow.Rule.Slice.PartMut.{put_mid}
use borrow.Author.Tests.{eq-eqb, ne_eqb, eqb-true, eqb-false, ltb-true, ltb-false}
use Rattle.rules.specs.Lists.{All}
use Rattle.rules.specs.Bytes.{part, value, value_from, name_in, padded}
use Rattle.rules.specs.Follows.Wires.{NoZero}
use Rattle.rules.specs.Hardware.{longest_hardware, length_in, structure_in}
use Rattle.rules.specs.State.{no_hardware}
use Rattle.rules.specs.Follows.Sound.{Structure}
use Rattle.rules.proofs.Tests.{by}
use Rattle.rules.proofs.Bytes.{length-padded, name_in-padded, name_in-zero}
use Rattle.places.specs.Places.{zeros}
use Rattle.memory.specs.Memory.{connections, bytes, name_size, name_bytes, name_of, kept_from, kept_bytes, kept_of, spread, Spread, Stored}
use Rattle.memory.specs.Memory.{Holds, Named}
use Rattle.memory.proofs.Laws.{drop-zeros, part-zeros, length-put, put-here, put-before, put-behind, kept_at}

-- ## The search: i bytes are passed, none of them zero

abbrev pub Passed : List ℕ → ℕ → Type 0
Passed l i = (i ≤ length l) × (length (name_in l) ≡ i + length (name_in (drop i l)))

pub passed-more : (l : List ℕ) (i : ℕ) → i < length l → (get_or l i 0 ≡ 0 → ⊥) → Passed l i → Passed l (i + 1)
passed-more l i h n p =
    let e : length (name_in (drop i l)) ≡ suc (length (name_in (drop (i + 1) l))) =
    rw (drop-cons l i 0 h, add-one, ne_eqb 0 (get_or l i 0) (λ z. n (sym z))) refl in
    (omega arith, omega (arith, p.1))

pub passed-zero : (l : List ℕ) (i : ℕ) → i < length l → get_or l i 0 ≡ 0 → Passed l i → i ≡ length (name_in l)
passed-zero l i h z p =
    let e : length (name_in (drop i l)) ≡ 0 = rw (drop-cons l i 0 h, eq-eqb 0 (get_or l i 0) (sym z)) refl in
    omega (arith, p.1)

pub passed-all : (l : List ℕ) (i : ℕ) → length l ≤ i → Passed l i → i ≡ length (name_in l)
passed-all l i h p =
    let e : length (name_in (drop i l)) ≡ 0 = rw (drop_of_length-le l {i = i} h) refl in
    omega (arith, p.1)

-- ## The copy

pub name-front : (l : List ℕ) → take (length (name_in l)) l ≡ name_in l
name-front [] = refl
name-front (b ∷ l) = by (λ (x : List ℕ). take (length x) (b ∷ l) ≡ x) (eqb 0 b) [] (b ∷ name_in l) (λ e. refl)
    (λ e. ap (λ z. b ∷ z) (name-front l))

pub name-short : (l : List ℕ) → length (name_in l) ≤ length l
name-short [] = omega arith
name-short (b ∷ l) = by (λ (x : List ℕ). length x ≤ length (b ∷ l)) (eqb 0 b) [] (b ∷ name_in l) (λ e. omega arith)
    (λ e. omega (arith, name-short l))

pub copied : (e l : List ℕ) (i : ℕ) (o : List ℕ) → i < length e → i < length l → o ≡ paste e 0 l i
    → set o i (get_or l i 0) ≡ paste e 0 l (i + 1)
copied e l i o h k w =
    let z : 0 + i ≡ i = omega arith in
    rw (w, add-one) (ap (λ j. set (paste e 0 l i) j (get_or l i 0)) (sym z) ∙ paste-suc e 0 l i 0 (omega arith) k)

-- ## 02, CR 6: the structures that are kept

-- a structure in a connection's bytes is found there
module _ (h : List ℕ) (whole : length h ≡ 2 + length_in h) (short : length h ≤ longest_hardware) where
  length-spread : length (spread h) ≡ longest_hardware
  length-spread = simp (length-append, length-replicate) (omega arith)

  length-in : length_in (spread h) ≡ length_in h
  length-in = ap value (front h _ (omega (arith, whole)))
    where
      front : (x y : List ℕ) → 2 ≤ length x → take 2 (x ++ y) ≡ take 2 x
      front [] y k = absurd (omega arith)
      front (a ∷ []) y k = absurd (omega arith)
      front (a ∷ b ∷ x) y k = refl

  pub found_in : structure_in (spread h) ≡ h
  found_in = take_at h _ (2 + length_in (spread h)) (omega (arith, length-in, whole))

  pub spread-in : Spread (spread h)
  spread-in = record { fits = omega (arith, length-in, whole); zeros = ap spread (sym found_in) }

-- the bytes of connection c, as code takes them
pub kept-part : (b : List ℕ) (c : ℕ) → Stored b → c ≤ 3 → let x = part (kept_from c) (kept_from c + longest_hardware - kept_from c) b in
    (structure_in x ≡ get_or (kept_of b) c no_hardware) × ((2 + length_in x ≤ length x) × (length x ≡ longest_hardware))
kept-part b c s low =
    let e : kept_from c + longest_hardware - kept_from c ≡ longest_hardware = omega arith in
    let l : length (kept_bytes c b) ≡ longest_hardware = length-take-le longest_hardware (drop (kept_from c) b)
    (omega (arith, s.whole, length-drop (kept_from c) b)) in
    rw e (sym (kept_at b c low), (omega (arith, (s.kept c low).fits), l))

-- there are all of them
pub kept-long : (b : List ℕ) (c : ℕ) → Stored b → c ≤ 3
    → length (part (kept_from c) (kept_from c + longest_hardware - kept_from c) b) ≡ longest_hardware
kept-long b c s low = (kept-part b c s low).1.1

-- a structure over zeros
pub spread-over : (h : List ℕ) → length h ≤ longest_hardware → paste (zeros longest_hardware) 0 h (length h) ≡ spread h
spread-over h k =
    rw zero-add (ap₂ (λ x y. x ++ y) (take_all (length h) h (omega arith)) (drop-zeros (length h) longest_hardware))

none-long : length no_hardware ≡ 2 + length_in no_hardware
unfolding value value_from
none-long = refl

-- h in place of what connection c kept
pub kept-now : (b : List ℕ) (c : ℕ) (h : List ℕ) → Stored b → c ≤ 3 → length h ≡ 2 + length_in h → length h ≤ longest_hardware
    → Holds (put_mid (kept_from c) (kept_from c + longest_hardware - kept_from c) b (spread h)) (name_of b) (set (kept_of b) c h)
kept-now b c h s low whole short =
    record {
      stored = record {
        whole = length-put b y a e (omega arith) inside long ∙ s.whole;
        name = name ∙ s.name ∙ ap (λ x. padded (name_in x)) (sym name);
        kept = λ d k. go d k (eqb d c) refl;
      };
      name = ap name_in name;
      kept = ext_get_or no_hardware (kept_of o) (set (kept_of b) c h) (sym (length-set (kept_of b) c h))
          (λ d k. at d (omega arith) (eqb d c) refl);
    }
  where
    a : ℕ
    a = kept_from c

    e : ℕ
    e = kept_from c + longest_hardware

    y : List ℕ
    y = spread h

    o : List ℕ
    o = put_mid a (e - a) b y

    inside : e ≤ length b
    inside = omega (arith, s.whole)

    long : length y ≡ e - a
    long = omega (arith, length-spread h whole short)

    name : name_bytes o ≡ name_bytes b
    name = put-before b y a e (omega arith) inside long 0 name_size (omega arith)

    other : (d : ℕ) → d ≤ 3 → (d ≡ c → ⊥) → kept_bytes d o ≡ kept_bytes d b
    other d k n = side (ltb d c) refl
      where
        side : (t : Bool) → ltb d c ≡ t → kept_bytes d o ≡ kept_bytes d b
        side true f = let lt = ltb-true d c f in put-before b y a e (omega arith) inside long (kept_from d) longest_hardware (omega arith)
        side false f = let le = ltb-false d c f in put-behind b y a e (omega arith) inside long (kept_from d) longest_hardware (omega arith)

    own : kept_bytes c o ≡ y
    own =
        let i : e - a ≡ longest_hardware = omega arith in
        ap (λ k. part a k o) (sym i) ∙ put-here b y a e (omega arith) inside long

    go : (d : ℕ) → d ≤ 3 → (t : Bool) → eqb d c ≡ t → Spread (kept_bytes d o)
    go d k true f = rw (eqb-true d c f, own) (spread-in h whole short)
    go d k false f = rw (other d k (eqb-false d c f)) (s.kept d k)

    at : (d : ℕ) → d ≤ 3 → (t : Bool) → eqb d c ≡ t → get_or (kept_of o) d no_hardware ≡ get_or (set (kept_of b) c h) d no_hardware
    at d k true f =
        let i = eqb-true d c f in
        rw i (kept_at o c low ∙ ap structure_in own ∙ found_in h whole short ∙ sym
        (get_or-set_same (kept_of b) c h no_hardware (omega arith)))
    at d k false f =
        let n = eqb-false d c f in
        kept_at o d k ∙ ap structure_in (other d k n) ∙ sym (kept_at b d k) ∙ sym (get_or-set_other (kept_of b) c d h no_hardware n)

-- zeros, where nothing is kept
pub forgotten : (b : List ℕ) (c : ℕ) → Stored b → c ≤ 3
    → Holds (put_mid (kept_from c) (kept_from c + longest_hardware - kept_from c) b (zeros longest_hardware)) (name_of b)
    (set (kept_of b) c no_hardware)
forgotten b c s low = kept-now b c no_hardware s low none-long (omega arith)

-- ## What is left holds that name, and structures

-- the bytes of a name where nothing is kept
abbrev pub blank : List ℕ → List ℕ
blank x = padded x ++ zeros (bytes - name_size)

pub named : (x : List ℕ) → NoZero x → length x ≤ name_size → Named (blank x) x
named x z h =
    record {
      stored = record {
        whole = omega (arith, length-append (padded x) (zeros (bytes - name_size)), long, length-replicate {A = ℕ} (bytes - name_size) 0);
        name = front ∙ ap padded (sym n);
        kept = λ c low. rw (slot c low) (spread-in no_hardware none-long (omega arith));
      };
      name = n;
      kept = λ i. none 0 (omega arith) i ∷ none 1 (omega arith) i ∷ none 2 (omega arith) i ∷ none 3 (omega arith) i ∷ [];
    }
  where
    long : length (padded x) ≡ name_size
    long = length-padded x h

    front : name_bytes (blank x) ≡ padded x
    front = take_at (padded x) (zeros (bytes - name_size)) name_size long

    n : name_of (blank x) ≡ x
    n = ap name_in front ∙ name_in-padded x z

    slot : (c : ℕ) → c ≤ 3 → kept_bytes c (blank x) ≡ spread no_hardware
    slot c low =
        ap (take longest_hardware) (sym (drop-drop (c * longest_hardware) name_size (blank x))
        ∙ ap (drop (c * longest_hardware)) (drop_at (padded x) (zeros (bytes - name_size)) name_size long))
        ∙ part-zeros (c * longest_hardware) longest_hardware (bytes - name_size) (omega arith)

    none : (c : ℕ) → c ≤ 3 → structure_in (kept_bytes c (blank x)) ≡ no_hardware
    none c low = ap structure_in (slot c low) ∙ found_in no_hardware none-long (omega arith)

pub kept : (l : List ℕ) (n : ℕ) → length l ≡ name_size → n ≡ length (name_in l) → Named (paste (zeros bytes) 0 l n) (name_in l)
kept l n w e =
    let x = name_in l in
    let k : bytes - length x ≡ name_size - length x + (bytes - name_size) = omega (arith, name-short l) in
    let p : paste (zeros bytes) 0 l n ≡ blank x =
    rw (e, zero-add) (ap (λ y. y ++ drop (length x) (zeros bytes)) (name-front l)
    ∙ ap (λ y. x ++ y) (drop-zeros (length x) bytes ∙ split (name_size - length x) (bytes - name_size) _ k)
    ∙ sym (append_assoc x (zeros (name_size - length x)) (zeros (bytes - name_size)))) in
    subst (λ (b : List ℕ). Named b x) (sym p) (named x (name_in-zero l) (omega (arith, name-short l)))
  where
    split : (i j n : ℕ) → n ≡ i + j → zeros n ≡ zeros i ++ zeros j
    split i j n e = ap zeros e ∙ sym (replicate-append-replicate {A = ℕ} i j 0)

-- an empty name: all bytes are zeros
pub cleared : Named (zeros bytes) []
cleared = subst (λ (b : List ℕ). Named b []) (replicate-append-replicate {A = ℕ} name_size (bytes - name_size) 0)
    (named [] refl (omega arith))

-- the bytes of a name and of four structures
abbrev with-kept : ℕ → List ℕ → List ℕ → List ℕ
with-kept c h b = put_mid (kept_from c) (kept_from c + longest_hardware - kept_from c) b (spread h)

pub standing : List ℕ → List (List ℕ) → List ℕ
standing x l =
    with-kept 3 (get_or l 3 no_hardware) (with-kept 2 (get_or l 2 no_hardware)
    (with-kept 1 (get_or l 1 no_hardware) (with-kept 0 (get_or l 0 no_hardware) (blank x))))

-- one more
more : (b x : List ℕ) (k : List (List ℕ)) (c : ℕ) (h : List ℕ) → Holds b x k → c ≤ 3 → Structure h → Holds (with-kept c h b) x (set k c h)
more b x k c h f low s =
    let n = kept-now b c h f.stored low s.whole s.short in
    record { stored = n.stored; name = n.name ∙ f.name; kept = n.kept ∙ ap (λ l. set l c h) f.kept }

pub stands : (x : List ℕ) (l : List (List ℕ)) → NoZero x → length x ≤ name_size → length l ≡ connections → All Structure l
    → Holds (standing x l) x l
unfolding standing
stands x (h ∷ i ∷ j ∷ k ∷ []) z s w a =
    more _ x _ 3 k (more _ x _ 2 j (more _ x _ 1 i (more _ x _ 0 h (named x z s) (omega arith) a.0) (omega arith) a.1.0)
    (omega arith) a.1.1.0) (omega arith) a.1.1.1.0
stands x [] z s w a = absurd (omega arith)
stands x (h ∷ []) z s w a = absurd (omega arith)
stands x (h ∷ i ∷ []) z s w a = absurd (omega arith)
stands x (h ∷ i ∷ j ∷ []) z s w a = absurd (omega arith)
stands x (h ∷ i ∷ j ∷ k ∷ m ∷ l) z s w a = absurd (omega arith)
