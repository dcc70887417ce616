-- What each change of the words leaves of all else, and that what memory shows determines every word and byte.
-- Rests on the laws of parts of lists, and on places' words_same: the sessions and the zeros before them determine their words.
use mathlib.Core.Path.{◌≡◌, refl, sym, ap, subst, ◌∙◌}
use mathlib.Core.Bool.{Bool, true, false, not}
use mathlib.Core.List.{List, [], ◌∷◌, ◌++◌, map}
use Prim.Native.Nat.{ℕ, zero, suc, ◌+◌, ◌-◌, ◌*◌, ◌%◌, ◌≤◌, ◌<◌}
use native.Mathlib.Omega.{arith}
use lib.Dec.{eqb}
use lib.ListN.{length, take, drop, set, get_or, replicate, length-set, length-replicate, length-drop, take-append-drop, get_or-map}
use lib.Seq.{length-take-le, take_all, take_at, drop_at, take-add, take-take, take-set-lt, take-set-le, drop-drop, drop-cons, get_or-take}
use lib.Seq.{get_or-drop, drop-set-lt, drop-set-add, get_or-set_same, get_or-set_other, set-get_or, ext_get_or}
use borrow.Rule.Slice.PartMut.{put_mid, post_of, same_len_mid, mid_len, take_put, drop_put}
use borrow.Author.Tests.{eqb-true, eqb-false, eq-eqb, ne_eqb, le-ltb}
use Rattle.rules.specs.declared.Ninths.{Ninths}
use Rattle.std.specs.Prelude.{Some}
use Rattle.rules.specs.declared.Session.{Session}
use Rattle.rules.specs.declared.Past.{Past}
use Rattle.rules.specs.declared.Link.{Link}
use Rattle.rules.specs.declared.Link.TheVariants.{Closed, Opened, Initialised}
use Rattle.rules.specs.Lists.{All, bit, count, keep, omit, insert_at, remove_at}
use Rattle.rules.specs.Bytes.{part, padded}
use Rattle.rules.specs.Splicing.{waits}
use Rattle.rules.specs.State.{Queue, Splicer, empty, no_hardware, of, sooner, earliest, with_waiting, with_lately, Lately}
use Rattle.rules.specs.Follows.Wires.{Sorted}
use Rattle.rules.specs.Recent.{most_kept}
use Rattle.rules.specs.Recent.{unused, remembered, recent_at}
use Rattle.rules.specs.Hardware.{longest_hardware, structure_in}
use Rattle.rules.specs.Follows.Sound.{Each, Proper, Holding}
use Rattle.rules.proofs.All.{all_replicate, all-into}
use Rattle.rules.proofs.Count.{count-insert_at, count-remove_at, count-omitted, count-other, count-split, length-split}
use Rattle.rules.proofs.Tick.{earliest-first, earliest-start, sooner-second}
use Rattle.rules.proofs.Every.{each_at, all_get_d, all-insert_at, all_keep, none-all, fewer-all, fewer-remove_at}
use Rattle.places.specs.Places.{Lot, lot, Good, used, width, capacity, zeros, Ring, next, least_end}
use Rattle.places.proofs.Laws.{length-used, words_same, cleared, cleared-none, Leading, least-leads}
use Rattle.places.proofs.Words.{spare-none}
use Rattle.places.proofs.Ring.{ring-full}
use Rattle.memory.specs.declared.Which.{Which}
use Rattle.memory.proofs.Late.{past_at, pasts-at, late-same, none-late, written5, length5, far5, late_after, late-after}
use Rattle.memory.specs.declared.Which.TheVariants.{Waiting, Started}
use Rattle.memory.specs.Memory.{clock_word, slot_of, ring_word, primary_word, first_count, first_link, connections, places_of, from_of}
use Rattle.memory.specs.Memory.{to_of}
use Rattle.memory.specs.Memory.{span_of, words, word_of, link_in, IsLink, links_of, counts_of, ring_of, lot_of, sessions, OfFour, tallied}
use Rattle.memory.specs.Memory.{Form, Memory, see, Now, first_past, past_width, past_words, next_word, late_size, late_of, next_in}
use Rattle.memory.specs.Memory.{lately_in}
use Rattle.memory.specs.Memory.{recalling, past_from, ended_in}
use Rattle.memory.specs.Memory.{timed, silenced, linked, list_of, relisted, onward, nothing_shown, name_size, bytes, name_bytes, name_of}
use Rattle.memory.specs.Memory.{kept_from, kept_bytes, kept_of, spread, Stored, Whole, shown}

-- a list of the words is that list of the queue that they show
pub sessions-list : (v : Which) (m : List ℕ) → sessions v m ≡ list_of v (see m).queue
sessions-list Waiting m = refl
sessions-list Started m = refl

-- ## Parts of words

cut : (b j : ℕ) (x : List ℕ) → b ≤ length x → part b j x ≡ drop b (take (b + j) x)
cut b j x h = sym (ap (drop b) (take-add b j x) ∙ drop_at (take b x) (take j (drop b x)) b (length-take-le b x h))

put-word' : (m ys : List ℕ) (a k : ℕ) → a ≤ length m → (i : ℕ) → i < a → get_or (put_mid a k m ys) i 0 ≡ get_or m i 0
put-word' m ys a k h i j =
    sym (get_or-take a (put_mid a k m ys) i 0 j) ∙ ap (λ z. get_or z i 0) (take_put a k m ys h) ∙ get_or-take a m i 0 j

-- ys in place of the part from a to e
module _ (m ys : List ℕ) (a e : ℕ) (h : a ≤ e) (g : e ≤ length m) (l : length ys ≡ e - a) where
  abbrev put : List ℕ
  put = put_mid a (e - a) m ys

  pub length-put : length put ≡ length m
  length-put = same_len_mid a (e - a) m ys (omega (arith, l, mid_len a e m g))

  pub put-here : part a (e - a) put ≡ ys
  put-here =
      ap (take (e - a)) (drop_at (take a m) (ys ++ post_of a (e - a) m) a (length-take-le a m (omega arith)))
      ∙ take_at ys (post_of a (e - a) m) (e - a) l

  pub put-before : (b j : ℕ) → b + j ≤ a → part b j put ≡ part b j m
  put-before b j i =
      cut b j put (omega (arith, length-put))
      ∙ ap (drop b) (sym (take-take (b + j) a put i) ∙ ap (take (b + j)) (take_put a (e - a) m ys (omega arith)) ∙ take-take (b + j) a m i)
      ∙ sym (cut b j m (omega arith))

  pub put-behind : (b j : ℕ) → e ≤ b → part b j put ≡ part b j m
  put-behind b j i =
      let q : e + (b - e) ≡ b = omega arith in
      ap (take j) (
      ap (λ k. drop k put) (sym q)
      ∙ sym (drop-drop (b - e) e put)
      ∙ ap (drop (b - e)) (drop_put a e m ys h g l)
      ∙ drop-drop (b - e) e m
      ∙ ap (λ k. drop k m) q
      )

  put_word : (i : ℕ) → i < a → get_or put i 0 ≡ get_or m i 0
  put_word i k = put-word' m ys a (e - a) (omega arith) i k

-- one word n at i: the parts behind it stay
set-behind : (m : List ℕ) (i n b j : ℕ) → i < b → part b j (set m i n) ≡ part b j m
set-behind m i n b j h = ap (take j) (drop-set-lt b m i n h)

set-within : (m : List ℕ) (n b i j : ℕ) → i < j → part b j (set m (b + i) n) ≡ set (part b j m) i n
set-within m n b i j h = ap (take j) (drop-set-add b m i n) ∙ take-set-lt j (drop b m) i n h

set_before : (m : List ℕ) (i n b j : ℕ) → b + j ≤ i → part b j (set m i n) ≡ part b j m
set_before m i n b j h =
    let e : i ≡ b + (i - b) = omega arith in
    ap (λ (k : ℕ). part b j (set m k n)) e ∙ ap (take j) (drop-set-add b m (i - b) n) ∙ take-set-le j (drop b m) (i - b) n (omega arith)

-- a word of a part, wherever it is read
part_at : (m : List ℕ) (b i j : ℕ) → i < j → get_or m (b + i) 0 ≡ get_or (part b j m) i 0
part_at m b i j h = sym (get_or-drop b m i 0) ∙ sym (get_or-take j (drop b m) i 0 h)

-- a part of zeros
take-zeros : (k n : ℕ) → k ≤ n → take k (zeros n) ≡ zeros k
take-zeros zero n h = refl
take-zeros (suc k) zero h = absurd (omega arith)
take-zeros (suc k) (suc n) h = ap (λ l. 0 ∷ l) (take-zeros k n (omega arith))

pub drop-zeros : (k n : ℕ) → drop k (zeros n) ≡ zeros (n - k)
drop-zeros zero n = let e : n ≡ n - 0 = omega arith in ap zeros e
drop-zeros (suc k) zero = let e : 0 ≡ 0 - suc k = omega arith in ap zeros e
drop-zeros (suc k) (suc n) = let e : n - k ≡ suc n - suc k = omega arith in drop-zeros k n ∙ ap zeros e

pub part-zeros : (b j n : ℕ) → b + j ≤ n → part b j (zeros n) ≡ zeros j
part-zeros b j n h = ap (take j) (drop-zeros b n) ∙ take-zeros j (n - b) (omega arith)

-- ## The connections' words

-- a word says what its link says
word-link : (n : ℕ) → IsLink n → word_of (link_in n) ≡ n
word-link zero h = refl
word-link (suc zero) h = refl
word-link (suc (suc zero)) h = refl
word-link (suc (suc (suc n))) h = absurd (omega arith)

pub link-word : (l : Link) → link_in (word_of l) ≡ l
link-word Closed = refl
link-word Opened = refl
link-word Initialised = refl

pub is-link : (l : Link) → IsLink (word_of l)
is-link Closed = omega arith
is-link Opened = omega arith
is-link Initialised = omega arith

words-links : (l : List ℕ) → All IsLink l → map word_of (map link_in l) ≡ l
words-links [] a = refl
words-links (n ∷ l) a = cc (word-link n a.0, words-links l a.1)

links-same : (l k : List ℕ) → All IsLink l → All IsLink k → map link_in l ≡ map link_in k → l ≡ k
links-same l k a b e = sym (words-links l a) ∙ ap (λ y. map word_of y) e ∙ words-links k b

link_set : (l : List ℕ) (c n : ℕ) → map link_in (set l c n) ≡ set (map link_in l) c (link_in n)
link_set [] c n = refl
link_set (x ∷ l) zero n = refl
link_set (x ∷ l) (suc c) n = ap (λ m. link_in x ∷ m) (link_set l c n)

all_set : (l : List ℕ) (c n : ℕ) → IsLink n → All IsLink l → All IsLink (set l c n)
all_set [] c n h a = tt
all_set (x ∷ l) zero n h a = (h, a.1)
all_set (x ∷ l) (suc c) n h a = (a.0, all_set l c n h a.1)

-- the word of connection c
pub link_at : (m : List ℕ) (c : ℕ) → c ≤ 3 → link_in (get_or m (first_link + c) 0) ≡ get_or (see m).links c Closed
link_at m c h = ap link_in (part_at m first_link c connections (omega arith)) ∙ sym (get_or-map link_in (links_of m) c 0)

-- the counts, word by word
pub counts-read : (m : List ℕ) → length m ≡ words →
    get_or m first_count 0 ∷ get_or m (first_count + 1) 0 ∷ get_or m (first_count + 2) 0 ∷ get_or m (first_count + 3) 0 ∷ [] ≡ counts_of m
counts-read m w =
    let n : length (counts_of m) ≡ connections = length-take-le connections (drop first_count m)
    (omega (arith, w, length-drop first_count m))
    in
    ext_get_or 0 _ (counts_of m) (sym n) (λ i h. each i h ∙ part_at m first_count i connections h)
  where
    each : (i : ℕ) → i < connections → get_or (get_or m first_count 0 ∷ get_or m (first_count + 1) 0 ∷ get_or m (first_count + 2) 0
        ∷ get_or m (first_count + 3) 0 ∷ []) i 0 ≡ get_or m (first_count + i) 0
    each zero h = refl
    each (suc zero) h = refl
    each (suc (suc zero)) h = refl
    each (suc (suc (suc zero))) h = refl
    each (suc (suc (suc (suc i)))) h = absurd (omega arith)

-- ## The tally of a list

pub tallied-at : (l : List Session) (c : ℕ) → c ≤ 3 → get_or (tallied l) c 0 ≡ waits c l
unfolding tallied
tallied-at l zero h = refl
tallied-at l (suc zero) h = refl
tallied-at l (suc (suc zero)) h = refl
tallied-at l (suc (suc (suc zero))) h = refl
tallied-at l (suc (suc (suc (suc c)))) h = absurd (omega arith)

-- another count of connection c, and the others' as they were
tallied-set : (l u : List Session) (c n : ℕ) → c ≤ 3 → n ≡ waits c u → ((d : ℕ) → (d ≡ c → ⊥) → waits d l ≡ waits d u)
    → set (tallied l) c n ≡ tallied u
unfolding tallied
tallied-set l u c n h e o =
    ext_get_or 0 (set (tallied l) c n) (tallied u) (length-set (tallied l) c n)
    (λ d k. each d (omega (arith, length-set (tallied l) c n)) (eqb d c) refl
    ∙ sym (tallied-at u d (omega (arith, length-set (tallied l) c n))))
  where
    each : (d : ℕ) → d ≤ 3 → (b : Bool) → eqb d c ≡ b → get_or (set (tallied l) c n) d 0 ≡ waits d u
    each d k true q =
        let q : d ≡ c = eqb-true d c q in
        rw q (get_or-set_same (tallied l) c n 0 (omega arith) ∙ e)
    each d k false q =
        let q = eqb-false d c q in
        get_or-set_other (tallied l) c d n 0 q ∙ tallied-at l d k ∙ o d q

-- their words give them back
pub all-flagged : (clock : ℕ) (q : Queue) → Holding clock q → Each (λ s. (s.overrides ≤ 1) × (s.mux < 128)) q
all-flagged clock q h =
    record {
      waiting = all-into Proper (λ s. (s.overrides ≤ 1) × (s.mux < 128)) (λ s p. (p.overrides, omega (arith, p.mux.1))) q.waiting
          h.proper.waiting;
      started = all-into Proper (λ s. (s.overrides ≤ 1) × (s.mux < 128)) (λ s p. (p.overrides, omega (arith, p.mux.1))) q.started
          h.proper.started;
    }

-- every connection is one of the four
pub waiting-of-four : (clock : ℕ) (q : Queue) → Holding clock q → All OfFour q.waiting
waiting-of-four clock q h = all-into Proper OfFour (λ s p. p.conn) q.waiting h.proper.waiting

its_own : (s : Session) → bit (of s.conn s) ≡ 1
its_own s = ap bit (eq-eqb s.conn s.conn refl)

tallied-insert : (i : ℕ) (x : Session) (l : List Session) → OfFour x → set (tallied l) x.conn (waits x.conn l + 1)
    ≡ tallied (insert_at i x l)
tallied-insert i x l h =
    let c = x.conn in
    tallied-set l (insert_at i x l) c (waits c l + 1) h (omega (arith, count-insert_at (of c) i x l, its_own x))
    (λ d n. omega (arith, count-insert_at (of d) i x l, ap bit (ne_eqb d c n)))

-- the session i is connection c's
module _ (i : ℕ) (l : List Session) (c : ℕ) (h : i < length l) (e : c ≡ (get_or l i empty).conn) where
  counts-for : bit (of c (get_or l i empty)) ≡ 1
  counts-for = ap bit (eq-eqb c (get_or l i empty).conn e)

  pub one-waits : 1 ≤ waits c l
  one-waits = omega (arith, count-remove_at (of c) i l empty h, counts-for)

  tallied-remove : c ≤ 3 → set (tallied l) c (waits c l - 1) ≡ tallied (remove_at i l)
  tallied-remove f =
      tallied-set l (remove_at i l) c (waits c l - 1) f (omega (arith, count-remove_at (of c) i l empty h, counts-for))
      (λ d n. omega (arith, count-remove_at (of d) i l empty h, ap bit (ne_eqb d (get_or l i empty).conn (λ q. n (q ∙ sym e)))))

tallied-omit : (c : ℕ) (l : List Session) → c ≤ 3 → set (tallied l) c 0 ≡ tallied (omit (of c) l)
tallied-omit c l h =
    tallied-set l (omit (of c) l) c 0 h (sym (count-omitted (of c) l))
    (λ d n. sym (count-other (of d) (of c) (λ x e. ne_eqb d x.conn (λ q. n (q ∙ sym (eqb-true c x.conn e)))) l))

-- l without some that are all connection c's
module _ (c : ℕ) (p : Session → Bool) (l : List Session) (a : All (λ s. of c s ≡ true) (keep p l)) where
  own-counted : (k : List Session) → All (λ s. of c s ≡ true) k → count (of c) k ≡ length k
  own-counted [] b = refl
  own-counted (s ∷ k) b = rw b.0 (omega (arith, own-counted k b.1))

  pub less-waits : length l - length (omit p l) ≤ waits c l
  less-waits = omega (arith, count-split (of c) p l, own-counted (keep p l) a, length-split p l)

  tallied-less : c ≤ 3 → set (tallied l) c (waits c l - (length l - length (omit p l))) ≡ tallied (omit p l)
  tallied-less h =
      tallied-set l (omit p l) c (waits c l - (length l - length (omit p l))) h
      (omega (arith, count-split (of c) p l, own-counted (keep p l) a, length-split p l))
      (λ d n. omega (
        arith,
        count-split (of d) p l,
        none-all (of d) (keep p l)
            (all-into (λ s. of c s ≡ true) (λ s. of d s ≡ false) (λ s e. ne_eqb d s.conn (λ q. n (q ∙ sym (eqb-true c s.conn e))))
            (keep p l) a),
      ))

-- ## The first start and the first end

-- the first start of those in order of start
pub first-earliest : (l : List Session) (t : Ninths) → Sorted l → 0 < length l → t ≡ (get_or l 0 empty).start
    → Some t ≡ earliest (λ s. s.start) l
first-earliest l t o h e = ap Some e ∙ sym (earliest-start l empty o h)

leading-earliest : (l : List Session) (b : ℕ) → Leading l (length l) b → earliest (λ s. s.end) l ≡ Some (get_or l b empty).end
leading-earliest [] b v = absurd (omega (arith, v.among))
leading-earliest (s ∷ l) zero v =
    earliest-first (λ u. u.end) s.end l (each_at (λ u. s.end.0 ≤ u.end.0) empty l (λ j h. v.least (suc j) (omega arith)))
leading-earliest (s ∷ l) (suc b) v =
    let w : Leading l (length l) b =
    record {
      among = omega (arith, v.among);
      fits = omega arith;
      least = λ j h. v.least (suc j) (omega arith);
      first = λ j h. v.first (suc j) (omega arith);
    } in
    ap (sooner (Some s.end)) (leading-earliest l b w) ∙ sooner-second s.end (get_or l b empty).end (v.first 0 (omega arith))

-- the end at the place that `places::least_end` gives
module _ (l : List Session) (i : ℕ) (h : 0 < length l) (e : i ≡ least_end l) where
  pub least-within : i < length l
  least-within = omega (arith, (least-leads l h).among)

  pub least-earliest : (t : Ninths) → t ≡ (get_or l i empty).end → Some t ≡ earliest (λ s. s.end) l
  least-earliest t k = ap Some (k ∙ ap (λ (j : ℕ). (get_or l j empty).end) e) ∙ sym (leading-earliest l (least_end l) (least-leads l h))

-- ## What the parts of the words show, all of them show

-- all but the counts
pub record Shown (m : List ℕ) (s : Memory) : Type 0 where
  pub whole : length m ≡ words
  pub waiting : Good (lot_of Waiting m)
  pub started : Good (lot_of Started m)
  pub ring : ring_of Waiting m < places_of Waiting
  pub links : All IsLink (links_of m)
  pub late : next_in (late_of m) < most_kept
  pub is : see m ≡ s

pub shown-as : {m : List ℕ} {s r : Memory} → Shown m s → s ≡ r → Shown m r
shown-as {m} g e = subst (λ (s : Memory). Shown m s) e g

module _ (m : List ℕ) (t p : ℕ) (l : List ℕ) (r : ℕ) (w k : Lot) (y : List ℕ) where
  pub shows : length m ≡ words → get_or m clock_word 0 ≡ t → get_or m primary_word 0 ≡ p → links_of m ≡ l → get_or m ring_word 0 ≡ r
      → lot_of Waiting m ≡ w → lot_of Started m ≡ k → late_of m ≡ y →
      All IsLink l → r < places_of Waiting → Good w → Good k → next_in y < most_kept →
      Shown m (record {
        clock = t;
        primary = p;
        links = map link_in l;
        queue =
            record { waiting = used w; started = used k; lately = lately_in y };
        ring_end = r;
      })
  shows whole clock primary links ring waiting started late a n g h j =
      record {
        whole = whole;
        waiting = subst (λ (x : Lot). Good x) (sym waiting) g;
        started = subst (λ (x : Lot). Good x) (sym started) h;
        ring = omega (arith, ring);
        links = subst (λ (x : List ℕ). All IsLink x) (sym links) a;
        late = subst (λ (x : List ℕ). next_in x < most_kept) (sym late) j;
        is = λ i. record {
          clock = clock i;
          primary = primary i;
          links = map link_in (links i);
          queue =
              record { waiting = used (waiting i); started = used (started i); lately = lately_in (late i) };
          ring_end = ring i;
        };
      }

-- and the counts are those of the waiting w
pub with-counts : {m : List ℕ} {s : Memory} (w : List Session) → Shown m s → w ≡ s.queue.waiting → All OfFour w → counts_of m ≡ tallied w
    → Now m s
with-counts {m} w g y a e =
    let z : w ≡ sessions Waiting m = y ∙ sym (ap (λ (s : Memory). s.queue.waiting) g.is) in
    record {
      form = record {
        whole = g.whole;
        waiting = g.waiting;
        started = g.started;
        ring = g.ring;
        links = g.links;
        late = g.late;
        of_four = subst (λ (l : List Session). All OfFour l) z a;
        counts = e ∙ ap tallied z;
      };
      is = g.is;
    }

pub a-lot : {x y : List ℕ} {d e n k : ℕ} → x ≡ y → d ≡ e → n ≡ k → lot x d n ≡ lot y e k
a-lot f g h = λ i. lot (f i) (g i) (h i)

-- ## A list and its count

good : (v : Which) (m : List ℕ) → Form m → Good (lot_of v m)
good Waiting m f = f.waiting
good Started m f = f.started

pub counted : (v : Which) (m : List ℕ) → Form m → get_or m (slot_of v) 0 ≡ length (sessions v m)
counted v m f = sym (length-used (lot_of v m) (good v m f))

within : (v : Which) (m : List ℕ) → Form m → (from_of v ≤ to_of v) × (to_of v ≤ length m)
within Waiting m f = (omega arith, omega (arith, f.whole))
within Started m f = (omega arith, omega (arith, f.whole))

-- the places ys with n used ones, the ring's end r, in place of those that wait: all else shows as it did
changed-waiting : (m ys : List ℕ) (n r : ℕ) → Form m → length ys ≡ span_of Waiting → r < places_of Waiting → Good (lot ys r n) →
    Shown (set (set (put_mid (from_of Waiting) (span_of Waiting) m ys) (slot_of Waiting) n) ring_word r)
    (record {
      clock = (see m).clock;
      primary = (see m).primary;
      links = (see m).links;
      queue = with_waiting (used (lot ys r n)) (see m).queue;
      ring_end = r;
    })
changed-waiting m ys n r f l c g =
    let a = from_of Waiting in
    let e = to_of Waiting in
    let i = slot_of Waiting in
    let o = slot_of Started in
    let h = within Waiting m f in
    let p = put_mid a (e - a) m ys in
    let x = set p i n in
    let lp : length p ≡ words = length-put m ys a e h.0 h.1 l ∙ f.whole in
    let lx : length x ≡ words = length-set p i n ∙ lp in
    let kept : (j : ℕ) → (j ≡ i → ⊥) → (j ≡ ring_word → ⊥) → j < a → get_or (set x ring_word r) j 0 ≡ get_or m j 0 =
    λ j u v w. get_or-set_other x ring_word j r 0 v ∙ get_or-set_other p i j n 0 u ∙ put_word m ys a e h.0 h.1 l j w in
    let past : (b k : ℕ) → ring_word < b → part b k (set x ring_word r) ≡ part b k p =
    λ b k w. set-behind x ring_word r b k w ∙ set-behind p i n b k (omega arith) in
    shows (set x ring_word r) (see m).clock (see m).primary (links_of m) r (lot ys r n) (lot_of Started m) (late_of m)
    (length-set x ring_word r ∙ lx)
    (kept clock_word (λ z. omega (arith, z)) (λ z. omega (arith, z)) (omega arith))
    (kept primary_word (λ z. omega (arith, z)) (λ z. omega (arith, z)) (omega arith))
    (past first_link connections (omega arith) ∙ put-before m ys a e h.0 h.1 l first_link connections (omega arith))
    (get_or-set_same x ring_word r 0 (omega (arith, lx)))
    (a-lot (past a (e - a) (omega arith) ∙ put-here m ys a e h.0 h.1 l) (get_or-set_same x ring_word r 0 (omega (arith, lx)))
    (get_or-set_other x ring_word i r 0 (λ z. omega (arith, z)) ∙ get_or-set_same p i n 0 (omega (arith, lp))))
    (a-lot (past (from_of Started) (span_of Started) (omega arith)
    ∙ put-behind m ys a e h.0 h.1 l (from_of Started) (span_of Started) (omega arith)) refl
    (kept o (λ z. omega (arith, z)) (λ z. omega (arith, z)) (omega arith)))
    (past first_past late_size (omega arith) ∙ put-behind m ys a e h.0 h.1 l first_past late_size (omega arith))
    f.links c g f.started f.late

-- the places ys with n used ones, in place of a list and its count: all else shows as it did
changed : (v : Which) (m ys : List ℕ) (n : ℕ) → Form m → length ys ≡ span_of v → Good (lot ys (ring_of v m) n) →
    Shown (set (put_mid (from_of v) (span_of v) m ys) (slot_of v) n) (relisted v (used (lot ys (ring_of v m) n)) (see m))
changed Waiting m ys n f l g =
    let r = ring_of Waiting m in
    let h = within Waiting m f in
    let p = put_mid (from_of Waiting) (span_of Waiting) m ys in
    let x = set p (slot_of Waiting) n in
    let w : r ≡ get_or x ring_word 0 =
    sym (get_or-set_other p (slot_of Waiting) ring_word n 0 (λ z. omega (arith, z))
    ∙ put_word m ys (from_of Waiting) (to_of Waiting) h.0 h.1 l ring_word (omega arith)) in
    subst (λ (z : List ℕ). Shown z (relisted Waiting (used (lot ys r n)) (see m))) (ap (set x ring_word) w ∙ set-get_or x ring_word 0)
    (changed-waiting m ys n r f l f.ring g)
changed Started m ys n f l g =
    let a = from_of Started in
    let e = to_of Started in
    let i = slot_of Started in
    let o = slot_of Waiting in
    let h = within Started m f in
    let p = put_mid a (e - a) m ys in
    let lp : length p ≡ words = length-put m ys a e h.0 h.1 l ∙ f.whole in
    let kept : (j : ℕ) → (j ≡ i → ⊥) → j < a → get_or (set p i n) j 0 ≡ get_or m j 0 =
    λ j u w. get_or-set_other p i j n 0 u ∙ put_word m ys a e h.0 h.1 l j w in
    shows (set p i n) (see m).clock (see m).primary (links_of m) (ring_of Waiting m) (lot_of Waiting m) (lot ys 0 n) (late_of m)
    (length-set p i n ∙ lp)
    (kept clock_word (λ z. omega (arith, z)) (omega arith))
    (kept primary_word (λ z. omega (arith, z)) (omega arith))
    (set-behind p i n first_link connections (omega arith) ∙ put-before m ys a e h.0 h.1 l first_link connections (omega arith))
    (kept ring_word (λ z. omega (arith, z)) (omega arith))
    (a-lot (set-behind p i n (from_of Waiting) (span_of Waiting) (omega arith)
    ∙ put-before m ys a e h.0 h.1 l (from_of Waiting) (span_of Waiting) (omega arith))
    (kept ring_word (λ z. omega (arith, z)) (omega arith)) (kept o (λ z. omega (arith, z)) (omega arith)))
    (a-lot (set-behind p i n a (e - a) (omega arith) ∙ put-here m ys a e h.0 h.1 l) refl (get_or-set_same p i n 0 (omega (arith, lp))))
    (set-behind p i n first_past late_size (omega arith) ∙ put-behind m ys a e h.0 h.1 l first_past late_size (omega arith))
    f.links f.ring f.waiting g f.late

changed-counts : (v : Which) (m ys : List ℕ) (n : ℕ) → Form m → length ys ≡ span_of v
    → counts_of (set (put_mid (from_of v) (span_of v) m ys) (slot_of v) n) ≡ counts_of m
changed-counts v m ys n f l =
    let h = within v m f in
    let b = before v in
    set-behind (put_mid (from_of v) (span_of v) m ys) (slot_of v) n first_count connections b.0
    ∙ put-before m ys (from_of v) (to_of v) h.0 h.1 l first_count connections b.1
  where
    before : (v : Which) → (slot_of v < first_count) × (first_count + connections ≤ from_of v)
    before Waiting = (omega arith, omega arith)
    before Started = (omega arith, omega arith)

-- the list v has become u in the words x, by an acceptance or not, and the counts are still those of before
pub record Changed (a : Bool) (v : Which) (m x : List ℕ) (u : List Session) : Type 0 where
  pub shown : Shown x (onward a (relisted v u (see m)))
  pub counts : counts_of x ≡ counts_of m

-- ## As the code has it: a, e and i are the bounds and the slot, r the ring's end, n the count

module _ (v : Which) {m : List ℕ} {a e r : ℕ} (p : a ≡ from_of v) (q : e ≡ to_of v) (o : r ≡ ring_of v m) (f : Form m) where
  pub lot-at : {n : ℕ} → n ≡ length (sessions v m) → lot (part a (e - a) m) r n ≡ lot_of v m
  lot-at k = rw (p, q) (a-lot {x = part (from_of v) (span_of v) m} refl o (k ∙ sym (counted v m f)))

  pub good-at : {n : ℕ} → n ≡ length (sessions v m) → Good (lot (part a (e - a) m) r n)
  good-at k = subst (λ (x : Lot). Good x) (sym (lot-at k)) (good v m f)

  module _ (ys : List ℕ) (l : length ys ≡ length (part a (e - a) m)) where
    span : length ys ≡ span_of v
    span = l ∙ rw (p, q) (mid_len (from_of v) (to_of v) m (within v m f).1)

    pub changed-at : (n : ℕ) {i : ℕ} {u : List Session} → i ≡ slot_of v → Good (lot ys r n) → used (lot ys r n) ≡ u
        → Changed false v m (set (put_mid a (e - a) m ys) i n) u
    changed-at n {i} {u} s g h =
        rw (p, q, s)
        (record {
          shown = subst (λ (z : List Session). Shown (set (put_mid (from_of v) (span_of v) m ys) (slot_of v) n) (relisted v z (see m)))
              (ap (λ (k : ℕ). used (lot ys k n)) (sym o) ∙ h)
              (changed v m ys n f span (subst (λ (k : ℕ). Good (lot ys k n)) o g));
          counts = changed-counts v m ys n f span;
        })

-- an acceptance: the ring's end goes one on with it
pub accepted-at : {m : List ℕ} (ys : List ℕ) {r : ℕ} (n : ℕ) {u : List Session} → r ≡ ring_of Waiting m → Form m →
    length ys ≡ length (part (from_of Waiting) (span_of Waiting) m) → Good (lot ys (next r) n) → used (lot ys (next r) n) ≡ u →
    Changed true Waiting m (set (set (put_mid (from_of Waiting) (span_of Waiting) m ys) (slot_of Waiting) n) ring_word (next r)) u
accepted-at {m} ys {r} n {u} o f l g h =
    let y = span Waiting refl refl o f ys l in
    let x = set (put_mid (from_of Waiting) (span_of Waiting) m ys) (slot_of Waiting) n in
    record {
      shown = shown-as (changed-waiting m ys n (next r) f y (omega arith) g)
          (λ i. record {
            clock = (see m).clock;
            primary = (see m).primary;
            links = (see m).links;
            queue = with_waiting (h i) (see m).queue;
            ring_end = next (o i);
          });
      counts = set-behind x ring_word (next r) first_count connections (omega arith) ∙ changed-counts Waiting m ys n f y;
    }

-- a place is left
pub room_at : (v : Which) {m : List ℕ} {a e : ℕ} → a ≡ from_of v → e ≡ to_of v → Form m → capacity (part a (e - a) m) ≡ places_of v
room_at Waiting {m} p q f = rw (p, q) (omega (arith, mid_len (from_of Waiting) (to_of Waiting) m (within Waiting m f).1))
room_at Started {m} p q f = rw (p, q) (omega (arith, mid_len (from_of Started) (to_of Started) m (within Started m f).1))

-- the places go round, or end before the place 0
pub ring-at : (v : Which) {m : List ℕ} {a e r : ℕ} → a ≡ from_of v → e ≡ to_of v → r ≡ ring_of v m → Form m
    → Ring (capacity (part a (e - a) m)) r
ring-at Waiting {m} {a} {e} {r} p q o f = ring-full (capacity (part a (e - a) m)) r (room_at Waiting p q f) (omega (arith, o, f.ring))
ring-at Started {m} {a} {e} {r} p q o f = subst (λ (k : ℕ). Ring (capacity (part a (e - a) m)) k) (sym o)
    (omega (arith, room_at Started p q f))

-- ## One word of the head

recounted : (m : List ℕ) (s : Memory) (c n : ℕ) → c ≤ 3 → Shown m s → Shown (set m (first_count + c) n) s
recounted m s c n h g =
    let i = first_count + c in
    shown-as (shows (set m i n) (see m).clock (see m).primary (links_of m) (ring_of Waiting m) (lot_of Waiting m) (lot_of Started m)
    (late_of m)
    (length-set m i n ∙ g.whole)
    (other clock_word (omega arith))
    (other primary_word (omega arith))
    (set-behind m i n first_link connections (omega arith))
    (other ring_word (omega arith))
    (a-lot (set-behind m i n (from_of Waiting) (span_of Waiting) (omega arith)) (other ring_word (omega arith))
    (other (slot_of Waiting) (omega arith)))
    (a-lot (set-behind m i n (from_of Started) (span_of Started) (omega arith)) refl (other (slot_of Started) (omega arith)))
    (set-behind m i n first_past late_size (omega arith))
    g.links g.ring g.waiting g.started g.late) g.is
  where
    other : (j : ℕ) → j < first_count → get_or (set m (first_count + c) n) j 0 ≡ get_or m j 0
    other j k = get_or-set_other m (first_count + c) j n 0 (λ z. omega (arith, z))

-- a word of the head that is neither a list's nor a connection's
module _ (m : List ℕ) (i n t p : ℕ) (f : Form m) where
  worded : i < first_count → (i ≡ ring_word → ⊥) → (i ≡ slot_of Waiting → ⊥) → (i ≡ slot_of Started → ⊥)
      → get_or (set m i n) clock_word 0 ≡ t
      → get_or (set m i n) primary_word 0 ≡ p →
      Now (set m i n) (record { clock = t; primary = p; links = (see m).links; queue = (see m).queue; ring_end = (see m).ring_end })
  worded low not_ring not_waiting not_started clock primary =
      with-counts (sessions Waiting m) (shows (set m i n) t p (links_of m) (ring_of Waiting m) (lot_of Waiting m) (lot_of Started m)
      (late_of m)
      (length-set m i n ∙ f.whole)
      clock
      primary
      (set-behind m i n first_link connections (omega arith))
      (other ring_word not_ring)
      (a-lot (set-behind m i n (from_of Waiting) (span_of Waiting) (omega arith)) (other ring_word not_ring)
      (other (slot_of Waiting) not_waiting))
      (a-lot (set-behind m i n (from_of Started) (span_of Started) (omega arith)) refl (other (slot_of Started) not_started))
      (set-behind m i n first_past late_size (omega arith))
      f.links f.ring f.waiting f.started f.late) refl f.of_four
      (set-behind m i n first_count connections (omega arith) ∙ f.counts)
    where
      other : (j : ℕ) → (i ≡ j → ⊥) → get_or (set m i n) j 0 ≡ get_or m j 0
      other j k = get_or-set_other m i j n 0 (λ z. k (sym z))

pub timed-now : (m : List ℕ) (t : ℕ) → Form m → Now (set m clock_word t) (timed t (see m))
timed-now m t f =
    worded m clock_word t t (see m).primary f (omega arith) (λ z. omega (arith, z)) (λ z. omega (arith, z)) (λ z. omega (arith, z))
    (get_or-set_same m clock_word t 0 (omega (arith, f.whole))) (get_or-set_other m clock_word primary_word t 0 (λ z. omega (arith, z)))

pub silenced-now : (m : List ℕ) (d : ℕ) → Form m → Now (set m primary_word (get_or m primary_word 0 + d)) (silenced d (see m))
silenced-now m d f =
    let n = get_or m primary_word 0 + d in
    worded m primary_word n (see m).clock n f (omega arith) (λ z. omega (arith, z)) (λ z. omega (arith, z)) (λ z. omega (arith, z))
    (get_or-set_other m primary_word clock_word n 0 (λ z. omega (arith, z))) (get_or-set_same m primary_word n 0 (omega (arith, f.whole)))

-- first a ninths, then b
pub silenced-then : (a b : ℕ) (s : Memory) → silenced b (silenced a s) ≡ silenced (a + b) s
silenced-then a b s =
    let e : s.primary + a + b ≡ s.primary + (a + b) = omega arith in
    λ i. record { clock = s.clock; primary = e i; links = s.links; queue = s.queue; ring_end = s.ring_end }

pub silenced-none : (s : Memory) → silenced 0 s ≡ s
silenced-none s =
    let e : s.primary + 0 ≡ s.primary = omega arith in
    λ i. record { clock = s.clock; primary = e i; links = s.links; queue = s.queue; ring_end = s.ring_end }

pub linked-now : (m : List ℕ) (c : ℕ) (l : Link) (n : ℕ) → c ≤ 3 → n ≡ word_of l → Form m
    → Now (set m (first_link + c) n) (linked c l (see m))
linked-now m c l n h e f =
    let i = first_link + c in
    let y : map link_in (set (links_of m) c n) ≡ set (see m).links c l =
    link_set (links_of m) c n ∙ ap (set (see m).links c) (ap link_in e ∙ link-word l) in
    with-counts (sessions Waiting m) (subst (λ (z : List Link). Shown (set m i n)
    (record { clock = (see m).clock; primary = (see m).primary; links = z; queue = (see m).queue; ring_end = (see m).ring_end })) y
    (shows (set m i n) (see m).clock (see m).primary (set (links_of m) c n) (ring_of Waiting m) (lot_of Waiting m) (lot_of Started m)
    (late_of m)
    (length-set m i n ∙ f.whole)
    (other clock_word (omega arith))
    (other primary_word (omega arith))
    (set-within m n first_link c connections (omega arith))
    (other ring_word (omega arith))
    (a-lot (set-behind m i n (from_of Waiting) (span_of Waiting) (omega arith)) (other ring_word (omega arith))
    (other (slot_of Waiting) (omega arith)))
    (a-lot (set-behind m i n (from_of Started) (span_of Started) (omega arith)) refl (other (slot_of Started) (omega arith)))
    (set-behind m i n first_past late_size (omega arith))
    (all_set (links_of m) c n (subst (λ (k : ℕ). IsLink k) (sym e) (is-link l)) f.links) f.ring f.waiting f.started f.late))
    refl f.of_four (set_before m i n first_count connections (omega arith) ∙ f.counts)
  where
    other : (j : ℕ) → j < first_count → get_or (set m (first_link + c) n) j 0 ≡ get_or m j 0
    other j k = get_or-set_other m (first_link + c) j n 0 (λ z. omega (arith, z))

-- ## 02, CR 8: what ended lately

late-long : (m : List ℕ) → length m ≡ words → length (late_of m) ≡ late_size
late-long m w = length-take-le late_size (drop first_past m) (omega (arith, w, length-drop first_past m))

-- the next place, where it is read
pub next_word_lem : (m : List ℕ) → get_or m next_word 0 ≡ next_in (late_of m)
next_word_lem m = part_at m first_past past_words late_size (omega arith)

-- a word of the place i
pub past_word : (m : List ℕ) (i k : ℕ) → i < most_kept → k < past_width
    → get_or m (first_past + (i * past_width + k)) 0 ≡ get_or (late_of m) (i * past_width + k) 0
past_word m i k h l = part_at m first_past (i * past_width + k) late_size (omega arith)

-- the one that ended i ends before the newest, n being the next place
pub recent-word : (m : List ℕ) (i : ℕ) {n : ℕ} → i < most_kept → n ≡ next_in (late_of m) →
    let b = first_past + (n + (most_kept - 1 - i)) % most_kept * past_width in
    record {
      conn = get_or m b 0;
      id = get_or m (b + 1) 0;
      event = get_or m (b + 2) 0;
      result = get_or m (b + 3) 0;
      played = get_or m
          (b + 4) 0;
    }
    ≡ recent_at i (lately_in (late_of m))
unfolding recent_at
recent-word m i {n} h o =
    let j = (n + (most_kept - 1 - i)) % most_kept in
    (λ k. record {
      conn = first k;
      id = word 1 (omega arith) k;
      event = word 2 (omega arith) k;
      result = word 3 (omega arith) k;
      played =
          word 4 (omega arith) k;
    })
    ∙ sym (pasts-at most_kept j (late_of m) (omega arith))
    ∙ ap (λ (k : ℕ). get_or (lately_in (late_of m)).places ((k + (most_kept - 1 - i)) % most_kept) unused) o
  where
    j : ℕ
    j = (n + (most_kept - 1 - i)) % most_kept

    word : (k : ℕ) → k < past_width → get_or m (first_past + j * past_width + k) 0 ≡ get_or (late_of m) (j * past_width + k) 0
    word k l =
        let e : first_past + j * past_width + k ≡ first_past + (j * past_width + k) = omega arith in
        ap (λ (b : ℕ). get_or m b 0) e ∙ past_word m j k (omega arith) l

    first : get_or m (first_past + j * past_width) 0 ≡ get_or (late_of m) (j * past_width + 0) 0
    first =
        let e : first_past + j * past_width ≡ first_past + j * past_width + 0 = omega arith in
        ap (λ (b : ℕ). get_or m b 0) e ∙ word 0 (omega arith)

-- the same of these words alone
pub ended-recent : (m : List ℕ) → Form m → (i : ℕ) → i < most_kept → ended_in (late_of m) i ≡ recent_at i (see m).queue.lately
unfolding ended_in recent_at
ended-recent m f i h = rw (le-ltb (length e) late_size long) (ap (λ (q : ℕ). past_from e (q * past_width)) same ∙ first
    ∙ sym (pasts-at most_kept p e (omega arith)))
  where
    e : List ℕ
    e = late_of m

    p : ℕ
    p = (next_in e + (most_kept - 1 - i)) % most_kept

    long : late_size ≤ length e
    long = let l = length-take-le late_size (drop first_past m) (omega (arith, length-drop first_past m, f.whole)) in omega (arith, l)

    same : (next_in e % most_kept + (most_kept - 1 - i)) % most_kept ≡ p
    same = omega (arith, f.late)

    first : past_from e (p * past_width) ≡ past_at e p
    first =
        let z : p * past_width ≡ p * past_width + 0 = omega arith in
        (λ j. record {
          conn = get_or e (z j) 0;
          id = get_or e (p * past_width + 1) 0;
          event = get_or e (p * past_width + 2) 0;
          result = get_or e (p * past_width + 3) 0;
          played = get_or e (p * past_width + 4) 0;
        })

-- ## Whether one is on air

pub quiet_none : {n : ℕ} {b : Bool} → b ≡ eqb n 0 → b ≡ true → n ≡ 0
quiet_none {n} e h = eqb-true n 0 (sym e ∙ h)

pub quiet-some : {n : ℕ} {b : Bool} → b ≡ eqb n 0 → b ≡ false → 0 < n
quiet-some {n} e h = let k = eqb-false n 0 (sym e ∙ h) in omega (arith, k)

-- one more has ended: its words from the word b on, n being the next place
module _ (m : List ℕ) (e : Past) (n b : ℕ) (o : n ≡ next_in (late_of m)) (p : b ≡ first_past + n * past_width) (f : Form m) where
  abbrev q : List ℕ
  q = late_of m

  low : n < most_kept
  low = omega (arith, o, f.late)

  abbrev x : List ℕ
  x = set (written5 m b e) next_word ((n + 1) % most_kept)

  -- what stands before stays
  word-stays : (j : ℕ) → j < first_past → get_or x j 0 ≡ get_or m j 0
  word-stays j h = get_or-set_other (written5 m b e) next_word j ((n + 1) % most_kept) 0 (λ z. omega (arith, z))
      ∙ far5 m b e j (λ k l z. omega (arith, z, p))

  part_stays : (c j : ℕ) → c + j ≤ first_past → part c j x ≡ part c j m
  part_stays c j h =
      set_before (written5 m b e) next_word ((n + 1) % most_kept) c j (omega arith)
      ∙ set_before (set (set (set (set m b e.conn) (b + 1) e.id) (b + 2) e.event) (b + 3) e.result) (b + 4) e.played c j
      (omega (arith, p))
      ∙ set_before (set (set (set m b e.conn) (b + 1) e.id) (b + 2) e.event) (b + 3) e.result c j (omega (arith, p))
      ∙ set_before (set (set m b e.conn) (b + 1) e.id) (b + 2) e.event c j (omega (arith, p))
      ∙ set_before (set m b e.conn) (b + 1) e.id c j (omega (arith, p))
      ∙ set_before m b e.conn c j (omega (arith, p))

  -- one word of those behind
  late-set : (y : List ℕ) (i j v : ℕ) → i ≡ first_past + j → j < late_size → late_of (set y i v) ≡ set (late_of y) j v
  late-set y i j v r h = ap (λ (k : ℕ). late_of (set y k v)) r ∙ set-within y v first_past j late_size h

  late_is : late_of x ≡ set (written5 q (n * past_width) e) past_words ((n + 1) % most_kept)
  late_is =
      let d = n * past_width in
      late-set (written5 m b e) next_word past_words ((n + 1) % most_kept) refl (omega arith)
      ∙ ap (λ (z : List ℕ). set z past_words ((n + 1) % most_kept))
      (late-set (set (set (set (set m b e.conn) (b + 1) e.id) (b + 2) e.event) (b + 3) e.result) (b + 4) (d + 4) e.played
      (omega (arith, p)) (omega (arith, low))
      ∙ ap (λ (z : List ℕ). set z (d + 4) e.played)
      (late-set (set (set (set m b e.conn) (b + 1) e.id) (b + 2) e.event) (b + 3) (d + 3) e.result (omega (arith, p))
      (omega (arith, low))
      ∙ ap (λ (z : List ℕ). set z (d + 3) e.result)
      (late-set (set (set m b e.conn) (b + 1) e.id) (b + 2) (d + 2) e.event (omega (arith, p)) (omega (arith, low))
      ∙ ap (λ (z : List ℕ). set z (d + 2) e.event)
      (late-set (set m b e.conn) (b + 1) (d + 1) e.id (omega (arith, p)) (omega (arith, low))
      ∙ ap (λ (z : List ℕ). set z (d + 1) e.id) (late-set m b d e.conn p (omega (arith, low)))))))

  late-was : late_of x ≡ late_after q e (late-long m f.whole) f.late
  late-was = late_is ∙ ap (λ (k : ℕ). set (written5 q (k * past_width) e) past_words ((k + 1) % most_kept)) o

  whole : length x ≡ words
  whole = length-set (written5 m b e) next_word ((n + 1) % most_kept) ∙ length5 m b e ∙ f.whole

  pub remembered-now : Now x (recalling e (see m))
  unfolding remembered
  remembered-now =
      let y = late-after q e (late-long m f.whole) f.late in
      with-counts (sessions Waiting m) (shown-as (shows x (see m).clock (see m).primary (links_of m) (ring_of Waiting m) (lot_of Waiting m)
      (lot_of Started m) (late_after q e (late-long m f.whole) f.late)
      whole
      (word-stays clock_word (omega arith))
      (word-stays primary_word (omega arith))
      (part_stays first_link connections (omega arith))
      (word-stays ring_word (omega arith))
      (a-lot (part_stays (from_of Waiting) (span_of Waiting) (omega arith)) (word-stays ring_word (omega arith))
      (word-stays (slot_of Waiting) (omega arith)))
      (a-lot (part_stays (from_of Started) (span_of Started) (omega arith)) refl (word-stays (slot_of Started) (omega arith)))
      late-was
      f.links f.ring f.waiting f.started (next_low y))
      (λ i. record {
        clock = (see m).clock;
        primary = (see m).primary;
        links = (see m).links;
        queue = with_lately (y i) (see m).queue;
        ring_end = (see m).ring_end;
      }))
      refl f.of_four (part_stays first_count connections (omega arith) ∙ f.counts)
    where
      next_low : lately_in (late_after q e (late-long m f.whole) f.late) ≡ remembered e (lately_in q)
          → next_in (late_after q e (late-long m f.whole) f.late) < most_kept
      next_low y = omega (arith, ap (λ (l : Lately). l.next) y)

-- ## A list that changed, and the counts with it

pub started-now : {v : Which} {m x : List ℕ} {u : List Session} → v ≡ Started → Form m → Changed false v m x u
    → Now x (relisted v u (see m))
started-now {m = m} {u = u} w f g =
    with-counts (sessions Waiting m) g.shown (ap (λ (k : Which). (relisted k u (see m)).queue.waiting) (sym w)) f.of_four
    (g.counts ∙ f.counts)

-- the started ones are put back, as many as they were
pub replaced-now : {m : List ℕ} (ys : List ℕ) {n : ℕ} {u : List Session} → Form m
    → length ys ≡ length (part (from_of Started) (span_of Started) m) →
    n ≡ length (sessions Started m) → Good (lot ys 0 n) → used (lot ys 0 n) ≡ u
    → Now (put_mid (from_of Started) (span_of Started) m ys) (relisted Started u (see m))
replaced-now {m} ys {n} {u} f l k g h =
    let i = slot_of Started in
    let x = put_mid (from_of Started) (span_of Started) m ys in
    let w : n ≡ get_or x i 0 =
    k ∙ sym (counted Started m f) ∙ sym (put-word' m ys (from_of Started) (span_of Started) (omega (arith, f.whole)) i (omega arith)) in
    subst (λ (z : List ℕ). Now z (relisted Started u (see m))) (ap (set x i) w ∙ set-get_or x i 0)
    (started-now refl f (changed-at Started refl refl refl f ys l n refl g h))

module _ {v : Which} {m : List ℕ} (w : v ≡ Waiting) (f : Form m) where
  all-four : All OfFour (sessions v m)
  all-four = subst (λ (k : Which). All OfFour (sessions k m)) (sym w) f.of_four

  pub one-of-four : (i c : ℕ) → i < length (sessions v m) → c ≡ (get_or (sessions v m) i empty).conn → c ≤ 3
  one-of-four i c h e = rw e (all_get_d OfFour (sessions v m) i empty h all-four)

module _ {a : Bool} {v : Which} {m x : List ℕ} {u : List Session} (w : v ≡ Waiting) (f : Form m) (g : Changed a v m x u) where
  counts-were : counts_of x ≡ tallied (sessions v m)
  counts-were = g.counts ∙ f.counts ∙ ap (λ (k : Which). tallied (sessions k m)) (sym w)

  -- the count of connection c, still to be changed
  pub count_word : (c : ℕ) → c ≤ 3 → get_or x (first_count + c) 0 ≡ waits c (sessions v m)
  count_word c h = part_at x first_count c connections (omega arith) ∙ ap (λ (l : List ℕ). get_or l c 0) counts-were
      ∙ tallied-at (sessions v m) c h

  counts-now : (c n : ℕ) → c ≤ 3 → All OfFour u → set (tallied (sessions v m)) c n ≡ tallied u
      → Now (set x (first_count + c) n) (onward a (relisted v u (see m)))
  counts-now c n h z e =
      with-counts u (recounted x (onward a (relisted v u (see m))) c n h g.shown)
      (ap (λ (k : Which). (relisted k u (see m)).queue.waiting) (sym w)) z
      (set-within x n first_count c connections (omega arith) ∙ ap (λ (l : List ℕ). set l c n) counts-were ∙ e)

-- the waiting with one more, accepted
pub accepted-now : {m x : List ℕ} (i : ℕ) (s : Session) → Form m → OfFour s
    → Changed true Waiting m x (insert_at i s (sessions Waiting m)) →
    Now (set x (first_count + s.conn) (get_or x (first_count + s.conn) 0 + 1))
    (onward true (relisted Waiting (insert_at i s (sessions Waiting m)) (see m)))
accepted-now {m} i s f h g =
    let l = sessions Waiting m in
    rw (count_word refl f g s.conn h)
    (counts-now refl f g s.conn (waits s.conn l + 1) h (all-insert_at OfFour i s l h f.of_four) (tallied-insert i s l h))

module _ {v : Which} {m x : List ℕ} (w : v ≡ Waiting) (f : Form m) where
  pub removed-now : (i c : ℕ) → i < length (sessions v m) → c ≡ (get_or (sessions v m) i empty).conn
      → Changed false v m x (remove_at i (sessions v m)) →
      Now (set x (first_count + c) (get_or x (first_count + c) 0 - 1)) (relisted v (remove_at i (sessions v m)) (see m))
  removed-now i c h e g =
      let k = one-of-four w f i c h e in
      rw (count_word w f g c k)
      (counts-now w f g c (waits c (sessions v m) - 1) k (fewer-all OfFour (fewer-remove_at i (sessions v m)) (all-four w f))
      (tallied-remove i (sessions v m) c h e k))

  pub omitted-now : (c : ℕ) → c ≤ 3 → Changed false v m x (omit (of c) (sessions v m))
      → Now (set x (first_count + c) 0) (relisted v (omit (of c) (sessions v m)) (see m))
  omitted-now c h g = counts-now w f g c 0 h (all_keep OfFour (λ s. not (of c s)) (sessions v m) (all-four w f))
      (tallied-omit c (sessions v m) h)

  pub less-now : (c : ℕ) (p : Session → Bool) (k : ℕ) → c ≤ 3 → All (λ s. of c s ≡ true) (keep p (sessions v m))
      → k ≡ length (sessions v m) - length (omit p (sessions v m)) →
      Changed false v m x (omit p (sessions v m)) → Now (set x (first_count + c) (get_or x (first_count + c) 0 - k))
      (relisted v (omit p (sessions v m)) (see m))
  less-now c p k h a e g =
      rw (count_word w f g c h, e)
      (counts-now w f g c _ h (all_keep OfFour (λ s. not (p s)) (sessions v m) (all-four w f)) (tallied-less c p (sessions v m) a h))

-- all words are zeros
pub cleared-now : Now (zeros words) nothing_shown
unfolding tallied
cleared-now =
    let w = cleared (span_of Waiting) in
    let k = cleared (span_of Started) in
    let s = shows (zeros words) 0 0 (zeros connections) 0 (lot (zeros (span_of Waiting)) 0 0) (lot (zeros (span_of Started)) 0 0)
    (zeros late_size)
    (length-replicate {A = ℕ} words 0) refl refl (part-zeros first_link connections words (omega arith)) refl
    (a-lot (part-zeros (from_of Waiting) (span_of Waiting) words (omega arith)) refl refl)
    (a-lot (part-zeros (from_of Started) (span_of Started) words (omega arith)) refl refl)
    (part-zeros first_past late_size words (omega arith))
    (all_replicate {A = ℕ} IsLink connections 0 (omega arith)) (omega arith) w k (omega arith) in
    with-counts [] (shown-as s (λ i. record {
      clock = 0;
      primary = 0;
      links = replicate connections Closed;
      queue =
          record { waiting = cleared-none (span_of Waiting) i; started = cleared-none (span_of Started) i; lately = none-late i };
      ring_end =
          0;
    }))
    refl tt (part-zeros first_count connections words (omega arith))

-- ## What is shown determines every word and byte

-- the words of a list's places
abbrev placed : Which → List ℕ → List ℕ
placed v m = part (from_of v) (span_of v) m

-- the words are their parts
parts : (m : List ℕ) → length m ≡ words →
    m ≡ get_or m clock_word 0 ∷ get_or m (slot_of Waiting) 0 ∷ get_or m (slot_of Started) 0 ∷ get_or m ring_word 0 ∷ get_or m primary_word 0
    ∷ (counts_of m ++ (links_of m ++ (placed Waiting m ++ (placed Started m ++ late_of m))))
parts m w =
    let s = from_of Started in
    let late : drop first_past m ≡ late_of m = sym (take_all late_size (drop first_past m) (omega (arith, w, length-drop first_past m))) in
    let tail : drop s m ≡ placed Started m ++ late_of m =
    sym (take-append-drop (span_of Started) (drop s m)) ∙ ap (λ (z : List ℕ). placed Started m ++ z)
    (drop-drop (span_of Started) s m ∙ late)
    in
    let rest : drop (from_of Waiting) m ≡ placed Waiting m ++ (placed Started m ++ late_of m) =
    sym (take-append-drop (span_of Waiting) (drop (from_of Waiting) m))
    ∙ ap (λ (z : List ℕ). placed Waiting m ++ z) (drop-drop (span_of Waiting) (from_of Waiting) m ∙ tail) in
    let links : drop first_link m ≡ links_of m ++ (placed Waiting m ++ (placed Started m ++ late_of m)) =
    sym (take-append-drop connections (drop first_link m)) ∙ ap (λ (z : List ℕ). links_of m ++ z)
    (drop-drop connections first_link m ∙ rest)
    in
    let counts : drop first_count m ≡ counts_of m ++ (links_of m ++ (placed Waiting m ++ (placed Started m ++ late_of m))) =
    sym (take-append-drop connections (drop first_count m)) ∙ ap (λ (z : List ℕ). counts_of m ++ z)
    (drop-drop connections first_count m ∙ links) in
    drop-cons m 0 0 (omega arith)
    ∙ ap (λ (z : List ℕ). get_or m 0 0 ∷ z) (drop-cons m 1 0 (omega arith))
    ∙ ap (λ (z : List ℕ). get_or m 0 0 ∷ get_or m 1 0 ∷ z) (drop-cons m 2 0 (omega arith))
    ∙ ap (λ (z : List ℕ). get_or m 0 0 ∷ get_or m 1 0 ∷ get_or m 2 0 ∷ z) (drop-cons m 3 0 (omega arith))
    ∙ ap (λ (z : List ℕ). get_or m 0 0 ∷ get_or m 1 0 ∷ get_or m 2 0 ∷ get_or m 3 0 ∷ z) (drop-cons m 4 0 (omega arith))
    ∙ ap (λ (z : List ℕ). get_or m 0 0 ∷ get_or m 1 0 ∷ get_or m 2 0 ∷ get_or m 3 0 ∷ get_or m 4 0 ∷ z) counts

-- as many words, holding the same sessions up to the same end, are the same words, and as many of their places are used
lot-same : (v : Which) (m n : List ℕ) → Form m → Form n → ring_of v m ≡ ring_of v n → sessions v m ≡ sessions v n →
    (placed v m ≡ placed v n) × (get_or m (slot_of v) 0 ≡ get_or n (slot_of v) 0)
lot-same v m n f g r e =
    let x : length (placed v m) ≡ span_of v = mid_len (from_of v) (to_of v) m (within v m f).1 in
    let y : length (placed v n) ≡ span_of v = mid_len (from_of v) (to_of v) n (within v n g).1 in
    let k = get_or n (slot_of v) 0 in (
      words_same _ _ _ _ _ (good v m f) (subst (λ (j : ℕ). Good (lot (placed v n) j k)) (sym r) (good v n g)) (x ∙ sym y)
          (e ∙ ap (λ (j : ℕ). used (lot (placed v n) j k)) (sym r))
          (spare-none (places_of v) (placed v m) (x ∙ spans v) ∙ sym (spare-none (places_of v) (placed v n) (y ∙ spans v))),
      counted v m f ∙ ap length e ∙ sym (counted v n g),
    )
  where
    spans : (v : Which) → span_of v ≡ places_of v * width
    spans Waiting = refl
    spans Started = refl

pub same-words : (m n : List ℕ) → Form m → Form n → see m ≡ see n → m ≡ n
same-words m n f g e =
    let clock : get_or m clock_word 0 ≡ get_or n clock_word 0 = ap (λ (s : Memory). s.clock) e in
    let primary : get_or m primary_word 0 ≡ get_or n primary_word 0 = ap (λ (s : Memory). s.primary) e in
    let links = links-same (links_of m) (links_of n) f.links g.links (ap (λ (s : Memory). s.links) e) in
    let ring : get_or m ring_word 0 ≡ get_or n ring_word 0 = ap (λ (s : Memory). s.ring_end) e in
    let waiting = lot-same Waiting m n f g ring (ap (λ (s : Memory). s.queue.waiting) e) in
    let started = lot-same Started m n f g refl (ap (λ (s : Memory). s.queue.started) e) in
    let late : late_of m ≡ late_of n = late-same (late_of m) (late_of n) (late-long m f.whole) (late-long n g.whole)
    (ap (λ (s : Memory). s.queue.lately) e) in
    let counts : counts_of m ≡ counts_of n = f.counts ∙ ap (λ (s : Memory). tallied s.queue.waiting) e ∙ sym g.counts in
    parts m f.whole
    ∙ (λ i. clock i ∷ waiting.1 i ∷ started.1 i ∷ ring i ∷ primary i
    ∷ (counts i ++ (links i ++ (waiting.0 i ++ (started.0 i ++ late i)))))
    ∙ sym (parts n g.whole)

-- the bytes are their parts
bytes-parts : (b : List ℕ) → length b ≡ bytes
    → b ≡ name_bytes b ++ (kept_bytes 0 b ++ (kept_bytes 1 b ++ (kept_bytes 2 b ++ kept_bytes 3 b)))
bytes-parts b w =
    sym (take-append-drop name_size b) ∙ ap (λ (z : List ℕ). name_bytes b ++ z)
    (from 0 ∙ ap (behind 0) (from 1 ∙ ap (behind 1) (from 2 ∙ ap (behind 2) last)))
  where
    behind : ℕ → List ℕ → List ℕ
    behind c z = kept_bytes c b ++ z

    from : (c : ℕ) → drop (kept_from c) b ≡ kept_bytes c b ++ drop (kept_from (suc c)) b
    from c =
        let e : kept_from c + longest_hardware ≡ kept_from (suc c) = omega arith in
        sym (take-append-drop longest_hardware (drop (kept_from c) b))
        ∙ ap (λ (z : List ℕ). kept_bytes c b ++ z) (drop-drop longest_hardware (kept_from c) b ∙ ap (λ (k : ℕ). drop k b) e)

    last : drop (kept_from 3) b ≡ kept_bytes 3 b
    last = sym (take_all longest_hardware (drop (kept_from 3) b) (omega (arith, w, length-drop (kept_from 3) b)))

-- what connection c keeps, of the four
pub kept_at : (b : List ℕ) (c : ℕ) → c ≤ 3 → get_or (kept_of b) c no_hardware ≡ structure_in (kept_bytes c b)
kept_at b zero h = refl
kept_at b (suc zero) h = refl
kept_at b (suc (suc zero)) h = refl
kept_at b (suc (suc (suc zero))) h = refl
kept_at b (suc (suc (suc (suc c)))) h = absurd (omega arith)

pub same_bytes : (b c : List ℕ) → Stored b → Stored c → name_of b ≡ name_of c → kept_of b ≡ kept_of c → b ≡ c
same_bytes b c f g e k =
    let n : name_bytes b ≡ name_bytes c = f.name ∙ ap padded e ∙ sym g.name in
    bytes-parts b f.whole
    ∙ (λ i. n i ++ (slot 0 (omega arith) i ++ (slot 1 (omega arith) i ++ (slot 2 (omega arith) i ++ slot 3 (omega arith) i))))
    ∙ sym (bytes-parts c g.whole)
  where
    slot : (d : ℕ) → d ≤ 3 → kept_bytes d b ≡ kept_bytes d c
    slot d h =
        (f.kept d h).zeros
        ∙ ap spread (sym (kept_at b d h) ∙ ap (λ (l : List (List ℕ)). get_or l d no_hardware) k ∙ kept_at c d h)
        ∙ sym (g.kept d h).zeros

-- and a splicer with where the ring ends
pub memory-same : (m b n c : List ℕ) → Whole m b → Whole n c → (see m).ring_end ≡ (see n).ring_end → shown m b ≡ shown n c
    → (m ≡ n) × (b ≡ c)
memory-same m b n c f g r e = (
  same-words m n f.words g.words (λ i. record {
    clock = (e i).clock;
    primary = (e i).primary;
    links = (e i).links;
    queue = (e i).queue;
    ring_end = r i;
  }),
  same_bytes b c f.bytes g.bytes (ap (λ (s : Splicer). s.name) e) (ap (λ (s : Splicer). s.hardware) e),
)

-- ## One all of whose words are 0: what stands where none is kept

pub none-kept : (e : Past) → (e.conn ≡ 0) × ((e.id ≡ 0) × ((e.event ≡ 0) × ((e.result ≡ 0) × (e.played ≡ 0)))) → e ≡ unused
none-kept e z = λ i. record { conn = z.0 i; id = z.1.0 i; event = z.1.1.0 i; result = z.1.1.1.0 i; played = z.1.1.1.1 i }
