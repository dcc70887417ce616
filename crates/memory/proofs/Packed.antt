-- Whatever is to be shown stands in some words: the head, and in each list zeros before the words of each session, up to the ring's end.
-- Rests on `shows` of Laws.
use mathlib.Core.Path.{◌≡◌, refl, sym, ap, ◌∙◌}
use mathlib.Core.List.{List, [], ◌∷◌, ◌++◌, map}
use Prim.Native.Nat.{ℕ, ◌+◌, ◌-◌, ◌*◌, ◌≤◌, ◌<◌}
use native.Mathlib.Omega.{arith}
use lib.ListN.{length, take, drop, replicate, length-append, length-replicate, length-map, length-drop, take-append-drop}
use lib.Seq.{take_at, drop_at, take_all, drop-drop}
use Rattle.rules.specs.declared.Session.{Session}
use Rattle.rules.specs.declared.Link.{Link}
use Rattle.rules.specs.Lists.{All}
use Rattle.rules.specs.State.{Lately, empty}
use Rattle.rules.specs.Recent.{most_kept}
use Rattle.rules.specs.Follows.Sound.{Each}
use Rattle.rules.proofs.All.{all_append, all_take, all_drop, all_replicate}
use Rattle.places.specs.Places.{width, capacity, words_of, rows, places, turned, lot, used, Good}
use Rattle.places.proofs.Ring.{length-turned}
use Rattle.places.proofs.Words.{words_back}
use Rattle.memory.specs.declared.Which.TheVariants.{Waiting, Started}
use Rattle.memory.specs.Memory.{connections, places_of, from_of, words, word_of, link_in, IsLink, Memory, OfFour, tallied, Now, first_past}
use Rattle.memory.specs.Memory.{late_size}
use Rattle.memory.proofs.Late.{flat_past, length-flat_past, late_words, late-stands}
use Rattle.memory.proofs.Laws.{link-word, is-link, shown-as, shows, with-counts, a-lot}

-- ## A list of sessions

-- the words of each
unfoldable flat : List Session → List ℕ
flat [] = []
flat (x ∷ l) = words_of x ++ flat l

-- n places, the sessions u last of them, in their order
abbrev filled : ℕ → List Session → List Session
filled n u = replicate (n - length u) empty ++ u

-- the sessions u in n places, up to the place e
packed : (n e : ℕ) → List Session → List ℕ
packed n e u = flat (turned (n - e) (filled n u))

length-flat : (l : List Session) → length (flat l) ≡ length l * width
unfolding flat
length-flat [] = refl
length-flat (x ∷ l) = omega (arith, length-flat l)

-- its words give it back
abbrev pub Flagged : Session → Type 0
Flagged x = (x.overrides ≤ 1) × (x.mux < 128)

rows-flat : (l : List Session) → All Flagged l → rows (length l) (flat l) ≡ l
unfolding rows flat
rows-flat [] a = refl
rows-flat (x ∷ l) a = ap (λ s. s ∷ rows (length l) (flat l)) (words_back x (flat l) a.0) ∙ ap (λ r. x ∷ r) (rows-flat l a.1)

places-flat : (l : List Session) → All Flagged l → places (flat l) ≡ l
places-flat l a =
    let k : capacity (flat l) ≡ length l = omega (arith, length-flat l) in
    ap (λ (k : ℕ). rows k (flat l)) k ∙ rows-flat l a

-- turned on by the rest, it stands as before
turned-back : (e k : ℕ) (l : List Session) → e + k ≡ length l → turned k (turned e l) ≡ l
unfolding turned
turned-back e k l h =
    let n : length (drop e l) ≡ k = length-drop e l ∙ omega arith in
    rw (drop_at (drop e l) (take e l) k n, take_at (drop e l) (take e l) k n) (take-append-drop e l)

module _ (n e : ℕ) (u : List Session) (h : length u ≤ n) (r : e ≤ n) (a : All Flagged u) where
  length-filled : length (filled n u) ≡ n
  length-filled = simp (length-append, length-replicate) (omega arith)

  length-packed : length (packed n e u) ≡ n * width
  unfolding packed
  length-packed = omega (arith, length-flat (turned (n - e) (filled n u)), length-turned (n - e) (filled n u), length-filled)

  flagged : All Flagged (turned (n - e) (filled n u))
  unfolding turned empty
  flagged =
      let b = all_append Flagged (replicate (n - length u) empty) u (all_replicate Flagged (n - length u) empty (omega arith, omega arith))
      a in
      all_append Flagged (drop (n - e) (filled n u)) (take (n - e) (filled n u)) (all_drop Flagged (n - e) (filled n u) b)
      (all_take Flagged (n - e) (filled n u) b)

  items : turned e (places (packed n e u)) ≡ filled n u
  unfolding packed
  items = ap (turned e) (places-flat (turned (n - e) (filled n u)) flagged)
      ∙ turned-back (n - e) e (filled n u) (omega (arith, length-filled))

  full : length (turned e (places (packed n e u))) ≡ n
  full = ap length items ∙ length-filled

  packed-good : Good (lot (packed n e u) e (length u))
  packed-good =
      record {
        fits = omega (arith, full);
        clear = rw (full, items) (take_at (replicate (n - length u) empty) u (n - length u) (length-replicate (n - length u) empty));
      }

  packed-used : used (lot (packed n e u) e (length u)) ≡ u
  packed-used = rw (full, items) (drop_at (replicate (n - length u) empty) u (n - length u) (length-replicate (n - length u) empty))

-- ## The connections

links-words : (l : List Link) → map link_in (map word_of l) ≡ l
links-words [] = refl
links-words (x ∷ l) = cc (link-word x, links-words l)

words-links : (l : List Link) → All IsLink (map word_of l)
words-links [] = tt
words-links (x ∷ l) = (is-link x, words-links l)

-- ## All words

pub stood : Memory → List ℕ
stood s =
    s.clock ∷ length s.queue.waiting ∷ length s.queue.started ∷ s.ring_end ∷ s.primary ∷
    (tallied s.queue.waiting ++ (map word_of s.links ++ (packed (places_of Waiting) s.ring_end s.queue.waiting
    ++ (packed (places_of Started) 0 s.queue.started ++ late_words s.queue.lately))))

module _ (s : Memory) (four : length s.links ≡ connections) (few : length s.queue.waiting ≤ places_of Waiting)
    (less : length s.queue.started ≤ places_of Started) (of_four : All OfFour s.queue.waiting) (ring : s.ring_end < places_of Waiting)
    (flags : Each Flagged s.queue) (sixteen : length s.queue.lately.places ≡ most_kept) (next : s.queue.lately.next < most_kept)
  where
    abbrev l : List ℕ
    l = map word_of s.links

    abbrev w : List ℕ
    w = packed (places_of Waiting) s.ring_end s.queue.waiting

    abbrev k : List ℕ
    k = packed (places_of Started) 0 s.queue.started

    long-l : length l ≡ connections
    long-l = length-map s.links word_of ∙ four

    long-w : length w ≡ places_of Waiting * width
    long-w = length-packed (places_of Waiting) s.ring_end s.queue.waiting few (omega arith) flags.waiting

    long-k : length k ≡ places_of Started * width
    long-k = length-packed (places_of Started) 0 s.queue.started less (omega arith) flags.started

    abbrev y : List ℕ
    y = late_words s.queue.lately

    long-y : length y ≡ late_size
    long-y = omega (
      arith,
      length-append (flat_past s.queue.lately.places) (s.queue.lately.next ∷ []),
      length-flat_past s.queue.lately.places,
    )

    behind-l : drop (from_of Waiting) (stood s) ≡ w ++ (k ++ y)
    unfolding stood tallied
    behind-l = drop_at l (w ++ (k ++ y)) connections long-l

    behind-w : drop (from_of Started) (stood s) ≡ k ++ y
    behind-w =
        sym (drop-drop (places_of Waiting * width) (from_of Waiting) (stood s))
        ∙ ap (drop (places_of Waiting * width)) behind-l
        ∙ drop_at w (k ++ y) (places_of Waiting * width) long-w

    behind-k : drop first_past (stood s) ≡ y
    behind-k =
        sym (drop-drop (places_of Started * width) (from_of Started) (stood s))
        ∙ ap (drop (places_of Started * width)) behind-w
        ∙ drop_at k y (places_of Started * width) long-k

    long : length (stood s) ≡ words
    unfolding stood tallied
    long = omega (arith, length-append l (w ++ (k ++ y)), length-append w (k ++ y), length-append k y, long-l, long-w, long-k, long-y)

    pub stood-now : Now (stood s) s
    unfolding stood tallied
    stood-now =
        let n = length s.queue.waiting in
        let j = length s.queue.started in
        let x = shows (stood s) s.clock s.primary l s.ring_end (lot w s.ring_end n) (lot k 0 j) y long refl refl
        (take_at l (w ++ (k ++ y)) connections long-l) refl
        (a-lot (ap (take (places_of Waiting * width)) behind-l ∙ take_at w (k ++ y) (places_of Waiting * width) long-w) refl refl)
        (a-lot (ap (take (places_of Started * width)) behind-w ∙ take_at k y (places_of Started * width) long-k) refl refl)
        (ap (take late_size) behind-k ∙ take_all late_size y (omega (arith, long-y)))
        (words-links s.links) ring (packed-good (places_of Waiting) s.ring_end s.queue.waiting few (omega arith) flags.waiting)
        (packed-good (places_of Started) 0 s.queue.started less (omega arith) flags.started)
        (omega (arith, ap (λ (l : Lately). l.next) (late-stands s.queue.lately sixteen))) in
        with-counts s.queue.waiting (shown-as x
        (λ i. record {
          clock = s.clock;
          primary = s.primary;
          links = links-words s.links i;
          queue = record {
            waiting = packed-used (places_of Waiting) s.ring_end s.queue.waiting few (omega arith) flags.waiting i;
            started = packed-used (places_of Started) 0 s.queue.started less (omega arith) flags.started i;
            lately = late-stands s.queue.lately sixteen i;
          };
          ring_end = s.ring_end;
        })) refl of_four refl
