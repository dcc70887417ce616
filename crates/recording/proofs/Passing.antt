-- The recordings that our own card program could have made pass, whole and cut.
-- Rests on proofs/Own: entry by entry they are calls and their due records.
use mathlib.Core.Path.{◌≡◌, refl, sym, subst, ap, ◌∙◌}
use mathlib.Core.Bool.{Bool, true, false}
use mathlib.Core.List.{List, [], ◌∷◌, ◌++◌, map, append_assoc, append-nil}
use Prim.Native.Nat.{ℕ, zero, suc, ◌+◌, ◌-◌, ◌≤◌, ◌<◌}
use native.Mathlib.Omega.{arith}
use lib.Dec.{ltb}
use lib.ListN.{length, take}
use lib.Seq.{take-nil, take-append-le, take-append-add, take-append_seam, drop-append_seam}
use borrow.Author.Tests.{ltb-true, ltb-false}
use Rattle.std.specs.Prelude.{None}
use Rattle.rules.specs.Follows.Wires.{Byte}
use Rattle.rules.specs.State.{Splicer}
use Rattle.rules.specs.Follows.Sound.{Wired, Sound}
use Rattle.rules.specs.Calls.{Call, call}
use Rattle.rules.specs.Card.{Next, calls, ends, stops, next, told}
use Rattle.rules.proofs.All.{All}
use Rattle.rules.proofs.Bytes.{same_self}
use Rattle.rules.proofs.Sound.{sound-call}
use Rattle.rules.proofs.Tests.{clash}
use Rattle.recording.specs.declared.Entry.TheVariants.{Made, Wrote, Another}
use Rattle.recording.specs.Recording.{span, entry_in, Item, made, wrote, cut, entries_run, entries, Bench, called_by, called, taken}
use Rattle.recording.specs.Recording.{begins, is_nothing, judged, unknown_from}
use Rattle.recording.specs.Recorded.{recorded_by, recorded_run, pieces, ends_cut}
use Rattle.recording.proofs.Entries.{Within, Begins, begins-as, Whole, entries-made, entries-wrote, entries-cut, made-whole}
use Rattle.recording.proofs.Calling.{called-front}
use Rattle.recording.proofs.Due.{joined, told-joined, due-whole}
use Rattle.recording.proofs.Own.{WiredNext, wired-next, own_by, own_run, goes_on, ends_there}

-- no call differs, and no mark is unknown
pub record Passes (g : Bench) (es : List Item) : Type 0 where
  pub judges : judged g es ≡ None
  pub known : (i : ℕ) → unknown_from i es ≡ None

abbrev bench : Splicer → ℕ → List ℕ → Bench
bench s n d = record { splicer = s; number = n; due = d }

-- ## Entry by entry

passes_none : (s : Splicer) (n : ℕ) → Passes (bench s n []) []
unfolding judged is_nothing unknown_from
passes_none s n = record { judges = refl; known = λ i. refl }

passes-cut : (g : Bench) (l : List ℕ) → Passes g (cut l ∷ [])
unfolding judged unknown_from
passes-cut g l = record { judges = refl; known = λ i. refl }

-- h: what is known after the call
passes-made : (s : Splicer) (n : ℕ) (c : List ℕ) (h : Bench) (es : List Item) → called_by (next c) (bench s n []) ≡ h → Passes h es
    → Passes (bench s n []) (made c ∷ es)
unfolding judged is_nothing unknown_from
passes-made s n c h es e p =
    record { judges = ap (λ g. judged g es) e ∙ p.judges; known = λ i. p.known (i + length c) }

pub begins-itself : (w d : List ℕ) → begins w (w ++ d) ≡ true
unfolding begins
begins-itself w d = rw take-append_seam (same_self w)

passes-wrote : (s : Splicer) (n : ℕ) (w d : List ℕ) (es : List Item) → Passes (bench s n d) es → Passes (bench s n (w ++ d)) (wrote w ∷ es)
unfolding judged taken unknown_from
passes-wrote s n w d es p =
    record {
      judges = rw (begins-itself w d, drop-append_seam) p.judges;
      known = λ i. p.known (i + length w);
    }

passes-records : (s : Splicer) (n : ℕ) (ws : List (List ℕ)) (es : List Item) → Passes (bench s n []) es
    → Passes (bench s n (joined ws)) (map wrote ws ++ es)
unfolding joined
passes-records s n [] es p = p
passes-records s n (w ∷ ws) es p = passes-wrote s n w (joined ws) (map wrote ws ++ es) (passes-records s n ws es p)

-- ## Whole recordings

-- what is known after the call k
after : (s : Splicer) (n : ℕ) (k : Call) → called k (bench s n []) ≡ bench (call k s).splicer (suc n) (joined (pieces (call k s).answer))
unfolding called
after s n k = ap (bench (call k s).splicer (suc n)) (told-joined (call k s).answer)

pub passes-own : (m : ℕ) (s : Splicer) (n : ℕ) (l : List ℕ) → Passes (bench s n []) (own_run m s l)
unfolding own_run own_by called_by
passes-own zero s n l = passes_none s n
passes-own (suc m) s n l = go (next l) refl (λ t left. passes-own m t (suc n) left)
  where
    made-first : (k : Call) (es : List Item) → entry_in l ≡ Made (span l) → called_by (next l) (bench s n []) ≡ called k (bench s n [])
        → Passes (bench (call k s).splicer (suc n) []) es
        → Passes (bench s n []) (made (take (span l) l) ∷ (map wrote (pieces (call k s).answer) ++ es))
    made-first k es e f p =
        passes-made s n (take (span l) l) _ _ (called-front l (span l) e (bench s n []) ∙ f ∙ after s n k)
        (passes-records (call k s).splicer (suc n) (pieces (call k s).answer) es p)

    go : (x : Next) → next l ≡ x → ((t : Splicer) (left : List ℕ) → Passes (bench t (suc n) []) (own_run m t left))
        → Passes (bench s n []) (own_by (own_run m) x s l)
    go stops e f = passes_none s n
    go (ends k) e f = made-first k [] (ends_there l e) (ap (λ x. called_by x (bench s n [])) e) (passes_none (call k s).splicer (suc n))
    go (calls k left) e f = made-first k _ (goes_on l e) (ap (λ x. called_by x (bench s n [])) e) (f (call k s).splicer left)

-- ## Cut inside an entry

-- the first m bytes of r pass, from what g is on, if they end so
abbrev CutPasses : Bench → List ℕ → ℕ → Type 0
CutPasses g r m = ends_cut (entries (take m r)) ≡ true → Passes g (entries (take m r))

-- an empty recording is not cut
not-cut : ends_cut (entries []) ≡ true → ⊥
unfolding entries entries_run ends_cut
not-cut e = clash false e refl

-- c: a whole entry, r: what is behind it
module _ (g : Bench) (c r : List ℕ) where
  cut_inside : Within c (length c) → (entry_in c ≡ Another → ⊥) → (m : ℕ) → m < length c → CutPasses g (c ++ r) m
  cut_inside w a zero h e = absurd (not-cut e)
  cut_inside w a (suc m) h e =
      let f : entries (take (suc m) (c ++ r)) ≡ cut (take (suc m) c) ∷ [] =
      ap entries (take-append-le (suc m) c r (omega arith)) ∙ entries-cut c (suc m) w a (omega arith) h in
      rw f (passes-cut g (take (suc m) c))

  beyond : (m : ℕ) → length c ≤ m → take m (c ++ r) ≡ c ++ take (m - length c) r
  beyond m h = let e : m ≡ length c + (m - length c) = omega arith in ap (λ k. take k (c ++ r)) e ∙ take-append-add c r (m - length c)

cut-wrote : (s : Splicer) (n : ℕ) (w d r : List ℕ) → Whole Wrote w → ((m : ℕ) → CutPasses (bench s n d) r m)
    → (m : ℕ) → CutPasses (bench s n (w ++ d)) (w ++ r) m
unfolding ends_cut
cut-wrote s n w d r e p m = go (ltb m (length w)) refl
  where
    b : Begins w (Wrote (length w))
    b = begins-as w e

    go : (x : Bool) → ltb m (length w) ≡ x → CutPasses (bench s n (w ++ d)) (w ++ r) m
    go true h =
        cut_inside (bench s n (w ++ d)) w r b.0 (λ f. let y : ◌≡◌ {A = ℕ} 0 1 = cc in omega arith) m (ltb-true m (length w) h)
    go false h =
        let f = ap entries (beyond (bench s n d) w r m (ltb-false m (length w) h)) ∙ entries-wrote w (take (m - length w) r) e in
        rw f (λ z. passes-wrote s n w d (entries (take (m - length w) r)) (p (m - length w) z))

cut-records : (s : Splicer) (n : ℕ) (ws : List (List ℕ)) (r : List ℕ) → All (Whole Wrote) ws → ((m : ℕ) → CutPasses (bench s n []) r m)
    → (m : ℕ) → CutPasses (bench s n (joined ws)) (joined ws ++ r) m
unfolding joined
cut-records s n [] r a p m = p m
cut-records s n (w ∷ ws) r a p m =
    subst (λ x. CutPasses (bench s n (w ++ joined ws)) x m) (sym (append_assoc w (joined ws) r))
    (cut-wrote s n w (joined ws) (joined ws ++ r) a.0 (cut-records s n ws r a.1 p) m)

cut-made : (s : Splicer) (n : ℕ) (c r : List ℕ) (h : Bench) → Whole Made c → called_by (next c) (bench s n []) ≡ h
    → ((m : ℕ) → CutPasses h r m)
    → (m : ℕ) → CutPasses (bench s n []) (c ++ r) m
unfolding ends_cut
cut-made s n c r h e k p m = go (ltb m (length c)) refl
  where
    b : Begins c (Made (length c))
    b = begins-as c e

    go : (x : Bool) → ltb m (length c) ≡ x → CutPasses (bench s n []) (c ++ r) m
    go true h =
        cut_inside (bench s n []) c r b.0 (λ f. let y : ◌≡◌ {A = ℕ} 0 1 = cc in omega arith) m (ltb-true m (length c) h)
    go false q =
        let f = ap entries (beyond h c r m (ltb-false m (length c) q)) ∙ entries-made c (take (m - length c) r) e in
        rw f (λ z. passes-made s n c h (entries (take (m - length c) r)) k (p (m - length c) z))

cut-none : (g : Bench) (m : ℕ) → CutPasses g [] m
cut-none g m e = absurd (not-cut (ap (λ x. ends_cut (entries x)) (sym (take-nil m)) ∙ e))

pub passes-cut-own : (j : ℕ) (s : Splicer) (n : ℕ) (l : List ℕ) → Sound s → All Byte l → (m : ℕ)
    → CutPasses (bench s n []) (recorded_run j s l) m
unfolding recorded_run recorded_by called_by
passes-cut-own zero s n l h a m = cut-none (bench s n []) m
passes-cut-own (suc j) s n l h a m =
    go (next l) refl (wired-next l a) (λ k left w b. passes-cut-own j (call k s).splicer (suc n) left (sound-call s k w h) b)
  where
    made-first : (k : Call) (r : List ℕ) → entry_in l ≡ Made (span l) → called_by (next l) (bench s n []) ≡ called k (bench s n [])
        → Wired k
        → ((m : ℕ) → CutPasses (bench (call k s).splicer (suc n) []) r m)
        → CutPasses (bench s n []) (take (span l) l ++ (told (call k s).answer ++ r)) m
    made-first k r e f w p =
        let ws = pieces (call k s).answer in
        let t = bench (call k s).splicer (suc n) (joined ws) in
        cut-made s n (take (span l) l) (told (call k s).answer ++ r) t (made-whole l (span l) e)
        (called-front l (span l) e (bench s n []) ∙ f ∙ after s n k)
        (subst (λ x. (m : ℕ) → CutPasses t (x ++ r) m) (sym (told-joined (call k s).answer))
        (cut-records (call k s).splicer (suc n) ws r (due-whole s k w h) p)) m

    go : (x : Next) → next l ≡ x → WiredNext x
        → ((k : Call) (left : List ℕ) → Wired k → All Byte left
        → (m : ℕ) → CutPasses (bench (call k s).splicer (suc n) []) (recorded_run j (call k s).splicer left) m)
        → CutPasses (bench s n []) (recorded_by (recorded_run j) x s l) m
    go stops e w f = cut-none (bench s n []) m
    go (ends k) e w f =
        subst (λ x. CutPasses (bench s n []) (take (span l) l ++ x) m) (append-nil (told (call k s).answer))
        (made-first k [] (ends_there l e) (ap (λ x. called_by x (bench s n [])) e) w (cut-none (bench (call k s).splicer (suc n) [])))
    go (calls k left) e w f =
        made-first k (recorded_run j (call k s).splicer left) (goes_on l e) (ap (λ x. called_by x (bench s n [])) e) w.0
        (f k left w.0 w.1)
