-- The recordings that our own card program could have made, entry by entry: each call, and then its records.
-- Rests on proofs/Due: entries end where records end; and on rules' `sound-call`.
use mathlib.Core.Path.{◌≡◌, refl, sym, subst, ap, ap₂, ◌∙◌}
use mathlib.Core.Bool.{Bool, cond}
use mathlib.Core.List.{List, [], ◌∷◌, ◌++◌, map, append_assoc, append-nil}
use Prim.Native.Nat.{ℕ, zero, suc, ◌+◌, ◌≤◌}
use native.Mathlib.Omega.{arith}
use lib.Dec.{eqb, ltb}
use lib.ListN.{length, take, drop, length-append, take-append-drop}
use lib.Seq.{take-length, take-append-add}
use Rattle.rules.specs.Follows.Wires.{Byte}
use Rattle.rules.specs.State.{Splicer}
use Rattle.rules.specs.Follows.Sound.{Wired, Sound}
use Rattle.rules.specs.Calls.{Call, call}
use Rattle.rules.specs.Card.{open_mark, close_mark, message_mark, tick_mark, mark_in, message_from, mark_end, tick_end, header_end}
use Rattle.rules.specs.Card.{message_end}
use Rattle.rules.specs.Card.{Next, calls, ends, stops, next_message, next_tick, next, told, card_step, card_run}
use Rattle.rules.specs.Bytes.{oversize, message_size}
use Rattle.rules.proofs.All.{All, all_drop}
use Rattle.rules.proofs.Bytes.{part-byte, field_below}
use Rattle.rules.proofs.Sound.{sound-call}
use Rattle.rules.proofs.Tests.{by}
use Rattle.recording.specs.declared.Entry.TheVariants.{Made}
use Rattle.recording.specs.Recording.{span, entry_in, Item, made, wrote, entries_run, entries}
use Rattle.recording.specs.Recorded.{recorded_by, recorded_run, unread_by, unread_run, made_bytes, wrote_bytes, pieces}
use Rattle.recording.proofs.Entries.{entries-made, made-whole}
use Rattle.recording.proofs.Calling.{Calls, is-called, made-when-called}
use Rattle.recording.proofs.Due.{joined, told-joined, entries-told}

-- ## The card program's calls are of bytes

abbrev pub WiredNext : Next → Type 0
WiredNext (calls k left) = Wired k × All Byte left
WiredNext (ends k) = Wired k
WiredNext stops = Unit {0}

module _ (l : List ℕ) (a : All Byte l) where
  wired-whole : (n : ℕ) (x : Next) → WiredNext x → WiredNext (cond (ltb (length l) n) stops x)
  wired-whole n x w = by WiredNext (ltb (length l) n) stops x (λ e. tt) (λ e. w)

  wired-choice : (b : Bool) (x y : Next) → WiredNext x → WiredNext y → WiredNext (cond b x y)
  wired-choice b x y f g = by WiredNext b x y (λ e. f) (λ e. g)

  rest : (n : ℕ) → All Byte (drop n l)
  rest n = all_drop Byte n l a

  wired-message : WiredNext (next_message l)
  unfolding next_message
  wired-message =
      let m = message_from l in
      wired-whole header_end _
      (wired-choice (oversize m) _ _ (part-byte 0 8 m (rest 2), tt, tt)
      (wired-whole (message_end (message_size m)) _ (
        (part-byte 0 (8 + message_size m) m (rest 2), tt, tt),
        rest (message_end (message_size m)),
      )))

  wired-tick : WiredNext (next_tick l)
  unfolding next_tick
  wired-tick = wired-whole tick_end _ (field_below 2 4 l a, rest tick_end)

  pub wired-next : WiredNext (next l)
  unfolding next
  wired-next =
      wired-whole mark_end _
      (wired-choice (eqb (mark_in l) open_mark) _ _ (tt, rest mark_end)
      (wired-choice (eqb (mark_in l) close_mark) _ _ (tt, rest mark_end)
      (wired-choice (eqb (mark_in l) message_mark) _ _ wired-message
      (wired-choice (eqb (mark_in l) tick_mark) _ _ wired-tick tt))))

-- ## Entry by entry

unfoldable pub own_by : (Splicer → List ℕ → List Item) → Next → Splicer → List ℕ → List Item
own_by on stops s l = []
own_by on (ends k) s l = made (take (span l) l) ∷ (map wrote (pieces (call k s).answer) ++ [])
own_by on (calls k left) s l = made (take (span l) l) ∷ (map wrote (pieces (call k s).answer) ++ on (call k s).splicer left)

unfoldable pub own_run : ℕ → Splicer → List ℕ → List Item
own_run zero s l = []
own_run (suc n) s l = own_by (own_run n) (next l) s l

-- where the card program makes a call of l, the entry is a whole call's
module _ (l : List ℕ) {k : Call} where
  pub goes_on : {left : List ℕ} → next l ≡ calls k left → entry_in l ≡ Made (span l)
  goes_on e = made-when-called l (λ f. let y : ◌≡◌ {A = ℕ} 0 1 = cc in omega arith)

  pub ends_there : next l ≡ ends k → entry_in l ≡ Made (span l)
  ends_there e = made-when-called l (λ f. let y : ◌≡◌ {A = ℕ} 0 1 = cc in omega arith)

  left_is : {left : List ℕ} → next l ≡ calls k left → left ≡ drop (span l) l
  left_is e = subst (Calls l (span l)) e (is-called l (span l) (goes_on e))

pub entries-own : (n : ℕ) (s : Splicer) (l : List ℕ) → Sound s → All Byte l → entries (recorded_run n s l) ≡ own_run n s l
unfolding recorded_run recorded_by own_run own_by entries entries_run
entries-own zero s l h a = refl
entries-own (suc n) s l h a =
    go (next l) refl (wired-next l a) (λ k left w b. entries-own n (call k s).splicer left (sound-call s k w h) b)
  where
    go : (x : Next) → next l ≡ x → WiredNext x
        → ((k : Call) (left : List ℕ) → Wired k → All Byte left
        → entries (recorded_run n (call k s).splicer left) ≡ own_run n (call k s).splicer left)
        → entries (recorded_by (recorded_run n) x s l) ≡ own_by (own_run n) x s l
    go stops e w f = refl
    go (ends k) e w f =
        entries-made (take (span l) l) (told (call k s).answer) (made-whole l (span l) (ends_there l e))
        ∙ ap (λ es. made (take (span l) l) ∷ es) (ap entries (sym (append-nil (told (call k s).answer))) ∙ entries-told s k [] w h)
    go (calls k left) e w f =
        entries-made (take (span l) l) _ (made-whole l (span l) (goes_on l e))
        ∙ ap (λ es. made (take (span l) l) ∷ es)
        (entries-told s k (recorded_run n (call k s).splicer left) w.0 h
        ∙ ap (λ es. map wrote (pieces (call k s).answer) ++ es) (f k left w.0 w.1))

-- ## Its calls are the card program's input, and its records its output

wrote-all : (ws : List (List ℕ)) (es : List Item) → wrote_bytes (map wrote ws ++ es) ≡ joined ws ++ wrote_bytes es
unfolding wrote_bytes joined
wrote-all [] es = refl
wrote-all (w ∷ ws) es = ap (λ x. w ++ x) (wrote-all ws es) ∙ sym (append_assoc w (joined ws) (wrote_bytes es))

pub own-records : (n : ℕ) (s : Splicer) (l : List ℕ) → wrote_bytes (own_run n s l) ≡ card_run n s l
unfolding own_run own_by card_run card_step wrote_bytes
own-records zero s l = refl
own-records (suc n) s l = go (next l) (own-records n)
  where
    go : (x : Next) → ((t : Splicer) (m : List ℕ) → wrote_bytes (own_run n t m) ≡ card_run n t m)
        → wrote_bytes (own_by (own_run n) x s l) ≡ card_step (card_run n) x s
    go stops f = refl
    go (ends k) f =
        wrote-all (pieces (call k s).answer) [] ∙ append-nil (joined (pieces (call k s).answer)) ∙ sym (told-joined (call k s).answer)
    go (calls k left) f =
        wrote-all (pieces (call k s).answer) (own_run n (call k s).splicer left)
        ∙ ap₂ (λ x y. x ++ y) (sym (told-joined (call k s).answer)) (f (call k s).splicer left)

made_none : (ws : List (List ℕ)) (es : List Item) → made_bytes (map wrote ws ++ es) ≡ made_bytes es
unfolding made_bytes
made_none [] es = refl
made_none (w ∷ ws) es = made_none ws es

pub own-calls : (n : ℕ) (s : Splicer) (l : List ℕ) → made_bytes (own_run n s l) ++ unread_run n l ≡ l
unfolding own_run own_by unread_run unread_by made_bytes
own-calls zero s l = refl
own-calls (suc n) s l = go (next l) refl (own-calls n)
  where
    -- c: the call's entry, m: the calls behind it, u: what is left
    behind-it : (c m u : List ℕ) → m ++ u ≡ drop (span l) l → c ≡ take (span l) l → (c ++ m) ++ u ≡ l
    behind-it c m u e f = append_assoc c m u ∙ ap₂ (λ x y. x ++ y) f e ∙ take-append-drop (span l) l

    go : (x : Next) → next l ≡ x → ((t : Splicer) (m : List ℕ) → made_bytes (own_run n t m) ++ unread_run n m ≡ m)
        → made_bytes (own_by (own_run n) x s l) ++ unread_by (unread_run n) x l ≡ l
    go stops e f = refl
    go (ends k) e f =
        behind-it (take (span l) l) _ _ (ap (λ m. m ++ drop (span l) l) (made_none (pieces (call k s).answer) [])) refl
    go (calls k left) e f =
        behind-it (take (span l) l) _ _
        (ap (λ m. m ++ unread_run n left) (made_none (pieces (call k s).answer) (own_run n (call k s).splicer left))
        ∙ f (call k s).splicer left ∙ left_is l e) refl

-- ## The first calls are the first bytes

-- p in front of both
front_of : (p a b : List ℕ) → take (length a) b ≡ a → take (length (p ++ a)) (p ++ b) ≡ p ++ a
front_of p a b e = ap (λ n. take n (p ++ b)) (length-append p a) ∙ take-append-add p b (length a) ∙ ap (λ x. p ++ x) e

pub first_run : (n m : ℕ) (s : Splicer) (l : List ℕ) → n ≤ m → take (length (recorded_run n s l)) (recorded_run m s l) ≡ recorded_run n s l
unfolding recorded_run recorded_by
first_run zero m s l h = refl
first_run (suc n) zero s l h = absurd (omega arith)
first_run (suc n) (suc m) s l h = go (next l) (λ t left. first_run n m t left (omega arith))
  where
    go : (x : Next) → ((t : Splicer) (left : List ℕ)
        → take (length (recorded_run n t left)) (recorded_run m t left) ≡ recorded_run n t left)
        → take (length (recorded_by (recorded_run n) x s l)) (recorded_by (recorded_run m) x s l) ≡ recorded_by (recorded_run n) x s l
    go stops f = refl
    go (ends k) f = take-length (take (span l) l ++ told (call k s).answer)
    go (calls k left) f =
        front_of (take (span l) l) _ _ (front_of (told (call k s).answer) _ _ (f (call k s).splicer left))
