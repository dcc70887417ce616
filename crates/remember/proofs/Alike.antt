-- Until the first 13 the program writes what document 01's card program writes for the same input.
-- Rests on recall's laws of one call (proofs/Steps): with a log that leads to the card's splicer, both tell the same.
use mathlib.Core.Path.{◌≡◌, refl, sym, subst, ap, ap₂, ◌∙◌}
use mathlib.Core.Bool.{false}
use mathlib.Core.List.{List, [], ◌∷◌, ◌++◌, append_assoc, append-nil}
use Prim.Native.Nat.{ℕ, zero, suc}
use lib.Dec.{eqb, ltb}
use lib.ListN.{length, replicate, length-replicate}
use Rattle.rules.specs.Lists.{All}
use Rattle.rules.specs.Follows.Wires.{Byte}
use Rattle.rules.specs.Bytes.{value, value_from, message_size, oversize}
use Rattle.rules.specs.State.{Splicer}
use Rattle.rules.specs.HouseNumbers.{Answer, refused, good, written_by}
use Rattle.rules.specs.Calls.{Call, call}
use Rattle.rules.specs.Card.{open_mark, close_mark, message_mark, tick_mark, mark_in, message_from, mark_end, tick_end, header_end}
use Rattle.rules.specs.Card.{message_end}
use Rattle.rules.specs.Card.{Next, calls, ends, stops, next, next_message, next_tick, told, card_step, card_run, card}
use Rattle.rules.specs.Follows.Sound.{Wired}
use Rattle.rules.proofs.All.{all_drop}
use Rattle.rules.proofs.Bytes.{part-byte}
use Rattle.rules.proofs.Tests.{by}
use Rattle.recall_log.specs.Log.{log_length, full}
use Rattle.recall_log.specs.Kept.{Its, reply_of, cleared}
use Rattle.recall_log.proofs.Firsts.{first}
use Rattle.recall_log.proofs.Walks.{calls-more}
use Rattle.recall_log.proofs.Logs.{any-log}
use Rattle.recall.specs.Recall.{begun, told_by, recall_call, before13, None13}
use Rattle.recall.proofs.Witness.{not_full}
use Rattle.recall.proofs.Steps.{Leads, leads-cleared, told_same, leads-on}
use Rattle.remember.specs.Said.{said}
use Rattle.remember.specs.Remembered.{said_of, remember_step, remember_run, rest, fresh_log, remembered}
use Rattle.remember.specs.Remembered.{made_from, calls_of, input_calls, said_of_all}
use Rattle.remember.proofs.Whole.{Begins}

-- ## The calls of an input of bytes are calls of this engine, and their numbers are such as stand on a wire

abbrev Own : Call → Type 0
Own k = Its k × Wired k

abbrev EndsOwn : Next → Type 0
EndsOwn (calls k m) = Unit {0}
EndsOwn (ends k) = Own k
EndsOwn stops = Unit {0}

ends-own : (l : List ℕ) → All Byte l → EndsOwn (next l)
unfolding next next_message next_tick
ends-own l a =
    by EndsOwn (ltb (length l) mark_end) _ _ (λ e. tt)
    (λ e. by EndsOwn (eqb (mark_in l) open_mark) _ _ (λ f. tt)
    (λ f. by EndsOwn (eqb (mark_in l) close_mark) _ _ (λ g. tt)
    (λ g. by EndsOwn (eqb (mark_in l) message_mark) _ _
    (λ h. by EndsOwn (ltb (length l) header_end) _ _ (λ i. tt)
    (λ i. by EndsOwn (oversize (message_from l)) _ _ (λ o. (tt, (part-byte 0 8 (message_from l) (all_drop Byte 2 l a), tt, tt)))
    (λ o. by EndsOwn (ltb (length l) (message_end (message_size (message_from l)))) _ _ (λ j. tt) (λ j. tt))))
    (λ h. by EndsOwn (eqb (mark_in l) tick_mark) _ _ (λ i. by EndsOwn (ltb (length l) tick_end) _ _ (λ j. tt) (λ j. tt)) (λ i. tt)))))

module _ (l : List ℕ) (a : All Byte l) where
  last-own : {k : Call} → next l ≡ ends k → Own k
  last-own e = subst EndsOwn e (ends-own l a)

  module _ {k : Call} {m : List ℕ} (e : next l ≡ calls k m) where
    first-own : Own k
    first-own =
        let w = subst (All Wired) (calls-more l e) (any-log l a).0 in
        let i = subst (All Its) (calls-more l e) (any-log l a).1 in
        (i.0, w.0)

    rest-bytes : All Byte m
    rest-bytes = let f = first l e in subst (All Byte) (sym f.rest) (all_drop Byte f.size l a)

-- ## One call

module _ (k : Call) (g : List ℕ) (s : Splicer) (o : Own k) (h : Leads g s) (f : full g ≡ false) where
  said_same : said_of k g ≡ told (call k s).answer
  unfolding said told_by reply_of told
  said_same =
      ap (λ t. said t.reply t.shows) (told_same k g s o.0 o.1 h f) ∙ go (call k s).answer
    where
      go : (a : Answer) → said (reply_of a (call k s).moved) (written_by a) ≡ told a
      go (refused n) = refl
      go (good consumed rs) = refl

-- ## All calls

run-like : (n : ℕ) (l g : List ℕ) (s : Splicer) → All Byte l → Leads g s → None13 (calls_of n l) g → remember_run n g l ≡ card_run n s l
unfolding remember_run remember_step card_run card_step calls_of made_from
run-like zero l g s a h f = refl
run-like (suc n) l g s a h f = go (next l) refl f (λ m d t. run-like n m d t)
  where
    go : (x : Next) → next l ≡ x → None13 (made_from (calls_of n) x) g
        → ((m d : List ℕ) (t : Splicer) → All Byte m → Leads d t → None13 (calls_of n m) d → remember_run n d m ≡ card_run n t m)
        → remember_step (remember_run n) x g ≡ card_step (card_run n) x s
    go (calls k m) e f ih =
        let o = first-own l a e in
        ap₂ ◌++◌ (said_same k g s o h f.0)
        (ih m (recall_call k g).log (call k s).splicer (rest-bytes l a e) (leads-on k g s o.0 o.1 h f.0) f.1)
    go (ends k) e f ih = said_same k g s (last-own l a e) h f.0
    go stops e f ih = refl

-- the program's first log
fresh-leads : Leads fresh_log begun
unfolding fresh_log cleared
fresh-leads =
    let n : length (replicate {A = ℕ} log_length 0) ≡ log_length = length-replicate {A = ℕ} log_length 0 in
    subst (λ k. Leads (replicate k 0) begun) n (leads-cleared (replicate {A = ℕ} log_length 0) n)

-- one call at least can be made before
never-full : full fresh_log ≡ false
unfolding fresh_log cleared
never-full = subst (λ k. full (replicate k 0) ≡ false) (length-replicate {A = ℕ} log_length 0) not_full

pub none-13 : None13 (input_calls (open_mark ∷ 0 ∷ [])) fresh_log
unfolding input_calls calls_of made_from next value value_from
none-13 = (never-full, tt)

-- if no call gets 13, both write the same
pub remembers-the-card : (l : List ℕ) → All Byte l → None13 (input_calls l) fresh_log → remembered l ≡ card l
unfolding remembered rest card input_calls begun
remembers-the-card l a f = run-like (length l) l fresh_log begun a fresh-leads f

-- ## Until the first 13

-- both begin with what is written for the calls ks
abbrev Both : (g x y : List ℕ) → List Call → Type 0
Both g x y ks = Begins (said_of_all ks g) x × Begins (said_of_all ks g) y

both-none : (g x y : List ℕ) → Both g x y []
unfolding said_of_all
both-none g x y = (record { more = x; same = refl }, record { more = y; same = refl })

begins-on : (u : List ℕ) {w x : List ℕ} → Begins w x → Begins (u ++ w) (u ++ x)
begins-on u {w} b = record { more = b.more; same = ap (λ y. u ++ y) b.same ∙ sym (append_assoc u w b.more) }

module _ (k : Call) (g : List ℕ) (s : Splicer) (o : Own k) (h : Leads g s) (f : full g ≡ false) where
  both-on : {x y : List ℕ} (ks : List Call) → Both (recall_call k g).log x y ks
      → Both g (said_of k g ++ x) (told (call k s).answer ++ y) (k ∷ ks)
  unfolding said_of_all
  both-on {x} {y} ks b =
      let w = said_of_all ks (recall_call k g).log in
      let also = subst (λ u. Begins (said_of k g ++ w) (u ++ y)) (said_same k g s o h f) (begins-on (said_of k g) b.1) in
      (begins-on (said_of k g) b.0, also)

  both-last : Both g (said_of k g) (told (call k s).answer) (k ∷ [])
  both-last =
      let b = both-on [] (both-none (recall_call k g).log [] []) in
      subst (λ x. Both g x (told (call k s).answer) (k ∷ [])) (append-nil (said_of k g))
      (subst (λ y. Both g (said_of k g ++ []) y (k ∷ [])) (append-nil (told (call k s).answer)) b)

run-until : (n : ℕ) (l g : List ℕ) (s : Splicer) → All Byte l → Leads g s
    → Both g (remember_run n g l) (card_run n s l) (before13 (calls_of n l) g)
unfolding remember_run remember_step card_run card_step calls_of made_from before13
run-until zero l g s a h = both-none g [] []
run-until (suc n) l g s a h = go (next l) refl (λ m d t. run-until n m d t)
  where
    go : (x : Next) → next l ≡ x
        → ((m d : List ℕ) (t : Splicer) → All Byte m → Leads d t → Both d (remember_run n d m) (card_run n t m) (before13 (calls_of n m) d))
        → Both g (remember_step (remember_run n) x g) (card_step (card_run n) x s) (before13 (made_from (calls_of n) x) g)
    go (calls k m) e ih =
        let o = first-own l a e in
        by (Both g _ _) (full g) [] _ (λ f. both-none g _ _)
        (λ f. both-on k g s o h f (before13 (calls_of n m) (recall_call k g).log)
        (ih m (recall_call k g).log (call k s).splicer (rest-bytes l a e) (leads-on k g s o.0 o.1 h f)))
    go (ends k) e ih = by (Both g _ _) (full g) [] _ (λ f. both-none g _ _) (λ f. both-last k g s (last-own l a e) h f)
    go stops e ih = both-none g [] []

-- "Until it first refuses with 13": what is written for the calls before that one is what both begin with
pub remembers-until-13 : (l : List ℕ) → All Byte l
    → let w = said_of_all (before13 (input_calls l) fresh_log) fresh_log in
    Begins w (remembered l) × Begins w (card l)
unfolding remembered rest card input_calls begun
remembers-until-13 l a = run-until (length l) l fresh_log begun a fresh-leads
