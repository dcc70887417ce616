-- The same theorems of what C sees: every word of the replies, every byte of the buffers. Rests on Sides, and on the promises of both
-- archives'
-- functions, that a reply's words are the answer.
mod Words
use Words.*

-- ## The words of a reply

-- both archives write an answer in the same words
same-words : (a : Answer) → reply_words (as_reply a) ≡ reply_of a
unfolding reply_words as_reply reply_of number_of
same-words (Err n) = refl
same-words (Ok did) = refl

words-13 : (r : Reply) → is13 (reply_words r) ≡ sides.is13 r
unfolding reply_words
words-13 (Err Full) = refl
words-13 (Err (Rule n)) = refl
words-13 (Ok did) = refl

-- 13 of any log, as C sees it: "before all others"
pub thirteen-of-any : (k : Call) (l e : List ℕ) {w n o : List ℕ} → Tells k l e w n o → is13 w ≡ full l
thirteen-of-any k l e t = ap is13 t.words ∙ words-13 t.reply ∙ full-13 k l e t.remembers

-- and of fresh
pub thirteen-of-fresh : (l : List ℕ) {w n : List ℕ} → TellsFresh l w n → is13 w ≡ other_length l
thirteen-of-fresh l t = ap is13 t.words ∙ words-13 t.reply ∙ ap sides.is13 t.forgets.reply ∙ recall-laws.thirteen-of-fresh l

-- no refusal has the number 0
number-some : (n : Refusal) → eqb (house_number n) 0 ≡ false
unfolding house_number
number-some NoConnection = refl
number-some NoRoom = refl
number-some ClockBack = refl
number-some Oversize = refl
number-some Short = refl
number-some AlreadyOpen = refl
number-some NotOpen = refl
number-some BadMicros = refl
number-some BadName = refl
number-some Counter = refl
number-some BadSection = refl
number-some LongSection = refl
number-some NotSixteen = refl

words-good : (a : Answer) → eqb (number_in (reply_of a)) 0 ≡ is_done (as_reply a)
unfolding reply_of is_done as_reply
words-good (Err n) = number-some n
words-good (Ok did) = refl

-- ## One call

wired : (i : Input) → Typed i → Wired (call_of i)
wired (an_open c) t = tt
wired (a_close c e) t = tt
wired (a_message c l pm im e) t = (t.1, t.2, t.3)
wired (a_tick seconds micros e) t = t.0
wired (a_cue l g e) t = t.0

module _ (m b l : List ℕ) (x : Both) (t : Typed x.input) (i : Its (call_of x.input)) (a : Allowed m b x.input x.card)
    (y : Recollects l x.input x.second) where
  abbrev pair : Pair
  pair =
      record {
        call = call_of x.input;
        before = buffer_of x.input;
        reply = as_reply a.answer;
        buffer = x.card.buffer;
        told = y.reply;
        log = x.second.log;
        filled = x.second.buffer;
      }

  step : Step (shown m b) l pair
  step =
      let k = call (call_of x.input) (shown m b) in
      record {
        its = i;
        wired = wired x.input t;
        ruled = record { reply = ap as_reply a.answers.answer ∙ as-ruled k.answer k.moved; buffer = a.answers.buffer };
        remembers = y.remembers;
      }

  told-13 : is13 x.second.reply ≡ full l
  told-13 = thirteen-of-any (call_of x.input) l (buffer_of x.input) y

  module _ (g : Leads l (shown m b)) (f : full l ≡ false) where
    alike : Alike x
    alike =
        let s = step_same step g f in
        record { reply = y.words ∙ ap reply_words s.reply ∙ same-words a.answer ∙ sym a.reply; buffer = s.buffer }

    next : Leads x.second.log (shown x.card.words x.card.bytes)
    next = subst (λ (s : Splicer). Leads x.second.log s) (sym a.answers.splicer) (step-leads step g f)

    kept : kept_calls x.second.log ≡ kept_calls l ++ put (eqb (number_in x.card.reply) 0) (kept_form (call_of x.input)) []
    kept =
        step-calls step g f
        ∙ ap (λ (z : Bool). kept_calls l ++ put z (kept_form (call_of x.input)) [])
        (sym (ap (λ (w : List ℕ). eqb (number_in w) 0) a.reply ∙ words-good a.answer))

-- ## Any calls

until_none : (h : List Both) → None13 (until13 h)
until_none [] = tt
until_none (x ∷ h) = by None13 (is13 x.second.reply) [] (x ∷ until13 h) (λ e. tt) (λ e. (e, until_none h))

until-course : (h : List Both) (m b l : List ℕ) → Course m b l h → Course m b l (until13 h)
until-course [] m b l c = tt
until-course (x ∷ h) m b l c =
    by (Course m b l) (is13 x.second.reply) [] (x ∷ until13 h) (λ e. tt)
    (λ e. (c.0, c.1, c.2, c.3, until-course h x.card.words x.card.bytes x.second.log c.4))

-- the first of some calls, of which none got 13
module _ (m b l : List ℕ) (x : Both) (h : List Both) (g : Leads l (shown m b)) (c : Course m b l (x ∷ h)) (n : None13 (x ∷ h)) where
  open-log : full l ≡ false
  open-log = sym (told-13 m b l x c.0 c.1 c.2 c.3) ∙ n.0

  first_alike : Alike x
  first_alike = alike m b l x c.0 c.1 c.2 c.3 g open-log

  first_next : Leads x.second.log (shown x.card.words x.card.bytes)
  first_next = next m b l x c.0 c.1 c.2 c.3 g open-log

  first-kept : kept_calls x.second.log ≡ kept_calls l ++ put (eqb (number_in x.card.reply) 0) (kept_form (call_of x.input)) []
  first-kept = kept m b l x c.0 c.1 c.2 c.3 g open-log

all_alike : (h : List Both) (m b l : List ℕ) → Leads l (shown m b) → Course m b l h → None13 h → All Alike h
all_alike [] m b l g c n = tt
all_alike (x ∷ h) m b l g c n =
    (first_alike m b l x h g c n, all_alike h x.card.words x.card.bytes x.second.log (first_next m b l x h g c n) c.4 n.1)

-- the log leads to some splicer
record Led (l : List ℕ) : Type 0 where
  splicer : Splicer
  leads : Leads l splicer

all-neat : (h : List Both) (m b l : List ℕ) → Leads l (shown m b) → Course m b l h → None13 h → Led (log_after l h)
all-neat [] m b l g c n = record { splicer = shown m b; leads = g }
all-neat (x ∷ h) m b l g c n = all-neat h x.card.words x.card.bytes x.second.log (first_next m b l x h g c n) c.4 n.1

all-kept : (h : List Both) (m b l : List ℕ) → Leads l (shown m b) → Course m b l h → None13 h
    → kept_calls (log_after l h) ≡ kept_calls l ++ good_ones h
all-kept [] m b l g c n = sym (append-nil (kept_calls l))
all-kept (x ∷ h) m b l g c n =
    let z = eqb (number_in x.card.reply) 0 in
    let k = kept_form (call_of x.input) in
    all-kept h x.card.words x.card.bytes x.second.log (first_next m b l x h g c n) c.4 n.1
    ∙ ap (λ (y : List Call). y ++ good_ones h) (first-kept m b l x h g c n)
    ∙ append_assoc (kept_calls l) (put z k []) (good_ones h) ∙ ap (λ (y : List Call). kept_calls l ++ y) (put-append z k (good_ones h))

-- ## The calls as both sides' promises have them, those that got 13 among them

pairs : (h : List Both) (m b l : List ℕ) → Course m b l h → List Pair
pairs [] m b l c = []
pairs (x ∷ h) m b l c = pair m b l x c.0 c.1 c.2 c.3 ∷ pairs h x.card.words x.card.bytes x.second.log c.4

led : (h : List Both) (m b l : List ℕ) (c : Course m b l h) → both.Course (shown m b) l (pairs h m b l c)
unfolding pairs
led [] m b l c = tt
led (x ∷ h) m b l c =
    let n = x.card.words in
    let d = x.card.bytes in (
      step m b l x c.0 c.1 c.2 c.3,
      subst (λ (s : Splicer). both.Course s x.second.log (pairs h n d x.second.log c.4)) c.2.answers.splicer
          (led h n d x.second.log c.4),
    )

log-same : (h : List Both) (m b l : List ℕ) (c : Course m b l h) → sides.log_after l (pairs h m b l c) ≡ log_after l h
unfolding pairs
log-same [] m b l c = refl
log-same (x ∷ h) m b l c = log-same h x.card.words x.card.bytes x.second.log c.4

good-same : (h : List Both) (m b l : List ℕ) (c : Course m b l h) → sides.good_ones (pairs h m b l c) ≡ good_ones h
unfolding pairs
good-same [] m b l c = refl
good-same (x ∷ h) m b l c =
    ap₂ (λ (z : Bool) (ks : List Call). put z (kept_form (call_of x.input)) ks)
    (sym (ap (λ (w : List ℕ). eqb (number_in w) 0) c.2.reply ∙ words-good c.2.answer))
    (good-same h x.card.words x.card.bytes x.second.log c.4)

-- ## From fresh

module _ (h : List Both) (w : Beside h) where
  abbrev m : List ℕ
  m = w.words

  abbrev b : List ℕ
  b = w.bytes

  fresh-shown : shown m b ≡ begun
  unfolding begun
  fresh-shown = w.fresh.answers.splicer

  module _ (long : length w.lent ≡ log_length) where
    starts : Leads w.log (shown m b)
    starts = subst (λ (s : Splicer). Leads w.log s) (sym fresh-shown) (begins long w.forgets.forgets)

    abbrev firsts : List Both
    firsts = until13 h

    part : Course m b w.log firsts
    part = until-course h m b w.log w.course

    kept-firsts : kept_calls (log_after w.log firsts) ≡ good_ones firsts
    kept-firsts = all-kept firsts m b w.log starts part (until_none h)
        ∙ ap (λ (y : List Call). y ++ good_ones firsts) (none_kept long w.forgets.forgets)

    -- "Until it first refuses with 13, the log unchanged between calls, it is proved to answer like the card's engine, byte for byte"
    pub recalls-like-the-card : LikeTheCard w.log h
    recalls-like-the-card =
        let e = all-neat firsts m b w.log starts part (until_none h) in
        record {
          same = all_alike firsts m b w.log starts part (until_none h);
          calls = kept-firsts;
          bytes = neat-is (log_after w.log firsts) (good_ones firsts) e.leads.neat e.leads.long kept-firsts;
        }

    -- and so does its fresh
    pub fresh-alike : w.told ≡ w.reply
    fresh-alike =
        let a = w.fresh.answers.answer in
        w.forgets.words
        ∙ ap reply_words (fresh-same w.forgets.forgets long ∙ sym (ap as_reply a ∙ as-ruled _ _)) ∙ same-words w.fresh.answer
        ∙ sym w.fresh.reply

  -- one call more, after any others, those that got 13 among them
  pub thirteen-exactly : (i : Input) (y : Recollection) → Recollects (log_after w.log h) i y
      → (is13 y.reply ≡ (other_length w.lent || spent (good_ones h))) ×
      (is13 y.reply ≡ true → (y.log ≡ log_after w.log h) × (y.buffer ≡ buffer_of i))
  thirteen-exactly i y r =
      let ps = pairs h m b w.log w.course in
      let l = log-same h m b w.log w.course in
      let c = subst (λ (s : Splicer). both.Course s w.log ps) fresh-shown (led h m b w.log w.course) in
      let t = thirteen w.forgets.forgets ps c (call_of i) (buffer_of i)
      (subst (λ (x : List ℕ). Remembers (call_of i) x (buffer_of i) r.reply y.log y.buffer) (sym l) r.remembers) in
      let e : is13 y.reply ≡ sides.is13 r.reply = ap is13 r.words ∙ words-13 r.reply in (
        e ∙ t.0 ∙ ap (λ (ks : List Call). other_length w.lent || spent ks) (good-same h m b w.log w.course),
        λ f. let z = t.1 (sym e ∙ f) in (z.0 ∙ l, z.1),
      )
