-- Both engines over any calls, by what each promises alone. Rests on recall's Steps: one call of a log that leads to the card's splicer.
use mathlib.Core.Path.{◌≡◌, refl, sym, subst, ap, ◌∙◌}
use mathlib.Core.Bool.{Bool, true, false, ◌||◌}
use mathlib.Core.List.{List, [], ◌∷◌, ◌++◌, append-nil, append_assoc}
use Prim.Native.Nat.{ℕ, ◌+◌, ◌-◌}
use native.Mathlib.Omega.{arith}
use lib.Dec.{leb, ltb}
use lib.ListN.{length, replicate, length-append}
use borrow.Author.Tests.{leb-true, le-leb, ltb-true, lt-ltb}
use Rattle.rules.specs.Lists.{All, put}
use Rattle.rules.specs.Bytes.{padded, written}
use Rattle.rules.specs.Card.{card_name}
use Rattle.rules.specs.Records.{output}
use Rattle.rules.specs.Calls as rules
use Rattle.rules.specs.State.{Splicer}
use Rattle.rules.specs.HouseNumbers.{Answer, refused, good, buffer_after}
use Rattle.rules.specs.Calls.{Call, call}
use Rattle.rules.specs.Follows.Sound.{Wired}
use Rattle.rules.proofs.Tests.{by}
use Rattle.rules.proofs.Written.{written_none}
use Rattle.std.specs.Prelude.{Ok}
use Rattle.recall_log.specs.Kept.{Reply}
use Rattle.recall_log.specs.Log.{kept_calls, log_length, most_calls, longest_record, other_length, full}
use Rattle.recall_log.specs.Kept.{Its, kept_form, is_good, recorded, reply_of, cleared}
use Rattle.recall_log.proofs.Appends.{cleared-calls}
use Rattle.recall_log.proofs.Logs.{same_length, length-same, recorded-append}
use Rattle.demands_recall.specs.Sides.{Pair, Same, is13, until13, None13, log_after, is_done, good_ones, LikeTheCard}
use Rattle.recall.specs.Recall.{begun, Told, Recalled, told_by, recall_call, spent, Remembers, Forgets}
use Rattle.recall.proofs.Steps.{Leads, leads-cleared, told_same, leads-on, calls-on}
use Rattle.recall.proofs.Recalls.{neat-is, full-spent, thirteen-of-any, thirteen-leaves, fresh-leaves, fresh-log}
use Rattle.recall.proofs.Calls.{forgets-all, forgets-same}

-- the card's side, from the splicer s on
pub record Ruled (s : Splicer) (p : Pair) : Type 0 where
  pub reply : p.reply ≡ reply_of (call p.call s).answer (call p.call s).moved
  pub buffer : p.buffer ≡ buffer_after (call p.call s).answer p.before

-- both, and the second one from the log l on
pub record Step (s : Splicer) (l : List ℕ) (p : Pair) : Type 0 where
  pub its : Its p.call
  pub wired : Wired p.call
  pub ruled : Ruled s p
  pub remembers : Remembers p.call l p.before p.told p.log p.filled

or-true : (b : Bool) → (b || true) ≡ true
or-true true = refl
or-true false = refl

good-done : (a : Answer) (n : ℕ) → is_done (reply_of a n) ≡ is_good a
unfolding is_done reply_of
good-done (refused x) n = refl
good-done (good consumed rs) n = refl

-- ## One call

-- 13 exactly when the log is full
module _ (k : Call) (l e : List ℕ) {r : Reply} {n o : List ℕ} (w : Remembers k l e r n o) where
  pub full-13 : is13 r ≡ full l
  full-13 = ap is13 w.reply ∙ thirteen-of-any k l

  -- which leaves it as it was, and the buffer
  pub left-13 : full l ≡ true → (n ≡ l) × (o ≡ e)
  left-13 f =
      let g = thirteen-leaves k l f in
      (w.log ∙ ap (λ (x : Recalled). x.log) g, w.buffer ∙ ap (λ (x : Recalled). written e 0 x.told.shows) g ∙ written_none e 0)

module _ {s : Splicer} {l : List ℕ} {p : Pair} (h : Step s l p) where
  abbrev k : Call
  k = p.call

  pub step-13 : is13 p.told ≡ full l
  step-13 = full-13 k l p.before h.remembers

  module _ (g : Leads l s) (f : full l ≡ false) where
    told : (recall_call k l).told ≡ told_by (call k s)
    told = told_same k l s h.its h.wired g f

    pub step_same : Same p
    unfolding told_by buffer_after
    step_same =
        record {
          reply = h.remembers.reply ∙ ap (λ (x : Told). x.reply) told ∙ sym h.ruled.reply;
          buffer = h.remembers.buffer ∙ ap (λ (x : Told). written p.before 0 x.shows) told ∙ sym h.ruled.buffer;
        }

    pub step-leads : Leads p.log (call k s).splicer
    step-leads = subst (λ (x : List ℕ). Leads x (call k s).splicer) (sym h.remembers.log) (leads-on k l s h.its h.wired g f)

    -- the calls in the log are those before, and this one if it is good
    pub step-calls : kept_calls p.log ≡ kept_calls l ++ put (is_done p.reply) (kept_form k) []
    step-calls =
        ap kept_calls h.remembers.log ∙ calls-on k l s h.its h.wired g f
        ∙ ap (λ (b : Bool). kept_calls l ++ put b (kept_form k) []) (sym
        (ap is_done h.ruled.reply ∙ good-done (call k s).answer (call k s).moved))

-- ## Any calls

-- from the splicer s and the log l on
abbrev pub Course : Splicer → List ℕ → List Pair → Type 0
Course s l [] = Unit {0}
Course s l (p ∷ h) = Step s l p × Course (call p.call s).splicer p.log h

abbrev pub after : List Pair → Splicer → Splicer
after [] s = s
after (p ∷ h) s = after h (call p.call s).splicer

until_none : (h : List Pair) → None13 (until13 h)
until_none [] = tt
until_none (p ∷ h) = by None13 (is13 p.told) [] (p ∷ until13 h) (λ e. tt) (λ e. (e, until_none h))

until-course : (h : List Pair) (s : Splicer) (l : List ℕ) → Course s l h → Course s l (until13 h)
until-course [] s l c = tt
until-course (p ∷ h) s l c =
    by (Course s l) (is13 p.told) [] (p ∷ until13 h) (λ e. tt) (λ e. (c.0, until-course h (call p.call s).splicer p.log c.1))

pub put-append : (b : Bool) (x : Call) (g : List Call) → put b x [] ++ g ≡ put b x g
put-append true x g = refl
put-append false x g = refl

all_same : (h : List Pair) (s : Splicer) (l : List ℕ) → Leads l s → Course s l h → None13 h → All Same h
all_same [] s l g c n = tt
all_same (p ∷ h) s l g c n =
    let f = sym (step-13 c.0) ∙ n.0 in
    (step_same c.0 g f, all_same h (call p.call s).splicer p.log (step-leads c.0 g f) c.1 n.1)

pub all-leads : (h : List Pair) (s : Splicer) (l : List ℕ) → Leads l s → Course s l h → None13 h → Leads (log_after l h) (after h s)
all-leads [] s l g c n = g
all-leads (p ∷ h) s l g c n =
    all-leads h (call p.call s).splicer p.log (step-leads c.0 g (sym (step-13 c.0) ∙ n.0)) c.1 n.1

all-calls : (h : List Pair) (s : Splicer) (l : List ℕ) → Leads l s → Course s l h → None13 h
    → kept_calls (log_after l h) ≡ kept_calls l ++ good_ones h
all-calls [] s l g c n = sym (append-nil (kept_calls l))
all-calls (p ∷ h) s l g c n =
    let f = sym (step-13 c.0) ∙ n.0 in
    let b = is_done p.reply in
    let x = kept_form p.call in
    all-calls h (call p.call s).splicer p.log (step-leads c.0 g f) c.1 n.1
    ∙ ap (λ (y : List Call). y ++ good_ones h) (step-calls c.0 g f)
    ∙ append_assoc (kept_calls l) (put b x []) (good_ones h) ∙ ap (λ (y : List Call). kept_calls l ++ y) (put-append b x (good_ones h))

-- ## Any calls, those that got 13 among them

-- a full log stays as it is
pub stays-full : (h : List Pair) (s : Splicer) (l : List ℕ) → full l ≡ true → Course s l h → log_after l h ≡ l
stays-full [] s l f c = refl
stays-full (p ∷ h) s l f c =
    let e = (left-13 p.call l p.before c.0.remembers f).0 in
    stays-full h (call p.call s).splicer p.log (ap full e ∙ f) c.1 ∙ e

-- what is spent stays spent
spent-more : (ks js : List Call) → spent ks ≡ true → spent (ks ++ js) ≡ true
unfolding spent
spent-more ks js e = go (leb most_calls (length ks)) refl e
  where
    longer : length (ks ++ js) ≡ length ks + length js
    longer = length-append ks js

    more : length (recorded (ks ++ js)) ≡ length (recorded ks) + length (recorded js)
    more = ap length (recorded-append ks js) ∙ length-append (recorded ks) (recorded js)

    go : (b : Bool) → leb most_calls (length ks) ≡ b → (b || ltb (log_length - length (recorded ks)) longest_record) ≡ true
        → (leb most_calls (length (ks ++ js)) || ltb (log_length - length (recorded (ks ++ js))) longest_record) ≡ true
    go true f g = rw (le-leb most_calls (length (ks ++ js)) (omega (arith, leb-true most_calls (length ks) f, longer))) refl
    go false f g =
        rw (lt-ltb (log_length - length (recorded (ks ++ js))) longest_record
        (omega (arith, ltb-true (log_length - length (recorded ks)) longest_record g, more)))
        (or-true (leb most_calls (length (ks ++ js))))

-- from a log that leads to the card's splicer
open-all : (h : List Pair) (s : Splicer) (l : List ℕ) → Leads l s → Course s l h
    → full (log_after l h) ≡ spent (kept_calls l ++ good_ones h)
open-all [] s l g c = full-spent l g.long ∙ ap spent (sym (append-nil (kept_calls l)))
open-all (p ∷ h) s l g c = go (full l) refl (λ j. open-all h (call p.call s).splicer p.log j c.1)
  where
    b : Bool
    b = is_done p.reply

    x : Call
    x = kept_form p.call

    go : (v : Bool) → full l ≡ v → (Leads p.log (call p.call s).splicer
        → full (log_after p.log h) ≡ spent (kept_calls p.log ++ good_ones h))
        → full (log_after p.log h) ≡ spent (kept_calls l ++ put b x (good_ones h))
    go true f ih =
        ap full (stays-full (p ∷ h) s l f c) ∙ f ∙ sym (spent-more (kept_calls l) (put b x (good_ones h)) (sym (full-spent l g.long) ∙ f))
    go false f ih =
        ih (step-leads c.0 g f)
        ∙ ap (λ (y : List Call). spent (y ++ good_ones h)) (step-calls c.0 g f)
        ∙ ap spent (append_assoc (kept_calls l) (put b x []) (good_ones h)
        ∙ ap (λ (y : List Call). kept_calls l ++ y) (put-append b x (good_ones h)))

-- ## From fresh

-- the log that fresh left, which was lent l
module _ {l n : List ℕ} {r : Reply} (long : length l ≡ log_length) (f : Forgets l r n) where
  cleared-is : n ≡ cleared l
  cleared-is = f.log ∙ fresh-log l long

  pub begins : Leads n begun
  begins = subst (λ (x : List ℕ). Leads x begun) (sym cleared-is) (leads-cleared l long)

  pub none_kept : kept_calls n ≡ []
  none_kept = ap kept_calls cleared-is ∙ cleared-calls l

  module _ (h : List Pair) (c : Course begun n h) (z : None13 h) where
    -- "it keeps the good calls"
    pub keeps-good : kept_calls (log_after n h) ≡ good_ones h
    keeps-good = all-calls h begun n begins c z ∙ ap (λ (y : List Call). y ++ good_ones h) none_kept

    ends : Leads (log_after n h) (after h begun)
    ends = all-leads h begun n begins c z

    pub keeps-bytes : log_after n h ≡ recorded (good_ones h) ++ replicate (log_length - length (recorded (good_ones h))) 0
    keeps-bytes = neat-is (log_after n h) (good_ones h) ends.neat ends.long keeps-good

  -- the next call gets 13 exactly when the good ones of those before it have spent the log: a full log stays, and what is spent stays so
  pub full-spent-after : (h : List Pair) → Course begun n h → full (log_after n h) ≡ spent (good_ones h)
  full-spent-after h c = open-all h begun n begins c ∙ ap (λ (ks : List Call). spent (ks ++ good_ones h)) none_kept

  pub like-the-card : (h : List Pair) → Course begun n h → LikeTheCard n h
  like-the-card h c =
      let u = until-course h begun n c in
      let z = until_none h in
      record { same = all_same (until13 h) begun n begins u z; calls = keeps-good (until13 h) u z; bytes = keeps-bytes (until13 h) u z }

-- ## 13, whatever log was lent to fresh

-- "exactly when the log isn't 65,536 bytes, 256 calls are kept or under 4,098 of its bytes are free", of a call after any others
module _ {l n : List ℕ} {r : Reply} (f : Forgets l r n) (h : List Pair) (c : Course begun n h) where
  full-after : full (log_after n h) ≡ (other_length l || spent (good_ones h))
  unfolding full
  full-after = go (other_length l) refl
    where
      go : (b : Bool) → other_length l ≡ b → full (log_after n h) ≡ (b || spent (good_ones h))
      go true e =
          let z : n ≡ l = f.log ∙ ap (λ (x : Recalled). x.log) (fresh-leaves l e) in
          let y : full n ≡ true = ap full z ∙ rw e in
          ap full (stays-full h begun n y c) ∙ y
      go false e = full-spent-after (length-same l e) f h c

  pub thirteen : (k : Call) (e : List ℕ) {q : Reply} {m o : List ℕ} → Remembers k (log_after n h) e q m o
      → (is13 q ≡ (other_length l || spent (good_ones h))) × (is13 q ≡ true → (m ≡ log_after n h) × (o ≡ e))
  thirteen k e w =
      let is = full-13 k (log_after n h) e w in
      (is ∙ full-after, λ z. left-13 k (log_after n h) e w (sym is ∙ z))

-- ## Fresh

-- the card's answer to fresh with "CH1"
fresh-card : reply_of (rules.fresh (padded card_name)).answer (rules.fresh (padded card_name)).moved
    ≡ Ok (record { consumed = 0; written = 0; moved = 0 })
unfolding rules.fresh card_name reply_of output
fresh-card = refl

-- both answer fresh alike, where the log has its length
pub fresh-same : {l n : List ℕ} {r : Reply} → Forgets l r n → length l ≡ log_length
    → r ≡ reply_of (rules.fresh (padded card_name)).answer (rules.fresh (padded card_name)).moved
fresh-same {l} f h = (forgets-same l f (forgets-all (same_length l h) refl refl)).0 ∙ sym fresh-card
