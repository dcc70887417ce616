-- The theorems of 02's CR 12 between the contracts of both engines. Rests on Sides, and on demands_engine: what the card's contracts allow
-- is what document 01 says.
mod Words
use Words.*

-- a card's answer of document 01 in the second one's words
pub as-ruled : (a : Answer) (n : ℕ) → as_reply (answer_of a n) ≡ reply_of a n
unfolding as_reply answer_of reply_of
as-ruled (refused x) n = refl
as-ruled (good consumed rs) n = refl

-- the calls as both sides' promises have them
led : (h : List Both) (m : Memory) (l : List ℕ) → Course m l h → both.Course (shown m) l (pairs h)
led [] m l c = tt
led (x ∷ h) m l c =
    let p = promised m x.input x.card c.2 in
    let k = call (call_of x.input) (shown m) in (
      record {
        its = c.1;
        wired = wired x.input c.0;
        ruled = record { reply = ap as_reply p.answer ∙ as-ruled k.answer k.moved; buffer = p.buffer };
        remembers = c.3;
      },
      subst (λ (s : Splicer). both.Course s x.second.log (pairs h)) p.splicer (led h x.card.memory x.second.log c.4),
    )

module _ (h : List Both) (b : Beside h) where
  course : both.Course begun b.log (pairs h)
  unfolding begun
  course = subst (λ (s : Splicer). both.Course s b.log (pairs h)) b.fresh.splicer (led h b.memory b.log b.course)

  -- any inputs, any buffers: "Until it first refuses with 13, the log unchanged between calls, it is proved to answer like the card's
  -- engine,
  -- byte for byte"
  pub recalls-like-the-card : length b.lent ≡ log_length → LikeTheCard b.log (pairs h)
  recalls-like-the-card long = like-the-card long b.forgets (pairs h) course

  -- and so does its fresh
  pub fresh-alike : length b.lent ≡ log_length → b.reply ≡ as_reply b.answer
  fresh-alike long = fresh-same b.forgets long ∙ sym (ap as_reply b.fresh.answer ∙ as-ruled _ _)

  -- "13 .. exactly when the log isn't 65,536 bytes, 256 calls are kept or under 4,098 of its bytes are free": one call more, after any
  -- others,
  -- those that got 13 among them; good are those that the card's engine calls good
  pub thirteen-exactly : (i : Input) (y : Recollection) → Recollects (log_after b.log (pairs h)) i y
      → (is13 y.reply ≡ (other_length b.lent || spent (good_ones (pairs h)))) ×
      (is13 y.reply ≡ true → (y.log ≡ log_after b.log (pairs h)) × (y.buffer ≡ buffer_of i))
  thirteen-exactly i y w = thirteen b.forgets (pairs h) course (call_of i) (buffer_of i) w
