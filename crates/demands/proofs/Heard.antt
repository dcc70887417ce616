-- Demand 3's counts over the answers' bytes are those over the records of the calls, after every sequence of calls from fresh.
use mathlib.Core.Path.{◌≡◌, refl, ap, ◌∙◌}
use mathlib.Core.List.{List, [], ◌∷◌}
use Prim.Native.Nat.{ℕ}
use Rattle.rules.specs.State.{Splicer}
use Rattle.rules.specs.HouseNumbers.{Answer, refused, good, written_by}
use Rattle.rules.specs.Calls.{Call, call}
use Rattle.demands.specs.History.{Entry, reply_of, history, wait_after, wait_replied, waiting_told, book_after, book_replied, book}
use Rattle.rules.proofs.All.{All}
use Rattle.rules.proofs.Records.{Fits, read_back}
use Rattle.rules.proofs.Always.{Wired}
use Rattle.rules.proofs.Fitted.{records_of, call_fits}
use Rattle.rules.proofs.Sound.{Sound, sound-call}

-- the numbers of c that wait after a call with an answer, if those of w did before
abbrev pub wait_answer : ℕ → Call → Answer → List ℕ → List ℕ
wait_answer c k (refused n) w = w
wait_answer c k (good consumed rs) w = wait_after c k rs w

-- and after the calls ks from the splicer s
unfoldable pub waiting_of : ℕ → List Call → Splicer → List ℕ → List ℕ
waiting_of c [] s w = w
waiting_of c (k ∷ ks) s w = waiting_of c ks (call k s).splicer (wait_answer c k (call k s).answer w)

abbrev pub book_answer : Call → Answer → List Entry → List Entry
book_answer k (refused n) es = es
book_answer k (good consumed rs) es = book_after k rs es

unfoldable pub book_of : List Call → Splicer → List Entry → List Entry
book_of [] s es = es
book_of (k ∷ ks) s es = book_of ks (call k s).splicer (book_answer k (call k s).answer es)

pub sound-fits : (s : Splicer) (k : Call) → Wired k → Sound s → All Fits (records_of (call k s).answer)
sound-fits s k w h =
    let g = h.holding in
    call_fits k s w (record {
      aired = record { timed = g.timed; played = g.played };
      proper = g.proper;
      small = g.small;
      clock =
          h.clock;
      linking = h.linking;
      lately = h.lately;
    })

wait-answer : (c : ℕ) (k : Call) (a : Answer) (w : List ℕ) → All Fits (records_of a) → wait_replied c k (reply_of a) w ≡ wait_answer c k a w
unfolding wait_replied written_by
wait-answer c k (refused n) w f = refl
wait-answer c k (good consumed rs) w f = ap (λ l. wait_after c k l w) (read_back rs f)

pub book-answer : (k : Call) (a : Answer) (es : List Entry) → All Fits (records_of a) → book_replied k (reply_of a) es ≡ book_answer k a es
unfolding book_replied written_by
book-answer k (refused n) es f = refl
book-answer k (good consumed rs) es f = ap (λ l. book_after k l es) (read_back rs f)

pub waiting-found : (c : ℕ) (ks : List Call) (s : Splicer) (w : List ℕ) → All Wired ks → Sound s
    → waiting_told c (history ks s) w ≡ waiting_of c ks s w
unfolding waiting_told history waiting_of
waiting-found c [] s w a h = refl
waiting-found c (k ∷ ks) s w a h =
    let n = call k s in
    ap (waiting_told c (history ks n.splicer)) (wait-answer c k n.answer w (sound-fits s k a.0 h))
    ∙ waiting-found c ks n.splicer (wait_answer c k n.answer w) a.1 (sound-call s k a.0 h)

pub book-found : (ks : List Call) (s : Splicer) (es : List Entry) → All Wired ks → Sound s → book (history ks s) es ≡ book_of ks s es
unfolding book history book_of
book-found [] s es a h = refl
book-found (k ∷ ks) s es a h =
    let n = call k s in
    ap (book (history ks n.splicer)) (book-answer k n.answer es (sound-fits s k a.0 h))
    ∙ book-found ks n.splicer (book_answer k n.answer es) a.1 (sound-call s k a.0 h)
