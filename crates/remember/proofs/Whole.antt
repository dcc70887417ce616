-- What the program writes is the definition's output of the whole input, whatever of it is left unread.
-- Rests on `Fed`: each record that is played is a record whatever follows, and it stops only where nothing is left to play.
use mathlib.Core.Path.{◌≡◌, refl, sym, ap, ◌∙◌}
use mathlib.Core.Bool.{Bool, true, false, cond}
use mathlib.Core.List.{List, [], ◌∷◌, ◌++◌, append_assoc, append-nil}
use Prim.Native.Nat.{ℕ, zero, suc, ◌+◌, ◌*◌, ◌≤◌, ◌<◌}
use native.Mathlib.Omega.{arith}
use lib.ListN.{length, take, drop, length-append, length-drop, take-append-drop}
use lib.Seq.{length-take-le}
use Rattle.rules.specs.Calls.{Call}
use Rattle.rules.specs.Card.{Next, calls, ends, stops, next}
use Rattle.rules.proofs.Tests.{clash}
use Rattle.recall_log.proofs.Walks.{rest-shorter}
use Rattle.recall.specs.Recall.{recall_call}
use Rattle.remember.specs.declared.Stop.{Stop}
use Rattle.remember.specs.declared.Stop.TheVariants.{Over, Counted}
use Rattle.remember.specs.declared.stdio.Came.{Came}
use Rattle.remember.specs.Said.{call_for, ends_with}
use Rattle.remember.specs.Remembered.{said_of, remember_step, remember_run, rest, fresh_log, remembered, Whole, Unread}
use Rattle.remember.specs.Remembered.{joined, Fed, over, last, failed, counted, goes, Turns, most, Stopped}
use Rattle.remember.proofs.Records.{Stands, stands}

-- ## How many calls are allowed does not matter

fuel : (n m : ℕ) (g l : List ℕ) → length l ≤ n → length l ≤ m → remember_run n g l ≡ remember_run m g l
unfolding remember_run remember_step next
fuel zero zero g l h i = refl
fuel zero (suc m) g [] h i = refl
fuel zero (suc m) g (b ∷ l) h i = absurd (omega arith)
fuel (suc n) zero g [] h i = refl
fuel (suc n) zero g (b ∷ l) h i = absurd (omega arith)
fuel (suc n) (suc m) g l h i = go (next l) refl (λ d r f. fuel n m d r (omega arith) (omega arith))
  where
    go : (x : Next) → next l ≡ x → ((d r : List ℕ) → 2 + length r ≤ length l → remember_run n d r ≡ remember_run m d r)
        → remember_step (remember_run n) x g ≡ remember_step (remember_run m) x g
    go (calls k r) e ih = ap (λ y. said_of k g ++ y) (ih (recall_call k g).log r (rest-shorter l e))
    go (ends k) e ih = refl
    go stops e ih = refl

-- ## One record

module _ (g l : List ℕ) where
  one_more : rest g l ≡ remember_step (remember_run (length l)) (next l) g
  unfolding rest remember_run
  one_more = fuel (length l) (suc (length l)) g l (omega arith) (omega arith)

  pub rest-stops : next l ≡ stops → rest g l ≡ []
  unfolding remember_step
  rest-stops e = one_more ∙ ap (λ x. remember_step (remember_run (length l)) x g) e

  pub rest-ends : {k : Call} → next l ≡ ends k → rest g l ≡ said_of k g
  unfolding remember_step
  rest-ends e = one_more ∙ ap (λ x. remember_step (remember_run (length l)) x g) e

  pub rest-calls : {k : Call} {m : List ℕ} → next l ≡ calls k m → rest g l ≡ said_of k g ++ rest (recall_call k g).log m
  unfolding remember_step rest
  rest-calls {k} {m} e =
      one_more ∙ ap (λ x. remember_step (remember_run (length l)) x g) e
      ∙ ap (λ y. said_of k g ++ y)
      (fuel (length l) (length m) (recall_call k g).log m (omega (arith, rest-shorter l e)) (omega arith))

-- the record p, and more behind it
module _ (g p more : List ℕ) (w : Whole p) where
  chosen : {t : Bool} → ends_with p ≡ t → next (p ++ more) ≡ cond t (ends (call_for p)) (calls (call_for p) more)
  chosen e = w more ∙ ap (λ t. cond t (ends (call_for p)) (calls (call_for p) more)) e

  record-last : ends_with p ≡ true → rest g (p ++ more) ≡ said_of (call_for p) g
  record-last e = rest-ends g (p ++ more) (chosen e)

  record-more : ends_with p ≡ false → rest g (p ++ more) ≡ said_of (call_for p) g ++ rest (recall_call (call_for p) g).log more
  record-more e = rest-calls g (p ++ more) (chosen e)

-- ## All records

-- l begins with w
pub record Begins (w l : List ℕ) : Type 0 where
  pub more : List ℕ
  pub same : l ≡ w ++ more

record-begins : (g p more : List ℕ) → Whole p → Begins (said_of (call_for p) g) (rest g (p ++ more))
record-begins g p more w = go (ends_with p) refl
  where
    go : (t : Bool) → ends_with p ≡ t → Begins (said_of (call_for p) g) (rest g (p ++ more))
    go true e = record { more = []; same = record-last g p more w e ∙ sym (append-nil (said_of (call_for p) g)) }
    go false e = record { more = _; same = record-more g p more w e }

alone : (g p unread : List ℕ) → rest g (joined (p ∷ []) ++ unread) ≡ rest g (p ++ unread)
alone g p unread = ap (λ x. rest g (x ++ unread)) (append-nil p)

split : (g p : List ℕ) (ps : List (List ℕ)) (unread : List ℕ) → rest g (joined (p ∷ ps) ++ unread) ≡ rest g (p ++ (joined ps ++ unread))
split g p ps unread = ap (rest g) (append_assoc p (joined ps) unread)

fed-rest : {n : ℕ} {c : Came} {g : List ℕ} {ps : List (List ℕ)} {w : List ℕ} (unread : List ℕ) → Unread c unread → Fed n (Over c) g ps w
    → w ≡ rest g (joined ps ++ unread)
fed-rest {g = g} unread u (over {p = p} a e) = sym (alone g p unread ∙ rest-stops g (p ++ unread) (a unread u))
fed-rest {g = g} unread u (last {p = p} a e f) = sym (alone g p unread ∙ record-last g p unread a e)
fed-rest {g = g} unread u (goes {p = p} {ps = ps} a two e f) =
    ap (λ x. said_of (call_for p) g ++ x) (fed-rest unread u f)
    ∙ sym (split g p ps unread ∙ record-more g p (joined ps ++ unread) a e)

fed-begins : {n : ℕ} {h : Stop} {g : List ℕ} {ps : List (List ℕ)} {w : List ℕ} (unread : List ℕ) → Fed n h g ps w
    → Begins w (rest g (joined ps ++ unread))
fed-begins unread (over a e) = record { more = _; same = refl }
fed-begins {g = g} unread (last {p = p} a e f) =
    let b = record-begins g p unread a in record { more = b.more; same = alone g p unread ∙ b.same }
fed-begins {g = g} unread (failed {p = p} a e f) =
    let b = record-begins g p unread a in record { more = b.more; same = alone g p unread ∙ b.same }
fed-begins unread counted = record { more = _; same = refl }
fed-begins {g = g} unread (goes {p = p} {ps = ps} {w = w} a two e f) =
    let b = fed-begins unread f in
    record {
      more = b.more;
      same = split g p ps unread ∙ record-more g p (joined ps ++ unread) a e ∙ ap (λ x. said_of (call_for p) g ++ x) b.same
          ∙ sym (append_assoc (said_of (call_for p) g) w b.more);
    }

-- each record has two bytes or more
pub counted-long : {n : ℕ} {g : List ℕ} {ps : List (List ℕ)} {w : List ℕ} → Fed n Counted g ps w → 2 * n ≤ length (joined ps)
counted-long counted = omega arith
counted-long (goes {p = p} {ps = ps} a two e f) = omega (arith, counted-long f, length-append p (joined ps))

-- ## The whole program

-- what `play` promises, from its own contract: of the bytes that came and, behind them, the input left unread. If there is nothing more to
-- play, what is written is the definition's output of the whole input.
pub program-remembers : {c : Came} (x : Stopped fresh_log (Over c)) (unread : List ℕ) → Unread c unread
    → x.output ≡ remembered (joined x.reads ++ unread)
unfolding remembered
program-remembers x unread u = fed-rest unread u x.fed

-- however it stops, what was handed to be written is the beginning
pub program-begins : {h : Stop} (x : Stopped fresh_log h) (unread : List ℕ) → Begins x.output (remembered (joined x.reads ++ unread))
unfolding remembered
program-begins x unread = fed-begins unread x.fed

-- and no input of less than 2^63 bytes uses up its turns
pub program-patient : {g : List ℕ} (x : Stopped g Counted) → 9223372036854775808 ≤ length (joined x.reads)
program-patient x = omega (arith, counted-long x.fed)

-- ## It ends

-- a run over the input l: what came, and what was left unread
pub record Ends (n : ℕ) (g l : List ℕ) : Type 0 where
  pub came : Came
  pub run : Turns n (Over came) g
  pub unread : List ℕ
  pub all : joined run.reads ++ unread ≡ l
  pub end : Unread came unread

ends_on : (n : ℕ) (g l : List ℕ) → length l < n → Ends n g l
ends_on zero g l h = absurd (omega arith)
ends_on (suc n) g l h = go (next l) refl (stands l) (λ d r f. ends_on n d r (omega arith))
  where
    go : (x : Next) → next l ≡ x → Stands l x → ((d r : List ℕ) → 2 + length r ≤ length l → Ends n d r) → Ends (suc n) g l
    go (calls k m) e s ih =
        let p = take s.size l in
        let long = length-take-le s.size l s.there in
        let r = ih (recall_call (call_for p) g).log (drop s.size l) (omega (arith, length-drop s.size l, s.two, s.there)) in
        record {
          came = r.came;
          run = record {
            reads = p ∷ r.run.reads;
            output = _;
            fed = goes {p = p} s.whole (omega (arith, long, s.two)) s.last r.run.fed;
          };
          unread = r.unread;
          all = append_assoc p (joined r.run.reads) r.unread ∙ ap (λ x. p ++ x) r.all ∙ take-append-drop s.size l;
          end = r.end;
        }
    go (ends k) e s ih =
        let p = take s.size l in
        record {
          came = record { count = length p; whole = true };
          run = record { reads = p ∷ []; output = _; fed = last {p = p} s.whole s.last refl };
          unread = drop s.size l;
          all = ap (λ x. x ++ drop s.size l) (append-nil p) ∙ take-append-drop s.size l;
          end = λ z. absurd (clash true refl z);
        }
    go stops e s ih =
        record {
          came = record { count = length l; whole = false };
          run = record {
            reads = l ∷ [];
            output = [];
            fed = over {p = l} (λ more u. ap (λ x. next (l ++ x)) (u refl) ∙ ap next (append-nil l) ∙ e) refl;
          };
          unread = [];
          all = append-nil (joined (l ∷ [])) ∙ append-nil l;
          end = λ z. refl;
        }

-- every input of less than 2^63 bytes has a run that ends with nothing more to play
pub program-ends : (l : List ℕ) → length l < 9223372036854775808 → Ends most fresh_log l
program-ends l h = ends_on most fresh_log l (omega arith)

-- there is one
pub short-input : length {A = ℕ} [] < 9223372036854775808
short-input = omega arith
