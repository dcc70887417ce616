-- However the input is cut into pieces, the turns over them write what document 01's card program writes for the whole, and they end.
-- Rests on `Ran`: each turn's output is that of the records played, whatever input follows, and it stands still only before a cut record.
use mathlib.Core.Path.{◌≡◌, refl, sym, subst, ap, ◌∙◌}
use mathlib.Core.Bool.{Bool, true, false, cond, ◌||◌}
use mathlib.Core.List.{List, [], ◌∷◌, ◌++◌, append_assoc, append-nil}
use Prim.Native.Nat.{ℕ, zero, suc, ◌+◌, ◌*◌, ◌≤◌, ◌<◌}
use native.Mathlib.Omega.{arith}
use lib.Dec.{ltb}
use lib.ListN.{length, take, drop, replicate, length-append, length-drop, length-replicate}
use borrow.Author.Tests.{ltb-true, ltb-false, le-ltb}
use Rattle.rules.specs.Lists.{All}
use Rattle.rules.specs.Follows.Wires.{Byte}
use Rattle.rules.specs.Bytes.{padded}
use Rattle.rules.specs.State.{Splicer}
use Rattle.rules.specs.Calls.{fresh}
use Rattle.rules.specs.Card.{card_name, card_room, card}
use Rattle.rules.proofs.All.{all_append, all_drop}
use Rattle.rules.proofs.Bytes.{padded-byte}
use Rattle.rules.proofs.Tests.{or-none, and_both}
use Rattle.memory.specs.Memory.{shown}
use Rattle.engine.specs.Lent.{Lent}
use Rattle.demands_engine.proofs.Demands.{any-calls}
use Rattle.feed.specs.declared.Played.{Played}
use Rattle.feed.specs.Feed.{rest}
use Rattle.feed.specs.Play.{goes_on}
use Rattle.feed.proofs.Runs.{rest-cut, card-rest}
use Rattle.card.specs.declared.Stop.{Stop}
use Rattle.card.specs.declared.Stop.TheVariants.{Over, Counted}
use Rattle.card.specs.Ran.{Ran, again, first, later, joined, Fed, over, failed, counted, goes, Stopped}
use Rattle.card.proofs.Given.{Given, given}

-- once nothing is read nothing follows: what is trusted of a read
abbrev pub AtEnd : List (List ℕ) → Type 0
AtEnd [] = Unit {0}
AtEnd (p ∷ ps) = (length p ≡ 0 → joined ps ≡ []) × AtEnd ps

-- so it is of the pieces of an input, and of what is read behind them
abbrev pub Piece : List ℕ → Type 0
Piece p = 0 < length p

pub pieces-at-end : (ps : List (List ℕ)) → All Piece ps → AtEnd (ps ++ ([] ∷ []))
pieces-at-end [] a = (λ e. refl, tt)
pieces-at-end (p ∷ ps) a = (λ e. absurd (omega (arith, a.0)), pieces-at-end ps a.1)

-- ## Lists

none-front : (x y : List ℕ) → x ++ y ≡ [] → x ≡ []
none-front [] y e = refl
none-front (a ∷ x) y e = absurd (omega (arith, ap length e))

joined-split : (kept : List ℕ) (ps : List (List ℕ)) → kept ++ joined ps ≡ (kept ++ first ps) ++ joined (later ps)
joined-split kept [] = sym (append_assoc kept [] [])
joined-split kept (p ∷ ps) = sym (append_assoc kept p (joined ps))

none-later : (ps : List (List ℕ)) → AtEnd ps → length (first ps) ≡ 0 → joined (later ps) ≡ []
none-later [] a e = refl
none-later (p ∷ ps) a e = a.0 e

end_later : (ps : List (List ℕ)) → AtEnd ps → AtEnd (later ps)
end_later [] a = a
end_later (p ∷ ps) a = a.1

-- ## One turn

module _ (kept : List ℕ) (ps : List (List ℕ)) {s : Splicer} {r : Played} {m b o : List ℕ} (a : Ran s (kept ++ first ps) r m b o) where
  turn-rest : {t : Bool} → r.more ≡ t
      → rest s (kept ++ joined ps)
      ≡ take r.len o ++ cond t (rest (shown m b) (drop r.used (kept ++ first ps) ++ joined (later ps))) []
  unfolding goes_on
  turn-rest e =
      ap (rest s) (joined-split kept ps) ∙ a.runs.output (joined (later ps))
      ∙ ap (λ t. take r.len o ++ cond t (rest (shown m b) (drop r.used (kept ++ first ps) ++ joined (later ps))) []) e

  -- the last turn: another mark, an oversize header, or the end before a cut record
  last_turn : AtEnd ps → again r.more (length (first ps)) r.used ≡ false → take r.len o ≡ rest s (kept ++ joined ps)
  last_turn end e = go r.more refl
    where
      go : (t : Bool) → r.more ≡ t → take r.len o ≡ rest s (kept ++ joined ps)
      go false f = sym (turn-rest f ∙ append-nil (take r.len o))
      go true f =
          let still = or-none _ _ (ap (λ t. again t (length (first ps)) r.used) (sym f) ∙ e) in
          let Still-read = ltb-false 0 (length (first ps)) still.0 in
          let still-used = ltb-false 0 r.used still.1 in
          let all : kept ++ joined ps ≡ kept ++ first ps =
          joined-split kept ps ∙ ap (λ x. (kept ++ first ps) ++ x) (none-later ps end (omega arith)) ∙ append-nil (kept ++ first ps) in
          let none : rest s (kept ++ joined ps) ≡ [] =
          ap (rest s) all ∙ rest-cut s (kept ++ first ps) (a.stuck (omega arith) f) in
          none-front (take r.len o) _ (sym (turn-rest f) ∙ none) ∙ sym none

-- ## All turns

pub pieces-rest : {n : ℕ} {s : Splicer} {kept : List ℕ} {ps : List (List ℕ)} {w : List ℕ} → AtEnd ps → Fed n Over s kept ps w
    → w ≡ rest s (kept ++ joined ps)
pieces-rest {kept = kept} {ps = ps} end (over a e) = last_turn kept ps a end e
pieces-rest {kept = kept} {ps = ps} end (goes {r = r} {o = o} a e f) =
    ap (λ x. take r.len o ++ x) (pieces-rest (end_later ps end) f) ∙ sym (turn-rest kept ps a (and_both r.more _ e).0)

-- l begins with w
pub record Begins (w l : List ℕ) : Type 0 where
  pub more : List ℕ
  pub same : l ≡ w ++ more

-- however it stops, what was handed to be written is the beginning
pub pieces-begin : {n : ℕ} {h : Stop} {s : Splicer} {kept : List ℕ} {ps : List (List ℕ)} {w : List ℕ} → Fed n h s kept ps w
    → Begins w (rest s (kept ++ joined ps))
pieces-begin {kept = kept} {ps = ps} (over a e) = record { more = _; same = turn-rest kept ps a refl }
pieces-begin {kept = kept} {ps = ps} (failed a e) = record { more = _; same = turn-rest kept ps a refl }
pieces-begin counted = record { more = _; same = refl }
pieces-begin {kept = kept} {ps = ps} (goes {r = r} {o = o} {w = w} a e f) =
    let b = pieces-begin f in
    record {
      more = b.more;
      same = turn-rest kept ps a (and_both r.more _ e).0 ∙ ap (λ x. take r.len o ++ x) b.same
          ∙ sym (append_assoc (take r.len o) w b.more);
    }

-- ## How many

-- each byte is read once and played once
abbrev size : List ℕ → List (List ℕ) → ℕ
size kept ps = length kept + 2 * length (joined ps)

shrinks : (kept : List ℕ) (ps : List (List ℕ)) (used : ℕ) → used ≤ length (kept ++ first ps)
    → (length (first ps) ≡ 0 → 0 < used)
    → size (drop used (kept ++ first ps)) (later ps) < size kept ps
shrinks kept [] used h f = omega (arith, f refl, length-drop used (kept ++ []), length-append kept [])
shrinks kept (p ∷ ps) used h f =
    go (ltb 0 (length p)) refl
  where
    go : (t : Bool) → ltb 0 (length p) ≡ t → size (drop used (kept ++ p)) ps < size kept (p ∷ ps)
    go true e = omega (arith, ltb-true 0 (length p) e, length-drop used (kept ++ p), length-append kept p, length-append p (joined ps))
    go false e =
        let none = ltb-false 0 (length p) e in
        omega (arith, f (omega arith), length-drop used (kept ++ p), length-append kept p, length-append p (joined ps))

moves : (used read : ℕ) → (ltb 0 read || ltb 0 used) ≡ true → read ≡ 0 → 0 < used
moves used read e z =
    ltb-true 0 used (subst (λ n. (ltb 0 n || ltb 0 used) ≡ true) z e)

turn-shrinks : (kept : List ℕ) (ps : List (List ℕ)) {s : Splicer} {r : Played} {m b o : List ℕ} → Ran s (kept ++ first ps) r m b o
    → again r.more (length (first ps)) r.used ≡ true → size (drop r.used (kept ++ first ps)) (later ps) < size kept ps
turn-shrinks kept ps {r = r} a e =
    shrinks kept ps r.used a.runs.within (moves _ _ (and_both r.more _ e).1)

-- the turns are used up only by an input of half as many bytes
pub counted-long : {n : ℕ} {s : Splicer} {kept : List ℕ} {ps : List (List ℕ)} {w : List ℕ} → Fed n Counted s kept ps w → n ≤ size kept ps
counted-long counted = omega arith
counted-long {kept = kept} {ps = ps} (goes a e f) = omega (arith, turn-shrinks kept ps a e, counted-long f)

-- ## The whole program

-- what `play` promises, from its own contract: of the pieces that were read and, behind them, the input left unread
module _ {h : Stop} (x : Stopped (fresh (padded card_name)).splicer h) (unread : List (List ℕ)) where
  pub program-begins : Begins x.output (card (joined (x.reads ++ unread)))
  program-begins =
      let b = pieces-begin (x.fed unread) in record { more = b.more; same = card-rest (joined (x.reads ++ unread)) ∙ b.same }

-- if there is nothing more to play, what is written is what document 01's card program writes for the whole input
pub program-card : (x : Stopped (fresh (padded card_name)).splicer Over) (unread : List (List ℕ)) → AtEnd (x.reads ++ unread)
    → x.output ≡ card (joined (x.reads ++ unread))
program-card x unread end = pieces-rest end (x.fed unread) ∙ sym (card-rest (joined (x.reads ++ unread)))

-- and no input of less than 2^63 bytes uses up its turns
pub program-patient : {s : Splicer} (x : Stopped s Counted) (unread : List (List ℕ))
    → 9223372036854775808 ≤ length (joined (x.reads ++ unread))
program-patient x unread = omega (arith, counted-long (x.fed unread))

-- the same of any turns over the pieces of an input; it stops where document 01's stops, since the pieces that it leaves unread add nothing
pub pieces-card : {n : ℕ} (ps : List (List ℕ)) {w : List ℕ} → AtEnd ps → Fed n Over (fresh (padded card_name)).splicer [] ps w
    → w ≡ card (joined ps)
pieces-card ps end f = pieces-rest end f ∙ sym (card-rest (joined ps))

-- ## They end

-- whatever `run` gives of every memory that is lent and all bytes, as its contract says (proofs/Cited)
abbrev pub Runner : Type 0
Runner = (m b l e : List ℕ) → Lent m b → All Byte l → card_room ≤ length e → Given m b l e

-- what is written in all
pub record Ends (s : Splicer) (kept : List ℕ) (ps : List (List ℕ)) : Type 0 where
  pub turns : ℕ
  pub written : List ℕ
  pub fed : Fed turns Over s kept ps written

-- pieces of bytes
abbrev pub Bytes : List (List ℕ) → Type 0
Bytes ps = All (λ p. All Byte p) ps

first-bytes : (ps : List (List ℕ)) → Bytes ps → All Byte (first ps)
first-bytes [] a = tt
first-bytes (p ∷ ps) a = a.0

later-bytes : (ps : List (List ℕ)) → Bytes ps → Bytes (later ps)
later-bytes [] a = a
later-bytes (p ∷ ps) a = a.1

module _ (f : Runner) where
  ends : (n : ℕ) (m b e kept : List ℕ) (ps : List (List ℕ)) → Lent m b → card_room ≤ length e → All Byte kept → Bytes ps
      → size kept ps < n → Ends (shown m b) kept ps
  ends zero m b e kept ps l w k a h = absurd (omega arith)
  ends (suc n) m b e kept ps l w k a h =
      let here = all_append Byte kept (first ps) k (first-bytes ps a) in
      let g = f m b (kept ++ first ps) e l here w in
      let used = g.played.used in
      go g (again g.played.more (length (first ps)) used) refl
      (λ t. ends n g.words g.bytes g.out (drop used (kept ++ first ps)) (later ps) g.ran.runs.lent
      (omega (arith, g.long)) (all_drop Byte used (kept ++ first ps) here) (later-bytes ps a)
      (omega (arith, turn-shrinks kept ps g.ran t)))
    where
      go : (g : Given m b (kept ++ first ps) e) (t : Bool) → again g.played.more (length (first ps)) g.played.used ≡ t
          → (t ≡ true → Ends (shown g.words g.bytes) (drop g.played.used (kept ++ first ps)) (later ps))
          → Ends (shown m b) kept ps
      go g false t more = record { turns = 1; written = _; fed = over g.ran t }
      go g true t more = record { turns = _; written = _; fed = goes g.ran t (more refl).fed }

-- over any pieces of bytes the program ends; that `run` has a result each time is shown (proofs/Given)
pub pieces_end : (m b kept : List ℕ) (ps : List (List ℕ)) → Lent m b → All Byte kept → Bytes ps → Ends (shown m b) kept ps
pieces_end m b kept ps l k a =
    let wide = length-replicate {A = ℕ} card_room 0 in
    ends given (suc (size kept ps)) m b (replicate card_room 0) kept ps l (omega arith) k a (omega arith)

-- ## It stops: of the empty input, whose first read gives nothing, within its turns and whatever is left unread

none-again : (more : Bool) (used : ℕ) → used ≤ 0 → again more 0 used ≡ false
none-again false used h = refl
none-again true used h = le-ltb 0 used h

stops-at-once : (m b : List ℕ) → Lent m b → Stopped (shown m b) Over
stops-at-once m b l =
    let wide = length-replicate {A = ℕ} card_room 0 in
    let g = given m b [] (replicate card_room 0) l tt (omega arith) in
    record {
      reads = [] ∷ [];
      output = take g.played.len g.out;
      fed = λ unread. over g.ran (none-again g.played.more g.played.used g.ran.runs.within);
    }

pub over-met : Stopped (fresh (padded card_name)).splicer Over
unfolding card_name
over-met =
    let named : All Byte (padded card_name) = padded-byte card_name (omega arith, (omega arith, (omega arith, tt))) in
    let t = (any-calls (padded card_name) refl named [] tt).trace in
    subst (λ s. Stopped s Over) t.fresh.splicer (stops-at-once t.begun.words t.begun.bytes t.fresh.lent)
