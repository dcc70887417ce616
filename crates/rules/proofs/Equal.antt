-- 02, CR 4: a start that ends an equal one. Assumes nothing.
use mathlib.Core.Path.{◌≡◌, refl}
use mathlib.Core.List.{List, [], ◌∷◌, ◌++◌, map}
use Prim.Native.Nat.{◌+◌}
use native.Mathlib.Omega.{arith}
use borrow.Author.Tests.{eq-eqb, lt-ltb}
use Rattle.rules.specs.declared.Session.{Session}
use Rattle.rules.specs.declared.Ending.TheVariants.{Complete, Response}
use Rattle.rules.specs.Lists.{remove_at}
use Rattle.rules.specs.State.{Lately}
use Rattle.rules.specs.Recent.{remembered_all}
use Rattle.rules.specs.Ends.{and_then, ended, past, followers, dismissed}
use Rattle.rules.specs.Instants.{may_start, began, meets_equal, ousted, launched}

-- "the equal one on air ends at once, SpliceComplete flag 1, result 125, and its waiting followers end with Splice_Response 125, all before
-- the
-- new start's record": these records and no others, in this order; the covered ones stay as they were, under the new one; and what ended is
-- kept
-- in the same order
pub equal-start : (s air : Session) (w k : List Session) (l : Lately) → s.overrides ≡ 1 → air.access ≡ s.access
    → let f = followers air.conn air.id w in
    launched s (record { waiting = w; started = air ∷ k; lately = l })
    ≡ record {
      queue = record {
        waiting = f.left;
        started = s ∷ k;
        lately = remembered_all (past (Complete 125) air ∷ map (past (Response 125)) f.gone) l;
      };
      written = ended (Complete 125) air ∷ (map (ended (Response 125)) f.gone ++ (began s ∷ []));
    }
unfolding launched may_start meets_equal ousted and_then dismissed remove_at remembered_all
equal-start s air w k l o e =
    rw (eq-eqb s.overrides 1 o, lt-ltb air.access (s.access + s.overrides) (omega arith), eq-eqb air.access s.access e) refl
