-- A stage comes back from its words, and so do the promises.
-- Rests on the definitions alone.
use mathlib.Core.Path.{◌≡◌, refl, sym, subst, ap, ◌∙◌}
use mathlib.Core.List.{List, [], ◌∷◌}
use Prim.Native.Nat.{ℕ, ◌-◌, ◌≤◌}
use native.Mathlib.Omega.{arith}
use Rattle.follow.specs.declared.Stage.{Stage}
use Rattle.follow.specs.declared.Verdict.{Verdict}
use Rattle.follow.specs.Following.{Holds, Feeds, told_by}
use Rattle.door_bench.specs.Referee.{stage_in, stage_words, verdict_words, part_of, TellsFed}

pub stage-back : (s : Stage) → stage_in (stage_words s) ≡ s
unfolding stage_in stage_words
stage-back s = refl

pub holds_as : {s : Stage} (w m b o k : List ℕ) → s ≡ stage_in w → Holds (stage_in w) m b o k → Holds s m b o k
holds_as w m b o k e h = subst (λ y. Holds y m b o k) (sym e) h

-- s: the stage that the words w show; t: the one after it, whose words are x
pub fed-as : {s t : Stage} {v : Verdict} (w : List ℕ) {x p m b o k n c q j r : List ℕ} → s ≡ stage_in w → Feeds s p m b o k t n c q j
    → x ≡ stage_words t → v ≡ told_by t → r ≡ verdict_words v → TellsFed p w m b o k x n c q j r
fed-as {s} {t} {v} w {x} {p} {m} {b} {o} {k} {n} {c} {q} {j} {r} e f g h i =
    let back : t ≡ stage_in x = sym (ap stage_in g ∙ stage-back t) in
    record {
      feeds = subst (λ y. Feeds y p m b o k (stage_in x) n c q j) e (subst (λ y. Feeds s p m b o k y n c q j) back f);
      reply = i ∙ ap verdict_words (h ∙ ap told_by back);
    }

pub part-some : (s : Stage) → s.from ∷ (s.end - s.from) ∷ [] ≡ part_of s
unfolding part_of
part-some s = refl

pub part_none : (s : Stage) → s.end ≤ s.from → s.from ∷ 0 ∷ [] ≡ part_of s
unfolding part_of
part_none s h = let e : 0 ≡ s.end - s.from = omega arith in ap (λ i. s.from ∷ i ∷ []) e
