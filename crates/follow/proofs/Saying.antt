-- A verdict from the stage, case by case; the referee before any byte. Rests on the definitions, and on the promise of the engine's fresh.
use Rattle.std.proofs.Common.{◌≡◌, ℕ, ◌-◌, ◌<◌, ◌≤◌, List, [], length, refl, ap, ◌∙◌, arith, le-ltb, lt-ltb, eq-eqb, ne_eqb}
use Rattle.rules.specs.Calls.{fresh}
use Rattle.memory.specs.Memory.{shown}
use Rattle.engine.specs.Lent.{Lent}
use Rattle.recording.specs.Recording.{entry_in, entries}
use Rattle.follow.specs.declared.Stage.{Stage}
use Rattle.follow.specs.declared.Verdict.{Verdict}
use Rattle.follow.specs.Refereed.{in_order, a_call, a_cut, begun, followed, refereed, said}
use Rattle.follow.specs.Following.{is_open, verdict_of, end_kind, Begins, first}
use Rattle.follow.proofs.Steps.{found-on}

module _ (k number mark at : ℕ) where
  pub said-other : (k ≡ a_call → ⊥)
      → ◌≡◌ {A = Verdict} (record { kind = k; number = number; place = at; good = number }) (verdict_of (said k number mark at))
  unfolding said
  said-other e = rw (ne_eqb k a_call e)

  pub said-call : {good : ℕ} → k ≡ a_call → good ≡ number - 1
      → ◌≡◌ {A = Verdict} (record { kind = k; number = number; place = mark; good = good }) (verdict_of (said k number mark at))
  unfolding said
  said-call e g = rw (eq-eqb k a_call e, g)

module _ (s : Stage) where
  pub end-told : (s.told ≡ in_order → ⊥) → s.told ≡ end_kind s
  unfolding end_kind
  end-told e = rw (ne_eqb s.told in_order e)

  pub end-cut : s.told ≡ in_order → (s.have ≡ 0 → ⊥) → a_cut ≡ end_kind s
  unfolding end_kind
  end-cut e h = rw (eq-eqb s.told in_order e, ne_eqb s.have 0 h)

  pub end-due : s.told ≡ in_order → s.have ≡ 0 → s.from < s.end → a_call ≡ end_kind s
  unfolding end_kind
  end-due e h d = rw (eq-eqb s.told in_order e, eq-eqb s.have 0 h, lt-ltb s.from s.end d)

  pub end-met : s.told ≡ in_order → s.have ≡ 0 → s.end ≤ s.from → in_order ≡ end_kind s
  unfolding end_kind
  end-met e h d = rw (eq-eqb s.told in_order e, eq-eqb s.have 0 h, le-ltb s.from s.end d)

pub begins-first : (m b name o k : List ℕ) → Lent m b → shown m b ≡ (fresh name).splicer → length k ≡ 4098 → Begins name first m b o k
unfolding entry_in is_open refereed begun
begins-first m b name o k t e h =
    record {
      holds = record {
        stands = record { lent = t; within = omega arith; room = omega arith; kind = omega arith };
        fits = omega arith;
        part = refl;
      };
      finds = λ more. found-on first m b o more refl
          ∙ ap (λ s. followed (record { bench = record { splicer = s; number = 0; due = [] }; mark = 0; at = 0 }) (entries more)) e;
    }
