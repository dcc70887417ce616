-- "any two results it allows are proved equal": what is left to do, the verdicts, the buffer and the numbers.
-- Rests on that a promise speaks of every list of Hardware_Configs and of every section.
use mathlib.Core.Path.{◌≡◌, refl, sym, ap, ◌∙◌}
use mathlib.Core.List.{List, [], ◌∷◌, ◌++◌}
use Prim.Native.Nat.{ℕ, suc, ◌+◌, ◌/◌, ◌≤◌}
use native.Mathlib.Omega.{arith}
use lib.ListN.{length, get_or, set, take, replicate, length-append, length-replicate, get_or-replicate}
use lib.Seq.{take_at, get_or-set_same, get_or-append-add}
use Rattle.rules.specs.Bytes.{written}
use Rattle.rules.specs.Hardware.{hardware_in}
use Rattle.rules.specs.HouseNumbers.{longest_section}
use Rattle.rules.specs.Records.{Record, output}
use Rattle.rules.proofs.Records.{length-record}
use Rattle.rules.proofs.Written.{output-one}
use Rattle.recall_rules.specs.declared.Phase.TheVariants.{Waits}
use Rattle.recall_rules.specs.declared.Verdict.{Verdict}
use Rattle.recall_rules.specs.Verdicts.{verdict, none}
use Rattle.recall_rules.specs.Calls.{Pass, with_verdicts, config_response, answer}
use Rattle.recall_rows.specs.Rows.{width}
use Rattle.recall_ends.specs.Does.{all}
use Rattle.recall_ends.proofs.Laws.{length-all}
use Rattle.recall_answers.specs.declared.Carried.{Carried}
use Rattle.recall_answers.specs.declared.Effect.{Effect}
use Rattle.recall_answers.specs.declared.Effect.TheVariants.{Nothing, Joins, Enters, Configures}
use Rattle.recall_answers.specs.declared.Given.{Given}
use Rattle.recall_answers.specs.Replies.{pass_of, effected, spoken, Left, Replies}
use Rattle.recall_answers.proofs.Laws.{card-short}

-- one that joins is one more
longer : (u v : List Verdict) (x : Verdict) → length u ≡ length v → u ≡ v ++ (x ∷ []) → ⊥
longer u v x h e = omega (arith, ap length e, length-append v (x ∷ []))

joined_same : (u v : List Verdict) (x y : Verdict) → length u ≡ length v → u ++ (x ∷ []) ≡ v ++ (y ∷ []) → (u ≡ v) × (x ≡ y)
joined_same u v x y h e = (
  sym (take_at u (x ∷ []) (length u) refl) ∙ ap (take (length u)) e ∙ take_at v (y ∷ []) (length u) (sym h),
  sym (get_or-append-add u (x ∷ []) 0 none) ∙ ap (λ (l : List Verdict). get_or l (length u + 0) none) e
      ∙ ap (λ (n : ℕ). get_or (v ++ (y ∷ [])) (n + 0) none) h ∙ get_or-append-add v (y ∷ []) 0 none,
)

-- Hardware_Configs of which none is x
abbrev others : ℕ → List ℕ → List (List ℕ)
others c x = replicate (suc c) (0 ∷ x)

replaced : (c : ℕ) (x : List ℕ) → others c x ≡ set (others c x) c x → ⊥
replaced c x e =
    omega (
      arith,
      ap (λ (l : List (List ℕ)). length (get_or l c [])) e,
      ap length (get_or-replicate (suc c) c (0 ∷ x) [] (omega arith)),
      ap length (get_or-set_same (others c x) c x [] (omega (arith, length-replicate (suc c) (0 ∷ x)))),
    )

-- a record with a longer section is longer
config-size : (c : ℕ) (section : List ℕ) (h : Carried) (m : List ℕ) → length section ≤ longest_section →
    length (output (config_response c section (pass_of [] h m) ∷ [])) ≡ 44 + length section
unfolding config_response
config-size c section h m s =
    let r = config_response c section (pass_of [] h m) in
    omega (arith, ap length (output-one r), length-record r (card-short, omega arith, s))

-- w: the records of the answer; n: how far the output is written, both of the promise with the effect f
module _ (c : ℕ) (d : List ℕ) (h : Carried) (m : List ℕ) (w : (section : List ℕ) → List Record) where
  pub record Of (f : Effect) (n : ℕ) : Type 0 where
    pub count : (section : List ℕ) → n ≡ 0 + length (output (spoken f (w section)))
    pub left : (section : List ℕ) → Left f c d section (pass_of [] h m) (w section)

  late : {n : ℕ} → Of Configures n → (section : List ℕ) → length section ≤ longest_section
      → length (output (w section)) ≡ 44 + length section
  late b section s = ap (λ (rs : List Record). length (output rs)) (b.left section) ∙ config-size c section h m s

  -- the configuration is not written now
  written-late : {n n' : ℕ} → Of Nothing n → Of Configures n' → ⊥
  unfolding spoken
  written-late a b =
      omega (arith, a.count [], late b [] (omega arith), a.count (0 ∷ []), late b (0 ∷ []) (omega arith))

  module _ (k k' : List ℕ) (z : length (all k) ≡ length (all k')) where
    -- after what is left to do, of a pass whose Hardware_Configs are all others
    abbrev After : Effect → List ℕ → Pass
    After f k = effected c d f (with_verdicts (all k) (pass_of (others c (hardware_in d)) h m))

    agree : (f f' : Effect) {n n' : ℕ} → Of f n → Of f' n' → (After f k).verdicts ≡ (After f' k').verdicts
        → (After f k).hardware ≡ (After f' k').hardware →
        (f ≡ f') × (all k ≡ all k')
    unfolding effected
    agree Nothing Nothing a b u v = (refl, u)
    agree Nothing (Joins x) a b u v = absurd (longer (all k) (all k') (verdict Waits x) z u)
    agree Nothing Enters a b u v = absurd (replaced c (hardware_in d) v)
    agree Nothing Configures a b u v = absurd (written-late a b)
    agree (Joins x) Nothing a b u v = absurd (longer (all k') (all k) (verdict Waits x) (sym z) (sym u))
    agree (Joins x) (Joins y) a b u v =
        let same = joined_same (all k) (all k') (verdict Waits x) (verdict Waits y) z u in
        (ap (λ (l : Verdict). Joins l.session) same.1, same.0)
    agree (Joins x) Enters a b u v = absurd (longer (all k') (all k) (verdict Waits x) (sym z) (sym u))
    agree (Joins x) Configures a b u v = absurd (longer (all k') (all k) (verdict Waits x) (sym z) (sym u))
    agree Enters Nothing a b u v = absurd (replaced c (hardware_in d) (sym v))
    agree Enters (Joins x) a b u v = absurd (longer (all k) (all k') (verdict Waits x) z u)
    agree Enters Enters a b u v = (refl, u)
    agree Enters Configures a b u v = absurd (replaced c (hardware_in d) (sym v))
    agree Configures Nothing a b u v = absurd (written-late b a)
    agree Configures (Joins x) a b u v = absurd (longer (all k) (all k') (verdict Waits x) z u)
    agree Configures Enters a b u v = absurd (replaced c (hardware_in d) v)
    agree Configures Configures a b u v = (refl, u)

-- of `answer`, whose words keep their length
pub replies-same : (c id : ℕ) (d : List ℕ) (h : Carried) (m e : List ℕ) {g g' : Given} {k k' o o' : List ℕ} → length k ≡ length k' →
    Replies c id d h m e g k o → Replies c id d h m e g' k' o' → (g ≡ g') × (all k ≡ all k') × (o ≡ o')
replies-same c id d h m e {g} {g'} {k} {k'} {o} {o'} z r r' = (given, same.1, output-same)
  where
    w : (section : List ℕ) → List Record
    w section = (answer c id d section (pass_of [] h m)).written

    hw : List (List ℕ)
    hw = others c (hardware_in d)

    after : effected c d g.effect (with_verdicts (all k) (pass_of hw h m))
        ≡ effected c d g'.effect (with_verdicts (all k') (pass_of hw h m))
    after = sym (r hw []).pass ∙ (r' hw []).pass

    same : (g.effect ≡ g'.effect) × (all k ≡ all k')
    same =
        agree c d h m w k k' (length-all k ∙ ap (λ (n : ℕ). n / width) z ∙ sym (length-all k')) g.effect g'.effect
        (record { count = λ x. (r [] x).tells.count; left = λ x. (r [] x).left })
        (record { count = λ x. (r' [] x).tells.count; left = λ x. (r' [] x).left })
        (ap (λ (s : Pass). s.verdicts) after)
        (ap (λ (s : Pass). s.hardware) after)

    told : Effect → List Record
    told f = spoken f (w [])

    given : g ≡ g'
    given =
        let len : g.len ≡ g'.len = (r [] []).tells.count ∙ ap (λ (f : Effect). 0 + length (output (told f))) same.0
        ∙ sym (r' [] []).tells.count in
        let moved : g.moved ≡ g'.moved = (r [] []).moved ∙ sym (r' [] []).moved in
        λ i. record { len = len i; moved = moved i; effect = same.0 i }

    output-same : o ≡ o'
    output-same = (r [] []).tells.bytes ∙ ap (λ (f : Effect). written e 0 (output (told f))) same.0 ∙ sym (r' [] []).tells.bytes
