-- What a finding says of any recording: none, that every call has its due records; a number, that it is the first that has not.
-- Rests on proofs/Calling: a call's entry is one call.
use mathlib.Core.Path.{◌≡◌, refl, sym, ap, ap₂, ◌∙◌}
use mathlib.Core.Bool.{Bool, true, false, cond}
use mathlib.Core.Logic.{◌⊎◌, inl, inr}
use mathlib.Core.List.{List, [], ◌∷◌, ◌++◌, append_assoc}
use Prim.Native.Nat.{ℕ, zero, suc, ◌+◌, ◌≤◌}
use native.Mathlib.Omega.{arith}
use lib.ListN.{length, take, drop, take-append-drop, length-append}
use lib.Seq.{take_at, drop-length}
use borrow.Author.Tests.{eqb-true}
use Rattle.std.specs.Prelude.{Option, Some, None}
use Rattle.rules.specs.State.{Splicer}
use Rattle.rules.specs.Calls.{Call, call}
use Rattle.rules.specs.Card.{Next, calls, ends, stops, next, told}
use Rattle.rules.proofs.All.{All}
use Rattle.rules.proofs.Bytes.{same_true}
use Rattle.rules.proofs.Tests.{clash, or-none}
use Rattle.feed.specs.Feed.{behind}
use Rattle.recording.specs.declared.Entry.TheVariants.{Made}
use Rattle.recording.specs.declared.Finding.{Finding}
use Rattle.recording.specs.declared.Finding.TheVariants.{Differs}
use Rattle.recording.specs.Recording.{span, Item, made, wrote, cut, another, Bench, called, called_by, taken, begins, is_nothing}
use Rattle.recording.specs.Recording.{judged, unknown_from}
use Rattle.recording.specs.Recorded.{recorded_by, recorded_run, bytes_of, made_bytes, ends_cut, is_last, has_oversize, call_of}
use Rattle.recording.proofs.Entries.{Begins, begins-as, Whole, Valid, entry-behind}
use Rattle.recording.proofs.Calling.{Calls, is-called, next-same}

-- ## One step

-- a test that has to be passed
pub choice-none : (b : Bool) (x : Option Finding) (n : ℕ) → cond b x (Some (Differs n)) ≡ None → (b ≡ true) × (x ≡ None)
choice-none true x n e = (refl, e)
choice-none false x n e = absurd (let y : ◌≡◌ {A = ℕ} 0 1 = cc in omega arith)

pub choice-differs : (b : Bool) (x : Option Finding) (n k : ℕ) → cond b x (Some (Differs n)) ≡ Some (Differs k)
    → ((b ≡ true) × (x ≡ Some (Differs k))) ⊎ ((b ≡ false) × (k ≡ n))
choice-differs true x n k e = inl (refl, e)
choice-differs false x n k e = inr (refl, cc)

pub nothing_is : (d : List ℕ) → is_nothing d ≡ true → [] ≡ d
unfolding is_nothing
nothing_is [] e = refl
nothing_is (x ∷ d) e = absurd (omega (arith, eqb-true (length (x ∷ d)) 0 e))

-- what begins with w is w and the rest
pub begins-split : (w d : List ℕ) → begins w d ≡ true → w ++ drop (length w) d ≡ d
unfolding begins
begins-split w d e = ap (λ x. x ++ drop (length w) d) (same_true w (take (length w) d) e) ∙ take-append-drop (length w) d

-- ## A call's entry is one call

-- x: what the card program makes of its bytes
pub record Makes (x : Next) : Type 0 where
  pub call : Call
  pub only : call_of x ≡ call ∷ []
  pub does : (g : Bench) → called_by x g ≡ called call g
  pub goes : is_last x ≡ false → x ≡ calls call []

pub makes : (c : List ℕ) → Whole Made c → Makes (next c)
unfolding is_last call_of called_by
makes c e = go (next c) (is-called c (length c) e)
  where
    go : (x : Next) → Calls c (length c) x → Makes x
    go (calls k left) f = record { call = k; only = refl; does = λ g. refl; goes = λ z. ap (calls k) (f ∙ drop-length c) }
    go (ends k) f = record { call = k; only = refl; does = λ g. refl; goes = λ z. absurd (clash true refl z) }
    go stops f = absurd f

-- in front of other calls
recorded-made : (n : ℕ) (s : Splicer) (c m : List ℕ) (k : Call) → Whole Made c → next c ≡ calls k []
    → recorded_run (suc n) s (c ++ m) ≡ c ++ (told (call k s).answer ++ recorded_run n (call k s).splicer m)
unfolding recorded_run recorded_by behind
recorded-made n s c m k e f =
    let b : Begins c (Made (length c)) = begins-as c e in
    let d : Begins (c ++ m) (Made (length c)) =
    begins-as (c ++ m) (entry-behind c m b.0.some (omega (arith, b.0.asked)) ∙ e) in
    ap (λ x. recorded_by (recorded_run n) x s (c ++ m)) (next-same c m e ∙ ap (behind m) f)
    ∙ ap (λ x. x ++ (told (call k s).answer ++ recorded_run n (call k s).splicer m)) (take_at c m (span (c ++ m)) d.0.asked)

-- ## Nothing else passes

recorded-none : (n : ℕ) (s : Splicer) → recorded_run n s [] ≡ []
unfolding recorded_run recorded_by next
recorded-none zero s = refl
recorded-none (suc n) s = refl

-- what was still due, and then the recording of the calls that are left
pub passed-ours : (es : List Item) (g : Bench) (n i : ℕ) → All Valid es → judged g es ≡ None → unknown_from i es ≡ None
    → ends_cut es ≡ false
    → has_oversize es ≡ false → length (made_bytes es) ≤ n → bytes_of es ≡ g.due ++ recorded_run n g.splicer (made_bytes es)
unfolding judged taken called unknown_from ends_cut has_oversize bytes_of made_bytes
passed-ours [] g n i v j u c o h =
    let d = choice-none (is_nothing g.due) None g.number j in
    ap₂ (λ x y. x ++ y) (nothing_is g.due d.0) (sym (recorded-none n g.splicer))
passed-ours (wrote w ∷ es) g n i v j u c o h =
    let d = choice-none (begins w g.due) _ g.number j in
    let r = passed-ours es (taken (length w) g) n (i + length w) v.1 d.1 u c o h in
    ap (λ x. w ++ x) r ∙ sym (append_assoc w (drop (length w) g.due) (recorded_run n g.splicer (made_bytes es)))
    ∙ ap (λ x. x ++ recorded_run n g.splicer (made_bytes es)) (begins-split w g.due d.0)
passed-ours (made c ∷ es) g zero i v j u k o h =
    let b : Begins c (Made (length c)) = begins-as c v.0 in
    absurd (omega (arith, b.0.some, length-append c (made_bytes es)))
passed-ours (made c ∷ es) g (suc n) i v j u k o h =
    let b : Begins c (Made (length c)) = begins-as c v.0 in
    let d = choice-none (is_nothing g.due) _ g.number j in
    let f = or-none (is_last (next c)) (has_oversize es) o in
    let x = makes c v.0 in
    let r = passed-ours es (called x.call g) n (i + length c) v.1 (ap (λ y. judged y es) (sym (x.does g)) ∙ d.1) u k f.1
    (omega (arith, b.0.some, length-append c (made_bytes es))) in
    ap (λ y. c ++ y) r ∙ sym (recorded-made n g.splicer c (made_bytes es) x.call v.0 (x.goes f.0))
    ∙ ap (λ y. y ++ recorded_run (suc n) g.splicer (c ++ made_bytes es)) (nothing_is g.due d.0)
passed-ours (cut l ∷ es) g n i v j u c o h = absurd (clash true refl c)
passed-ours (another l ∷ es) g n i v j u c o h = absurd (let y : ◌≡◌ {A = ℕ} 0 1 = cc in omega arith)
