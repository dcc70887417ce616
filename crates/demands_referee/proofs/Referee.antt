-- The referee, as theorems: pieces do not matter, what it tells is final and never late, and recordings of our own card program are in
-- order, whole and at every moment.
-- Rests on the promises of `feed` and `end`, on recording's laws, and on proofs/Beside.
use mathlib.Core.Path.{◌≡◌, refl, sym, subst, ap, ap₂, ◌∙◌}
use mathlib.Core.Bool.{Bool, true, false}
use mathlib.Core.Logic.{◌⊎◌, ⊎_elim}
use mathlib.Core.List.{List, [], ◌∷◌, ◌++◌, append_assoc, append-nil}
use Prim.Native.Nat.{ℕ, ◌-◌, ◌<◌}
use native.Mathlib.Omega.{arith}
use lib.Dec.{eqb, ltb}
use lib.ListN.{length, take, drop}
use lib.Seq.{length-take-le}
use borrow.Author.Tests.{eqb-true, eqb-false, ltb-true, ltb-false}
use Rattle.rules.specs.Lists.{All}
use Rattle.rules.specs.Follows.Wires.{Byte}
use Rattle.rules.specs.Bytes.{value, value_from}
use Rattle.recording.specs.declared.Entry.TheVariants.{Cut}
use Rattle.recording.specs.declared.Finding.TheVariants.{Unknown, Differs}
use Rattle.recording.specs.Recording.{record_mark, span, entry_in, entries_by, entries_run, entries, start}
use Rattle.recording.specs.Recording.{first_unknown, before, judged}
use Rattle.recording.specs.Recorded.{recorded_up_to, recorded, Behind, ends_cut}
use Rattle.recording.proofs.Entries.{entries-step}
use Rattle.recording.proofs.Own.{entries-own}
use Rattle.recording.proofs.Passing.{Passes, passes-own, passes-cut-own}
use Rattle.recording.proofs.Recordings.{sound-start}
use Rattle.judge.proofs.Going.{nothing, something}
use Rattle.follow.specs.declared.Stage.{Stage}
use Rattle.follow.specs.declared.Verdict.{Verdict}
use Rattle.follow.specs.Refereed.{in_order, a_call, a_mark, a_cut, Stand, Found, unless_due, followed, refereed, said_of, joined}
use Rattle.follow.specs.Following.{stand_of, found_in, Holds, found, Same, verdict_of, told_by, end_kind, end_by}
use Rattle.follow.proofs.Open.{open-cut}
use Rattle.follow.proofs.Steps.{found-on, found-over, still}
use Rattle.follow.proofs.Saying.{end-told, end-cut, end-due, end-met}
use Rattle.demands_referee.specs.Beside.{finding_of, counted_of}
use Rattle.demands_referee.specs.Fed.{Referee, Fresh, finally, Held, Fed, over, piece}
use Rattle.demands_referee.proofs.Beside.{ours, refereed-counted, known-all}
use Rattle.std.specs.Prelude.{None, Some}

-- ## The end, by the stage alone

followed-cut : (g : Stand) (l : List ℕ) → entry_in l ≡ Cut → followed g (entries l) ≡ record { kind = a_cut; stand = g }
unfolding followed entries_by
followed-cut g l e = ap (followed g) (entries-step l ∙ ap (λ x. entries_by entries x l) e)

followed-none : (g : Stand) → followed g (entries []) ≡ unless_due g (record { kind = in_order; stand = g })
unfolding followed entries entries_run
followed-none g = refl

module _ (s : Stage) (m b o k : List ℕ) (h : Holds s m b o k) where
  abbrev here : Stand
  here = stand_of s m b o

  said-as : {x : ℕ} → x ≡ end_kind s → ◌≡◌ {A = Found} (record { kind = x; stand = here }) (record { kind = end_kind s; stand = here })
  said-as e = ap (λ (y : ℕ). record { kind = y; stand = here }) e

  end-open : s.told ≡ in_order → (s.have ≡ 0 → ⊥) → found s m b o k [] ≡ record { kind = end_kind s; stand = here }
  end-open z n =
      let l = take s.have k in
      let long : length l ≡ s.have = length-take-le s.have k (omega (arith, h.fits)) in
      let c : entry_in (l ++ []) ≡ Cut = ap entry_in (append-nil l) ∙ open-cut l h.part (omega (arith, n)) in
      found-on s m b o (l ++ []) z ∙ followed-cut here (l ++ []) c ∙ said-as (end-cut s z n)

  end_whole : s.told ≡ in_order → s.have ≡ 0 → found s m b o k [] ≡ record { kind = end_kind s; stand = here }
  end_whole z n =
      ap (λ i. found_in s m b o (take i k ++ [])) n ∙ found-on s m b o [] z ∙ followed-none here ∙ go (ltb s.from s.end) refl
    where
      go : (t : Bool) → ltb s.from s.end ≡ t
          → unless_due here (record { kind = in_order; stand = here }) ≡ record { kind = end_kind s; stand = here }
      go true e =
          let d = ltb-true s.from s.end e in
          rw (something (still s) m b o h.stands.within h.stands.room d) (said-as (end-due s z n d))
      go false e =
          let d = ltb-false s.from s.end e in
          rw (nothing (still s) m b o h.stands.within h.stands.room d) (said-as (end-met s z n d))

  pub end_is : found s m b o k [] ≡ record { kind = end_kind s; stand = here }
  end_is = go (eqb s.told in_order) refl (eqb s.have 0) refl
    where
      go : (t : Bool) → eqb s.told in_order ≡ t → (i : Bool) → eqb s.have 0 ≡ i
          → found s m b o k [] ≡ record { kind = end_kind s; stand = here }
      go false e i f =
          let z = eqb-false s.told in_order e in found-over s m b o _ z ∙ said-as (end-told s z)
      go true e false f = end-open (eqb-true s.told in_order e) (eqb-false s.have 0 f)
      go true e true f = end_whole (eqb-true s.told in_order e) (eqb-true s.have 0 f)

-- ## Pieces do not matter

abbrev pub verdict : Found → Verdict
verdict f = verdict_of (said_of f)

pub fed-finds : {s t : Referee} {ps : List (List ℕ)} → Fed s ps t → (more : List ℕ) → finally s (joined ps ++ more) ≡ finally t more
fed-finds over more = refl
fed-finds {s} (piece {p = p} {ps = ps} x f) more =
    ap (finally s) (append_assoc p (joined ps) more) ∙ x.finds (joined ps ++ more) ∙ fed-finds f more

pub fed-holds : {s t : Referee} {ps : List (List ℕ)} → Held s → Fed s ps t → Held t
fed-holds h over = h
fed-holds h (piece x f) = fed-holds x.holds f

abbrev pub standing : Referee → Stand
standing t = stand_of t.stage t.words t.bytes t.due

module _ {name : List ℕ} {s t : Referee} {ps : List (List ℕ)} (b : Fresh name s) (f : Fed s ps t) where
  -- what is found in the end, whatever follows the pieces, is what is found in all bytes together
  pub pieces_more : (more : List ℕ) → finally t more ≡ refereed name (joined ps ++ more)
  pieces_more more = sym (fed-finds f more) ∙ b.finds (joined ps ++ more)

  pub pieces-found : refereed name (joined ps) ≡ record { kind = end_kind t.stage; stand = standing t }
  pieces-found =
      ap (refereed name) (sym (append-nil (joined ps))) ∙ sym (pieces_more [])
      ∙ end_is t.stage t.words t.bytes t.due t.kept (fed-holds b.holds f)

  -- what `end` says
  pub pieces-refereed : end_by t.stage ≡ verdict (refereed name (joined ps))
  pieces-refereed = sym (ap verdict pieces-found)

  -- and what is still due
  pub pieces-due : take (t.stage.end - t.stage.from) (drop t.stage.from t.due) ≡ (refereed name (joined ps)).stand.bench.due
  pieces-due = sym (ap (λ (x : Found). x.stand.bench.due) pieces-found)

  -- ## What is told is final, and never late

  -- told once, it is what is found, whatever follows
  pub told-for-good : (t.stage.told ≡ in_order → ⊥) → (more : List ℕ)
      → refereed name (joined ps ++ more) ≡ record { kind = t.stage.told; stand = standing t }
  told-for-good z more = sym (pieces_more more) ∙ found-over t.stage t.words t.bytes t.due _ z

  pub told-verdict : (t.stage.told ≡ in_order → ⊥) → (more : List ℕ) → told_by t.stage ≡ verdict (refereed name (joined ps ++ more))
  told-verdict z more = sym (ap verdict (told-for-good z more))

  -- a beginning of which nothing is told may still pass: what follows may be cut
  pub record InOrder : Type 0 where
    pub more : List ℕ
    pub ends : (refereed name (joined ps ++ more)).kind ≡ a_cut

  pub never-late : t.stage.told ≡ in_order → InOrder
  unfolding value value_from entry_in span
  never-late z = go (eqb t.stage.have 0) refl
    where
      holds : Held t
      holds = fed-holds b.holds f

      kind : {x : Found} → x ≡ record { kind = a_cut; stand = standing t } → x.kind ≡ a_cut
      kind e = ap (λ (y : Found). y.kind) e

      go : (i : Bool) → eqb t.stage.have 0 ≡ i → InOrder
      go true e =
          let more = record_mark ∷ [] in
          let n = eqb-true t.stage.have 0 e in
          record {
            more = more;
            ends = kind (sym (pieces_more more)
                ∙ ap (λ i. found_in t.stage t.words t.bytes t.due (take i t.kept ++ more)) n
                ∙ found-on t.stage t.words t.bytes t.due more z ∙ followed-cut (standing t) more refl);
          }
      go false e =
          let n = eqb-false t.stage.have 0 e in
          record {
            more = [];
            ends = kind (sym (pieces_more [])
                ∙ end_is t.stage t.words t.bytes t.due t.kept holds
                ∙ ap (λ (y : ℕ). record { kind = y; stand = standing t }) (sym (end-cut t.stage z n)));
          }

-- two cuttings of the same bytes
pub cuts-alike : {name : List ℕ} {s t u v : Referee} {ps qs : List (List ℕ)} → Fresh name s → Fed s ps t → Fresh name u → Fed u qs v
    → joined ps ≡ joined qs → (more : List ℕ) → finally t more ≡ finally v more
cuts-alike {name} b f c g e more = pieces_more b f more ∙ ap (λ l. refereed name (l ++ more)) e ∙ sym (pieces_more c g more)

-- the stage and all that is lent stay
abbrev pub Stays : Referee → Referee → Type 0
Stays s t = Same s.stage s.words s.bytes s.due s.kept t.stage t.words t.bytes t.due t.kept

-- once told, further bytes change nothing
pub told-stays : {s t : Referee} {ps : List (List ℕ)} → Fed s ps t → (s.stage.told ≡ in_order → ⊥) → Stays s t
told-stays over z = record { stage = refl; words = refl; bytes = refl; due = refl; kept = refl }
told-stays (piece x f) z =
    let a = x.stays z in
    let g = told-stays f (λ e. z (sym (ap (λ (y : Stage). y.told) a.stage) ∙ e)) in
    record {
      stage = g.stage ∙ a.stage;
      words = g.words ∙ a.words;
      bytes = g.bytes ∙ a.bytes;
      due = g.due ∙ a.due;
      kept = g.kept ∙ a.kept;
    }

-- ## Our own recordings pass, of any length

passes-is : (l : List ℕ) → Passes start (entries l) → finding_of (refereed ours l) ≡ None
unfolding first_unknown before counted_of
passes-is l p =
    refereed-counted l
    ∙ ap counted_of (ap₂ before (ap (λ es. judged start es) (known-all (entries l) 0 (p.known 0)) ∙ p.judges) (p.known 0))

pub passes-up-to : (n : ℕ) (l : List ℕ) → All Byte l → finding_of (refereed ours (recorded_up_to n l)) ≡ None
unfolding recorded_up_to start
passes-up-to n l a =
    passes-is (recorded_up_to n l)
    (subst (Passes start) (sym (entries-own n start.splicer l sound-start a)) (passes-own n start.splicer 0 l))

pub own-passes : (l : List ℕ) → All Byte l → finding_of (refereed ours (recorded l)) ≡ None
unfolding recorded
own-passes l a = passes-up-to (length l) l a

pub own-cut-passes : (l : List ℕ) (m : ℕ) → All Byte l
    → (ends_cut (entries (take m (recorded l))) ≡ true) ⊎ Behind l m → finding_of (refereed ours (take m (recorded l))) ≡ None
unfolding recorded recorded_up_to start
own-cut-passes l m a =
    ⊎_elim
    (λ e. passes-is (take m (recorded l)) (passes-cut-own (length l) start.splicer 0 l sound-start a m e))
    (λ b. ap (λ y. finding_of (refereed ours y)) b.are ∙ passes-up-to b.calls l a)

-- what is told is a call or a mark
told-some : (k : ℕ) (g : Stand) → k < a_cut → (k ≡ in_order → ⊥) → finding_of (record { kind = k; stand = g }) ≡ None → ⊥
unfolding finding_of
told-some k g h z e = go (eqb k a_call) refl (eqb k a_mark) refl
  where
    go : (t : Bool) → eqb k a_call ≡ t → (i : Bool) → eqb k a_mark ≡ i → ⊥
    go true p i q = let y : Some (Differs g.bench.number) ≡ None = rw p at e in let x : ◌≡◌ {A = ℕ} 0 1 = cc in omega arith
    go false p true q = let y : Some (Unknown g.at) ≡ None = rw (p, q) at e in let x : ◌≡◌ {A = ℕ} 0 1 = cc in omega arith
    go false p false q = omega (arith, eqb-false k a_call p, eqb-false k a_mark q, z)

-- live: while the bytes come, in whatever pieces, nothing is ever told
pub own-in-order : {s t : Referee} {ps : List (List ℕ)} → Fresh ours s → Fed s ps t → (l more : List ℕ) → All Byte l
    → joined ps ++ more ≡ recorded l → t.stage.told ≡ in_order
own-in-order {s} {t} b f l more a e = go (eqb t.stage.told in_order) refl
  where
    go : (i : Bool) → eqb t.stage.told in_order ≡ i → t.stage.told ≡ in_order
    go true z = eqb-true t.stage.told in_order z
    go false z =
        let n = eqb-false t.stage.told in_order z in
        let r = told-for-good b f n more in
        absurd (told-some t.stage.told (standing t) (fed-holds b.holds f).stands.kind n
        (ap finding_of (sym r ∙ ap (refereed ours) e) ∙ own-passes l a))
