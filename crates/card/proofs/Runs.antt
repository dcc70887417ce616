-- Records played one behind the other write what document 01's card program writes, whatever input follows.
-- Rests on feed's step-rest, the same for one record.
use mathlib.Core.Path.{◌≡◌, refl, sym, subst, ap, ap₂, ◌∙◌}
use mathlib.Core.Bool.{Bool, true, cond}
use mathlib.Core.List.{List, [], ◌++◌, append_assoc}
use Prim.Native.Nat.{ℕ, ◌+◌, ◌-◌, ◌≤◌}
use native.Mathlib.Omega.{arith}
use lib.ListN.{length, take, drop, length-append, length-drop}
use lib.Seq.{take_at, take_all, drop-drop, length-take-le}
use borrow.Rule.Slice.PartMut.{mid_of, put_mid, same_len_mid, mid_len}
use Rattle.rules.specs.Bytes.{written}
use Rattle.rules.specs.State.{Splicer}
use Rattle.rules.specs.Card.{card_room}
use Rattle.memory.specs.Memory.{shown}
use Rattle.engine.specs.Lent.{Lent}
use Rattle.feed.specs.declared.Played.{Played}
use Rattle.feed.specs.declared.Record.TheVariants.{Cut}
use Rattle.feed.specs.Feed.{record_in, rest}
use Rattle.feed.specs.Play.{goes_on, step_of, Plays}
use Rattle.feed.proofs.Plays.{step-rest, step-within, step-stuck}
use Rattle.card.specs.Ran.{Runs}

-- ## The output buffer

-- l was written at the start of the part
written-length : (e l o : List ℕ) → o ≡ written e 0 l → length l ≤ length o
unfolding written
written-length e l o h = rw h (simp length-append (omega arith))

take_part : (a k : ℕ) (xs ys l : List ℕ) → a ≤ length xs → ys ≡ written (mid_of a k xs) 0 l
    → take (a + length l) (put_mid a k xs ys) ≡ take a xs ++ l
unfolding written
take_part a k xs ys l h e =
    let more = drop (0 + length l) (mid_of a k xs) in
    let back = drop k (drop a xs) in
    let n : length (take a xs ++ l) ≡ a + length l = length-append (take a xs) l ∙ ap (λ y. y + length l) (length-take-le a xs h) in
    ap (λ y. take (a + length l) (take a xs ++ (y ++ back))) e
    ∙ ap (take (a + length l)) (ap (λ y. take a xs ++ y) (append_assoc l more back) ∙ sym (append_assoc (take a xs) l (more ++ back)))
    ∙ take_at (take a xs ++ l) (more ++ back) (a + length l) n

-- ## The loop

pub runs_none : (l m b o : List ℕ) → Lent m b → Runs (shown m b) l (record { used = 0; len = 0; more = true }) m b o
unfolding goes_on
runs_none l m b o n = record { lent = n; within = omega arith; room = omega arith; output = λ more. refl }

-- the part that is lent for one call
abbrev pub room : ℕ → ℕ
room len = len + card_room - len

pub part_room : (len : ℕ) (o : List ℕ) → len + card_room ≤ length o → length (mid_of len (room len) o) ≡ card_room
part_room len o h = mid_len len (len + card_room) o h ∙ omega arith

-- one more record, played into a part of the buffer
module _ {s : Splicer} {l : List ℕ} {used len : ℕ} {m b o : List ℕ}
    (r : Runs s l (record { used = used; len = len; more = true }) m b o) {p : Played} {ring : ℕ} {n c ys : List ℕ}
    (q : Plays ring (mid_of len (room len) o) (step_of (mid_of used (length l - used) l) (shown m b)) p n c ys)
    (whole : length ys ≡ length (mid_of len (room len) o)) where
  -- of the bytes that are left
  at : Plays ring (mid_of len (room len) o) (step_of (drop used l) (shown m b)) p n c ys
  at =
      let tail = take_all (length l - used) (drop used l) (simp length-drop (omega arith)) in
      subst (λ y. Plays ring (mid_of len (room len) o) (step_of y (shown m b)) p n c ys) tail q

  pub runs-long : length (put_mid len (room len) o ys) ≡ length o
  runs-long = same_len_mid len (room len) o ys whole

  pub runs-more : len + card_room ≤ length o
      → Runs s l (record { used = used + p.used; len = len + p.len; more = p.more }) n c (put_mid len (room len) o ys)
  unfolding goes_on
  runs-more fits =
      let u = shown m b in
      let d = at in
      let g = step_of (drop used l) u in
      let f = length-drop used l in
      let inside = step-within (drop used l) u in
      let short = written-length (mid_of len (room len) o) g.shows ys d.bytes in
      let shows : take (len + p.len) (put_mid len (room len) o ys) ≡ take len o ++ g.shows =
      ap (λ k. take (len + k) (put_mid len (room len) o ys)) d.count
      ∙ take_part len (room len) o ys g.shows (omega arith) d.bytes in
      record {
        lent = d.lent;
        within = omega (arith, r.within, d.used);
        room = omega (arith, d.count, runs-long, part_room len o fits);
        output = λ more.
            r.output more
            ∙ ap (λ y. take len o ++ y) (step-rest (drop used l) more u)
            ∙ sym (append_assoc (take len o) g.shows _)
            ∙ ap₂ (λ x y. x ++ y) (sym shows)
            (ap (λ y. cond g.more (rest g.splicer (y ++ more)) []) (drop-drop g.used used l)
            ∙ ap (λ y. cond g.more (rest y (drop (used + g.used) l ++ more)) []) (sym d.splicer)
            ∙ ap (λ y. cond g.more (rest (shown n c) (drop (used + y) l ++ more)) []) (sym d.used)
            ∙ ap (λ y. cond y (rest (shown n c) (drop (used + p.used) l ++ more)) []) (sym d.more));
      }

  pub runs-stuck : used + p.used ≡ 0 → p.more ≡ true → record_in l ≡ Cut
  runs-stuck e f =
      let none : used ≡ 0 = omega arith in
      let d = at in
      ap (λ k. record_in (drop k l)) (sym none) ∙ step-stuck (drop used l) (shown m b) (omega (arith, d.used)) (sym d.more ∙ f)

pub runs_on : {s : Splicer} {l : List ℕ} {used len : ℕ} {t : Bool} {m b o : List ℕ}
    → Runs s l (record { used = used; len = len; more = t }) m b o → t ≡ true
    → Runs s l (record { used = used; len = len; more = true }) m b o
runs_on {s} {l} {used} {len} {t} {m} {b} {o} r e = subst (λ y. Runs s l (record { used = used; len = len; more = y }) m b o) e r
