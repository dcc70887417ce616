-- One byte more, and a piece: whatever follows, what is found in the end stays.
-- Rests on proofs/Steps and proofs/Open.
use Rattle.std.proofs.Common.{◌≡◌, ℕ, ◌+◌, ◌-◌, ◌<◌, ◌≤◌, List, [], ◌∷◌, ◌++◌, length, get_or, take, drop, set, sym, refl, ap, ◌∙◌, subst}
use Rattle.std.proofs.Common.{append_assoc, add-one, arith, length-drop, length-set, take-append-drop, length-take-le, take_all, take-suc}
use Rattle.std.proofs.Common.{take-suc-set, take-add}
use lib.Seq.{take-length}
use Rattle.recording.specs.Recording.{entry_in}
use Rattle.follow.specs.declared.Stage.{Stage}
use Rattle.follow.specs.declared.Went.{Went}
use Rattle.follow.specs.Refereed.{in_order}
use Rattle.follow.specs.Following.{is_open, found_in, span_of, Runs, Holds, found, Feeds, Takes}
use Rattle.follow.proofs.Open.{open-short, exact}
use Rattle.follow.proofs.Steps.{found-over, rest-is}

-- ## One byte

-- i bytes are kept
abbrev pub keeping : ℕ → Stage → Stage
keeping i s = record { told = s.told; number = s.number; mark = s.mark; at = s.at; from = s.from; end = s.end; have = i }

keeping-found : (i : ℕ) (s : Stage) (m b o l : List ℕ) → found_in s m b o l ≡ found_in (keeping i s) m b o l
unfolding found_in
keeping-found i s m b o l = refl

module _ (s : Stage) (m b o k : List ℕ) (h : Holds s m b o k) (z : s.told ≡ in_order) (x : ℕ) where
  abbrev pub bytes : List ℕ
  bytes = take (s.have + 1) (set k s.have x)

  bytes-are : bytes ≡ take s.have k ++ (x ∷ [])
  bytes-are = ap (λ n. take n (set k s.have x)) (add-one s.have) ∙ take-suc-set k s.have x h.fits

  long : length bytes ≡ s.have + 1
  long = length-take-le (s.have + 1) (set k s.have x) (omega (arith, h.fits, length-set k s.have x))

  pub byte_fits : s.have + 1 ≤ length (set k s.have x)
  byte_fits = omega (arith, h.fits, length-set k s.have x)

  -- the bytes so far, and those that follow
  found-bytes : (more : List ℕ) → found s m b o k ((x ∷ []) ++ more) ≡ found_in s m b o (bytes ++ more)
  found-bytes more =
      ap (found_in s m b o) (sym (append_assoc (take s.have k) (x ∷ []) more)) ∙ ap (λ l. found_in s m b o (l ++ more)) (sym bytes-are)

  module _ {w : Went} {v c q : List ℕ} (r : Runs s bytes m b o w v c q) (full : length k ≡ 4098) where
    pub byte-open : w.taken ≡ 0 → Feeds s (x ∷ []) m b o k (keeping (s.have + 1) w.stage) v c q (set k s.have x)
    byte-open i =
        let n = r.none i in
        let t = r.goes.stands in
        record {
          holds = record {
            stands = record { lent = t.lent; within = t.within; room = t.room; kind = t.kind };
            fits = omega (arith, open-short bytes n.part, long, length-set k s.have x);
            part = n.part;
          };
          finds = λ more. found-bytes more
              ∙ ap (λ j. found_in s m b o (take j bytes ++ (bytes ++ more))) (sym i) ∙ r.goes.finds (bytes ++ more)
              ∙ keeping-found (s.have + 1) w.stage v c q (bytes ++ more);
          stays = λ f. absurd (f z);
        }

    pub byte-whole : (w.taken ≡ 0 → ⊥) → Feeds s (x ∷ []) m b o k (keeping 0 w.stage) v c q (set k s.have x)
    unfolding entry_in is_open
    byte-whole i =
        let t = r.goes.stands in
        let some : span_of (entry_in (take s.have k ++ (x ∷ []))) ≡ 0 → ⊥ =
        λ e. i (r.some (ap (λ l. span_of (entry_in l)) bytes-are ∙ e)) in
        let all : span_of (entry_in bytes) ≡ length bytes =
        ap (λ l. span_of (entry_in l)) bytes-are ∙ exact (take s.have k) h.part x some ∙ sym (ap length bytes-are) in
        let taken : w.taken ≡ length bytes = omega (arith, r.first, r.goes.there) in
        record {
          holds = record {
            stands = record { lent = t.lent; within = t.within; room = t.room; kind = t.kind };
            fits = omega (arith, length-set k s.have x);
            part = refl;
          };
          finds = λ more. found-bytes more
              ∙ ap (λ l. found_in s m b o (l ++ more)) (sym (ap (λ j. take j bytes) taken ∙ take-length bytes))
              ∙ r.goes.finds more ∙ keeping-found 0 w.stage v c q more;
          stays = λ f. absurd (f z);
        }

-- ## Whole entries where they lie, or one byte

pub takes_whole : {s : Stage} {l m b o k : List ℕ} {w : Went} {v c q : List ℕ} → Holds s m b o k → s.told ≡ in_order → s.have ≡ 0
    → Runs s l m b o w v c q → (w.taken ≡ 0 → ⊥) → Takes s l m b o k w v c q k
takes_whole {s} {l} {m} {b} {o} {k} {w} {v} {c} {q} h z n r i =
    record {
      some = omega (arith, i);
      there = r.goes.there;
      feeds = record {
        holds = record {
          stands = r.goes.stands;
          fits = omega (arith, h.fits, r.goes.have);
          part = ap (λ j. is_open (entry_in (take j k))) r.goes.have ∙ h.part;
        };
        finds = λ more.
            ap (λ j. found_in s m b o (take j k ++ (take w.taken l ++ more))) n ∙ r.goes.finds more
            ∙ ap (λ j. found_in w.stage v c q (take j k ++ more)) (sym (r.goes.have ∙ n));
        stays = λ f. absurd (f z);
      };
    }

pub holds_same : {s : Stage} {m b o k v c q : List ℕ} → v ≡ m → c ≡ b → q ≡ o → Holds s m b o k → Holds s v c q k
holds_same {s} {m} {b} {o} {k} {v} {c} {q} e f g h =
    subst (λ y. Holds s y c q k) (sym e) (subst (λ y. Holds s m y q k) (sym f) (subst (λ y. Holds s m b y k) (sym g) h))

pub feeds-same : {s t : Stage} {p m b o k v c q x y z u : List ℕ} → v ≡ m → c ≡ b → q ≡ o → Feeds s p v c q k t x y z u
    → Feeds s p m b o k t x y z u
feeds-same {s} {t} {p} {m} {b} {o} {k} {v} {c} {q} {x} {y} {z} {u} e f g h =
    subst (λ j. Feeds s p j b o k t x y z u) e
    (subst (λ j. Feeds s p v j o k t x y z u) f (subst (λ j. Feeds s p v c j k t x y z u) g h))

pub takes-byte : {s : Stage} {l m b o k : List ℕ} {w : Went} {v c q j : List ℕ} → 0 < length l → w.taken ≡ 1
    → Feeds s (get_or l 0 0 ∷ []) m b o k w.stage v c q j → Takes s l m b o k w v c q j
takes-byte {s} {l} {m} {b} {o} {k} {w} {v} {c} {q} {j} h e f =
    record {
      some = omega arith;
      there = omega arith;
      feeds = subst (λ y. Feeds s y m b o k w.stage v c q j) (sym (ap (λ i. take i l) e ∙ take-suc l 0 0 h)) f;
    }

-- ## A piece

pub rest_some : (p : List ℕ) (i : ℕ) → i < length p → 0 < length (take (length p - i) (drop i p))
rest_some p i h = omega (arith, ap length (rest-is p i), length-drop i p)

pub feeds-none : (s : Stage) (m b o k : List ℕ) → Holds s m b o k → Feeds s [] m b o k s m b o k
feeds-none s m b o k h =
    record {
      holds = h;
      finds = λ more. refl;
      stays = λ e. record { stage = refl; words = refl; bytes = refl; due = refl; kept = refl };
    }

-- what was handed in in two parts
pub feeds-more : {s t u : Stage} {p q m b o k n c e j v d f i : List ℕ} → Feeds s p m b o k t n c e j → Feeds t q n c e j u v d f i
    → Feeds s (p ++ q) m b o k u v d f i
feeds-more {s} {t} {u} {p} {q} {m} {b} {o} {k} x y =
    record {
      holds = y.holds;
      finds = λ more. ap (λ l. found_in s m b o (take s.have k ++ l)) (append_assoc p q more) ∙ x.finds (q ++ more) ∙ y.finds more;
      stays = λ z.
          let a = x.stays z in
          let g = y.stays (λ r. z (sym (ap (λ (y : Stage). y.told) a.stage) ∙ r)) in
          record {
            stage = g.stage ∙ a.stage;
            words = g.words ∙ a.words;
            bytes = g.bytes ∙ a.bytes;
            due = g.due ∙ a.due;
            kept = g.kept ∙ a.kept;
          };
    }

module _ {s t : Stage} (p : List ℕ) (i : ℕ) {m b o k n c e j : List ℕ} (x : Feeds s (take i p) m b o k t n c e j) where
  module _ {w : Went} {v d f u : List ℕ} (lent : Takes t (take (length p - i) (drop i p)) n c e j w v d f u) where
    takes : Takes t (drop i p) n c e j w v d f u
    takes = subst (λ l. Takes t l n c e j w v d f u) (rest-is p i) lent

    pub feeds-part : Feeds s (take (i + w.taken) p) m b o k w.stage v d f u
    feeds-part = subst (λ l. Feeds s l m b o k w.stage v d f u) (sym (take-add i w.taken p)) (feeds-more x takes.feeds)

    pub part-there : i ≤ length p → i + w.taken ≤ length p
    part-there h = omega (arith, length-drop i p, takes.there)

  pub feeds-all : length p ≤ i → Feeds s p m b o k t n c e j
  feeds-all h = subst (λ l. Feeds s l m b o k t n c e j) (take_all i p h) x

  -- once something is told, the rest changes nothing
  pub feeds-rest : (t.told ≡ in_order → ⊥) → Feeds s p m b o k t n c e j
  feeds-rest z =
      let rest : Feeds t (drop i p) n c e j t n c e j =
      record {
        holds = x.holds;
        finds = λ more. found-over t n c e _ z ∙ sym (found-over t n c e _ z);
        stays = λ f. record { stage = refl; words = refl; bytes = refl; due = refl; kept = refl };
      } in
      subst (λ l. Feeds s l m b o k t n c e j) (take-append-drop i p) (feeds-more x rest)
