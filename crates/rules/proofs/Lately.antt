-- 02, CR 8: what ended lately. Newest first, an end is the first of the list and the others are one further down; the numbers of what is
-- kept
-- have the sizes of their fields. Rests on what holds of the sessions (Sound's Holding, of any time).
use mathlib.Core.Path.{◌≡◌, refl, sym, ap, ◌∙◌}
use mathlib.Core.Bool.{Bool, true, false}
use mathlib.Core.List.{List, [], ◌∷◌, ◌++◌, map}
use Prim.Native.Nat.{ℕ, zero, suc, ◌+◌, ◌-◌, ◌/◌, ◌%◌, ◌≤◌, ◌<◌}
use native.Mathlib.Omega.{arith}
use lib.Dec.{ltb}
use lib.ListN.{length, take, get_or, set, replicate, length-set}
use lib.Seq.{get_or-set_same, get_or-set_other}
use borrow.Author.Tests.{ltb-true}
use Rattle.rules.specs.declared.Session.{Session}
use Rattle.rules.specs.declared.Past.{Past}
use Rattle.rules.specs.declared.Ending.{Ending}
use Rattle.rules.specs.declared.Ending.TheVariants.{Complete, Failed, Response}
use Rattle.rules.specs.Lists.{put, keep, place, remove_at}
use Rattle.rules.specs.State.{Lately, Queue, empty, of, is, starts_at, ends_at, with_waiting, with_started}
use Rattle.rules.specs.Recent.{most_kept, unused, none_ended}
use Rattle.rules.specs.Recent.{remembered, remembered_all, recent_at, recent_from, recent}
use Rattle.rules.specs.Ends.{Turn, and_then, past, ending, one_end, endings, followers, dismissed, evicted_at, evicted, cancelled}
use Rattle.rules.specs.Ends.{aborted, closed_by}
use Rattle.rules.specs.Instants.{may_start, meets_equal, ousted, launched, start_at, end_at, instant}
use Rattle.rules.specs.Splicing.{accepted}
use Rattle.rules.specs.Follows.Sound.{Noted, Recalled}
use Rattle.rules.proofs.Tests.{by}
use Rattle.rules.proofs.All.{All, all_append}
use Rattle.rules.proofs.Every.{all_keep, all_get_d, fewer-all, fewer-remove_at, Each, fewer-each}
use Rattle.rules.proofs.Walk.{followers-gone}
use Rattle.rules.proofs.Leaving.{meets-some, dismissed-fewer, removed-fewer, end_at-fewer, cancelled-fewer}

-- ## Newest first

module _ (e : Past) (l : Lately) (n : length l.places ≡ most_kept) (k : l.next < most_kept) where
  pub newest-first : recent_at 0 (remembered e l) ≡ e
  unfolding recent_at remembered
  newest-first =
      let i : ((l.next + 1) % most_kept + (most_kept - 1 - 0)) % most_kept ≡ l.next = omega arith in
      ap (λ (j : ℕ). get_or (set l.places l.next e) j unused) i ∙ get_or-set_same l.places l.next e unused (omega arith)

  -- the others are one further down
  pub older-next : (i : ℕ) → suc i < most_kept → recent_at (suc i) (remembered e l) ≡ recent_at i l
  unfolding recent_at remembered
  older-next i h =
      let f : ((l.next + 1) % most_kept + (most_kept - 1 - suc i)) % most_kept ≡ (l.next + (most_kept - 1 - i)) % most_kept = omega arith in
      ap (λ (j : ℕ). get_or (set l.places l.next e) j unused) f
      ∙ get_or-set_other l.places l.next ((l.next + (most_kept - 1 - i)) % most_kept) e unused (λ g. omega arith)

  older-from : (i n : ℕ) → i + n < most_kept → recent_from (suc i) n (remembered e l) ≡ recent_from i n l
  unfolding recent_from
  older-from i zero h = refl
  older-from i (suc m) h = λ j. older-next i (omega arith) j ∷ older-from (suc i) m (omega arith) j

recent-take : (i m : ℕ) (l : Lately) → take m (recent_from i (suc m) l) ≡ recent_from i m l
unfolding recent_from
recent-take i zero l = refl
recent-take i (suc m) l = ap (λ (r : List Past). recent_at i l ∷ r) (recent-take (suc i) m l)

-- "the last 16 ended sessions .. oldest dropped first": after an end, the first 16 of what is kept of it and the list before
pub recent-next : (e : Past) (l : Lately) → length l.places ≡ most_kept → l.next < most_kept
    → recent (remembered e l) ≡ take most_kept (e ∷ recent l)
unfolding recent recent_from
recent-next e l n k =
    let b : recent_from 1 15 (remembered e l) ≡ recent_from 0 15 l = older-from e l n k 0 15 (omega arith) in
    (λ j. newest-first e l n k j ∷ b j) ∙ ap (λ (r : List Past). e ∷ r) (sym (recent-take 0 15 l))

-- ## The numbers of what is kept

all_set : (P : Past → Type 0) (l : List Past) (i : ℕ) (e : Past) → P e → All P l → All P (set l i e)
all_set P [] i e h a = tt
all_set P (x ∷ l) zero e h a = (h, a.1)
all_set P (x ∷ l) (suc i) e h a = (a.0, all_set P l i e h a.1)

pub recalled-one : (e : Past) (l : Lately) → Noted e → Recalled l → Recalled (remembered e l)
unfolding remembered
recalled-one e l h r =
    record {
      sixteen = length-set l.places l.next e ∙ r.sixteen;
      next = omega arith;
      noted =
          all_set Noted l.places l.next e h r.noted;
    }

pub recalled-all : (es : List Past) (l : Lately) → All Noted es → Recalled l → Recalled (remembered_all es l)
unfolding remembered_all
recalled-all [] l a r = r
recalled-all (e ∷ es) l a r = recalled-all es (remembered e l) a.1 (recalled-one e l a.0 r)

-- some, and others after them
pub remembered-append : (a b : List Past) (l : Lately) → remembered_all (a ++ b) l ≡ remembered_all b (remembered_all a l)
unfolding remembered_all
remembered-append [] b l = refl
remembered-append (e ∷ a) b l = remembered-append a b (remembered e l)

pub unused-noted : Noted unused
unused-noted = record { conn = omega arith; id = omega arith; event = omega arith; result = omega arith; played = omega arith }

pub recalled-none : Recalled none_ended
recalled-none = record { sixteen = refl; next = omega arith; noted = go 16 }
  where
    go : (n : ℕ) → All Noted (replicate n unused)
    go zero = tt
    go (suc n) = (unused-noted, go n)

-- what an entry needs of its session
abbrev pub Notable : Session → Type 0
Notable s = (s.conn ≤ 3) × (s.id ≤ 0xFFFFFFFF) × (s.event ≤ 0xFFFFFFFF) × (s.played.0 / 100 ≤ 0xFFFFFFFF)

-- the result of an end has two bytes
abbrev pub Sized : Ending → Type 0
Sized (Complete r) = r < 65536
Sized Failed = Unit {0}
Sized (Response r) = r < 65536

noted-past : (how : Ending) (s : Session) → Sized how → Notable s → Noted (past how s)
noted-past (Complete r) s h a = record { conn = a.0; id = a.1; event = a.2; result = h; played = a.3 }
noted-past Failed s h a = record { conn = a.0; id = a.1; event = a.2; result = omega arith; played = a.3 }
noted-past (Response r) s h a = record { conn = a.0; id = a.1; event = a.2; result = h; played = a.3 }

noted-all : (how : Ending) (l : List Session) → Sized how → All Notable l → All Noted (map (past how) l)
noted-all how [] h a = tt
noted-all how (s ∷ l) h a = (noted-past how s h a.0, noted-all how l h a.1)

noted-endings : (air cover : Ending) (p : Session → Bool) (k : List Session) → Sized air → Sized cover → All Notable k
    → All Noted (endings air cover p k Past past)
unfolding endings
noted-endings air cover p [] g h a = tt
noted-endings air cover p (s ∷ k) g h a = go (p s)
  where
    rest : All Noted (map (past cover) (keep p k))
    rest = noted-all cover (keep p k) h (all_keep Notable p k a.1)

    go : (b : Bool) → All Noted (put b (past air s) (map (past cover) (keep p k)))
    go true = (noted-past air s g a.0, rest)
    go false = rest

-- ## Pieces of work

-- what is kept of the sessions of a queue, now and after an end
pub record Keeping (q : Queue) : Type 0 where
  pub held : Each Notable q
  pub lately : Recalled q.lately

keeping-one : (how : Ending) (s : Session) (q : Queue) → Sized how → Notable s → Keeping q → Keeping (ending (one_end how s) q).queue
keeping-one how s q h a k =
    record {
      held = record { waiting = k.held.waiting; started = k.held.started };
      lately = recalled-all (past how s ∷ []) q.lately (noted-past how s h a, tt) k.lately;
    }

dismissed-keeps : (r c x : ℕ) (q : Queue) → r < 65536 → Keeping q → Keeping (dismissed r c x q).queue
unfolding dismissed
dismissed-keeps r c x q h k =
    let f = followers c x q.waiting in
    record {
      held = record {
        waiting = (fewer-each Notable q (dismissed r c x q).queue (dismissed-fewer q r c x) k.held).waiting;
        started =
            k.held.started;
      };
      lately = recalled-all (map (past (Response r)) f.gone) q.lately
          (noted-all (Response r) f.gone h (followers-gone c x q.waiting Notable k.held.waiting)) k.lately;
    }

-- one is taken out of its list, and ends
without : (i : ℕ) (q : Queue) → Keeping q → Keeping (with_waiting (remove_at i q.waiting) q)
without i q k = record { held = fewer-each Notable q _ (removed-fewer q i) k.held; lately = k.lately }

evicted-keeps : (t : ℕ) (q : Queue) → Keeping q → Keeping (evicted t q).queue
unfolding evicted evicted_at and_then
evicted-keeps t q k =
    let i = place (starts_at t) q.waiting in
    let s = get_or q.waiting i empty in
    by (λ (r : Turn). Keeping r.queue) (ltb i (length q.waiting)) _ _
    (λ e. dismissed-keeps 109 s.conn s.id _ (omega arith)
    (keeping-one (Response 109) s (with_waiting (remove_at i q.waiting) q) (omega arith)
    (all_get_d Notable q.waiting i empty (ltb-true i (length q.waiting) e) k.held.waiting) (without i q k)))
    (λ e. k)

cancelled-keeps : (p : Session → Bool) (q : Queue) → Keeping q → Keeping (cancelled p q).queue
unfolding cancelled
cancelled-keeps p q k =
    let h = fewer-each Notable q (cancelled p q).queue (cancelled-fewer q p) k.held in
    record {
      held = record { waiting = h.waiting; started = h.started };
      lately = recalled-all _ q.lately
          (all_append Noted (endings (Complete 116) (Response 116) p q.started Past past)
          (map (past (Response 116)) (keep p q.waiting))
          (noted-endings (Complete 116) (Response 116) p q.started (omega arith) (omega arith) k.held.started)
          (noted-all (Response 116) (keep p q.waiting) (omega arith) (all_keep Notable p q.waiting k.held.waiting)))
          k.lately;
    }

pub aborted-keeps : (c x : ℕ) (q : Queue) → Keeping q → Keeping (aborted c x q).queue
unfolding aborted and_then
aborted-keeps c x q k = dismissed-keeps 116 c x (cancelled (is c x) q).queue (omega arith) (cancelled-keeps (is c x) q k)

pub closed_by-keeps : (c : ℕ) (q : Queue) → Keeping q → Keeping (closed_by c q).queue
unfolding closed_by
closed_by-keeps c q k = cancelled-keeps (of c) q k

pub accepted-recalls : (s : Session) (q : Queue) → Keeping q → Recalled (accepted s q).queue.lately
unfolding accepted and_then
accepted-recalls s q k = (evicted-keeps s.start.0 q k).lately

-- ## An instant

end_at-keeps : (t : ℕ) (q : Queue) → Keeping q → Keeping (end_at t q).queue
unfolding end_at
end_at-keeps t q k =
    let h = fewer-each Notable q (end_at t q).queue (end_at-fewer q t) k.held in
    record {
      held = record { waiting = h.waiting; started = h.started };
      lately = recalled-all _ q.lately (noted-endings (Complete 100) (Complete 125) (ends_at t) q.started (omega arith) (omega arith)
          k.held.started) k.lately;
    }

ousted-recalls : (s : Session) (q : Queue) → Keeping q → Recalled (ousted s q).queue.lately
unfolding ousted and_then
ousted-recalls s q k =
    let air = get_or q.started 0 empty in
    by (λ (r : Turn). Recalled r.queue.lately) (meets_equal s q.started) _ _
    (λ e. let u = with_started (remove_at 0 q.started) q in
    (dismissed-keeps 125 air.conn air.id _ (omega arith)
    (keeping-one (Complete 125) air u (omega arith) (all_get_d Notable q.started 0 empty (meets-some s q.started e) k.held.started)
    (record {
      held = record { waiting = k.held.waiting; started = fewer-all Notable (fewer-remove_at 0 q.started) k.held.started };
      lately = k.lately;
    }))).lately)
    (λ e. k.lately)

launched-recalls : (s : Session) (q : Queue) → Notable s → Keeping q → Recalled (launched s q).queue.lately
unfolding launched and_then
launched-recalls s q a k =
    by (λ (r : Turn). Recalled r.queue.lately) (may_start s q.started) _ _ (λ e. ousted-recalls s q k)
    (λ e. (dismissed-keeps 109 s.conn s.id _ (omega arith) (keeping-one Failed s q tt a k)).lately)

start_at-recalls : (t : ℕ) (q : Queue) → Keeping q → Recalled (start_at t q).queue.lately
unfolding start_at
start_at-recalls t q k =
    let i = place (starts_at t) q.waiting in
    by (λ (r : Turn). Recalled r.queue.lately) (ltb i (length q.waiting)) _ _
    (λ e. launched-recalls (get_or q.waiting i empty) (with_waiting (remove_at i q.waiting) q)
    (all_get_d Notable q.waiting i empty (ltb-true i (length q.waiting) e) k.held.waiting) (without i q k))
    (λ e. k.lately)

pub instant-recalls : (t : ℕ) (q : Queue) → Keeping q → Recalled (instant t q).queue.lately
unfolding instant and_then
instant-recalls t q k = start_at-recalls t (end_at t q).queue (end_at-keeps t q k)
