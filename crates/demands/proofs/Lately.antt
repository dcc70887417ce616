-- 02, CR 8: what is kept is the first 16, newest first, of the ends that the answers tell.
-- Rests on Book (a session held is as its entry says), on Owners (its time on air is the history's) and on what is known of every splicer
-- from fresh.
use mathlib.Core.Path.{◌≡◌, refl, sym, ap, subst, ◌∙◌}
use mathlib.Core.Bool.{Bool, true, false, cond, not, ◌&&◌, ◌||◌}
use mathlib.Core.List.{List, [], ◌∷◌, ◌++◌, map}
use Prim.Native.Nat.{ℕ, zero, suc, ◌+◌, ◌-◌, ◌%◌, ◌<◌}
use native.Mathlib.Omega.{arith}
use lib.Dec.{eqb, ltb}
use lib.ListN.{length, take, get_or, length-set, replicate}
use borrow.Author.Tests.{ltb-true, eq-eqb, ne_eqb}
use Rattle.rules.specs.declared.Session.{Session}
use Rattle.rules.specs.declared.Past.{Past}
use Rattle.rules.specs.declared.Ending.{Ending}
use Rattle.rules.specs.declared.Ending.TheVariants.{Complete, Failed, Response}
use Rattle.rules.specs.Units.{time_of, from_micros, to_ticks}
use Rattle.rules.specs.Lists.{All, bit, put, keep, omit, count, place, remove_at}
use Rattle.rules.specs.Bytes.{has_zero}
use Rattle.rules.specs.State.{same_number, Lately, Queue, Splicer, empty, of, is, starts_at, ends_at, due, not_after, with_waiting}
use Rattle.rules.specs.State.{with_started}
use Rattle.rules.specs.Recent.{most_kept, unused, is_kept, none_ended, remembered, remembered_all, recent_at, recent_from, recent}
use Rattle.rules.specs.Records.{Record, General, InitResponse, AliveResponse, SpliceResponse, SpliceComplete, AbortResponse, CueRequest}
use Rattle.rules.specs.Records.{ConfigResponse, ExtendedFound, ExtendedNone}
use Rattle.rules.specs.Ends.{Turn, and_then, writes, ended, past, ending, one_end, endings, followers, dismissed, evicted_at, evicted}
use Rattle.rules.specs.Ends.{cancelled, aborted, closed_by}
use Rattle.rules.specs.Instants.{may_start, began, meets_equal, ousted, launched, start_at, end_at, instant, elapse, run, run_all}
use Rattle.rules.specs.Follows.ReadBack.{data_in}
use Rattle.rules.specs.Splicing.{session_at, requested, accepts, accepted}
use Rattle.rules.specs.HouseNumbers.{Answer, refused, good, Called, written_by}
use Rattle.rules.specs.Calls.{ticked, Call, call, after, named, fresh}
use Rattle.rules.specs.Follows.Sound.{Each, held_count, Holding}
use Rattle.rules.proofs.Tests.{by, clash, eqb_same}
use Rattle.rules.proofs.All.{all-into}
use Rattle.rules.proofs.Every.{all_keep, all_both, all_get_d, fewer-all, fewer-remove_at}
use Rattle.rules.proofs.Walk.{followers-gone}
use Rattle.rules.proofs.Leaving.{meets-some, end_at-fewer, cancelled-fewer}
use Rattle.rules.proofs.Lately.{recent-next, remembered-append}
use Rattle.rules.proofs.Tick.{moved, by_next}
use Rattle.rules.proofs.Checks.{read-id}
use Rattle.rules.proofs.Sessions.{each-elapse, each-instant, held-accepted}
use Rattle.rules.proofs.Fitted.{records_of}
use Rattle.rules.proofs.Always.{Wired}
use Rattle.rules.proofs.Records.{Fits, read_back}
use Rattle.rules.proofs.Sound.{Sound, sound-call, sound-fresh, sound-found, holding-next}
use Rattle.demands.specs.History.{is_end, is_yes, ends_of, end_result, front, last, Event, reply_of, history, others_of, Entry, entry_is}
use Rattle.demands.specs.History.{event_told, credited, shut, book_answered, book_after, book_replied, book}
use Rattle.demands.specs.Airing.{Airing, aired_replied, air_time}
use Rattle.demands.specs.Told.{FromFresh}
use Rattle.demands.specs.Lately.{Told, is_an_end, told_in, ends_in, time_so_far, unshown, newer, ended_replied, ended_told, ends_told}
use Rattle.demands.specs.Lately.{of_number, ended_once, As, KeptAs}
use Rattle.demands.proofs.Laws.{evicted-law, closed_by-law, answered-law, tick-law}
use Rattle.demands.proofs.Cases.{cases}
use Rattle.demands.proofs.Waiting.{front-last, last-last}
use Rattle.demands.proofs.Heard.{book_answer, sound-fits, book-answer}
use Rattle.demands.proofs.Book.{Settled, Owed, Dated, Booked, asked_entry, call-booked, booked-fresh}
use Rattle.demands.proofs.Once.{book-told, call-clock, fresh-clock}
use Rattle.demands.proofs.Owned.{time-waiting}
use Rattle.demands.proofs.Owned
use Rattle.demands.proofs.Owners.{aired_answer, Kept, start, call-owned, aired-answer, owned-fresh}

-- ## The sixteen, one end further

-- each as its own tells
abbrev Matches : List Past → List Told → Type 0
Matches [] [] = Unit {0}
Matches [] (t ∷ ts) = ⊥
Matches (e ∷ es) [] = ⊥
Matches (e ∷ es) (t ∷ ts) = (As e t × (is_kept e ≡ true)) × Matches es ts

-- KeptAs, and no place that an end is told of is unused
abbrev pub KeptWhole : List Past → List Told → Type 0
KeptWhole [] l = Unit {0}
KeptWhole (e ∷ es) [] = (e ≡ unused) × KeptWhole es []
KeptWhole (e ∷ es) (t ∷ l) = (As e t × (is_kept e ≡ true)) × KeptWhole es l

whole-kept : (es : List Past) (l : List Told) → KeptWhole es l → KeptAs es l
whole-kept [] l h = tt
whole-kept (e ∷ es) [] h = (h.0, whole-kept es [] h.1)
whole-kept (e ∷ es) (t ∷ l) h = (h.0.0, whole-kept es l h.1)

matches-append : (a b : List Past) (s t : List Told) → Matches a s → Matches b t → Matches (a ++ b) (s ++ t)
matches-append [] b [] t f g = g
matches-append [] b (x ∷ s) t f g = absurd f
matches-append (e ∷ a) b [] t f g = absurd f
matches-append (e ∷ a) b (x ∷ s) t f g = (f.0, matches-append a b s t f.1 g)

kept-take : (n : ℕ) (es : List Past) (l : List Told) → KeptWhole es l → KeptWhole (take n es) l
kept-take zero es l h = tt
kept-take (suc n) [] l h = tt
kept-take (suc n) (e ∷ es) [] h = (h.0, kept-take n es [] h.1)
kept-take (suc n) (e ∷ es) (t ∷ l) h = (h.0, kept-take n es l h.1)

-- sixteen places, of which one is next
abbrev Fit : Lately → Type 0
Fit l = (length l.places ≡ most_kept) × (l.next < most_kept)

fit_next : (e : Past) (l : Lately) → Fit l → Fit (remembered e l)
unfolding remembered
fit_next e l f = (length-set l.places l.next e ∙ f.0, omega arith)

kept_next : (e : Past) (t : Told) (l : Lately) (ts : List Told) → Fit l → As e t × (is_kept e ≡ true) → KeptWhole (recent l) ts
    → KeptWhole (recent (remembered e l)) (t ∷ ts)
kept_next e t l ts f a h = rw (recent-next e l f.0 f.1) (kept-take most_kept (e ∷ recent l) (t ∷ ts) (a, h))

kept-all : (es : List Past) (os : List Told) (l : Lately) (ts : List Told) → Fit l → Matches es os → KeptWhole (recent l) ts
    → KeptWhole (recent (remembered_all es l)) (newer os ts)
unfolding remembered_all newer
kept-all [] [] l ts f m h = h
kept-all [] (o ∷ os) l ts f m h = absurd m
kept-all (e ∷ es) [] l ts f m h = absurd m
kept-all (e ∷ es) (o ∷ os) l ts f m h = kept-all es os (remembered e l) (o ∷ ts) (fit_next e l f) m.1 (kept_next e o l ts f m.0 h)

-- ## The ends of a piece of work

-- its SpliceEventID is the book's; with no time on air, none is told
abbrev Knows : List Entry → (ℕ → ℕ → ℕ) → Session → Type 0
Knows es on s = (event_told s.conn s.id es ≡ s.event) × (s.played.0 ≡ 0 → on s.conn s.id ≡ 0)

-- its time on air is what a Splice_Response tells of it
abbrev Airs : (ℕ → ℕ → ℕ) → Session → Type 0
Airs on s = (to_ticks s.played).0 ≡ unshown (on s.conn s.id)

airs-silent : (es : List Entry) (on : ℕ → ℕ → ℕ) (s : Session) → Knows es on s → s.played.0 ≡ 0 → Airs on s
airs-silent es on s k z = omega (arith, z, k.1 z)

-- no end has the result 0
end-some : (r : ℕ) → end_result r ≡ true → eqb r 0 ≡ false
end-some zero h = absurd (clash (end_result 0) h refl)
end-some (suc r) h = ne_eqb (suc r) 0 (λ e. omega (arith, e))

-- how a session may end: not with the 100 of an answer
abbrev Fine : (ℕ → ℕ → ℕ) → Ending → Session → Type 0
Fine on (Complete r) s = eqb r 0 ≡ false
Fine on Failed s = s.played.0 ≡ 0
Fine on (Response r) s = (end_result r ≡ true) × Airs on s

module _ (es : List Entry) (on : ℕ → ℕ → ℕ) where
  -- the record of an end is one, and tells what is kept
  abbrev Says : Ending → Session → Type 0
  Says how s = (is_an_end (ended how s) ≡ true) × (As (past how s) (told_in es on (ended how s)) × (is_kept (past how s) ≡ true))

  says : (how : Ending) (s : Session) → Fine on how s → Knows es on s → Says how s
  unfolding is_an_end is_end told_in
  says (Complete r) s h k = (
    rw (eqb_same s.conn, eqb_same s.id),
    (record { conn = refl; id = refl; event = sym k.0; result = refl; played = refl }, ap not h),
  )
  says Failed s h k = (
    rw (eqb_same s.conn, eqb_same s.id),
    (record { conn = refl; id = refl; event = sym k.0; result = refl; played = omega (arith, h) }, refl),
  )
  says (Response r) s h k = (
    rw (h.0, eqb_same s.conn, eqb_same s.id),
    (
      record {
        conn = refl;
        id = refl;
        event = sym k.0;
        result = refl;
        played =
            h.1;
      },
      ap not (end-some r h.0),
    ),
  )

  one_end_lem : (how : Ending) (s : Session) → Says how s → Matches (past how s ∷ []) (ends_in es on (ended how s ∷ []))
  one_end_lem how s h = rw h.0 (h.1, tt)

  all_end : (how : Ending) (l : List Session) → All (λ s. Knows es on s × Fine on how s) l
      → Matches (map (past how) l) (ends_in es on (map (ended how) l))
  all_end how [] a = tt
  all_end how (s ∷ l) a = let k = says how s a.0.1 a.0.0 in rw k.0 (k.1, all_end how l a.1)

  endings-end : (air cover : Ending) (p : Session → Bool) (k : List Session)
      → All (λ s. (Knows es on s × Fine on cover s) × Fine on air s) k
      → Matches (endings air cover p k Past past) (ends_in es on (endings air cover p k Record ended))
  unfolding endings
  endings-end air cover p [] a = tt
  endings-end air cover p (s ∷ k) a = go (p s)
    where
      rest : Matches (map (past cover) (keep p k)) (ends_in es on (map (ended cover) (keep p k)))
      rest = all_end cover (keep p k) (all_keep (λ u. Knows es on u × Fine on cover u) p k
          (all-into (λ u. (Knows es on u × Fine on cover u) × Fine on air u) (λ u. Knows es on u × Fine on cover u) (λ u h. h.0) k a.1))

      go : (b : Bool) → Matches (put b (past air s) (map (past cover) (keep p k)))
          (ends_in es on (put b (ended air s) (map (ended cover) (keep p k))))
      go true = let k = says air s a.0.1 a.0.0.0 in rw k.0 (k.1, rest)
      go false = rest

  ends-append : (a b : List Record) → ends_in es on (a ++ b) ≡ ends_in es on a ++ ends_in es on b
  ends-append [] b = refl
  ends-append (r ∷ a) b = go (is_an_end r) (ends-append a b)
    where
      go : (t : Bool) → ends_in es on (a ++ b) ≡ ends_in es on a ++ ends_in es on b
          → map (told_in es on) (put t r (keep is_an_end (a ++ b))) ≡ map (told_in es on) (put t r (keep is_an_end a)) ++ ends_in es on b
      go true h = ap (λ (z : List Told). told_in es on r ∷ z) h
      go false h = h

  -- from what was kept before: what the turn keeps is what its records tell
  record Keeps (l : Lately) (t : Turn) : Type 0 where
    gone : List Past
    lately : t.queue.lately ≡ remembered_all gone l
    told : Matches gone (ends_in es on t.written)

  keeps-join : (l : Lately) (t u : Turn) → Keeps l t → Keeps t.queue.lately u
      → Keeps l (record { queue = u.queue; written = t.written ++ u.written })
  keeps-join l t u a b =
      record {
        gone = a.gone ++ b.gone;
        lately = b.lately ∙ ap (remembered_all b.gone) a.lately ∙ sym (remembered-append a.gone b.gone l);
        told = rw (ends-append t.written u.written) (matches-append a.gone b.gone _ _ a.told b.told);
      }

  -- nothing ends
  keeps-none : (q : Queue) (rs : List Record) → ends_in es on rs ≡ [] → Keeps q.lately (writes rs q)
  unfolding remembered_all
  keeps-none q rs e = record { gone = []; lately = refl; told = rw e tt }

  began-none : (s : Session) → ends_in es on (began s ∷ []) ≡ []
  unfolding is_an_end is_end
  began-none s = refl

  -- ## Pieces of work

  -- of one that waits
  abbrev Waits : Session → Type 0
  Waits s = Knows es on s × (s.played.0 ≡ 0)

  waits-fine : (r : ℕ) → end_result r ≡ true → (l : List Session) → All Waits l → All (λ s. Knows es on s × Fine on (Response r) s) l
  waits-fine r h l a = all-into Waits (λ s. Knows es on s × Fine on (Response r) s) (λ s k. (k.0, (h, airs-silent es on s k.0 k.1)))
      l a

  dismissed-keeps : (r c x : ℕ) (q : Queue) → end_result r ≡ true → All Waits q.waiting → Keeps q.lately (dismissed r c x q)
  unfolding dismissed
  dismissed-keeps r c x q h a =
      let g = (followers c x q.waiting).gone in
      record {
        gone = map (past (Response r)) g;
        lately = refl;
        told =
            all_end (Response r) g (waits-fine r h g (followers-gone c x q.waiting Waits a));
      }

  one-keeps : (how : Ending) (s : Session) (q : Queue) → Says how s → Keeps q.lately (ending (one_end how s) q)
  one-keeps how s q h = record { gone = past how s ∷ []; lately = refl; told = one_end_lem how s h }

  evicted-keeps : (t : ℕ) (q : Queue) → All Waits q.waiting → Keeps q.lately (evicted t q)
  unfolding evicted evicted_at and_then
  evicted-keeps t q a =
      let i = place (starts_at t) q.waiting in
      let s = get_or q.waiting i empty in
      let u = ending (one_end (Response 109) s) (with_waiting (remove_at i q.waiting) q) in
      by (Keeps q.lately) (ltb i (length q.waiting)) _ _
      (λ e. let k = all_get_d Waits q.waiting i empty (ltb-true i (length q.waiting) e) a in
      keeps-join q.lately u (dismissed 109 s.conn s.id u.queue)
      (one-keeps (Response 109) s (with_waiting (remove_at i q.waiting) q)
      (says (Response 109) s (refl, airs-silent es on s k.0 k.1) k.0))
      (dismissed-keeps 109 s.conn s.id u.queue refl (fewer-all Waits (fewer-remove_at i q.waiting) a)))
      (λ e. keeps-none q [] refl)

  -- the time on air of those that have started is told
  cancelled-keeps : (p : Session → Bool) (q : Queue) → All Waits q.waiting → All (λ s. Knows es on s × Airs on s) q.started
      → Keeps q.lately (cancelled p q)
  unfolding cancelled
  cancelled-keeps p q a k =
      let g = endings (Complete 116) (Response 116) p q.started in
      let w = keep p q.waiting in
      record {
        gone = g Past past ++ map (past (Response 116)) w;
        lately = refl;
        told = rw (ends-append (g Record ended) (map (ended (Response 116)) w))
            (matches-append (g Past past) (map (past (Response 116)) w) _ _
            (endings-end (Complete 116) (Response 116) p q.started
            (all-into (λ s. Knows es on s × Airs on s) (λ s. (Knows es on s × Fine on (Response 116) s) × Fine on (Complete 116) s)
            (λ s h. ((h.0, (refl, h.1)), refl)) q.started k))
            (all_end (Response 116) w (waits-fine 116 refl w (all_keep Waits p q.waiting a))));
      }

  aborted-keeps : (c x : ℕ) (q : Queue) → All Waits q.waiting → All (λ s. Knows es on s × Airs on s) q.started
      → Keeps q.lately (aborted c x q)
  unfolding aborted and_then
  aborted-keeps c x q a k =
      let t = cancelled (is c x) q in
      keeps-join q.lately t (dismissed 116 c x t.queue) (cancelled-keeps (is c x) q a k)
      (dismissed-keeps 116 c x t.queue refl (fewer-all Waits (cancelled-fewer q (is c x)).waiting a))

  -- ## Instants

  end_at-keeps : (t : ℕ) (q : Queue) → All (Knows es on) q.started → Keeps q.lately (end_at t q)
  unfolding end_at
  end_at-keeps t q a =
      record {
        gone = endings (Complete 100) (Complete 125) (ends_at t) q.started Past past;
        lately = refl;
        told = endings-end (Complete 100) (Complete 125) (ends_at t) q.started
            (all-into (Knows es on) (λ s. (Knows es on s × Fine on (Complete 125) s) × Fine on (Complete 100) s) (λ s k. ((k, refl), refl))
            q.started a);
      }

  ousted-keeps : (s : Session) (q : Queue) → All Waits q.waiting → All (Knows es on) q.started → Keeps q.lately (ousted s q)
  unfolding ousted and_then
  ousted-keeps s q a b =
      let air = get_or q.started 0 empty in
      let u = ending (one_end (Complete 125) air) (with_started (remove_at 0 q.started) q) in
      by (Keeps q.lately) (meets_equal s q.started) _ _
      (λ e. let k = all_get_d (Knows es on) q.started 0 empty (meets-some s q.started e) b in
      keeps-join q.lately u (dismissed 125 air.conn air.id u.queue)
      (one-keeps (Complete 125) air (with_started (remove_at 0 q.started) q) (says (Complete 125) air refl k))
      (dismissed-keeps 125 air.conn air.id u.queue refl a))
      (λ e. keeps-none q [] refl)

  launched-keeps : (s : Session) (q : Queue) → Waits s → All Waits q.waiting → All (Knows es on) q.started
      → Keeps q.lately (launched s q)
  unfolding launched and_then
  launched-keeps s q z a b =
      let f = ending (one_end Failed s) q in
      let o = ousted s q in
      by (Keeps q.lately) (may_start s q.started) _ _
      (λ e. keeps-join q.lately o (writes (began s ∷ []) (with_started (s ∷ o.queue.started) o.queue)) (ousted-keeps s q a b)
      (keeps-none (with_started (s ∷ o.queue.started) o.queue) (began s ∷ []) (began-none s)))
      (λ e. keeps-join q.lately f (dismissed 109 s.conn s.id f.queue) (one-keeps Failed s q (says Failed s z.1 z.0))
      (dismissed-keeps 109 s.conn s.id f.queue refl a))

  start_at-keeps : (t : ℕ) (q : Queue) → All Waits q.waiting → All (Knows es on) q.started → Keeps q.lately (start_at t q)
  unfolding start_at
  start_at-keeps t q a b =
      let i = place (starts_at t) q.waiting in
      by (Keeps q.lately) (ltb i (length q.waiting)) _ _
      (λ e. launched-keeps (get_or q.waiting i empty) (with_waiting (remove_at i q.waiting) q)
      (all_get_d Waits q.waiting i empty (ltb-true i (length q.waiting) e) a)
      (fewer-all Waits (fewer-remove_at i q.waiting) a) b)
      (λ e. keeps-none q [] refl)

  instant-keeps : (t : ℕ) (q : Queue) → All Waits q.waiting → All (Knows es on) q.started → Keeps q.lately (instant t q)
  unfolding instant and_then end_at
  instant-keeps t q a b =
      let u = end_at t q in
      keeps-join q.lately u (start_at t u.queue) (end_at-keeps t q b)
      (start_at-keeps t u.queue a (fewer-all (Knows es on) (end_at-fewer q t).started b))

  waits-now : (now : ℕ) (q : Queue) → Holding now q → Each (Knows es on) q → All Waits q.waiting
  waits-now now q h a = all_both (Knows es on) (λ s. s.played.0 ≡ 0) q.waiting a.waiting h.played.silent

  run-keeps : (n now until : ℕ) (q : Queue) → Holding now q → Each (Knows es on) q → Keeps q.lately (run n now until q)
  unfolding run and_then elapse
  run-keeps zero now until q h a = keeps-none (elapse (until - now) q) [] refl
  run-keeps (suc n) now until q h a =
      by_next (Keeps q.lately) _ _ (not_after until (due q))
      (λ t e. let u = elapse (t.0 - now) q in
      let b = each-elapse (Knows es on) (λ d s k. (k.0, λ z. k.1 (omega (arith, z)))) (t.0 - now) q a in
      let i = moved now t.0 q in
      keeps-join q.lately i (run n t.0 until i.queue) (instant-keeps t.0 u (waits-now now q h a) b.started)
      (run-keeps n t.0 until i.queue (holding-next now until t q e h)
      (each-instant (Knows es on) (λ d s k. (k.0, λ z. k.1 (omega (arith, z)))) t.0 u b)))
      (λ e. keeps-none (elapse (until - now) q) [] refl)

  -- records that tell of no end
  no-bit : (b : Bool) → bit b ≡ 0 → b ≡ false
  no-bit true h = absurd (omega arith)
  no-bit false h = refl

  not-any : (r : Record) → ((c x : ℕ) → bit (is_end c x r) ≡ 0) → is_an_end r ≡ false
  unfolding is_an_end
  not-any (General c n) h = refl
  not-any (InitResponse c n name) h = refl
  not-any (AliveResponse c n a x t) h = refl
  not-any (SpliceResponse c n x) h = no-bit _ (h c x)
  not-any (SpliceComplete c n x f d) h = no-bit _ (h c x)
  not-any (AbortResponse c n x) h = refl
  not-any (CueRequest c a u l) h = refl
  not-any (ConfigResponse c r n m l) h = refl
  not-any (ExtendedFound c x event ended played) h = refl
  not-any (ExtendedNone c x) h = refl

  pub none_told : (rs : List Record) → ((c x : ℕ) → ends_of c x rs ≡ 0) → ends_in es on rs ≡ []
  none_told [] h = refl
  none_told (r ∷ rs) h = rw (not-any r (λ c x. omega (arith, h c x))) (none_told rs (λ c x. omega (arith, h c x)))

-- ## Every call

-- the records that are not the call's own answer
abbrev others_by : Call → Answer → List Record
others_by k (refused n) = []
others_by k (good consumed rs) = others_of k rs

module _ (s : Splicer) (es : List Entry) (ss : List Airing) (b : Booked s.queue es) (h : Sound s) (o : Kept start s ss) where
  abbrev q : Queue
  q = s.queue

  abbrev on : ℕ → ℕ → ℕ
  on = time_so_far s.clock ss

  abbrev Does : Call → Called → Type 0
  Does k r = Keeps es on q.lately (record { queue = r.splicer.queue; written = others_by k r.answer })

  -- the answers tell no time of one that waits, and the time kept of one that has started
  silent : (u : Session) → Owned.Waits ss u → on u.conn u.id ≡ 0
  silent u w = ap (air_time s.clock ss) w.told ∙ time-waiting s.clock ss u

  timed : (u : Session) → Owned.Plays s.clock ss u → on u.conn u.id ≡ u.played.0
  timed u p = ap (air_time s.clock ss) p.told ∙ p.played

  waiting-knows : All (Knows es on) q.waiting
  waiting-knows =
      all-into (λ u. Dated es u × Owned.Waits ss u) (Knows es on) (λ u d. (d.0.2, λ z. silent u d.1)) q.waiting
      (all_both (Dated es) (Owned.Waits ss) q.waiting b.dated.waiting o.waits)

  dated-plays : All (λ u. Dated es u × Owned.Plays s.clock ss u) q.started
  dated-plays = all_both (Dated es) (Owned.Plays s.clock ss) q.started b.dated.started o.plays

  knows : Each (Knows es on) q
  knows =
      record {
        waiting = waiting-knows;
        started = all-into (λ u. Dated es u × Owned.Plays s.clock ss u) (Knows es on) (λ u d. (d.0.2, λ z. timed u d.1 ∙ z))
            q.started dated-plays;
      }

  waiting : All (Waits es on) q.waiting
  waiting = waits-now es on s.clock q h.holding knows

  airing-knows : All (λ u. Knows es on u × Airs on u) q.started
  airing-knows =
      all-into (λ u. Dated es u × Owned.Plays s.clock ss u) (λ u. Knows es on u × Airs on u)
      (λ u d. ((d.0.2, λ z. timed u d.1 ∙ z), ap unshown (sym (timed u d.1)))) q.started dated-plays

  tick-keeps : (until : ℕ) → Keeps es on q.lately (run_all s.clock until q)
  unfolding run_all
  tick-keeps until = run-keeps es on _ s.clock until q h.holding knows

  call-keeps : (k : Call) → Does k (call k s)
  unfolding others_of front accepted and_then ticked closed_by is_an_end
  call-keeps =
      cases s Does (record {
        refusing = λ k n. keeps-none es on q [] refl;
        opening = λ c low e. keeps-none es on q [] refl;
        closing = λ c room low e. cancelled-keeps es on (of c) q waiting airing-knows;
        saying = λ c l loans n rs e p. rw e (keeps-none es on q rs (none_told es on rs p.ends));
        naming = λ c l loans n r hw e p. rw e (keeps-none es on q (r ∷ []) (none_told es on (r ∷ []) p.ends));
        aborting = λ c l loans n x e i. let k = aborted-keeps es on c x q waiting airing-knows in
            rw e (record { gone = k.gone; lately = k.lately; told = k.told });
        declining = λ c l loans n r e y o. rw e (keeps-none es on q [] refl);
        accepting = λ c l loans n r e f p. let new = requested c r q in
            let k = evicted-keeps es on new.start.0 q waiting in
            rw (e, front-last (evicted new.start.0 q).written (accepts new))
            (record { gone = k.gone; lately = k.lately; told = k.told });
        ticking = λ seconds micros room le. tick-keeps (from_micros (time_of seconds micros)).0;
        moving = λ until room le. tick-keeps until;
        cueing = λ l pts seconds micros room rs p. keeps-none es on q rs (none_told es on rs p.ends);
      })

-- ## Every sequence of calls

ended-answer : (k : Call) (a : Answer) (es : List Entry) (on : ℕ → ℕ → ℕ) (os : List Told) → All Fits (records_of a)
    → ended_replied k (reply_of a) es on os ≡ newer (ends_in es on (others_by k a)) os
unfolding ended_replied newer written_by
ended-answer k (refused n) es on os f = refl
ended-answer k (good consumed rs) es on os f = ap (λ l. newer (ends_in es on (others_of k l)) os) (read_back rs f)

-- the sessions accepted, after a call
abbrev aired_by : Call → Splicer → List Airing → List Airing
aired_by k s ss = aired_answer (call k s).splicer.clock k (call k s).answer ss

-- a call further, with what its bytes tell
told-next : (k : Call) (s : Splicer) (h : List Event) (es : List Entry) (ss : List Airing) (os : List Told) → Wired k → Sound s
    → ended_told (record { call = k; reply = reply_of (call k s).answer } ∷ h) es s.clock ss os
    ≡ ended_told h (book_answer k (call k s).answer es) (call k s).splicer.clock (aired_by k s ss)
    (newer (ends_in es (time_so_far s.clock ss) (others_by k (call k s).answer)) os)
unfolding ended_told
told-next k s h es ss os w z =
    let a = (call k s).answer in
    let f = sound-fits s k w z in
    ap (λ (u : ℕ). ended_told h (book_replied k (reply_of a) es) u (aired_replied u k (reply_of a) ss)
    (ended_replied k (reply_of a) es (time_so_far s.clock ss) os)) (call-clock s k)
    ∙ (λ i. ended_told h (book-answer k a es f i) (call k s).splicer.clock
    (aired-answer (call k s).splicer.clock k a ss (sound-found s k w z) i)
    (ended-answer k a es (time_so_far s.clock ss) os f i))

kept-always : (ks : List Call) (s : Splicer) (es : List Entry) (ss : List Airing) (os : List Told) → All Wired ks → Sound s
    → Booked s.queue es
    → Kept start s ss → KeptWhole (recent s.queue.lately) os → KeptWhole (recent (after ks s).queue.lately)
    (ended_told (history ks s) es s.clock ss os)
unfolding after history ended_told
kept-always [] s es ss os w h b o k = k
kept-always (j ∷ ks) s es ss os w h b o k =
    let n = call j s in
    let d = call-keeps s es ss b h o j in
    let more = newer (ends_in es (time_so_far s.clock ss) (others_by j n.answer)) os in
    let m = kept-all d.gone (ends_in es (time_so_far s.clock ss) (others_by j n.answer)) s.queue.lately os
    (h.lately.sixteen, h.lately.next) d.told k in
    subst (λ (z : List Told). KeptWhole (recent (after ks n.splicer).queue.lately) z)
    (sym (told-next j s (history ks n.splicer) es ss os w.0 h))
    (kept-always ks n.splicer (book_answer j n.answer es) (aired_by j s ss) more w.1 (sound-call s j w.0 h) (call-booked s es b j)
    (call-owned start s ss h o j)
    (subst (λ (l : Lately). KeptWhole (recent l) more) (sym d.lately) m))

-- a fresh splicer has none
empty-at : (n i : ℕ) → get_or (replicate n unused) i unused ≡ unused
empty-at zero i = refl
empty-at (suc n) zero = refl
empty-at (suc n) (suc i) = empty-at n i

none_from : (i n : ℕ) → KeptWhole (recent_from i n none_ended) []
unfolding recent_from recent_at
none_from i zero = tt
none_from i (suc n) = (empty-at most_kept ((0 + (most_kept - 1 - i)) % most_kept), none_from (suc i) n)

none_kept : (name : List ℕ) → KeptWhole (recent (fresh name).splicer.queue.lately) []
unfolding fresh named recent
none_kept name = by (λ (r : Called). KeptWhole (recent r.splicer.queue.lately) []) (has_zero name) _ _ (λ e. none_from 0 most_kept)
    (λ e. none_from 0 most_kept)

pub lately-whole : (h : List Event) (s : Splicer) → FromFresh h s → KeptWhole (recent s.queue.lately) (ends_told h)
lately-whole h s f =
    rw (f.heard, f.same)
    (subst (λ (n : ℕ). KeptWhole (recent (after f.calls (fresh f.name).splicer).queue.lately)
    (ended_told (history f.calls (fresh f.name).splicer) [] n [] [])) (fresh-clock f.name)
    (kept-always f.calls (fresh f.name).splicer [] [] [] f.wired (sound-fresh f.name f.whole f.bytes)
    (booked-fresh f.name) (owned-fresh f.name) (none_kept f.name)))

pub lately-told : (h : List Event) (s : Splicer) → FromFresh h s → KeptAs (recent s.queue.lately) (ends_told h)
lately-told h s f = whole-kept (recent s.queue.lately) (ends_told h) (lately-whole h s f)

-- ## One for each session that has ended

module _ (c x : ℕ) where
  told-one : (es : List Entry) (on : ℕ → ℕ → ℕ) (r : Record) (l : List Told) (n : ℕ) → count (of_number c x) l ≡ n
      → count (of_number c x) (put (is_an_end r) (told_in es on r) l) ≡ bit (is_end c x r) + n
  unfolding is_an_end is_end told_in
  told-one es on (General d m) l n h = omega (arith, h)
  told-one es on (InitResponse d m name) l n h = omega (arith, h)
  told-one es on (AliveResponse d m a y t) l n h = omega (arith, h)
  told-one es on (SpliceResponse d m y) l n h = rw (eqb_same d, eqb_same y) (go (end_result m))
    where
      go : (b : Bool) → count (of_number c x) (put (b && true) (told_in es on (SpliceResponse d m y)) l) ≡ bit (b && same_number c x d y) +
          n
      go true = omega (arith, h)
      go false = omega (arith, h)
  told-one es on (SpliceComplete d m y f p) l n h = rw (eqb_same d, eqb_same y) (go (eqb f 1 || (eqb f 0 && eqb m 109)))
    where
      go : (b : Bool) → count (of_number c x) (put (b && true) (told_in es on (SpliceComplete d m y f p)) l) ≡ bit
          (b && same_number c x d y)
          + n
      go true = omega (arith, h)
      go false = omega (arith, h)
  told-one es on (AbortResponse d m y) l n h = omega (arith, h)
  told-one es on (CueRequest d a u m) l n h = omega (arith, h)
  told-one es on (ConfigResponse d m name hardware section) l n h = omega (arith, h)
  told-one es on (ExtendedFound d y event ended played) l n h = omega (arith, h)
  told-one es on (ExtendedNone d y) l n h = omega (arith, h)

  map-put : (es : List Entry) (on : ℕ → ℕ → ℕ) (b : Bool) (r : Record) (rs : List Record)
      → map (told_in es on) (put b r rs) ≡ put b (told_in es on r) (map (told_in es on) rs)
  map-put es on true r rs = refl
  map-put es on false r rs = refl

  told-count : (es : List Entry) (on : ℕ → ℕ → ℕ) (rs : List Record) → count (of_number c x) (ends_in es on rs) ≡ ends_of c x rs
  told-count es on [] = refl
  told-count es on (r ∷ rs) = rw (map-put es on (is_an_end r) r (keep is_an_end rs))
      (told-one es on r (ends_in es on rs) (ends_of c x rs) (told-count es on rs))

  newer-count : (ts os : List Told) → count (of_number c x) (newer ts os) ≡ count (of_number c x) ts + count (of_number c x) os
  unfolding newer
  newer-count [] os = omega arith
  newer-count (t ∷ ts) os = omega (arith, newer-count ts (t ∷ os))

  entries-credited : (rs : List Record) (es : List Entry) → count (entry_is c x) (credited rs es) ≡ count (entry_is c x) es
  unfolding credited
  entries-credited rs [] = refl
  entries-credited rs (e ∷ es) = omega (arith, entries-credited (omit (is_end e.conn e.id) rs) es)

  entries-shut : (d : ℕ) (es : List Entry) → count (entry_is c x) (shut d es) ≡ count (entry_is c x) es
  unfolding shut
  entries-shut d [] = refl
  entries-shut d (e ∷ es) = omega (arith, entries-shut d es)

  -- what a call does to the sessions accepted, held and ended
  module _ (s : Splicer) (es : List Entry) (b : Booked s.queue es) where
    abbrev Counts : Call → Called → Type 0
    Counts k r =
        count (entry_is c x) (book_answer k r.answer es) + held_count s.queue (is c x)
        ≡ count (entry_is c x) es + ends_of c x (others_by k r.answer) + held_count r.splicer.queue (is c x)

    tick-counts : (until : ℕ) →
        count (entry_is c x) (credited (run_all s.clock until s.queue).written es) + held_count s.queue (is c x)
        ≡ count (entry_is c x) es + ends_of c x (run_all s.clock until s.queue).written
        + held_count (run_all s.clock until s.queue).queue (is c x)
    tick-counts until = omega (
      arith,
      entries-credited (run_all s.clock until s.queue).written es,
      (tick-law c x s.clock until s.queue).kept,
    )

    call-counts : (k : Call) → Counts k (call k s)
    unfolding others_of book_after book_answered front last is_yes accepted and_then ticked requested session_at
    call-counts =
        cases s Counts (record {
          refusing = λ k n. omega arith;
          opening = λ d low e. omega (arith, entries-credited [] es);
          closing = λ d room low e. let t = closed_by d s.queue in
              omega (
                arith,
                entries-shut d (credited t.written es),
                entries-credited t.written es,
                (closed_by-law c x d s.queue).kept,
              );
          saying = λ d l loans n rs e p. rw e (omega (arith, entries-credited rs es, p.ends c x));
          naming = λ d l loans n r hw e p. rw e (omega (arith, entries-credited (r ∷ []) es, p.ends c x));
          aborting = λ d l loans n y e i. rw e (omega (
            arith,
            entries-credited (AbortResponse d 100 y ∷ (aborted d y s.queue).written) es,
            (answered-law c x d y s.queue).kept,
          ));
          declining = λ d l loans n r e y o. rw (e, y) (omega (arith, entries-credited [] es));
          accepting = λ d l loans n r e f p. let new = requested d r s.queue in
              let rs = (evicted new.start.0 s.queue).written in
              rw (
                e,
                ← (read-id (data_in l) r f),
                last-last (is_yes d r.id) rs (accepts new),
                front-last rs (accepts new),
                eqb_same d,
                eqb_same r.id,
                asked_entry s es b d l r f p.prior,
              )
              (omega (
                arith,
                entries-credited rs es,
                (evicted-law c x new.start.0 s.queue).kept,
                held-accepted (is c x) new s.queue,
              ));
          ticking = λ seconds micros room le. tick-counts (from_micros (time_of seconds micros)).0;
          moving = λ until room le. tick-counts until;
          cueing = λ l pts seconds micros room rs p. omega (arith, entries-credited rs es, p.ends c x);
        })

  counted-always : (ks : List Call) (s : Splicer) (es : List Entry) (ss : List Airing) (os : List Told) → All Wired ks → Sound s
      → Booked s.queue es
      → count (of_number c x) os + held_count s.queue (is c x) ≡ count (entry_is c x) es
      → count (of_number c x) (ended_told (history ks s) es s.clock ss os) + held_count (after ks s).queue (is c x)
      ≡ count (entry_is c x) (book (history ks s) es)
  unfolding after history ended_told book
  counted-always [] s es ss os w h b k = k
  counted-always (j ∷ ks) s es ss os w h b k =
      let n = call j s in
      let f = sound-fits s j w.0 h in
      let rs = others_by j n.answer in
      let on = time_so_far s.clock ss in
      let g : count (of_number c x) (newer (ends_in es on rs) os) + held_count n.splicer.queue (is c x)
      ≡ count (entry_is c x) (book_answer j n.answer es) =
      omega (arith, newer-count (ends_in es on rs) os, told-count es on rs, call-counts s es b j, k) in
      let ih = counted-always ks n.splicer (book_answer j n.answer es) (aired_by j s ss) (newer (ends_in es on rs) os) w.1
      (sound-call s j w.0 h) (call-booked s es b j) g in
      ap (λ (z : List Told). count (of_number c x) z + held_count (after ks n.splicer).queue (is c x))
      (told-next j s (history ks n.splicer) es ss os w.0 h)
      ∙ ih
      ∙ ap (λ (z : List Entry). count (entry_is c x) (book (history ks n.splicer) z)) (sym (book-answer j n.answer es f))

  fresh-held : (name : List ℕ) → held_count (fresh name).splicer.queue (is c x) ≡ 0
  unfolding fresh named
  fresh-held name = by (λ (r : Called). held_count r.splicer.queue (is c x) ≡ 0) (has_zero name) _ _ (λ e. refl) (λ e. refl)

  -- of the sessions accepted under a number, those that are not held have ended
  owed_ended : (n : ℕ) (es : List Entry) → Owed c x n es → ended_once c x es + n ≡ count (entry_is c x) es
  owed_ended n [] f = omega (arith, f)
  owed_ended n (e ∷ es) f = go (entry_is c x e) f (owed_ended n es)
    where
      one : (m : ℕ) → m + n ≡ 1 → bit (eqb m 1) + n ≡ 1
      one zero h = omega arith
      one (suc zero) h = omega arith
      one (suc (suc m)) h = absurd (omega arith)

      all : (es : List Entry) → Settled c x es → ended_once c x es ≡ count (entry_is c x) es
      all [] s = refl
      all (d ∷ es) s = each (entry_is c x d) s.0 (all es s.1)
        where
          each : (b : Bool) → (b ≡ true → d.ends ≡ 1) → ended_once c x es ≡ count (entry_is c x) es
              → bit (b && eqb d.ends 1) + ended_once c x es ≡ bit b + count (entry_is c x) es
          each true g ih = rw (eq-eqb d.ends 1 (g refl)) (omega (arith, ih))
          each false g ih = omega (arith, ih)

      go : (b : Bool) → cond {A = Type 0} b ((e.ends + n ≡ 1) × (e.closed ≡ true → n ≡ 0) × Settled c x es) (Owed c x n es)
          → (Owed c x n es → ended_once c x es + n ≡ count (entry_is c x) es)
          → bit (b && eqb e.ends 1) + ended_once c x es + n ≡ bit b + count (entry_is c x) es
      go true f ih = omega (arith, one e.ends f.0, all es f.2)
      go false f ih = omega (arith, ih f)

-- as many ends are kept in turn under a number as accepted sessions of that number have ended
pub one-kept-each : (h : List Event) (s : Splicer) → FromFresh h s → (c x : ℕ)
    → count (of_number c x) (ends_told h) ≡ ended_once c x (book h [])
one-kept-each h s f c x =
    let a = counted-always c x f.calls (fresh f.name).splicer [] [] [] f.wired (sound-fresh f.name f.whole f.bytes)
    (booked-fresh f.name) (omega (arith, fresh-held c x f.name)) in
    let b : count (of_number c x) (ends_told h) + held_count s.queue (is c x) ≡ count (entry_is c x) (book h []) =
    rw (f.heard, f.same, ← (fresh-clock f.name)) a in
    omega (arith, b, owed_ended c x (held_count s.queue (is c x)) (book h []) ((book-told h s f).owed c x))
