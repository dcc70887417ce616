-- How much a call writes: a record for each start or end that it does, and its answer; never above 3,174 bytes. Assumes nothing.
use mathlib.Core.Path.{◌≡◌, refl, ap, ◌∙◌}
use mathlib.Core.Bool.{Bool, true, false}
use mathlib.Core.List.{List, [], ◌∷◌, ◌++◌, map}
use Prim.Native.Nat.{ℕ, ◌+◌, ◌*◌, ◌≤◌, ◌<◌}
use native.Mathlib.Omega.{arith}
use lib.Dec.{eqb, ltb}
use lib.ListN.{length, get_or, length-append}
use borrow.Author.Tests.{ltb-true, ltb-false}
use Rattle.rules.specs.declared.Session.{Session}
use Rattle.rules.specs.declared.Ending.{Ending}
use Rattle.rules.specs.declared.Ending.TheVariants.{Complete, Failed, Response}
use Rattle.rules.specs.Lists.{put, keep, place, remove_at}
use Rattle.rules.specs.State.{Queue, Splicer, empty, of, is, starts_at, ends_at, to_come, hardware_of, with_waiting, with_started}
use Rattle.rules.specs.Records.{Record, General, InitResponse, AliveResponse, SpliceResponse, AbortResponse, ConfigResponse}
use Rattle.rules.specs.Records.{ExtendedFound, ExtendedNone, output}
use Rattle.rules.specs.Ends.{Turn, quiet, and_then, ended, ending, one_end, endings, followers, dismissed, evicted_at, evicted}
use Rattle.rules.specs.Ends.{cancelled, aborted, closed_by}
use Rattle.rules.specs.Hardware.{longest_hardware}
use Rattle.rules.specs.Instants.{may_start, began, meets_equal, ousted, launched, start_at, end_at, instant, run_all}
use Rattle.rules.specs.Answers.{Answered, air_feed, alive_response, config_response}
use Rattle.rules.specs.Splicing.{requested, accepts, accepted}
use Rattle.rules.specs.HouseNumbers.{written_by, longest_section, long_section, Loans}
use Rattle.rules.specs.Calls.{section_of, ticked, Call, call}
use Rattle.rules.specs.Cues.{read_cue, cue_time, initialised_ones}
use Rattle.rules.proofs.Tests.{by, or-none}
use Rattle.rules.proofs.Cued.{section-size, initialised-four, cue-weight}
use Rattle.rules.proofs.Recall.{by-recall}
use Rattle.rules.proofs.Cases.{Answering, cases}
use Rattle.rules.proofs.Count.{length-split, length-remove_at}
use Rattle.rules.proofs.Records.{size_of, Roomy, length-output}
use Rattle.rules.proofs.Written.{output-append}
use Rattle.rules.proofs.Walk.{followed}
use Rattle.rules.proofs.Leaving.{meets-some}
use Rattle.rules.proofs.Tick.{elapse-to_come, run-law}

-- the bytes of some records
abbrev pub weight : List Record → ℕ
weight rs = length (output rs)

pub weight-none : weight [] ≡ 0
unfolding output
weight-none = refl

pub weight-more : (r : Record) (rs : List Record) → Roomy r → weight (r ∷ rs) ≡ size_of r + weight rs
weight-more r rs h = length-output r rs h

pub weight-one : (r : Record) → Roomy r → weight (r ∷ []) ≡ size_of r
weight-one r h = omega (arith, weight-more r [] h, weight-none)

pub weight-append : (rs ss : List Record) → weight (rs ++ ss) ≡ weight rs + weight ss
weight-append rs ss = ap length (output-append rs ss) ∙ length-append (output rs) (output ss)

pub weight-responses : (r : ℕ) (l : List Session) → weight (map (ended (Response r)) l) ≡ 14 * length l
weight-responses r [] = omega (arith, weight-none)
weight-responses r (s ∷ l) = omega (arith, weight-more (ended (Response r) s) (map (ended (Response r)) l) tt, weight-responses r l)

-- any end, in front of others
pub weight-ended : (h : Ending) (s : Session) (rs : List Record) → weight (ended h s ∷ rs) ≤ 23 + weight rs
weight-ended (Complete r) s rs = omega (arith, weight-more (ended (Complete r) s) rs tt)
weight-ended Failed s rs = omega (arith, weight-more (ended Failed s) rs tt)
weight-ended (Response r) s rs = omega (arith, weight-more (ended (Response r) s) rs tt)

pub weight-all : (h : Ending) (l : List Session) → weight (map (ended h) l) ≤ 23 * length l
weight-all h [] = omega (arith, weight-none)
weight-all h (s ∷ l) = omega (arith, weight-ended h s (map (ended h) l), weight-all h l)

pub weight-endings : (air cover : Ending) (p : Session → Bool) (k : List Session)
    → weight (endings air cover p k Record ended) ≤ 23 * length (keep p k)
unfolding endings
weight-endings air cover p [] = omega (arith, weight-none)
weight-endings air cover p (s ∷ k) = go (p s)
  where
    go : (b : Bool) → weight (put b (ended air s) (map (ended cover) (keep p k))) ≤ 23 * length (put b s (keep p k))
    go true = omega (arith, weight-ended air s (map (ended cover) (keep p k)), weight-all cover (keep p k))
    go false = weight-all cover (keep p k)

-- ## Ends by followers, eviction, abort and close: 14 bytes for a waiting one, at most 23 for a started one

abbrev pub Lean : Queue → Turn → Type 0
Lean q t = weight t.written + (14 * length t.queue.waiting + 23 * length t.queue.started) ≤ 14 * length q.waiting
    + 23 * length q.started

pub lean-join : (q : Queue) (t u : Turn) → Lean q t → Lean t.queue u
    → Lean q (record { queue = u.queue; written = t.written ++ u.written })
lean-join q t u a b = omega (arith, a, b, weight-append t.written u.written)

pub dismissed-lean : (r c x : ℕ) (q : Queue) → Lean q (dismissed r c x q)
unfolding dismissed
dismissed-lean r c x q = omega (arith, weight-responses r (followers c x q.waiting).gone, (followed c x q.waiting).lengths)

pub evicted_at-lean : (i : ℕ) (q : Queue) → i < length q.waiting → Lean q (evicted_at i q)
unfolding evicted_at and_then
evicted_at-lean i q h =
    let s = get_or q.waiting i empty in
    let v = ending (one_end (Response 109) s) (with_waiting (remove_at i q.waiting) q) in
    let u = v.queue in
    lean-join q v (dismissed 109 s.conn s.id u)
    (omega (arith, weight-one (ended (Response 109) s) tt, length-remove_at i q.waiting h)) (dismissed-lean 109 s.conn s.id u)

pub quiet-lean : (q : Queue) → Lean q (quiet q)
quiet-lean q = omega (arith, weight-none)

pub evicted-lean : (t : ℕ) (q : Queue) → Lean q (evicted t q)
unfolding evicted
evicted-lean t q =
    let i = place (starts_at t) q.waiting in
    by (Lean q) (ltb i (length q.waiting)) _ _ (λ e. evicted_at-lean i q (ltb-true i (length q.waiting) e)) (λ e. quiet-lean q)

pub cancelled-lean : (p : Session → Bool) (q : Queue) → Lean q (cancelled p q)
unfolding cancelled
cancelled-lean p q =
    omega (
      arith,
      weight-append (endings (Complete 116) (Response 116) p q.started Record ended) (map (ended (Response 116)) (keep p q.waiting)),
      weight-endings (Complete 116) (Response 116) p q.started,
      weight-responses 116 (keep p q.waiting),
      length-split p q.waiting,
      length-split p q.started,
    )

pub aborted-lean : (c x : ℕ) (q : Queue) → Lean q (aborted c x q)
unfolding aborted and_then
aborted-lean c x q = lean-join q (cancelled (is c x) q) (dismissed 116 c x (cancelled (is c x) q).queue) (cancelled-lean (is c x) q)
    (dismissed-lean 116 c x (cancelled (is c x) q).queue)

-- ## Instants: 23 bytes for each start and each end to come

abbrev pub Brief : Queue → Turn → Type 0
Brief q t = weight t.written + 23 * to_come t.queue ≤ 23 * to_come q

pub brief-join : (q : Queue) (t u : Turn) → Brief q t → Brief t.queue u
    → Brief q (record { queue = u.queue; written = t.written ++ u.written })
brief-join q t u a b = omega (arith, a, b, weight-append t.written u.written)

pub ousted-brief : (s : Session) (q : Queue) → Brief q (ousted s q)
unfolding ousted and_then dismissed
ousted-brief s q =
    let air = get_or q.started 0 empty in
    let v = ending (one_end (Complete 125) air) (with_started (remove_at 0 q.started) q) in
    by (Brief q) (meets_equal s q.started) _ _
    (λ e. brief-join q v (dismissed 125 air.conn air.id v.queue)
    (omega (arith, weight-one (ended (Complete 125) air) tt, length-remove_at 0 q.started (meets-some s q.started e)))
    (omega (
      arith,
      weight-responses 125 (followers air.conn air.id q.waiting).gone,
      (followed air.conn air.id q.waiting).lengths,
    )))
    (λ e. omega (arith, weight-none))

pub launched-brief : (s : Session) (q : Queue) → weight (launched s q).written + 23 * to_come (launched s q).queue ≤ 23 * (2 + to_come q)
unfolding launched and_then dismissed
launched-brief s q =
    by (λ (r : Turn). weight r.written + 23 * to_come r.queue ≤ 23 * (2 + to_come q)) (may_start s q.started) _ _
    (λ e. omega (arith, weight-append (ousted s q).written (began s ∷ []), weight-one (began s) tt, ousted-brief s q))
    (λ e. let f = followers s.conn s.id q.waiting in
    omega (
      arith,
      weight-append (ended Failed s ∷ []) (map (ended (Response 109)) f.gone),
      weight-one (ended Failed s) tt,
      weight-responses 109 f.gone,
      (followed s.conn s.id q.waiting).lengths,
    ))

pub start_at-brief : (t : ℕ) (q : Queue) → Brief q (start_at t q)
unfolding start_at
start_at-brief t q =
    let i = place (starts_at t) q.waiting in
    by (Brief q) (ltb i (length q.waiting)) _ _
    (λ e. omega (
      arith,
      launched-brief (get_or q.waiting i empty) (with_waiting (remove_at i q.waiting) q),
      length-remove_at i q.waiting (ltb-true i (length q.waiting) e),
    ))
    (λ e. omega (arith, weight-none))

pub end_at-brief : (t : ℕ) (q : Queue) → Brief q (end_at t q)
unfolding end_at
end_at-brief t q = omega (arith, weight-endings (Complete 100) (Complete 125) (ends_at t) q.started, length-split (ends_at t) q.started)

pub instant-brief : (t : ℕ) (q : Queue) → Brief q (instant t q)
unfolding instant and_then
instant-brief t q = brief-join q (end_at t q) (start_at t (end_at t q).queue) (end_at-brief t q) (start_at-brief t (end_at t q).queue)

pub tick-brief : (now until : ℕ) (q : Queue) → Brief q (run_all now until q)
unfolding run_all
tick-brief now until q = run-law Brief (λ d u. omega (arith, weight-none, elapse-to_come 0 d u)) instant-brief brief-join (to_come q) now
    until q

-- ## A call

pub record Bounded (s : Splicer) : Type 0 where
  pub waiting : length s.queue.waiting ≤ 64
  pub started : length s.queue.started ≤ 10
  pub name : length s.name ≤ 32
  pub hardware : (c : ℕ) → length (hardware_of c s) ≤ longest_hardware

-- one of two sections that are not over 1,024 bytes is not
pub section-short : (loans : Loans) (s : Splicer) → long_section loans ≡ false → length (section_of loans s) ≤ longest_section
section-short loans s e =
    let o = or-none (ltb longest_section (length loans.primary)) _ e in
    by (λ (m : List ℕ). length m ≤ longest_section) (eqb (air_feed s.queue.started) 0) _ _ (λ f. ltb-false _ _ o.0)
    (λ f. ltb-false _ _ o.1)

module _ (s : Splicer) (h : Bounded s) where
  abbrev Fits : Answered → Type 0
  Fits a = weight a.written ≤ 3174

  one-fits : (r : Record) → Roomy r → size_of r ≤ 1322 → weight (r ∷ []) ≤ 3174
  one-fits r a b = omega (arith, weight-one r a)

  -- a GetConfig_Response is at most 1,322 bytes
  config-size : (c : ℕ) (section : List ℕ) → length section ≤ longest_section → weight (config_response c section s ∷ []) ≤ 3174
  unfolding config_response
  config-size c section m =
      one-fits (ConfigResponse c 100 s.name (hardware_of c s) section) (h.name, h.hardware c, m) (omega (arith, h.hardware c))

  message-size : (c : ℕ) (l section : List ℕ) → length section ≤ longest_section → Answering c l section s Fits
  unfolding accepted and_then alive_response
  message-size c l section short =
      let q = s.queue in
      record {
        silent = λ e. omega (arith, weight-none);
        general = λ r b. one-fits (General c r) tt (omega arith);
        naming = λ r b e g. one-fits (InitResponse c r s.name) h.name (omega arith);
        telling = λ e. config-size c section short;
        alive = λ e. one-fits (AliveResponse c 100 _ _ _) tt (omega arith);
        unknown = λ x e i. one-fits (AbortResponse c 121 x) tt (omega arith);
        aborting = λ x e i held. omega (
          arith,
          weight-append (AbortResponse c 100 x ∷ []) (aborted c x q).written,
          weight-one (AbortResponse c 100 x) tt,
          aborted-lean c x q,
          h.waiting,
          h.started,
        );
        recalling = λ x e i. by-recall (λ (r : Record). weight (r ∷ []) ≤ 3174) c x q
            (λ k. one-fits (ExtendedFound c x _ _ _) tt (omega arith)) (one-fits (ExtendedNone c x) tt (omega arith));
        declining = λ r v e i b n. one-fits (SpliceResponse c v r.id) tt (omega arith);
        accepting = λ r e i p. let new = requested c r q in
            omega (
              arith,
              weight-append (evicted new.start.0 q).written (accepts new ∷ []),
              weight-one (accepts new) tt,
              evicted-lean new.start.0 q,
              h.waiting,
              h.started,
            );
      }

  pub call-size : (k : Call) → length (written_by (call k s).answer) ≤ 3174
  unfolding ticked written_by closed_by
  call-size =
      cases s (λ k r. length (written_by r.answer) ≤ 3174)
      (record {
        refusing = λ k n. omega arith;
        opening = λ c low e. omega (arith, weight-none);
        closing = λ c room low e. omega (arith, cancelled-lean (of c) s.queue, h.waiting, h.started);
        answering = λ c l loans low e short. message-size c l (section_of loans s) (section-short loans s short);
        bringing = λ k until b le. omega (arith, tick-brief s.clock until s.queue, h.waiting, h.started);
        cueing = λ l pts seconds micros room g. let x = read_cue l in
            omega (
              arith,
              cue-weight x (cue_time pts seconds micros x) l (initialised_ones s.links) (section-size l g).1,
              initialised-four s.links,
            );
      })
