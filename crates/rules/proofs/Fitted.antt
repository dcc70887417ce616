-- Every record of every call fits its fields, so it is found again in the answer's bytes: numbers have four bytes, the time on air stays
-- within the Duration, and the clock has four bytes of Seconds.
use mathlib.Core.Path.{◌≡◌}
use mathlib.Core.Bool.{Bool, true, false}
use mathlib.Core.List.{List, [], ◌∷◌, map}
use Prim.Native.Nat.{ℕ, zero, suc, ◌+◌, ◌-◌, ◌*◌, ◌/◌, ◌≤◌, ◌<◌}
use native.Mathlib.Omega.{arith}
use lib.Dec.{eqb, ltb}
use lib.ListN.{length, get_or}
use borrow.Author.Tests.{ltb-true}
use Rattle.rules.specs.declared.Session.{Session}
use Rattle.rules.specs.declared.Ending.{Ending}
use Rattle.rules.specs.declared.Ending.TheVariants.{Complete, Failed, Response}
use Rattle.rules.specs.declared.Request.{Request}
use Rattle.rules.specs.declared.Message.TheVariants.{Splice}
use Rattle.rules.specs.Lists.{put, keep, place, remove_at}
use Rattle.rules.specs.Bytes.{message_size}
use Rattle.rules.specs.Reading.{read, splice_request}
use Rattle.rules.specs.Request.{read_splice, session_id}
use Rattle.rules.specs.Follows.ReadBack.{data_in}
use Rattle.rules.specs.State.{Queue, Splicer, empty, of, is, starts_at, ends_at, due, not_after, with_waiting, with_started}
use Rattle.rules.specs.Records.{Record, output}
use Rattle.rules.specs.Follows.ReadBack.{records_in}
use Rattle.rules.specs.Ends.{Turn, and_then, ended, ending, one_end, endings, followers, dismissed, evicted_at, evicted, cancelled}
use Rattle.rules.specs.Ends.{aborted, closed_by}
use Rattle.rules.specs.Instants.{may_start, began, meets_equal, ousted, launched, start_at, end_at, instant, elapse, run, run_all}
use Rattle.rules.specs.Answers.{air_state, air_id, alive_response, air_feed, config_response, extended_response}
use Rattle.rules.specs.Splicing.{session_at, requested}
use Rattle.rules.specs.Splicing.{accepts, accepted}
use Rattle.rules.specs.HouseNumbers.{Answer, refused, good, longest_section, long_section, Loans}
use Rattle.rules.specs.Calls.{section_of, ticked, Call, messages, call}
use Rattle.rules.specs.HouseNumbers.{written_by}
use Rattle.rules.proofs.Tests.{by}
use Rattle.rules.proofs.All.{All, all_append, all-into}
use Rattle.rules.proofs.Bytes.{Byte, part-byte, field_below}
use Rattle.rules.proofs.Records.{Fits, read_back}
use Rattle.rules.proofs.Readings.{splice-grants}
use Rattle.rules.proofs.Recall.{by-recall, latest-noted}
use Rattle.rules.proofs.Cases.{given_below, Answering, cases}
use Rattle.rules.specs.Follows.Asked.{Asked}
use Rattle.rules.specs.Cues.{read_cue, cue_time, initialised_ones}
use Rattle.rules.proofs.Cued.{section-size, cue-wide, initialised-low, cue-all}
use Rattle.rules.proofs.Every.{all_keep, all_both, all_get_d, fewer-all, fewer-remove_at, Each, FewerHeld, fewer-each}
use Rattle.rules.proofs.Walk.{followers-gone}
use Rattle.rules.proofs.Leaving.{meets-some, removed-fewer, end_at-fewer, cancelled-fewer}
use Rattle.rules.proofs.Always.{Wired}
use Rattle.rules.proofs.Tick.{Due, meets, due-first, due-meets, elapse-due, moved, by_next}
use Rattle.rules.proofs.Timed.{meets-after}
use Rattle.rules.proofs.Sessions.{each-elapse, each-instant}
use Rattle.rules.specs.Follows.Sound.{Recalled}
use Rattle.rules.proofs.Held.{Proper, Small, Linking, structure-at}
use Rattle.rules.proofs.Size.{section-short}
use Rattle.rules.proofs.Aired.{Played, elapse-played, Aired, moved-aired}
use Rattle.std.specs.Prelude.{Some}

-- ## Sessions

-- what a record tells of a session, with the Duration that bounds its PlayedDuration
abbrev pub Numbered : Session → Type 0
Numbered s = (s.conn ≤ 3) × (s.id < 4294967296) × (s.end.0 ≤ s.start.0 + 4294967295 * 100)

-- its PlayedDuration has four bytes
abbrev pub Short : Session → Type 0
Short s = s.played.0 / 100 < 4294967296

-- what the records of a queue's sessions need
pub record Tellable (q : Queue) : Type 0 where
  pub numbered : Each Numbered q
  pub short : All Short q.started

response-fits : (r : ℕ) (s : Session) → r < 65536 → Numbered s → Fits (ended (Response r) s)
response-fits r s h a = ((omega (arith, a.0), h), a.1)

began-fits : (s : Session) → Numbered s → Fits (began s)
began-fits s a = ((omega (arith, a.0), omega arith), a.1, omega arith, omega arith)

failed-fits : (s : Session) → Numbered s → Fits (ended Failed s)
failed-fits s a = ((omega (arith, a.0), omega arith), a.1, omega arith, omega arith)

out-fits : (r : ℕ) (s : Session) → r < 65536 → Numbered s → Short s → Fits (ended (Complete r) s)
out-fits r s h a d = ((omega (arith, a.0), h), a.1, omega arith, d)

-- ## Pieces of work

all_told : (Q : Session → Type 0) (f : Session → Record) → ((s : Session) → Q s → Fits (f s)) → (l : List Session) → All Q l
    → All Fits (map f l)
all_told Q f g [] a = tt
all_told Q f g (s ∷ l) a = (g s a.0, all_told Q f g l a.1)

all-endings : (Q : Session → Type 0) (air cover : Ending) → ((s : Session) → Q s → Fits (ended air s))
    → ((s : Session) → Q s → Fits (ended cover s))
    → (p : Session → Bool) (k : List Session) → All Q k → All Fits (endings air cover p k Record ended)
unfolding endings
all-endings Q air cover f g p [] a = tt
all-endings Q air cover f g p (s ∷ k) a = go (p s)
  where
    rest : All Fits (map (ended cover) (keep p k))
    rest = all_told Q (ended cover) g (keep p k) (all_keep Q p k a.1)

    go : (b : Bool) → All Fits (put b (ended air s) (map (ended cover) (keep p k)))
    go true = (f s a.0, rest)
    go false = rest

both : (q : Queue) → Tellable q → All (λ s. Numbered s × Short s) q.started
both q h = all_both Numbered Short q.started h.numbered.started h.short

tell-fewer : (q r : Queue) → FewerHeld q r → Tellable q → Tellable r
tell-fewer q r f h = record { numbered = fewer-each Numbered q r f h.numbered; short = fewer-all Short f.started h.short }

dismissed-fits : (r c x : ℕ) (q : Queue) → r < 65536 → Each Numbered q → All Fits (dismissed r c x q).written
unfolding dismissed
dismissed-fits r c x q e h =
    all_told Numbered (ended (Response r)) (λ s a. response-fits r s e a) (followers c x q.waiting).gone
    (followers-gone c x q.waiting Numbered h.waiting)

evicted-fits : (t : ℕ) (q : Queue) → Each Numbered q → All Fits (evicted t q).written
unfolding evicted evicted_at and_then
evicted-fits t q h =
    let i = place (starts_at t) q.waiting in
    let s = get_or q.waiting i empty in
    by (λ (r : Turn). All Fits r.written) (ltb i (length q.waiting)) _ _
    (λ e. (
      response-fits 109 s (omega arith) (all_get_d Numbered q.waiting i empty (ltb-true i (length q.waiting) e) h.waiting),
      dismissed-fits 109 s.conn s.id (ending (one_end (Response 109) s) (with_waiting (remove_at i q.waiting) q)).queue (omega arith)
          (record { waiting = fewer-all Numbered (fewer-remove_at i q.waiting) h.waiting; started = h.started }),
    ))
    (λ e. tt)

cancelled-fits : (p : Session → Bool) (q : Queue) → Tellable q → All Fits (cancelled p q).written
unfolding cancelled
cancelled-fits p q h =
    all_append Fits (endings (Complete 116) (Response 116) p q.started Record ended) (map (ended (Response 116)) (keep p q.waiting))
    (all-endings (λ s. Numbered s × Short s) (Complete 116) (Response 116) (λ s a. out-fits 116 s (omega arith) a.0 a.1)
    (λ s a. response-fits 116 s (omega arith) a.0) p q.started (both q h))
    (all_told Numbered (ended (Response 116)) (λ s a. response-fits 116 s (omega arith) a) (keep p q.waiting)
    (all_keep Numbered p q.waiting h.numbered.waiting))

aborted-fits : (c x : ℕ) (q : Queue) → Tellable q → All Fits (aborted c x q).written
unfolding aborted and_then
aborted-fits c x q h =
    let u = (cancelled (is c x) q).queue in
    all_append Fits (cancelled (is c x) q).written (dismissed 116 c x u).written (cancelled-fits (is c x) q h)
    (dismissed-fits 116 c x u (omega arith) (fewer-each Numbered q u (cancelled-fewer q (is c x)) h.numbered))

closed_by-fits : (c : ℕ) (q : Queue) → Tellable q → All Fits (closed_by c q).written
unfolding closed_by
closed_by-fits c q h = cancelled-fits (of c) q h

accepted-fits : (s : Session) (q : Queue) → Fits (accepts s) → Each Numbered q → All Fits (accepted s q).written
unfolding accepted and_then
accepted-fits s q f h = all_append Fits (evicted s.start.0 q).written (accepts s ∷ []) (evicted-fits s.start.0 q h) (f, tt)

-- ## Instants

ousted-fits : (s : Session) (q : Queue) → Tellable q → All Fits (ousted s q).written
unfolding ousted and_then
ousted-fits s q h =
    let air = get_or q.started 0 empty in
    let u = (ending (one_end (Complete 125) air) (with_started (remove_at 0 q.started) q)).queue in
    by (λ (r : Turn). All Fits r.written) (meets_equal s q.started) _ _
    (λ e. let a = all_get_d (λ v. Numbered v × Short v) q.started 0 empty (meets-some s q.started e) (both q h) in (
      out-fits _ air (omega arith) a.0 a.1,
      dismissed-fits _ _ _ u (omega arith) (record {
        waiting = h.numbered.waiting;
        started =
            fewer-all Numbered (fewer-remove_at 0 q.started) h.numbered.started;
      }),
    ))
    (λ e. tt)

launched-fits : (s : Session) (q : Queue) → Numbered s → Tellable q → All Fits (launched s q).written
unfolding launched and_then
launched-fits s q a h =
    by (λ (r : Turn). All Fits r.written) (may_start s q.started) _ _
    (λ e. all_append Fits (ousted s q).written (began s ∷ []) (ousted-fits s q h) (began-fits s a, tt))
    (λ e. (
      failed-fits s a,
      dismissed-fits 109 s.conn s.id (ending (one_end Failed s) q).queue (omega arith)
          (record { waiting = h.numbered.waiting; started = h.numbered.started }),
    ))

start_at-fits : (t : ℕ) (q : Queue) → Tellable q → All Fits (start_at t q).written
unfolding start_at
start_at-fits t q h =
    let i = place (starts_at t) q.waiting in
    by (λ (r : Turn). All Fits r.written) (ltb i (length q.waiting)) _ _
    (λ e. launched-fits (get_or q.waiting i empty) (with_waiting (remove_at i q.waiting) q)
    (all_get_d Numbered q.waiting i empty (ltb-true i (length q.waiting) e) h.numbered.waiting)
    (tell-fewer q _ (removed-fewer q i) h))
    (λ e. tt)

end_at-fits : (t : ℕ) (q : Queue) → Tellable q → All Fits (end_at t q).written
unfolding end_at
end_at-fits t q h =
    all-endings (λ s. Numbered s × Short s) (Complete 100) (Complete 125) (λ s a. out-fits 100 s (omega arith) a.0 a.1)
    (λ s a. out-fits 125 s (omega arith) a.0 a.1) (ends_at t)
    q.started (both q h)

instant-fits : (t : ℕ) (q : Queue) → Tellable q → All Fits (instant t q).written
unfolding instant and_then
instant-fits t q h =
    all_append Fits (end_at t q).written (start_at t (end_at t q).queue).written (end_at-fits t q h)
    (start_at-fits t (end_at t q).queue (tell-fewer q (end_at t q).queue (end_at-fewer q t) h))

-- ## A tick

-- the sessions held at the time now
pub record Telling (now : ℕ) (q : Queue) : Type 0 where
  pub aired : Aired now q
  pub numbered : Each Numbered q

-- what has been on air since its start, and has not ended before t, has played no longer than its Duration
tell-at : (t : ℕ) (q : Queue) → Played t q → All (λ s. t ≤ s.end.0) q.started → Each Numbered q → Tellable q
tell-at t q p e h =
    record {
      numbered = h;
      short = all-into (λ s. Numbered s × (s.start.0 + s.played.0 ≤ t) × (t ≤ s.end.0)) Short
          (λ s a. omega (arith, a.0.2, a.1, a.2)) q.started (three q.started h.started p.since e);
    }
  where
    three : (k : List Session) → All Numbered k → All (λ s. s.start.0 + s.played.0 ≤ t) k → All (λ s. t ≤ s.end.0) k
        → All (λ s. Numbered s × (s.start.0 + s.played.0 ≤ t) × (t ≤ s.end.0)) k
    three [] a b c = tt
    three (s ∷ k) a b c = ((a.0, b.0, c.0), three k a.1 b.1 c.1)

tell-now : (now : ℕ) (q : Queue) → Telling now q → Tellable q
tell-now now q h =
    tell-at now q h.aired.played (all-into (λ s. now < s.end.0) (λ s. now ≤ s.end.0) (λ s e. omega arith) q.started
    h.aired.timed.ends) h.numbered

module _ (now t : ℕ) (q : Queue) (d : Due t q) (m : 0 < meets t q) (h : Telling now q) where
  abbrev u : Queue
  u = elapse (t - now) q

  elapsed : Each Numbered u
  elapsed = each-elapse Numbered (λ e s i. i) (t - now) q h.numbered

  -- at the next instant, before its work
  tell-due : Tellable u
  tell-due = let l = meets-after now t q h.aired.timed m in
      tell-at t u (elapse-played now t q (omega arith) h.aired.played) (elapse-due t (t - now) q d).ends elapsed

  telling-moved : Telling t (instant t u).queue
  telling-moved = record { aired = moved-aired now t q d m h.aired; numbered = each-instant Numbered (λ e s i. i) t u elapsed }

run_fits : (n now until : ℕ) (q : Queue) → Telling now q → All Fits (run n now until q).written
unfolding run and_then
run_fits zero now until q h = tt
run_fits (suc n) now until q h =
    by_next (λ (r : Turn). All Fits r.written) _ _ (not_after until (due q))
    (λ t e. let d = due-first until t q e in
    let m = due-meets until t q e in
    all_append Fits (moved now t.0 q).written (run n t.0 until (moved now t.0 q).queue).written
    (instant-fits t.0 (elapse (t.0 - now) q) (tell-due now t.0 q d m h))
    (run_fits n t.0 until (moved now t.0 q).queue (telling-moved now t.0 q d m h)))
    (λ e. tt)

-- ## Answers

-- a splicer whose answers fit
pub record Healthy (s : Splicer) : Type 0 where
  pub aired : Aired s.clock s.queue
  pub proper : Each Proper s.queue
  pub small : Each Small s.queue
  pub clock : s.clock < 4294967296 * 9000000
  pub linking : Linking s
  pub lately : Recalled s.queue.lately

numbers : (l : List Session) → All Proper l → All Small l → All Numbered l
numbers [] a b = tt
numbers (s ∷ l) a b = ((a.0.conn, omega (arith, b.0.id), omega (arith, b.0.duration)), numbers l a.1 b.1)

telling-of : (s : Splicer) → Healthy s → Telling s.clock s.queue
telling-of s h =
    record {
      aired = h.aired;
      numbered = record {
        waiting = numbers s.queue.waiting h.proper.waiting h.small.waiting;
        started = numbers s.queue.started h.proper.started h.small.started;
      };
    }

alive-fits : (c : ℕ) → c ≤ 3 → (s : Splicer) → Healthy s → Fits (alive_response c s)
unfolding alive_response air_state air_id
alive-fits c low s h = (
  (omega arith, omega arith),
  state s.queue.started,
  number s.queue.started (telling-of s h).numbered.started,
  omega (arith, h.clock),
)
  where
    state : (k : List Session) → air_state k < 4294967296
    state [] = omega arith
    state (a ∷ k) = omega arith

    number : (k : List Session) → All Numbered k → air_id k < 4294967296
    number [] a = omega arith
    number (u ∷ k) a = a.0.1

-- 02, CR 8: what is kept has the sizes of its fields
extended_fits : (c x : ℕ) → c ≤ 3 → x < 4294967296 → (s : Splicer) → Healthy s → Fits (extended_response c x s.queue)
extended_fits c x low k s h =
    let n = latest-noted c x s.queue.lately h.lately in
    by-recall Fits c x s.queue (λ i. (omega arith, k, omega (arith, n.event), n.result, omega (arith, n.played))) (omega arith, k)

config-fits : (c : ℕ) → c ≤ 3 → (s : Splicer) → Healthy s → (section : List ℕ) → length section ≤ longest_section → All Byte section
    → Fits (config_response c section s)
unfolding config_response
config-fits c low s h section short b =
    let l = h.linking in
    ((omega arith, omega arith), omega (arith, l.short), l.zeros, l.bytes, structure-at c s.hardware l.kept, short, b)

-- ## Calls

-- the records of an answer
abbrev pub records_of : Answer → List Record
records_of (refused n) = []
records_of (good consumed rs) = rs

read_asked : (d : List ℕ) → All Byte d → (r : Request) → read_splice d ≡ Some (Splice r) → Asked r
unfolding read
read_asked d a r e = splice-grants d a splice_request r e

message-fits : (s : Splicer) → Healthy s → (c : ℕ) (l : List ℕ) (loans : Loans) → c ≤ 3 → long_section loans ≡ false
    → Answering c l (section_of loans s) s (λ a. Wired (messages c l loans) → All Fits a.written)
unfolding and_then requested session_at
message-fits s h c l loans low short =
    record {
      silent = λ e a. tt;
      general = λ r b a. ((omega arith, given_below r b), tt);
      naming = λ r b e g a. (((omega arith, given_below r b), omega (arith, h.linking.short), h.linking.zeros, h.linking.bytes), tt);
      alive = λ e a. (alive-fits c low s h, tt);
      telling = λ e a. (
        config-fits c low s h (section_of loans s) (section-short loans s short)
            (by (All Byte) (eqb (air_feed s.queue.started) 0) _ _ (λ i. a.1) (λ i. a.2)),
        tt,
      );
      unknown = λ x e i a. (((omega arith, omega arith), number x i a.0), tt);
      aborting = λ x e i held a. (
        ((omega arith, omega arith), number x i a.0),
        aborted-fits c x s.queue (tell-now s.clock s.queue (telling-of s h)),
      );
      recalling = λ x e i a. (extended_fits c x low (number x i a.0) s h, tt);
      declining = λ r v e i b n a. (((omega arith, given_below v b), (asked r i a.0).id), tt);
      accepting = λ r e i p a. accepted-fits (requested c r s.queue) s.queue ((omega arith, omega arith), (asked r i a.0).id)
          (telling-of s h).numbered;
    }
  where
    bytes : All Byte l → All Byte (data_in l)
    bytes a = part-byte 8 (message_size l) l a

    number : (x : ℕ) → x ≡ session_id (data_in l) → All Byte l → x < 4294967296
    number x e a = omega (arith, e, field_below 0 4 (data_in l) (bytes a))

    asked : (r : Request) → read_splice (data_in l) ≡ Some (Splice r) → All Byte l → Asked r
    asked r e a = read_asked (data_in l) (bytes a) r e

pub call_fits : (k : Call) (s : Splicer) → Wired k → Healthy s → All Fits (records_of (call k s).answer)
unfolding ticked run_all
call_fits k s w h =
    cases s (λ k r. Wired k → All Fits (records_of r.answer))
    (record {
      refusing = λ k n w. tt;
      opening = λ c low e w. tt;
      closing = λ c room low e w. closed_by-fits c s.queue (tell-now s.clock s.queue (telling-of s h));
      answering = λ c l loans low e short. message-fits s h c l loans low short;
      bringing = λ k until b le w. run_fits _ s.clock until s.queue (telling-of s h);
      cueing = λ l pts seconds micros room g w. let x = read_cue l in
          let t = cue_time pts seconds micros x in
          let d = cue-wide pts seconds micros x in
          cue-all Fits t l (λ c low. (omega arith, d.0, d.1, (section-size l g).1, w)) (λ c low. (omega arith, omega arith)) x
          (initialised_ones s.links) (initialised-low s.links);
    }) k w

-- what is found in the bytes that a call wrote is what it answered
pub found : (k : Call) (s : Splicer) → Wired k → Healthy s → records_in (written_by (call k s).answer) ≡ records_of (call k s).answer
unfolding written_by output
found k s w h = go (call k s).answer (call_fits k s w h)
  where
    go : (a : Answer) → All Fits (records_of a) → records_in (written_by a) ≡ records_of a
    go (refused n) f = read_back [] tt
    go (good consumed rs) f = read_back rs f
