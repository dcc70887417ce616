-- 02, CR 1: every record of every call has a result of the list; 110 is not in it. Rests on the cases of a call (Cases).
use mathlib.Core.Path.{refl}
use mathlib.Core.Bool.{Bool, true, false}
use mathlib.Core.List.{List, [], ◌∷◌, map}
use Prim.Native.Nat.{ℕ, zero, suc, ◌-◌}
use lib.Dec.{ltb}
use lib.ListN.{length, get_or}
use Rattle.rules.specs.declared.Session.{Session}
use Rattle.rules.specs.declared.Ending.{Ending}
use Rattle.rules.specs.declared.Ending.TheVariants.{Complete, Failed, Response}
use Rattle.rules.specs.Lists.{put, keep, place, remove_at}
use Rattle.rules.specs.State.{Queue, Splicer, empty, of, is, starts_at, ends_at, due, not_after, with_waiting, with_started}
use Rattle.rules.specs.Records.{Record}
use Rattle.rules.specs.Ends.{Turn, and_then, ended, ending, one_end, endings, followers, dismissed, evicted_at, evicted, cancelled}
use Rattle.rules.specs.Ends.{aborted, closed_by}
use Rattle.rules.specs.Instants.{may_start, began, meets_equal, ousted, launched, start_at, end_at, instant, elapse, run, run_all}
use Rattle.rules.specs.Answers.{alive_response, config_response}
use Rattle.rules.specs.Splicing.{requested, accepts, accepted}
use Rattle.rules.specs.Calls.{ticked, Call, call, section_of}
use Rattle.rules.specs.Cues.{read_cue, cue_time, initialised_ones}
use Rattle.rules.specs.Follows.Sound.{Given, Coded}
use Rattle.rules.proofs.Tests.{by}
use Rattle.rules.proofs.All.{All, all_append}
use Rattle.rules.proofs.Recall.{by-recall}
use Rattle.rules.proofs.Cases.{Answering, cases}
use Rattle.rules.proofs.Cued.{initialised-low, cue-all}
use Rattle.rules.proofs.Tick.{moved, by_next}
use Rattle.rules.proofs.Fitted.{records_of}

-- the result of an end
abbrev Ends : Ending → Type 0
Ends (Complete r) = Given r
Ends Failed = Unit {0}
Ends (Response r) = Given r

end-coded : (e : Ending) → Ends e → (s : Session) → Coded (ended e s)
end-coded (Complete r) g s = g
end-coded Failed g s = refl
end-coded (Response r) g s = g

told-coded : (e : Ending) → Ends e → (l : List Session) → All Coded (map (ended e) l)
told-coded e g [] = tt
told-coded e g (s ∷ l) = (end-coded e g s, told-coded e g l)

endings-coded : (air cover : Ending) → Ends air → Ends cover → (p : Session → Bool) (k : List Session)
    → All Coded (endings air cover p k Record ended)
unfolding endings
endings-coded air cover a b p [] = tt
endings-coded air cover a b p (s ∷ k) = go (p s)
  where
    rest : All Coded (map (ended cover) (keep p k))
    rest = told-coded cover b (keep p k)

    go : (t : Bool) → All Coded (put t (ended air s) (map (ended cover) (keep p k)))
    go true = (end-coded air a s, rest)
    go false = rest

-- ## Pieces of work

module _ (q : Queue) where
  dismissed-coded : (r c x : ℕ) → Given r → All Coded (dismissed r c x q).written
  unfolding dismissed
  dismissed-coded r c x g = told-coded (Response r) g (followers c x q.waiting).gone

  cancelled-coded : (p : Session → Bool) → All Coded (cancelled p q).written
  unfolding cancelled
  cancelled-coded p =
      all_append Coded (endings (Complete 116) (Response 116) p q.started Record ended)
      (map (ended (Response 116)) (keep p q.waiting))
      (endings-coded (Complete 116) (Response 116) refl refl p q.started) (told-coded (Response 116) refl (keep p q.waiting))

evicted-coded : (t : ℕ) (q : Queue) → All Coded (evicted t q).written
unfolding evicted evicted_at and_then
evicted-coded t q =
    let i = place (starts_at t) q.waiting in
    let s = get_or q.waiting i empty in
    by (λ (r : Turn). All Coded r.written) (ltb i (length q.waiting)) _ _
    (λ e. (
      refl,
      dismissed-coded (ending (one_end (Response 109) s) (with_waiting (remove_at i q.waiting) q)).queue 109 s.conn s.id
          refl,
    )) (λ e. tt)

aborted-coded : (c x : ℕ) (q : Queue) → All Coded (aborted c x q).written
unfolding aborted and_then
aborted-coded c x q =
    let u = (cancelled (is c x) q).queue in
    all_append Coded (cancelled (is c x) q).written (dismissed 116 c x u).written (cancelled-coded q (is c x))
    (dismissed-coded u 116 c x refl)

closed_by-coded : (c : ℕ) (q : Queue) → All Coded (closed_by c q).written
unfolding closed_by
closed_by-coded c q = cancelled-coded q (of c)

accepted-coded : (s : Session) (q : Queue) → All Coded (accepted s q).written
unfolding accepted and_then
accepted-coded s q = all_append Coded (evicted s.start.0 q).written (accepts s ∷ []) (evicted-coded s.start.0 q) (refl, tt)

-- ## Instants

ousted-coded : (s : Session) (q : Queue) → All Coded (ousted s q).written
unfolding ousted and_then
ousted-coded s q =
    let air = get_or q.started 0 empty in
    by (λ (r : Turn). All Coded r.written) (meets_equal s q.started) _ _
    (λ e. (
      refl,
      dismissed-coded (ending (one_end (Complete 125) air) (with_started (remove_at 0 q.started) q)).queue 125 air.conn
          air.id refl,
    )) (λ e. tt)

launched-coded : (s : Session) (q : Queue) → All Coded (launched s q).written
unfolding launched and_then
launched-coded s q =
    by (λ (r : Turn). All Coded r.written) (may_start s q.started) _ _
    (λ e. all_append Coded (ousted s q).written (began s ∷ []) (ousted-coded s q) (refl, tt))
    (λ e. (refl, dismissed-coded (ending (one_end Failed s) q).queue 109 s.conn s.id refl))

start_at-coded : (t : ℕ) (q : Queue) → All Coded (start_at t q).written
unfolding start_at
start_at-coded t q =
    let i = place (starts_at t) q.waiting in
    by (λ (r : Turn). All Coded r.written) (ltb i (length q.waiting)) _ _
    (λ e. launched-coded (get_or q.waiting i empty) (with_waiting (remove_at i q.waiting) q)) (λ e. tt)

instant-coded : (t : ℕ) (q : Queue) → All Coded (instant t q).written
unfolding instant end_at and_then
instant-coded t q =
    all_append Coded (end_at t q).written (start_at t (end_at t q).queue).written
    (endings-coded (Complete 100) (Complete 125) refl refl (ends_at t) q.started)
    (start_at-coded t (end_at t q).queue)

run-coded : (n now until : ℕ) (q : Queue) → All Coded (run n now until q).written
unfolding run and_then
run-coded zero now until q = tt
run-coded (suc n) now until q =
    by_next (λ (r : Turn). All Coded r.written) _ _ (not_after until (due q))
    (λ t e. all_append Coded (moved now t.0 q).written (run n t.0 until (moved now t.0 q).queue).written
    (instant-coded t.0 (elapse (t.0 - now) q)) (run-coded n t.0 until (moved now t.0 q).queue))
    (λ e. tt)

-- ## Every call

message-coded : (s : Splicer) (c : ℕ) (l section : List ℕ) → Answering c l section s (λ a. All Coded a.written)
unfolding and_then alive_response config_response
message-coded s c l section =
    record {
      silent = λ e. tt;
      general = λ r b. (b, tt);
      naming = λ r b e g. (b, tt);
      alive = λ e. (refl, tt);
      telling = λ e. (refl, tt);
      unknown = λ x e i. (refl, tt);
      aborting = λ x e i held. (refl, aborted-coded c x s.queue);
      recalling = λ x e i. (by-recall Coded c x s.queue (λ k. refl) refl, tt);
      declining = λ r v e i b n. (b, tt);
      accepting = λ r e i p. accepted-coded (requested c r s.queue) s.queue;
    }

pub call-coded : (k : Call) (s : Splicer) → All Coded (records_of (call k s).answer)
unfolding ticked run_all
call-coded k s =
    cases s (λ k r. All Coded (records_of r.answer))
    (record {
      refusing = λ k n. tt;
      opening = λ c low e. tt;
      closing = λ c room low e. closed_by-coded c s.queue;
      answering = λ c l loans low e short. message-coded s c l (section_of loans s);
      bringing = λ k until b le. run-coded _ s.clock until s.queue;
      cueing = λ l pts seconds micros room g. let x = read_cue l in
          cue-all Coded (cue_time pts seconds micros x) l (λ c low. refl) (λ c low. refl) x (initialised_ones s.links)
          (initialised-low s.links);
    }) k
