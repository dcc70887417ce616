-- 02, CR 7: what a cue call does to the splicer and to what the answers tell (nothing), to whom it writes, and what. Rests on what holds of
-- each of its records (rules' Cued) and on records being read back from bytes.
use mathlib.Core.Path.{◌≡◌, refl, ap, ap₂, ◌∙◌}
use mathlib.Core.Bool.{false, cond}
use mathlib.Core.List.{List, [], ◌∷◌, ◌++◌, map}
use Prim.Native.Nat.{ℕ, ◌+◌}
use native.Mathlib.Omega.{arith}
use lib.ListN.{length}
use Rattle.rules.specs.declared.Refusal.TheVariants.{NoRoom, BadMicros, BadSection}
use Rattle.rules.specs.declared.Cue.{Cue}
use Rattle.rules.specs.declared.Cue.TheVariants.{At, Timeless, Silent, Bad}
use Rattle.rules.specs.Lists.{All, keep, omit}
use Rattle.rules.specs.Follows.Wires.{Byte}
use Rattle.rules.specs.Bytes.{bytes}
use Rattle.rules.specs.Units.{bad_micros}
use Rattle.rules.specs.State.{Splicer, no_hardware}
use Rattle.rules.specs.Records.{Record, framed, record_bytes}
use Rattle.rules.specs.Follows.ReadBack.{records_in}
use Rattle.rules.specs.Cues.{bad_section, read_cue, cue_time, initialised_ones, passed_to, complained_to, cue_records}
use Rattle.rules.specs.HouseNumbers.{Answer, refused, good, Called, no_room, written_by}
use Rattle.rules.specs.Calls.{Call, cues, cue_call, call}
use Rattle.rules.proofs.Tests.{by}
use Rattle.rules.proofs.Every.{all_keep}
use Rattle.rules.proofs.Fitted.{records_of}
use Rattle.rules.proofs.Cued.{initialised-low, cue-all}
use Rattle.rules.proofs.Sound.{sound-found}
use Rattle.demands.specs.History.{Event, Entry, is_start, is_end, starts_of, ends_of, unmarked, with_ends, credited, reply_of, history}
use Rattle.demands.specs.History.{others_of, wait_after, wait_replied, waiting_told, waiting_count, book_after, book_replied, book}
use Rattle.demands.specs.History.{clock_replied, clock_after}
use Rattle.demands.specs.Airing.{Airing, by_then, heard_all, aired_after, aired_replied, airings}
use Rattle.demands.specs.Told.{FromFresh, number_of, started_replied, started_told, conn_of, concerned, Carries}
use Rattle.demands.specs.Lately.{Told, time_so_far, newer, ended_replied, ended_told}
use Rattle.demands.specs.Kept.{changes, left, changed, kept_behind, kept_told}
use Rattle.demands.specs.Alike.{Alike}
use Rattle.demands.proofs.Room.{from-sound}
use Rattle.demands.proofs.Refusals.{a-number}
use Rattle.demands.proofs.Marks.{heard-plain}
use Rattle.demands.proofs.Lately.{none_told}

-- ## It changes nothing

pub cue-same : (s : Splicer) (l : List ℕ) (pts seconds micros room : ℕ) → (call (cues l pts seconds micros room) s).splicer ≡ s
unfolding call cue_call
cue-same s l pts seconds micros room =
    by Same (no_room room) _ _ (λ e. refl) (λ e. by Same (bad_micros micros) _ _ (λ f. refl)
    (λ f. by Same (bad_section l) _ _ (λ g. refl) (λ g. refl)))
  where
    Same : Called → Type 0
    Same r = r.splicer ≡ s

pub cue-unaccepted : (s : Splicer) (l : List ℕ) (pts seconds micros room : ℕ) → (call (cues l pts seconds micros room) s).accepted ≡ false
unfolding call cue_call
cue-unaccepted s l pts seconds micros room =
    by No (no_room room) _ _ (λ e. refl) (λ e. by No (bad_micros micros) _ _ (λ f. refl)
    (λ f. by No (bad_section l) _ _ (λ g. refl) (λ g. refl)))
  where
    No : Called → Type 0
    No r = r.accepted ≡ false

-- ## It counts for nothing

-- of no session
abbrev Quiet : Record → Type 0
Quiet r = (c x : ℕ) → (is_start c x r ≡ false) × (is_end c x r ≡ false)

module _ (s : Splicer) (l : List ℕ) (pts seconds micros room : ℕ) where
  abbrev k : Call
  k = cues l pts seconds micros room

  quiet : All Quiet (records_of (call k s).answer)
  unfolding call cue_call is_start is_end
  quiet =
      let x = read_cue l in
      by Q (no_room room) _ _ (λ e. tt) (λ e. by Q (bad_micros micros) _ _ (λ f. tt) (λ f. by Q (bad_section l) _ _ (λ g. tt)
      (λ g. cue-all Quiet (cue_time pts seconds micros x) l (λ c low d y. (refl, refl)) (λ c low d y. (refl, refl)) x
      (initialised_ones s.links) (initialised-low s.links))))
    where
      Q : Called → Type 0
      Q r = All Quiet (records_of r.answer)

none-start : (c x : ℕ) (rs : List Record) → All Quiet rs → starts_of c x rs ≡ 0
none-start c x [] a = refl
none-start c x (r ∷ rs) a = rw ((a.0 c x).0, none-start c x rs a.1)

none_end : (c x : ℕ) (rs : List Record) → All Quiet rs → ends_of c x rs ≡ 0
none_end c x [] a = refl
none_end c x (r ∷ rs) a = rw ((a.0 c x).1, none_end c x rs a.1)

quiet-waits : (c : ℕ) (rs : List Record) → All Quiet rs → (w : List ℕ) → keep (unmarked c rs) w ≡ w
quiet-waits c rs a [] = refl
quiet-waits c rs a (x ∷ w) = rw (none-start c x rs a, none_end c x rs a) (ap (x ∷◌) (quiet-waits c rs a w))

quiet-credits : (rs : List Record) → All Quiet rs → (es : List Entry) → credited rs es ≡ es
unfolding credited
quiet-credits rs a [] = refl
quiet-credits rs a (e ∷ es) =
    let n : e.ends + ends_of e.conn e.id rs ≡ e.ends = omega (arith, none_end e.conn e.id rs a) in
    let same : with_ends rs e ≡ e = ap (λ (y : ℕ). record {
      conn = e.conn;
      id = e.id;
      end = e.end;
      mux = e.mux;
      event = e.event;
      prior = e.prior;
      overrides = e.overrides;
      ends =
          y;
      closed = e.closed;
    }) n in
    ap₂ ◌∷◌ same (quiet-credits (omit (is_end e.conn e.id) rs) (all_keep Quiet _ rs a) es)

quiet-heard : (u : ℕ) (rs : List Record) → All Quiet rs → (es : List Airing) → heard_all u rs es ≡ es
unfolding heard_all
quiet-heard u [] a es = refl
quiet-heard u (r ∷ rs) a es = ap (heard_all u rs) (heard-plain (by_then u es rs) r (λ c x. (a.0 c x).0) (λ c x. (a.0 c x).1) es)
    ∙ quiet-heard u rs a.1 es

-- an answer to a cue call whose records are found in its bytes
module _ (l : List ℕ) (pts seconds micros room : ℕ) where
  abbrev j : Call
  j = cues l pts seconds micros room

  wait-told : (a : Answer) → records_in (written_by a) ≡ records_of a → All Quiet (records_of a) → (c : ℕ) (w : List ℕ)
      → wait_replied c j (reply_of a) w ≡ w
  unfolding wait_replied wait_after
  wait-told (refused n) e q c w = refl
  wait-told (good consumed rs) e q c w = rw e (quiet-waits c rs q w)

  book-told : (a : Answer) → records_in (written_by a) ≡ records_of a → All Quiet (records_of a) → (es : List Entry)
      → book_replied j (reply_of a) es ≡ es
  unfolding book_replied book_after
  book-told (refused n) e q es = refl
  book-told (good consumed rs) e q es = rw e (quiet-credits rs q es)

  clock-told : (a : Answer) (now : ℕ) → clock_replied j (reply_of a) now ≡ now
  unfolding clock_replied
  clock-told (refused n) now = refl
  clock-told (good consumed rs) now = refl

  started-told : (a : Answer) → records_in (written_by a) ≡ records_of a → All Quiet (records_of a) → (c x n : ℕ)
      → started_replied c x j (reply_of a) n ≡ n
  unfolding started_replied others_of
  started-told (refused m) e q c x n = refl
  started-told (good consumed rs) e q c x n = rw (e, none-start c x rs q, none_end c x rs q) (omega arith)

  aired-told : (a : Answer) → records_in (written_by a) ≡ records_of a → All Quiet (records_of a) → (u : ℕ) (es : List Airing)
      → aired_replied u j (reply_of a) es ≡ es
  unfolding aired_replied aired_after
  aired-told (refused n) e q u es = refl
  aired-told (good consumed rs) e q u es = rw e (quiet-heard u rs q es)

  ended-told : (a : Answer) → records_in (written_by a) ≡ records_of a → All Quiet (records_of a)
      → (es : List Entry) (on : ℕ → ℕ → ℕ) (ts : List Told) → ended_replied j (reply_of a) es on ts ≡ ts
  unfolding ended_replied others_of newer
  ended-told (refused n) e q es on ts = refl
  ended-told (good consumed rs) e q es on ts = rw (e, none_told es on rs (λ c x. none_end c x rs q))

  unchanged-told : (a : Answer) (c : ℕ) → changed c j (reply_of a) ≡ false
  unfolding changed changes
  unchanged-told (refused n) c = refl
  unchanged-told (good consumed rs) c = refl

-- one event more
module _ (e : Event) where
  waits-more : (c : ℕ) (h : List Event) (w : List ℕ) → waiting_told c (h ++ (e ∷ [])) w
      ≡ wait_replied c e.call e.reply (waiting_told c h w)
  unfolding waiting_told
  waits-more c [] w = refl
  waits-more c (d ∷ h) w = waits-more c h (wait_replied c d.call d.reply w)

  book-more : (h : List Event) (es : List Entry) → book (h ++ (e ∷ [])) es ≡ book_replied e.call e.reply (book h es)
  unfolding book
  book-more [] es = refl
  book-more (d ∷ h) es = book-more h (book_replied d.call d.reply es)

  clock-more : (h : List Event) (now : ℕ) → clock_after (h ++ (e ∷ [])) now ≡ clock_replied e.call e.reply (clock_after h now)
  unfolding clock_after
  clock-more [] now = refl
  clock-more (d ∷ h) now = clock-more h (clock_replied d.call d.reply now)

  started-more : (c x : ℕ) (h : List Event) (n : ℕ) → started_told c x (h ++ (e ∷ [])) n
      ≡ started_replied c x e.call e.reply (started_told c x h n)
  unfolding started_told
  started-more c x [] n = refl
  started-more c x (d ∷ h) n = started-more c x h (started_replied c x d.call d.reply n)

  airings-more : (h : List Event) (now : ℕ) (es : List Airing)
      → airings (h ++ (e ∷ [])) now es ≡ aired_replied (clock_replied e.call e.reply (clock_after h now)) e.call e.reply
      (airings h now es)
  unfolding airings clock_after
  airings-more [] now es = refl
  airings-more (d ∷ h) now es =
      let u = clock_replied d.call d.reply now in
      airings-more h u (aired_replied u d.call d.reply es)

  ended-more : (h : List Event) (es : List Entry) (now : ℕ) (ss : List Airing) (ts : List Told) → ended_told (h ++ (e ∷ [])) es now ss ts
      ≡ ended_replied e.call e.reply (book h es) (time_so_far (clock_after h now) (airings h now ss)) (ended_told h es now ss ts)
  unfolding ended_told book clock_after airings
  ended-more [] es now ss ts = refl
  ended-more (d ∷ h) es now ss ts =
      let u = clock_replied d.call d.reply now in
      ended-more h (book_replied d.call d.reply es) u (aired_replied u d.call d.reply ss)
      (ended_replied d.call d.reply es (time_so_far now ss) ts)

  kept_more : (c : ℕ) (h : List Event) (k : List ℕ)
      → kept_behind c (h ++ (e ∷ [])) k ≡ cond (changed c e.call e.reply) (left e.call) (kept_behind c h k)
  unfolding kept_behind
  kept_more c [] k = refl
  kept_more c (d ∷ h) k = kept_more c h (cond (changed c d.call d.reply) (left d.call) k)

module _ (h : List Event) (s : Splicer) (f : FromFresh h s) (l : List ℕ) (pts seconds micros room : ℕ) (w : All Byte l) where
  abbrev i : Call
  i = cues l pts seconds micros room

  abbrev a : Answer
  a = (call i s).answer

  found : records_in (written_by a) ≡ records_of a
  found = sound-found s i w (from-sound h s f)

  pub counts-nothing : Alike h (h ++ history (i ∷ []) s)
  unfolding history waiting_count kept_told
  counts-nothing =
      let q = quiet s l pts seconds micros room in
      let e : Event = record { call = i; reply = reply_of a } in
      record {
        waiting = λ c. ap length (waits-more e c h [] ∙ wait-told l pts seconds micros room a found q c (waiting_told c h []));
        book = book-more e h [] ∙ book-told l pts seconds micros room a found q (book h []);
        clock = clock-more e h 0 ∙ clock-told l pts seconds micros room a (clock_after h 0);
        started = λ c x. started-more e c x h 0 ∙ started-told l pts seconds micros room a found q c x (started_told c x h 0);
        aired = airings-more e h 0 [] ∙ aired-told l pts seconds micros room a found q _ (airings h 0 []);
        ended = ended-more e h [] 0 [] [] ∙ ended-told l pts seconds micros room a found q (book h []) _ (ended_told h [] 0 [] []);
        kept = λ c. kept_more e c h no_hardware ∙ rw (unchanged-told l pts seconds micros room a c);
      }

  -- ## To whom, and what

  good-records : number_of a ≡ 0 → records_of a ≡ cue_records (read_cue l) (cue_time pts seconds micros (read_cue l)) l
      (initialised_ones s.links)
  unfolding call cue_call number_of
  good-records =
      by G (no_room room) _ _ (λ e n. absurd (omega (arith, n, a-number NoRoom)))
      (λ e. by G (bad_micros micros) _ _ (λ f n. absurd (omega (arith, n, a-number BadMicros)))
      (λ f. by G (bad_section l) _ _ (λ g n. absurd (omega (arith, n, a-number BadSection))) (λ g n. refl)))
    where
      G : Called → Type 0
      G r = number_of r.answer ≡ 0 → records_of r.answer
          ≡ cue_records (read_cue l) (cue_time pts seconds micros (read_cue l)) l (initialised_ones s.links)

  pub told-records : number_of a ≡ 0 → records_in (written_by a)
      ≡ cue_records (read_cue l) (cue_time pts seconds micros (read_cue l)) l (initialised_ones s.links)
  told-records n = found ∙ good-records n

  pub to-whom : number_of a ≡ 0 → map conn_of (records_in (written_by a)) ≡ concerned (read_cue l) s
  unfolding concerned initialised_ones cue_records
  to-whom n = ap (map conn_of) (found ∙ good-records n) ∙ go (read_cue l)
    where
      same : (g : ℕ → Record) → ((c : ℕ) → conn_of (g c) ≡ c) → (cs : List ℕ) → map conn_of (map g cs) ≡ cs
      same g e [] = refl
      same g e (c ∷ cs) = ap₂ ◌∷◌ (e c) (same g e cs)

      go : (x : Cue) → map conn_of (cue_records x (cue_time pts seconds micros (read_cue l)) l (initialised_ones s.links)) ≡ concerned x s
      go (At p) = same (passed_to (cue_time pts seconds micros (read_cue l)) l) (λ c. refl) (initialised_ones s.links)
      go Timeless = same (passed_to (cue_time pts seconds micros (read_cue l)) l) (λ c. refl) (initialised_ones s.links)
      go Silent = refl
      go Bad = same complained_to (λ c. refl) (initialised_ones s.links)

  pub whole-section : All (Carries l) (records_in (written_by a))
  unfolding call cue_call Carries record_bytes framed bytes
  whole-section =
      let x = read_cue l in
      rw found (by C (no_room room) _ _ (λ e. tt) (λ e. by C (bad_micros micros) _ _ (λ f. tt) (λ f. by C (bad_section l) _ _ (λ g. tt)
      (λ g. cue-all (Carries l) (cue_time pts seconds micros x) l (λ c low. refl) (λ c low. tt) x (initialised_ones s.links)
      (initialised-low s.links)))))
    where
      C : Called → Type 0
      C r = All (Carries l) (records_of r.answer)
