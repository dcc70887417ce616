-- `run` has a result that its promise allows, of every memory that is lent and all bytes: one record played is such a result.
-- Rests on demands_engine's answerable, the same of each call of the engine, and on feed's laws of one record.
use mathlib.Core.Path.{◌≡◌, refl, ap, ◌∙◌}
use mathlib.Core.Bool.{Bool, true, false, cond}
use mathlib.Core.List.{List, []}
use Prim.Native.Nat.{ℕ, ◌+◌, ◌-◌, ◌≤◌, ◌<◌}
use native.Mathlib.Omega.{arith}
use lib.Dec.{eqb, ltb}
use lib.ListN.{length, drop}
use borrow.Rule.Slice.PartMut.{mid_of, put_mid}
use Rattle.rules.specs.Lists.{All}
use Rattle.rules.specs.Follows.Wires.{Byte}
use Rattle.rules.specs.Bytes.{part, written, oversize}
use Rattle.rules.specs.State.{Splicer}
use Rattle.rules.specs.HouseNumbers.{Answer, refused, good, lending, written_by}
use Rattle.rules.specs.Calls.{closes, messages, ticks, call}
use Rattle.rules.specs.Card.{open_mark, close_mark, message_mark, tick_mark, mark_in, conn_in, message_from}
use Rattle.rules.specs.Card.{mark_end, tick_end, header_end, message_end, Next, calls, ends, stops, next, told, card_room}
use Rattle.rules.proofs.All.{all_take, all_drop}
use Rattle.rules.proofs.Bytes.{field_below, part-byte}
use Rattle.rules.proofs.Tests.{by}
use Rattle.rules.proofs.Sound.{sound-size, reached-sound}
use Rattle.rules.proofs.Written.{length-written}
use Rattle.memory.specs.Memory.{see, shown}
use Rattle.engine.specs.Lent.{Lent}
use Rattle.demands_engine.specs.Trace.{Memory, an_open, a_close, a_message, a_tick, Result, Answerable}
use Rattle.demands_engine.proofs.Answerable.{answerable}
use Rattle.feed.specs.declared.Played.{Played}
use Rattle.feed.specs.declared.Record.{Record}
use Rattle.feed.specs.declared.Record.TheVariants.{Open, Close, Message, Oversize, Tick, Cut, Unknown}
use Rattle.feed.specs.Feed.{whole, size_in, message_in, tick_in, record_in, next_of, used_by, is_cut}
use Rattle.feed.specs.Play.{step_by, step_of, untold, told_length, Ended, Plays}
use Rattle.feed.proofs.Plays.{step_in, ended-plays, open-silent, made-plays, plays-as, message-plays, stopped-plays}
use Rattle.card.specs.Ran.{Ran}
use Rattle.card.proofs.Runs.{runs_none, room, part_room, runs-long, runs-more, runs-stuck}

-- ## What is read of bytes is within the types of the engine's parameters

-- a u8 or a u32, each below 2^32
abbrev Reads : Record → Type 0
Reads (Open c) = c < 4294967296
Reads (Close c) = c < 4294967296
Reads (Message c size) = c < 4294967296
Reads (Oversize c) = c < 4294967296
Reads (Tick s u) = (s < 4294967296) × (u < 4294967296)
Reads Cut = Unit {0}
Reads Unknown = Unit {0}

module _ (l : List ℕ) (bytes : All Byte l) where
  reads_whole : (n : ℕ) (r : Record) → Reads r → Reads (whole n l r)
  reads_whole n r f = by Reads (ltb (length l) n) Cut r (λ e. tt) (λ e. f)

  reads-choice : (b : Bool) (r s : Record) → Reads r → Reads s → Reads (cond b r s)
  reads-choice b r s f g = by Reads b r s (λ e. f) (λ e. g)

  reads-conn : conn_in l < 4294967296
  reads-conn = omega (arith, field_below 1 1 l bytes)

  reads-message : Reads (message_in l)
  reads-message =
      reads_whole header_end _
      (reads-choice (oversize (message_from l)) _ _ reads-conn (reads_whole (message_end (size_in l)) _ reads-conn))

  reads-tick : Reads (tick_in l)
  reads-tick = reads_whole tick_end _ (omega (arith, field_below 2 4 l bytes), omega (arith, field_below 6 4 l bytes))

  reads : Reads (record_in l)
  unfolding record_in
  reads =
      reads_whole mark_end _
      (reads-choice (eqb (mark_in l) open_mark) _ _ reads-conn
      (reads-choice (eqb (mark_in l) close_mark) _ _ reads-conn
      (reads-choice (eqb (mark_in l) message_mark) _ _ reads-message
      (reads-choice (eqb (mark_in l) tick_mark) _ _ reads-tick tt))))

-- ## One record

-- what `play` may give of the bytes l, with the buffer e
record Playable (m b l e : List ℕ) : Type 0 where
  played : Played
  words : List ℕ
  bytes : List ℕ
  out : List ℕ
  plays : Plays (see m).ring_end e (step_of l (shown m b)) played words bytes out

module _ (m b l e : List ℕ) (lent : Lent m b) (bytes : All Byte l) (long : length e ≡ card_room) where
  abbrev at : Memory
  at = record { words = m; bytes = b }

  abbrev s : Splicer
  s = shown m b

  -- what a call gave, and behind it the refusal's bytes, in the buffer o
  abbrev told_in : Result → List ℕ → List ℕ
  told_in r o = written o 0 (untold r.answer)

  abbrev played-in : ℕ → Bool → Result → Played
  played-in n t r = record { used = n; len = told_length r.answer; more = t }

  behind : (n : ℕ) (t : Bool) (r : Result) (o : List ℕ) → Ended r.answer n t o (played-in n t r) (told_in r o)
  behind n t r o = record { used = refl; more = refl; tells = record { count = refl; bytes = refl } }

  made : (x : Record) (n : ℕ) (t : Bool) (r : Result) (o : List ℕ) → record_in l ≡ x
      → Plays (see m).ring_end e (step_in x l s) (played-in n t r) r.memory.words r.memory.bytes (told_in r o) → Playable m b l e
  made x n t r o f p =
      record { played = _; words = r.memory.words; bytes = r.memory.bytes; out = told_in r o; plays = plays-as l s refl f p }

  stopped : (x : Record) (t : Bool) → record_in l ≡ x
      → Plays (see m).ring_end e (step_in x l s) (record { used = 0; len = 0; more = t }) m b e → Playable m b l e
  stopped x t f p = record { played = _; words = m; bytes = b; out = e; plays = plays-as l s refl f p }

  -- a message of n bytes
  heard : (c n : ℕ) → c < 4294967296 → Answerable at (a_message c (part 2 n l) [] [] e)
  heard c n h = answerable at lent (a_message c (part 2 n l) [] [] e) (h, part-byte 2 n l bytes, tt, tt)

  by-record : (x : Record) → record_in l ≡ x → Reads x → Playable m b l e
  unfolding used_by is_cut next_of step_by call
  by-record (Open c) f h =
      let a = answerable at lent (an_open c) h in
      let r = a.result in
      made (Open c) mark_end true r e f (ended-plays a.allowed (open-silent c s e) (behind mark_end true r e))
  by-record (Close c) f h =
      let a = answerable at lent (a_close c e) h in
      let r = a.result in
      made (Close c) mark_end true r r.buffer f (made-plays (closes c) s long a.allowed (behind mark_end true r r.buffer))
  by-record (Message c size) f h =
      let n = message_end size - 2 in
      let a = heard c n h in
      let r = a.result in
      made (Message c size) (message_end size) true r r.buffer f
      (message-plays c size l s
      (made-plays (λ k. messages c (part 2 n l) (lending k)) s long a.allowed (behind (message_end size) true r r.buffer)))
  by-record (Oversize c) f h =
      let a = heard c 8 h in
      let r = a.result in
      made (Oversize c) header_end false r r.buffer f
      (made-plays (λ k. messages c (part 2 8 l) (lending k)) s long a.allowed (behind header_end false r r.buffer))
  by-record (Tick t u) f h =
      let a = answerable at lent (a_tick t u e) h in
      let r = a.result in
      made (Tick t u) tick_end true r r.buffer f (made-plays (ticks t u) s long a.allowed (behind tick_end true r r.buffer))
  by-record Cut f h = stopped Cut true f (stopped-plays true m b e lent)
  by-record Unknown f h = stopped Unknown false f (stopped-plays false m b e lent)

  playable : Playable m b l e
  playable = by-record (record_in l) refl (reads l bytes)

  -- and it fills the buffer no further than it is long
  told-short : (a : Answer) → length (written_by a) ≤ 3174 → length (told a) ≤ card_room
  unfolding told
  told-short (refused n) h = omega arith
  told-short (good consumed rs) h = omega arith

  step-short : length (step_of l s).shows ≤ length e
  unfolding step_of step_by
  step-short = go (next l)
    where
      go : (x : Next) → length (step_by (used_by (record_in l)) (is_cut (record_in l)) x s).shows ≤ length e
      go (calls k left) = omega (arith, told-short (call k s).answer (sound-size s (reached-sound s lent.reached) k))
      go (ends k) = omega (arith, told-short (call k s).answer (sound-size s (reached-sound s lent.reached) k))
      go stops = omega arith

  play-long : {r : Played} {n c o : List ℕ} → Plays (see m).ring_end e (step_of l s) r n c o → length o ≡ length e
  play-long p = ap length p.bytes ∙ length-written e 0 (step_of l s).shows (omega (arith, step-short))

-- ## What `run` may give

-- of the memory m and b, the bytes l at hand and the output buffer e: the buffer keeps its length
pub record Given (m b l e : List ℕ) : Type 0 where
  pub played : Played
  pub words : List ℕ
  pub bytes : List ℕ
  pub out : List ℕ
  pub ran : Ran (shown m b) l played words bytes out
  pub long : length out ≡ length e

pub given : (m b l e : List ℕ) → Lent m b → All Byte l → card_room ≤ length e → Given m b l e
given m b l e lent bytes h =
    let here = mid_of 0 (length l - 0) l in
    let buffer = mid_of 0 (room 0) e in
    let some = all_take Byte (length l - 0) (drop 0 l) (all_drop Byte 0 l bytes) in
    let wide = part_room 0 e (omega arith) in
    let p = playable m b here buffer lent some wide in
    let none = runs_none l m b e lent in
    let same = play-long m b here buffer lent some wide p.plays in
    record {
      played = record { used = 0 + p.played.used; len = 0 + p.played.len; more = p.played.more };
      words = p.words;
      bytes = p.bytes;
      out = put_mid 0 (room 0) e p.out;
      ran = record { runs = runs-more none p.plays same (omega arith); stuck = runs-stuck none p.plays same };
      long = runs-long none p.plays same;
    }
