-- What the card program's own functions promise: whatever input follows, what they write is what document 01 says. That what the whole
-- program promises (`Stopped`) is `Card.card` of the whole input, however it is cut into pieces, is the law `program-card` of proofs/Whole.
use Rattle.std.specs.Prelude.{◌≡◌, Bool, true, false, ◌&&◌, ◌||◌, List, [], ◌∷◌, ◌++◌, ℕ, suc, ◌-◌, ◌≤◌, ◌<◌, ltb, length, take, drop}
use Rattle.std.proofs.Math.Seq.{slice}
use Rattle.rules.specs.State.{Splicer}
use Rattle.memory.specs.Memory.{shown}
use Rattle.engine.specs.Lent.{Lent}
use Rattle.feed.specs.declared.Played.{Played}
use Rattle.feed.specs.declared.Record.TheVariants.{Cut}
use Rattle.feed.specs.Feed.{record_in, rest}
use Rattle.feed.specs.Play.{Step, goes_on}
use Rattle.card.specs.declared.Left.{Left}
use Rattle.card.specs.declared.Stop.{Stop}
use Rattle.card.specs.declared.Stop.TheVariants.{Over, Unwritten, Counted}
use Rattle.standard_streams.specs.declared.Written.{Written}

-- the step that some records of the bytes at hand make together; m, b and o: the memory and the output buffer after them. Whether one of
-- them accepted a request is not asked (`goes_on`).
abbrev pub step_made : Played → List ℕ → List ℕ → List ℕ → Step
step_made r m b o = record { splicer = shown m b; accepted = false; shows = take r.len o; used = r.used; more = r.more }

-- some records of l were played, from the splicer s on
pub record Runs (s : Splicer) (l : List ℕ) (r : Played) (m b o : List ℕ) : Type 0 where
  pub lent : Lent m b
  pub within : r.used ≤ length l
  pub room : r.len ≤ length o
  pub output : (more : List ℕ) → rest s (l ++ more) ≡ goes_on (step_made r m b o) l more

-- and it stands still only before a cut record
pub record Ran (s : Splicer) (l : List ℕ) (r : Played) (m b o : List ℕ) : Type 0 where
  pub runs : Runs s l r m b o
  pub stuck : r.used ≡ 0 → r.more ≡ true → record_in l ≡ Cut

-- the bytes from used to end at the front, and those behind them as they were
abbrev pub moved : (used end : ℕ) → List ℕ → List ℕ
moved used end e = slice used end e ++ drop (end - used) e

-- whether there may be more to play: at the end of the input nothing is read, and then nothing is played
abbrev pub again : (more : Bool) (read used : ℕ) → Bool
again more read used = more && (ltb 0 read || ltb 0 used)

-- s: the splicer before, kept: the bytes that were still to be played; m, b, input and o: the memory and the buffers after the turn.
-- The next read has room, so that it gives nothing only at the end. Whether more is played is the input's answer, not the write's.
pub record Turned (s : Splicer) (kept : List ℕ) (r : Left) (m b input o : List ℕ) : Type 0 where
  pub piece : List ℕ
  pub played : Played
  pub ran : Ran s (kept ++ piece) played m b o
  pub within : r.have ≤ length input
  pub free : r.more ≡ true → r.have < length input
  pub left : take r.have input ≡ drop played.used (kept ++ piece)
  pub more : r.more ≡ again played.more (length piece) played.used

-- ## All turns

-- what one read gives, and what the later ones do: "at the end" nothing
abbrev pub first : List (List ℕ) → List ℕ
first [] = []
first (p ∷ ps) = p

abbrev pub later : List (List ℕ) → List (List ℕ)
later [] = []
later (p ∷ ps) = ps

abbrev pub joined : List (List ℕ) → List ℕ
joined [] = []
joined (p ∷ ps) = p ++ joined ps

-- turn by turn, from the splicer s and the bytes kept on, n turns at most, over the pieces ps that are read: what is handed to be written
-- in all. It stops when there is nothing more to play, when a write says that it failed, or when the turns are used up, and then alone.
pub data Fed : (n : ℕ) → Stop → Splicer → List ℕ → List (List ℕ) → List ℕ → Type 0 where
  over : {n : ℕ} {s : Splicer} {kept : List ℕ} {ps : List (List ℕ)} {r : Played} {m b o : List ℕ} → Ran s (kept ++ first ps) r m b o
      → again r.more (length (first ps)) r.used ≡ false → Fed (suc n) Over s kept ps (take r.len o)
  failed : {n : ℕ} {w : Written} {s : Splicer} {kept : List ℕ} {ps : List (List ℕ)} {r : Played} {m b o : List ℕ}
      → Ran s (kept ++ first ps) r m b o → w.whole ≡ false → Fed (suc n) (Unwritten w) s kept ps (take r.len o)
  counted : {s : Splicer} {kept : List ℕ} {ps : List (List ℕ)} → Fed 0 Counted s kept ps []
  goes : {n : ℕ} {h : Stop} {s : Splicer} {kept : List ℕ} {ps : List (List ℕ)} {r : Played} {m b o w : List ℕ}
      → Ran s (kept ++ first ps) r m b o → again r.more (length (first ps)) r.used ≡ true
      → Fed n h (shown m b) (drop r.used (kept ++ first ps)) (later ps) w → Fed (suc n) h s kept ps (take r.len o ++ w)

-- the program's turns, n at most: what each read gave, and what was handed to be written; whatever input was left unread
pub record Turns (n : ℕ) (h : Stop) (s : Splicer) (kept : List ℕ) : Type 0 where
  pub reads : List (List ℕ)
  pub output : List ℕ
  pub fed : (unread : List (List ℕ)) → Fed n h s kept (reads ++ unread) output

-- more turns than any run makes (`counted-long` of proofs/Whole)
abbrev pub most : ℕ
most = 18446744073709551615

abbrev pub Stopped : Splicer → Stop → Type 0
Stopped s h = Turns most h s []
