-- The contracts of this card's calls in src/lib.rt, as the toolchain reads them, are what specs/RollDoor says of them. Each by computing:
-- whoever edits one side alone is refused here. a: what a call is handed, z: what the lent memory is at its end.
use mathlib.Core.Path.{◌≡◌, refl, subst}
use mathlib.Core.List.{List, []}
use Prim.Native.Nat.{ℕ}
use lib.ListN.{length}
use base.Logic.{SProp}
use seplogic.Ra.Ura.{Ura}
use types.Logic.{Logic}
use prog.Memory as store
use prog.Routine.{Routine}
use contract.Lifetimes.{Lfts}
use contract.Monad.{Fun}
use contract.Notation.{Connectives, connectives}
use denote.Ref.{Bor}
use denote.Triple.Clauses.{AtExit}
use denote.Triple.Entry.{Args, Res}
use Rattle.rules.specs.Lists.{All}
use Rattle.rules.specs.Follows.Wires.{Byte}
use Rattle.rules.specs.Follows.Sequences.{rolling_fresh, Timeless}
use Rattle.rules.specs.Rolling.{roll}
use Rattle.engine.proofs.Held.{kind, Holds, Same, both, number-held, words-held, name-held}
use Rattle.memory.specs.Memory.{see}
use Rattle.engine.specs.Lent.{Lent}
use Rattle.rolling.specs.LentRolling.{rolling, LentRolling, ReadsStep}
use Rattle.door.specs.Door.{Replies, Input, an_open, a_close, a_message, a_tick, a_cue, Typed, call_of, Allowed}
use Rattle.door_rolling.specs.RollDoor.{RollReplies, RollInput, a_known, an_instant, a_reading, RollTyped, RollSeen, RollAllowed}
use Rattle.door_rolling.specs.RollDoor.{roll_call_of, roll_buffer_of}
use Rattle.door_rolling.specs.contracts.splicer_7_rolling_fresh as fresh
use Rattle.door_rolling.specs.contracts.splicer_7_instant as instant
use Rattle.door_rolling.specs.contracts.splicer_7_reading as reading
use Rattle.door_rolling.specs.contracts.splicer_7_rolling_due as dueing

-- what C sees
abbrev ended : (r m b k o : List ℕ) → RollSeen
ended r m b k o = record { reply = r; words = m; bytes = b; counter = k; buffer = o }

module _ {M : Type 1} {𝓤 : Ura M} (𝓛 : Logic 𝓤) (mem : store.Memory → SProp 𝓤) (run : Routine → Fun 𝓤) where
  abbrev 𝓝 : Connectives 𝓤
  𝓝 = connectives 𝓤

  open 𝓝 use {⌜◌⌝, ⊤ₛ}

  -- splicer_7_rolling_fresh(name, words, bytes, counter, reply)
  module _ (κs : Lfts 5) (a : Args fresh.signature κs) (r : Res fresh.signature κs) (z : AtExit fresh.ended κs) where
    pub fresh-requires : (fresh.clauses 𝓛 mem run κs a).requires tt ≡ ⊤ₛ
    fresh-requires = refl

    pub fresh-ensures : (fresh.clauses 𝓛 mem run κs a).ensures tt r z
        ≡ ⌜ RollReplies (rolling_fresh a.0.now) 0 [] z.1.1.1.1.0.now z.1.0.now z.1.1.0.now z.1.1.1.0.now
        [] ⌝
    fresh-ensures = refl

  -- splicer_7_instant(words, bytes, counter, given, out, reply)
  module _ (κs : Lfts 6) (a : Args instant.signature κs) (r : Res instant.signature κs) (z : AtExit instant.ended κs) where
    pub instant-requires : (instant.clauses 𝓛 mem run κs a).requires tt ≡ ⌜ LentRolling a.0.now a.1.0.now a.1.1.0.now ⌝
    instant-requires = refl

    pub instant-ensures : (instant.clauses 𝓛 mem run κs a).ensures tt r z
        ≡ ⌜ RollAllowed a.0.now a.1.0.now a.1.1.0.now (an_instant a.1.1.1.0.now a.1.1.1.1.0.now)
        (ended z.1.1.1.1.1.0.now z.0.now z.1.0.now z.1.1.0.now z.1.1.1.1.0.now) ⌝
    unfolding roll
    instant-ensures = refl

  -- splicer_7_reading(words, bytes, counter, reading, out, reply)
  module _ (κs : Lfts 5) (a : Args reading.signature κs) (r : Res reading.signature κs) (z : AtExit reading.ended κs) where
    pub reading-requires : (reading.clauses 𝓛 mem run κs a).requires tt ≡ ⌜ LentRolling a.0.now a.1.0.now a.1.1.0.now ⌝
    reading-requires = refl

    pub reading-ensures : (reading.clauses 𝓛 mem run κs a).ensures tt r z
        ≡ ⌜ RollAllowed a.0.now a.1.0.now a.1.1.0.now (a_reading a.1.1.1.0 a.1.1.1.1.0.now)
        (ended z.1.1.1.1.1.0.now z.0.now z.1.0.now z.1.1.0.now z.1.1.1.1.0.now) ⌝
    unfolding roll
    reading-ensures = refl

  -- splicer_7_rolling_due(words, bytes, counter, due)
  module _ (κs : Lfts 4) (a : Args dueing.signature κs) (r : Res dueing.signature κs) (z : AtExit dueing.ended κs) where
    pub due-requires : (dueing.clauses 𝓛 mem run κs a).requires tt ≡ ⌜ Lent a.0.now a.1.0.now ⌝
    due-requires = refl

    pub due-ensures : (dueing.clauses 𝓛 mem run κs a).ensures tt r z
        ≡ ⌜ ReadsStep a.0.now a.1.0.now a.1.1.0.now z.1.1.1.0.now ⌝
    due-ensures = refl

-- ## RollTyped is what the parameters' types say, and no more; a buffer may be any

-- a name is a &[u8; 32]
pub name_typed : (κs : Lfts 5) (name : Bor (List ℕ))
    → Same (Holds (kind fresh.signature κs 0) name) ((length name.now ≡ 32) × All Byte name.now)
name_typed κs = name-held κs.0

-- what is given once is a &[u32; 3]
pub instant-typed : (κs : Lfts 6) (given : Bor (List ℕ)) (e : List ℕ)
    → Same (Holds (kind instant.signature κs 3) given) (RollTyped (an_instant given.now e))
instant-typed κs given e = words-held κs.1.1.1.0 3 given

pub reading-typed : (κs : Lfts 5) (x : ℕ) (e : List ℕ) → Same (Holds (kind reading.signature κs 3) x) (RollTyped (a_reading x e))
reading-typed κs x e = number-held x

-- ## A known call is the door's, whose Cited holds it to its types and contract: any but a tick

abbrev NoTick : Input → Type 0
NoTick i = (seconds micros : ℕ) (e : List ℕ) → i ≡ a_tick seconds micros e → ⊥

pub known-typed : (i : Input) → Same (RollTyped (a_known i)) (Typed i × NoTick i)
known-typed i = both ((λ t. t), λ t. t) ((λ t seconds micros e q. subst (λ (j : Input). Timeless (call_of j)) q t), back i)
  where
    back : (j : Input) → NoTick j → Timeless (call_of j)
    back (an_open conn) t = tt
    back (a_close conn e) t = tt
    back (a_message conn l pm im e) t = tt
    back (a_tick seconds micros e) t = t seconds micros e refl
    back (a_cue l g e) t = tt

-- it is not lent the counter's words
pub known-allowed : (m b k : List ℕ) (i : Input) (r n c j o : List ℕ)
    → RollAllowed m b k (a_known i) (ended r n c j o) ≡ (Allowed m b i (record { reply = r; words = n; bytes = c; buffer = o }) × (j ≡ k))
known-allowed m b k i r n c j o = refl

-- ## What RollAllowed says is of the call `roll_call_of`, with the buffer `roll_buffer_of`

module _ (m b k : List ℕ) (r : RollSeen) where
  abbrev Gives : RollInput → Type 0
  Gives i =
      RollReplies (roll (roll_call_of i) (rolling m b k)) (see m).ring_end (roll_buffer_of i)
      r.reply r.words r.bytes r.counter r.buffer

  pub instant-called : (g e : List ℕ) → RollAllowed m b k (an_instant g e) r ≡ Gives (an_instant g e)
  instant-called g e = refl

  pub reading-called : (x : ℕ) (e : List ℕ) → RollAllowed m b k (a_reading x e) r ≡ Gives (a_reading x e)
  reading-called x e = refl

  pub known-called : (i : Input) → RollAllowed m b k (a_known i) r
      ≡ (Replies (roll (roll_call_of (a_known i)) (rolling m b k)).called (see m).ring_end (roll_buffer_of (a_known i))
      r.reply r.words r.bytes r.buffer × (r.counter ≡ k))
  unfolding roll
  known-called i = refl
