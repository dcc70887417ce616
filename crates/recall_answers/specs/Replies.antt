-- What a pass over the log carries in code, and what an answer to a message promises of it, of the lent words and of the buffer.
use Rattle.std.specs.Prelude.{Option, None, Some, IfSome, ◌≡◌, Bool, false, cond, not, ◌&&◌, List, [], ◌∷◌, ◌++◌, map, ℕ, ◌+◌, ◌≤◌, eqb}
use Rattle.std.specs.Prelude.{length, drop}
use Rattle.rules.specs.declared.Link.{Link}
use Rattle.rules.specs.declared.Message.{Message}
use Rattle.rules.specs.declared.Message.TheVariants.{Init, Splice}
use Rattle.rules.specs.declared.Request.{Request}
use Rattle.rules.specs.declared.Link.TheVariants.{Closed, Opened, Initialised}
use Rattle.rules.specs.Bytes.{message_size, data_of}
use Rattle.rules.specs.Reading.{init_request, bad_init}
use Rattle.rules.specs.Hardware.{hardware_in}
use Rattle.rules.specs.State.{no_hardware, is_initialised}
use Rattle.rules.specs.Records.{Record}
use Rattle.rules.specs.Card.{card_name}
use Rattle.recall_rules.specs.declared.Phase.TheVariants.{Waits}
use Rattle.recall_rules.specs.Verdicts.{verdict}
use Rattle.recall_rules.specs.Calls.{Pass, Answered, with_verdicts, initialised, config_response, answer_read, answer}
use Rattle.recall_ends.specs.Does.{all, Tells}
use Rattle.recall_answers.specs.declared.Carried.{Carried}
use Rattle.recall_answers.specs.declared.Effect.{Effect}
use Rattle.recall_answers.specs.declared.Effect.TheVariants.{Nothing, Joins, Enters, Configures}
use Rattle.recall_answers.specs.declared.Given.{Given}

-- ## What is carried

-- a connection's word: 1 open, 2 initialised, any other closed
unfoldable pub link_for : ℕ → Link
link_for k = cond (eqb k 1) Opened (cond (eqb k 2) Initialised Closed)

-- the pass of what is carried and of the verdicts in the words m; the Hardware_Configs stand in the log
abbrev pub pass_of : (hardware : List (List ℕ)) → Carried → (m : List ℕ) → Pass
pass_of hardware h m =
    record { name = card_name; clock = h.clock.0; links = map link_for h.links; hardware = hardware; verdicts = all m }

-- 02, CR 6: "the Hardware_Config of their Init_Request": of the message that stands in the log l at the place p, if any is kept
unfoldable pub hardware_at : (l : List ℕ) → Option ℕ → List ℕ
hardware_at l None = no_hardware
hardware_at l (Some p) = hardware_in (data_of (message_size (drop p l)) (drop p l))

abbrev pub hardwares : (l : List ℕ) → Carried → List (List ℕ)
hardwares l h = map (hardware_at l) h.places

-- an Init_Request that can be read stands there
pub record Placed (l : List ℕ) (p : Option ℕ) : Type 0 where
  pub whole : IfSome p (λ n. n + (8 + message_size (drop n l)) ≤ length l)
  pub good : IfSome p (λ n. bad_init (data_of (message_size (drop n l)) (drop n l)) ≡ false)

-- ## The answer to a message

-- "2. Not initialised and not Init_Request"
abbrev pub barred : Link → ℕ → Bool
barred l id = not (is_initialised l) && not (eqb id init_request)

-- what is left to do of connection c's message with the data d: nothing; a new session waits, behind the others; the connection is
-- initialised; or the record of the configuration is to be written
unfoldable pub effected : (c : ℕ) (d : List ℕ) → Effect → Pass → Pass
effected c d Nothing s = s
effected c d (Joins x) s = with_verdicts (s.verdicts ++ (verdict Waits x ∷ [])) s
effected c d Enters s = initialised c (hardware_in d) s
effected c d Configures s = s

-- the records that are written now, of all those of the answer
unfoldable pub spoken : Effect → List Record → List Record
spoken Nothing rs = rs
spoken (Joins x) rs = rs
spoken Enters rs = rs
spoken Configures rs = []

-- what is known of what is left to do: of a connection that is initialised, that its message could be read; of the configuration, that its
-- record is all that is written. section: the map on air
abbrev pub Left : Effect → (c : ℕ) (d section : List ℕ) → Pass → List Record → Type 0
Left Nothing c d section s rs = Unit {0}
Left (Joins x) c d section s rs = Unit {0}
Left Enters c d section s rs = bad_init d ≡ false
Left Configures c d section s rs = rs ≡ config_response c section s ∷ []

-- the answer a in the pass s to connection c's message with the data d; k, o: the words and the buffer after it, e: the buffer before it
pub record Gives (c : ℕ) (d section : List ℕ) (a : Answered) (s : Pass) (e : List ℕ) (g : Given) (k o : List ℕ) : Type 0 where
  pub pass : a.pass ≡ effected c d g.effect (with_verdicts (all k) s)
  pub tells : Tells e 0 (spoken g.effect a.written) g.len o
  pub left : Left g.effect c d section s a.written
  pub moved : g.moved ≡ a.moved

-- of a message of that MessageID, whatever stands in the log and whatever sections are lent
abbrev pub Replies : (c id : ℕ) (d : List ℕ) → Carried → (m e : List ℕ) → Given → (k o : List ℕ) → Type 0
Replies c id d h m e g k o =
    (hardware : List (List ℕ)) (section : List ℕ)
    → Gives c d section (answer c id d section (pass_of hardware h m)) (pass_of hardware h m) e
    g k o

-- of a message that is read
abbrev pub Reads : (c : ℕ) → Option Message → (d : List ℕ) → Carried → (m e : List ℕ) → Given → (k o : List ℕ) → Type 0
Reads c x d h m e g k o =
    (hardware : List (List ℕ)) (section : List ℕ)
    → Gives c d section (answer_read c x d section (pass_of hardware h m)) (pass_of hardware h m)
    e g k o

-- an Init_Request, whatever is carried and held
abbrev pub Inits : (c revision : ℕ) (d e : List ℕ) → Given → (o : List ℕ) → Type 0
Inits c revision d e g o = (h : Carried) (m : List ℕ) → Reads c (Some (Init revision)) d h m e g m o

-- a Splice_Request, whatever data it was read from
abbrev pub Splices : (c : ℕ) → Request → Carried → (m e : List ℕ) → Given → (k o : List ℕ) → Type 0
Splices c r h m e g k o = (d : List ℕ) → Reads c (Some (Splice r)) d h m e g k o

-- one record stands at the start of the buffer that held e
abbrev pub Says : Record → (e : List ℕ) → ℕ → (o : List ℕ) → Type 0
Says x e len o = Tells e 0 (x ∷ []) len o

-- an answer that leaves nothing to do, and shifted no place
abbrev pub done : ℕ → Given
done len = record { len = len; moved = 0; effect = Nothing }
