-- What a driver sees of a device: any number of its calls in any order, each result one that the call's contract allows. The three that are
-- driven (the engine, the door, the card with a rolling counter) hand in their calls, and have the trace's words from here.
use Rattle.std.specs.Prelude.{◌≡◌, List, [], ◌∷◌, map, ℕ, length}
use Rattle.rules.specs.Lists.{All}
use Rattle.rules.specs.Follows.Wires.{Byte}

-- the memory between two calls, a call with what it is handed, what comes back, and fresh's reply; what the types say of an input, what a
-- call's contract allows from a memory, the memory that a call has left, and what fresh's contract allows for a name
pub record Device : Type 1 where
  pub Memory : Type 0
  pub Input : Type 0
  pub Result : Type 0
  pub Reply : Type 0
  pub Typed : Input → Type 0
  pub Allowed : Memory → Input → Result → Type 0
  pub left : Result → Memory
  pub Begins : List ℕ → Reply → Memory → Type 0

module _ (d : Device) where
  -- a call that was made, with its result
  pub record Made : Type 0 where
    pub input : d.Input
    pub result : d.Result

  -- the calls h, made from the memory m one after the other, have led to the memory n
  abbrev pub Leads : d.Memory → List Made → d.Memory → Type 0
  Leads m [] n = n ≡ m
  Leads m (x ∷ h) n = d.Typed x.input × d.Allowed m x.input x.result × Leads (d.left x.result) h n

  -- fresh was called with a name of 32 bytes, then the calls h were made, and the memory now is m; reply: fresh's
  pub record Trace (name : List ℕ) (h : List Made) (m : d.Memory) : Type 0 where
    pub whole : length name ≡ 32
    pub bytes : All Byte name
    pub begun : d.Memory
    pub reply : d.Reply
    pub fresh : d.Begins name reply begun
    pub leads : Leads begun h m

  -- a trace, and one call more: with the input i, and the result r
  pub record More (name : List ℕ) (h : List Made) (m : d.Memory) (i : d.Input) (r : d.Result) : Type 0 where
    pub trace : Trace name h m
    pub typed : d.Typed i
    pub allowed : d.Allowed m i r

  -- a point of a trace: the calls h were made before it, and then the calls g, which led to the memory m
  pub record Point (name : List ℕ) (h g : List Made) (m : d.Memory) : Type 0 where
    pub here : d.Memory
    pub before : Trace name h here
    pub behind : Leads here g m

  abbrev pub inputs : List Made → List d.Input
  inputs h = map (λ x. x.input) h

  -- ## "every call takes every input and ends"

  -- the call's contract allows a result
  pub record Answerable (m : d.Memory) (i : d.Input) : Type 0 where
    pub result : d.Result
    pub allowed : d.Allowed m i result

  -- fresh was called with the name and the calls with the inputs were made, in their order
  pub record Run (name : List ℕ) (is : List d.Input) : Type 0 where
    pub course : List Made
    pub memory : d.Memory
    pub trace : Trace name course memory
    pub same : inputs course ≡ is
