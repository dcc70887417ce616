-- GetConfig: the Hardware_Config that stands in the log, in the record.
-- Rests on reading's law of an Init_Request that can be read.
use mathlib.Core.Path.{◌≡◌, refl, sym, ap, ap₂, subst, ◌∙◌}
use mathlib.Core.List.{List, map}
use Prim.Native.Nat.{ℕ, ◌+◌, ◌-◌, ◌≤◌}
use native.Mathlib.Omega.{arith}
use lib.ListN.{length, take, drop, get_or, length-take, length-drop, get_or-map}
use Rattle.std.specs.Prelude.{Option, None, Some}
use Rattle.rules.specs.Lists.{All}
use Rattle.rules.specs.Bytes.{name_in, padded, message_size, data_of}
use Rattle.rules.specs.Card.{card_name}
use Rattle.rules.specs.Hardware.{hardware_place, hardware_length, hardware_in, longest_hardware}
use Rattle.rules.specs.Reading.{bad_init}
use Rattle.rules.specs.State.{no_hardware}
use Rattle.rules.specs.Records.{Record, ConfigResponse}
use Rattle.rules.proofs.All.{at_all}
use Rattle.reading.proofs.Laws.{behind, hardware-fits}
use Rattle.writing.specs.Puts.{Puts}
use Rattle.recall_ends.proofs.Laws.{tells_first}
use Rattle.recall_answers.specs.Replies.{hardware_at, Placed, Says}
use Rattle.recall_answers.proofs.Laws.{card-name}

-- the connection's place, of them all
pub place_of : (l : List ℕ) (ps : List (Option ℕ)) (c : ℕ) → All (Placed l) ps → Placed l (get_or ps c None)
place_of l ps c a = at_all (Placed l) None ps (record { whole = tt; good = tt }) a c

-- an Init_Request stands at the place p
module _ (l : List ℕ) {p : ℕ} (w : Placed l (Some p)) where
  pub place-within : p ≤ length l
  place-within = omega (arith, w.whole)

  -- x: the log from there on
  module _ {x : List ℕ} (f : x ≡ take (length l - p) (drop p l)) where
    pub size_room : {k : ℕ} → k ≡ message_size x → 8 + k ≤ length x
    size_room {k} g =
        let e = f ∙ behind p l in
        omega (arith, w.whole, g ∙ ap message_size e, ap length e, length-drop p l)

    -- k: its MessageSize; d: its data
    module _ {k : ℕ} (g : k ≡ message_size x) {d : List ℕ} (i : d ≡ data_of k x) where
      data-there : d ≡ data_of (message_size (drop p l)) (drop p l)
      data-there =
          let e = f ∙ behind p l in
          i ∙ ap₂ data_of (g ∙ ap message_size e) e

      hardware-within : (2 + hardware_length d ≤ longest_hardware) × (68 + hardware_length d ≤ length d)
      hardware-within = hardware-fits d (ap bad_init data-there ∙ w.good)

      pub hardware-room : 68 + hardware_length d ≤ length d
      hardware-room = hardware-within.1

      -- y: its Hardware_Config
      pub hardware-short : {y : List ℕ} → y ≡ hardware_in d → length y ≤ longest_hardware
      hardware-short {y} j =
          omega (arith, ap length j, length-take (2 + hardware_length d) (drop hardware_place d), hardware-within.0)

      pub hardware-there : {y : List ℕ} → y ≡ hardware_in d → y ≡ hardware_at l (Some p)
      unfolding hardware_at
      hardware-there j = j ∙ ap hardware_in data-there

pub hardware-none : (l : List ℕ) → no_hardware ≡ hardware_at l None
unfolding hardware_at
hardware-none l = refl

-- x: the splicer's name; y: what the connection keeps, at the place p; z: the section; o: the buffer that held e
pub config-told : (c : ℕ) (l : List ℕ) (ps : List (Option ℕ)) {p : Option ℕ} {x y z e : List ℕ} {n : ℕ} {o : List ℕ} → x ≡ padded card_name
    → get_or ps c None ≡ p → y ≡ hardware_at l p →
    Puts (ConfigResponse c 100 (name_in x) y z) e n o
    → Says (ConfigResponse c 100 card_name (get_or (map (hardware_at l) ps) c no_hardware) z) e
    n o
unfolding hardware_at
config-told c l ps {p} {x} {y} {z} {e} {n} {o} rx rp ry w =
    let same : y ≡ get_or (map (hardware_at l) ps) c no_hardware = ry ∙ ap (hardware_at l) (sym rp)
    ∙ sym (get_or-map (hardware_at l) ps c None) in
    subst (λ (u : Record). Says u e n o) (ap₂ (λ (v u : List ℕ). ConfigResponse c 100 v u z) (card-name rx) same) (tells_first w)
