-- What the theorems about the referee and the checker of 02, CR 14 speak of: what is found as the checker says it, and the entries before
-- an unknown mark.
use Rattle.std.specs.Prelude.{cond, List, [], ◌∷◌, eqb, None, Option, Some}
use Rattle.recording.specs.declared.Finding.{Finding}
use Rattle.recording.specs.declared.Finding.TheVariants.{Longer, Unknown, Differs}
use Rattle.recording.specs.Recording.{Item, made, wrote, cut, another}
use Rattle.follow.specs.Refereed.{a_call, a_mark, counted, Found}

-- a cut last entry is none
unfoldable pub finding_of : Found → Option Finding
finding_of f = cond (eqb f.kind a_call) (Some (Differs f.stand.bench.number)) (cond (eqb f.kind a_mark) (Some (Unknown f.stand.at)) None)

-- counted modulo 2^64
unfoldable pub counted_of : Option Finding → Option Finding
counted_of (Some Longer) = Some Longer
counted_of (Some (Unknown i)) = Some (Unknown (counted i))
counted_of (Some (Differs n)) = Some (Differs (counted n))
counted_of None = None

-- the entries before an unknown mark, as if the recording ended there
unfoldable pub known : List Item → List Item
known [] = []
known (made c ∷ es) = made c ∷ known es
known (wrote w ∷ es) = wrote w ∷ known es
known (cut l ∷ es) = cut l ∷ es
known (another l ∷ es) = []
