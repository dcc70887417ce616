-- Demand 3: what one record tells of a session, of every kind of record, results and flags to their highest bits. From the demand's own
-- words and 02, by hand: a record of another kind, or with a number of which some bits are right, tells nothing. Assumes nothing.
use Rattle.std.specs.Prelude.{◌≡◌, refl, true, false, List, [], ◌∷◌, map, ℕ, replicate}
use Rattle.rules.specs.declared.Cue.TheVariants.{At, Timeless, Silent, Bad}
use Rattle.rules.specs.declared.Link.TheVariants.{Opened, Initialised}
use Rattle.rules.specs.Bytes.{padded}
use Rattle.rules.specs.State.{Splicer, with_link}
use Rattle.rules.specs.Records.{Record, General, InitResponse, AliveResponse, SpliceResponse, SpliceComplete, AbortResponse, CueRequest}
use Rattle.rules.specs.Records.{ExtendedFound, ExtendedNone, ConfigResponse}
use Rattle.rules.specs.HouseNumbers.{lending}
use Rattle.rules.specs.Calls.{fresh, messages}
use Rattle.demands.specs.History.{is_start, is_end, is_yes, unmarked}
use Rattle.demands.specs.Airing.{lists, says_played}
use Rattle.demands.specs.Kept.{is_initialising, state_in}
use Rattle.demands.specs.Lately.{is_an_end}
use Rattle.demands.specs.Told.{answers, is_out, checks, first_number, concerned}
use Rattle.cases.specs.Computing.{computing}

telling : ℕ
unfolding computing lists says_played is_initialising state_in is_an_end answers is_out checks first_number concerned
telling = 0

-- SpliceComplete and Splice_Response of number 9 of connection 0
out : (result flag : ℕ) → Record
out r f = SpliceComplete 0 r 9 f 70

said : ℕ → Record
said r = SpliceResponse 0 r 9

-- one of each other kind; whatever is 9 or 100 in it is no such number
others : List Record
others =
    General 0 100 ∷ InitResponse 0 103 [] ∷ AliveResponse 0 100 0 9 0 ∷ AbortResponse 0 100 9 ∷ CueRequest 0 0 0 []
    ∷ ExtendedFound 0 9 0 100 70
    ∷ ExtendedNone 0 9 ∷ ConfigResponse 0 100 [] [] [] ∷ []

-- "SpliceComplete flag 0, result 100"
starts : map (is_start 0 9) (out 100 0 ∷ out 100 128 ∷ out 100 256 ∷ out 99 0 ∷ out 228 0 ∷ out 356 0 ∷ said 100 ∷ [])
    ≡ true ∷ false ∷ false ∷ false ∷ false ∷ false ∷ false ∷ []
unfolding telling out said
starts = refl

-- "its SpliceComplete with flag 1, or its SpliceComplete with flag 0 and 109, or a Splice_Response 109 .. or 116"; 02: or 125
ends : map (is_end 0 9)
    (out 100 1 ∷ out 116 1 ∷ out 100 2 ∷ out 100 129 ∷ out 100 257 ∷ out 109 0 ∷ out 109 2 ∷ out 109 128 ∷ out 109 256 ∷ out 110 0
    ∷ out 237 0
    ∷ out 365 0 ∷ [])
    ≡ true ∷ true ∷ false ∷ false ∷ false ∷ true ∷ false ∷ false ∷ false ∷ false ∷ false ∷ false ∷ []
unfolding telling out
ends = refl

end-responses : map (λ r. is_end 0 9 (said r)) (109 ∷ 116 ∷ 125 ∷ 100 ∷ 112 ∷ 126 ∷ 237 ∷ 365 ∷ 244 ∷ 372 ∷ 253 ∷ 381 ∷ [])
    ≡ true ∷ true ∷ true ∷ false ∷ false ∷ false ∷ false ∷ false ∷ false ∷ false ∷ false ∷ false ∷ []
unfolding telling said
end-responses = refl

-- a Splice_Response 100, or one of a result
yes : map (λ r. is_yes 0 9 (said r)) (100 ∷ 99 ∷ 101 ∷ 228 ∷ 356 ∷ []) ≡ true ∷ false ∷ false ∷ false ∷ false ∷ []
unfolding telling said
yes = refl

answered : map (λ r. answers 100 0 9 (said r)) (100 ∷ 99 ∷ 101 ∷ 228 ∷ 356 ∷ []) ≡ true ∷ false ∷ false ∷ false ∷ false ∷ []
unfolding telling said
answered = refl

-- SpliceComplete flag 1 and its PlayedDuration
outs : map (is_out 0 9) (out 100 1 ∷ out 100 0 ∷ out 100 2 ∷ out 100 129 ∷ out 100 257 ∷ said 116 ∷ [])
    ≡ true ∷ false ∷ false ∷ false ∷ false ∷ false ∷ []
unfolding telling out said
outs = refl

listed : map lists (out 100 1 ∷ out 100 0 ∷ out 100 2 ∷ out 100 129 ∷ out 100 257 ∷ said 116 ∷ others)
    ≡ true ∷ replicate 13 false
unfolding telling out said others
listed = refl

played : map says_played (out 100 1 ∷ said 116 ∷ others) ≡ 70 ∷ replicate 9 0
unfolding telling out said others
played = refl

-- the end of whichever session
an-end : map is_an_end (out 100 1 ∷ said 116 ∷ said 100 ∷ others) ≡ true ∷ true ∷ replicate 9 false
unfolding telling out said others
an-end = refl

an-aliveness : is_an_end (AliveResponse 0 109 1 9 1) ∷ is_an_end (AliveResponse 0 116 1 9 1) ∷ [] ≡ false ∷ false ∷ []
unfolding telling
an-aliveness = refl

-- 256 starts are starts
many-starts : map (λ n. unmarked 0 (replicate n (out 100 0)) 9) (0 ∷ 1 ∷ 128 ∷ 256 ∷ []) ≡ true ∷ false ∷ false ∷ false ∷ []
unfolding telling out
many-starts = refl

-- 02, CR 6: "A later Init that gets 100"
inits : map (λ r. is_initialising (InitResponse 0 r [])) (100 ∷ 99 ∷ 102 ∷ 228 ∷ 356 ∷ []) ≡ true ∷ false ∷ false ∷ false ∷ false ∷ []
unfolding telling
inits = refl

no-inits : map is_initialising (General 0 100 ∷ General 0 0 ∷ out 100 0 ∷ said 100 ∷ others) ≡ replicate 12 false
unfolding telling out said others
no-inits = refl

-- the State of an Alive_Response that is the first record
states : map (λ r. state_in (r ∷ AliveResponse 0 100 2 9 0 ∷ [])) (AliveResponse 0 100 1 9 0 ∷ out 100 1 ∷ said 100 ∷ []) ≡ 1 ∷ 0 ∷ 0 ∷ []
unfolding telling out said
states = refl

no-states : map (λ r. state_in (r ∷ [])) (General 0 100 ∷ InitResponse 0 100 [] ∷ AbortResponse 0 100 9 ∷ CueRequest 0 1 1 []
    ∷ ExtendedFound 0 9 1 1 1
    ∷ ExtendedNone 0 9 ∷ ConfigResponse 0 100 [] [] [] ∷ []) ≡ replicate 7 0
unfolding telling
no-states = refl

-- 02, CR 7: "every initialised connection, from 0 upward": connections 0, 1 and 2 of which 1 is only open; then 3 and 1
some-links : Splicer → Splicer
some-links s = with_link 0 Initialised (with_link 1 Opened (with_link 2 Initialised s))

all-links : Splicer → Splicer
all-links s = with_link 0 Initialised (with_link 1 Initialised (with_link 2 Initialised (with_link 3 Initialised s)))

concern : map (λ x. concerned x (some-links (fresh (padded [])).splicer)) (At 5 ∷ Timeless ∷ Silent ∷ Bad ∷ [])
    ≡ (0 ∷ 2 ∷ []) ∷ (0 ∷ 2 ∷ []) ∷ [] ∷ (0 ∷ 2 ∷ []) ∷ []
unfolding telling some-links
concern = refl

concern-all : map (λ x. concerned x (all-links (fresh (padded [])).splicer)) (At 5 ∷ Timeless ∷ Silent ∷ Bad ∷ [])
    ≡ (0 ∷ 1 ∷ 2 ∷ 3 ∷ []) ∷ (0 ∷ 1 ∷ 2 ∷ 3 ∷ []) ∷ [] ∷ (0 ∷ 1 ∷ 2 ∷ 3 ∷ []) ∷ []
unfolding telling all-links
concern-all = refl

-- "message 1, 2, 7, 5 (header), 4, 5 (body)": of 128 and 256 bytes the header is there
long-enough : map (λ n. first_number (checks (messages 0 (replicate n 0) (lending 4096)) (all-links (fresh (padded [])).splicer)))
    (7 ∷ 8 ∷ 128 ∷ 256 ∷ []) ≡ 5 ∷ 0 ∷ 0 ∷ 0 ∷ []
unfolding telling all-links
long-enough = refl
