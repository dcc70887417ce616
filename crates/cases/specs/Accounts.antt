-- Demands: the accounts that are kept from calls and answers, entry by entry, with every number of an entry another one; each row is for a
-- reading that takes one number for its neighbour, or changes what it should keep. By hand, from the comments of each. Assumes nothing.
use Rattle.std.specs.Prelude.{◌≡◌, refl, Bool, true, false, List, [], ◌∷◌, map, ℕ, replicate, None, Option, Some}
use Rattle.std.proofs.Common.{ap}
use Rattle.rules.specs.declared.Start.TheVariants.{Linked}
use Rattle.rules.specs.declared.Message.{Message}
use Rattle.rules.specs.declared.Message.TheVariants.{Init, Alive, Splice, Abort, Config, Extended}
use Rattle.rules.specs.Records.{Record, General, InitResponse, AliveResponse, SpliceResponse, SpliceComplete, AbortResponse, CueRequest}
use Rattle.rules.specs.Records.{ExtendedFound, ExtendedNone, ConfigResponse}
use Rattle.rules.specs.Calls.{closes}
use Rattle.rules.specs.Recent.{unused}
use Rattle.demands.specs.History.{Entry, with_ends, with_closed, end_told, mux_told, event_told, prior_told, overrides_told}
use Rattle.demands.specs.History.{wait_after, end_asked, mux_asked, event_asked, prior_asked, overrides_asked}
use Rattle.demands.specs.Airing.{Airing, newest, begins, by_then, airing_asked, granted, peak_at, top_at, airings_told}
use Rattle.demands.specs.Lately.{Told, told_in, ended_once, KeptAs}
use Rattle.demands.specs.Told.{unended}
use Rattle.cases.specs.Computing.{computing}
use Rattle.cases.specs.Heard.{unlike}

account : ℕ
unfolding computing told_in
account = 0

-- ## The book

entry : (ends : ℕ) → Bool → Entry
entry n b = record { conn = 1; id = 2; end = 3; mux = 4; event = 5; prior = 6; overrides = 7; ends = n; closed = b }

-- an end of number 2 of connection 1 counts, another one does not
ended : map (λ r. with_ends (r ∷ []) (entry 8 false)) (SpliceComplete 1 100 2 1 0 ∷ SpliceComplete 1 100 3 1 0
    ∷ SpliceComplete 1 100 2 0 0 ∷ [])
    ≡ entry 9 false ∷ entry 8 false ∷ entry 8 false ∷ []
unfolding account entry
ended = refl

-- "or its connection closes": once closed it stays so; a lower or higher connection's close is another's
shut : with_closed 1 (entry 8 false) ∷ with_closed 0 (entry 8 false) ∷ with_closed 2 (entry 8 false) ∷ with_closed 2 (entry 8 true) ∷ []
    ≡ entry 8 true ∷ entry 8 false ∷ entry 8 false ∷ entry 8 true ∷ []
unfolding account entry
shut = refl

told : map (λ f. f 1 2 (entry 8 false ∷ [])) (end_told ∷ mux_told ∷ event_told ∷ prior_told ∷ overrides_told ∷ []) ≡ 3 ∷ 4 ∷ 5 ∷ 6 ∷ 7 ∷ []
unfolding account entry
told = refl

-- where none was accepted
none_told : map (λ f. f 1 9 (entry 8 false ∷ [])) (end_told ∷ mux_told ∷ event_told ∷ prior_told ∷ overrides_told ∷ []) ≡ replicate 5 0
unfolding account entry
none_told = refl

-- ends of which some bits say 0 or 1
unended-ones : map (λ n. unended 1 2 (entry n false ∷ [])) (0 ∷ 1 ∷ 128 ∷ 256 ∷ []) ≡ 1 ∷ 0 ∷ 0 ∷ 0 ∷ []
unfolding account entry
unended-ones = refl

ended-once : map (λ n. ended_once 1 2 (entry n false ∷ [])) (0 ∷ 1 ∷ 2 ∷ 129 ∷ 257 ∷ []) ≡ 0 ∷ 1 ∷ 0 ∷ 0 ∷ 0 ∷ []
unfolding account entry
ended-once = refl

-- "less those whose start or end was written": a close that writes none of it leaves it
left-waiting : wait_after 0 (closes 0 4096) [] (9 ∷ []) ∷ wait_after 0 (closes 0 4096) (SpliceResponse 0 116 9 ∷ []) (9 ∷ []) ∷ [] ≡ (9
    ∷ []) ∷ [] ∷ []
unfolding account
left-waiting = refl

-- ## What a message asks: a Splice_Request alone asks anything

request : Option Message
request =
    Some (Splice (record { id = 2; start = Linked 6; duration = record { 0 = 7 }; event = 5; access = 3; overrides = 1; mux = 4 }))

messages : List (Option Message)
messages = Some (Init 9) ∷ Some Alive ∷ request ∷ Some (Abort 9) ∷ Some (Extended 9) ∷ Some Config ∷ None ∷ []

asked : map mux_asked messages ∷ map event_asked messages ∷ map prior_asked messages ∷ map overrides_asked messages ∷ []
    ≡ (0 ∷ 0 ∷ 4 ∷ 0 ∷ 0 ∷ 0 ∷ 0 ∷ []) ∷ (0 ∷ 0 ∷ 5 ∷ 0 ∷ 0 ∷ 0 ∷ 0 ∷ []) ∷ (0 ∷ 0 ∷ 6 ∷ 0 ∷ 0 ∷ 0 ∷ 0 ∷ [])
    ∷ (0 ∷ 0 ∷ 1 ∷ 0 ∷ 0 ∷ 0 ∷ 0 ∷ []) ∷ []
unfolding account request messages
asked = refl

-- "End is start plus Duration": 3, the end of number 2, and 700 ninths
behind : Option Message
behind =
    Some (Splice (record { id = 9; start = Linked 2; duration = record { 0 = 7 }; event = 5; access = 3; overrides = 1; mux = 4 }))

ends_asked : map (λ m. end_asked 1 m (entry 0 false ∷ []))
    (Some (Init 9) ∷ Some Alive ∷ behind ∷ Some (Abort 9) ∷ Some (Extended 9) ∷ Some Config ∷ None ∷ [])
    ≡ 0 ∷ 0 ∷ 703 ∷ 0 ∷ 0 ∷ 0 ∷ 0 ∷ []
unfolding account entry behind
ends_asked = refl

-- ## 02, CR 13: sessions as calls and answers tell them

airing : (access : ℕ) (begun over listed : Bool) → Airing
airing a b o l = record { conn = 1; id = 2; access = a; start = 4; end = 500; begun = b; over = o; to = 6; listed = l; said = 7 }

begun : map begins (airing 3 false true false ∷ airing 3 false false true ∷ []) ≡ airing 3 true true false ∷ airing 3 true false true ∷ []
unfolding account airing
begun = refl

nobody : newest 1 9 (airing 3 false false false ∷ [])
    ≡ record { conn = 0; id = 0; access = 0; start = 0; end = 0; begun = false; over = true; to = 0; listed = false; said = 0 }
unfolding account airing
nobody = refl

airings-asked : map (λ m. airing_asked 1 8 m (airing 3 true false false ∷ []))
    (Some (Init 9) ∷ Some Alive ∷ behind ∷ Some (Abort 9) ∷ Some (Extended 9) ∷ Some Config ∷ None ∷ [])
    ≡ granted 1 8 0 0 0 ∷ granted 1 8 0 0 0 ∷ granted 1 8 3 500 1200 ∷ granted 1 8 0 0 0 ∷ granted 1 8 0 0 0 ∷ granted 1 8 0 0 0
    ∷ granted 1 8 0 0 0 ∷ []
unfolding account airing behind
airings-asked = refl

-- "the start of the first session with a flag 0 among them, or u": behind a record of each kind, as the next one and as the last
start : Record
start = SpliceComplete 1 100 2 0 0

kinds : List Record
kinds =
    General 0 100 ∷ InitResponse 0 100 [] ∷ AliveResponse 0 100 1 2 3 ∷ SpliceResponse 0 100 2 ∷ SpliceComplete 0 100 2 1 0
    ∷ AbortResponse 0 100 2
    ∷ CueRequest 0 1 2 [] ∷ ExtendedFound 0 2 3 4 5 ∷ ExtendedNone 0 2 ∷ ConfigResponse 0 100 [] [] [] ∷ []

next_start : map (λ r. by_then 99 (airing 3 true false false ∷ []) (r ∷ start ∷ [])) kinds ≡ replicate 10 4
unfolding account airing start kinds
next_start = refl

no_start : map (λ r. by_then 99 (airing 3 true false false ∷ []) (r ∷ [])) kinds ≡ replicate 10 99
unfolding account airing kinds
no_start = refl

-- flags of which some bits say 0
no_flag : map (λ f. by_then 99 (airing 3 true false false ∷ []) (SpliceComplete 1 100 2 f 0 ∷ [])) (0 ∷ 1 ∷ 128 ∷ 256 ∷ []) ≡ 4 ∷ 99 ∷ 99
    ∷ 99 ∷ []
unfolding account airing
no_flag = refl

-- "the highest AccessType of those started and unended"; nobody, no peak
peaks : map (peak_at 5) ([] ∷ (airing 0 true false false ∷ []) ∷ (airing 9 false false false ∷ []) ∷ (airing 3 true false false
    ∷ airing 7 true false false ∷ []) ∷ [])
    ≡ 0 ∷ 1 ∷ 0 ∷ 8 ∷ []
unfolding account airing
peaks = refl

tops : map (top_at 5 (airing 3 true false false ∷ airing 7 true false false ∷ []))
    (airing 3 true false false ∷ airing 7 true false false ∷ airing 8 true false false ∷ airing 7 false false false ∷ []) ≡ false ∷ true
    ∷ false ∷ false ∷ []
unfolding account airing
tops = refl

-- from fresh on nobody is accepted, and nothing has ended
from-fresh : airings_told [] ≡ []
unfolding account
from-fresh = refl

-- ## 02, CR 8: what the record of an end tells: SpliceEventID from the book, 250 ninths on air are 2 ticks

tells : (id event result played : ℕ) → Told
tells x v r d = record { conn = 1; id = x; event = v; result = r; played = d }

told-in : map (told_in (entry 0 false ∷ []) (λ c x. 250))
    (SpliceResponse 1 116 2 ∷ SpliceComplete 1 109 2 1 70 ∷ AbortResponse 1 100 2 ∷ AliveResponse 1 100 1 2 3 ∷ General 1 103
    ∷ InitResponse 1 104 []
    ∷ CueRequest 1 1 2 [] ∷ ConfigResponse 1 117 [] [] [] ∷ ExtendedFound 1 2 3 4 5 ∷ ExtendedNone 1 2 ∷ [])
    ≡ tells 2 5 116 2 ∷ tells 2 5 109 70 ∷ tells 2 5 100 0 ∷ tells 2 5 100 0 ∷ tells 0 0 103 0 ∷ tells 0 0 104 0
    ∷ tells 0 0 0 0 ∷ tells 0 0 117 0 ∷ tells 2 5 100 0 ∷ tells 2 5 121 0 ∷ []
unfolding account entry tells
told-in = refl

-- "where fewer are told, unused": each of them
kept-not : KeptAs (unused ∷ record { conn = 1; id = 2; event = 3; result = 109; played = 4 } ∷ []) [] → ⊥
kept-not h = unlike 109 0 tt (ap (λ e. e.result) h.1.0)

kept-none : KeptAs (unused ∷ unused ∷ []) []
kept-none = (refl, (refl, tt))
