-- The requests that the demands' statements speak of (demands' Told), from their bytes: which asks for a splice, which inquires what has
-- ended, and which does not; what an answer finds among what is kept. Worked by hand from 01 and 02. Assumes nothing.
use Rattle.std.specs.Prelude.{◌≡◌, refl, false, true, List, [], ◌∷◌, ◌++◌, ℕ, zero, suc, ◌<◌, replicate, get_or, Err, Ok, Result}
use Rattle.std.proofs.Common.{ap, arith, lit<}
use Rattle.rules.specs.declared.Link.TheVariants.{Closed, Opened, Initialised}
use Rattle.rules.specs.declared.Message.{Message}
use Rattle.rules.specs.declared.Message.TheVariants.{Init, Alive, Splice, Abort, Config, Extended}
use Rattle.rules.specs.declared.Past.{Past}
use Rattle.rules.specs.declared.Request.{Request}
use Rattle.rules.specs.declared.Start.{Start}
use Rattle.rules.specs.declared.Start.TheVariants.{Timed, Linked}
use Rattle.rules.specs.State.{Splicer}
use Rattle.rules.specs.Recent.{none_held, unused}
use Rattle.rules.specs.Answers.{is_past}
use Rattle.rules.specs.Records.{Record, General, InitResponse, AliveResponse, SpliceResponse, SpliceComplete, AbortResponse, ConfigResponse}
use Rattle.rules.specs.Records.{ExtendedFound, ExtendedNone, CueRequest}
use Rattle.rules.specs.Follows.ReadBack.{records_in}
use Rattle.rules.specs.HouseNumbers.{Loans, lending, lending_maps}
use Rattle.demands.specs.Told.{Asks, Inquires, Finds}
use Rattle.cases.specs.Scenario.{hex}
use Rattle.cases.specs.Computing.{computing}
use Rattle.cases.specs.Heard.{each, small, unlike, unordered, not-true, not-false}
use Rattle.rules.specs.declared.Header.{Header}
use Rattle.rules.specs.declared.Refusal.{Refusal}
use Rattle.std.specs.Prelude.{None, Option, Some}

-- connection 0 is initialised, 1 open, 2 and 3 closed
now : Splicer
now =
    record {
      name = hex "434831";
      clock = 0;
      primary = 0;
      links = Initialised ∷ Opened ∷ Closed ∷ Closed ∷ [];
      hardware = [];
      queue = none_held;
    }

lent : Loans
lent = lending 4096

-- sections of 1,024 bytes, and of 1,025
most : List ℕ
most = replicate 1024 0x47

long : List ℕ
long = replicate 1025 0x47

-- a message's MessageID, 1 more; 0 where it is none
id_of : Result Header Refusal → ℕ
id_of (Ok h) = suc h.id
id_of (Err n) = 0

-- ## Splice_Requests

-- SessionID 7, timed, 10 s and 5 µs, ServiceID 1, Duration 3, SpliceEventID 9, PostBlack 0, AccessType 4, OverridePlaying 1,
-- ReturnToPriorChannel 0; a muxpriority_descriptor with 8: 33 + 7 = 0x28 bytes
asked : List ℕ
asked = hex "0007 0028 FFFF FFFF 00000007 FFFFFFFF 0000000A 00000005 0001 00000003 00000009 00000000 04 01 00 02 05 53415049 08"

-- number 7 with a start, a Duration of 3, AccessType 4 and OverridePlaying 1, a SpliceEventID and what it asks of the multiplexer
read : Start → (event mux : ℕ) → Request
read t e m = record { id = 7; start = t; duration = record { 0 = 3 }; event = e; access = 4; overrides = 1; mux = m }

-- 10,000,005 µs
request : ℕ → Request
request event = read (Timed (record { 0 = 10000005 })) event 8

-- and behind number 6, without a descriptor, a MessageID of the next message behind it
linked : List ℕ
linked = hex "0007 0021 FFFF FFFF 00000007 00000006 0000000A 00000005 0001 00000003 00000009 00000000 04 01 00 0005"

asks : Asks 0 asked lent (request 9) now
unfolding now lent asked read request computing each
asks = record { bytes = (small asked tt, tt, tt); low = refl; roomy = refl; sections = refl; ready = refl; framed = refl; readable = refl }

asks-linked : Asks 0 linked (lending_maps most most 4096) (read (Linked 6) 9 5) now
unfolding now most read linked computing each
asks-linked =
    record {
      bytes = (small linked tt, small most tt, small most tt);
      low = refl;
      roomy = refl;
      sections = refl;
      ready = refl;
      framed = refl;
      readable = refl;
    }

-- the SpliceEventID that was read, 1 more; 0 where no request was
event_of : Option Message → ℕ
event_of (Some (Init revision)) = 0
event_of (Some Alive) = 0
event_of (Some (Splice r)) = suc r.event
event_of (Some (Abort x)) = 0
event_of (Some Config) = 0
event_of (Some (Extended x)) = 0
event_of None = 0

-- Duration 0: not readable; the bytes of an Alive_Request; cut
bad : List ℕ
bad = hex "0007 0021 FFFF FFFF 00000007 FFFFFFFF 0000000A 00000005 0001 00000000 00000009 00000000 04 01 00"

alive : List ℕ
alive = hex "0005 0008 FFFF FFFF 00000000 00000000"

cut : List ℕ
cut = hex "0007 0021 FFFF FFFF 00000007 FFFFFFFF 0000000A 00000005 0001 00000003 00000009 00000000 04 01"

-- not: another connection than 0 to 3, a short buffer, a long section, not initialised, another message, a cut one, one that is not
-- readable, one that is read otherwise, no bytes
asks-not : (Asks 4 asked lent (request 9) now → ⊥) × (Asks 0 asked (lending 4095) (request 9) now → ⊥)
    × (Asks 0 asked (lending_maps long [] 4096) (request 9) now → ⊥) × (Asks 0 asked (lending_maps [] long 4096) (request 9) now → ⊥)
    × (Asks 1 asked lent (request 9) now → ⊥) × (Asks 2 asked lent (request 9) now → ⊥)
    × (Asks 0 alive lent (request 9) now → ⊥) × (Asks 0 cut lent (request 9) now → ⊥)
    × (Asks 0 bad lent (request 9) now → ⊥) × (Asks 0 asked lent (request 8) now → ⊥)
    × (Asks 0 (asked ++ (256 ∷ [])) (lending_maps (256 ∷ []) (256 ∷ []) 4096) (request 9) now → ⊥)
unfolding now lent long asked read request alive bad cut id_of event_of computing
asks-not = (
  λ a. not-false true tt a.low,
  λ a. not-false true tt a.roomy,
  λ a. not-false true tt a.sections,
  λ a. not-false true tt a.sections,
  λ a. not-true false tt a.ready,
  λ a. not-true false tt a.ready,
  λ a. unlike 6 8 tt (ap id_of a.framed),
  λ a. unlike 0 8 tt (ap id_of a.framed),
  λ a. unlike 0 10 tt (ap event_of a.readable),
  λ a. unlike 10 9 tt (ap event_of a.readable),
  λ a. unordered 257 256 tt a.bytes.1.0,
)

-- ## ExtendedData_Requests

-- SessionID 7, the default type; another type; another size
inquiry : List ℕ
inquiry = hex "0003 0008 FFFF FFFF 00000007 FFFFFFFF"

inquires : Inquires 0 inquiry lent 7 now
unfolding now lent inquiry computing each
inquires =
    record { wired = (small inquiry tt, tt, tt); low = refl; roomy = refl; short = refl; ready = refl; framed = refl; readable = refl }

-- the SessionID that was read, 1 more
sought_in : Option Message → ℕ
sought_in (Some (Init revision)) = 0
sought_in (Some Alive) = 0
sought_in (Some (Splice r)) = 0
sought_in (Some (Abort x)) = 0
sought_in (Some Config) = 0
sought_in (Some (Extended x)) = suc x
sought_in None = 0

inquires-not : (Inquires 4 inquiry lent 7 now → ⊥) × (Inquires 0 inquiry (lending 4095) 7 now → ⊥)
    × (Inquires 0 inquiry (lending_maps long [] 4096) 7 now → ⊥) × (Inquires 0 inquiry (lending_maps [] long 4096) 7 now → ⊥)
    × (Inquires 1 inquiry lent 7 now → ⊥) × (Inquires 0 alive lent 7 now → ⊥)
    × (Inquires 0 (hex "0003 0008 FFFF FFFF 00000007 00000001") lent 7 now → ⊥)
    × (Inquires 0 (hex "0003 0009 FFFF FFFF 00000007 FFFFFFFF 00") lent 7 now → ⊥)
    × (Inquires 0 inquiry lent 8 now → ⊥) × (Inquires 0 inquiry (lending_maps (256 ∷ []) (256 ∷ []) 4096) 7 now → ⊥)
unfolding now lent long inquiry alive id_of sought_in computing
inquires-not = (
  λ a. not-false true tt a.low,
  λ a. not-false true tt a.roomy,
  λ a. not-false true tt a.short,
  λ a. not-false true tt a.short,
  λ a. not-true false tt a.ready,
  λ a. unlike 6 4 tt (ap id_of a.framed),
  λ a. unlike 0 8 tt (ap sought_in a.readable),
  λ a. unlike 0 8 tt (ap sought_in a.readable),
  λ a. unlike 8 9 tt (ap sought_in a.readable),
  λ a. unordered 257 256 tt a.wired.1.0,
)

-- ## What is found

past : (conn id event result played : ℕ) → Past
past c x e r p = record { conn = c; id = x; event = e; result = r; played = p }

-- the newest first: another connection's 7, then 0's 7 twice, then a place where none is kept
kept : List Past
kept = past 1 7 0x33 100 5 ∷ past 0 7 0x22 116 3 ∷ past 0 7 0x11 100 1 ∷ unused ∷ []

-- 1 more than the SpliceEventID that the first record tells; 0 where it tells none
event_in : List Record → ℕ
event_in [] = 0
event_in (General c r ∷ rs) = 0
event_in (InitResponse c r n ∷ rs) = 0
event_in (AliveResponse c r state x t ∷ rs) = 0
event_in (SpliceResponse c r x ∷ rs) = 0
event_in (SpliceComplete c r x flag played ∷ rs) = 0
event_in (AbortResponse c r x ∷ rs) = 0
event_in (ConfigResponse c r n h m ∷ rs) = 0
event_in (ExtendedFound c x event ended played ∷ rs) = suc event
event_in (ExtendedNone c x ∷ rs) = 0
event_in (CueRequest c a u l ∷ rs) = 0

-- "the asking connection's latest ended session of that number": 0's second place, 0x22
latest : List ℕ
latest = hex "5200 0004 0014 0064 FFFF 00000007 01 0E 43415244 00000022 0074 00000003"

older : List ℕ
older = hex "5200 0004 0014 0064 FFFF 00000007 01 0E 43415244 00000011 0064 00000001"

-- "121 with the SessionID alone where none is kept"
none : List ℕ
none = hex "5200 0004 0004 0079 FFFF 00000007"

-- the first place that has it is the second
first : (i : ℕ) → i < 4 → is_past 0 7 (get_or kept i unused) ≡ true → ((j : ℕ) → j < i → is_past 0 7 (get_or kept j unused) ≡ false) →
    let e = get_or kept i unused in
    records_in latest ≡ ExtendedFound 0 7 e.event e.result e.played ∷ []
unfolding past kept latest computing
first zero l p f = absurd (not-true false tt p)
first (suc zero) l p f = refl
first (suc (suc i)) l p f = absurd (not-false true tt (f 1 (omega arith)))

finds : Finds 0 7 kept latest
unfolding past kept latest event_in computing
finds =
    record {
      found = first;
      none = λ e. absurd (not-false true tt e);
      only = λ e. absurd (unlike 0x23 0 tt (ap event_in e));
    }

-- of 0's 8 none is kept; nor of number 0, which the place where none is kept shows
none-8 : (i : ℕ) → i < 4 → is_past 0 8 (get_or kept i unused) ≡ true → ⊥
unfolding past kept
none-8 zero l p = not-true false tt p
none-8 (suc zero) l p = not-true false tt p
none-8 (suc (suc zero)) l p = not-true false tt p
none-8 (suc (suc (suc zero))) l p = not-true false tt p
none-8 (suc (suc (suc (suc i)))) l p = omega arith

none-0 : (i : ℕ) → i < 4 → is_past 0 0 (get_or kept i unused) ≡ true → ⊥
unfolding past kept
none-0 zero l p = not-true false tt p
none-0 (suc zero) l p = not-true false tt p
none-0 (suc (suc zero)) l p = not-true false tt p
none-0 (suc (suc (suc zero))) l p = not-true false tt p
none-0 (suc (suc (suc (suc i)))) l p = omega arith

finds-none : Finds 0 8 kept (hex "5200 0004 0004 0079 FFFF 00000008") × Finds 0 0 kept (hex "5200 0004 0004 0079 FFFF 00000000")
unfolding past kept computing
finds-none = (
  record { found = λ i l p f. absurd (none-8 i l p); none = λ e. refl; only = λ e. refl },
  record { found = λ i l p f. absurd (none-0 i l p); none = λ e. refl; only = λ e. refl },
)

-- the places before the second
before : (j : ℕ) → j < 1 → is_past 0 7 (get_or kept j unused) ≡ false
unfolding past kept
before zero l = refl
before (suc j) l = absurd (omega arith)

-- not: an older one, or 121 where one is kept, by what is to be found and by what 121 says; nor another's where none is kept
finds-not : (Finds 0 7 kept older → ⊥) × (Finds 0 7 kept none → ⊥) × (Finds 0 7 kept none → ⊥)
    × (Finds 0 7 (past 1 7 0x33 100 5 ∷ []) latest → ⊥)
unfolding past kept latest older none event_in computing
finds-not = (
  λ f. unlike 0x12 0x23 tt (ap event_in (f.found 1 (lit< tt) refl before)),
  λ f. unlike 0 0x23 tt (ap event_in (f.found 1 (lit< tt) refl before)),
  λ f. not-false true tt (f.only refl),
  λ f. unlike 0x23 0 tt (ap event_in (f.none refl)),
)
