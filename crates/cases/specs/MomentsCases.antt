-- 02, CR 13: who owned each ninth of days written down by hand, from the bytes of requests and of answers; what demands' Moments says of
-- two points of a day, of two lists of sessions and of PlayedDurations, where it holds and where it does not. Assumes nothing.
use Rattle.std.specs.Prelude.{◌≡◌, refl, Bool, true, false, ◌&&◌, ◌||◌, List, [], ◌∷◌, ◌++◌, map, ℕ, ◌/◌, ◌≤◌, T, eqb, leb, take}
use Rattle.std.proofs.Common.{sym, ap, subst, ◌∙◌, le_of_eq, eqb→eq, lit≤}
use Rattle.std.proofs.Math.Dec.{eqb_refl}
use Rattle.rules.specs.declared.Refusal.TheVariants.{ClockBack}
use Rattle.rules.specs.Records.{SpliceComplete}
use Rattle.rules.specs.Calls.{closes, ticks}
use Rattle.demands.specs.History.{Event}
use Rattle.demands.specs.Told
use Rattle.demands.specs.Told.{is_out}
use Rattle.demands.specs.Airing.{Airing, airings_told, clock_told, primary_told, time_told, air_told, number_told}
use Rattle.demands.specs.Moments.{Gapless, Printed, Within, oldest, newer, stands, PlayedAs}
use Rattle.cases.specs.Computing.{computing}
use Rattle.cases.specs.Heard.{heard, spoken, silent, denied, till, says, splice, unlike, unordered, not-true}

-- what a history is computed with
unfoldable telling : ℕ
unfolding Told.is_out heard spoken silent denied till says splice computing
telling = 0

-- ## Days in ninths: a microsecond is 9, a tick 100. Starts as near as these no card accepts; they are told alike

-- a call with its answer; then the clock, the primary channel's time, that of all sessions, and each session's, the newest first
record Step : Type 0 where
  event : Event
  owned : List ℕ

step : Event → (clock primary air : ℕ) → (each : List ℕ) → Step
step e u p a ts = record { event = e; owned = u ∷ p ∷ a ∷ ts }

-- an equal one's start ends the one on air, that had been covered
equal : List Step
equal =
    -- connection 0's 1, AccessType 3, 4 ticks from 10 µs: 90 to 490; 1's 2, AccessType 5 with the flag, a tick from 20 µs: 180 to 280;
    -- 2's 3, AccessType 3 with the flag, a tick from 40 µs: 360 to 460
    step (heard (splice 0 "00000001 FFFFFFFF 00000000 0000000A" "00000004 00000000" "03 00") "5200 0008 0004 0064 FFFF 00000001")
    0 0 0 (0 ∷ [])
    ∷ step (heard (splice 1 "00000002 FFFFFFFF 00000000 00000014" "00000001 00000000" "05 01") "5201 0008 0004 0064 FFFF 00000002")
    0 0 0 (0 ∷ 0 ∷ [])
    ∷ step (heard (splice 2 "00000003 FFFFFFFF 00000000 00000028" "00000001 00000000" "03 01") "5202 0008 0004 0064 FFFF 00000003")
    0 0 0 (0 ∷ 0 ∷ 0 ∷ [])
    -- 1 starts at 90, 2 at 180
    ∷ step (spoken (till 200)
    ("5200 0009 000D 0064 FFFF 00000001 00 00000000 00000000"
    ∷ "5201 0009 000D 0064 FFFF 00000002 00 00000000 00000000" ∷ []))
    200 90 110 (0 ∷ 20 ∷ 90 ∷ [])
    -- 2 ends at 280; 3 ends 1 at 360 and starts: 90 + 80 ninths are a tick
    ∷ step (spoken (till 400)
    ("5201 0009 000D 0064 FFFF 00000002 01 00000000 00000001"
    ∷ "5200 0009 000D 007D FFFF 00000001 01 00000000 00000001"
    ∷ "5202 0009 000D 0064 FFFF 00000003 00 00000000 00000000" ∷ []))
    400 90 310 (40 ∷ 100 ∷ 170 ∷ [])
    -- 50 µs; then to the ninth of 3's end, and past it
    ∷ step (silent (ticks 0 50 4096)) 450 90 360 (90 ∷ 100 ∷ 170 ∷ [])
    ∷ step (heard (till 460) "5202 0009 000D 0064 FFFF 00000003 01 00000000 00000001") 460 90 370 (100 ∷ 100 ∷ 170 ∷ [])
    ∷ step (silent (till 500)) 500 130 370 (100 ∷ 100 ∷ 170 ∷ [])
    ∷ step (denied (till 499) ClockBack) 500 130 370 (100 ∷ 100 ∷ 170 ∷ [])
    -- 0's 1 again, from 100 µs
    ∷ step (heard (splice 0 "00000001 FFFFFFFF 00000000 00000064" "00000001 00000000" "03 00") "5200 0008 0004 0064 FFFF 00000001")
    500 130 370 (0 ∷ 100 ∷ 100 ∷ 170 ∷ [])
    ∷ []

-- the covered one ends at its time, its follower fails, and the one on air is aborted
covered : List Step
covered =
    -- 1, AccessType 3, 2 ticks from 10 µs: 90 to 290; 2, AccessType 5 with the flag, 3 ticks from 20 µs: 180 to 480; 3 behind 1: 290
    step (heard (splice 0 "00000001 FFFFFFFF 00000000 0000000A" "00000002 00000000" "03 00") "5200 0008 0004 0064 FFFF 00000001")
    0 0 0 (0 ∷ [])
    ∷ step (heard (splice 0 "00000002 FFFFFFFF 00000000 00000014" "00000003 00000000" "05 01") "5200 0008 0004 0064 FFFF 00000002")
    0 0 0 (0 ∷ 0 ∷ [])
    ∷ step (heard (splice 0 "00000003 00000001 00000000 00000000" "00000001 00000000" "01 00") "5200 0008 0004 0064 FFFF 00000003")
    0 0 0 (0 ∷ 0 ∷ 0 ∷ [])
    ∷ step (spoken (till 300)
    ("5200 0009 000D 0064 FFFF 00000001 00 00000000 00000000"
    ∷ "5200 0009 000D 0064 FFFF 00000002 00 00000000 00000000"
    ∷ "5200 0009 000D 007D FFFF 00000001 01 00000000 00000000"
    ∷ "5200 0009 000D 006D FFFF 00000003 00 00000000 00000000" ∷ []))
    300 90 210 (0 ∷ 120 ∷ 90 ∷ [])
    ∷ step (silent (till 350)) 350 90 260 (0 ∷ 170 ∷ 90 ∷ [])
    ∷ step (spoken (says 0 "000E 0004 FFFF FFFF 00000002")
    ("5200 000F 0004 0064 FFFF 00000002"
    ∷ "5200 0009 000D 0074 FFFF 00000002 01 00000000 00000001" ∷ []))
    350 90 260 (0 ∷ 170 ∷ 90 ∷ [])
    ∷ step (silent (till 400)) 400 140 260 (0 ∷ 170 ∷ 90 ∷ [])
    ∷ []

-- connections close: the covered one's, then the one's on air
closed : List Step
closed =
    -- 0's 1, AccessType 2, from 90; 1's 2, AccessType 4 with the flag, from 180: 9 ticks each
    step (heard (splice 0 "00000001 FFFFFFFF 00000000 0000000A" "00000009 00000000" "02 00") "5200 0008 0004 0064 FFFF 00000001")
    0 0 0 (0 ∷ [])
    ∷ step (heard (splice 1 "00000002 FFFFFFFF 00000000 00000014" "00000009 00000000" "04 01") "5201 0008 0004 0064 FFFF 00000002")
    0 0 0 (0 ∷ 0 ∷ [])
    ∷ step (spoken (till 250)
    ("5200 0009 000D 0064 FFFF 00000001 00 00000000 00000000"
    ∷ "5201 0009 000D 0064 FFFF 00000002 00 00000000 00000000" ∷ []))
    250 90 160 (70 ∷ 90 ∷ [])
    ∷ step (heard (closes 0 4096) "5200 0008 0004 0074 FFFF 00000001") 250 90 160 (70 ∷ 90 ∷ [])
    ∷ step (silent (till 300)) 300 90 210 (120 ∷ 90 ∷ [])
    ∷ step (heard (closes 1 4096) "5201 0009 000D 0074 FFFF 00000002 01 00000000 00000001") 300 90 210 (120 ∷ 90 ∷ [])
    ∷ step (silent (till 350)) 350 140 210 (120 ∷ 90 ∷ [])
    ∷ []

events : List Step → List Event
events l = map (λ s. s.event) l

-- the events up to and with each call
points : List Event → List Step → List (List Event)
points h [] = []
points h (s ∷ l) = let g = h ++ (s.event ∷ []) in g ∷ points g l

-- what is told at a point
owns : List Event → List ℕ
owns h = clock_told h ∷ primary_told h ∷ air_told h ∷ map (time_told h) (airings_told h)

owned-equal : map owns (points [] equal) ≡ map (λ s. s.owned) equal
unfolding step equal points owns telling
owned-equal = refl

owned-covered : map owns (points [] covered) ≡ map (λ s. s.owned) covered
unfolding step covered points owns telling
owned-covered = refl

owned-closed : map owns (points [] closed) ≡ map (λ s. s.owned) closed
unfolding step closed points owns telling
owned-closed = refl

-- "that of the session which connection c last accepted under the number x": 0's 1, before it is accepted again and after; 1's 2; nobody's
owned-numbers : map (λ h. number_told h 0 1) (events (take 9 equal) ∷ events equal ∷ []) ≡ 170 ∷ 0 ∷ []
unfolding step equal events telling
owned-numbers = refl

owned-by-conn : map (λ c. number_told (events equal) c 2) (0 ∷ 1 ∷ 2 ∷ []) ≡ 0 ∷ 100 ∷ 0 ∷ []
unfolding step equal events telling
owned-by-conn = refl

-- ## "Between any two points of any sequence of calls"

point : ℕ → List Event
point n = events (take n equal)

-- from the fourth call to the sixth, from fresh to the end, from the sixth over the third's end to the end, and from a point to itself
no_gap : Gapless (point 4) (point 6) × Gapless [] (point 10) × Gapless (point 6) (point 8) × Gapless (point 5) (point 5)
unfolding step equal events point telling
no_gap = (
  record { primary = lit≤ tt; air = lit≤ tt; clock = lit≤ tt; whole = refl },
  record { primary = lit≤ tt; air = lit≤ tt; clock = lit≤ tt; whole = refl },
  record { primary = lit≤ tt; air = lit≤ tt; clock = lit≤ tt; whole = refl },
  record { primary = lit≤ tt; air = lit≤ tt; clock = lit≤ tt; whole = refl },
)

-- 1 of connection 0, AccessType 3, 9 ticks, is accepted for 5 µs (45 ninths), or for 0, and has started by a time
solo : ℕ → List Event
solo t =
    heard (splice 0 "00000001 FFFFFFFF 00000000 00000005" "00000009 00000000" "03 00") "5200 0008 0004 0064 FFFF 00000001"
    ∷ heard (till t) "5200 0009 000D 0064 FFFF 00000001 00 00000000 00000000" ∷ []

soon : ℕ → List Event
soon t =
    heard (splice 0 "00000001 FFFFFFFF 00000000 00000000" "00000009 00000000" "03 00") "5200 0008 0004 0064 FFFF 00000001"
    ∷ heard (till t) "5200 0009 000D 0064 FFFF 00000001 00 00000000 00000000" ∷ []

-- and 2, as it: both own each ninth from then on, which no card lets be (CR 4)
twins : ℕ → List Event
twins t =
    heard (splice 0 "00000001 FFFFFFFF 00000000 00000005" "00000009 00000000" "03 00") "5200 0008 0004 0064 FFFF 00000001"
    ∷ heard (splice 0 "00000002 FFFFFFFF 00000000 00000005" "00000009 00000000" "03 00") "5200 0008 0004 0064 FFFF 00000002"
    ∷ heard (till t) "5200 0009 000D 0064 FFFF 00000001 00 00000000 00000000 5200 0009 000D 0064 FFFF 00000002 00 00000000 00000000" ∷ []

twins-soon : ℕ → List Event
twins-soon t =
    heard (splice 0 "00000001 FFFFFFFF 00000000 00000000" "00000009 00000000" "03 00") "5200 0008 0004 0064 FFFF 00000001"
    ∷ heard (splice 0 "00000002 FFFFFFFF 00000000 00000000" "00000009 00000000" "03 00") "5200 0008 0004 0064 FFFF 00000002"
    ∷ heard (till t) "5200 0009 000D 0064 FFFF 00000001 00 00000000 00000000 5200 0009 000D 0064 FFFF 00000002 00 00000000 00000000" ∷ []

-- clock, primary channel and sessions
three : List Event → List ℕ
three h = take 3 (owns h)

owned-twice : map three (solo 95 ∷ soon 190 ∷ twins 70 ∷ twins 90 ∷ twins-soon 50 ∷ []) ≡
    (95 ∷ 45 ∷ 50 ∷ []) ∷ (190 ∷ 0 ∷ 190 ∷ []) ∷ (70 ∷ 45 ∷ 50 ∷ []) ∷ (90 ∷ 45 ∷ 90 ∷ []) ∷ (50 ∷ 0 ∷ 100 ∷ []) ∷ []
unfolding solo soon twins twins-soon owns three telling
owned-twice = refl

-- a ninth with two owners: 45 + 90 are not 90. Then one each: the primary channel's time falls, the sessions' falls, the clock goes back
gaps : (Gapless [] (twins 90) → ⊥) × (Gapless (twins 90) (soon 190) → ⊥) × (Gapless (twins-soon 50) (solo 95) → ⊥)
    × (Gapless (solo 95) (twins 70) → ⊥)
unfolding solo soon twins twins-soon telling
gaps = (
  λ g. unlike 135 90 tt g.whole,
  λ g. unordered 45 0 tt g.primary,
  λ g. unordered 100 50 tt g.air,
  λ g. unordered 95 70 tt g.clock,
)

-- ## Lists printed one after the other

-- one that is over, with a time on air; and one that is not, with two
module _ (h g : List Event) where
  stays : (a : Airing) (n : ℕ) → time_told h a ≡ n → time_told g a ≡ n → Printed h g a a
  stays a n e f = record { conn = refl; id = refl; access = refl; grows = le_of_eq (e ∙ sym f); fixed = λ o. (refl, f ∙ sym e) }

  goes : (a b : Airing) (m n : ℕ) → b.conn ≡ a.conn → b.id ≡ a.id → b.access ≡ a.access → a.over ≡ false →
      time_told h a ≡ m → time_told g b ≡ n → T (leb m n) → Printed h g a b
  goes a b m n c x k u e f le =
      record {
        conn = c;
        id = x;
        access = k;
        grows = subst (λ j. j ≤ time_told g b) (sym e) (subst (λ j. m ≤ j) (sym f) (lit≤ le));
        fixed = λ o. absurd (not-true false tt (sym u ∙ o));
      }

-- of that day, 1 and 2 once they are over, 3 on air and once it is over
one : (conn id access said : ℕ) → Airing
one c x a d = record { conn = c; id = x; access = a; start = 90; end = 490; begun = true; over = true; to = 360; listed = true; said = d }

two : Airing
two = record { conn = 1; id = 2; access = 5; start = 180; end = 280; begun = true; over = true; to = 280; listed = true; said = 1 }

third : (over listed : Bool) → (to said : ℕ) → Airing
third o i t d = record { conn = 2; id = 3; access = 3; start = 360; end = 460; begun = true; over = o; to = t; listed = i; said = d }

last : Airing
last = record { conn = 0; id = 1; access = 3; start = 900; end = 1000; begun = false; over = false; to = 0; listed = false; said = 0 }

-- at the fifth call 3 is on air, 2 and 1 are over; at the end a newer one stands before them, and 3 is over
early : List Airing
early = third false false 0 0 ∷ two ∷ one 0 1 3 1 ∷ []

late : List Airing
late = last ∷ third true true 460 1 ∷ two ∷ one 0 1 3 1 ∷ []

told-early : airings_told (point 5) ≡ early
unfolding step equal events point one two third early telling
told-early = refl

told-late : airings_told (point 10) ≡ late
unfolding step equal events point one two third last late telling
told-late = refl

prints : Within (Printed (point 5) (point 10)) early late
unfolding step equal events point one two third last early late telling
prints =
    newer (stands (goes (point 5) (point 10) (third false false 0 0) (third true true 460 1) 40 100 refl refl refl refl refl refl tt)
    (stands (stays (point 5) (point 10) two 100 refl refl) (stands (stays (point 5) (point 10) (one 0 1 3 1) 170 refl refl) oldest)))

-- another connection, another number, another AccessType; a time that falls; one that was over, and another end of it or another time
printed-not : (Printed [] [] (one 0 1 3 1) (one 1 1 3 1) → ⊥) × (Printed [] [] (one 0 1 3 1) (one 0 2 3 1) → ⊥)
    × (Printed [] [] (one 0 1 3 1) (one 0 1 4 1) → ⊥) × (Printed (point 5) [] (one 0 1 3 1) (one 0 1 3 1) → ⊥)
    × (Printed [] [] (one 0 1 3 1) (one 0 1 3 2) → ⊥) × (Printed [] (point 5) (one 0 1 3 1) (one 0 1 3 1) → ⊥)
unfolding step equal events point one telling
printed-not = (
  λ p. unlike 1 0 tt p.conn,
  λ p. unlike 2 1 tt p.id,
  λ p. unlike 4 3 tt p.access,
  λ p. unordered 170 0 tt p.grows,
  λ p. unlike 2 1 tt (ap (λ (a : Airing). a.said) (p.fixed refl).0),
  λ p. unlike 170 0 tt (p.fixed refl).1,
)

-- the same number
Same : Airing → Airing → Type 0
Same a b = b.id ≡ a.id

-- whether the numbers of one list stand in another in their order
Fits : List Airing → List Airing → Bool
Fits [] [] = true
Fits [] (b ∷ m) = Fits [] m
Fits (a ∷ l) [] = false
Fits (a ∷ l) (b ∷ m) = Fits (a ∷ l) m || (eqb b.id a.id && Fits l m)

left : (p q : Bool) → T p → T (p || q)
left true q h = tt
left false q h = absurd h

right : (p q r : Bool) → T q → T r → T (p || (q && r))
right true q r h k = tt
right false true r h k = k
right false false r h k = absurd h

skips : (l : List Airing) (b : Airing) (m : List Airing) → T (Fits l m) → T (Fits l (b ∷ m))
unfolding Fits
skips [] b m h = h
skips (a ∷ l) b m h = left (Fits (a ∷ l) m) _ h

within-fits : {l m : List Airing} → Within Same l m → T (Fits l m)
unfolding Fits Same
within-fits oldest = tt
within-fits (newer {b = b} {l = l} {m = m} w) = skips l b m (within-fits w)
within-fits (stands {a = a} {b = b} {l = l} {m = m} r w) =
    right (Fits (a ∷ l) m) (eqb b.id a.id) (Fits l m) (subst (λ x. T (eqb b.id x)) r (eqb_refl b.id)) (within-fits w)

-- none missing, none another, and none in another order
within-not : (Within Same (one 0 1 3 1 ∷ []) [] → ⊥) × (Within Same (one 0 1 3 1 ∷ []) (one 0 2 3 1 ∷ []) → ⊥)
    × (Within Same (one 0 1 3 1 ∷ one 0 2 3 1 ∷ []) (one 0 2 3 1 ∷ one 0 1 3 1 ∷ []) → ⊥)
unfolding Fits one
within-not = (λ w. within-fits w, λ w. within-fits w, λ w. within-fits w)

-- ## "from which PlayedDuration is rounded"

both : (a b : Bool) → (a && b) ≡ true → T a × T b
both true b e = (tt, subst T (sym e) tt)
both false b e = absurd (not-true false tt e)

-- a SpliceComplete flag 1 speaks of its own connection and number alone
speaks : (h : List Event) (d r y n : ℕ) → n ≡ number_told h d y / 100 → (c x : ℕ) → is_out c x (SpliceComplete d r y 1 n) ≡ true
    → n ≡ number_told h c x / 100
unfolding Told.is_out
speaks h d r y n k c x e =
    let p = both (eqb c d) (eqb x y) e in
    subst (λ z. n ≡ number_told h z x / 100) (sym (eqb→eq c d p.0)) (subst (λ z. n ≡ number_told h d z / 100) (sym (eqb→eq x y p.1)) k)

-- the fifth call's records: 2's 100 ninths and 1's 170 are a tick each, and 3's start says nothing
played : PlayedAs (point 5) (SpliceComplete 1 100 2 1 1 ∷ SpliceComplete 0 125 1 1 1 ∷ SpliceComplete 2 100 3 0 0 ∷ [])
unfolding step equal events point telling
played c x = (speaks (point 5) 1 100 2 1 refl c x, (speaks (point 5) 0 125 1 1 refl c x, (λ e. absurd (not-true false tt e), tt)))

-- not 2 for 170 ninths, and not 0 for 100
played-not : (PlayedAs (point 5) (SpliceComplete 0 125 1 1 2 ∷ []) → ⊥) × (PlayedAs (point 5) (SpliceComplete 1 100 2 1 0 ∷ []) → ⊥)
unfolding step equal events point telling
played-not = (λ p. unlike 2 1 tt ((p 0 1).0 refl), λ p. unlike 0 1 tt ((p 1 2).0 refl))

-- 99 ninths on air are no tick: one session of 9 ticks from 90, the clock at 189
short : List Event
short =
    heard (splice 0 "00000001 FFFFFFFF 00000000 0000000A" "00000009 00000000" "02 00") "5200 0008 0004 0064 FFFF 00000001"
    ∷ heard (till 90) "5200 0009 000D 0064 FFFF 00000001 00 00000000 00000000" ∷ silent (till 189) ∷ []

no-tick : PlayedAs short (SpliceComplete 0 116 1 1 1 ∷ []) → ⊥
unfolding short telling
no-tick p = unlike 1 0 tt ((p 0 1).0 refl)
