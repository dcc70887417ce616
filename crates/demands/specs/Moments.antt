-- 02, CR 13: what its statements speak of, beside the times of Airing.
use Rattle.std.specs.Prelude.{◌≡◌, true, List, [], ◌∷◌, ℕ, ◌+◌, ◌-◌, ◌/◌, ◌≤◌}
use Rattle.rules.specs.Lists.{All}
use Rattle.rules.specs.Records.{Record}
use Rattle.demands.specs.History.{Event}
use Rattle.demands.specs.Told.{is_out}
use Rattle.demands.specs.Airing.{Airing, says_played, clock_told, primary_told, time_told, air_told, number_told}

-- "Between any two points of any sequence of calls, the growth of the time on the primary channel plus that of all sessions' time on air,
-- in
-- ninths, equals the clock's advance between them": a history h, and a later one g
pub record Gapless (h g : List Event) : Type 0 where
  pub primary : primary_told h ≤ primary_told g
  pub air : air_told h ≤ air_told g
  pub clock : clock_told h ≤ clock_told g
  pub whole : (primary_told g - primary_told h) + (air_told g - air_told h) ≡ clock_told g - clock_told h

-- a session a of a history h, and the same, b, in a later one g: its time never falls, and is fixed once its end is written
pub record Printed (h g : List Event) (a b : Airing) : Type 0 where
  pub conn : b.conn ≡ a.conn
  pub id : b.id ≡ a.id
  pub access : b.access ≡ a.access
  pub grows : time_told h a ≤ time_told g b
  pub fixed : a.over ≡ true → (b ≡ a) × (time_told g b ≡ time_told h a)

-- each of l stands in m, in its order, with newer ones between them
pub data Within (R : Airing → Airing → Type 0) : List Airing → List Airing → Type 0 where
  oldest : Within R [] []
  newer : {b : Airing} {l m : List Airing} → Within R l m → Within R l (b ∷ m)
  stands : {a b : Airing} {l m : List Airing} → R a b → Within R l m → Within R (a ∷ l) (b ∷ m)

-- "The sums that the engine itself keeps, from which PlayedDuration is rounded": each SpliceComplete flag 1 among the records rs has as
-- PlayedDuration the time that h tells of its session, "divided by 100, rounded down"
abbrev pub PlayedAs : List Event → List Record → Type 0
PlayedAs h rs = (c x : ℕ) → All (λ r. is_out c x r ≡ true → says_played r ≡ number_told h c x / 100) rs
