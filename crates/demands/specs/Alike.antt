-- Of two histories: that their answers tell the same.
use Rattle.std.specs.Prelude.{◌≡◌, List, [], ℕ}
use Rattle.demands.specs.History.{Event, waiting_count, book, clock_after}
use Rattle.demands.specs.Airing.{airings}
use Rattle.demands.specs.Told.{started_told}
use Rattle.demands.specs.Lately.{ends_told}
use Rattle.demands.specs.Kept.{kept_told}

-- what the answers of g tell is what those of h tell: each connection's waiting sessions, the book, the clock, what has started, and so who
-- owned each
-- ninth (02, CR 13), what has ended (CR 8) and what each connection keeps (CR 6)
pub record Alike (h g : List Event) : Type 0 where
  pub waiting : (c : ℕ) → waiting_count c g ≡ waiting_count c h
  pub book : book g [] ≡ book h []
  pub clock : clock_after g 0 ≡ clock_after h 0
  pub started : (c x : ℕ) → started_told c x g 0 ≡ started_told c x h 0
  pub aired : airings g 0 [] ≡ airings h 0 []
  pub ended : ends_told g ≡ ends_told h
  pub kept : (c : ℕ) → kept_told c g ≡ kept_told c h
