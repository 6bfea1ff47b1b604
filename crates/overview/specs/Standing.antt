-- Channels that stand together on a link.
use Rattle.std.specs.Prelude.{ℕ, Bool, List, length}
use Rattle.traffic.specs.Curves.{Numbers}
use Rattle.verdict.specs.Demand.{blocking}
use Rattle.verdict.specs.Judged.{Judgeable}
use Rattle.verdict.specs.Passes.{Passes}

-- at most 32 channels, each within its limits, that pass together under the longest packet p
pub record Stands {K : Type 0} (m : K → Numbers) (limits : K → ℕ → Bool) (p : ℕ) (ks : List K) : Type 0 where
  pub judged : Judgeable limits p (length ks) ks
  pub passes : Passes m (blocking p) ks
