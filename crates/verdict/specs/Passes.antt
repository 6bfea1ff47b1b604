-- The condition that the grant rule decides, for every t and with no horizon.
use Rattle.std.specs.Prelude.{ℕ, ◌≤◌, List}
use Rattle.traffic.specs.Curves.{Numbers}
use Rattle.verdict.specs.Demand.{works, curves}
use Rattle.verdict.specs.Points.{Fits}

-- the channels pass under the blocking term β
pub record Passes {K : Type 0} (m : K → Numbers) (β : ℕ → ℕ) (ks : List K) : Type 0 where
  -- they ask for at most a frame in each frame
  pub works_fit : works m ks ≤ 5040
  -- at every t, what can be due within t fits with the blocking term
  pub demand_fits : (t : ℕ) → Fits β (curves m ks) t
