-- What the verdict answers of a set of channels on a link whose longest packet has p slots.
use Rattle.std.specs.Prelude.{◌≡◌, ℕ, ◌<◌, ◌≤◌, Bool, true, List, Ok, Err, is_ok, Decides, Result}
use Rattle.std.specs.List.{AllByRecursion}
use Rattle.traffic.specs.Curves.{Numbers}
use Rattle.verdict.specs.Demand.{works, curves, horizon, blocking}
use Rattle.verdict.specs.Passes.{Passes}
use Rattle.verdict.specs.Points.{AllFit, FirstFailing}
use Rattle.verdict.specs.declared.Unfit.{Unfit}
use Rattle.verdict.specs.declared.Unfit.TheVariants.{OutsideLimits, Overloaded, Late}

-- p is 1 to 255, the channels come from a table of at most 32 rows and one more, and each keeps its limits under p
pub record Judgeable {K : Type 0} (limits : K → ℕ → Bool) (p rows : ℕ) (ks : List K) : Type 0 where
  pub least : 1 ≤ p
  pub most : p ≤ 255
  pub few : rows ≤ 32
  pub within : AllByRecursion (λ k. limits k p ≡ true) ks

module _ {K : Type 0} (m : K → Numbers) (limits : K → ℕ → Bool) (p rows : ℕ) (ks : List K) where
  -- granted: the works fit a frame and every point fits; refused: they do not, or a point is the first that does not
  abbrev pub Judged : Result ℕ Unfit → Type 0
  Judged (Err OutsideLimits) = Judgeable limits p rows ks → ⊥
  Judged (Err Overloaded) = Judgeable limits p rows ks × (5040 < works m ks)
  Judged (Err (Late point count)) = Judgeable limits p rows ks × (works m ks ≤ 5040) × FirstFailing (blocking p) (curves m ks) (horizon m ks) point count
  Judged (Ok count) = Judgeable limits p rows ks × (works m ks ≤ 5040) × AllFit (blocking p) (curves m ks) (horizon m ks) count

-- granted exactly where the channels may be judged and pass
abbrev pub Exact : {K : Type 0} → (K → Numbers) → (K → ℕ → Bool) → ℕ → ℕ → List K → Result ℕ Unfit → Type 0
Exact m limits p rows ks v = Decides (is_ok v) (Judgeable limits p rows ks × Passes m (blocking p) ks)
