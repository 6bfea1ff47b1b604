-- The least allowance with which a channel passes beside those that count.
use Rattle.std.specs.Prelude.{◌≡◌, ℕ, ◌-◌, ◌<◌, ◌≤◌, Bool, ◌⊎◌, List, [], ◌∷◌, ◌++◌, Some, None, Ok, Err, Option, Result}
use Rattle.traffic.specs.Curves.{Numbers}
use Rattle.verdict.specs.Demand.{curves, horizon, blocking}
use Rattle.verdict.specs.Judged.{Judgeable, Judged}
use Rattle.verdict.specs.Passes.{Passes}
use Rattle.verdict.specs.Points.{FirstFailing}
use Rattle.verdict.specs.declared.Unfit.{Unfit}
use Rattle.verdict.specs.declared.Unfit.TheVariants.{OutsideLimits, Overloaded, Late}

module _ {K : Type 0} (m : K → Numbers) (dated : K → ℕ → K) (p : ℕ) (ks : List K) where
  -- the channels ks, and the channel k with the allowance d
  abbrev pub beside : K → ℕ → List K
  beside k d = ks ++ dated k d ∷ []

  -- d passes, nothing shorter down to the longest length does, and f is the first failing point one slot sooner, or 0 where d is the longest length
  pub record LeastIs (k : K) (d f : ℕ) : Type 0 where
    pub least : (m k).longest ≤ d
    pub most : d ≤ 40320
    pub passes : Passes m (blocking p) (beside k d)
    pub shorter : (e : ℕ) → (m k).longest ≤ e → e < d → Passes m (blocking p) (beside k e) → ⊥
    pub forbids : ((d ≡ (m k).longest) × (f ≡ 0)) ⊎ (((m k).longest < d) × ((count : ℕ) × FirstFailing (blocking p) (curves m (beside k (d - 1))) (horizon m (beside k (d - 1))) f count))

-- no point fails, and the channels pass; or this one is the first that does, and they do not
abbrev pub Probed : {K : Type 0} (m : K → Numbers) (β : ℕ → ℕ) (ks : List K) → Option ℕ → Type 0
Probed m β ks None = Passes m β ks
Probed m β ks (Some point) = (Passes m β ks → ⊥) × ((count : ℕ) × FirstFailing β (curves m ks) (horizon m ks) point count)

module _ {K : Type 0} (m : K → Numbers) (limits : K → ℕ → Bool) (dated : K → ℕ → K) (p rows : ℕ) (ks : List K) (k : K) where
  -- the channel with the longest allowance that there is: its own is not looked at
  abbrev pub widest : K
  widest = dated k 40320

  -- the least allowance and the point that forbids one less, or what the verdict says at 40,320
  abbrev pub Least : Result (ℕ × ℕ) Unfit → Type 0
  Least (Ok r) = Judgeable limits p rows (ks ++ widest ∷ []) × LeastIs m dated p ks widest r.0 r.1
  Least (Err OutsideLimits) = Judgeable limits p rows (ks ++ widest ∷ []) → ⊥
  Least (Err Overloaded) = Judgeable limits p rows (ks ++ widest ∷ []) × Judged m limits p rows (beside m dated p ks widest 40320) (Err Overloaded)
  Least (Err (Late point count)) = Judgeable limits p rows (ks ++ widest ∷ []) × Judged m limits p rows (beside m dated p ks widest 40320) (Err (Late point count))
