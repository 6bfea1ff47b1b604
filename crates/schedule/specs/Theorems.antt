-- What is proved of channels on a link: all arrivals have a proper schedule, and the grant rule is exact.
use Rattle.std.specs.Prelude.{◌≡◌, ℕ, ◌+◌, ◌<◌, ◌≤◌, Bool, true, ◌⊎◌, List}
use Rattle.std.specs.List.{AllByRecursion}
use Rattle.traffic.specs.Arrivals.{Steps}
use Rattle.traffic.specs.Curves.{Numbers}
use Rattle.verdict.specs.Demand.{works, curves, blocking}
use Rattle.verdict.specs.Passes.{Passes}
use Rattle.schedule.specs.Arrivals.{Arrivals, arrived, Unschedulable}
use Rattle.schedule.specs.Schedules.{Begun, Proper, Late}

-- the longest packet of the link has p slots, 1 to 255, and each channel keeps its limits under it
pub record OnLink {K : Type 0} (limits : K → ℕ → Bool) (p : ℕ) (ks : List K) : Type 0 where
  pub least : 1 ≤ p
  pub most : p ≤ 255
  pub within : AllByRecursion (λ k. limits k p ≡ true) ks

-- of every link and all channels within limits on it
abbrev pub OnEveryLink : {K : Type 0} → (K → ℕ → Bool) → (ℕ → List K → Type 0) → Type 0
OnEveryLink {K} limits P = (p : ℕ) (ks : List K) → OnLink limits p ks → P p ks

module _ {K S : Type 0} (numbers : K → Numbers) (steps : K → Steps S) (p : ℕ) (ks : List K) where
  -- all arrivals have a proper schedule, whether the channels pass or not
  abbrev pub SomeSchedule : Type 0
  SomeSchedule = (a : Arrivals numbers steps p ks) → (xs : List Begun) × Proper (arrived numbers steps p ks a) xs

  -- channels that pass are granted rightly
  pub record OnTime : Type 0 where
    -- all arrivals have a proper schedule in which nothing is late
    pub scheduled : Passes numbers (blocking p) ks → (a : Arrivals numbers steps p ks) → (xs : List Begun) × Proper (arrived numbers steps p ks a) xs × (Late xs → ⊥)
    -- so none defeat every schedule
    pub schedulable : Passes numbers (blocking p) ks → Unschedulable numbers steps p ks → ⊥

  -- channels that do not pass are refused rightly: some arrivals defeat every schedule
  pub record Needed : Type 0 where
    -- where at some t the demand and the blocking do not fit
    pub point : (t : ℕ) → 0 < curves numbers ks t → t < curves numbers ks t + blocking p t → Unschedulable numbers steps p ks
    -- where the channels ask for more than a frame in each frame
    pub overload : 5040 < works numbers ks → Unschedulable numbers steps p ks
    -- and so wherever they do not pass
    pub refused : (Passes numbers (blocking p) ks → ⊥) → Unschedulable numbers steps p ks
    -- all channels pass or are unschedulable
    pub decided : Passes numbers (blocking p) ks ⊎ Unschedulable numbers steps p ks
