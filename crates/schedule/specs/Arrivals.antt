-- What may arrive on a link: for each channel a lawful list, and bulk at will; and the channels that some arrivals defeat.
use Rattle.std.specs.Prelude.{◌≡◌, ℕ, ◌+◌, ◌≤◌, List, [], ◌∷◌, ◌++◌, map}
use Rattle.std.specs.List.{AllByRecursion}
use Rattle.traffic.specs.Arrivals.{Arrival, Steps, Lawful}
use Rattle.traffic.specs.Curves.{Numbers}
use Rattle.schedule.specs.Jobs.{Job, never, at}
use Rattle.schedule.specs.Schedules.{Begun, Proper, Late}

-- the job as the packet that its channel takes
abbrev pub packet : Job → Arrival
packet j = record { slot = j.arrival; len = j.slots }

-- jobs that one channel offers: their packets are a lawful list, and each is due when the allowance has passed; the owner and the keys may be any
pub record Offered {S : Type 0} (n : Numbers) (m : Steps S) (js : List Job) : Type 0 where
  pub lawful : Lawful m (map packet js)
  pub due : AllByRecursion (λ j. j.due ≡ at (j.arrival + n.allowance)) js

-- a bulk job where the longest packet has p slots: it has 1 to p slots, and is never due
pub record Bulk (p : ℕ) (j : Job) : Type 0 where
  pub least : 1 ≤ j.slots
  pub most : j.slots ≤ p
  pub due : j.due ≡ never

module _ {K S : Type 0} (numbers : K → Numbers) (steps : K → Steps S) where
  -- for each channel the jobs that it offers
  abbrev pub Offers : List K → Type 0
  Offers [] = Unit {0}
  Offers (k ∷ ks) = (js : List Job) × Offered (numbers k) (steps k) js × Offers ks

  abbrev pub offered : (ks : List K) → Offers ks → List Job
  offered [] o = []
  offered (k ∷ ks) o = o.0 ++ offered ks o.2

  -- what arrives on a link with these channels, whose longest packet has p slots
  pub record Arrivals (p : ℕ) (ks : List K) : Type 0 where
    pub bulk : List Job
    pub sizes : AllByRecursion (Bulk p) bulk
    pub offers : Offers ks

  abbrev pub arrived : (p : ℕ) (ks : List K) → Arrivals p ks → List Job
  arrived p ks a = a.bulk ++ offered ks a.offers

  -- some arrivals make every proper schedule late
  abbrev pub Unschedulable : ℕ → List K → Type 0
  Unschedulable p ks = (a : Arrivals p ks) × ((xs : List Begun) → Proper (arrived p ks a) xs → Late xs)
