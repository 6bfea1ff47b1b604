-- A worked link, which shows that the theorems are not empty: longest packet 4 slots, and one spaced channel of period 10 and longest packet 2.
use Rattle.std.specs.Prelude.{◌≡◌, ℕ, ◌+◌, List, [], ◌∷◌, Option}
use Rattle.traffic.specs.Arrivals.{Steps}
use Rattle.traffic.specs.Curves.{Numbers}
use Rattle.traffic.specs.Spaced.{spaced, spaced_limits, spaced_steps}
use Rattle.verdict.specs.Demand.{blocking}
use Rattle.verdict.specs.Passes.{Passes}
use Rattle.schedule.specs.Arrivals.{Arrivals, arrived, Unschedulable}
use Rattle.schedule.specs.Jobs.{Job, never, at}
use Rattle.schedule.specs.Schedules.{Begun, Proper, Late}
use Rattle.schedule.specs.Theorems.{OnLink}

-- channels of this sort are told apart by their allowance
abbrev pub numbers : ℕ → Numbers
numbers d = spaced 10 2 d

abbrev pub steps : ℕ → Steps (Option ℕ)
steps d = spaced_steps 10 2

-- a bulk job of 4 slots arrives in slot 0, and a packet of 2 slots in slot 1, due d slots later
abbrev pub bulk : Job
bulk = record { arrival = 0; slots = 4; due = never; owner = 0; mat = 0; count = 0 }

abbrev pub read : ℕ → Job
read d = record { arrival = 1; slots = 2; due = at (1 + d); owner = 1; mat = 7; count = 1 }

-- bulk is sent in slots 0 to 3, the packet in slots 4 and 5
abbrev pub schedule : ℕ → List Begun
schedule d = record { job = read d; start = 4 } ∷ record { job = bulk; start = 0 } ∷ []

pub record Examples : Type 0 where
  -- with allowance 5 the channel passes; the arrivals have this schedule, which is proper and not late
  pub within : OnLink (spaced_limits 10 2) 4 (5 ∷ 4 ∷ [])
  pub passes : Passes numbers (blocking 4) (5 ∷ [])
  pub arrivals : (a : Arrivals numbers steps 4 (5 ∷ [])) × (arrived numbers steps 4 (5 ∷ []) a ≡ bulk ∷ read 5 ∷ [])
  pub proper : Proper (bulk ∷ read 5 ∷ []) (schedule 5)
  pub timely : Late (schedule 5) → ⊥
  -- one slot less, and it does not pass; the same arrivals defeat every schedule
  pub fails : Passes numbers (blocking 4) (4 ∷ []) → ⊥
  pub defeating : (u : Unschedulable numbers steps 4 (4 ∷ [])) × (arrived numbers steps 4 (4 ∷ []) u.0 ≡ bulk ∷ read 4 ∷ [])
