-- What the proof of a sender asks of its waiting order, and that earliest deadline first has it.
use Rattle.std.proofs.Common.{ℕ, ◌-◌, ◌≤◌, Bool, List, ◌∷◌, ◌++◌}
use Rattle.std.specs.List.{AllByRecursion}
use Rattle.std.specs.Cmp.{IsStrictWeakOrder}
use Rattle.traffic.specs.Arrivals.{Steps}
use Rattle.traffic.specs.Curves.{Numbers}
use Rattle.traffic.specs.Laws.{CurveLaws, Redated, TrafficLaws}
use Rattle.verdict.specs.Demand.{blocking}
use Rattle.schedule.specs.Arrivals.{Offers, offered}
use Rattle.schedule.specs.Core.{State}
use Rattle.schedule.specs.Jobs.{Job, due_by, timed}
use Rattle.schedule.specs.Orders.{earliest, DownSet}
use Rattle.schedule.proofs.BusyWindows.{Kept}
use Rattle.schedule.proofs.Logs.{Each}
use Rattle.schedule.proofs.Orders.{earliest_ranks, timed_down}
use Rattle.schedule.proofs.Owners.{Owned}
use Rattle.schedule.proofs.Safe.{Safe, safe_dropped, safe_raised, safe_waiting, blocked_short}
use Rattle.schedule.proofs.Timely.{WaitingInTime}

-- a service discipline where the longest packet has p slots: its order, and the channels that it serves in time
pub record Discipline {K S : Type 0} (numbers : K → Numbers) (steps : K → Steps S) (p : ℕ) : Type 1 where
  pub before : Job → Job → Bool
  pub ranks : IsStrictWeakOrder before
  -- bulk goes last
  pub bulk_last : DownSet before timed
  pub Serves : List K → Type 0
  -- it still serves them when a channel is dropped, and when an allowance is raised
  pub dropped : (xs : List K) (k : K) (ys : List K) → Serves (xs ++ k ∷ ys) → Serves (xs ++ ys)
  pub raised : (e : ℕ) (xs : List K) (k k' : K) (ys : List K) → CurveLaws p (numbers k) → CurveLaws p (numbers k') → Redated (numbers k) e (numbers k') → (numbers k).allowance ≤ e →
      Serves (xs ++ k ∷ ys) → Serves (xs ++ k' ∷ ys)
  -- every waiting job, begun now, would end in time, if what came since q are offers of these channels
  pub in_time : (ks : List K) → AllByRecursion (λ k. TrafficLaws (numbers k) (steps k)) ks → Serves ks → (o : Offers numbers steps ks) (q : ℕ) (m : State) →
      Kept before q m → Each (λ j. j.slots ≤ p) m → Owned q (offered numbers steps ks o) m → WaitingInTime m

abbrev pub earliest_first : {K S : Type 0} (numbers : K → Numbers) (steps : K → Steps S) (p : ℕ) → Discipline numbers steps p
earliest_first numbers steps p = record {
  before = earliest;
  ranks = earliest_ranks;
  bulk_last = timed_down;
  Serves = Safe numbers (blocking p);
  dropped = safe_dropped numbers (blocking p);
  raised = safe_raised numbers (blocking p) p;
  in_time = λ ks laws safe o q m kept short owned.
      safe_waiting numbers steps (blocking p) ks laws safe o q m kept owned (λ d a b. blocked_short p q m.log short.begun (due_by d) (d - a) a b);
}
