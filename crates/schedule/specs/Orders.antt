-- Waiting orders: which of two waiting jobs goes on the air first.
use Rattle.std.specs.Prelude.{◌≡◌, Bool, true, false, ◌&&◌, ◌||◌, ◌==◌, nat_lt}
use Rattle.schedule.specs.Jobs.{Due, never, at, Job, timed}

abbrev pub sooner : Due → Due → Bool
sooner never e = false
sooner (at d) never = true
sooner (at d) (at e) = nat_lt d e

abbrev pub same_due : Due → Due → Bool
same_due never never = true
same_due never (at e) = false
same_due (at d) never = false
same_due (at d) (at e) = d == e

-- earliest deadline first, bulk last; then the lower mat; then the lower offer count
abbrev pub earliest : Job → Job → Bool
earliest j k = sooner j.due k.due || (same_due j.due k.due && (nat_lt j.mat k.mat || (j.mat == k.mat && nat_lt j.count k.count)))

-- whatever does not go after some member is a member
abbrev pub Closed : (Job → Job → Bool) → (Job → Bool) → Type 0
Closed before X = (x y : Job) → X x ≡ true → before x y ≡ false → X y ≡ true

-- a down-set of an order: closed, and without bulk
pub record DownSet (before : Job → Job → Bool) (X : Job → Bool) : Type 0 where
  pub closed : Closed before X
  pub no_bulk : (x : Job) → X x ≡ true → timed x ≡ true
