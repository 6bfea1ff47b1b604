-- The core machine: a sender that takes every job, whatever the order in which it lets waiting jobs go.
use Rattle.std.specs.Prelude.{◌≡◌, ℕ, ◌+◌, ◌<◌, ◌≤◌, Bool, false, List, [], ◌∷◌}
use Rattle.std.specs.List.{AllByRecursion}
use Rattle.std.specs.List.Sorted.{IsPermutation}
use Rattle.schedule.specs.Jobs.{Job}
use Rattle.schedule.specs.Schedules.{Begun, end, Any}

-- the waiting jobs are a bag; the log has every job begun, the newest first, which is on the air until it ends
pub record State : Type 0 where
  pub clock : ℕ
  pub waiting : List Job
  pub log : List Begun

abbrev pub state : ℕ → List Job → List Begun → State
state s w l = record { clock = s; waiting = w; log = l }

abbrev pub opened : State
opened = state 0 [] []

-- a job arrives in the slot that the clock shows
pub data Arrives (j : Job) : State → State → Type 0 where
  arrives : {s : ℕ} {w w' : List Job} {l : List Begun} → 0 < j.slots → j.arrival ≡ s → IsPermutation (j ∷ w) w' → Arrives j (state s w l) (state s w' l)

-- one slot passes: what is on the air goes on; or else a waiting job that no other goes before begins; or else nothing waits
pub data Tick (before : Job → Job → Bool) : State → State → Type 0 where
  goes_on : {s : ℕ} {w : List Job} {l : List Begun} → Any (λ x. s < end x) l → Tick before (state s w l) (state (s + 1) w l)
  begins : {s : ℕ} {w w' : List Job} {l : List Begun} (j : Job) → AllByRecursion (λ x. end x ≤ s) l → IsPermutation w (j ∷ w') → AllByRecursion (λ k. before k j ≡ false) w' →
      Tick before (state s w l) (state (s + 1) w' (record { job = j; start = s } ∷ l))
  idles : {s : ℕ} {l : List Begun} → AllByRecursion (λ x. end x ≤ s) l → Tick before (state s [] l) (state (s + 1) [] l)
