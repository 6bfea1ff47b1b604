-- Schedules: when each job begins. The air carries one job at a time, and a job once begun is sent to its end, slot after slot.
use Rattle.std.specs.Prelude.{◌≡◌, ℕ, ◌+◌, ◌<◌, ◌≤◌, ◌⊎◌, List, [], ◌∷◌, map}
use Rattle.std.specs.List.{AllByRecursion}
use Rattle.std.specs.List.Sorted.{IsPermutation}
use Rattle.schedule.specs.Jobs.{Job, at}

-- a job and the slot in which it begins
pub record Begun : Type 0 where
  pub job : Job
  pub start : ℕ

-- the first slot after its last one
abbrev pub end : Begun → ℕ
end x = x.start + x.job.slots

abbrev pub jobs : List Begun → List Job
jobs xs = map (λ x. x.job) xs

-- some element has the property
abbrev pub Any : {X : Type 0} → (X → Type 0) → List X → Type 0
Any P [] = ⊥
Any P (x ∷ xs) = P x ⊎ Any P xs

-- no job begins before it arrives
abbrev pub Begins : List Begun → Type 0
Begins xs = AllByRecursion (λ x. x.job.arrival ≤ x.start) xs

-- of any two entries, one has ended when the other begins: no job is broken off (non-preemptive), and no two are on the air together
abbrev pub Apart : List Begun → Type 0
Apart [] = Unit {0}
Apart (x ∷ xs) = AllByRecursion (λ y. (end x ≤ y.start) ⊎ (end y ≤ x.start)) xs × Apart xs

-- nothing that began before slot s is still on the air in it
abbrev pub Free : ℕ → List Begun → Type 0
Free s xs = AllByRecursion (λ x. x.start < s → end x ≤ s) xs

-- the job has arrived by slot s and has not begun before it
abbrev pub Waits : ℕ → Begun → Type 0
Waits s x = (x.job.arrival ≤ s) × (s ≤ x.start)

-- work-conserving: in each slot with nothing on the air and an arrived job not begun, one begins
abbrev pub Unidling : List Begun → Type 0
Unidling xs = (s : ℕ) → Free s xs → Any (Waits s) xs → Any (λ x. x.start ≡ s) xs

-- a proper schedule of a list of jobs: each of them once, in any order, by the three rules
pub record Proper (js : List Job) (xs : List Begun) : Type 0 where
  pub each_once : IsPermutation js (jobs xs)
  pub begins : Begins xs
  pub apart : Apart xs
  pub unidling : Unidling xs

-- the job is due at some slot, and ends after it
abbrev pub Overdue : Begun → Type 0
Overdue x = (d : ℕ) × (x.job.due ≡ at d) × (d < end x)

-- some job is overdue
abbrev pub Late : List Begun → Type 0
Late xs = Any Overdue xs
