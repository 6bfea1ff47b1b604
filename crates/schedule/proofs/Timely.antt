-- Jobs in time: what has begun ends by its due slot, and what waits still can.
use Rattle.std.proofs.Common.{◌≡◌, ℕ, ◌+◌, ◌<◌, ◌≤◌, Bool, true, cond, leb, ◌⊎◌, List, refl, inl, inr, arith}
use Rattle.std.specs.List.{AllByRecursion}
use Rattle.std.proofs.ByRecursion.{All-weaker, all_shuffled}
use Rattle.std.proofs.lemmas.Bool.Decides.{nat_tests}
use Rattle.std.proofs.lemmas.Bool.{cases_lt, le-leb, leb-true}
use Rattle.verdict.specs.Demand.{total}
use Rattle.schedule.specs.Core.{State, Arrives, arrives, Tick, goes_on, begins, idles}
use Rattle.schedule.specs.Jobs.{Due, never, at, Job, until, due_by}
use Rattle.schedule.specs.Schedules.{Begun, end, Overdue, Late}
use Rattle.schedule.proofs.Counts.{weigh}
use Rattle.schedule.proofs.Logs.{Sound, waiting_positive}
use Rattle.schedule.proofs.Sums

-- whatever slot it is due by, it has ended by it
abbrev pub Timely : Begun → Type 0
Timely x = (d : ℕ) → due_by d x.job ≡ true → end x ≤ d

timely_or_overdue : (x : Begun) → Timely x ⊎ Overdue x
timely_or_overdue x = go x.job.due refl
  where
    go : (u : Due) → x.job.due ≡ u → Timely x ⊎ Overdue x
    go never e = inl (λ d h. absurd (cc))
    go (at n) e = elim (cases_lt n (end x)) [
      | inl l ↦ inr (n, e, l)
      | inr g ↦ inl (λ d h. let u : until d (at n) ≡ true = rw e at h in omega (arith, leb-true n d u))
    ]

pub timely_or_late : (xs : List Begun) → AllByRecursion Timely xs ⊎ Late xs
timely_or_late xs = Sums.each_or_some Timely _ timely_or_overdue xs

pub never_late : (xs : List Begun) → AllByRecursion Timely xs → Late xs → ⊥
never_late xs h late = Sums.any_all _ xs late (All-weaker _ _ (λ x o v. omega (arith, o v.0 (rw v.1 (le-leb v.0 v.0 (omega arith))))) xs h)

-- every waiting job, begun now, would end by its due slot
abbrev pub WaitingInTime : State → Type 0
WaitingInTime m = AllByRecursion (λ j. (d : ℕ) → due_by d j ≡ true → m.clock + j.slots ≤ d) m.waiting

-- Steps keep what has begun in time.

pub timely_arrives : {j : Job} {m n : State} → Arrives j m n → AllByRecursion Timely m.log → AllByRecursion Timely n.log
timely_arrives (arrives l e h) t = t

pub timely_tick : {before : Job → Job → Bool} {m n : State} → Tick before m n → WaitingInTime m → AllByRecursion Timely m.log → AllByRecursion Timely n.log
timely_tick (goes_on h) w t = t
timely_tick (begins {s} j ended h least) w t = ((all_shuffled (λ j. (d : ℕ) → due_by d j ≡ true → s + j.slots ≤ d) _ _ h w).0, t)
timely_tick (idles h) w t = t

-- By any slot d that has come, the jobs due by d have ended by d, however they are weighed.

none_due : (d : ℕ) (f : Job → ℕ) (j : Job) (s : ℕ) → d ≤ s → 0 < j.slots → (due_by d j ≡ true → s + j.slots ≤ d) → cond (due_by d j) (f j) 0 ≡ 0
none_due d f j s l p h = grind (arith, nat_tests)

due_ended : (d : ℕ) (f : Job → ℕ) (x : Begun) → Timely x → cond (due_by d x.job) (f x.job) 0 ≤ cond (leb (end x) d) (f x.job) 0
due_ended d f x h = let ended = h d in grind (arith, nat_tests)

pub due_have_ended : (m : State) → Sound m → WaitingInTime m → AllByRecursion Timely m.log → (f : Job → ℕ) (d : ℕ) → d ≤ m.clock →
    weigh (λ j. cond (due_by d j) (f j) 0) m ≤ total (λ x. cond (leb (end x) d) (f x.job) 0) m.log
due_have_ended m i w t f d l =
    omega (
      arith,
      Sums.total-none due m.waiting (Sums.all_zip _ _ (λ j. due j ≡ 0) (λ j a b. none_due d f j m.clock l a (b d)) m.waiting (waiting_positive m i) w),
      Sums.total-map (λ x. x.job) due m.log,
      Sums.total-le _ _ m.log (All-weaker Timely (λ x. due x.job ≤ cond (leb (end x) d) (f x.job) 0) (due_ended d f) m.log t),
    )
  where
    due : Job → ℕ
    due j = cond (due_by d j) (f j) 0
