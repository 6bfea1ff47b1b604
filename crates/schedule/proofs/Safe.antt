-- Safe channels: their demand and the blocking fit at every t. Under earliest deadline first all that they offer can then be sent in time.
use Rattle.std.proofs.Common.{◌≡◌, ℕ, ◌+◌, ◌-◌, ◌<◌, ◌≤◌, Bool, true, false, List, [], ◌∷◌, ◌++◌, refl, inl, inr, arith}
use Rattle.std.specs.List.{AllByRecursion}
use Rattle.std.proofs.lemmas.Bool.{cases_lt, cond-true}
use Rattle.std.proofs.ByRecursion.{All-weaker}
use Rattle.traffic.specs.Arrivals.{Steps}
use Rattle.traffic.specs.Curves.{Numbers}
use Rattle.traffic.specs.Laws.{CurveLaws, Redated, TrafficLaws}
use Rattle.verdict.specs.Demand.{curves, blocking}
use Rattle.verdict.specs.Points.{Fits}
use Rattle.schedule.specs.Arrivals.{Offers, offered}
use Rattle.schedule.specs.Core.{State}
use Rattle.schedule.specs.Jobs.{Due, never, at, Job, until, due_by, some_day}
use Rattle.schedule.specs.Orders.{earliest}
use Rattle.schedule.specs.Schedules.{Begun, Any}
use Rattle.schedule.proofs.BusyWindows.{Blocks, Kept, read_off}
use Rattle.schedule.proofs.Counts.{waits, unsent, asks}
use Rattle.schedule.proofs.Logs.{waiting_positive}
use Rattle.schedule.proofs.Offers.{offers_bounded}
use Rattle.schedule.proofs.Orders.{due_by_down}
use Rattle.schedule.proofs.Owners.{Owned, asks_since}
use Rattle.schedule.proofs.Sums
use Rattle.schedule.proofs.Timely.{WaitingInTime}

abbrev pub Safe : {K : Type 0} → (K → Numbers) → (ℕ → ℕ) → List K → Type 0
Safe numbers β ks = (t : ℕ) → Fits β (curves numbers ks) t

-- Safe channels stay safe where demand and blocking together rise at no t.

pub safe_less : {K : Type 0} (numbers : K → Numbers) (β β' : ℕ → ℕ) (ks ks' : List K) →
    ((t : ℕ) → 0 < curves numbers ks' t → (0 < curves numbers ks t) × (curves numbers ks' t + β' t ≤ curves numbers ks t + β t)) → Safe numbers β ks → Safe numbers β' ks'
safe_less numbers β β' ks ks' less safe t some = omega (arith, (less t some).1, safe t (less t some).0)

-- a channel is dropped
pub safe_dropped : {K : Type 0} (numbers : K → Numbers) (β : ℕ → ℕ) (xs : List K) (k : K) (ys : List K) → Safe numbers β (xs ++ k ∷ ys) → Safe numbers β (xs ++ ys)
safe_dropped numbers β xs k ys = safe_less numbers β β (xs ++ k ∷ ys) (xs ++ ys) λ t some.
    let a = Sums.total-append (λ k. (numbers k).curve t) xs (k ∷ ys) in
    let b = Sums.total-append (λ k. (numbers k).curve t) xs ys in
    (omega arith, omega arith)

-- a longer allowance lowers a curve at every t
pub curve_raised : (p e : ℕ) (n n' : Numbers) → CurveLaws p n → CurveLaws p n' → Redated n e n' → n.allowance ≤ e → (t : ℕ) → n'.curve t ≤ n.curve t
curve_raised p e n n' laws laws' re l t = elim (cases_lt t e) [
  | inl b ↦ omega (arith, laws'.nothing_before t (omega (arith, re.allowance)))
  | inr g ↦
      let i : ℕ = t - e in
      let end : e + i ≡ t = omega arith in
      let same : n'.curve t ≡ n.curve (n.allowance + i) = rw end at (re.curve i) in
      omega (arith, laws.never_falls (n.allowance + i) t (omega arith))
]

-- an allowance is raised
pub safe_raised : {K : Type 0} (numbers : K → Numbers) (β : ℕ → ℕ) (p e : ℕ) (xs : List K) (k k' : K) (ys : List K) →
    CurveLaws p (numbers k) → CurveLaws p (numbers k') → Redated (numbers k) e (numbers k') → (numbers k).allowance ≤ e → Safe numbers β (xs ++ k ∷ ys) → Safe numbers β (xs ++ k' ∷ ys)
safe_raised numbers β p e xs k k' ys laws laws' re l = safe_less numbers β β (xs ++ k ∷ ys) (xs ++ k' ∷ ys) λ t some.
    let a = Sums.total-append (λ k. (numbers k).curve t) xs (k ∷ ys) in
    let b = Sums.total-append (λ k. (numbers k).curve t) xs (k' ∷ ys) in
    let c = curve_raised p e (numbers k) (numbers k') laws laws' re l t in
    (omega arith, omega arith)

-- What is owed can be sent in time.

untimed : (d : ℕ) (x : Due) → some_day x ≡ false → until d x ≡ false
untimed d never h = refl
untimed d (at e) h = cc

waiting_fits : (s : ℕ) (U : ℕ → ℕ) (w : List Job) → ((d : ℕ) → 0 < U d → s + U d ≤ d) → ((d : ℕ) → waits (due_by d) w ≤ U d) → AllByRecursion (λ j. 0 < j.slots) w → AllByRecursion (λ j. (d : ℕ) → due_by d j ≡ true → s + j.slots ≤ d) w
waiting_fits s U [] t le pos = tt
waiting_fits s U (j ∷ w) t le pos = (
  (λ d y. let c = cond-true (due_by d j) j.slots 0 y in let u = le d in omega (arith, t d (omega arith))),
  waiting_fits s U w t (λ d. omega (arith, le d)) pos.1,
)

module _ {K S : Type 0} (numbers : K → Numbers) (steps : K → Steps S) (β : ℕ → ℕ) (ks : List K) (laws : AllByRecursion (λ k. TrafficLaws (numbers k) (steps k)) ks) (safe : Safe numbers β ks)
    (o : Offers numbers steps ks) (q : ℕ) (m : State) (kept : Kept earliest q m) (owned : Owned q (offered numbers steps ks o) m)
    (blocked : (d a b : ℕ) → Any (Blocks (due_by d) q a b) m.log → b ≤ β (d - a)) where
  -- all that is due by d, at once
  pub safe_in_time : (d : ℕ) → 0 < unsent (due_by d) m → m.clock + unsent (due_by d) m ≤ d
  safe_in_time d = read_off (due_by d) q d (λ a. curves numbers ks (d - a)) (λ a. β (d - a)) m
      (λ a some. omega (arith, safe (d - a) some))
      (λ a l. omega (arith, owned (asks (due_by d) a) (asks_since q a (due_by d) l (λ j. untimed d j.due)), offers_bounded numbers steps ks laws o d a))
      (blocked d)
      (kept.covered (due_by d) (due_by_down d))

  -- each job that waits
  pub safe_waiting : WaitingInTime m
  safe_waiting = waiting_fits m.clock (λ d. unsent (due_by d) m) m.waiting safe_in_time (λ d. omega arith) (waiting_positive m kept.sound)

-- where every job has at most p slots, none blocks for more than p − 1
pub blocked_short : (p q : ℕ) (l : List Begun) → AllByRecursion (λ x. x.job.slots ≤ p) l → (X : Job → Bool) (t a b : ℕ) → Any (Blocks X q a b) l → b ≤ blocking p t
blocked_short p q l short X t a b h = Sums.any_all _ l h (All-weaker _ _ (λ x s y. omega (arith, y.longer)) l short)
