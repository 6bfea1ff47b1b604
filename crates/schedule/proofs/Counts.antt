-- The slots that a state of the core machine still owes, counted for a set X of jobs, and what a slot or an arrival does to them.
use Rattle.std.proofs.Common.{◌≡◌, ℕ, ◌+◌, ◌-◌, ◌<◌, ◌≤◌, Bool, true, false, cond, ◌&&◌, leb, List, ◌∷◌, refl, inl, inr, arith}
use Rattle.std.specs.List.{AllByRecursion}
use Rattle.std.specs.List.Sorted.{IsPermutation}
use Rattle.std.proofs.lemmas.Bool.Decides.{nat_tests}
use Rattle.std.proofs.lemmas.Bool.{cases_Bool, le-leb, cond-true, cond-false}
use Rattle.std.proofs.ByRecursion.{All-weaker, all_shuffled}
use Rattle.verdict.specs.Demand.{total}
use Rattle.schedule.specs.Core.{State, Arrives, arrives, Tick, goes_on, begins, idles}
use Rattle.schedule.specs.Jobs.{Job}
use Rattle.schedule.specs.Orders.{Closed}
use Rattle.schedule.specs.Schedules.{Begun, end, jobs}
use Rattle.schedule.proofs.Sums

-- slots of waiting jobs of X; unsent slots of begun jobs of X; unsent slots of all begun jobs
abbrev pub waits : (Job → Bool) → List Job → ℕ
waits X w = total (λ j. cond (X j) j.slots 0) w

abbrev pub rest : (Job → Bool) → ℕ → List Begun → ℕ
rest X s l = total (λ x. cond (X x.job) (end x - s) 0) l

abbrev pub left : ℕ → List Begun → ℕ
left s l = total (λ x. end x - s) l

-- slots of X not yet sent
abbrev pub unsent : (Job → Bool) → State → ℕ
unsent X m = rest X m.clock m.log + waits X m.waiting

-- the same, and what is on the air whether in X or not
abbrev pub ahead : (Job → Bool) → State → ℕ
ahead X m = left m.clock m.log + waits X m.waiting

-- all jobs that have arrived, weighed by f
abbrev pub weigh : (Job → ℕ) → State → ℕ
weigh f m = total f m.waiting + total f (jobs m.log)

-- the slots of a job if it is in X and arrived in slot a or later
abbrev pub asks : (Job → Bool) → ℕ → Job → ℕ
asks X a j = cond (leb a j.arrival && X j) j.slots 0

-- slots of X that arrived in slot a or later
abbrev pub asked : (Job → Bool) → ℕ → State → ℕ
asked X a m = weigh (asks X a) m

-- As slots pass less is left.

rest_falls : (X : Job → Bool) (s t : ℕ) (l : List Begun) → s ≤ t → rest X t l ≤ rest X s l
rest_falls X s t l h = Sums.total-le _ _ l (Sums.all_true (λ x. cond (X x.job) (end x - t) 0 ≤ cond (X x.job) (end x - s) 0) (λ x. grind (arith, nat_tests)) l)

pub rest_left : (X : Job → Bool) (s : ℕ) (l : List Begun) → rest X s l ≤ left s l
rest_left X s l = Sums.total-le _ _ l (Sums.all_true (λ x. cond (X x.job) (end x - s) 0 ≤ end x - s) (λ x. grind (arith, nat_tests)) l)

pub unsent_ahead : (X : Job → Bool) (m : State) → unsent X m ≤ ahead X m
unsent_ahead X m = omega (arith, rest_left X m.clock m.log)

pub none_left : (s t : ℕ) (l : List Begun) → s ≤ t → AllByRecursion (λ x. end x ≤ s) l → left t l ≡ 0
none_left s t l h e = Sums.total-none _ l (All-weaker _ _ (λ x e. omega arith) l e)

-- a smaller set owes less
pub unsent_within : (X Y : Job → Bool) → ((j : Job) → X j ≡ true → Y j ≡ true) → (m : State) → unsent X m ≤ unsent Y m
unsent_within X Y f m =
    omega (
      arith,
      Sums.total-le _ _ m.log (Sums.all_true (λ x. cond (X x.job) (end x - m.clock) 0 ≤ cond (Y x.job) (end x - m.clock) 0) (λ x. go x.job (end x - m.clock)) m.log),
      Sums.total-le _ _ m.waiting (Sums.all_true (λ j. cond (X j) j.slots 0 ≤ cond (Y j) j.slots 0) (λ j. go j j.slots) m.waiting),
    )
  where
    go : (j : Job) (n : ℕ) → cond (X j) n 0 ≤ cond (Y j) n 0
    go j n = let both = f j in grind (arith, nat_tests)

-- What a slot does.

pub clock_tick : {before : Job → Job → Bool} {m n : State} → Tick before m n → n.clock ≡ m.clock + 1
clock_tick (goes_on h) = refl
clock_tick (begins j h e l) = refl
clock_tick (idles h) = refl

pub weigh_tick : {before : Job → Job → Bool} {m n : State} → Tick before m n → (f : Job → ℕ) → weigh f n ≡ weigh f m
weigh_tick (goes_on h) f = refl
weigh_tick (begins j h e l) f = omega (arith, Sums.total-shuffled f _ _ e)
weigh_tick (idles h) f = refl

pub record Advance (X : Job → Bool) (m n : State) : Type 0 where
  -- no more of X is unsent, and while anything is ahead one slot of that is sent
  pub less : unsent X n ≤ unsent X m
  pub falls : 0 < ahead X m → ahead X n + 1 ≤ ahead X m

module _ (before : Job → Job → Bool) (X : Job → Bool) (closed : Closed before X) where
  none_waits : (j : Job) (w : List Job) → X j ≡ false → AllByRecursion (λ k. before k j ≡ false) w → waits X w ≡ 0
  none_waits j w n h = Sums.total-none _ w (All-weaker _ (λ k. cond (X k) k.slots 0 ≡ 0) (λ k b. let member : X k ≡ true → X j ≡ true = λ y. closed k j y b in grind (arith, nat_tests)) w h)

  pub advance : {m n : State} → Tick before m n → AllByRecursion (λ j. 0 < j.slots) m.waiting → Advance X m n
  advance (goes_on {s} {w} {l} h) pos = record {
    less = omega (arith, rest_falls X s (s + 1) l (omega arith));
    falls = λ p. omega (arith, Sums.total-spare (λ x. end x - (s + 1)) (λ x. end x - s) 1 l (Sums.all_true _ (λ x. omega arith) l) (Sums.any_more _ _ l (Sums.all_true _ (λ x o. omega arith) l) h));
  }
  advance (begins {s} {w} {w'} {l} j ended h least) pos =
      let e = Sums.total-shuffled (λ j. cond (X j) j.slots 0) _ _ h in
      let p : 0 < j.slots = (all_shuffled (λ j. 0 < j.slots) _ _ h pos).0 in
      let z = none_left s s l (omega arith) ended in
      let z' = none_left s (s + 1) l (omega arith) ended in
      let r = rest_falls X s (s + 1) l (omega arith) in
      elim (cases_Bool (X j)) [
        | inl y ↦
            let c = cond-true (X j) j.slots 0 y in
            let c' = cond-true (X j) (s + j.slots - (s + 1)) 0 y in
            record { less = omega arith; falls = λ q. omega arith }
        | inr n ↦
            let c = cond-false (X j) j.slots 0 n in
            let c' = cond-false (X j) (s + j.slots - (s + 1)) 0 n in
            record { less = omega arith; falls = λ q. absurd (omega (arith, none_waits j w' n least)) }
      ]
  advance (idles {s} {l} h) pos = record {
    less = omega (arith, rest_falls X s (s + 1) l (omega arith));
    falls = λ p. absurd (omega (arith, none_left s s l (omega arith) h));
  }

-- What an arrival does.

module _ (X : Job → Bool) (j : Job) (w w' : List Job) (h : IsPermutation (j ∷ w) w') where
  pub waits_more : waits X w' ≡ cond (X j) j.slots 0 + waits X w
  waits_more = Sums.total-shuffled (λ j. cond (X j) j.slots 0) _ _ h

  pub asked_more : (a : ℕ) → a ≤ j.arrival → total (asks X a) w' ≡ cond (X j) j.slots 0 + total (asks X a) w
  asked_more a l = rw (le-leb a j.arrival l) at (Sums.total-shuffled (asks X a) _ _ h)

pub weigh_arrives : {j : Job} {m n : State} → Arrives j m n → (f : Job → ℕ) → weigh f n ≡ f j + weigh f m
weigh_arrives {j} (arrives p e h) f = omega (arith, Sums.total-shuffled f _ _ h)
