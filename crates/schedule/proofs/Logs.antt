-- The log of the core machine obeys the rules of schedules at every moment, in whatever order waiting jobs are let go.
use Rattle.std.proofs.Common.{◌≡◌, ℕ, ◌<◌, ◌≤◌, Bool, ◌⊎◌, List, [], ◌∷◌, inl, inr, arith}
use Rattle.std.specs.List.{AllByRecursion}
use Rattle.std.specs.List.Sorted.{IsPermutation}
use Rattle.std.proofs.lemmas.Bool.{cases_lt}
use Rattle.std.proofs.ByRecursion.{All-weaker, all_shuffled}
use Rattle.schedule.specs.Core.{State, state, opened, Arrives, arrives, Tick, goes_on, begins, idles}
use Rattle.schedule.specs.Jobs.{Job}
use Rattle.schedule.specs.Schedules.{Begun, end, jobs, Any, Waits, Apart, Unidling, Proper}
use Rattle.schedule.proofs.Sums

-- each job had ended when the next began; the newest stands first
abbrev pub Queue : List Begun → Type 0
Queue [] = Unit {0}
Queue (x ∷ xs) = AllByRecursion (λ y. end y ≤ x.start) xs × Queue xs

abbrev OnAir : ℕ → Begun → Type 0
OnAir s x = (x.start ≤ s) × (s < end x)

-- a waiting job has slots to send and has arrived
abbrev Stands : ℕ → Job → Type 0
Stands s j = (0 < j.slots) × (j.arrival ≤ s)

pub record Sound (m : State) : Type 0 where
  pub waiting : AllByRecursion (Stands m.clock) m.waiting
  pub begun : AllByRecursion (λ x. (x.job.arrival ≤ x.start) × (x.start < m.clock)) m.log
  pub queue : Queue m.log
  -- in each slot so far a job was on the air, or each job that had arrived had begun
  pub busy : (t : ℕ) → t < m.clock → Any (OnAir t) m.log ⊎ (AllByRecursion (λ j. t < j.arrival) m.waiting × AllByRecursion (λ x. (t < x.job.arrival) ⊎ (x.start ≤ t)) m.log)

pub sound_opened : Sound opened
sound_opened = record { waiting = tt; begun = tt; queue = tt; busy = λ t b. absurd (omega arith) }

pub sound_arrives : {j : Job} {m n : State} → Arrives j m n → Sound m → Sound n
sound_arrives (arrives {s} p e h) i = record {
  waiting = all_shuffled (Stands s) _ _ h ((p, omega arith), i.waiting);
  begun = i.begun;
  queue = i.queue;
  busy = λ t lt. elim (i.busy t lt) [ inl a ↦ inl a | inr n ↦ inr (all_shuffled (λ j. t < j.arrival) _ _ h (omega arith, n.0), n.1) ];
}

pub sound_tick : {before : Job → Job → Bool} {m n : State} → Tick before m n → Sound m → Sound n
sound_tick (goes_on {s} {w} {l} h) i = record {
  waiting = All-weaker _ _ (λ j a. (a.0, omega arith)) w i.waiting;
  begun = All-weaker _ _ (λ x a. (a.0, omega arith)) l i.begun;
  queue = i.queue;
  busy = λ t lt. elim (cases_lt t s) [ inl b ↦ i.busy t b | inr e ↦ inl (Sums.any_more _ _ l (All-weaker _ _ (λ x a o. (omega arith, omega arith)) l i.begun) h) ];
}
sound_tick (begins {s} {w} {w'} {l} j ended h least) i =
    let f : AllByRecursion (Stands s) (j ∷ w') = all_shuffled (Stands s) _ _ h i.waiting in
    record {
      waiting = All-weaker _ _ (λ k a. (a.0, omega arith)) w' f.1;
      begun = ((f.0.1, omega arith), All-weaker _ _ (λ x a. (a.0, omega arith)) l i.begun);
      queue = (ended, i.queue);
      busy = λ t lt. elim (cases_lt t s) [
        | inl b ↦ elim (i.busy t b) [
          | inl a ↦ inl (inr a)
          | inr n ↦ let v : AllByRecursion (λ k. t < k.arrival) (j ∷ w') = all_shuffled (λ k. t < k.arrival) _ _ h n.0 in inr (v.1, (inl v.0, n.1))
        ]
        | inr e ↦ inl (inl (omega arith, omega (arith, f.0.0)))
      ];
    }
sound_tick (idles {s} {l} h) i = record {
  waiting = tt;
  begun = All-weaker _ _ (λ x a. (a.0, omega arith)) l i.begun;
  queue = i.queue;
  busy = λ t lt. elim (cases_lt t s) [ inl b ↦ i.busy t b | inr e ↦ inr (tt, All-weaker _ _ (λ x k. inr (omega arith)) l h) ];
}

pub waiting_positive : (m : State) → Sound m → AllByRecursion (λ j. 0 < j.slots) m.waiting
waiting_positive m i = All-weaker _ _ (λ j a. a.0) m.waiting i.waiting

-- what every job has that has arrived, waiting or begun
pub record Each (P : Job → Type 0) (m : State) : Type 0 where
  pub waiting : AllByRecursion P m.waiting
  pub begun : AllByRecursion (λ x. P x.job) m.log

pub each_opened : (P : Job → Type 0) → Each P opened
each_opened P = record { waiting = tt; begun = tt }

pub each_arrives : (P : Job → Type 0) {j : Job} {m n : State} → Arrives j m n → P j → Each P m → Each P n
each_arrives P (arrives p e h) s k = record { waiting = all_shuffled P _ _ h (s, k.waiting); begun = k.begun }

pub each_tick : (P : Job → Type 0) {before : Job → Job → Bool} {m n : State} → Tick before m n → Each P m → Each P n
each_tick P (goes_on h) k = record { waiting = k.waiting; begun = k.begun }
each_tick P (begins j ended h least) k = let f = all_shuffled P _ _ h k.waiting in record { waiting = f.1; begun = (f.0, k.begun) }
each_tick P (idles h) k = record { waiting = tt; begun = k.begun }

-- Once nothing waits, the log is a proper schedule of what arrived.

queue_apart : (xs : List Begun) → Queue xs → Apart xs
queue_apart [] q = tt
queue_apart (x ∷ xs) q = (All-weaker _ _ (λ y e. inr e) xs q.0, queue_apart xs q.1)

log_unidling : (t : ℕ) (l : List Begun) → Sound (state t [] l) → Unidling l
log_unidling t l i s free waits = elim (cases_lt s t) [
  | inr b ↦ absurd (Sums.any_all _ l waits (All-weaker _ _ (λ x h w. omega arith) l i.begun))
  | inl b ↦ elim (i.busy s b) [
    | inl y ↦ Sums.any_more _ _ l (All-weaker _ _ (λ x f o. starts_here x f o) l free) y
    | inr n ↦ Sums.any_more _ _ l (All-weaker _ _ (λ x c w. begins_here x c w) l n.1) waits
  ]
]
  where
    starts_here : (x : Begun) → (x.start < s → end x ≤ s) → OnAir s x → x.start ≡ s
    starts_here x f o = elim (cases_lt x.start s) [ inl b ↦ absurd (omega (arith, f b)) | inr g ↦ omega arith ]

    begins_here : (x : Begun) → (s < x.job.arrival) ⊎ (x.start ≤ s) → Waits s x → x.start ≡ s
    begins_here x (inl c) w = absurd (omega arith)
    begins_here x (inr c) w = omega arith

pub log_proper : (t : ℕ) (l : List Begun) (js : List Job) → Sound (state t [] l) → IsPermutation js (jobs l) → Proper js l
log_proper t l js i all = record { each_once = all; begins = All-weaker _ _ (λ x h. h.0) l i.begun; apart = queue_apart l i.queue; unidling = log_unidling t l i }
