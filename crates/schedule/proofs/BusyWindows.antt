-- The invariant of the core machine: for every down-set of the order, a busy window that accounts for all its unsent slots.
use Rattle.std.proofs.Common.{◌≡◌, ℕ, ◌+◌, ◌-◌, ◌<◌, ◌≤◌, Bool, true, false, cond, ◌⊎◌, List, [], ◌∷◌, refl, inl, inr, arith}
use Rattle.std.specs.List.{AllByRecursion}
use Rattle.std.proofs.lemmas.Bool.{cases_lt, cases_Bool, cond-true}
use Rattle.std.proofs.ByRecursion.{All-weaker, all_shuffled}
use Rattle.schedule.specs.Core.{State, opened, Arrives, arrives, Tick, goes_on, begins, idles}
use Rattle.schedule.specs.Jobs.{Job, timed}
use Rattle.schedule.specs.Orders.{DownSet}
use Rattle.schedule.specs.Schedules.{Begun, end, Any}
use Rattle.schedule.proofs.Counts.{rest, left, unsent, ahead, asked, none_left, unsent_ahead, unsent_within, clock_tick, weigh_tick, asks, advance, waits_more, asked_more}
use Rattle.schedule.proofs.Logs.{Queue, Sound, sound_opened, sound_arrives, sound_tick, waiting_positive}
use Rattle.schedule.proofs.Sums

-- a job outside X that was on the air when slot a began and arrived before it, of more than b slots; if it is no bulk, it arrived in q or later
pub record Blocks (X : Job → Bool) (q a b : ℕ) (x : Begun) : Type 0 where
  pub outside : X x.job ≡ false
  pub early : x.job.arrival < a
  pub under_way : (x.start < a) × (a < end x)
  pub longer : b + 1 ≤ x.job.slots
  pub recent : timed x.job ≡ true → q ≤ x.job.arrival

-- since slot `from`, not before q, every slot but `blocked` of them carried jobs of X, and these arrived since then
pub record Window (X : Job → Bool) (q : ℕ) (m : State) : Type 0 where
  pub from : ℕ
  pub blocked : ℕ
  pub not_before : q ≤ from
  pub not_after : from ≤ m.clock
  pub arrived_since : unsent X m ≤ asked X from m
  pub covered : ahead X m + m.clock ≤ blocked + asked X from m + from
  -- the job that blocked it, kept itself: what it can cost is read off where the window is used
  pub blocker : (blocked ≡ 0) ⊎ Any (Blocks X q from blocked) m.log

abbrev pub Covered : (Job → Bool) → ℕ → State → Type 0
Covered X q m = (unsent X m ≡ 0) ⊎ Window X q m

-- every channel's job that is not all sent arrived in q or later
pub record Recent (q : ℕ) (m : State) : Type 0 where
  pub waiting : AllByRecursion (λ j. timed j ≡ true → q ≤ j.arrival) m.waiting
  pub begun : AllByRecursion (λ x. m.clock < end x → timed x.job ≡ true → q ≤ x.job.arrival) m.log

-- what every step keeps, where q is any slot since which the account is kept
pub record Kept (before : Job → Job → Bool) (q : ℕ) (m : State) : Type 0 where
  pub sound : Sound m
  pub since : q ≤ m.clock
  pub recent : Recent q m
  pub covered : (X : Job → Bool) → DownSet before X → Covered X q m

-- Recent.

recent_arrives : (q : ℕ) {j : Job} {m n : State} → Arrives j m n → q ≤ m.clock → Recent q m → Recent q n
recent_arrives q (arrives p e h) l r = record { waiting = all_shuffled (λ j. timed j ≡ true → q ≤ j.arrival) _ _ h ((λ t. omega arith), r.waiting); begun = r.begun }

recent_tick : (q : ℕ) {before : Job → Job → Bool} {m n : State} → Tick before m n → Recent q m → Recent q n
recent_tick q (goes_on {s} {w} {l} h) r = record { waiting = r.waiting; begun = All-weaker _ _ (λ x a b. a (omega arith)) l r.begun }
recent_tick q (begins {s} {w} {w'} {l} j ended h least) r =
    let f = all_shuffled (λ j. timed j ≡ true → q ≤ j.arrival) _ _ h r.waiting in
    record { waiting = f.1; begun = ((λ b. f.0), All-weaker _ _ (λ x a b. a (omega arith)) l r.begun) }
recent_tick q (idles {s} {l} h) r = record { waiting = tt; begun = All-weaker _ _ (λ x a b. a (omega arith)) l r.begun }

recent_none : (q : ℕ) (m : State) → Sound m → unsent timed m ≡ 0 → Recent q m
recent_none q m i z = record {
  waiting = Sums.all_zip _ _ _ (λ j a b y. absurd (omega (arith, cond-true (timed j) j.slots 0 y))) m.waiting (waiting_positive m i) (Sums.none_total (λ j. cond (timed j) j.slots 0) m.waiting (omega arith));
  begun = All-weaker _ _ (λ x a b y. absurd (omega (arith, cond-true (timed x.job) (end x - m.clock) 0 y))) m.log (Sums.none_total (λ x. cond (timed x.job) (end x - m.clock) 0) m.log (omega arith));
}

-- Windows.

-- where nothing of X is unsent, only the newest job can be on the air, and it is outside X
blocker_now : (X : Job → Bool) (q s : ℕ) (l : List Begun) → AllByRecursion (λ x. (x.job.arrival ≤ x.start) × (x.start < s)) l → Queue l →
    AllByRecursion (λ x. s < end x → timed x.job ≡ true → q ≤ x.job.arrival) l → rest X s l ≡ 0 → (left s l ≡ 0) ⊎ Any (Blocks X q s (left s l)) l
blocker_now X q s [] b c r z = inl refl
blocker_now X q s (x ∷ xs) b c r z =
    let e : left s xs ≡ 0 = none_left x.start s xs (omega arith) c.0 in
    elim (cases_lt s (end x)) [
      | inr g ↦ inl (omega arith)
      | inl g ↦ elim (cases_Bool (X x.job)) [
        | inl y ↦ absurd (omega (arith, cond-true (X x.job) (end x - s) 0 y))
        | inr n ↦ inr (inl (record { outside = n; early = omega arith; under_way = (omega arith, g); longer = omega arith; recent = r.0 g }))
      ]
    ]

log_grows : {before : Job → Job → Bool} {m n : State} → Tick before m n → (P : Begun → Type 0) → Any P m.log → Any P n.log
log_grows (goes_on h) P a = a
log_grows (begins j h e l) P a = inr a
log_grows (idles h) P a = a

module _ (X : Job → Bool) (q : ℕ) where
  covered_arrives : {j : Job} {m n : State} → Arrives j m n → Sound m → Recent q m → q ≤ m.clock → Covered X q m → Covered X q n
  covered_arrives {j} (arrives {s} {w} {w'} {l} p e h) i r since v =
      let c = waits_more X j w w' h in
      elim v [
        | inl z ↦
            let d = asked_more X j w w' h s (omega arith) in
            inr (record {
              from = s;
              blocked = left s l;
              not_before = since;
              not_after = omega arith;
              arrived_since = omega arith;
              covered = omega arith;
              blocker = blocker_now X q s l i.begun i.queue r.begun (omega arith);
            })
        | inr t ↦
            let d = asked_more X j w w' h t.from (omega arith) in
            inr (record {
              from = t.from;
              blocked = t.blocked;
              not_before = t.not_before;
              not_after = t.not_after;
              arrived_since = omega arith;
              covered = omega arith;
              blocker = t.blocker;
            })
      ]

  covered_tick : {before : Job → Job → Bool} → DownSet before X → {m n : State} → Tick before m n → Sound m → Covered X q m → Covered X q n
  covered_tick {before} down {m} k i v =
      let a = advance before X down.closed k (waiting_positive m i) in
      elim v [
        | inl z ↦ inl (omega arith)
        | inr t ↦ elim (cases_lt 0 (unsent X m)) [
          | inr z ↦ inl (omega arith)
          | inl p ↦
              let same = weigh_tick k (asks X t.from) in
              inr (record {
                from = t.from;
                blocked = t.blocked;
                not_before = t.not_before;
                not_after = omega (arith, clock_tick k);
                arrived_since = omega arith;
                covered = omega (arith, clock_tick k, a.falls (omega (arith, unsent_ahead X m)));
                blocker = elim t.blocker [ inl z ↦ inl z | inr y ↦ inr (log_grows k _ y) ];
              })
        ]
      ]

-- Steps keep it.

module _ (before : Job → Job → Bool) where
  pub kept_opened : Kept before 0 opened
  kept_opened = record { sound = sound_opened; since = omega arith; recent = record { waiting = tt; begun = tt }; covered = λ X d. inl refl }

  pub kept_arrives : (q : ℕ) {j : Job} {m n : State} → Arrives j m n → Kept before q m → Kept before q n
  kept_arrives q a k = record {
    sound = sound_arrives a k.sound;
    since = clock_kept a k.since;
    recent = recent_arrives q a k.since k.recent;
    covered = λ X d. covered_arrives X q a k.sound k.recent k.since (k.covered X d);
  }
    where
      clock_kept : {j : Job} {m n : State} → Arrives j m n → q ≤ m.clock → q ≤ n.clock
      clock_kept (arrives p e h) l = l

  pub kept_tick : (q : ℕ) {m n : State} → Tick before m n → Kept before q m → Kept before q n
  kept_tick q t k = record {
    sound = sound_tick t k.sound;
    since = omega (arith, clock_tick t);
    recent = recent_tick q t k.recent;
    covered = λ X d. covered_tick X q d t k.sound (k.covered X d);
  }

  -- where no channel's job is unsent, the account may begin anew
  pub kept_anew : (q : ℕ) (m : State) → Kept before q m → unsent timed m ≡ 0 → Kept before m.clock m
  kept_anew q m k z = record {
    sound = k.sound;
    since = omega arith;
    recent = recent_none m.clock m k.sound z;
    covered = λ X d. inl (omega (arith, unsent_within X timed d.no_bulk m));
  }

  -- a quiet slot: nothing is under way and no channel's job waits; from the slot after it the account begins anew
  pub kept_quiet : (q : ℕ) → DownSet before timed → {m n : State} → Tick before m n → Kept before q m → ahead timed m ≡ 0 → Kept before n.clock n
  kept_quiet q down {m} {n} t k z = kept_anew q n (kept_tick q t k) (omega (arith, (advance before timed down.closed t (waiting_positive m k.sound)).less, unsent_ahead timed m))

-- The read_off, for any X: D is when X must be sent, G a bounds what X asks for from slot a on, and β a what blocks it there.

pub read_off : (X : Job → Bool) (q D : ℕ) (G β : ℕ → ℕ) (m : State) → ((a : ℕ) → 0 < G a → G a + β a + a ≤ D) → ((a : ℕ) → q ≤ a → asked X a m ≤ G a) →
    ((a b : ℕ) → Any (Blocks X q a b) m.log → b ≤ β a) → Covered X q m → 0 < unsent X m → m.clock + unsent X m ≤ D
read_off X q D G β m fits bounded blocked (inl z) p = absurd (omega arith)
read_off X q D G β m fits bounded blocked (inr t) p =
    let b : asked X t.from m ≤ G t.from = bounded t.from t.not_before in
    let short : t.blocked ≤ β t.from = elim t.blocker [ inl z ↦ omega arith | inr y ↦ blocked t.from t.blocked y ] in
    omega (arith, fits t.from (omega arith), unsent_ahead X m)
