-- Busy streaks: every slot since q carried a channel's job, but for b slots. How long one lasts is bounded by the channels' numbers.
use Rattle.std.proofs.Common.{◌≡◌, ℕ, suc, ◌+◌, ◌-◌, ◌*◌, ◌<◌, ◌≤◌, Bool, cond, ◌&&◌, ltb, List, [], ◌∷◌, ap, arith}
use Rattle.std.specs.List.{AllByRecursion}
use Rattle.std.proofs.ByRecursion.{All-weaker}
use Rattle.std.proofs.lemmas.Bool.{and_right}
use Rattle.std.proofs.lemmas.Bool.Decides.{nat_tests}
use Rattle.traffic.specs.Arrivals.{Steps}
use Rattle.traffic.specs.Curves.{Numbers}
use Rattle.traffic.specs.Laws.{CurveLaws, TrafficLaws}
use Rattle.verdict.specs.Demand.{total, works}
use Rattle.schedule.specs.Arrivals.{Offers, offered}
use Rattle.schedule.specs.Core.{State, opened, Arrives, arrives, Tick}
use Rattle.schedule.specs.Jobs.{Job, timed}
use Rattle.schedule.specs.Orders.{Closed}
use Rattle.schedule.specs.Schedules.{Begun}
use Rattle.schedule.proofs.Counts.{waits, left, unsent, ahead, asked, asks, weigh, none_left, clock_tick, weigh_tick, advance, waits_more, asked_more}
use Rattle.schedule.proofs.Logs.{Queue, Sound, waiting_positive}
use Rattle.schedule.proofs.Offers.{asks_before, offers_since}
use Rattle.schedule.proofs.Owners.{Owned, asks_since}
use Rattle.schedule.proofs.Sums

abbrev pub Streak : ℕ → ℕ → State → Type 0
Streak b q m = ahead timed m + m.clock ≤ b + asked timed q m + q

pub streak_opened : Streak 0 0 opened
streak_opened = omega arith

-- where no channel's job is unsent a streak begins, with what is left of the bulk job on the air
pub streak_anew : (m : State) → unsent timed m ≡ 0 → Streak (left m.clock m.log) m.clock m
streak_anew m z = omega arith

-- at most one job is under way, and a slot of it has been sent
pub left_short : (p : ℕ) (m : State) → Sound m → AllByRecursion (λ x. x.job.slots ≤ p) m.log → left m.clock m.log ≤ p - 1
left_short p m i h = newest m.clock m.log (All-weaker _ _ (λ x b. b.1) m.log i.begun) i.queue h
  where
    newest : (s : ℕ) (l : List Begun) → AllByRecursion (λ x. x.start < s) l → Queue l → AllByRecursion (λ x. x.job.slots ≤ p) l → left s l ≤ p - 1
    newest s [] b c h = omega arith
    newest s (x ∷ xs) b c h = omega (arith, none_left x.start s xs (omega arith) c.0)

pub streak_wider : (b b' q : ℕ) (m : State) → b ≤ b' → Streak b q m → Streak b' q m
streak_wider b b' q m l v = omega arith

pub streak_arrives : (b q : ℕ) {j : Job} {m n : State} → Arrives j m n → q ≤ m.clock → Streak b q m → Streak b q n
streak_arrives b q {j} (arrives {s} {w} {w'} p e h) since v = omega (arith, waits_more timed j w w' h, asked_more timed j w w' h q (omega arith))

-- it lasts while each slot finds something ahead
pub streak_tick : (before : Job → Job → Bool) → Closed before timed → (b q : ℕ) {m n : State} → Tick before m n → Sound m → 0 < ahead timed m → Streak b q m → Streak b q n
streak_tick before closed b q {m} t i p v = omega (arith, clock_tick t, weigh_tick t (asks timed q), (advance before timed closed t (waiting_positive m i)).falls p)

-- How long it lasts.

asked_waits : (q : ℕ) (w : List Job) → total (asks timed q) w ≤ waits timed w
asked_waits q [] = omega arith
asked_waits q (j ∷ w) =
    let here : asks timed q j ≤ cond (timed j) j.slots 0 = grind (arith, nat_tests) in
    omega (arith, asked_waits q w)

begun_before : (s q : ℕ) (l : List Begun) → AllByRecursion (λ x. x.job.arrival < s) l → total (λ x. asks timed q x.job) l ≤ total (λ x. asks_before s q x.job) l
begun_before s q [] h = omega arith
begun_before s q (x ∷ l) h =
    let lt = h.0 in
    let here : asks timed q x.job ≤ asks_before s q x.job = grind (arith, nat_tests) in
    omega (arith, begun_before s q l h.1)

-- what arrives in the slot that the clock shows waits, so the slots so far carried what arrived before
streak_before : (b q : ℕ) (m : State) → Sound m → Streak b q m → m.clock ≤ b + weigh (asks_before m.clock q) m + q
streak_before b q m i v =
    omega (
      arith,
      asked_waits q m.waiting,
      begun_before m.clock q m.log (All-weaker _ _ (λ x h. omega arith) m.log i.begun),
      Sums.total-map (λ x. x.job) (asks timed q) m.log,
      Sums.total-map (λ x. x.job) (asks_before m.clock q) m.log,
    )

-- the sum of the curves stays under the sum of their straight lines
lines : {K : Type 0} (numbers : K → Numbers) (p n : ℕ) (ks : List K) → AllByRecursion (λ k. CurveLaws p (numbers k)) ks →
    5040 * total (λ k. (numbers k).curve ((numbers k).allowance + n)) ks ≤ 5040 * total (λ k. (numbers k).burst) ks + n * works numbers ks
lines numbers p n [] h = omega arith
lines numbers p n (k ∷ ks) h = omega (arith, h.0.under_line n, lines numbers p n ks h.1)

module _ {K S : Type 0} (numbers : K → Numbers) (steps : K → Steps S) (ks : List K) (laws : AllByRecursion (λ k. TrafficLaws (numbers k) (steps k)) ks)
    (o : Offers numbers steps ks) (q b : ℕ) (m : State) (sound : Sound m) (owned : Owned q (offered numbers steps ks o) m) (streak : Streak b q m) (since : q < m.clock) where
  -- by the curves
  pub streak_curves : m.clock - q ≤ b + total (λ k. (numbers k).curve ((numbers k).allowance + (m.clock - 1 - q))) ks
  streak_curves =
      omega (
        arith,
        streak_before b q m sound streak,
        owned (asks_before m.clock q) (asks_since q q (λ j. ltb j.arrival m.clock && timed j) (omega arith) (λ j n. and_right (ltb j.arrival m.clock) (timed j) n)),
        offers_since numbers steps ks laws o q m.clock since,
      )

  -- by the straight lines: the slots since q, times what the works leave of a frame
  pub streak_line : (p : ℕ) → AllByRecursion (λ k. CurveLaws p (numbers k)) ks → works numbers ks ≤ 5040 → (m.clock - q) * (5040 - works numbers ks) ≤ 5040 * (b + total (λ k. (numbers k).burst) ks)
  streak_line p shaped few =
      let n : ℕ = m.clock - 1 - q in
      let long : m.clock - q ≡ suc n = omega arith in
      let whole : 5040 - works numbers ks + works numbers ks ≡ 5040 = omega arith in
      rw long (omega (arith, streak_curves, lines numbers p n ks shaped, ap (λ x. suc n * x) whole))
