-- Whose the jobs are: the channels' jobs that came since q are among given ones, however jobs are weighed.
use Rattle.std.proofs.Common.{◌≡◌, ℕ, ◌+◌, ◌<◌, ◌≤◌, Bool, false, List, arith}
use Rattle.std.proofs.ByRecursion.{All-weaker}
use Rattle.std.proofs.lemmas.Bool.Decides.{nat_tests}
use Rattle.verdict.specs.Demand.{total}
use Rattle.schedule.specs.Core.{State, Arrives, Tick}
use Rattle.schedule.specs.Jobs.{Job, timed}
use Rattle.schedule.proofs.Counts.{asks, weigh, clock_tick, weigh_tick, weigh_arrives}
use Rattle.schedule.proofs.Logs.{Sound}
use Rattle.schedule.proofs.Sums

-- weighs neither bulk nor what arrived before q
pub record OnlySince (q : ℕ) (f : Job → ℕ) : Type 0 where
  pub early : (j : Job) → j.arrival < q → f j ≡ 0
  pub bulk : (j : Job) → timed j ≡ false → f j ≡ 0

abbrev pub Owned : ℕ → List Job → State → Type 0
Owned q js m = (f : Job → ℕ) → OnlySince q f → weigh f m ≤ total f js

pub asks_since : (q a : ℕ) (X : Job → Bool) → q ≤ a → ((j : Job) → timed j ≡ false → X j ≡ false) → OnlySince q (asks X a)
asks_since q a X l out = record {
  early = λ j e. grind (arith, nat_tests);
  bulk = λ j n. let none = out j n in grind (arith, nat_tests);
}

-- Steps keep the jobs among the given ones.

pub owned_tick : (q : ℕ) (js : List Job) {before : Job → Job → Bool} {m n : State} → Tick before m n → Owned q js m → Owned q js n
owned_tick q js t own f s = omega (arith, own f s, weigh_tick t f)

-- a channel's job is added to them
pub owned_arrives : (q : ℕ) (js js' : List Job) {j : Job} {m n : State} → Arrives j m n → ((f : Job → ℕ) → total f js' ≡ f j + total f js) → Owned q js m → Owned q js' n
owned_arrives q js js' a more own f s = omega (arith, own f s, weigh_arrives a f, more f)

-- bulk is nobody's
pub owned_bulk : (q : ℕ) (js : List Job) {j : Job} {m n : State} → Arrives j m n → timed j ≡ false → Owned q js m → Owned q js n
owned_bulk q js {j} a b own f s = omega (arith, own f s, weigh_arrives a f, s.bulk j b)

-- just after a slot nothing has come since
pub owned_anew : (js : List Job) {before : Job → Job → Bool} {m n : State} → Tick before m n → Sound m → Owned n.clock js n
owned_anew js {before} {m} {n} t i f s =
    omega (
      arith,
      weigh_tick t f,
      Sums.total-none f m.waiting (All-weaker _ _ (λ j h. s.early j (omega (arith, clock_tick t))) m.waiting i.waiting),
      Sums.total-map (λ x. x.job) f m.log,
      Sums.total-none (λ x. f x.job) m.log (All-weaker _ _ (λ x h. s.early x.job (omega (arith, clock_tick t))) m.log i.begun),
    )
