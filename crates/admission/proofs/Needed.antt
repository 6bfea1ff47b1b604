-- From the condition to schedules: the verdict and the least allowance are exact.
use Rattle.std.proofs.Common.{ℕ, Bool, true, false, not, List, Ok, Err, Decides, Result, is_ok, refl, arith}
use Rattle.std.proofs.lemmas.Bool.{false≢true}
use Rattle.traffic.specs.Arrivals.{Steps}
use Rattle.traffic.specs.Curves.{Numbers}
use Rattle.verdict.specs.Judged.{Judgeable, Exact}
use Rattle.verdict.specs.Least.{Least}
use Rattle.verdict.specs.declared.Unfit.{Unfit}
use Rattle.verdict.specs.declared.Unfit.TheVariants.{OutsideLimits, Overloaded, Late}
use Rattle.verdict.proofs.Lengthening.{Lawful, passes_raised, beside_judgeable, longest_most}
use Rattle.schedule.specs.Theorems.{OnLink, OnEveryLink, OnTime, Needed}
use Rattle.admission.specs.Exact.{Needful, LeastExact}

-- what decides one of two opposites decides the other by its negation
opposite : (b : Bool) {P U : Type 0} → Decides b P → ((P → ⊥) → U) → (P → U → ⊥) → Decides (not b) U
opposite true d refuse clash = (λ e. absurd (false≢true e), λ u. absurd (clash (d.0 refl) u))
opposite false d refuse clash = (λ _. refuse (λ p. false≢true (d.1 p)), λ _. refl)

module _ {K S : Type 0} (m : K → Numbers) (steps : K → Steps S) (limits : K → ℕ → Bool) (timely : OnEveryLink limits (OnTime m steps)) (needed : OnEveryLink limits (Needed m steps)) where
  on_link : {p rows : ℕ} {ks : List K} → Judgeable limits p rows ks → OnLink limits p ks
  on_link j = record { least = j.least; most = j.most; within = j.within }

  pub exact_needful : (p rows : ℕ) (ks : List K) (v : Result ℕ Unfit) → Exact m limits p rows ks v → Needful m steps limits p rows ks v
  exact_needful p rows ks v exact j =
      opposite (is_ok v) exact (λ fails. (needed p ks (on_link j)).refused (λ passes. fails (j, passes))) (λ passes. (timely p ks (on_link j)).schedulable passes.1)

  pub least_exact : (dated : K → ℕ → K) → Lawful m limits dated → (p rows : ℕ) (ks : List K) (k : K) (r : Result (ℕ × ℕ) Unfit) → Least m limits dated p rows ks k r → LeastExact m steps limits dated p rows ks k r
  least_exact dated law p rows ks k (Ok found) (judged, least) =
      let wide = dated k 40320 in
      let there = beside_judgeable m limits dated law p rows ks wide judged in
      let longest = longest_most m limits dated law p rows ks wide judged in
      record {
        refused = λ _. (λ e. absurd (false≢true e), λ defeated. absurd ((timely p _ (on_link (there 40320 (omega arith) (omega arith)))).schedulable (passes_raised m limits dated law p rows ks wide judged found.0 40320 least.least least.most (omega arith) least.passes) defeated));
        carried = (timely p _ (on_link (there found.0 least.least least.most))).schedulable least.passes;
        shorter = λ e from below. (needed p _ (on_link (there e from (omega (arith, least.most))))).refused (least.shorter e from below);
      }
  least_exact dated law p rows ks k (Err OutsideLimits) outside = record { refused = λ j. absurd (outside j); carried = tt; shorter = tt }
  least_exact dated law p rows ks k (Err Overloaded) (judged, at) =
      record { refused = λ _. (λ _. (needed p _ (on_link at.0)).overload at.1, λ _. refl); carried = tt; shorter = tt }
  least_exact dated law p rows ks k (Err (Late point count)) (judged, at) =
      record { refused = λ _. (λ _. (needed p _ (on_link at.0)).refused (λ passes. at.2.fails (passes.demand_fits point)), λ _. refl); carried = tt; shorter = tt }
