-- What the verdict answers decides the condition.
use Rattle.std.proofs.Common.{◌≡◌, ℕ, ◌≤◌, Bool, true, List, Ok, Err, Result, refl, arith}
use Rattle.std.proofs.ByRecursion.{All-weaker}
use Rattle.std.proofs.lemmas.Bool.{false≢true}
use Rattle.traffic.specs.Curves.{Numbers}
use Rattle.traffic.specs.Laws.{CurveLaws}
use Rattle.verdict.specs.Demand.{works, curves, horizon, blocking}
use Rattle.verdict.specs.Judged.{Judgeable, Judged, Exact}
use Rattle.verdict.specs.Points.{Walked}
use Rattle.verdict.specs.declared.Unfit.{Unfit}
use Rattle.verdict.specs.declared.Unfit.TheVariants.{OutsideLimits, Overloaded, Late}
use Rattle.verdict.proofs.FinitePoints.{passes_by_points}

-- what a walk answers, of channels that may be judged and whose works fit
pub judged_walk : {K : Type 0} (m : K → Numbers) (limits : K → ℕ → Bool) (p rows : ℕ) (ks : List K) → Judgeable limits p rows ks → works m ks ≤ 5040 → (v : Result ℕ Unfit) → Walked (blocking p) (curves m ks) (horizon m ks) v → Judged m limits p rows ks v
judged_walk m limits p rows ks judged few (Ok count) walked = (judged, few, walked)
judged_walk m limits p rows ks judged few (Err (Late point count)) walked = (judged, few, walked)
judged_walk m limits p rows ks judged few (Err OutsideLimits) walked = absurd walked
judged_walk m limits p rows ks judged few (Err Overloaded) walked = absurd walked

pub judged_exact : {K : Type 0} (m : K → Numbers) (limits : K → ℕ → Bool) → ((k : K) (p : ℕ) → 1 ≤ p → p ≤ 255 → limits k p ≡ true → CurveLaws p (m k)) → (p rows : ℕ) (ks : List K) (v : Result ℕ Unfit) → Judged m limits p rows ks v → Exact m limits p rows ks v
judged_exact m limits shaped p rows ks (Err OutsideLimits) judged = (λ e. absurd (false≢true e), λ j. absurd (judged j.0))
judged_exact m limits shaped p rows ks (Err Overloaded) judged = (λ e. absurd (false≢true e), λ j. absurd (omega (arith, judged.1, j.1.works_fit)))
judged_exact m limits shaped p rows ks (Err (Late point count)) judged = (λ e. absurd (false≢true e), λ j. absurd (judged.2.fails (j.1.demand_fits point)))
judged_exact m limits shaped p rows ks (Ok count) judged =
    let j = judged.0 in
    let laws = All-weaker (λ k. limits k p ≡ true) (λ k. CurveLaws p (m k)) (λ k. shaped k p j.least j.most) ks j.within in
    (λ _. (j, passes_by_points m p (blocking p) (λ t u h. omega arith) ks laws judged.1 judged.2.fit), λ _. refl)
