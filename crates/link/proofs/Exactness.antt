-- The verdict's refusals of a hold, and the least allowance, are exact: a link that stands gives the verdict only channels that it can judge.
use Rattle.std.proofs.Common.{◌≡◌, ℕ, Bool, true, false, List, [], ◌∷◌, ◌++◌, length, Ok, Err, Result, sym, refl, subst, inl, inr}
use Rattle.std.proofs.ByRecursion.{All-push}
use Rattle.traffic.specs.Arrivals.{Steps}
use Rattle.traffic.specs.Curves.{Numbers}
use Rattle.verdict.specs.Judged.{Judgeable, Judged}
use Rattle.verdict.specs.Least.{Least}
use Rattle.verdict.specs.declared.Unfit.{Unfit}
use Rattle.verdict.specs.declared.Unfit.TheVariants.{OutsideLimits, Overloaded as Heavy, Late as Fails}
use Rattle.verdict.proofs.Exactness.{judged_exact}
use Rattle.verdict.proofs.Lengthening.{Lawful}
use Rattle.schedule.specs.Theorems.{OnEveryLink, OnTime, Needed}
use Rattle.admission.specs.Exact.{Needful, LeastExact as NeedfulLeast}
use Rattle.admission.proofs.Needed.{exact_needful, least_exact as needful_least}
use Rattle.refusals.specs.declared.Refusal.{Refusal}
use Rattle.link.specs.declared.state.Hold.{Hold}
use Rattle.link.specs.Asking.{LeastUnless, Told}
use Rattle.link.specs.Holding.{HeldOr, Decided}
use Rattle.link.specs.Model.{Model, channels}
use Rattle.link.specs.Promise.{HoldTells, HoldExact, LeastTells, LeastExact}
use Rattle.refusals.specs.Refusals.{decided}
use Rattle.link.specs.Standing.{Standing}
use Rattle.link.proofs.Inversions.{unless_cause, hold_within}

module _ {X S : Type 0} (numbers : X → Numbers) (limits : X → ℕ → Bool) (dated : X → ℕ → X) (steps : X → Steps S) (timely : OnEveryLink limits (OnTime numbers steps)) (needed : OnEveryLink limits (Needed numbers steps)) (law : Lawful numbers limits dated) where
  -- the verdict can judge the counted channels with this one
  abbrev Able : Model X S → X → Type 0
  Able m k = Judgeable limits m.terms.longest (length m.rows) (channels m.rows ++ k ∷ [])

  -- it can if the link stands and is not shut, and the kind keeps its limits
  judgeable : (m : Model X S) (k : X) → Standing numbers limits m → m.terms.shut ≡ false → limits k m.terms.longest ≡ true → Able m k
  judgeable m k s unshut within =
      let r = s.in_range unshut in
      record { least = r.least; most = r.most; few = r.few; within = All-push (λ j. limits j m.terms.longest ≡ true) (channels m.rows) k s.within within }

  -- channels that can be judged are refused exactly if they are defeated
  judged_needful : (p rows : ℕ) (ks : List X) (v : Result ℕ Unfit) → Judged numbers limits p rows ks v → Needful numbers steps limits p rows ks v
  judged_needful p rows ks v j = exact_needful numbers steps limits timely needed p rows ks v (judged_exact numbers limits law.shaped p rows ks v j)

  -- what a hold answers by the verdict
  decided_tells : (m : Model X S) (mat : ℕ) (k : X) (r : Result (Hold × ℕ) Refusal) (o : Model X S) (v : Result ℕ Unfit) →
      Able m k → Judged numbers limits m.terms.longest (length m.rows) (channels m.rows ++ k ∷ []) v →
      Decided numbers limits steps (decided v) m mat k r o → HoldTells numbers limits dated steps m k r
  decided_tells m mat k r o (Err OutsideLimits) able j d = absurd (j able)
  decided_tells m mat k r o (Err Heavy) able j d =
      subst (HoldTells numbers limits dated steps m k) (sym d.0) (record { refused = judged_needful _ _ _ (Err Heavy) j able; number = λ e. inl refl })
  decided_tells m mat k r o (Err (Fails point count)) able j d =
      subst (HoldTells numbers limits dated steps m k) (sym d.0) (record { refused = judged_needful _ _ _ (Err (Fails point count)) j able; number = λ e. inr refl })
  decided_tells m mat k r o (Ok count) able j d =
      subst (HoldTells numbers limits dated steps m k) (sym d.2) (record { refused = judged_needful _ _ _ (Ok count) j able; number = λ e. cc })

  -- a hold that meets no cause before the verdict is refused exactly if the channels with the new one are defeated
  pub holds_exact : (m : Model X S) → Standing numbers limits m → HoldExact numbers limits dated steps m
  holds_exact m s mat k r o holds clear =
      let (v, j, d) = subst (λ x. HeldOr numbers limits steps x m mat k r o) clear holds in
      decided_tells m mat k r o v (judgeable m k s (unless_cause m.terms.shut _ _ clear).0 (hold_within limits m mat k clear)) j d

  -- what least answers by the verdict
  told_tells : (m : Model X S) (k : X) (r : Result (ℕ × ℕ) Refusal) (x : Result (ℕ × ℕ) Unfit) →
      Able m (dated k 40320) → Least numbers limits dated m.terms.longest (length m.rows) (channels m.rows) k x →
      NeedfulLeast numbers steps limits dated m.terms.longest (length m.rows) (channels m.rows) k x → Told x r → LeastTells numbers limits dated steps m k r
  told_tells m k r (Ok found) able least exact told =
      subst (LeastTells numbers limits dated steps m k) (sym told) (record { refused = exact.refused able; number = λ e. cc; carried = exact.carried; shorter = exact.shorter })
  told_tells m k r (Err OutsideLimits) able least exact told = absurd (least able)
  told_tells m k r (Err Heavy) able least exact told =
      subst (LeastTells numbers limits dated steps m k) (sym told) (record { refused = exact.refused able; number = λ e. inl refl; carried = tt; shorter = tt })
  told_tells m k r (Err (Fails point count)) able least exact told =
      subst (LeastTells numbers limits dated steps m k) (sym told) (record { refused = exact.refused able; number = λ e. inr refl; carried = tt; shorter = tt })

  -- least answers the shortest allowance that is not defeated, and refuses exactly if the longest is
  pub least_exact : (m : Model X S) → Standing numbers limits m → LeastExact numbers limits dated steps m
  least_exact m s k r leasts unshut within =
      let (x, least, told) = subst (λ shut. LeastUnless numbers limits dated shut m k r) unshut leasts in
      told_tells m k r x (judgeable m (dated k 40320) s unshut within) least (needful_least numbers steps limits timely needed dated law m.terms.longest (length m.rows) (channels m.rows) k x least) told
