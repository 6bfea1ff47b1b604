-- From one computed test to what every link with these counted channels answers.
use Rattle.std.proofs.Common.{◌≡◌, ℕ, ◌+◌, ◌-◌, ◌<◌, ◌≤◌, Bool, true, false, ◌&&◌, eqb, ltb, leb, List, [], ◌∷◌, ◌++◌, length, Some, Ok, Err, Option, Result, refl, ap, ◌∙◌, subst, subst₂, arith}
use Rattle.std.proofs.ByRecursion.{All-weaker}
use Rattle.std.proofs.lemmas.Bool.Decides.{nat_tests}
use Rattle.std.proofs.lemmas.Bool.{and_parts, ltb-true, cond-false, and_right}
use Rattle.traffic.specs.Laws.{CurveLaws}
use Rattle.verdict.specs.Demand.{works, bursts, curves, horizon, blocking}
use Rattle.verdict.specs.Judged.{Judgeable, Judged}
use Rattle.verdict.specs.Least.{Least, beside}
use Rattle.verdict.specs.Passes.{Passes}
use Rattle.verdict.specs.Points.{rises}
use Rattle.verdict.specs.Stretches.{Stretched, stretch_of}
use Rattle.verdict.specs.declared.Unfit.{Unfit}
use Rattle.verdict.specs.declared.Unfit.TheVariants.{Overloaded as Heavy, Late as Fails}
use Rattle.verdict.proofs.Lengthening.{beside_judgeable}
use Rattle.link.specs.Asking.{StretchUnless, LeastUnless, Told}
use Rattle.link.specs.Holding.{Holds, HeldOr, Decided, hold_cause}
use Rattle.link.specs.Packets.{is_mat_lem}
use Rattle.refusals.specs.Refusals.{decided}
use Rattle.refusals.specs.declared.Refusal.{Refusal}
use Rattle.refusals.specs.declared.Refusal.TheVariants.{Limits, Overloaded, Late}
use Rattle.link.specs.declared.state.Hold.{Hold}
use Rattle.figures.specs.Answers.{Link, Refuses, Counting, Judges, RefusedOn, GrantedOn, LeastOn, StretchOn}
use Rattle.figures.specs.Kinds.{Kind, numbers, limits, dated, steps}
use Rattle.figures.proofs.Laws.{shaped, lawful}
use Rattle.figures.proofs.Tests.{failing, fails_tested, passing, passes_tested}
use Rattle.figures.proofs.Verdicts.{late_only, overloaded_only, stretch_only, granted_only, grant, least_is, least_only}

-- the longest packet is 1 to 255 slots, and each channel keeps its limits
abbrev pub in_range : ℕ → List Kind → Bool
in_range p [] = leb 1 p && leb p 255
in_range p (k ∷ ks) = limits k p && in_range p ks

judgeable : (p rows : ℕ) → rows ≤ 32 → (ks : List Kind) → in_range p ks ≡ true → Judgeable limits p rows ks
judgeable p rows few [] h =
    record { least = grind (arith, nat_tests); most = grind (arith, nat_tests); few = few; within = tt }
judgeable p rows few (k ∷ ks) h =
    let a = and_parts (limits k p) (in_range p ks) h in
    let j = judgeable p rows few ks a.1 in
    record { least = j.least; most = j.most; few = few; within = (a.0, j.within) }

passes_judgeable : (p rows n : ℕ) (ks : List Kind) → Judgeable limits p rows ks → passing numbers p n ks ≡ true → Passes numbers (blocking p) ks
passes_judgeable p rows n ks j =
    passes_tested numbers p n ks (All-weaker (λ k. limits k p ≡ true) (λ k. CurveLaws p (numbers k)) (λ k. shaped k p j.least j.most) ks j.within)

-- they may be judged, and pass: every t below n fits, and from n on their line does
abbrev pub grant_test : ℕ → ℕ → List Kind → Bool
grant_test p n ks = in_range p ks && passing numbers p n ks

grant_parts : (p rows : ℕ) → rows ≤ 32 → (n : ℕ) (ks : List Kind) → grant_test p n ks ≡ true → Judgeable limits p rows ks × Passes numbers (blocking p) ks
grant_parts p rows few n ks h =
    let a = and_parts (in_range p ks) _ h in
    let j = judgeable p rows few ks a.0 in
    (j, passes_judgeable p rows n ks j a.1)

-- the verdict that a granted hold has in a history
pub granting : (p rows : ℕ) → rows ≤ 32 → (n : ℕ) (ks : List Kind) → grant_test p n ks ≡ true → (count : ℕ) × Judged numbers limits p rows ks (Ok count)
granting p rows few n ks h = let (j, passes) = grant_parts p rows few n ks h in grant numbers limits p rows ks j shaped passes

-- What a hold comes to.

module _ (p : ℕ) (ks : List Kind) (k : Kind) where
  -- the channels that the verdict judges
  abbrev judged : List Kind
  judged = ks ++ k ∷ []

  abbrev demand : ℕ → ℕ
  demand = curves numbers judged

  -- a hold that nothing refuses before is decided by the verdict
  judged_by : (m : Link) → Counting p ks m → (mat : ℕ) → Judges m mat k → (r : Result (Hold × ℕ) Refusal) (o : Link) → Holds numbers limits steps m mat k r o →
      (v : Result ℕ Unfit) × Judged numbers limits p (length m.rows) judged v × Decided numbers limits steps (decided v) m mat k r o
  judged_by m c mat none r o holds =
      let (v, judges, decides) = subst (λ (x : Option Refusal). HeldOr numbers limits steps x m mat k r o) none holds in
      (v, subst₂ (λ (q : ℕ) (cs : List Kind). Judged numbers limits q (length m.rows) (cs ++ k ∷ []) v) c.longest c.counted judges, decides)

  -- where the verdict can only be one refusal, so is the answer
  refused_only : (v : Result ℕ Unfit) (e : Refusal) → decided v ≡ Err e → ((rows : ℕ) → rows ≤ 32 → (w : Result ℕ Unfit) → Judged numbers limits p rows judged w → w ≡ v) → RefusedOn p ks k e
  refused_only v e is only m c mat none r o holds =
      let (w, judges, decides) = judged_by m c mat none r o holds in
      subst (λ (x : Result ℕ Refusal). Decided numbers limits steps x m mat k r o) (ap decided (only (length m.rows) c.few w judges) ∙ is) decides

  -- they may be judged, their works fit a frame, the point is the first that fails, and so many points lie up to it
  abbrev late_test : ℕ → ℕ → Bool
  late_test point count =
      in_range p judged && (leb (works numbers judged) 5040 && (failing (blocking p) demand (horizon numbers judged) point && eqb count (rises demand (point + 1))))

  pub refusing : (rows : ℕ) → rows ≤ 32 → (point count : ℕ) → late_test point count ≡ true → Judged numbers limits p rows judged (Err (Fails point count))
  refusing rows few point count h =
      let (range, light, fails, counted) : (in_range p judged ≡ true) × (works numbers judged ≤ 5040) × (failing (blocking p) demand (horizon numbers judged) point ≡ true) × (count ≡ rises demand (point + 1)) = grind (arith, nat_tests) in
      (judgeable p rows few judged range, light, fails_tested (blocking p) demand (horizon numbers judged) point count fails counted)

  pub late_on : (point count : ℕ) → late_test point count ≡ true → RefusedOn p ks k (Late point count)
  late_on point count h =
      refused_only (Err (Fails point count)) (Late point count) refl
      (λ rows small. let (j, few, first) = refusing rows small point count h in late_only numbers limits p rows judged j point count few first)

  pub overloaded_on : (in_range p judged && ltb 5040 (works numbers judged)) ≡ true → RefusedOn p ks k Overloaded
  overloaded_on h =
      let a = and_parts (in_range p judged) _ h in
      refused_only (Err Heavy) Overloaded refl (λ rows few. overloaded_only numbers limits p rows judged (judgeable p rows few judged a.0) (ltb-true 5040 _ a.1))

  pub granted_on : (n : ℕ) → grant_test p n judged ≡ true → GrantedOn p ks k
  granted_on n h m c mat none r o holds =
      let (j, passes) = grant_parts p (length m.rows) c.few n judged h in
      let (v, judges, decides) = judged_by m c mat none r o holds in
      let (count, is) = granted_only numbers limits p (length m.rows) judged j shaped passes v judges in
      let there = subst (λ (x : Result ℕ Unfit). Decided numbers limits steps (decided x) m mat k r o) is decides in
      (count, there.2)

  -- What least comes to.

  abbrev wide : Kind
  wide = dated k 40320

  abbrev beside_dated : ℕ → List Kind
  beside_dated = beside numbers dated p ks wide

  -- d passes, and with one slot less f is the first point that fails
  abbrev least_test : ℕ → ℕ → ℕ → Bool
  least_test n d f =
      in_range p (ks ++ wide ∷ []) && (ltb (numbers wide).longest d && (leb d 40320 && (passing numbers p n (beside_dated d)
      && failing (blocking p) (curves numbers (beside_dated (d - 1))) (horizon numbers (beside_dated (d - 1))) f)))

  pub least_on : (n d f : ℕ) → least_test n d f ≡ true → LeastOn p ks k d f
  least_on n d f h m c r leasts =
      let range : in_range p (ks ++ wide ∷ []) ≡ true = grind (arith, nat_tests) in
      let above : (numbers wide).longest < d = grind (arith, nat_tests) in
      let most : d ≤ 40320 = grind (arith, nat_tests) in
      let passing_there : passing numbers p n (beside_dated d) ≡ true = grind (arith, nat_tests) in
      let fails : failing (blocking p) (curves numbers (beside_dated (d - 1))) (horizon numbers (beside_dated (d - 1))) f ≡ true = grind (arith, nat_tests) in
      let j = judgeable p (length m.rows) c.few (ks ++ wide ∷ []) range in
      let passes = passes_judgeable p (length m.rows) n (beside_dated d) (beside_judgeable numbers limits dated lawful p (length m.rows) ks wide j d (omega arith) most) passing_there in
      let first = fails_tested (blocking p) (curves numbers (beside_dated (d - 1))) (horizon numbers (beside_dated (d - 1))) f _ fails refl in
      let is = least_is numbers limits dated lawful p (length m.rows) ks k j d f _ above most passes first in
      let (s, least, told) = subst (λ (x : Bool). LeastUnless numbers limits dated x m k r) c.unshut leasts in
      let there = subst₂ (λ (q : ℕ) (cs : List Kind). Least numbers limits dated q (length m.rows) cs k s) c.longest c.counted least in
      subst (λ (x : Result (ℕ × ℕ) Unfit). Told x r) (least_only numbers limits dated lawful p (length m.rows) ks k j d f above is s there) told

-- What stretch comes to.

pub stretch_on : (p : ℕ) (ks : List Kind) → (in_range p ks && ltb (works numbers ks) 5040) ≡ true → StretchOn p ks (stretch_of p (works numbers ks) (bursts numbers ks))
stretch_on p ks h m c r stretches =
    let a = and_parts (in_range p ks) _ h in
    let (s, stretched, told) = subst (λ (x : Bool). StretchUnless numbers limits x m r) c.unshut stretches in
    let there = subst₂ (λ (q : ℕ) (cs : List Kind). Stretched numbers limits q (length m.rows) cs s) c.longest c.counted stretched in
    subst (λ (x : Result ℕ Unfit). Told x r) (stretch_only numbers limits p (length m.rows) ks (judgeable p (length m.rows) c.few ks a.0) (ltb-true _ 5040 a.1) s there) told

-- A kind outside its limits.

pub outside_on : (p : ℕ) (k : Kind) → limits k p ≡ false → (ks : List Kind) (m : Link) → Counting p ks m → (mat : ℕ) → Refuses Limits m mat k
outside_on p k out ks m c mat r o holds = subst (λ (x : Option Refusal). HeldOr numbers limits steps x m mat k r o) cause holds
  where
    cause : hold_cause limits m mat k ≡ Some Limits
    cause = cond-false m.terms.shut _ _ c.unshut ∙ cond-false (is_mat_lem mat && limits k m.terms.longest) _ _ (and_right (is_mat_lem mat) _ (ap (limits k) c.longest ∙ out))
