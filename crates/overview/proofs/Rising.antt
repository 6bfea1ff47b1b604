-- The rises of a sum of two functions that never fall.
use Rattle.std.proofs.Common.{◌≡◌, ℕ, ◌+◌, ◌-◌, ◌<◌, ◌≤◌, min, ◌⊎◌, List, [], ◌∷◌, Some, None, Option, fold, refl, ap, ◌∙◌, subst, inl, inr, ⊎_elim, arith}
use Rattle.std.specs.List.{AllByRecursion, AllZip, reduce, cons_option, filter_map}
use Rattle.std.proofs.lemmas.Bool.{cases_lt}
use Rattle.traffic.specs.Curves.{Numbers, before, Rises, NextRise}
use Rattle.traffic.specs.Laws.{CurveLaws}
use Rattle.traffic.specs.Staircase.{before_later, flat_no_rise}
use Rattle.traffic.specs.declared.Row.{Row}
use Rattle.verdict.specs.Demand.{curves}
use Rattle.verdict.specs.Members.{kinds}
use Rattle.verdict.proofs.FinitePoints.{curves_never_fall}

-- the smaller of two, where there are two
abbrev pub sooner : Option ℕ → Option ℕ → Option ℕ
sooner None b = b
sooner (Some x) None = Some x
sooner (Some x) (Some y) = Some (min x y)

module _ (F G sum : ℕ → ℕ) (up-F : (t u : ℕ) → t ≤ u → F t ≤ F u) (up-G : (t u : ℕ) → t ≤ u → G t ≤ G u) (is : (v : ℕ) → sum v ≡ F v + G v) where
  sum_before : (v : ℕ) → 0 < v → before sum v ≡ before F v + before G v
  sum_before v some = omega (arith, before_later sum v some, before_later F v some, before_later G v some, is (v - 1))

  -- where the sum rises, one of the two does
  one_rises : (v : ℕ) → 0 < v → Rises sum v → Rises F v ⊎ Rises G v
  one_rises v some rise =
      ⊎_elim inl (λ flat. inr (omega (arith, sum_before v some, is v))) (cases_lt (before F v) (F v))

  left_rises : (v : ℕ) → 0 < v → Rises F v → Rises sum v
  left_rises v some rise = omega (arith, sum_before v some, is v, before_later G v some, up-G (v - 1) v (omega arith))

  right_rises : (v : ℕ) → 0 < v → Rises G v → Rises sum v
  right_rises v some rise = omega (arith, sum_before v some, is v, before_later F v some, up-F (v - 1) v (omega arith))

  -- the sum's next rise is the sooner of the two
  pub sooner_rise : (t : ℕ) (a b : Option ℕ) → NextRise F t a → NextRise G t b → NextRise sum t (sooner a b)
  sooner_rise t None None f g = λ v more rise. ⊎_elim (f v more) (g v more) (one_rises v (omega arith) rise)
  sooner_rise t None (Some y) f g =
      (g.0, right_rises y (omega (arith, g.0)) g.1, λ v more less rise. ⊎_elim (f v more) (g.2 v more less) (one_rises v (omega arith) rise))
  sooner_rise t (Some x) None f g =
      (f.0, left_rises x (omega (arith, f.0)) f.1, λ v more less rise. ⊎_elim (f.2 v more less) (g v more) (one_rises v (omega arith) rise))
  sooner_rise t (Some x) (Some y) f g =
      let n : ℕ = min x y in (
        omega (arith, f.0, g.0),
        ⊎_elim
            (λ lt. let e : x ≡ n = omega arith in subst (Rises sum) e (left_rises x (omega (arith, f.0)) f.1))
            (λ le. let e : y ≡ n = omega arith in subst (Rises sum) e (right_rises y (omega (arith, g.0)) g.1))
            (cases_lt x y),
        λ v more less rise. ⊎_elim (f.2 v more (omega arith)) (g.2 v more (omega arith)) (one_rises v (omega arith) rise),
      )

none_rises : {K : Type 0} (m : K → Numbers) (t : ℕ) → NextRise (curves m []) t None
none_rises m t v more = flat_no_rise (curves m []) v (omega arith) (omega arith)

fold_min : (x y : ℕ) (ys : List ℕ) → min x (fold min y ys) ≡ fold min (min x y) ys
fold_min x y [] = refl
fold_min x y (z ∷ zs) =
    let e : min x (min y z) ≡ min (min x y) z = omega arith in
    fold_min x (min y z) zs ∙ ap (λ n. fold min n zs) e

soonest : (first : Option ℕ) (ys : List ℕ) → sooner first (reduce min ys) ≡ reduce min (cons_option first ys)
soonest None ys = refl
soonest (Some x) [] = refl
soonest (Some x) (y ∷ ys) = ap Some (fold_min x y ys)

module _ {K S : Type 0} (m : K → Numbers) (p t : ℕ) where
  -- the next rise of the channel in a row
  abbrev pub Next : Row K S → Option ℕ → Type 0
  Next r next = NextRise (m r.kind).curve t next

  -- the demand's next rise is the soonest of the channels'
  pub soonest_rise : (rs : List (Row K S)) (os : List (Option ℕ)) → AllByRecursion (λ k. CurveLaws p (m k)) (kinds rs) → AllZip Next rs os → NextRise (curves m (kinds rs)) t (reduce min (filter_map (λ o. o) os))
  soonest_rise [] [] laws all = none_rises m t
  soonest_rise [] (o ∷ os) laws all = absurd all
  soonest_rise (r ∷ rs) [] laws all = absurd all
  soonest_rise (r ∷ rs) (o ∷ os) laws all =
      let rest : List ℕ = filter_map (λ x. x) os in
      subst (NextRise (curves m (kinds (r ∷ rs))) t) (soonest o rest)
      (sooner_rise (m r.kind).curve (curves m (kinds rs)) (curves m (kinds (r ∷ rs))) laws.0.never_falls (curves_never_fall m p (kinds rs) laws.1) (λ v. refl) t o (reduce min rest) all.0 (soonest_rise rs os laws.1 all.1))
