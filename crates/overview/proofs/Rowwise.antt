-- The channels of rows that stand together, row by row.
use Rattle.std.proofs.Common.{◌≡◌, ℕ, zero, suc, ◌<◌, ◌≤◌, max, Bool, true, List, [], ◌∷◌, map, length, get_or, take, sum_by, Bor, Iter, sym, refl, subst, ⊎_elim, arith}
use Rattle.std.specs.Iterator.{CallableAtEachTurn}
use Rattle.std.specs.List.{AllByRecursion, fold, reduce}
use Rattle.std.specs.Option.{unwrap_or}
use Rattle.std.proofs.ByRecursion.{All-get_or}
use Rattle.std.proofs.lemmas.Fn.{serves_by, fronts}
use Rattle.std.proofs.lemmas.Iterator.{YieldsList-from_slice}
use Rattle.std.proofs.lemmas.Iterator.Consumers.{YieldsList-turn}
use Rattle.std.proofs.lemmas.List.Recursion.{is_sum_by}
use Rattle.std.proofs.lemmas.Bool.{cases_lt}
use Rattle.traffic.specs.Curves.{Numbers}
use Rattle.traffic.specs.Laws.{Within, CurveLaws}
use Rattle.traffic.specs.declared.Row.{Row}
use Rattle.verdict.specs.Demand.{total, largest, curves}
use Rattle.verdict.specs.Members.{kinds}
use Rattle.overview.specs.Standing.{Stands}

-- what holds of each channel holds of that in each row
pub rows_hold : {K S : Type 0} (P : K → Type 0) (rs : List (Row K S)) → AllByRecursion P (kinds rs) → AllByRecursion (λ r. P r.kind) rs
rows_hold P [] all = tt
rows_hold P (r ∷ rs) all = (all.0, rows_hold P rs all.1)

-- a sum and a largest number over the rows are those over their channels
module _ {K S : Type 0} (f : K → ℕ) where
  pub total_of_rows : (rs : List (Row K S)) → sum_by (λ r. f r.kind) rs ≡ total f (kinds rs)
  total_of_rows rs = sym (is_sum_by (λ xs. total f (kinds xs)) (λ r. f r.kind) refl (λ _ _. refl) rs)

  largest_from : (a : ℕ) (rs : List (Row K S)) → fold max a (map (λ r. f r.kind) rs) ≡ max a (largest f (kinds rs))
  largest_from a [] = omega arith
  largest_from a (r ∷ rs) = omega (arith, largest_from (max a (f r.kind)) rs)

  pub largest_of_rows : (rs : List (Row K S)) → unwrap_or (reduce max (map (λ r. f r.kind) rs)) 0 ≡ largest f (kinds rs)
  largest_of_rows [] = refl
  largest_of_rows (r ∷ rs) = largest_from (f r.kind) rs

module _ {K S : Type 0} (m : K → Numbers) (limits : K → ℕ → Bool) (p : ℕ) (rs : List (Row K S)) (together : Stands m limits p (kinds rs)) where
  -- the channel in each row keeps its limits
  pub row_within : (i : ℕ) (r : Row K S) → i < length rs → r ≡ get_or rs i r → Within (limits r.kind)
  row_within i r inside is = record {
    under = p;
    least = together.judged.least;
    most = together.judged.most;
    holds = subst (λ x. limits x.kind p ≡ true) (sym is) (All-get_or (λ x. limits x.kind p ≡ true) rs i r inside (rows_hold (λ k. limits k p ≡ true) rs together.judged.within));
  }

  -- what may be called at each channel within its limits may be called at each row
  pub serves_rows : {F : Type 0} (R : F → Bor (Row K S) → F → Type 0) (Q : F → Bor (Row K S) → Type 0) (s : Iter (Row K S)) (f : F) → s.rest.now ≡ rs → ((q : F) (x : Bor (Row K S)) → Within (limits x.now.kind) → Q q x) → CallableAtEachTurn fronts R Q s f
  serves_rows R Q s f is asks =
      serves_by R (λ _ _. Unit {0}) (λ _ _ _ _ _ _. tt) fronts Q s f tt
      (λ xs t q x u y e _.
      let turn = YieldsList-turn (YieldsList-from_slice rs is) xs t y _ u x refl e in
      asks q x (row_within _ x.now turn.0 turn.1))

  -- what the channels ask for within t is no more than t
  pub demand_small : (t : ℕ) → curves m (kinds rs) t ≤ t
  demand_small t = ⊎_elim (λ some. omega (arith, together.passes.demand_fits t some)) (λ nothing. omega arith) (cases_lt 0 (curves m (kinds rs) t))

  front_most : (f : K → ℕ) (xs : List (Row K S)) (i : ℕ) → total f (kinds (take i xs)) ≤ total f (kinds xs)
  front_most f xs zero = omega arith
  front_most f [] (suc i) = omega arith
  front_most f (x ∷ xs) (suc i) = omega (arith, front_most f xs i)

  -- nor is what the first rows ask for
  pub front_fits : (i t : ℕ) → curves m (kinds (take i rs)) t ≤ t
  front_fits i t = omega (arith, demand_small t, front_most (λ k. (m k).curve t) rs i)

pub allowances_small : {K : Type 0} (m : K → Numbers) (p : ℕ) (ks : List K) → AllByRecursion (λ k. CurveLaws p (m k)) ks → largest (λ k. (m k).allowance) ks ≤ 40320
allowances_small m p [] laws = omega arith
allowances_small m p (k ∷ ks) laws = omega (arith, laws.0.allowance_most, allowances_small m p ks laws.1)
