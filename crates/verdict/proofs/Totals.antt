-- Sums, the largest and what holds of all, over the channels at the first places, with one place more.
use Rattle.std.proofs.Common.{◌≡◌, ℕ, zero, suc, ◌+◌, ◌<◌, ◌≤◌, max, Bool, true, List, [], ◌∷◌, ◌++◌, length, get_or, take, Some, None, Option, sym, refl, ap, ◌∙◌, subst, arith, append-nil}
use Rattle.std.specs.List.{AllByRecursion}
use Rattle.traffic.specs.Curves.{Numbers}
use Rattle.traffic.specs.Laws.{Within, CurveLaws}
use Rattle.verdict.specs.Demand.{total, largest, curves}
use Rattle.verdict.specs.Judged.{Judgeable}
use Rattle.verdict.specs.Members.{present, places, members, size}
use Rattle.verdict.specs.declared.channels.Channels.{Channels}
use Rattle.verdict.proofs.Places.{one, present_more, length-places}

module _ {K : Type 0} (os : List (Option K)) (i : ℕ) (inside : i < length os) where
  -- the channels with that of one place more, or as they were
  pub one_more : (k : K) → Some k ≡ get_or os i None → present (take (i + 1) os) ≡ present (take i os) ++ k ∷ []
  one_more k is = present_more os i inside ∙ ap (λ o. present (take i os) ++ one o) (sym is)

  pub none_more : None ≡ get_or os i None → present (take (i + 1) os) ≡ present (take i os)
  none_more is = present_more os i inside ∙ ap (λ o. present (take i os) ++ one o) (sym is) ∙ append-nil (present (take i os))

-- what holds of all channels holds of the one at a place
pub present_holds : {K : Type 0} (P : K → Type 0) (os : List (Option K)) (i : ℕ) (k : K) → Some k ≡ get_or os i None → AllByRecursion P (present os) → P k
present_holds P [] i k is all = let z : ◌≡◌ {A = ℕ} 0 1 = cc in absurd (omega arith)
present_holds P (None ∷ os) zero k is all = let z : ◌≡◌ {A = ℕ} 0 1 = cc in absurd (omega arith)
present_holds P (Some x ∷ os) zero k is all = let e : x ≡ k = cc in subst P e all.0
present_holds P (None ∷ os) (suc i) k is all = present_holds P os i k is all
present_holds P (Some x ∷ os) (suc i) k is all = present_holds P os i k is all.1

module _ {K : Type 0} (f : K → ℕ) where
  pub total-push : (ks : List K) (k : K) → total f (ks ++ k ∷ []) ≡ total f ks + f k
  total-push [] k = omega arith
  total-push (x ∷ ks) k = omega (arith, total-push ks k)

  pub largest_push : (ks : List K) (k : K) → largest f (ks ++ k ∷ []) ≡ max (largest f ks) (f k)
  largest_push [] k = omega arith
  largest_push (x ∷ ks) k = omega (arith, largest_push ks k)

  -- the sum with the channel of one place more, or as it was
  pub total-one : (os : List (Option K)) (i : ℕ) → i < length os → (k : K) → Some k ≡ get_or os i None → total f (present (take (i + 1) os)) ≡ total f (present (take i os)) + f k
  total-one os i inside k is = ap (total f) (one_more os i inside k is) ∙ total-push (present (take i os)) k

  pub total-none : (os : List (Option K)) (i : ℕ) → i < length os → None ≡ get_or os i None → total f (present (take (i + 1) os)) ≡ total f (present (take i os))
  total-none os i inside is = ap (total f) (none_more os i inside is)

  -- and so the largest
  pub largest_one : (os : List (Option K)) (i : ℕ) → i < length os → (k : K) → Some k ≡ get_or os i None → largest f (present (take (i + 1) os)) ≡ max (largest f (present (take i os))) (f k)
  largest_one os i inside k is = ap (largest f) (one_more os i inside k is) ∙ largest_push (present (take i os)) k

  pub largest_none : (os : List (Option K)) (i : ℕ) → i < length os → None ≡ get_or os i None → largest f (present (take (i + 1) os)) ≡ largest f (present (take i os))
  largest_none os i inside is = ap (largest f) (none_more os i inside is)

module _ {K : Type 0} (limits : K → ℕ → Bool) (p n : ℕ) (os : List (Option K)) (judged : Judgeable limits p n (present os)) (i : ℕ) (k : K) (is : Some k ≡ get_or os i None) where
  -- the channel at a place of a judged table keeps its limits
  pub place_limits : limits k p ≡ true
  place_limits = present_holds (λ x. limits x p ≡ true) os i k is judged.within

  pub place_within : Within (limits k)
  place_within = record { under = p; least = judged.least; most = judged.most; holds = place_limits }

-- no curve is above 0 at 0
pub nothing_at_zero : {K : Type 0} (m : K → Numbers) (p : ℕ) (ks : List K) → AllByRecursion (λ k. CurveLaws p (m k)) ks → curves m ks 0 ≡ 0
nothing_at_zero m p [] laws = refl
nothing_at_zero m p (k ∷ ks) laws =
    let law = laws.0 in
    omega (arith, law.nothing_before 0 (omega arith), nothing_at_zero m p ks laws.1)

-- a judged table has at most 33 places, and as many channels
module _ {K S : Type 0} {limits : K → ℕ → Bool} {p : ℕ} {ks : List K} (c : Channels K S) (judged : Judgeable limits p (size c) ks) where
  pub places_few : length (places c) ≤ 33
  places_few = omega (arith, judged.few, length-places c.rows.now c.counted.now c.more)

  present_few : (os : List (Option K)) → length (present os) ≤ length os
  present_few [] = omega arith
  present_few (None ∷ os) = omega (arith, present_few os)
  present_few (Some k ∷ os) = omega (arith, present_few os)

  pub members_few : length (members c) ≤ 33
  members_few = omega (arith, places_few, present_few (places c))
