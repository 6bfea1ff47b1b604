-- Going over the channels that count, one after the other.
use Rattle.std.proofs.Common.{◌≡◌, ℕ, suc, ◌<◌, ◌≤◌, max, Bool, true, false, List, [], ◌∷◌, map, length, Some, None, Option, Decides, sym, refl, ap, ◌∙◌, map-id, subst, arith}
use Rattle.std.specs.Iterator.{YieldsFirst, Yields, CallableAtEachTurn}
use Rattle.std.specs.Bool.{MatchBool}
use Rattle.std.specs.List.{AllByRecursion, AllWithin, HoldsAt, fold, reduce}
use Rattle.std.specs.Option.{unwrap_or}
use Rattle.std.proofs.ByRecursion.{All-get_or}
use Rattle.std.proofs.lemmas.Bool.{false≢true}
use Rattle.std.proofs.lemmas.Fn.{serves_by}
use Rattle.std.proofs.lemmas.Iterator.{YieldsList}
use Rattle.std.proofs.lemmas.Iterator.Consumers.{YieldsList-from_first, YieldsList-turn, YieldsList-end}
use Rattle.traffic.specs.Curves.{Numbers}
use Rattle.traffic.specs.Laws.{Within, CurveLaws}
use Rattle.verdict.specs.Demand.{largest}
use Rattle.verdict.specs.Judged.{Judgeable}
use Rattle.verdict.specs.Members.{members, size}
use Rattle.verdict.specs.declared.channels.Channels.{Channels}
use Rattle.verdict.specs.declared.members.Members.{Members}

-- those that are still to come
abbrev pub left : {K S : Type 0} → Members K S → List K
left s = members s.left

-- an iterator over the channels gives those that count
pub yields_members : {K S : Type 0} (c : Channels K S) (s : Members K S) → s.left ≡ c → YieldsList (YieldsFirst left) (λ k. k) s (members c)
yields_members c s is = YieldsList-from_first (λ k. k) left (members c) (ap members is)

module _ {K S : Type 0} (limits : K → ℕ → Bool) (p : ℕ) (c : Channels K S) (judged : Judgeable limits p (size c) (members c)) (s : Members K S) (is : s.left ≡ c) where
  -- each that comes is within its limits, and there are more than have come
  pub turn : (xs : List K) (t : Members K S) → Yields (YieldsFirst left) s xs t → (r : Option K) (u : Members K S) (k : K) → r ≡ Some k → YieldsFirst left t r u → (length xs < length (members c)) × (limits k p ≡ true)
  turn xs t run r u k some step =
      let at = YieldsList-turn (yields_members c s is) xs t run r u k some step in
      (at.0, subst (λ x. limits x p ≡ true) (sym at.1) (All-get_or (λ x. limits x p ≡ true) (members c) (length xs) k at.0 judged.within))

  pub turn_within : {k : K} → limits k p ≡ true → Within (limits k)
  turn_within holds = record { under = p; least = judged.least; most = judged.most; holds = holds }

  -- what may be called at each channel within its limits may be called at each that comes
  pub serves_members : {F : Type 0} (R : F → K → F → Type 0) (Q : F → K → Type 0) (f : F) → ((q : F) (k : K) → limits k p ≡ true → Within (limits k) → Q q k) → CallableAtEachTurn (YieldsFirst left) R Q s f
  serves_members R Q f asks =
      serves_by R (λ _ _. Unit {0}) (λ _ _ _ _ _ _. tt) (YieldsFirst left) Q s f tt
      (λ xs t q k u y e _.
      let at = turn xs t y (Some k) u k refl e in
      asks q k at.1 (turn_within at.1))

-- at the end all have come
pub all_came : {K S : Type 0} (c : Channels K S) (s : Members K S) → s.left ≡ c → (xs : List K) (t : Members K S) → Yields (YieldsFirst left) s xs t → (r : Option K) (u : Members K S) → r ≡ None → YieldsFirst left t r u → xs ≡ members c
all_came c s is xs t run r u none step = sym (map-id xs) ∙ (YieldsList-end (yields_members c s is) xs t run r u none step).0

-- the largest over the channels
module _ {K : Type 0} (f : K → ℕ) where
  largest_from : (a : ℕ) (ks : List K) → fold max a (map f ks) ≡ max a (largest f ks)
  largest_from a [] = omega arith
  largest_from a (k ∷ ks) = omega (arith, largest_from (max a (f k)) ks)

  pub largest_max : (ks : List K) → unwrap_or (reduce max (map f ks)) 0 ≡ largest f ks
  largest_max [] = refl
  largest_max (k ∷ ks) = largest_from (f k) ks

pub largest_most : {K : Type 0} (m : K → Numbers) (p : ℕ) (ks : List K) → AllByRecursion (λ k. CurveLaws p (m k)) ks → largest (λ k. (m k).allowance) ks ≤ 40320
largest_most m p [] laws = omega arith
largest_most m p (k ∷ ks) laws = omega (arith, laws.0.allowance_most, largest_most m p ks laws.1)

-- where a test was true of every channel it holds of all; where it was false of one it does not
module _ {K : Type 0} (test : K → Bool) where
  holds_of_all : (ks : List K) → AllWithin (λ k. test k ≡ true) ks 0 (length ks) → AllByRecursion (λ k. test k ≡ true) ks
  holds_of_all [] each = tt
  holds_of_all (k ∷ ks) each = (each 0 k (omega arith) (omega arith), holds_of_all ks (λ i d _ below. each (suc i) d (omega arith) (omega arith)))

  fails_of_one : (ks : List K) (i : ℕ) → i < length ks → HoldsAt (λ k. test k ≡ false) ks i → AllByRecursion (λ k. test k ≡ true) ks → ⊥
  fails_of_one [] i inside fails all = absurd (omega arith)
  fails_of_one (k ∷ ks) i inside fails all = false≢true (sym (fails k) ∙ All-get_or (λ x. test x ≡ true) (k ∷ ks) i k inside all)

  pub all_tested : (ks : List K) (r : Bool) → MatchBool r (AllWithin (λ k. test k ≡ true) ks 0 (length ks)) ((i : ℕ) × (i < length ks) × HoldsAt (λ k. test k ≡ false) ks i) → Decides r (AllByRecursion (λ k. test k ≡ true) ks)
  all_tested ks true each = (λ _. holds_of_all ks each, λ _. refl)
  all_tested ks false one = (λ e. absurd (false≢true e), λ all. absurd (fails_of_one ks one.0 one.1 one.2 all))
