-- Bags: lists with the same elements, and a first element of a bag by an order.
use Rattle.std.proofs.Common.{◌≡◌, ℕ, ◌<◌, Bool, true, false, cond, ◌&&◌, eqb, List, [], ◌∷◌, sym, refl, ap, subst, inl, inr, arith}
use Rattle.std.specs.List.{AllByRecursion}
use Rattle.std.specs.List.Sorted.{IsPermutation}
use Rattle.std.specs.Cmp.{IsStrictWeakOrder}
use Rattle.std.proofs.lemmas.Bool.Decides.{nat_tests}
use Rattle.std.proofs.lemmas.Bool.{cases_Bool, cond-true, cond-false, eqb-true, eq-eqb}
use Rattle.std.proofs.ByRecursion.{All-weaker}
use Rattle.std.proofs.lemmas.List.Sorted.{IsPermutation-refl, IsPermutation-cons, IsPermutation-trans, IsPermutation-sym, IsPermutation-swap}
use Rattle.verdict.specs.Demand.{total}
use Rattle.schedule.specs.Jobs.{Due, never, at, Job}
use Rattle.schedule.specs.Orders.{same_due}
use Rattle.schedule.specs.Schedules.{Any}
use Rattle.schedule.proofs.Sums

swap_two : {X : Type 0} (x y : X) (xs ys : List X) → IsPermutation xs (x ∷ y ∷ ys) → IsPermutation xs (y ∷ x ∷ ys)
swap_two x y xs ys h = IsPermutation-trans xs (x ∷ y ∷ ys) (y ∷ x ∷ ys) h (IsPermutation-swap (x ∷ y ∷ ys) (y ∷ x ∷ ys) 0 1 (omega arith) (omega arith) refl)

-- an element that no other goes before
pub pick : {X : Type 0} (before : X → X → Bool) → IsStrictWeakOrder before → (x : X) (xs : List X) → (y : X) × (ys : List X) × IsPermutation (x ∷ xs) (y ∷ ys) × AllByRecursion (λ z. before z y ≡ false) ys
pick before o x [] = (x, [], IsPermutation-refl _, tt)
pick {X} before o x (x' ∷ xs) =
    let (y, ys, h, least) = pick before o x' xs in
    let g : IsPermutation (x ∷ x' ∷ xs) (x ∷ y ∷ ys) = IsPermutation-cons x _ _ h in
    elim (cases_Bool (before x y)) [
      | inl b ↦ (x, y ∷ ys, g, (o.one_way x y b, All-weaker _ _ (λ z n. o.chain z y x n (o.one_way x y b)) ys least))
      | inr b ↦ (y, x ∷ ys, swap_two x y _ ys g, (b, least))
    ]

-- Two lists that weigh the same, however their elements are weighed, have the same elements.

module _ {X : Type 0} (same : X → X → Bool) (refl-same : (x : X) → same x x ≡ true) (from-same : (x y : X) → same x y ≡ true → x ≡ y) where
  drawn : (x : X) (ys : List X) → Any (λ y. same x y ≡ true) ys → (zs : List X) × IsPermutation ys (x ∷ zs)
  drawn x [] h = absurd h
  drawn x (y ∷ ys) (inl e) = (ys, let P : X → Type 0 = λ z. IsPermutation (y ∷ ys) (z ∷ ys) in subst P (sym (from-same x y e)) (IsPermutation-refl _))
  drawn x (y ∷ ys) (inr h) = let (zs, g) = drawn x ys h in (y ∷ zs, swap_two y x _ zs (IsPermutation-cons y _ _ g))

  same_elements : (xs ys : List X) → ((f : X → ℕ) → total f xs ≡ total f ys) → IsPermutation xs ys
  same_elements [] [] h = IsPermutation-refl []
  same_elements [] (y ∷ ys) h = absurd (omega (arith, h (λ z. 1)))
  same_elements (x ∷ xs) ys h =
      let w : X → ℕ = λ y. cond (same x y) 1 0 in
      let some : Any (λ y. 0 < w y) ys = Sums.total-some w ys (omega (arith, h w, cond-true {A = ℕ} (same x x) 1 0 (refl-same x))) in
      let there : Any (λ y. same x y ≡ true) ys = Sums.any_more _ _ ys (Sums.all_true _ (λ y p. elim (cases_Bool (same x y)) [ inl e ↦ e | inr n ↦ absurd (omega (arith, cond-false {A = ℕ} (same x y) 1 0 n)) ]) ys) some in
      let (zs, g) = drawn x ys there in
      IsPermutation-trans _ (x ∷ zs) ys (IsPermutation-cons x xs zs (same_elements xs zs (λ f. omega (arith, h f, Sums.total-shuffled f ys (x ∷ zs) g)))) (IsPermutation-sym _ _ g)

refl_due : (d : Due) → same_due d d ≡ true
refl_due never = refl
refl_due (at d) = eq-eqb d d refl

from_due : (d e : Due) → same_due d e ≡ true → d ≡ e
from_due never never h = refl
from_due never (at e) h = cc
from_due (at d) never h = cc
from_due (at d) (at e) h = ap at (eqb-true d e h)

pub same_job : Job → Job → Bool
same_job j k =
    eqb j.arrival k.arrival && (eqb j.slots k.slots && (same_due j.due k.due && (eqb j.owner k.owner && (eqb j.mat k.mat && eqb j.count k.count))))

pub refl_job : (j : Job) → same_job j j ≡ true
unfolding same_job
refl_job j = let due = refl_due j.due in grind (arith, nat_tests)

make : ℕ → ℕ → Due → ℕ → ℕ → ℕ → Job
make a s d o m c = record { arrival = a; slots = s; due = d; owner = o; mat = m; count = c }

pub from_job : (j k : Job) → same_job j k ≡ true → j ≡ k
unfolding make same_job
from_job j k h =
    let a : j.arrival ≡ k.arrival = grind (arith, nat_tests) in
    let s : j.slots ≡ k.slots = grind (arith, nat_tests) in
    let d : j.due ≡ k.due = from_due j.due k.due (grind (arith, nat_tests)) in
    let o : j.owner ≡ k.owner = grind (arith, nat_tests) in
    let m : j.mat ≡ k.mat = grind (arith, nat_tests) in
    let c : j.count ≡ k.count = grind (arith, nat_tests) in
    let e : make j.arrival j.slots j.due j.owner j.mat j.count ≡ make k.arrival k.slots k.due k.owner k.mat k.count = cc in e

pub same_jobs : (xs ys : List Job) → ((f : Job → ℕ) → total f xs ≡ total f ys) → IsPermutation xs ys
same_jobs = same_elements same_job refl_job from_job
