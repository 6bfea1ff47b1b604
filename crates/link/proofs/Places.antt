-- One place of a list changed: what holds of each or of some element.
use Rattle.std.proofs.Common.{◌≡◌, ℕ, zero, suc, List, [], ◌∷◌, set, Some, sym, subst, inl, inr}
use Rattle.std.specs.List.{slice_get, AllByRecursion}
use Rattle.schedule.specs.Schedules.{Any}
use Rattle.link.specs.Rows.{changed}

module _ {X : Type 0} (P : X → Type 0) where
  pub all_nth : (xs : List X) (i : ℕ) (x : X) → slice_get xs i ≡ Some x → AllByRecursion P xs → P x
  all_nth [] i x h a = cc
  all_nth (y ∷ xs) zero x h a = let is : y ≡ x = cc in subst P is a.0
  all_nth (y ∷ xs) (suc i) x h a = all_nth xs i x h a.1

  pub all_changed : (f : X → X) (xs : List X) (i : ℕ) (x : X) → slice_get xs i ≡ Some x → P (f x) → AllByRecursion P xs → AllByRecursion P (changed f i xs)
  all_changed f [] i x h p a = tt
  all_changed f (y ∷ xs) zero x h p a = let is : y ≡ x = cc in (subst (λ z. P (f z)) (sym is) p, a.1)
  all_changed f (y ∷ xs) (suc i) x h p a = (a.0, all_changed f xs i x h p a.1)

  pub any_changed : (f : X → X) (xs : List X) (i : ℕ) (x : X) → slice_get xs i ≡ Some x → (P x → P (f x)) → Any P xs → Any P (changed f i xs)
  any_changed f [] i x h g a = a
  any_changed f (y ∷ xs) zero x h g (inl p) = let is : y ≡ x = cc in inl (subst (λ z. P (f z)) (sym is) (g (subst P is p)))
  any_changed f (y ∷ xs) zero x h g (inr a) = inr a
  any_changed f (y ∷ xs) (suc i) x h g (inl p) = inl p
  any_changed f (y ∷ xs) (suc i) x h g (inr a) = inr (any_changed f xs i x h g a)

  -- the changed element has the property
  pub any_here : (f : X → X) (xs : List X) (i : ℕ) (x : X) → slice_get xs i ≡ Some x → P (f x) → Any P (changed f i xs)
  any_here f [] i x h p = cc
  any_here f (y ∷ xs) zero x h p = let is : y ≡ x = cc in inl (subst (λ z. P (f z)) (sym is) p)
  any_here f (y ∷ xs) (suc i) x h p = inr (any_here f xs i x h p)

  -- an element without the property is replaced
  pub any_set : (xs : List X) (i : ℕ) (x y : X) → slice_get xs i ≡ Some x → (P x → ⊥) → Any P xs → Any P (set xs i y)
  any_set [] i x y h g a = a
  any_set (z ∷ xs) zero x y h g (inl p) = let is : z ≡ x = cc in absurd (g (subst P is p))
  any_set (z ∷ xs) zero x y h g (inr a) = inr a
  any_set (z ∷ xs) (suc i) x y h g (inl p) = inl p
  any_set (z ∷ xs) (suc i) x y h g (inr a) = inr (any_set xs i x y h g a)

  pub all_set : (xs : List X) (i : ℕ) (y : X) → P y → AllByRecursion P xs → AllByRecursion P (set xs i y)
  all_set [] i y p a = tt
  all_set (x ∷ xs) zero y p a = (p, a.1)
  all_set (x ∷ xs) (suc i) y p a = (a.0, all_set xs i y p a.1)
