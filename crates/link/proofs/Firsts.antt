-- The place of the first of a list that passes a test.
use Rattle.std.proofs.Common.{◌≡◌, ℕ, suc, ◌+◌, Bool, true, false, cond, not, List, [], ◌∷◌, length, ltb, Some, None, Option, sym, refl, ◌∙◌, subst, arith}
use Rattle.std.proofs.lemmas.Grind.{common_steps}
use Rattle.std.specs.List.{position, position_or_len, slice_get}
use Rattle.std.specs.Option.{option_map}

later : (b : Bool) (n l : ℕ) →
    cond (ltb (cond (not b) (1 + n) 0) (suc l)) (Some (cond (not b) (1 + n) 0)) None ≡ cond b (Some 0) (option_map suc (cond (ltb n l) (Some n) None))
later true n l = grind (arith, common_steps)
later false n l = grind (arith, common_steps)

module _ {X : Type 0} (P : X → Bool) where
  -- it is the head's place, or one more than in the tail
  pub position-cons : (x : X) (xs : List X) → position P (x ∷ xs) ≡ cond (P x) (Some 0) (option_map suc (position P xs))
  position-cons x xs = later (P x) (position_or_len P xs) (length xs)

  found_passes : (x : X) (xs : List X) (b : Bool) (o : Option ℕ) (i : ℕ) → P x ≡ b →
      ((j : ℕ) → o ≡ Some j → (y : X) × (slice_get xs j ≡ Some y) × (P y ≡ true)) → cond b (Some 0) (option_map suc o) ≡ Some i →
      (y : X) × (slice_get (x ∷ xs) i ≡ Some y) × (P y ≡ true)
  found_passes x xs true o i e f h = let z : 0 ≡ i = cc in (x, subst (λ k. slice_get (x ∷ xs) k ≡ Some x) z refl, e)
  found_passes x xs false None i e f h = cc
  found_passes x xs false (Some j) i e f h =
      let z : suc j ≡ i = cc in
      let y = f j refl in
      (y.0, subst (λ k. slice_get (x ∷ xs) k ≡ Some y.0) z y.1, y.2)

  -- what is found passes the test
  pub first_passes : (xs : List X) (i : ℕ) → position P xs ≡ Some i → (y : X) × (slice_get xs i ≡ Some y) × (P y ≡ true)
  first_passes [] i h = cc
  first_passes (x ∷ xs) i h = found_passes x xs (P x) (position P xs) i refl (first_passes xs) (sym (position-cons x xs) ∙ h)
