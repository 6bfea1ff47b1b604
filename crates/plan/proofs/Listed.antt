-- A list of a known length is its elements, one by one.
use Rattle.std.proofs.Common.{◌≡◌, ℕ, List, [], ◌∷◌, length, get_or, refl, ltb-false, ltb-true}
use Rattle.std.proofs.lemmas.List.FromFn.{fill_by_all}

pub one : (ns : List ℕ) → length ns ≡ 1 → ns ≡ get_or ns 0 0 ∷ []
one ns long = fill_by_all (λ i. get_or ns i 0) ns 1 0 long (λ k h. refl)

pub two : (ns : List ℕ) → length ns ≡ 2 → ns ≡ get_or ns 0 0 ∷ get_or ns 1 0 ∷ []
two ns long = fill_by_all (λ i. get_or ns i 0) ns 2 0 long (λ k h. refl)

pub four : (ns : List ℕ) → length ns ≡ 4 → ns ≡ get_or ns 0 0 ∷ get_or ns 1 0 ∷ get_or ns 2 0 ∷ get_or ns 3 0 ∷ []
four ns long = fill_by_all (λ i. get_or ns i 0) ns 4 0 long (λ k h. refl)

pub five : (ns : List ℕ) → length ns ≡ 5 → ns ≡ get_or ns 0 0 ∷ get_or ns 1 0 ∷ get_or ns 2 0 ∷ get_or ns 3 0 ∷ get_or ns 4 0 ∷ []
five ns long = fill_by_all (λ i. get_or ns i 0) ns 5 0 long (λ k h. refl)

pub ruleset by_elements = (one, two, four, five, ltb-true, ltb-false)
