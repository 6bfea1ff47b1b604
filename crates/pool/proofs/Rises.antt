-- An element moves up: what is left to mend stays in one place.
use Rattle.std.proofs.Common.{◌≡◌, ℕ, ◌+◌, ◌*◌, ◌<◌, ◌≤◌, Bool, true, List, get_or, arith}
use Rattle.std.specs.List.{SwappedAt}
use Rattle.pool.specs.Heap.{Rising}
use Rattle.pool.proofs.Orders.{Asymmetric, Transitive}

module _ {X : Type 0} (before : X → X → Bool) (asym : Asymmetric before) (trans : Transitive before) where
  pub rise_steps : (xs ys : List X) (up i n : ℕ) → up * 2 + 1 ≤ i → i ≤ up * 2 + 2 → i < n → SwappedAt xs ys up i → ((d : X) → before (get_or xs i d) (get_or xs up d) ≡ true) → Rising before xs i n → Rising before ys up n
  rise_steps xs ys up i n ge le lt sw less h = (
    λ p k d g l b ne. grind (arith, sw.0 d, sw.1 d, sw.2 k d, sw.2 p d, asym _ _ (less d), h.0 p k d, h.0 up k d, h.1 up k d, trans (get_or xs i d) (get_or xs up d) (get_or xs k d)),
    λ p k d g l g' l' b. grind (arith, sw.1 d, sw.2 p d, sw.2 k d, h.0 p up d, h.0 up k d, trans (get_or xs p d) (get_or xs up d) (get_or xs k d)),
  )
