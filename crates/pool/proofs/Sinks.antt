-- An element moves down: what is left to mend stays in one place.
use Rattle.std.proofs.Common.{◌≡◌, ℕ, ◌+◌, ◌*◌, ◌<◌, ◌≤◌, Bool, true, false, List, get_or, arith}
use Rattle.std.specs.List.{SwappedAt}
use Rattle.pool.specs.Heap.{Heap, Sinking, Best}
use Rattle.pool.proofs.Orders.{Asymmetric, Transitive}

module _ {X : Type 0} (before : X → X → Bool) (asym : Asymmetric before) (trans : Transitive before) where
  pub sink_rests : (xs : List X) (i c n : ℕ) → ((d : X) → before (get_or xs c d) (get_or xs i d) ≡ false) → Best before xs i c n → Sinking before xs i n → Heap before xs n
  sink_rests xs i c n fine best h p k d g l b = grind (arith, fine d, best k d, h.0 p k d, trans (get_or xs i d) (get_or xs c d) (get_or xs k d))

  pub sink_steps : (xs ys : List X) (i c n : ℕ) → i * 2 + 1 ≤ c → c ≤ i * 2 + 2 → c < n → SwappedAt xs ys i c → ((d : X) → before (get_or xs c d) (get_or xs i d) ≡ true) → Best before xs i c n → Sinking before xs i n → Sinking before ys c n
  sink_steps xs ys i c n ge le lt sw less best h = (
    λ p k d g l b pc. grind (arith, sw.0 d, sw.1 d, sw.2 k d, sw.2 p d, asym _ _ (less d), best k d, h.0 p k d, h.1 p c d),
    λ p k d g l g' l' b. grind (arith, sw.0 d, sw.2 k d, h.0 c k d),
  )
