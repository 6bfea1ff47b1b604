-- What `insert` and `remove_first` hand to `rise` and `sink` is nearly a heap, and the front of a heap is one.
use Rattle.std.proofs.Common.{ℕ, ◌-◌, ◌≤◌, Bool, List, ◌++◌, length, take, set, arith}
use Rattle.std.proofs.lemmas.List.{places, length-set, get_or-set_other, get_or_append_left}
use Rattle.pool.specs.Heap.{Heap, Sinking}

module _ {X : Type 0} (before : X → X → Bool) (xs : List X) (x : X) where
  pub last_written : Heap before xs (length xs - 1) → Heap before (set xs (length xs - 1) x) (length (set xs (length xs - 1) x) - 1)
  last_written h p k d l b s =
      let last : ℕ = length xs - 1 in
      grind (arith, length-set xs last x, get_or-set_other xs last p x d, get_or-set_other xs last k x d, h p k d)

  pub root_written : Heap before xs (length xs) → Sinking before (take (length xs - 1) (set xs 0 x)) 0 (length (take (length xs - 1) (set xs 0 x)))
  root_written h = (λ p k d l b s n. grind (arith, places, h p k d), λ p k d l b l' b' s. absurd (omega arith))

pub heap_front : {X : Type 0} (before : X → X → Bool) (rs rest : List X) (n m : ℕ) → n ≤ m → n ≤ length rs → Heap before rs m → Heap before (rs ++ rest) n
heap_front before rs rest n m le fits h p k d g l b =
    rw (get_or_append_left rs rest d k (omega arith), get_or_append_left rs rest d p (omega arith)) (h p k d g l (omega arith))
