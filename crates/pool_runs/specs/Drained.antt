-- A pool that is half drained into a list.
use Rattle.std.specs.Prelude.{ℕ, ◌<◌, Bool, List, ◌++◌, take, slice_index_or}
use Rattle.std.specs.List.Sorted.{IsPermutation, IsSortedWithin}
use Rattle.pool.specs.Contents.{contents}
use Rattle.pool.specs.Elements.{First}
use Rattle.pool.specs.declared.Ordered.{Ghosts as OrderedGhosts}
use Rattle.pool.specs.declared.Pool.{Pool}

-- of the pool `start`, n elements lie in `out` in order, p holds the others, and none of those goes before one of `out`
pub record Drained {X : Type 0} {o : OrderedGhosts X} (before : X → X → Bool) (start p : Pool X o) (out : List X) (n : ℕ) : Type 0 where
  pub all : IsPermutation (contents start) (take n out ++ contents p)
  pub order : IsSortedWithin before out 0 n
  pub later : (k : ℕ) (d : X) → k < n → First before (slice_index_or out k d) (contents p)
