-- A list as a binary heap: the children of the place i are i * 2 + 1 and i * 2 + 2, and `before x y` says that x goes first.
use Rattle.std.specs.Prelude.{◌≡◌, ℕ, ◌+◌, ◌*◌, ◌<◌, ◌≤◌, Bool, false, List, ◌≢◌, slice_index_or}

-- of the first n elements none, at a place k, goes before its parent, at the place p
abbrev pub Heap : {X : Type 0} → (X → X → Bool) → List X → ℕ → Type 0
Heap {X} before xs n =
    (p k : ℕ) (d : X) → p * 2 + 1 ≤ k → k ≤ p * 2 + 2 → k < n → before (slice_index_or xs k d) (slice_index_or xs p d) ≡ false

-- no child of i goes before the parent of i
abbrev pub Spans : {X : Type 0} → (X → X → Bool) → List X → ℕ → ℕ → Type 0
Spans {X} before xs i n =
    (p k : ℕ) (d : X) → p * 2 + 1 ≤ i → i ≤ p * 2 + 2 → i * 2 + 1 ≤ k → k ≤ i * 2 + 2 → k < n → before (slice_index_or xs k d) (slice_index_or xs p d) ≡ false

-- a heap, but that the element at i may go before its parent
abbrev pub Rising : {X : Type 0} → (X → X → Bool) → List X → ℕ → ℕ → Type 0
Rising {X} before xs i n =
    ((p k : ℕ) (d : X) → p * 2 + 1 ≤ k → k ≤ p * 2 + 2 → k < n → (k ≢ i) → before (slice_index_or xs k d) (slice_index_or xs p d) ≡ false)
    × Spans before xs i n

-- a heap, but that the children of i may go before it
abbrev pub Sinking : {X : Type 0} → (X → X → Bool) → List X → ℕ → ℕ → Type 0
Sinking {X} before xs i n =
    ((p k : ℕ) (d : X) → p * 2 + 1 ≤ k → k ≤ p * 2 + 2 → k < n → (p ≢ i) → before (slice_index_or xs k d) (slice_index_or xs p d) ≡ false)
    × Spans before xs i n

-- no child of i goes before the element at c
abbrev pub Best : {X : Type 0} → (X → X → Bool) → List X → ℕ → ℕ → ℕ → Type 0
Best {X} before xs i c n =
    (k : ℕ) (d : X) → i * 2 + 1 ≤ k → k ≤ i * 2 + 2 → k < n → before (slice_index_or xs k d) (slice_index_or xs c d) ≡ false
