-- What a set of channels asks for together: sums and the largest over their numbers.
use Rattle.std.specs.Prelude.{ℕ, ◌+◌, ◌-◌, max, List, [], ◌∷◌}
use Rattle.traffic.specs.Curves.{Numbers}

-- the sum of f over a list
abbrev pub total : {K : Type 0} → (K → ℕ) → List K → ℕ
total f [] = 0
total f (k ∷ ks) = f k + total f ks

-- the largest f over a list, and 0 of an empty one
abbrev pub largest : {K : Type 0} → (K → ℕ) → List K → ℕ
largest f [] = 0
largest f (k ∷ ks) = max (f k) (largest f ks)

-- slots that the channels ask for in each frame
abbrev pub works : {K : Type 0} → (K → Numbers) → List K → ℕ
works m = total (λ k. (m k).work)

-- slots that they ask for at once
abbrev pub bursts : {K : Type 0} → (K → Numbers) → List K → ℕ
bursts m = total (λ k. (m k).burst)

-- the sum of the curves at t: the most that can be offered from some slot a on and be due by a + t
abbrev pub curves : {K : Type 0} → (K → Numbers) → List K → ℕ → ℕ
curves m ks t = total (λ k. (m k).curve t) ks

-- from here on the sum of curves repeats each frame: below it lie all points that need a look
abbrev pub horizon : {K : Type 0} → (K → Numbers) → List K → ℕ
horizon m ks = largest (λ k. (m k).allowance) ks + 5040

-- the blocking term at each t: a packet just begun, which may have p slots and is not broken off, holds up
-- a more urgent one for all its slots but the one that has passed
abbrev pub blocking : ℕ → ℕ → ℕ
blocking p t = p - 1
