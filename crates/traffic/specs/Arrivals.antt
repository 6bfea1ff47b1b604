-- Packets as they are offered, the lists of them that a kind admits, and what such a list asks for.
use Rattle.std.specs.Prelude.{◌≡◌, ℕ, ◌+◌, ◌≤◌, Bool, true, false, cond, ◌&&◌, List, [], ◌∷◌, Some, None, Option, nat_le}

-- a packet offered in a slot, with its length in slots
pub record Arrival : Type 0 where
  pub slot : ℕ
  pub len : ℕ

-- the state that has seen no packet; and the step: a state, a slot and a length give the next state, or a refusal
pub record Steps (S : Type 0) : Type 0 where
  pub fresh : S
  pub step : S → ℕ → ℕ → Option S

-- from the state s, with no packet before the slot a, the step takes each packet in turn
abbrev pub Taken : {S : Type 0} → (S → ℕ → ℕ → Option S) → S → ℕ → List Arrival → Type 0
Taken step s a [] = Unit {0}
Taken {S} step s a (p ∷ ps) = (t : S) × (a ≤ p.slot) × (step s p.slot p.len ≡ Some t) × Taken step t p.slot ps

-- a lawful list: in non-falling slots, the step takes each packet in turn from the fresh state
abbrev pub Lawful : {S : Type 0} → Steps S → List Arrival → Type 0
Lawful m ps = Taken m.step m.fresh 0 ps

-- the total length of the packets offered in slot a or later and due by a + t, where the allowance is d
abbrev pub demand : ℕ → ℕ → ℕ → List Arrival → ℕ
demand d a t [] = 0
demand d a t (p ∷ ps) = cond (nat_le a p.slot && nat_le (p.slot + d) (a + t)) p.len 0 + demand d a t ps

-- the list moved n slots later as a whole
abbrev pub later : ℕ → List Arrival → List Arrival
later n [] = []
later n (p ∷ ps) = record { slot = n + p.slot; len = p.len } ∷ later n ps

-- every length is 1 to c
abbrev pub Lengths : ℕ → List Arrival → Type 0
Lengths c [] = Unit {0}
Lengths c (p ∷ ps) = (1 ≤ p.len) × (p.len ≤ c) × Lengths c ps

-- what a step's code answers, and the state that it leaves: a refused step leaves the state as it was
abbrev pub Stepped : {S : Type 0} → Option S → S → S → Bool → Type 0
Stepped (Some t) s s' r = (r ≡ true) × (s' ≡ t)
Stepped None s s' r = (r ≡ false) × (s' ≡ s)
