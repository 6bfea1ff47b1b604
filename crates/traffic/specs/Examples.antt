-- Worked lists of packets, which show that the laws are not empty, and a kind that they shut out.
use Rattle.std.specs.Prelude.{◌≡◌, ℕ, true, List, [], ◌∷◌, None}
use Rattle.traffic.specs.Arrivals.{Arrival, Steps, Lawful, demand}
use Rattle.traffic.specs.Bucket.{bucket, bucket_limits, bucket_steps}
use Rattle.traffic.specs.Curves.{Numbers}
use Rattle.traffic.specs.Laws.{CurveLaws, TrafficLaws}
use Rattle.traffic.specs.Spaced.{spaced, spaced_limits, spaced_steps}

abbrev pub packet : ℕ → ℕ → Arrival
packet s l = record { slot = s; len = l }

-- from slot a on and due by a + t, the list asks for x slots of the y that the curve allows
abbrev pub Asks : Numbers → List Arrival → ℕ → ℕ → ℕ → ℕ → Type 0
Asks n ps a t x y = (demand n.allowance a t ps ≡ x) × (n.curve t ≡ y)

-- spaced traffic with period 10, longest packet 2 and allowance 5: two packets as early as may be, and a short one
abbrev pub spaced_list : List Arrival
spaced_list = packet 3 2 ∷ packet 13 2 ∷ packet 30 1 ∷ []

-- the second packet comes one slot too early
abbrev pub spaced_early : List Arrival
spaced_early = packet 3 2 ∷ packet 12 2 ∷ []

-- bucket traffic with period 10, longest packet 2, depth 3 and allowance 9: three packets at once, and a short one
abbrev pub bucket_list : List Arrival
bucket_list = packet 4 2 ∷ packet 4 2 ∷ packet 4 2 ∷ packet 14 1 ∷ []

-- the fourth packet comes one slot too early
abbrev pub bucket_overdrawn : List Arrival
bucket_overdrawn = packet 4 2 ∷ packet 4 2 ∷ packet 4 2 ∷ packet 13 1 ∷ []

pub record Examples : Type 0 where
  pub spaced_within : spaced_limits 10 2 5 2 ≡ true
  pub spaced_lawful : Lawful (spaced_steps 10 2) spaced_list
  pub spaced_at_5 : Asks (spaced 10 2 5) spaced_list 3 5 2 2
  pub spaced_at_15 : Asks (spaced 10 2 5) spaced_list 3 15 4 4
  pub spaced_at_32 : Asks (spaced 10 2 5) spaced_list 3 32 5 6
  pub spaced_refused : Lawful (spaced_steps 10 2) spaced_early → ⊥
  pub bucket_within : bucket_limits 10 2 3 9 2 ≡ true
  pub bucket_lawful : Lawful (bucket_steps 10 2 3) bucket_list
  pub bucket_at_8 : Asks (bucket 10 2 3 9) bucket_list 4 8 0 0
  pub bucket_at_9 : Asks (bucket 10 2 3 9) bucket_list 4 9 6 6
  pub bucket_at_19 : Asks (bucket 10 2 3 9) bucket_list 4 19 7 8
  pub bucket_refused : Lawful (bucket_steps 10 2 3) bucket_overdrawn → ⊥

-- a step that takes no packet, over states in S, breaks the laws whatever the numbers are
abbrev pub IdleShutOut : Type 0 → Type 0
IdleShutOut S = (p : ℕ) (n : Numbers) (m : Steps S) → ((s : S) (a l : ℕ) → m.step s a l ≡ None) → CurveLaws p n → TrafficLaws n m → ⊥
