-- A packet from a bucket: when it is taken, and the credit slot that it leaves.
use Rattle.std.specs.Prelude.{◌≡◌, ℕ, ◌+◌, ◌-◌, ◌*◌, ◌≤◌, max, List, [], ◌∷◌, Some}
use Rattle.std.proofs.Common.{le_refl, arith}
use Rattle.std.proofs.lemmas.Bool.Decides.{nat_tests}
use Rattle.traffic.specs.Arrivals.{Arrival, Taken, later, Lengths}
use Rattle.traffic.specs.Bucket.{bucket_step}

pub taken_facts : (T C b z s l t : ℕ) → bucket_step T C b z s l ≡ Some t → (1 ≤ l) × (l ≤ C) × (z ≤ s + (b - 1) * T) × (t ≡ max z s + T)
taken_facts T C b z s l t e = (grind (arith, nat_tests), grind (arith, nat_tests), grind (arith, nat_tests), grind (arith, nat_tests))

pub is_taken : (T C b z s l : ℕ) → 1 ≤ l → l ≤ C → z ≤ s + (b - 1) * T → bucket_step T C b z s l ≡ Some (max z s + T)
is_taken T C b z s l p q r = grind (arith, nat_tests)

-- Lengths are 1 to C, and a list moved later is taken from every credit that is moved no further.

pub taken_lengths : (T C b z a : ℕ) (ps : List Arrival) → Taken (bucket_step T C b) z a ps → Lengths C ps
taken_lengths T C b z a [] r = tt
taken_lengths T C b z a (p ∷ ps) r =
    let i = taken_facts T C b z p.slot p.len r.0 r.2 in
    (i.0, i.1, taken_lengths T C b r.0 p.slot ps r.3)

pub taken_later : (T C b n z y a c : ℕ) (ps : List Arrival) → y ≤ n + z → c ≤ n + a → Taken (bucket_step T C b) z a ps → Taken (bucket_step T C b) y c (later n ps)
taken_later T C b n z y a c [] k h r = tt
taken_later T C b n z y a c (p ∷ ps) k h r =
    let i = taken_facts T C b z p.slot p.len r.0 r.2 in (
      max y (n + p.slot) + T,
      omega (arith, r.1),
      is_taken T C b y (n + p.slot) p.len i.0 i.1 (omega (arith, i.2)),
      taken_later T C b n r.0 (max y (n + p.slot) + T) p.slot (n + p.slot) ps (omega (arith, i.3)) (le_refl (n + p.slot)) r.3,
    )
