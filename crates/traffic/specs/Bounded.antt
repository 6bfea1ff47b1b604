-- What a lawful list of a bucket asks for never exceeds the curve.
use Rattle.std.specs.Prelude.{◌≡◌, ℕ, ◌+◌, ◌-◌, ◌*◌, ◌/◌, ◌≤◌, Bool, cond, ◌&&◌, ◌⊎◌, List, [], ◌∷◌, nat_le, refl}
use Rattle.std.proofs.Common.{sym, ap, subst, ◌∙◌, inl, inr, add-mul, mul-le-mul_left, arith}
use Rattle.std.proofs.Math.Nat.{add-mul-div_right}
use Rattle.std.proofs.lemmas.Bool.Decides.{nat_tests}
use Rattle.std.proofs.lemmas.Bool.{cases_lt, cases_Bool, cond-true, cond-false}
use Rattle.std.proofs.lemmas.Nat.{le-div}
use Rattle.traffic.specs.Arrivals.{Arrival, Taken, demand}
use Rattle.traffic.specs.Bucket.{bucket_step}
use Rattle.traffic.specs.Curves.{staircase}
use Rattle.traffic.specs.Credits.{taken_facts}
use Rattle.traffic.specs.Lists.{no_demand}
use Rattle.traffic.specs.Staircase.{staircase_from}

-- From credit z there is room for k packets in the slots from a to a + (t - d): k more periods end no later than b periods after that.

abbrev Room : ℕ → ℕ → ℕ → ℕ → ℕ → ℕ → ℕ → Type 0
Room T b d a t z k = (k ≡ 0) ⊎ ((k * T + z ≤ a + (t - d) + (b - 1) * T + T) × (k * T + a ≤ a + (t - d) + (b - 1) * T + T))

room_one_more : (T C b d a t z z' s l D k : ℕ) → d ≤ t → l ≤ C → z + T ≤ z' → s + T ≤ z' → z ≤ s + (b - 1) * T → D ≤ C * k → Room T b d a t z' k → (j : ℕ) × (cond (nat_le a s && nat_le (s + d) (a + t)) l 0 + D ≤ C * j) × Room T b d a t z j
room_one_more T C b d a t z z' s l D k hd hl up far hz hD room = elim (cases_Bool test) [
  | inl in_window ↦
      let e : cond test l 0 ≡ l = cond-true test l 0 in_window in
      let lo : a ≤ s = grind (arith, nat_tests) in
      let hi : s + d ≤ a + t = grind (arith, nat_tests) in (
        k + 1,
        omega arith,
        inr (elim room [
          | inl none ↦ let y : k * T ≡ 0 * T = ap (λ x. x * T) none in omega arith
          | inr some ↦ omega arith
        ]),
      )
  | inr outside ↦
      let e : cond test l 0 ≡ 0 = cond-false test l 0 outside in
      (k, omega arith, elim room [ inl none ↦ inl none | inr some ↦ inr (omega arith) ])
]
  where
    test : Bool
    test = nat_le a s && nat_le (s + d) (a + t)

room_counted : (T C b d a t : ℕ) → d ≤ t → (z c : ℕ) (ps : List Arrival) → Taken (bucket_step T C b) z c ps → (k : ℕ) × (demand d a t ps ≤ C * k) × Room T b d a t z k
room_counted T C b d a t h z c [] r = (0, omega arith, inl refl)
room_counted T C b d a t h z c (p ∷ ps) r =
    let i = taken_facts T C b z p.slot p.len r.0 r.2 in
    let next = room_counted T C b d a t h r.0 p.slot ps r.3 in
    room_one_more T C b d a t z r.0 p.slot p.len (demand d a t ps) next.0 h i.1 (omega (arith, i.3)) (omega (arith, i.3)) i.2 next.1 next.2

room_under_curve : (T C b d a t z k D : ℕ) → 1 ≤ T → 1 ≤ b → d ≤ t → D ≤ C * k → Room T b d a t z k → D ≤ staircase T C b d t
room_under_curve T C b d a t z k D pos deep le h room =
    let whole : (b - 1) + 1 ≡ b = omega arith in
    let all : (b - 1) * T + 1 * T ≡ b * T = sym (add-mul (b - 1) 1 T) ∙ ap (λ x. x * T) whole in
    let top : k ≤ (t - d) / T + b = elim room [
      | inl none ↦ omega arith
      | inr some ↦ subst (λ x. k ≤ x) (add-mul-div_right (t - d) b pos) (le-div k ((t - d) + b * T) T pos (omega (arith, some.1)))
    ] in
    omega (arith, mul-le-mul_left C top, staircase_from T C b d t le)

pub taken_bounded : (T C b d : ℕ) → 1 ≤ T → 1 ≤ b → (ps : List Arrival) → Taken (bucket_step T C b) 0 0 ps → (a t : ℕ) → demand d a t ps ≤ staircase T C b d t
taken_bounded T C b d pos deep ps r a t = elim (cases_lt t d) [
  | inl lt ↦ omega (arith, no_demand d a t lt ps)
  | inr le ↦ let n = room_counted T C b d a t le 0 0 ps r in room_under_curve T C b d a t 0 n.0 (demand d a t ps) pos deep le n.1 n.2
]
