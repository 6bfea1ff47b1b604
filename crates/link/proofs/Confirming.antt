-- The confirm right after a granted hold is granted.
use Rattle.std.proofs.Common.{◌≡◌, ℕ, zero, suc, ◌+◌, Bool, true, false, cond, eqb, List, [], ◌∷◌, set, Some, None, Ok, Err, Option, Result, refl, ap, ◌∙◌, subst, eq-eqb}
use Rattle.std.specs.List.{slice_get, position}
use Rattle.std.specs.Option.{option_map}
use Rattle.traffic.specs.Arrivals.{Steps}
use Rattle.traffic.specs.Curves.{Numbers}
use Rattle.traffic.specs.declared.Row.{Row}
use Rattle.link.specs.Holding.{Holds, HeldOr, Decided, Vacant, hold_cause, hold_of, filled}
use Rattle.link.specs.Model.{FullRow, Model}
use Rattle.refusals.specs.Refusals.{decided}
use Rattle.link.specs.Rows.{held_of}
use Rattle.link.specs.Settling.{Confirms, GivenBack, settled_at}
use Rattle.refusals.specs.declared.Refusal.{Refusal}
use Rattle.link.specs.declared.state.Hold.{Hold}
use Rattle.link.proofs.Firsts.{position-cons}
use Rattle.link.proofs.Inversions.{unless_cause}

-- what is found further on is found
found_later : (b : Bool) (o : Option ℕ) (j : ℕ) → o ≡ Some j → (i : ℕ) × (cond b (Some 0) (option_map suc o) ≡ Some i)
found_later true o j h = (0, refl)
found_later false o j h = (suc j, ap (option_map suc) h)

-- a list that was given something that passes the test has a first that does
first_set : {U : Type 0} (P : U → Bool) (xs : List U) (i : ℕ) (x q : U) → slice_get xs i ≡ Some x → P q ≡ true → (j : ℕ) × (position P (set xs i q) ≡ Some j)
first_set P [] i x q h t = cc
first_set P (y ∷ xs) zero x q h t = (0, position-cons P q xs ∙ rw t)
first_set P (y ∷ xs) (suc i) x q h t =
    let rest = first_set P xs i x q h t in
    let found = found_later (P y) (position P (set xs i q)) rest.0 rest.1 in
    (found.0, position-cons P y (set xs i q) ∙ found.1)

hold_is : (x y : Hold × ℕ) → ◌≡◌ {A = Result (Hold × ℕ) Refusal} (Ok x) (Ok y) → x.0 ≡ y.0
hold_is x y h = let same : x ≡ y = cc in ap (λ (z : Hold × ℕ). z.0) same

module _ {X S : Type 0} where
  -- the row just filled has the hold's numbers
  filled_found : (m : Model X S) (i mat : ℕ) (w : Row X S) → Vacant m i →
      (j : ℕ) × (position (λ (q : FullRow X S). held_of mat (m.serials + 1) q.entry) (filled m i mat w).rows ≡ Some j)
  filled_found m i mat w (r, at, free) =
      let a = eq-eqb mat mat refl in
      let b = eq-eqb (m.serials + 1) (m.serials + 1) refl in
      first_set (λ (q : FullRow X S). held_of mat (m.serials + 1) q.entry) m.rows i r _ at (rw (a, b))

  -- a confirm whose row is found is granted
  given : (h : Hold) (b d : Bool) (e e' : Refusal) (x : Result (Model X S) Refusal) (n m : Model X S) (r : Result (Unit {0}) (Refusal × Hold)) (o : Model X S) →
      b ≡ false → d ≡ true → x ≡ Ok n → GivenBack h (cond b (Err e) (cond d x (Err e'))) m r o → r ≡ Ok tt
  given h true d e e' x n m r o p q is g = cc
  given h false false e e' x n m r o p q is g = cc
  given h false true e e' (Ok y) n m r o p q is g = g.0
  given h false true e e' (Err c) n m r o p q is g = cc

  confirm_filled : (m : Model X S) (i mat : ℕ) (w : Row X S) (r : Result (Unit {0}) (Refusal × Hold)) (o : Model X S) →
      m.terms.shut ≡ false → Vacant m i → Confirms (filled m i mat w) (hold_of m mat) r o → r ≡ Ok tt
  confirm_filled m i mat w r o unshut vacant c =
      let found = filled_found m i mat w vacant in
      given (hold_of m mat) m.terms.shut (eqb m.terms.name m.terms.name) _ _ _ _ (filled m i mat w) r o unshut (eq-eqb m.terms.name m.terms.name refl)
      (ap (settled_at _ (filled m i mat w)) found.1) c

  module _ (numbers : X → Numbers) (limits : X → ℕ → Bool) (steps : X → Steps S) where
    after_decided : (x : Result ℕ Refusal) (m : Model X S) (mat : ℕ) (k : X) (h : Hold) (count : ℕ) (n : Model X S) (r : Result (Unit {0}) (Refusal × Hold)) (o : Model X S) →
        m.terms.shut ≡ false → Decided numbers limits steps x m mat k (Ok (h, count)) n → Confirms n h r o → r ≡ Ok tt
    after_decided (Err e) m mat k h count n r o unshut d c = let q = d.0 in cc
    after_decided (Ok points) m mat k h count n r o unshut (i, vacant, q, is) c =
        let w : Row X S = record { kind = k; state = (steps k).fresh } in
        let same : h ≡ hold_of m mat = hold_is (h, count) (hold_of m mat, points) q in
        confirm_filled m i mat w r o unshut vacant
        (subst (λ (y : Hold). Confirms (filled m i mat w) y r o) same (subst (λ (y : Model X S). Confirms y h r o) is c))

    after_cause : (x : Option Refusal) (m : Model X S) (mat : ℕ) (k : X) (h : Hold) (count : ℕ) (n : Model X S) (r : Result (Unit {0}) (Refusal × Hold)) (o : Model X S) →
        hold_cause limits m mat k ≡ x → HeldOr numbers limits steps x m mat k (Ok (h, count)) n → Confirms n h r o → r ≡ Ok tt
    after_cause (Some e) m mat k h count n r o is d c = let q = d.0 in cc
    after_cause None m mat k h count n r o is (v, judged, d) c =
        after_decided (decided v) m mat k h count n r o (unless_cause m.terms.shut _ _ is).0 d c

    -- the confirm of a granted hold is not refused
    pub confirm_granted : (m : Model X S) (mat : ℕ) (k : X) (h : Hold) (count : ℕ) (n : Model X S) (e : Refusal × Hold) (o : Model X S) →
        Holds numbers limits steps m mat k (Ok (h, count)) n → Confirms n h (Err e) o → ⊥
    confirm_granted m mat k h count n e o held confirmed =
        let granted : ◌≡◌ {A = Result (Unit {0}) (Refusal × Hold)} (Err e) (Ok tt) = after_cause (hold_cause limits m mat k) m mat k h count n (Err e) o refl held confirmed in
        cc
