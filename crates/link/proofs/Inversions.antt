-- What a granted outcome tells.
use Rattle.std.proofs.Common.{◌≡◌, ℕ, suc, ◌≤◌, Bool, true, false, cond, ◌&&◌, List, [], ◌∷◌, is_some, Some, None, Ok, Err, Option, Result, refl, subst}
use Rattle.std.proofs.lemmas.Bool.{and_parts, leb-true}
use Rattle.std.specs.Option.{option_map}
use Rattle.std.specs.List.{AllByRecursion, position}
use Rattle.refusals.specs.declared.Refusal.{Refusal}
use Rattle.link.specs.Model.{FullRow, Model, find}
use Rattle.link.specs.Packets.{is_mat_lem}
use Rattle.link.specs.Rows.{counted_of}
use Rattle.link.specs.Holding.{hold_cause}
use Rattle.link.proofs.Firsts.{position-cons}

pub unless_refused : {U : Type 0} (b : Bool) (e : Refusal) (x : Result U Refusal) (y : U) → cond b (Err e) x ≡ Ok y → x ≡ Ok y
unless_refused true e x y h = cc
unless_refused false e x y h = h

pub else_refused : {U : Type 0} (b : Bool) (e : Refusal) (x : Result U Refusal) (y : U) → cond b x (Err e) ≡ Ok y → x ≡ Ok y
else_refused true e x y h = h
else_refused false e x y h = cc

pub ok_same : {U : Type 0} (x y : U) → ◌≡◌ {A = Result U Refusal} (Ok x) (Ok y) → x ≡ y
ok_same x y h = cc

pub some_same : {U : Type 0} (x y : U) → ◌≡◌ {A = Option U} (Some x) (Some y) → x ≡ y
some_same x y h = cc

pub unless_cause : (b : Bool) (e : Refusal) (x : Option Refusal) → cond b (Some e) x ≡ None → (b ≡ false) × (x ≡ None)
unless_cause true e x h = cc
unless_cause false e x h = (refl, h)

pub else_cause : (b : Bool) (e : Refusal) (x : Option Refusal) → cond b x (Some e) ≡ None → (b ≡ true) × (x ≡ None)
else_cause true e x h = (refl, h)
else_cause false e x h = cc

none_cases : (b : Bool) (o : Option ℕ) → is_some (cond b (Some 0) (option_map suc o)) ≡ false → (b ≡ false) × (is_some o ≡ false)
none_cases true o h = cc
none_cases false None h = (refl, refl)
none_cases false (Some j) h = cc

-- where a search finds none, none passes
pub none_passes : {X : Type 0} (P : X → Bool) (xs : List X) → is_some (position P xs) ≡ false → AllByRecursion (λ x. P x ≡ false) xs
none_passes P [] h = tt
none_passes P (x ∷ xs) h = let q = none_cases (P x) (position P xs) (subst (λ o. is_some o ≡ false) (position-cons P x xs) h) in (q.0, none_passes P xs q.1)

-- a hold that comes to the verdict is for a mat that no counted row has
pub hold_new : {X S : Type 0} (limits : X → ℕ → Bool) (m : Model X S) (mat : ℕ) (k : X) → hold_cause limits m mat k ≡ None →
    AllByRecursion (λ (r : FullRow X S). counted_of mat r.entry ≡ false) m.rows
hold_new limits m mat k h =
    let a = (unless_cause m.terms.shut _ _ h).1 in
    let b = (else_cause (is_mat_lem mat && limits k m.terms.longest) _ _ a).1 in
    let c = (unless_cause (is_some (find (counted_of mat) m)) _ _ b).0 in
    none_passes (λ r. counted_of mat r.entry) m.rows c

-- and of a kind within its limits
pub hold_within : {X S : Type 0} (limits : X → ℕ → Bool) (m : Model X S) (mat : ℕ) (k : X) → hold_cause limits m mat k ≡ None → limits k m.terms.longest ≡ true
hold_within limits m mat k h =
    let a = (unless_cause m.terms.shut _ _ h).1 in
    (and_parts (is_mat_lem mat) (limits k m.terms.longest) (else_cause (is_mat_lem mat && limits k m.terms.longest) _ _ a).0).1

-- and not mat 0
pub hold_mat : {X S : Type 0} (limits : X → ℕ → Bool) (m : Model X S) (mat : ℕ) (k : X) → hold_cause limits m mat k ≡ None → 1 ≤ mat
hold_mat limits m mat k h =
    let a = (unless_cause m.terms.shut _ _ h).1 in
    leb-true 1 mat (and_parts (is_mat_lem mat) (limits k m.terms.longest) (else_cause (is_mat_lem mat && limits k m.terms.longest) _ _ a).0).0
