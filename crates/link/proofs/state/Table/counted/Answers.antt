use Rattle.std.proofs.Common.{◌≡◌, ℕ, zero, suc, ◌+◌, ◌<◌, ◌≤◌, List, false, map, length, get_or, sym, refl, subst, ◌∙◌, arith, rules}
use Rattle.std.proofs.lemmas.List.{ext_get_or, length-map, get_or-map}
use Rattle.std.specs.Array.{IsFromFnResult, IsFromFnResultFrom}
use Rattle.std.specs.Fn.{Called}
use denote.Param.Members.{Mut}
use Rattle.link.specs.Rows.{blank, counted}
use Rattle.link.proofs.state.Table.counted.Goals as goal

-- where each call of f leaves it as it was and gives h of the index, each element is h of its index
module _ {F B : Type 0} (g : Mut F (ℕ × Unit {0}) B) (f : F) (h : ℕ → B) (ys : List B) (m : ℕ)
    (each : (x : ℕ) (y : B) (q : F) → x < m → Called g f (x, tt) y q → (q ≡ f) × (y ≡ h x)) where
  from_is : (p : F) (i n k j : ℕ) (d : B) → p ≡ f → i + n ≤ m → j ≡ i + k → k < n → IsFromFnResultFrom g p ys i n → get_or ys j d ≡ h j
  from_is p i zero k j d e l s b r = absurd (omega arith)
  from_is p i (suc n) zero j d e l s b (q, y, at, called, rest) =
      let here : j ≡ i = omega arith in
      let is = each i y q (omega arith) (subst (λ z. Called g z (i, tt) y q) e called) in
      subst (λ z. get_or ys z d ≡ h z) (sym here) (at.1 d ∙ is.1)
  from_is p i (suc n) (suc k) j d e l s b (q, y, at, called, rest) =
      let is = each i y q (omega arith) (subst (λ z. Called g z (i, tt) y q) e called) in
      from_is q (i + 1) n k j d is.0 (omega arith) (omega arith) (omega arith) rest

made_is : {F B : Type 0} {g : Mut F (ℕ × Unit {0}) B} {f : F} {ys : List B} {n : ℕ} (h : ℕ → B) → IsFromFnResult g f ys n →
    ((x : ℕ) (y : B) (q : F) → x < n → Called g f (x, tt) y q → (q ≡ f) × (y ≡ h x)) → (k : ℕ) (d : B) → k < n → get_or ys k d ≡ h k
made_is {g = g} {f = f} {ys = ys} {n = n} h made each k d b = from_is g f h ys n each f 0 n k k d refl (omega arith) (omega arith) b made.each

pub returns : goal.returns
returns c =
    let rs = c.args.self.now.records in
    let full : length rs ≡ 32 = c.args.self.now.full in
    let made = c.from_fn.ensures.items in
    ext_get_or false c.from_fn.result (map counted rs) (omega (arith, length-map rs counted, made.long))
    (λ k l.
    let here : k < 32 = omega (arith, made.long) in
    made_is (λ x. counted (get_or rs x blank)) made (λ x y q b called. search rules) k false here
    ∙ sym (get_or-map counted rs k blank false (omega arith)))
