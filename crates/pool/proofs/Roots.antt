-- No element of a heap goes before the one in place 0.
use Rattle.std.proofs.Common.{◌≡◌, ℕ, zero, suc, ◌-◌, ◌/◌, ◌<◌, ◌≤◌, Bool, false, List, [], ◌∷◌, length, IfSome, Some, get_or, take, refl, ap, subst, arith}
use Rattle.std.proofs.lemmas.List.{length-take-le, get_or-take, get_or_read, take_all}
use Rattle.pool.specs.Heap.{Heap}
use Rattle.pool.specs.Elements.{First, head}
use Rattle.pool.proofs.Orders.{Asymmetric, Transitive, itself}

module _ {X : Type 0} (before : X → X → Bool) (asym : Asymmetric before) (trans : Transitive before) where
  -- by the path from k up to place 0, of at most m steps
  up_path : (m : ℕ) (xs : List X) (n : ℕ) → Heap before xs n → (k : ℕ) (d : X) → k < m → k < n → before (get_or xs k d) (get_or xs 0 d) ≡ false
  up_path zero xs n h k d s b = absurd (omega arith)
  up_path (suc m) xs n h k d s b =
      let up : ℕ = (k - 1) / 2 in
      let rest = up_path m xs n h up d in
      grind (arith, itself before asym (get_or xs 0 d), rest, h up k d, trans (get_or xs 0 d) (get_or xs up d) (get_or xs k d))

  pub root_first : (xs : List X) (n : ℕ) (x : X) → 0 < n → n ≤ length xs → x ≡ get_or xs 0 x → Heap before xs n → First before x (take n xs)
  root_first xs n x pos fits e h k d l =
      let size : length (take n xs) ≡ n = length-take-le n xs fits in
      rw (get_or-take n xs k d (omega arith), get_or_read xs 0 x (omega arith) e d) (up_path n xs n h k d (omega arith) (omega arith))

  -- and so of a whole list
  pub all_first : (xs : List X) (x : X) → 0 < length xs → x ≡ get_or xs 0 x → Heap before xs (length xs) → First before x xs
  all_first xs x pos e h = subst (First before x) (take_all (length xs) xs (omega arith)) (root_first xs (length xs) x pos (omega arith) e h)

  pub head_first : (xs : List X) → Heap before xs (length xs) → IfSome (head xs) (λ x. First before x xs)
  head_first [] h = tt
  head_first (y ∷ ys) h = all_first (y ∷ ys) y (omega arith) refl h

-- what lies in place 0 heads the first n
pub root_heads : {X : Type 0} (xs : List X) (n : ℕ) (x : X) → 0 < n → n ≤ length xs → x ≡ get_or xs 0 x → Some x ≡ head (take n xs)
root_heads [] n x pos le e = absurd (omega arith)
root_heads (y ∷ xs) zero x pos le e = absurd (omega arith)
root_heads (y ∷ xs) (suc n) x pos le e = ap Some e

-- what heads the first n lies in place 0
pub head_is : {X : Type 0} (xs : List X) (n : ℕ) (x : X) → Some x ≡ head (take n xs) → x ≡ get_or xs 0 x
head_is xs zero x e = let z : ◌≡◌ {A = ℕ} 0 1 = cc in absurd (omega arith)
head_is [] (suc n) x e = refl
head_is (y ∷ xs) (suc n) x e = cc
