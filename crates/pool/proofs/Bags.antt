-- What `insert` and `remove_first` do to the elements, and `take` to the places past them.
use Rattle.std.proofs.Common.{rules, ◌≡◌, ℕ, ◌+◌, ◌-◌, ◌<◌, ◌≤◌, List, [], ◌∷◌, ◌++◌, length, get_or, take, drop, set, ap, ◌∙◌, sym, arith}
use Rattle.std.specs.List.Sorted.{IsPermutation}
use Rattle.std.proofs.lemmas.List.{places, take_at, take_all, take_more_set, take-append-drop, drop-append-le, length-set, length-take-le, get_or_read}
use Rattle.std.proofs.lemmas.List.Sorted.{IsPermutation-trans, IsPermutation-sym, IsPermutation-cons, IsPermutation-to_front, IsPermutation-swap_remove}

module _ {X : Type 0} where
  -- the element comes into the last place, and then all are moved
  pub insert_bag : (xs ys : List X) (x : X) → 0 < length xs → IsPermutation (set xs (length xs - 1) x) ys → IsPermutation (x ∷ take (length xs - 1) xs) ys
  insert_bag xs ys x pos h =
      let last : ℕ = length xs - 1 in
      let all : take (last + 1) (set xs last x) ≡ set xs last x = take_all (last + 1) (set xs last x) (rw length-set (omega arith)) in
      let is : set xs last x ≡ take last xs ++ x ∷ [] = sym all ∙ take_more_set xs last x (omega arith) in
      IsPermutation-trans _ _ _ (IsPermutation-sym _ _ (IsPermutation-to_front (take last xs) x)) (rw is at h)

  -- the last element e comes into place 0, from which x leaves, and then the others are moved
  pub remove_bag : (xs ys rest : List X) (x e : X) → 0 < length xs → x ≡ get_or xs 0 x → e ≡ get_or xs (length xs - 1) e → length ys ≡ length (take (length xs - 1) (set xs 0 e)) → IsPermutation (take (length xs - 1) (set xs 0 e)) ys → IsPermutation xs (x ∷ take (length xs - 1) (ys ++ rest))
  remove_bag xs ys rest x e pos first last size h =
      let is : e ≡ get_or xs (length xs - 1) x = get_or_read xs (length xs - 1) e (omega arith) last x in
      let all : take (length xs - 1) (ys ++ rest) ≡ ys = take_at ys rest (length xs - 1) (size ∙ search (rules, places)) in
      rw all (IsPermutation-trans _ _ _ (IsPermutation-swap_remove xs 0 x pos first) (IsPermutation-cons x _ _ (rw is at h)))

  -- ys lie in the places of the first n of xs, and the last of them is as it was
  pub last_kept : (xs ys : List X) (n : ℕ) → n ≤ length xs → length ys ≡ length (take n xs) → drop (length (take n xs) - 1) ys ≡ drop (length (take n xs) - 1) (take n xs) → drop (n - 1) (ys ++ drop n xs) ≡ drop (n - 1) xs
  last_kept xs ys n fits size h =
      let long : length (take n xs) ≡ n = length-take-le n xs fits in
      drop-append-le (n - 1) ys (drop n xs) (omega arith)
      ∙ (ap (λ zs. zs ++ drop n xs) (rw long at h)
      ∙ (sym (drop-append-le (n - 1) (take n xs) (drop n xs) (omega arith))
      ∙ ap (drop (n - 1)) (take-append-drop n xs)))
