-- Lists whose images under a map agree.
use Rattle.std.proofs.Common.{◌≡◌, List, [], ◌∷◌, map, length, drop, refl, ap, arith}
use Rattle.std.specs.List.{AllByRecursion}

-- where the map tells apart what P holds of, so does the map of lists
pub same_from_map : {X Y : Type 0} (f : X → Y) (P : X → Type 0) → ((x y : X) → P x → P y → f x ≡ f y → x ≡ y) → (xs ys : List X) → AllByRecursion P xs → AllByRecursion P ys → map f xs ≡ map f ys → xs ≡ ys
same_from_map f P told [] [] p q e = refl
same_from_map f P told [] (y ∷ ys) p q e = absurd (omega (arith, ap length e))
same_from_map f P told (x ∷ xs) [] p q e = absurd (omega (arith, ap length e))
same_from_map f P told (x ∷ xs) (y ∷ ys) p q e =
    let first : f x ≡ f y = cc in
    let one = told x y p.0 q.0 first in
    let more = same_from_map f P told xs ys p.1 q.1 (ap (drop 1) e) in
    cc
