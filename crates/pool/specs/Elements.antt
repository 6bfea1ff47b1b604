-- What is said of the elements of a list. `before x y` says that x goes first.
use Rattle.std.specs.Prelude.{◌≡◌, Bool, false, List, [], ◌∷◌, Some, None, Option}
use Rattle.std.specs.List.{All}

-- none of xs goes before x
abbrev pub First : {X : Type 0} → (X → X → Bool) → X → List X → Type 0
First before x xs = All (λ y. before y x ≡ false) xs

-- the first element, if there is any
abbrev pub head : {X : Type 0} → List X → Option X
head [] = None
head (x ∷ xs) = Some x
