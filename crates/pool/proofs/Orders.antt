-- What the two laws of an order give.
use Rattle.std.proofs.Common.{◌≡◌, Bool, true, false, arith}

-- of two elements at most one goes before the other
abbrev pub Asymmetric : {X : Type 0} → (X → X → Bool) → Type 0
Asymmetric {X} before = (x y : X) → before x y ≡ true → before y x ≡ false

-- not going before is transitive
abbrev pub Transitive : {X : Type 0} → (X → X → Bool) → Type 0
Transitive {X} before = (x y z : X) → before y x ≡ false → before z y ≡ false → before z x ≡ false

module _ {X : Type 0} (before : X → X → Bool) (asym : Asymmetric before) where
  pub itself : (x : X) → before x x ≡ false
  itself x = grind (arith, asym x x)

  -- going before is transitive
  pub before_transitive : Transitive before → (x y z : X) → before x y ≡ true → before y z ≡ true → before x z ≡ true
  before_transitive trans x y z xy yz = grind (arith, asym y z, trans y z x)
