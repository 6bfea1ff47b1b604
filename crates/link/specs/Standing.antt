-- What holds of a link whatever was called since its opening.
use Rattle.std.specs.Prelude.{◌≡◌, ℕ, ◌≤◌, Bool, true, false, List, [], ◌∷◌, length, ◌≢◌}
use Rattle.std.specs.List.{AllByRecursion}
use Rattle.traffic.specs.Curves.{Numbers}
use Rattle.verdict.specs.Demand.{blocking}
use Rattle.verdict.specs.Passes.{Passes}
use Rattle.link.specs.Model.{FullRow, Model, channels}
use Rattle.link.specs.Rows.{counted}

module _ {X S : Type 0} where
  -- if both rows count, they have different mats and different serials
  abbrev pub Differ : FullRow X S → FullRow X S → Type 0
  Differ r q =
      counted r.entry ≡ true → counted q.entry ≡ true →
      (r.entry.mat ≢ q.entry.mat) × (r.entry.serial ≢ q.entry.serial)

  -- no two counted rows have one mat, or one serial
  abbrev pub Apart : List (FullRow X S) → Type 0
  Apart [] = Unit {0}
  Apart (r ∷ rs) = AllByRecursion (Differ r) rs × Apart rs

  -- the serial of a counted row is among the n granted
  abbrev pub Numbered : ℕ → FullRow X S → Type 0
  Numbered n r = counted r.entry ≡ true → r.entry.serial ≤ n

  -- the longest packet is 1 to 255 slots, and there are at most 32 rows
  pub record InRange (m : Model X S) : Type 0 where
    pub least : 1 ≤ m.terms.longest
    pub most : m.terms.longest ≤ 255
    pub few : length m.rows ≤ 32

  -- a link that is not shut is in range; the counted channels are apart, keep their limits and pass together
  pub record Standing (numbers : X → Numbers) (limits : X → ℕ → Bool) (m : Model X S) : Type 0 where
    pub in_range : m.terms.shut ≡ false → InRange m
    pub apart : Apart m.rows
    pub numbered : AllByRecursion (Numbered m.serials) m.rows
    pub within : AllByRecursion (λ k. limits k m.terms.longest ≡ true) (channels m.rows)
    pub passing : Passes numbers (blocking m.terms.longest) (channels m.rows)
