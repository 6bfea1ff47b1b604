-- What reading a text answers, in the terms of the format.
use Rattle.std.specs.Prelude.{◌≡◌, ℕ, suc, ◌+◌, ◌-◌, ◌<◌, ◌≤◌, cond, ◌⊎◌, List, [], ◌∷◌, ◌++◌, length, take, Ok, Err, Result, ◌≢◌, nat_lt}
use Rattle.plan.specs.Format.{Script, script, lines, written, InRange, cut}
use Rattle.plan.specs.declared.Fault.{Fault}
use Rattle.plan.specs.declared.Fault.TheVariants.{Malformed, NoMemory}
use Rattle.plan.specs.declared.Plan.{Plan}

-- The section of a plan's line number i, counted from 0 over the whole plan, and its number in that section.
abbrev pub place : Script → ℕ → ℕ × ℕ
place s i = cond (nat_lt i 2) (1, i) (cond (nat_lt i (3 + length s.channels)) (2, i - 2) (3, i - (3 + length s.channels)))

-- The first i lines are those of a plan, and the first i + 1 are those of no plan.
pub record StopsAt (ls : List (List ℕ)) (at : ℕ × ℕ) : Type 0 where
  pub i : ℕ
  pub s : Script
  pub in_range : InRange s
  pub begins : take i ls ≡ take i (lines s)
  pub stops : (q : Script) → InRange q → take (suc i) ls ≢ take (suc i) (lines q)
  pub placed : at ≡ place s i

-- The answer to a text: a plan whose lines are those of the text, or the place at which the text stops being the beginning of a plan.
abbrev pub Read : List ℕ → Result Plan Fault → Type 0
Read bytes (Ok p) = (length bytes ≤ 16384) × InRange (script p) × (cut bytes ≡ lines (script p))
Read bytes (Err (Malformed sec num)) = ((16384 < length bytes) × (sec ≡ 0) × (num ≡ 0)) ⊎ ((length bytes ≤ 16384) × StopsAt (cut bytes) (sec, num))
Read bytes (Err NoMemory) = length bytes ≤ 16384

-- The text is that of the plan, but for a last byte 10.
abbrev pub Spells : List ℕ → Script → Type 0
Spells bytes s = (bytes ≡ written s) ⊎ (bytes ++ (10 ∷ []) ≡ written s)

-- A plan that was read, written out again, gives the bytes that were read.
abbrev pub WrittenAgain : List ℕ → Result Plan Fault → Type 0
WrittenAgain bytes (Ok p) = Spells bytes (script p)
WrittenAgain bytes (Err e) = Unit {0}

-- The answer is this plan, or there was no memory for it.
abbrev pub Gives : Script → Result Plan Fault → Type 0
Gives s (Ok p) = script p ≡ s
Gives s (Err (Malformed sec num)) = ⊥
Gives s (Err NoMemory) = Unit {0}

-- Every plan whose numbers are in range, written out, is read back as it was.
abbrev pub ReadBack : List ℕ → Result Plan Fault → Type 0
ReadBack bytes r = (s : Script) → InRange s → length bytes ≤ 16384 → Spells bytes s → Gives s r
