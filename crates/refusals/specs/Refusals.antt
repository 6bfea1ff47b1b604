-- Every refusal with its number, and its point and count.
use Rattle.std.specs.Prelude.{ℕ, Ok, Err, Result}
use Rattle.verdict.specs.declared.Unfit.{Unfit}
use Rattle.verdict.specs.declared.Unfit.TheVariants.{OutsideLimits, Overloaded as Heavy, Late as Fails}
use Rattle.refusals.specs.declared.Refusal.{Refusal}
use Rattle.refusals.specs.declared.Refusal.TheVariants.{Shut, Limits, MatCounted, NoRow, Overloaded, Late, NoSuchRow, Unlawful, Full, ClockEnd, NothingCarried, BeyondMemory}

-- the number of a refusal; where several causes meet, the smallest is told
abbrev pub number : Refusal → ℕ
number Shut = 1
number Limits = 2
number MatCounted = 3
number NoRow = 4
number Overloaded = 5
number (Late point count) = 6
number NoSuchRow = 7
number Unlawful = 8
number Full = 9
number ClockEnd = 10
number NothingCarried = 11
number BeyondMemory = 12

-- the failing point and how many points were taken; 0 and 0 where no point was
abbrev pub values : Refusal → ℕ × ℕ
values Shut = (0, 0)
values Limits = (0, 0)
values MatCounted = (0, 0)
values NoRow = (0, 0)
values Overloaded = (0, 0)
values (Late point count) = (point, count)
values NoSuchRow = (0, 0)
values Unlawful = (0, 0)
values Full = (0, 0)
values ClockEnd = (0, 0)
values NothingCarried = (0, 0)
values BeyondMemory = (0, 0)

-- why channels may not stand together, as a refusal; where one is outside its limits nothing is judged
abbrev pub refusal_of : Unfit → Refusal
refusal_of OutsideLimits = Limits
refusal_of Heavy = Overloaded
refusal_of (Fails point count) = Late point count

-- a verdict as an answer: how many points were taken, or the refusal
abbrev pub decided : Result ℕ Unfit → Result ℕ Refusal
decided (Ok count) = Ok count
decided (Err unfit) = Err (refusal_of unfit)

-- the number that a call answers: 0 where it is granted
abbrev pub answered : {U : Type 0} → Result U Refusal → ℕ
answered (Ok u) = 0
answered (Err e) = number e

-- the failing point and how many points were taken, each 0 where there is none
abbrev pub point_and_count : Result ℕ Refusal → ℕ × ℕ
point_and_count (Ok count) = (0, count)
point_and_count (Err e) = values e
