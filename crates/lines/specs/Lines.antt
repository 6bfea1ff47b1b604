-- What is printed: a letter and numbers, parted by single blanks.
use Rattle.std.specs.Prelude.{ℕ, cond, List, [], ◌∷◌, Ok, Err, Result, ◌==◌}
use Rattle.traffic.specs.declared.mixture.Mixture.TheVariants.{First, Second}
use Rattle.refusals.specs.Refusals.{number, values, answered, point_and_count}
use Rattle.refusals.specs.declared.Refusal.{Refusal}
use Rattle.refusals.specs.declared.Refusal.TheVariants.{Limits}
use Rattle.plan.specs.Kinds.{Kind}
use Rattle.plan.specs.Lines.{line}
use Rattle.lines.specs.declared.Line.{Line}
use Rattle.lines.specs.declared.Line.TheVariants.{Malformed, Opened, Spaced, Bucket, Offered, Bulk, Released, Ended, Stopped, Least}

-- the least allowance and the point that forbids one less; refused, 0 and the refusal's point
abbrev pub least_values : Result (ℕ × ℕ) Refusal → ℕ × ℕ
least_values (Ok found) = found
least_values (Err e) = (0, (values e).0)

-- the numbers of an answer to a channel, in order: the refusal's number is 0 where it is granted
abbrev pub numbers : ℕ → Result ℕ Refusal → List ℕ
numbers mat r = mat ∷ answered r ∷ (point_and_count r).0 ∷ (point_and_count r).1 ∷ []

-- each line's letter, and its numbers
abbrev pub printed : Line → List ℕ
-- `E section line`
printed (Malformed sec num) = line (69, sec ∷ num ∷ [])
-- `P 0`, or `P 1` where the link opened shut
printed (Opened shut) = line (80, cond shut 1 0 ∷ [])
-- `S mat number point count`
printed (Spaced mat r) = line (83, numbers mat r)
-- `B mat number point count`
printed (Bucket mat r) = line (66, numbers mat r)
-- `O mat number`
printed (Offered mat r) = line (79, mat ∷ answered r ∷ [])
-- `K number`
printed (Bulk r) = line (75, answered r ∷ [])
-- `R mat number`
printed (Released mat r) = line (82, mat ∷ answered r ∷ [])
-- `D mat clock`
printed (Ended mat clock) = line (68, mat ∷ clock ∷ [])
-- `T number`
printed (Stopped e) = line (84, number e ∷ [])
-- `L mat number allowance point`
printed (Least mat r) = line (76, mat ∷ answered r ∷ (least_values r).0 ∷ (least_values r).1 ∷ [])

-- a channel's line, by its kind
abbrev pub channel_line_lem : Kind → ℕ → Result ℕ Refusal → Line
channel_line_lem (First k) mat r = Spaced mat r
channel_line_lem (Second k) mat r = Bucket mat r

-- the line of the least allowance; mat 0 is refused first
abbrev pub least_line_lem : ℕ → Result (ℕ × ℕ) Refusal → Line
least_line_lem mat r = Least mat (cond (mat == 0) (Err Limits) r)
