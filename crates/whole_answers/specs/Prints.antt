-- What each call prints.
use Rattle.std.specs.Prelude.{ℕ, ◌+◌, List, [], ◌∷◌, ◌++◌, map, Ok, Err}
use Rattle.link.specs.Happenings.{happenings, clock_of, ending}
use Rattle.link.specs.History.{held, confirmed, cancelled, released, offered, bulked, ticked, stretch_asked, least_asked, pieced}
use Rattle.lines.specs.Lines.{channel_line_lem}
use Rattle.whole_answers.specs.Kinds.{LinkCall}
use Rattle.lines.specs.declared.Line.{Line}
use Rattle.lines.specs.declared.Line.TheVariants.{Malformed, Opened, Spaced, Bucket, Offered, Bulk, Released, Ended, Stopped, Least}

-- a packet that ended, and the clock then
abbrev pub end_line : ℕ × ℕ → Line
end_line x = Ended x.0 x.1

-- what a call prints that is made at this clock: a granted tick prints the end that came with its slot, if one did
abbrev pub lines_at : ℕ → LinkCall → List Line
lines_at s (held mat k (Ok (h, count))) = channel_line_lem k mat (Ok count) ∷ []
lines_at s (held mat k (Err e)) = channel_line_lem k mat (Err e) ∷ []
lines_at s (confirmed h r) = []
lines_at s (cancelled h r) = []
lines_at s (released mat r) = Released mat r ∷ []
lines_at s (offered mat place bytes r) = Offered mat r ∷ []
lines_at s (bulked place bytes r) = Bulk r ∷ []
lines_at s (ticked (Ok carried)) = map end_line (ending carried (s + 1))
lines_at s (ticked (Err e)) = Stopped e ∷ []
lines_at s (stretch_asked r) = []
lines_at s (least_asked k r) = []
lines_at s (pieced mats files r) = []

-- what calls print, the newest call first and the newest line last
abbrev pub lines_of : List LinkCall → List Line
lines_of [] = []
lines_of (c ∷ cs) = lines_of cs ++ lines_at (clock_of (happenings cs)) c

-- the ends that lines tell of: each mat and clock
abbrev pub ends_told : List Line → List (ℕ × ℕ)
ends_told [] = []
ends_told (Malformed sec num ∷ ls) = ends_told ls
ends_told (Opened shut ∷ ls) = ends_told ls
ends_told (Spaced mat r ∷ ls) = ends_told ls
ends_told (Bucket mat r ∷ ls) = ends_told ls
ends_told (Offered mat r ∷ ls) = ends_told ls
ends_told (Bulk r ∷ ls) = ends_told ls
ends_told (Released mat r ∷ ls) = ends_told ls
ends_told (Ended mat clock ∷ ls) = (mat, clock) ∷ ends_told ls
ends_told (Stopped e ∷ ls) = ends_told ls
ends_told (Least mat r ∷ ls) = ends_told ls
