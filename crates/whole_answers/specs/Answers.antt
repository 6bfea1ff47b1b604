-- What the course programs print for a text.
use Rattle.std.specs.Prelude.{ℕ, List}
use Rattle.lines.specs.Texts.{Told}
use Rattle.lines.specs.declared.Line.{Line}
use Rattle.whole_answers.specs.Least.{LeastTold}
use Rattle.whole_answers.specs.Runs.{Ran}

-- the lines of the course program: a plan is run
abbrev pub Answered : List ℕ → List Line → Type 0
Answered bytes ls = Told Ran bytes ls

-- the lines of the least allowances
abbrev pub LeastAnswered : List ℕ → List Line → Type 0
LeastAnswered bytes ls = Told LeastTold bytes ls
