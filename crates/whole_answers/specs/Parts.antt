-- Parts of a run: what each function adds to the calls and lines so far.
use Rattle.std.specs.Prelude.{◌≡◌, List, ◌++◌}
use Rattle.lines.specs.declared.Line.{Line}
use Rattle.whole_answers.specs.Kinds.{LinkCall, LinkModel, LinkHistory}
use Rattle.whole_answers.specs.Prints.{lines_of}

-- so far: these calls were made since the opening, and the lines are the first ones and those that the calls print
pub record SoFar (start : LinkModel) (first : List Line) (cs : List LinkCall) (m : LinkModel) (ls : List Line) : Type 0 where
  pub opened : start.clock ≡ 0
  pub history : LinkHistory start cs m
  pub printed : ls ≡ first ++ lines_of cs

-- a part of a run: whatever calls came before (cs), it makes calls after which all calls so far (ds) stand in this relation to them,
-- and prints what its calls print
abbrev pub Part : (List LinkCall → List LinkCall → Type 0) → LinkModel → List Line → LinkModel → List Line → Type 0
Part Adds m ls n ks =
    (start : LinkModel) (first : List Line) (cs : List LinkCall) → SoFar start first cs m ls → (ds : List LinkCall) × Adds cs ds × SoFar start first ds n ks
