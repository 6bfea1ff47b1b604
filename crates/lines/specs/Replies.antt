-- What is written for a text.
use Rattle.std.specs.Prelude.{ℕ, List, [], ◌∷◌, ◌++◌}
use Rattle.std.specs.List.{flat_map}
use Rattle.lines.specs.Lines.{printed}
use Rattle.lines.specs.declared.Line.{Line}

-- lines as they are written, each with a line break
abbrev pub written : List Line → List ℕ
written ls = flat_map (λ l. printed l ++ 10 ∷ []) ls
