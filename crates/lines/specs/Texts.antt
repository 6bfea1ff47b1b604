-- What a text is answered.
use Rattle.std.specs.Prelude.{◌≡◌, ℕ, List, [], ◌∷◌, Ok, Err, Result, Vec, vec_items}
use Rattle.std.specs.Fn.{Once, FnOnceReturns}
use denote.Ref.{Bor}
use Rattle.plan.specs.Format.{Script, script}
use Rattle.plan.specs.Reading.{Read}
use Rattle.plan.specs.declared.Fault.{Fault}
use Rattle.plan.specs.declared.Fault.TheVariants as fault
use Rattle.plan.specs.declared.Plan.{Plan}
use Rattle.lines.specs.declared.Line.{Line}
use Rattle.lines.specs.declared.Line.TheVariants.{Malformed}

-- a text that is not read: its place alone
abbrev pub Refused : Fault → List Line → Type 0
Refused (fault.Malformed sec num) ls = ls ≡ Malformed sec num ∷ []
Refused fault.NoMemory ls = ⊥

-- the lines of a text, by what reading it answers and what is told of a plan
abbrev pub ToldOf : (Script → List Line → Type 0) → Result Plan Fault → List Line → Type 0
ToldOf Tells (Ok plan) ls = Tells (script plan) ls
ToldOf Tells (Err e) ls = Refused e ls

abbrev pub Told : (Script → List Line → Type 0) → List ℕ → List Line → Type 0
Told Tells bytes ls = (r : Result Plan Fault) × Read bytes r × ToldOf Tells r ls

-- what a closure answers to the plan of a script
abbrev pub TellsBy : {F Z E : Type 0} → Once F (Bor Plan × Unit {0}) (Result (Vec Line Z) E) → F → Script → List Line → Type 0
TellsBy {Z = Z} g f s ls = (plan : Bor Plan) × (lines : Vec Line Z) × FnOnceReturns g f (plan, tt) (Ok lines) × (script plan.now ≡ s) × (vec_items lines ≡ ls)
