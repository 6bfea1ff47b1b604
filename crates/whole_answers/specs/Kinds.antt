-- The link that carries the kinds of a plan.
use Rattle.std.specs.Prelude.{List}
use Rattle.traffic.specs.declared.Row.{Row}
use Rattle.link.specs.History.{Call, History}
use Rattle.link.specs.Model.{Model}
pub use Rattle.plan.specs.Kinds.{Kind, State, kind_numbers, kind_limits, kind_dated, kind_steps}

-- a call of the link with its answer, what a link holds, and a row of its memory
abbrev pub LinkCall : Type 0
LinkCall = Call Kind

abbrev pub LinkModel : Type 0
LinkModel = Model Kind State

abbrev pub LinkRow : Type 0
LinkRow = Row Kind State

-- calls, the last first, with answers that lead from one model to another
abbrev pub LinkHistory : LinkModel → List LinkCall → LinkModel → Type 0
LinkHistory = History kind_numbers kind_limits kind_dated kind_steps
