-- What a run of a plan over a link prints.
use Rattle.std.specs.Prelude.{◌≡◌, ℕ, List, [], ◌∷◌, length}
use Rattle.plan.specs.Format.{Script}
use Rattle.link.specs.Happenings.{happenings, endings}
use Rattle.link.specs.Model.{opened}
use Rattle.link.specs.Promise.{OnTime, Promise}
use Rattle.whole_answers.specs.Kinds.{LinkCall, LinkModel, LinkRow, LinkHistory, kind_numbers, kind_limits, kind_dated, kind_steps}
use Rattle.whole_answers.specs.Plans.{PlanCalls}
use Rattle.whole_answers.specs.Prints.{lines_of, ends_told}
use Rattle.lines.specs.declared.Line.{Line}
use Rattle.lines.specs.declared.Line.TheVariants.{Opened}

-- the link of a run as it is opened: its name is 0, and it has 256 places for waiting packets
abbrev pub link_of : Script → List LinkRow → LinkModel
link_of s rows = opened 0 s.longest rows 256

-- a link as it is opened over these rows and so many places: its line tells how, and it keeps the promise of a link
pub record Opening (p : ℕ) (rows : List LinkRow) (places : ℕ) (m : LinkModel) (ls : List Line) : Type 0 where
  pub opens : m ≡ opened 0 p rows places
  pub promise : Promise kind_numbers kind_limits kind_dated kind_steps m
  pub printed : ls ≡ Opened m.terms.shut ∷ []

-- these lines are those of a run of the plan
pub record Ran (s : Script) (ls : List Line) : Type 0 where
  -- the memory that the link was lent: 32 rows
  pub rows : List LinkRow
  pub thirty_two : length rows ≡ 32
  -- the calls that were made of the link, the newest first, and what it held after them
  pub calls : List LinkCall
  pub last : LinkModel
  -- each call was answered by the rules of the link
  pub history : LinkHistory (link_of s rows) calls last
  -- the calls are those of the plan
  pub made : PlanCalls (link_of s rows).terms.shut s calls
  -- printed is how the link opened, and then what each call prints
  pub printed : ls ≡ Opened (link_of s rows).terms.shut ∷ lines_of calls
  -- the lines tell of every packet that ended and of no other, in the order of the ends
  pub ends : ends_told ls ≡ endings (happenings calls)
  -- and nothing came late: each accepted packet has ended by its due slot, or that slot is still ahead
  pub on_time : OnTime kind_numbers (happenings calls)
