-- What is told of the least allowances of a plan's channels.
use Rattle.std.specs.Prelude.{◌≡◌, ℕ, Bool, true, false, List, [], ◌∷◌, ◌++◌, length, Result}
use Rattle.plan.specs.Format.{Script}
use Rattle.plan.specs.declared.Channel.{Channel}
use Rattle.link.specs.History.{least_asked}
use Rattle.refusals.specs.declared.Refusal.{Refusal}
use Rattle.link.specs.declared.state.Hold.{Hold}
use Rattle.whole_answers.specs.Kinds.{LinkCall, LinkModel, LinkRow, LinkHistory}
use Rattle.whole_answers.specs.Plans.{joining}
use Rattle.whole_answers.specs.Runs.{link_of}
use Rattle.lines.specs.Lines.{least_line_lem}
use Rattle.lines.specs.declared.Line.{Line}
use Rattle.lines.specs.declared.Line.TheVariants.{Opened}

-- the least allowance of each channel is asked for and told, and then the channel is joined with its own
pub data Asks : List Channel → List LinkCall → List Line → Type 0 where
  none_asked : Asks [] [] []
  asked : {xs : List Channel} {cs : List LinkCall} {ls : List Line} → Asks xs cs ls → (x : Channel) (a : Result (ℕ × ℕ) Refusal) (r : Result (Hold × ℕ) Refusal) → Asks (xs ++ x ∷ []) (joining x r (least_asked x.kind a ∷ cs)) (ls ++ least_line_lem x.mat a ∷ [])

-- from one model to another the channels are asked for and joined, and their lines come after those before
abbrev pub Asking : List Channel → LinkModel → List Line → LinkModel → List Line → Type 0
Asking xs m ls n ks = (cs : List LinkCall) × (told : List Line) × LinkHistory m cs n × Asks xs cs told × (ks ≡ ls ++ told)

-- no channel is asked for where the link opened shut
abbrev pub AsksOf : Bool → Script → List LinkCall → List Line → Type 0
AsksOf true s cs ls = (cs ≡ []) × (ls ≡ [])
AsksOf false s cs ls = Asks s.channels cs ls

-- What is printed of the least allowances.
pub record LeastTold (s : Script) (ls : List Line) : Type 0 where
  -- the memory that the link was lent: 32 rows
  pub rows : List LinkRow
  pub thirty_two : length rows ≡ 32
  -- the calls that were made of the link, the newest first, and what it held after them
  pub calls : List LinkCall
  pub last : LinkModel
  -- each answer is the link's
  pub history : LinkHistory (link_of s rows) calls last
  -- the lines after the first tell what was asked of each channel in turn
  pub told : List Line
  pub made : AsksOf (link_of s rows).terms.shut s calls told
  pub printed : ls ≡ Opened (link_of s rows).terms.shut ∷ told
