-- What the course programs print for a text.
use Rattle.std.specs.Prelude.{◌≡◌, ℕ, Bool, true, false, ◌&&◌, List, [], ◌∷◌, ◌++◌, length, MatchBool, nat_le}
use Rattle.plan.specs.Format.{Script}
use Rattle.plan.specs.Kinds.{Kind}
use Rattle.plan.specs.declared.Channel.{Channel}
use Rattle.lines.specs.Lines.{channel_line_lem}
use Rattle.lines.specs.Texts as texts
use Rattle.lines.specs.declared.Line.{Line}
use Rattle.lines.specs.declared.Line.TheVariants.{Opened}
use Rattle.answers.specs.Decisions.{Decision, Decisions}
use Rattle.answers.specs.Granted.{LeastTold}

-- a link opens if its longest packet has 1 to 255 slots
abbrev pub opens : ℕ → Bool
opens p = nat_le 1 p && nat_le p 255

-- the lines of all channels, after those before
abbrev pub Extended : (ℕ → List Kind → Channel → Decision → Line → Type 0) → ℕ → List Channel → List Line → List Line → Type 0
Extended Shows p cs ls all = (mats : List ℕ) × (kinds : List Kind) × (more : List Line) × Decisions Shows p cs mats kinds more × (all ≡ ls ++ more)

-- the lines of a plan: `P 0` and a line for each channel, or `P 1` alone where the link opens shut
abbrev pub ToldBy : (ℕ → List Kind → Channel → Decision → Line → Type 0) → Script → List Line → Type 0
ToldBy Shows s ls = MatchBool (opens s.longest) (Extended Shows s.longest s.channels (Opened false ∷ []) ls) (ls ≡ Opened true ∷ [])

-- the line that a channel prints tells the decision
abbrev pub AnswerShown : ℕ → List Kind → Channel → Decision → Line → Type 0
AnswerShown p ks c d l = l ≡ channel_line_lem c.kind c.mat d

-- or the least allowance beside those granted before
abbrev pub LeastShown : ℕ → List Kind → Channel → Decision → Line → Type 0
LeastShown p ks c d l = LeastTold p (length ks) ks c l

abbrev pub Told : Script → List Line → Type 0
Told = ToldBy AnswerShown

abbrev pub LeastsTold : Script → List Line → Type 0
LeastsTold = ToldBy LeastShown

abbrev pub Answered : List ℕ → List Line → Type 0
Answered bytes ls = texts.Told Told bytes ls

abbrev pub LeastAnswered : List ℕ → List Line → Type 0
LeastAnswered bytes ls = texts.Told LeastsTold bytes ls
