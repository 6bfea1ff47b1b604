-- The channels granted so far.
use Rattle.std.specs.Prelude.{◌≡◌, ℕ, List, map, take, Ok, Err, vec_items, Result}
use Rattle.std.specs.Fn.{Shared, FnReturns}
use denote.Ref.{Bor}
use Rattle.verdict.specs.Least as verdict
use Rattle.verdict.specs.declared.Unfit.{Unfit}
use Rattle.refusals.specs.Refusals.{refusal_of}
use Rattle.refusals.specs.declared.Refusal.{Refusal}
use Rattle.plan.specs.Kinds.{Kind, kind_numbers, kind_limits, kind_dated}
use Rattle.plan.specs.declared.Channel.{Channel}
use Rattle.lines.specs.Lines.{least_line_lem}
use Rattle.lines.specs.declared.Line.{Line}
use Rattle.answers.specs.Decisions.{Decision}
use Rattle.answers.specs.declared.decisions.Granted.{Granted}

-- their mats and their kinds, in the order of the grants
abbrev pub mats : Granted → List ℕ
mats g = map (λ r. r.state) (vec_items g.rows)

abbrev pub kinds : Granted → List Kind
kinds g = map (λ r. r.kind) (vec_items g.rows)

-- the kinds in the first 32 rows: a link has no more
abbrev pub listed : Granted → List Kind
listed g = map (λ r. r.kind) (take 32 (vec_items g.rows))

-- the least allowance that was found, or the refusal
abbrev pub found : Result (ℕ × ℕ) Unfit → Result (ℕ × ℕ) Refusal
found (Ok least) = Ok least
found (Err e) = Err (refusal_of e)

-- the line of the least allowance for a channel
abbrev pub LeastTold : ℕ → ℕ → List Kind → Channel → Line → Type 0
LeastTold p rows ks c l =
    (r : Result (ℕ × ℕ) Unfit) × verdict.Least kind_numbers kind_limits kind_dated p rows ks c.kind r × (l ≡ least_line_lem c.mat (found r))

-- a line that this may show of a channel that was decided with those granted before
abbrev pub Shown : {F : Type 0} → Shared F (ℕ × (Bor Granted × (Bor Channel × (Decision × Unit {0})))) Line → F → ℕ → List Kind → Channel → Decision → Line → Type 0
Shown g f p ks c d l =
    (x : Bor Granted) × (y : Bor Channel) × FnReturns g f (p, (x, (y, (d, tt)))) l × (kinds x.now ≡ ks) × (y.now ≡ c)
