-- Which channels of a plan are granted, each judged with those granted before it.
use Rattle.std.specs.Prelude.{◌≡◌, ℕ, Bool, cond, not, ◌||◌, List, [], ◌∷◌, ◌++◌, length, Ok, Err, Result, ◌==◌, nat_le}
use Rattle.std.specs.List.{list_any}
use Rattle.verdict.specs.Judged.{Judged}
use Rattle.refusals.specs.Refusals.{decided}
use Rattle.refusals.specs.declared.Refusal.{Refusal}
use Rattle.refusals.specs.declared.Refusal.TheVariants.{Limits, MatCounted, NoRow}
use Rattle.verdict.specs.declared.Unfit.{Unfit}
use Rattle.plan.specs.Kinds.{Kind, kind_numbers, kind_limits}
use Rattle.plan.specs.declared.Channel.{Channel}
use Rattle.lines.specs.declared.Line.{Line}

-- what becomes of a channel: how many points were taken, or why it is refused
abbrev pub Decision : Type 0
Decision = Result ℕ Refusal

-- a mat is among these
abbrev pub has : ℕ → List ℕ → Bool
has mat mats = list_any (λ m. m == mat) mats

-- the refusals that come before any judging, the smallest number first: mat 0 or a limit; the mat has a channel; all 32 rows are taken
abbrev pub early : ℕ → List ℕ → ℕ → Channel → Result (Unit {0}) Refusal
early p mats taken c = cond (c.mat == 0 || not (kind_limits c.kind p)) (Err Limits) (cond (has c.mat mats) (Err MatCounted) (cond (nat_le 32 taken) (Err NoRow) (Ok tt)))

-- the decision on a channel of this kind, judged with those of the kinds granted before unless refused earlier
abbrev pub Judges : ℕ → List Kind → Kind → Result (Unit {0}) Refusal → Decision → Type 0
Judges p kinds k (Err refused) d = d ≡ Err refused
Judges p kinds k (Ok u) d = (v : Result ℕ Unfit) × Judged kind_numbers kind_limits p (length kinds) (kinds ++ k ∷ []) v × (d ≡ decided v)

abbrev pub Decided : ℕ → List ℕ → List Kind → Channel → Decision → Type 0
Decided p mats kinds c d = Judges p kinds c.kind (early p mats (length kinds) c) d

-- a granted channel is counted from then on
abbrev pub counted : {X : Type 0} → Decision → X → List X → List X
counted (Ok count) x xs = xs ++ x ∷ []
counted (Err e) x xs = xs

-- channels decided one after the other, with the mats and kinds granted so far and a line shown of each
pub data Decisions (Shows : ℕ → List Kind → Channel → Decision → Line → Type 0) (p : ℕ) : List Channel → List ℕ → List Kind → List Line → Type 0 where
  none : Decisions Shows p [] [] [] []
  one_more : {cs : List Channel} {mats : List ℕ} {kinds : List Kind} {ls : List Line} → Decisions Shows p cs mats kinds ls → (c : Channel) (d : Decision) (l : Line) → Decided p mats kinds c d → Shows p kinds c d l → Decisions Shows p (cs ++ c ∷ []) (counted d c.mat mats) (counted d c.kind kinds) (ls ++ l ∷ [])
