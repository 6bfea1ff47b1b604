use Rattle.std.proofs.Common.{◌≡◌, map, decimal, vec_items}
use Rattle.plan.specs.Lines.{Numbers}
use Rattle.plan.proofs.fields.numbers.Given as goal

abbrev pub invariant-loop-field : goal.invariant-loop-field
invariant-loop-field l = Numbers (vec_items l.items) × (map decimal (vec_items l.items) ≡ map (λ field. field.now) l.yielded)
