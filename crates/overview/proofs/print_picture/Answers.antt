use Rattle.std.proofs.Common.{map, sym, subst}
use Rattle.plan.specs.Kinds.{kind_numbers, kind_limits}
use Rattle.overview.specs.Standing.{Stands}
use Rattle.overview.proofs.print_picture.Goals as goal

pub invariant_of-print_table : goal.invariant_of-print_table
invariant_of-print_table c =
    record { stands = subst (λ rs. Stands kind_numbers kind_limits c.args.plan.now.longest (map (λ r. r.kind) rs)) (sym c.rows.ensures) c.in_ok-granted.ensures }
