use Rattle.std.proofs.Common.{◌≡◌, ◌++◌, map, take, drop}
use Rattle.link.specs.declared.state.Event.TheVariants.{Quiet}
use Rattle.link.specs.Rows.{moved}
use Rattle.link.proofs.state.Table.rest.Given as goal

abbrev pub invariant-loop-record : goal.invariant-loop-record
invariant-loop-record l = l.record-items ≡ map (moved Quiet) (take l.record-index l.initial.record-items) ++ drop l.record-index l.initial.record-items
