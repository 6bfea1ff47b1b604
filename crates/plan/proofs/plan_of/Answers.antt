use Rattle.std.proofs.Common.{◌+◌, length, vec_items, refl, arith}
use Rattle.plan.specs.Format.{cut}
use Rattle.plan.specs.declared.Plan.{Plan}
use Rattle.plan.proofs.Parts.{calls_few, opened, read_failed, read_stopped, read_whole, stops_without_longest}
use Rattle.plan.proofs.Stops.{stops_after_calls, stops_at_other_count, stops_in_calls, stops_in_channels, stops_without_count}
use Rattle.plan.proofs.plan_of.Goals as goal

pub returns-in_err-count : goal.returns-in_err-count
returns-in_err-count c =
    read_failed c.args.text.now c.requires _ c.in_err-count.field-0.0 c.from_residual.ensures.1 _ 1 _ refl
    (stops_without_count (cut c.args.text.now)) c.in_err-count.ensures.counted

pub returns-then-branch-ne1 : goal.returns-then-branch-ne1
returns-then-branch-ne1 c =
    rw c.malformed.ensures
    (read_stopped c.args.text.now c.requires 1 c.count.ensures.same_section refl (stops_at_other_count _ _ _ c.in_ok-count.ensures.counted c.if-branch-ne1.true))

pub returns-in_err-longest : goal.returns-in_err-longest
returns-in_err-longest c =
    read_failed c.args.text.now c.requires _ c.in_err-longest.field-0.0 c.from_residual-in_err-longest.ensures.1 _ 1 _ c.count.ensures.same_section
    (stops_without_longest c.in_ok-count.ensures.counted c.if-branch-ne1.false) c.in_err-longest.ensures.read

pub returns-in_err-channels : goal.returns-in_err-channels
returns-in_err-channels c =
    read_failed c.args.text.now c.requires _ c.in_err-channels.field-0.0 c.from_residual-in_err-channels.ensures.1 _ 2 _ refl
    (stops_in_channels (opened c.in_ok-count.ensures.counted c.if-branch-ne1.false c.in_ok-longest.ensures.read)) c.in_err-channels.ensures.read

pub returns-in_err-calls : goal.returns-in_err-calls
returns-in_err-calls c =
    read_failed c.args.text.now c.requires _ c.in_err-calls.field-0.0 c.from_residual-in_err-calls.ensures.1 _ 3 _ refl
    (stops_in_calls (opened c.in_ok-count.ensures.counted c.if-branch-ne1.false c.in_ok-longest.ensures.read) _ _ c.in_ok-channels.ensures.read) c.in_err-calls.ensures.read

pub overflow_add-len : goal.overflow_add-len
overflow_add-len c =
    let plan : Plan = record { longest = c.in_ok-longest.longest.slots; channels = c.in_ok-channels.channels; calls = c.in_ok-calls.calls } in
    let first = opened c.in_ok-count.ensures.counted c.if-branch-ne1.false c.in_ok-longest.ensures.read in
    omega (arith, calls_few c.args.text.now c.requires plan _ first c.in_ok-channels.ensures.read c.in_ok-calls.ensures.read, c.in_ok-calls.calls.ok.0, c.len.ensures)

pub returns-in-None : goal.returns-in-None
returns-in-None c =
    let plan : Plan = record { longest = c.in_ok-longest.longest.slots; channels = c.in_ok-channels.channels; calls = c.in_ok-calls.calls } in
    read_whole c.args.text.now c.requires plan _ (opened c.in_ok-count.ensures.counted c.if-branch-ne1.false c.in_ok-longest.ensures.read) c.in_ok-channels.ensures.read c.in_ok-calls.ensures.read c.in-None.ensures.steps.0

pub returns-in-Some : goal.returns-in-Some
returns-in-Some c =
    let first = opened c.in_ok-count.ensures.counted c.if-branch-ne1.false c.in_ok-longest.ensures.read in
    rw c.malformed-in-Some.ensures
    (read_stopped c.args.text.now c.requires 3 {n = length (vec_items c.in_ok-calls.calls) + 1} c.section-2.ensures.same_section (omega (arith, c.in_ok-calls.calls.ok.0, c.len.ensures))
    (stops_after_calls first _ _ c.in_ok-channels.ensures.read _ c.in-Some.field-0.now c.in_ok-calls.ensures.read c.in-Some.ensures.steps))
