use Rattle.std.proofs.Common.{◌≡◌, true, ◌||◌, length, get_or, set, sym, ap, ◌∙◌, arith}
use Rattle.std.proofs.lemmas.Grind.{common_steps}
use Rattle.std.proofs.lemmas.List.{get_or_default}
use Rattle.std.proofs.lemmas.List.Edits.{map_over_more}
use Rattle.link.specs.declared.state.Event.TheVariants.{Quiet}
use Rattle.link.specs.Rows.{moved, blank, none_leaving}
use Rattle.link.proofs.Tables.{changed_all, rest_none, rest_calm}
use Rattle.link.proofs.state.Table.rest.Goals as goal

pub loop-record-preserved : goal.loop-record-preserved
loop-record-preserved c =
    let rs = c.args.self.now.records in
    let full : length rs ≡ 32 = c.args.self.now.full in
    let ys = c.loop-record.record-items in
    let i = c.loop-record.record-index in
    let x = get_or ys i blank in
    let size : length ys ≡ 32 = grind (arith, common_steps, ap length c.loop-record.invariant) in
    ap (set ys i) c.meet.ensures
    ∙ map_over_more (moved Quiet) rs ys i x (omega (arith, c.loop-record-test.true)) c.loop-record.invariant (get_or_default ys i blank x (omega arith))

pub invariant_of-self-clause-known : goal.invariant_of-self-clause-known
invariant_of-self-clause-known c =
    let rs = c.args.self.now.records in
    let full : length rs ≡ 32 = c.args.self.now.full in
    ap none_leaving (changed_all (moved Quiet) rs c.loop-record.record-items c.loop-record.record-index (omega (arith, c.loop-record-test.false)) c.loop-record.invariant)
    ∙ rest_calm rs

pub returns-after-loop-record : goal.returns-after-loop-record
returns-after-loop-record c =
    let rs = c.args.self.now.records in
    let full : length rs ≡ 32 = c.args.self.now.full in
    changed_all (moved Quiet) rs c.loop-record.record-items c.loop-record.record-index (omega (arith, c.loop-record-test.false)) c.loop-record.invariant

pub returns-else-self : goal.returns-else-self
returns-else-self c =
    let rs = c.args.self.now.records in
    let calm : none_leaving rs ≡ true = ap (λ b. b || none_leaving rs) (sym c.if-self.false) ∙ c.args.self.now.known in
    sym (rest_none rs calm)
