use Rattle.std.proofs.Common.{vec_items, rules}
use Rattle.answers.proofs.Rows.{rows_have}
use Rattle.answers.proofs.decisions.Granted.check.Goals as goal

pub returns-then-has_row : goal.returns-then-has_row
returns-then-has_row c =
    let found = rows_have c.args.channel.now.mat (vec_items c.args.self.now.rows) c.deref.result.now c.has_row.result c.deref.ensures.value c.has_row.ensures in
    search rules

pub returns-then-len-ge32 : goal.returns-then-len-ge32
returns-then-len-ge32 c =
    let found = rows_have c.args.channel.now.mat (vec_items c.args.self.now.rows) c.deref.result.now c.has_row.result c.deref.ensures.value c.has_row.ensures in
    search rules

pub returns : goal.returns
returns c =
    let found = rows_have c.args.channel.now.mat (vec_items c.args.self.now.rows) c.deref.result.now c.has_row.result c.deref.ensures.value c.has_row.ensures in
    search rules
