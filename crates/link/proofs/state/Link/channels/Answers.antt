use Rattle.std.proofs.Common.{◌≡◌, ◌≤◌, length, None, sym, ◌∙◌, arith, rules}
use Rattle.std.proofs.lemmas.List.{append-nil}
use Rattle.verdict.specs.Members.{marked, present}
use Rattle.verdict.proofs.Places.{present_push}
use Rattle.link.specs.Model.{joined, channels}
use Rattle.link.proofs.Joined.{joined_length, marked_channels}
use Rattle.link.proofs.state.Link.channels.Goals as goal

pub returns : goal.returns
returns g c =
    let es = c.args.self.now.table.records in
    let ws = c.args.self.now.rows.now in
    let marks = marked ws c.args.marks.now in
    let few : length ws ≤ 32 = search rules in
    let full : length es ≡ 32 = c.args.self.now.table.full in
    let rows : present marks ≡ channels (joined es ws) = marked_channels es ws c.args.marks.now c.requires.marked in
    record {
      size = sym (joined_length es ws (omega arith));
      rows = rows;
      members = present_push marks None ∙ append-nil (present marks) ∙ rows;
    }
