use Rattle.std.proofs.Common.{true, None, replicate, refl, ◌∙◌, append-nil}
use Rattle.verdict.specs.Members.{marked}
use Rattle.verdict.proofs.Places.{present_push, marked_all}
use Rattle.verdict.proofs.channels.Channels.all.Goals as goal

pub returns : goal.returns
returns g c =
    let rs = c.args.rows.now in
    record {
      members = present_push (marked rs (replicate 32 true)) None ∙ append-nil _ ∙ marked_all rs 32;
      rows = marked_all rs 32;
      size = refl;
    }
