use Rattle.std.proofs.Common.{Some, refl}
use Rattle.verdict.specs.Members.{marked}
use Rattle.verdict.proofs.Places.{present_push}
use Rattle.verdict.proofs.channels.Channels.with.Goals as goal

pub returns : goal.returns
returns g c = record {
  members = present_push (marked c.args.self.now.rows.now c.args.self.now.counted.now) (Some c.args.kind);
  rows = refl;
  size = refl;
}
