use Rattle.std.proofs.Common.{sym}
use Rattle.verdict.proofs.Places.{length-places}
use Rattle.verdict.proofs.channels.Channels.len.Goals as goal

pub returns : goal.returns
returns g c = sym (length-places c.args.self.now.rows.now c.args.self.now.counted.now c.args.self.now.more)
