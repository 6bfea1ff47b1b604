use Rattle.std.proofs.Common.{rules}
use Rattle.refusals.specs.declared.Refusal.TheVariants.{Full}
use Rattle.link.proofs.Keeping.{put_back, refused_keeps}
use Rattle.link.proofs.state.Link.wait.Goals as goal

pub returns-in_err-map_err-clause-kept : goal.returns-in_err-map_err-clause-kept
returns-in_err-map_err-clause-kept g c =
    refused_keeps c.from_residual.result Full c.args.self.now _ (search rules) (put_back c.args.self.now c.put.new.self (search rules) _ _)
