use Rattle.traffic.proofs.Worked.{idle_shut_out_lem}
use Rattle.traffic.proofs.examples.idle_shut_out.Goals as goal

pub returns : goal.returns
returns g c = idle_shut_out_lem _
