use Rattle.verdict.specs.Members.{places}
use Rattle.verdict.proofs.Totals.{place_within}
use Rattle.verdict.proofs.walk.Walk.point_after.Goals as goal

pub next_rise-requires : goal.next_rise-requires
next_rise-requires g c = place_within _ _ _ (places c.args.self.now.checked.channels.now) c.args.self.now.checked.judgeable _ _ c.in_ok-k.ensures
