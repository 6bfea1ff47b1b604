use Rattle.traffic.specs.Buckets.{bucket_later_rise}
use Rattle.traffic.proofs.bucket.BucketCurve.next_rise.Goals as goal

pub returns : goal.returns
returns c =
    let k = c.args.self.now in
    bucket_later_rise k.period k.longest k.depth k.allowance c.requires.under c.args.t _ c.requires.holds c.if-t-self.false (cc)
