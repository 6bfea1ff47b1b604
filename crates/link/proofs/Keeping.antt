-- A pool that refuses a packet leaves the link as it was.
use Rattle.std.proofs.Common.{◌≡◌, ◌+◌, ◌≤◌, Err, Result, sym, ap, ◌∙◌, subst}
use Rattle.std.proofs.Math.Bridge.{le_prop}
use Rattle.traffic.specs.declared.Curve.{Ghosts as CurveGhosts}
use Rattle.traffic.specs.declared.Traffic.{Ghosts as TrafficGhosts}
use Rattle.link.specs.declared.state.Link.{Link}
use Rattle.link.specs.Memory.{Kept}
use Rattle.link.specs.Packets.{on_air}

pub refused_keeps : {L U E : Type 0} (r : Result U E) (e : E) (l k : L) → r ≡ Err e → k ≡ l → Kept r l k
refused_keeps r e l k is same = subst (λ x. Kept x l k) (sym is) same

module _ {X S : Type 0} {t : TrafficGhosts X S} {c : CurveGhosts X} where
  pub put_back : (l : Link X S t c) (q : _) → q ≡ l.waiting → (e : l.clock ≤ 2000000000) (b : l.offers ≤ l.clock + q.count + on_air l.air) →
      record l { waiting = q; early = e; counted = b } ≡ l
  put_back l q is e b =
      subst (λ p. (d : l.offers ≤ l.clock + p.count + on_air l.air) → record l { waiting = p; early = e; counted = d } ≡ l) (sym is)
      (λ d. ap (λ x. record l { early = x; counted = d }) (le_prop e l.early) ∙ ap (λ x. record l { counted = x }) (le_prop d l.counted)) b
