-- What channels offer is bounded by their curves, and some offers attain them.
use Rattle.std.proofs.Common.{◌≡◌, ℕ, ◌+◌, ◌-◌, ◌<◌, ◌≤◌, cond, ◌&&◌, ltb, leb, List, [], ◌∷◌, map, refl, ap, arith}
use Rattle.std.specs.List.{AllByRecursion}
use Rattle.std.proofs.ByRecursion.{All-append, All-weaker}
use Rattle.std.proofs.lemmas.Bool.Decides.{nat_tests}
use Rattle.traffic.specs.Arrivals.{Arrival, Steps, Lawful, demand, later, Lengths}
use Rattle.traffic.specs.Curves.{Numbers}
use Rattle.traffic.specs.Laws.{TrafficLaws}
use Rattle.verdict.specs.Demand.{total, curves}
use Rattle.schedule.specs.Arrivals.{packet, Offered, Offers, offered}
use Rattle.schedule.specs.Jobs.{Job, at, due_by, timed}
use Rattle.schedule.proofs.Counts.{asks}
use Rattle.schedule.proofs.Sums

-- 1 to p slots
abbrev pub Sized : ℕ → Job → Type 0
Sized p j = (1 ≤ j.slots) × (j.slots ≤ p)

-- the slots of a channel's job that arrived from slot q on and before slot s
abbrev pub asks_before : ℕ → ℕ → Job → ℕ
asks_before s q j = asks (λ j. ltb j.arrival s && timed j) q j

-- One channel.

abbrev due_after : ℕ → Job → Type 0
due_after d j = j.due ≡ at (j.arrival + d)

asks_one : (d e a : ℕ) (j : Job) → due_after d j → asks (due_by e) a j ≤ cond (leb a j.arrival && leb (j.arrival + d) (a + (e - a))) j.slots 0
asks_one d e a j h = rw h (grind (arith, nat_tests))

asks_demand : (d e a : ℕ) (js : List Job) → AllByRecursion (due_after d) js → total (asks (due_by e) a) js ≤ demand d a (e - a) (map packet js)
asks_demand d e a [] h = omega arith
asks_demand d e a (j ∷ js) h = omega (arith, asks_one d e a j h.0, asks_demand d e a js h.1)

since_one : (d q s : ℕ) (j : Job) → due_after d j → q < s → asks_before s q j ≤ cond (leb q j.arrival && leb (j.arrival + d) (q + (d + (s - 1 - q)))) j.slots 0
since_one d q s j h l = rw h (grind (arith, nat_tests))

since_demand : (d q s : ℕ) (js : List Job) → q < s → AllByRecursion (due_after d) js → total (asks_before s q) js ≤ demand d q (d + (s - 1 - q)) (map packet js)
since_demand d q s [] l h = omega arith
since_demand d q s (j ∷ js) l h = omega (arith, since_one d q s j h.0 l, since_demand d q s js l h.1)

sized : (c : ℕ) (js : List Job) → Lengths c (map packet js) → AllByRecursion (Sized c) js
sized c [] h = tt
sized c (j ∷ js) h = ((h.0, h.1), sized c js h.2)

module _ {S : Type 0} (n : Numbers) (m : Steps S) (laws : TrafficLaws n m) (js : List Job) (o : Offered n m js) where
  -- from slot a on and due by e
  pub offered_bounded : (e a : ℕ) → total (asks (due_by e) a) js ≤ n.curve (e - a)
  offered_bounded e a = omega (arith, asks_demand n.allowance e a js o.due, laws.bounded (map packet js) o.lawful a (e - a))

  -- from slot q on and before slot s
  pub offered_since : (q s : ℕ) → q < s → total (asks_before s q) js ≤ n.curve (n.allowance + (s - 1 - q))
  offered_since q s l = omega (arith, since_demand n.allowance q s js l o.due, laws.bounded (map packet js) o.lawful q (n.allowance + (s - 1 - q)))

  pub offered_sized : AllByRecursion (Sized n.longest) js
  offered_sized = sized n.longest js (laws.lengths (map packet js) o.lawful)

-- All channels.

module _ {K S : Type 0} (numbers : K → Numbers) (steps : K → Steps S) where
  pub offers_bounded : (ks : List K) → AllByRecursion (λ k. TrafficLaws (numbers k) (steps k)) ks → (o : Offers numbers steps ks) → (e a : ℕ) → total (asks (due_by e) a) (offered numbers steps ks o) ≤ curves numbers ks (e - a)
  offers_bounded [] l o e a = omega arith
  offers_bounded (k ∷ ks) l o e a =
      omega (
        arith,
        Sums.total-append (asks (due_by e) a) o.0 (offered numbers steps ks o.2),
        offered_bounded (numbers k) (steps k) l.0 o.0 o.1 e a,
        offers_bounded ks l.1 o.2 e a,
      )

  pub offers_since : (ks : List K) → AllByRecursion (λ k. TrafficLaws (numbers k) (steps k)) ks → (o : Offers numbers steps ks) → (q s : ℕ) → q < s →
      total (asks_before s q) (offered numbers steps ks o) ≤ total (λ k. (numbers k).curve ((numbers k).allowance + (s - 1 - q))) ks
  offers_since [] l o q s h = omega arith
  offers_since (k ∷ ks) l o q s h =
      omega (
        arith,
        Sums.total-append (asks_before s q) o.0 (offered numbers steps ks o.2),
        offered_since (numbers k) (steps k) l.0 o.0 o.1 q s h,
        offers_since ks l.1 o.2 q s h,
      )

  pub offers_sized : (p : ℕ) (ks : List K) → AllByRecursion (λ k. TrafficLaws (numbers k) (steps k)) ks → AllByRecursion (λ k. (numbers k).longest ≤ p) ks → (o : Offers numbers steps ks) → AllByRecursion (Sized p) (offered numbers steps ks o)
  offers_sized p [] l c o = tt
  offers_sized p (k ∷ ks) l c o = All-append _ _ _
      (All-weaker _ _ (λ j h. (h.0, omega arith)) o.0 (offered_sized (numbers k) (steps k) l.0 o.0 o.1))
      (offers_sized p ks l.1 c.1 o.2)

-- Offers that attain the curves at t, each list one slot later.

abbrev pub as_job : ℕ → Arrival → Job
as_job d p = record { arrival = p.slot; slots = p.len; due = at (p.slot + d); owner = 0; mat = 0; count = 0 }

packets_back : (d : ℕ) (ps : List Arrival) → map packet (map (as_job d) ps) ≡ ps
packets_back d [] = refl
packets_back d (p ∷ ps) = ap (λ qs. p ∷ qs) (packets_back d ps)

as_jobs_due : (d : ℕ) (ps : List Arrival) → AllByRecursion (due_after d) (map (as_job d) ps)
as_jobs_due d [] = tt
as_jobs_due d (p ∷ ps) = (refl, as_jobs_due d ps)

pub as_jobs_offered : {S : Type 0} (n : Numbers) (m : Steps S) (ps : List Arrival) → Lawful m ps → Offered n m (map (as_job n.allowance) ps)
as_jobs_offered n m ps h = record { lawful = rw (packets_back n.allowance ps) h; due = as_jobs_due n.allowance ps }

later_after : (d : ℕ) (ps : List Arrival) → AllByRecursion (λ j. 1 ≤ j.arrival) (map (as_job d) (later 1 ps))
later_after d [] = tt
later_after d (p ∷ ps) = (omega arith, later_after d ps)

later_demand : (d t : ℕ) (ps : List Arrival) → total (λ j. cond (due_by (1 + t) j) j.slots 0) (map (as_job d) (later 1 ps)) ≡ demand d 0 t ps
later_demand d t [] = refl
later_demand d t (p ∷ ps) =
    let here : cond (leb (1 + p.slot + d) (1 + t)) p.len 0 ≡ cond (leb 0 p.slot && leb (p.slot + d) (0 + t)) p.len 0 = grind (arith, nat_tests) in
    omega (arith, later_demand d t ps)

module _ {K S : Type 0} (numbers : K → Numbers) (steps : K → Steps S) where
  pub offers_attained : (t : ℕ) (ks : List K) → AllByRecursion (λ k. TrafficLaws (numbers k) (steps k)) ks →
      (o : Offers numbers steps ks) × AllByRecursion (λ j. 1 ≤ j.arrival) (offered numbers steps ks o) × (total (λ j. cond (due_by (1 + t) j) j.slots 0) (offered numbers steps ks o) ≡ curves numbers ks t)
  offers_attained t [] l = (tt, tt, refl)
  offers_attained t (k ∷ ks) l =
      let (ps, lawful, meets) = l.0.attained t in
      let (o, after, e) = offers_attained t ks l.1 in
      let d = (numbers k).allowance in
      let js : List Job = map (as_job d) (later 1 ps) in (
        (js, as_jobs_offered (numbers k) (steps k) (later 1 ps) (l.0.movable 1 ps lawful), o),
        All-append _ _ _ (later_after d ps) after,
        omega (
          arith,
          Sums.total-append (λ j. cond (due_by (1 + t) j) j.slots 0) js (offered numbers steps ks o),
          e,
          later_demand d t ps,
          meets t (omega arith),
        ),
      )
