-- The grant rule is exact: channels pass, or some arrivals defeat every proper schedule.
use Rattle.std.proofs.Common.{◌≡◌, ℕ, ◌+◌, ◌<◌, ◌≤◌, Bool, true, ◌⊎◌, List, [], ◌∷◌, refl, inl, inr, arith}
use Rattle.std.specs.List.{AllByRecursion}
use Rattle.std.proofs.ByRecursion.{All-weaker, All-append}
use Rattle.traffic.specs.Arrivals.{Steps}
use Rattle.traffic.specs.Curves.{Numbers}
use Rattle.traffic.specs.Laws.{CurveLaws, TrafficLaws}
use Rattle.verdict.specs.Demand.{total, curves, blocking}
use Rattle.verdict.specs.Passes.{Passes}
use Rattle.schedule.specs.Arrivals.{Bulk, offered, Arrivals, arrived, Unschedulable}
use Rattle.schedule.specs.Core.{State, Tick}
use Rattle.schedule.specs.Jobs.{never, Job}
use Rattle.schedule.specs.Orders.{earliest}
use Rattle.schedule.specs.Schedules.{Begun, Proper, Late}
use Rattle.schedule.specs.Theorems.{OnLink, OnEveryLink, SomeSchedule, OnTime, Needed}
use Rattle.schedule.proofs.BusyWindows.{Kept, kept_opened, kept_arrives, kept_tick}
use Rattle.schedule.proofs.Counts.{weigh}
use Rattle.schedule.proofs.Disciplines.{Discipline, earliest_first}
use Rattle.verdict.proofs.FinitePoints.{overload_fails, passes_or_fails}
use Rattle.schedule.proofs.Logs.{Each, each_opened, each_arrives, each_tick, log_proper}
use Rattle.schedule.proofs.Necessity.{too_late}
use Rattle.schedule.proofs.Offers.{Sized, offers_sized, offers_attained}
use Rattle.schedule.proofs.Orders.{earliest_ranks}
use Rattle.schedule.proofs.Owners.{OnlySince, Owned}
use Rattle.schedule.proofs.Running.{ran}
use Rattle.schedule.proofs.Safe.{Safe}
use Rattle.schedule.proofs.Sums
use Rattle.schedule.proofs.Timely.{Timely, never_late, timely_arrives, timely_tick}

bulk_unweighed : (p : ℕ) (js : List Job) → AllByRecursion (Bulk p) js → (q : ℕ) (f : Job → ℕ) → OnlySince q f → total f js ≡ 0
bulk_unweighed p js h q f s = Sums.total-none f js (All-weaker _ _ (λ j b. s.bulk j (rw b.due refl)) js h)

module _ {K S : Type 0} (numbers : K → Numbers) (steps : K → Steps S) (p : ℕ) (ks : List K)
    (shaped : AllByRecursion (λ k. CurveLaws p (numbers k)) ks) (laws : AllByRecursion (λ k. TrafficLaws (numbers k) (steps k)) ks) where
  all_sized : (a : Arrivals numbers steps p ks) → AllByRecursion (Sized p) (arrived numbers steps p ks a)
  all_sized a = All-append _ _ _
      (All-weaker _ _ (λ j b. (b.least, b.most)) a.bulk a.sizes)
      (offers_sized numbers steps p ks laws (All-weaker _ _ (λ k l. l.longest_most) ks shaped) a.offers)

  pub some_schedule_lem : (a : Arrivals numbers steps p ks) → (xs : List Begun) × Proper (arrived numbers steps p ks a) xs
  some_schedule_lem a =
      let js = arrived numbers steps p ks a in
      let (t, l, i, g, all) =
      ran earliest earliest_ranks js (λ j. Unit {0}) (All-weaker _ _ (λ j s. (s.0, tt)) js (all_sized a)) (λ m. Unit {0}) tt (λ j s m n r g. tt) (λ m n t i w g. tt) in
      (l, log_proper t l js i all)

  module _ (D : Discipline numbers steps p) where
    -- what a sender of this discipline keeps
    record OnTrack (m : State) : Type 0 where
      kept : Kept D.before 0 m
      short : Each (λ j. j.slots ≤ p) m
      timely : AllByRecursion Timely m.log

    on_track_tick : D.Serves ks → (a : Arrivals numbers steps p ks) (m n : State) → Tick D.before m n → ((f : Job → ℕ) → weigh f m ≤ total f (arrived numbers steps p ks a)) → OnTrack m → OnTrack n
    on_track_tick serves a m n t w g = record {
      kept = kept_tick D.before 0 t g.kept;
      short = each_tick _ t g.short;
      timely = timely_tick t (D.in_time ks laws serves a.offers 0 m g.kept g.short owned) g.timely;
    }
      where
        owned : Owned 0 (offered numbers steps ks a.offers) m
        owned f s = omega (arith, w f, Sums.total-append f a.bulk (offered numbers steps ks a.offers), bulk_unweighed p a.bulk a.sizes 0 f s)

    pub served_on_time : D.Serves ks → (a : Arrivals numbers steps p ks) → (xs : List Begun) × Proper (arrived numbers steps p ks a) xs × (Late xs → ⊥)
    served_on_time serves a =
        let js = arrived numbers steps p ks a in
        let (t, l, i, g, all) =
        ran D.before D.ranks js (λ j. j.slots ≤ p) (all_sized a) OnTrack
        (record { kept = kept_opened D.before; short = each_opened _; timely = tt })
        (λ j s m n r g. record { kept = kept_arrives D.before 0 r g.kept; short = each_arrives _ r s g.short; timely = timely_arrives r g.timely })
        (λ m n t i w g. on_track_tick serves a m n t w g) in
        (l, log_proper t l js i all, never_late l g.timely)

  pub on_time : Safe numbers (blocking p) ks → (a : Arrivals numbers steps p ks) → (xs : List Begun) × Proper (arrived numbers steps p ks a) xs × (Late xs → ⊥)
  on_time safe a = served_on_time (earliest_first numbers steps p) safe a

  -- one bulk job of p slots in slot 0, and behind it the offers that attain the curves at t
  pub defeated : 1 ≤ p → (t : ℕ) → 0 < curves numbers ks t → t < curves numbers ks t + blocking p t → Unschedulable numbers steps p ks
  defeated pos t some much =
      let (o, after, e) = offers_attained numbers steps t ks laws in
      let bulk : Job = record { arrival = 0; slots = p; due = never; owner = 0; mat = 0; count = 0 } in (
        record { bulk = bulk ∷ []; sizes = (record { least = pos; most = omega arith; due = refl }, tt); offers = o },
        too_late bulk t (offered numbers steps ks o) refl refl after (omega arith) (omega arith),
      )

module _ {K S : Type 0} (limits : K → ℕ → Bool) (numbers : K → Numbers) (steps : K → Steps S)
    (shaped : (k : K) (p : ℕ) → 1 ≤ p → p ≤ 255 → limits k p ≡ true → CurveLaws p (numbers k))
    (sound : (k : K) (p : ℕ) → 1 ≤ p → p ≤ 255 → limits k p ≡ true → TrafficLaws (numbers k) (steps k)) where
  shapes : (p : ℕ) (ks : List K) → OnLink limits p ks → AllByRecursion (λ k. CurveLaws p (numbers k)) ks
  shapes p ks h = All-weaker _ _ (λ k l. shaped k p h.least h.most l) ks h.within

  lists : (p : ℕ) (ks : List K) → OnLink limits p ks → AllByRecursion (λ k. TrafficLaws (numbers k) (steps k)) ks
  lists p ks h = All-weaker _ _ (λ k l. sound k p h.least h.most l) ks h.within

  pub every_schedule : OnEveryLink limits (SomeSchedule numbers steps)
  every_schedule p ks h = some_schedule_lem numbers steps p ks (shapes p ks h) (lists p ks h)

  pub passes_on_time : OnEveryLink limits (OnTime numbers steps)
  passes_on_time p ks h = record {
    scheduled = scheduled;
    schedulable = λ ok bad. let (xs, proper, good) = scheduled ok bad.0 in good (bad.1 xs proper);
  }
    where
      scheduled : Passes numbers (blocking p) ks → (a : Arrivals numbers steps p ks) → (xs : List Begun) × Proper (arrived numbers steps p ks a) xs × (Late xs → ⊥)
      scheduled ok = on_time numbers steps p ks (shapes p ks h) (lists p ks h) ok.demand_fits

  pub refusal_needed : OnEveryLink limits (Needed numbers steps)
  refusal_needed p ks h = record {
    point = point;
    overload = λ much. let (t, some, fails) = overload_fails numbers p (blocking p) (λ t u l. omega arith) ks (shapes p ks h) much in point t some fails;
    refused = λ fails. elim decided [ inl ok ↦ absurd (fails ok) | inr bad ↦ bad ];
    decided = decided;
  }
    where
      point : (t : ℕ) → 0 < curves numbers ks t → t < curves numbers ks t + blocking p t → Unschedulable numbers steps p ks
      point = defeated numbers steps p ks (shapes p ks h) (lists p ks h) h.least

      decided : Passes numbers (blocking p) ks ⊎ Unschedulable numbers steps p ks
      decided = elim (passes_or_fails numbers p (blocking p) (λ t u l. omega arith) ks (shapes p ks h)) [ inl ok ↦ inl ok | inr f ↦ inr (point f.0 f.1 f.2) ]
