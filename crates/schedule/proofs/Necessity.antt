-- Behind a job that cannot be broken off, too much that is due by one slot is late in every proper schedule.
use Rattle.std.proofs.Common.{◌≡◌, ℕ, ◌+◌, ◌-◌, ◌<◌, ◌≤◌, min, Bool, true, false, cond, List, ◌∷◌, sym, refl, ◌∙◌, inl, inr, add-zero, arith}
use Rattle.std.specs.List.{AllByRecursion}
use Rattle.std.proofs.ByRecursion.{All-weaker, all_shuffled}
use Rattle.std.proofs.lemmas.Bool.Decides.{nat_tests}
use Rattle.verdict.specs.Demand.{total}
use Rattle.schedule.specs.Jobs.{Job, due_by}
use Rattle.schedule.specs.Schedules.{Begun, end, Any, Waits, Proper, Late}
use Rattle.schedule.proofs.Packing.{below, packing}
use Rattle.schedule.proofs.Sums
use Rattle.schedule.proofs.Timely.{Timely, timely_or_late}

-- a first job alone in slot 0, not due by 1 + t; behind it jobs that arrive later, and of them more slots are due by 1 + t than are left
module _ (first : Job) (t : ℕ) (js : List Job) (alone : first.arrival ≡ 0) (patient : due_by (1 + t) first ≡ false)
    (later : AllByRecursion (λ j. 1 ≤ j.arrival) js)
    (some : 0 < total (λ j. cond (due_by (1 + t) j) j.slots 0) js)
    (much : 1 + t < total (λ j. cond (due_by (1 + t) j) j.slots 0) js + first.slots) where
  abbrev pressing : Job → ℕ
  pressing j = cond (due_by (1 + t) j) j.slots 0

  -- only the first job can begin in slot 0
  abbrev Opens : Job → Type 0
  Opens j = j.arrival ≡ 0 → (j.slots ≡ first.slots) × (due_by (1 + t) j ≡ false)

  room_taken : (x : Begun) (b : Bool) → (b ≡ true → end x ≤ 1 + t) → cond b x.job.slots 0 ≤ below (1 + t) x
  room_taken x b h = grind (arith, nat_tests)

  pub too_late : (xs : List Begun) → Proper (first ∷ js) xs → Late xs
  too_late xs ok = elim (timely_or_late xs) [ inr l ↦ l | inl good ↦ absurd (crowded good) ]
    where
      sums : (f : Job → ℕ) → total (λ x. f x.job) xs ≡ f first + total f js
      sums f = sym (Sums.total-map _ f xs) ∙ Sums.total-shuffled f (first ∷ js) _ ok.each_once

      opens : AllByRecursion (λ x. Opens x.job) xs
      opens = Sums.all_of_map _ _ xs (all_shuffled Opens (first ∷ js) _ ok.each_once ((λ e. (refl, patient)), All-weaker _ _ (λ j l e. absurd (omega arith)) js later))

      waits : Any (Waits 0) xs
      waits = Sums.any_more (λ x. 0 < 1 - x.job.arrival) _ xs (Sums.all_true _ (λ x h. (omega arith, omega arith)) xs) (Sums.total-some _ xs (omega (arith, sums (λ j. 1 - j.arrival))))

      begins_first : Any (λ x. x.start ≡ 0) xs
      begins_first = ok.unidling 0 (Sums.all_true _ (λ x l. absurd (omega arith)) xs) waits

      crowded : AllByRecursion Timely xs → ⊥
      crowded good =
          let each : AllByRecursion (λ x. pressing x.job ≤ below (1 + t) x) xs = All-weaker Timely _ (λ x o. room_taken x (due_by (1 + t) x.job) (o (1 + t))) xs good in
          let ahead : Any (λ x. pressing x.job + min first.slots (1 + t) ≤ below (1 + t) x) xs =
          Sums.any_more _ _ xs (Sums.all_zip _ _ _ (λ x o b z. opening x z (o (omega arith))) xs opens ok.begins) begins_first in
          let room : total (below (1 + t)) xs ≤ 1 + t = rw add-zero at (packing (1 + t) 0 xs ok.apart (Sums.all_true _ (λ x. omega arith) xs)) in
          omega (arith, sums pressing, Sums.total-spare _ _ (min first.slots (1 + t)) xs each ahead)
        where
          opening : (x : Begun) → x.start ≡ 0 → (x.job.slots ≡ first.slots) × (due_by (1 + t) x.job ≡ false) → pressing x.job + min first.slots (1 + t) ≤ below (1 + t) x
          opening x z (e, n) = rw n (omega arith)
