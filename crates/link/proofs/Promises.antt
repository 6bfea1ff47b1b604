-- What a link promises, read off its ledger after every history.
use Rattle.std.proofs.Common.{◌≡◌, ℕ, ◌+◌, ◌-◌, ◌*◌, ◌<◌, ◌≤◌, Bool, true, ◌⊎◌, List, [], ◌∷◌, map, take, Some, sym, refl, ap, ◌∙◌, subst, inl, inr, arith}
use Rattle.std.proofs.lemmas.Nat.{le-div}
use Rattle.std.proofs.lemmas.Bool.{cases_eq, cases_lt, le-leb}
use Rattle.std.specs.List.{slice_get, AllByRecursion}
use Rattle.traffic.specs.Arrivals.{Steps}
use Rattle.traffic.specs.Curves.{Numbers}
use Rattle.traffic.specs.Laws.{TrafficLaws}
use Rattle.traffic.specs.declared.Row.{Row}
use Rattle.verdict.specs.Demand.{works, bursts}
use Rattle.verdict.specs.Stretches.{stretch_of}
use Rattle.verdict.proofs.Lengthening.{Lawful}
use Rattle.schedule.specs.Core.{opened as idle}
use Rattle.schedule.proofs.Disciplines.{earliest_first}
use Rattle.schedule.proofs.Exactness.{passes_on_time, refusal_needed}
use Rattle.schedule.proofs.Ledgers.{kinds, ledger_opened, ledger_in_time, ledger_streak}
use Rattle.schedule.proofs.Logs.{waiting_positive}
use Rattle.schedule.proofs.Sums.{all_back, all_of_map, all_zip}
use Rattle.link.specs.Happenings.{Happening, happenings, clock_of, dues_of, busy_slots}
use Rattle.link.specs.Model.{Model, opened, channels}
use Rattle.link.specs.Promise.{OnTime, QuietComes, Promise}
use Rattle.link.specs.Rows.{blank}
use Rattle.link.specs.Standing.{Standing}
use Rattle.link.proofs.Carrying.{job, bulk_jobs, OnAir}
use Rattle.link.proofs.Changes.{Change, unchanged, counts, moves, takes, bulk_comes, slot_passes, along}
use Rattle.link.proofs.Exactness.{holds_exact, least_exact}
use Rattle.link.proofs.Lining.{lined_opening, lined_reads}
use Rattle.link.proofs.Accepting.{sends_accepts}
use Rattle.link.proofs.Passing.{sends_passes}
use Rattle.link.proofs.Refining.{Allowed, Sends, sends_unchanged, sends_grants, sends_moves, sends_bulk}
use Rattle.link.proofs.Standings.{standing_change, opened_stands}
use Rattle.link.proofs.Tracks.{Tracks, no_rows, free, tracks_channels}

module _ {X S : Type 0} where
  tracks_blank : (ws : List (Row X S)) → Tracks (map (λ w. record { entry = blank; row = w }) ws) []
  tracks_blank [] = no_rows
  tracks_blank (w ∷ ws) = free refl (tracks_blank ws)

module _ {X S : Type 0} (numbers : X → Numbers) where
  allowed_blank : (ws : List (Row X S)) → AllByRecursion (Allowed numbers []) (map (λ w. record { entry = blank; row = w }) ws)
  allowed_blank [] = tt
  allowed_blank (w ∷ ws) = (λ c. cc, allowed_blank ws)

  module _ (steps : X → Steps S) where
    sends_opened : (name p : ℕ) (rows : List (Row X S)) (places : ℕ) → Sends numbers steps p [] (opened name p rows places)
    sends_opened name p rows places = record {
      longest = refl;
      q = 0;
      sent = idle;
      entries = [];
      since = λ c. 0;
      bulk_since = 0;
      ledger = ledger_opened numbers steps p (earliest_first numbers steps p) (λ t some. absurd (omega arith));
      clock = refl;
      passed_clock = refl;
      busy = refl;
      waiting = refl;
      air = tt;
      tracks = tracks_blank (take 32 rows);
      allowed = allowed_blank (take 32 rows);
      packed = tt;
      no_dues = refl;
      lined = λ mat o. lined_opening numbers mat;
    }

    module _ (p : ℕ) (hs : List (Happening X)) (n : Model X S) (s : Sends numbers steps p hs n) where
      -- every waiting packet is due in a slot to come
      waiting_ahead : AllByRecursion (λ x. clock_of hs < x.due) n.waiting
      waiting_ahead =
          let timely = ledger_in_time numbers steps p (earliest_first numbers steps p) s.q s.sent s.entries s.ledger in
          let long = waiting_positive s.sent s.ledger.kept.sound in
          all_zip _ _ (λ x. clock_of hs < x.due) (λ x t l. omega (arith, t x.due (le-leb x.due x.due (omega arith)), s.clock, s.passed_clock)) n.waiting
          (all_of_map (job s.since) _ n.waiting (all_back _ (bulk_jobs s.bulk_since n.bulk) (map (job s.since) n.waiting) (subst (AllByRecursion _) s.waiting timely)))
          (all_of_map (job s.since) (λ j. 0 < j.slots) n.waiting (all_back (λ j. 0 < j.slots) (bulk_jobs s.bulk_since n.bulk) (map (job s.since) n.waiting) (subst (AllByRecursion (λ j. 0 < j.slots)) s.waiting long)))

      on_time : OnTime numbers hs
      on_time mat i due at_i = elim (cases_eq mat 0) [
        | inl zero ↦
            let none : dues_of numbers mat hs ≡ [] = ap (λ m. dues_of numbers m hs) zero ∙ s.no_dues in
            let at_none : slice_get {X = ℕ} [] i ≡ Some due = subst (λ ds. slice_get ds i ≡ Some due) none at_i in
            cc
        | inr some ↦
            lined_reads numbers mat hs n.air n.waiting s.sent.log (subst (λ c. OnAir c n.air s.sent.log) (s.clock ∙ sym s.passed_clock) s.air) s.ledger.timely waiting_ahead (s.lined mat (omega arith)) i due at_i
      ]

      -- the slots since the last quiet one, times what the works leave of a frame
      quiet_comes : (limits : X → ℕ → Bool) (dated : X → ℕ → X) → QuietComes numbers limits dated steps n hs
      quiet_comes limits dated light = go (cases_lt 0 (busy_slots hs))
        where
          W : ℕ
          W = works numbers (channels n.rows)

          go : (0 < busy_slots hs) ⊎ (busy_slots hs ≤ 0) → busy_slots hs ≤ stretch_of n.terms.longest (works numbers (channels n.rows)) (bursts numbers (channels n.rows))
          go (inr none) = omega arith
          go (inl some) =
              let same = tracks_channels s.tracks in
              let span : s.sent.clock - s.q ≡ busy_slots hs = omega (arith, s.busy, s.clock) in
              let line = ledger_streak numbers steps p (earliest_first numbers steps p) s.q s.sent s.entries s.ledger (omega (arith, s.busy, s.clock)) (subst (λ ks. works numbers ks ≤ 5040) (sym same) (omega arith)) in
              let here : busy_slots hs * (5040 - works numbers (channels n.rows)) ≤ 5040 * (n.terms.longest - 1 + bursts numbers (channels n.rows)) =
              subst (λ ks. busy_slots hs * (5040 - works numbers ks) ≤ 5040 * (n.terms.longest - 1 + bursts numbers ks)) same
              (subst (λ x. busy_slots hs * (5040 - works numbers (kinds s.entries)) ≤ 5040 * (x - 1 + bursts numbers (kinds s.entries))) (sym s.longest)
              (subst (λ x. x * (5040 - works numbers (kinds s.entries)) ≤ 5040 * (p - 1 + bursts numbers (kinds s.entries))) span line)) in
              le-div _ _ _ (omega arith) (omega (arith, here))

  module _ (limits : X → ℕ → Bool) (dated : X → ℕ → X) (steps : X → Steps S) (law : Lawful numbers limits dated)
      (sound : (k : X) (p : ℕ) → 1 ≤ p → p ≤ 255 → limits k p ≡ true → TrafficLaws (numbers k) (steps k)) where
    sends_change : (p : ℕ) (hs : List (Happening X)) (n o : Model X S) (h : Happening X) → Change numbers limits steps n o h → Standing numbers limits o → Sends numbers steps p hs n → Sends numbers steps p (h ∷ hs) o
    sends_change p hs n o h (unchanged e) stand s = subst (λ (x : Model X S). Sends numbers steps p (h ∷ hs) x) (sym e) (sends_unchanged numbers steps p hs n s)
    sends_change p hs n o h (counts mat k g) stand s =
        subst (λ (x : Model X S). Sends numbers steps p (h ∷ hs) x) (sym g.is) (sends_grants numbers steps p hs limits law.shaped sound mat k n o g (subst (λ (x : Model X S). Standing numbers limits x) g.is stand) s)
    sends_change p hs n o h (moves e i r at_i mv is) stand s =
        subst (λ (x : Model X S). Sends numbers steps p (h ∷ hs) x) (sym is) (sends_moves numbers steps p hs e n i r r.entry.phase at_i refl mv s)
    sends_change p hs n o h (takes mat a) stand s = subst (λ (x : Model X S). Sends numbers steps p (h ∷ hs) x) (sym a.is) (sends_accepts numbers steps p hs limits mat n o a s)
    sends_change p hs n o h (bulk_comes b none fit is) stand s = subst (λ (x : Model X S). Sends numbers steps p (h ∷ hs) x) (sym is) (sends_bulk numbers steps p hs n b none fit s)
    sends_change p hs n o h (slot_passes a b is) stand s =
        subst (λ (x : Model X S). Sends numbers steps p (h ∷ hs) x) (sym is) (sends_passes numbers steps p hs limits n a b (subst (λ (x : Model X S). Standing numbers limits x) is stand) s)

    -- an opened link keeps its promise
    pub promised : (name longest : ℕ) (rows : List (Row X S)) (places : ℕ) → Promise numbers limits dated steps (opened name longest rows places)
    promised name longest rows places cs n history =
        let timely = passes_on_time limits numbers steps law.shaped sound in
        let needed = refusal_needed limits numbers steps law.shaped sound in
        let (stand, s) = along numbers limits steps law.shaped dated (opened name longest rows places) (λ hs m. Standing numbers limits m × Sends numbers steps longest hs m)
        (opened_stands numbers limits name longest rows places, sends_opened steps name longest rows places)
        (λ hs m o h c k. let stand = standing_change numbers limits steps m o h c k.0 in (stand, sends_change longest hs m o h c stand k.1)) history in
        record {
          standing = stand;
          on_time = on_time steps longest (happenings cs) n s;
          no_needless_refusal = holds_exact numbers limits dated steps timely needed law n stand;
          least_exact = least_exact numbers limits dated steps timely needed law n stand;
          quiet_comes = quiet_comes steps longest (happenings cs) n s limits dated;
        }
