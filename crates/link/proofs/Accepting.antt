-- A packet is accepted: the link still refines the core machine.
use Rattle.std.proofs.Common.{◌≡◌, ℕ, ◌+◌, ◌<◌, ◌≤◌, Bool, true, cond, eqb, List, [], ◌∷◌, ◌++◌, map, Some, sym, refl, ap, ◌∙◌, subst, arith}
use Rattle.std.proofs.ByRecursion.{All-weaker, all_shuffled}
use Rattle.std.proofs.lemmas.Bool.{and_parts, cond-true, cond-false, eqb-true, eq-eqb, ne_eqb}
use Rattle.std.specs.List.Sorted.{IsPermutation}
use Rattle.traffic.specs.Arrivals.{Steps}
use Rattle.traffic.specs.Curves.{Numbers}
use Rattle.verdict.specs.Demand.{total}
use Rattle.schedule.specs.Core.{state}
use Rattle.schedule.specs.Jobs.{Job, at}
use Rattle.schedule.proofs.Bags.{same_jobs}
use Rattle.schedule.proofs.Disciplines.{earliest_first}
use Rattle.schedule.proofs.Ledgers.{Entry, Ledger, ledger_takes}
use Rattle.schedule.proofs.Sums.{total-append, total-map, total-shuffled, total-same}
use Rattle.link.specs.declared.state.Packet.{Packet}
use Rattle.link.specs.Happenings.{Happening, accepts, allowance_of}
use Rattle.link.specs.Model.{FullRow, Model, with_rows, on_row}
use Rattle.link.specs.Packets.{slots}
use Rattle.link.specs.Rows.{counted, changed}
use Rattle.link.specs.Sending.{queued}
use Rattle.link.proofs.Carrying.{job, bulk_jobs, waiting_jobs}
use Rattle.link.proofs.Changes.{Accept}
use Rattle.link.proofs.Lining.{lined_accepts}
use Rattle.link.proofs.Places.{all_nth, all_changed, any_changed, any_here}
use Rattle.link.proofs.Tracks.{focus}
use Rattle.link.proofs.Refining.{live_sends, sends_counts, live_not_held, Sender, Allowed, Packed, Now, Then}

module _ {X S : Type 0} (numbers : X → Numbers) (steps : X → Steps S) (p : ℕ) (hs : List (Happening X)) where
  -- A packet is accepted.
  module _ (limits : X → ℕ → Bool) (mat : ℕ) (n o : Model X S) (a : Accept numbers limits steps n mat o) (s : Now numbers steps p hs n) where
    packet : Packet
    packet = record { due = n.clock + (numbers a.row.row.kind).allowance; mat = mat; count = n.offers; place = a.at; bytes = a.bytes }

    -- the slots in which packets were offered, with the new one
    later : ℕ → ℕ
    later c = cond (eqb c n.offers) n.clock (s.since c)

    new_job : Job
    new_job = record { arrival = n.clock; slots = slots a.bytes; due = at (n.clock + (numbers a.row.row.kind).allowance); owner = 0; mat = mat; count = n.offers }

    job_new : job later packet ≡ new_job
    unfolding packet later new_job
    job_new = ap (λ x. record { arrival = x; slots = slots a.bytes; due = at (n.clock + (numbers a.row.row.kind).allowance); owner = 0; mat = mat; count = n.offers }) (cond-true (eqb n.offers n.offers) _ _ (eq-eqb n.offers n.offers refl))

    job_old : (x : Packet) → x.count < n.offers → job later x ≡ job s.since x
    unfolding later
    job_old x b = ap (λ y. record { arrival = y; slots = slots x.bytes; due = at x.due; owner = 0; mat = x.mat; count = x.count }) (cond-false (eqb x.count n.offers) _ _ (ne_eqb x.count n.offers (λ e. omega arith)))

    joins : IsPermutation (new_job ∷ s.sent.waiting) (waiting_jobs later s.bulk_since o.waiting n.bulk)
    unfolding packet
    joins = same_jobs _ _ (λ f.
        omega (
          arith,
          ap (total f) s.waiting,
          total-append f (bulk_jobs s.bulk_since n.bulk) (map (job s.since) n.waiting),
          total-append f (bulk_jobs s.bulk_since n.bulk) (map (job later) o.waiting),
          total-map (job s.since) f n.waiting,
          total-map (job later) f o.waiting,
          total-shuffled (λ x. f (job later x)) (packet ∷ n.waiting) o.waiting a.waits,
          ap f job_new,
          total-same (λ x. f (job later x)) (λ x. f (job s.since x)) n.waiting (All-weaker _ (λ x. f (job later x) ≡ f (job s.since x)) (λ x h. ap f (job_old x h.1)) n.waiting s.packed),
        ))

    counts_row : counted a.row.entry ≡ true
    counts_row = sends_counts a.row.entry.phase (live_sends a.row.entry.phase a.live)

    own_mat : a.row.entry.mat ≡ mat
    own_mat = eqb-true a.row.entry.mat mat (and_parts (eqb a.row.entry.mat mat) _ a.fitting).0

    allowance : (numbers a.row.row.kind).allowance ≡ allowance_of numbers mat hs
    allowance = sym (all_nth (Allowed numbers hs) n.rows a.place a.row a.found s.allowed counts_row) ∙ ap (λ m. allowance_of numbers m hs) own_mat

    stored : FullRow X S → FullRow X S
    stored = on_row (record { kind = a.row.row.kind; state = a.after })

    pub sends_accepts : Then numbers steps p hs (accepts mat) (with_rows (queued n o.waiting) (changed (on_row (record { kind = a.row.row.kind; state = a.after })) a.place n.rows))
    unfolding packet new_job stored
    sends_accepts =
        let f = focus s.tracks a.place a.row a.found counts_row in
        let t = f.tracked in
        let entry : Entry X S = record { kind = f.entry.kind; now = a.after; past = f.entry.past ++ new_job ∷ [] } in
        let takes : (steps f.entry.kind).step f.entry.now n.clock (slots a.bytes) ≡ Some a.after = subst (λ k. (steps k).step f.entry.now n.clock (slots a.bytes) ≡ Some a.after) (sym t.kind) (subst (λ x. (steps a.row.row.kind).step x n.clock (slots a.bytes) ≡ Some a.after) (sym t.now) a.taken) in
        let due : new_job.due ≡ at (n.clock + (numbers f.entry.kind).allowance) = ap (λ k. at (n.clock + (numbers k).allowance)) (sym t.kind) in
        record {
          longest = s.longest;
          q = s.q;
          sent = state s.sent.clock (waiting_jobs later s.bulk_since o.waiting n.bulk) s.sent.log;
          entries = f.front ++ entry ∷ f.back;
          since = later;
          bulk_since = s.bulk_since;
          ledger = ledger_takes numbers steps p (earliest_first numbers steps p) s.q s.sent f.front f.entry f.back a.after new_job _ (sym s.clock) due takes joins
              (subst (Ledger numbers steps p (earliest_first numbers steps p) s.q s.sent) f.is s.ledger);
          clock = s.clock;
          passed_clock = s.passed_clock;
          busy = s.busy;
          waiting = refl;
          air = s.air;
          tracks = f.put stored entry counts_row (record { kind = t.kind; now = refl; idle = λ h. absurd (live_not_held a.row.entry.phase a.live h) });
          allowed = all_changed (Allowed numbers hs) stored n.rows a.place a.row a.found (all_nth (Allowed numbers hs) n.rows a.place a.row a.found s.allowed) s.allowed;
          packed = all_shuffled (Packed numbers (accepts mat ∷ hs) (changed stored a.place n.rows) n.clock (n.offers + 1)) (packet ∷ n.waiting) o.waiting a.waits (
            (a.named, omega arith, omega (arith, allowance), any_here (Sender mat) stored n.rows a.place a.row a.found (live_sends a.row.entry.phase a.live, own_mat)),
            All-weaker _ _ (λ x h. (h.0, omega (arith, h.1), h.2, any_changed (Sender x.mat) stored n.rows a.place a.row a.found (λ b. b) h.3)) n.waiting s.packed,
          );
          no_dues = cond-false (eqb mat 0) _ _ (ne_eqb mat 0 (λ e. omega (arith, a.named))) ∙ s.no_dues;
          lined = λ m o'. lined_accepts numbers m hs mat n.air packet n.waiting o.waiting s.sent.log refl (omega (arith, allowance, s.passed_clock)) a.waits
              (All-weaker _ (λ x. (x.mat ≡ mat → x.due ≤ packet.due) × (x.count < packet.count)) (λ x h. ((λ e. let same = ap (λ m. allowance_of numbers m hs) e in omega (arith, h.2, allowance)), h.1)) n.waiting s.packed) (s.lined m o');
        }
