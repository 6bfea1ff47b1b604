-- A link refines the core machine: whatever was called, its rows, packets and slots are those of a ledger.
use Rattle.std.proofs.Common.{◌≡◌, ℕ, ◌+◌, ◌*◌, ◌<◌, ◌≤◌, Bool, true, false, eqb, leb, List, [], ◌∷◌, ◌++◌, map, set, Some, None, sym, refl, ap, ◌∙◌, subst, arith}
use Rattle.std.proofs.ByRecursion.{All-weaker}
use Rattle.std.proofs.lemmas.Bool.{true≢false, and_parts, and_from, cond-true, cond-false, eq-eqb, ne_eqb, leb-true}
use Rattle.std.specs.List.{slice_get, AllByRecursion}
use Rattle.traffic.specs.Arrivals.{Steps}
use Rattle.traffic.specs.Curves.{Numbers}
use Rattle.traffic.specs.Laws.{CurveLaws, TrafficLaws}
use Rattle.traffic.specs.declared.Row.{Row}
use Rattle.verdict.specs.Demand.{total, blocking}
use Rattle.schedule.specs.Core.{State, state}
use Rattle.schedule.specs.Jobs.{Job}
use Rattle.schedule.specs.Schedules.{Any}
use Rattle.schedule.proofs.Bags.{same_jobs}
use Rattle.schedule.proofs.Disciplines.{earliest_first}
use Rattle.schedule.proofs.Ledgers.{Entry, kinds, fresh, Ledger, ledger_holds, ledger_drops, ledger_bulk}
use Rattle.schedule.proofs.Safe.{Safe}
use Rattle.schedule.proofs.Sums.{all_zip, any_all}
use Rattle.link.specs.declared.state.Bulk.{Bulk}
use Rattle.link.specs.declared.state.Event.{Event}
use Rattle.link.specs.declared.state.Packet.{Packet}
use Rattle.link.specs.declared.state.Phase.{Phase}
use Rattle.link.specs.declared.state.Phase.TheVariants.{Free, Held, Live, Leaving}
use Rattle.link.specs.Happenings.{Happening, grants, other, clock_of, allowance_of, dues_of, busy_slots}
use Rattle.link.specs.Holding.{filled}
use Rattle.link.specs.Model.{FullRow, Model, channels, with_rows, on_entry}
use Rattle.link.specs.Packets.{bulk_bytes_lem}
use Rattle.link.specs.Rows.{counts, counted, counted_of, is_held, is_live, next, moved, changed}
use Rattle.link.specs.Sending.{with_bulk}
use Rattle.link.specs.Settling.{moved_at}
use Rattle.link.specs.Standing.{Standing}
use Rattle.link.proofs.Carrying.{job, bulk_job, waiting_jobs, OnAir}
use Rattle.link.proofs.Changes.{Moves, confirms, cancels, frees, leaves, Grant}
use Rattle.link.proofs.Lining.{Lined, lined_on}
use Rattle.link.proofs.Places.{all_nth, all_changed, any_changed, any_set, all_set}
use Rattle.link.proofs.Tracks.{Tracks, tracks_channels, focus, gap}

-- rows whose packets may wait
abbrev pub sends : Phase → Bool
sends Free = false
sends Held = false
sends Live = true
sends Leaving = true

pub live_sends : (p : Phase) → is_live p ≡ true → sends p ≡ true
live_sends Free h = cc
live_sends Held h = cc
live_sends Live h = refl
live_sends Leaving h = cc

pub sends_counts : (p : Phase) → sends p ≡ true → counts p ≡ true
sends_counts Free h = cc
sends_counts Held h = refl
sends_counts Live h = refl
sends_counts Leaving h = refl

pub live_not_held : (p : Phase) → is_live p ≡ true → is_held p ≡ true → ⊥
live_not_held Free h e = true≢false (sym e)
live_not_held Held h e = true≢false (sym h)
live_not_held Live h e = true≢false (sym e)
live_not_held Leaving h e = true≢false (sym e)

-- the row has packets of this mat
abbrev pub Sender : {X S : Type 0} → ℕ → FullRow X S → Type 0
Sender mat r = (sends r.entry.phase ≡ true) × (r.entry.mat ≡ mat)

module _ {X S : Type 0} (numbers : X → Numbers) where
  -- a counted row's allowance is that of its mat's last granted hold
  abbrev pub Allowed : List (Happening X) → FullRow X S → Type 0
  Allowed hs r = counted r.entry ≡ true → allowance_of numbers r.entry.mat hs ≡ (numbers r.row.kind).allowance

  -- a waiting packet is of a mat with a row that sends, was accepted before the next, and is due within the mat's allowance from now
  abbrev pub Packed : List (Happening X) → List (FullRow X S) → ℕ → ℕ → Packet → Type 0
  Packed hs rows clock offers p = (1 ≤ p.mat) × (p.count < offers) × (p.due ≤ clock + allowance_of numbers p.mat hs) × Any (Sender p.mat) rows

  -- the link after these happenings, where its longest packet has p slots
  pub record Sends (steps : X → Steps S) (p : ℕ) (hs : List (Happening X)) (n : Model X S) : Type 0 where
    pub longest : n.terms.longest ≡ p
    -- q is the slot after the last quiet one
    pub q : ℕ
    pub sent : State
    pub entries : List (Entry X S)
    pub since : ℕ → ℕ
    pub bulk_since : ℕ
    pub ledger : Ledger numbers steps p (earliest_first numbers steps p) q sent entries
    pub clock : sent.clock ≡ n.clock
    pub passed_clock : clock_of hs ≡ n.clock
    pub busy : q + busy_slots hs ≡ n.clock
    pub waiting : sent.waiting ≡ waiting_jobs since bulk_since n.waiting n.bulk
    pub air : OnAir sent.clock n.air sent.log
    pub tracks : Tracks n.rows entries
    pub allowed : AllByRecursion (Allowed hs) n.rows
    pub packed : AllByRecursion (Packed hs n.rows n.clock n.offers) n.waiting
    pub no_dues : dues_of numbers 0 hs ≡ []
    pub lined : (mat : ℕ) → 1 ≤ mat → Lined numbers mat hs n.air n.waiting sent.log

  module _ (steps : X → Steps S) (p : ℕ) (hs : List (Happening X)) where
    abbrev pub Now : Model X S → Type 0
    Now n = Sends steps p hs n

    abbrev pub Then : Happening X → Model X S → Type 0
    Then h n = Sends steps p (h ∷ hs) n

    -- channels that stand are served
    pub served : (limits : X → ℕ → Bool) (o : Model X S) (es : List (Entry X S)) → o.terms.longest ≡ p → Standing numbers limits o → Tracks o.rows es → Safe numbers (blocking p) (kinds es)
    served limits o es long stand t =
        subst (Safe numbers (blocking p)) (sym (tracks_channels t)) (subst (λ x. Safe numbers (blocking x) (channels o.rows)) long stand.passing.demand_fits)

    -- a bulk packet waits
    pub sends_bulk : (n : Model X S) (b : Bulk) → n.bulk ≡ None → bulk_bytes_lem n.terms.longest b.bytes ≡ true → Now n → Then other (with_bulk n b)
    sends_bulk n b none fit s =
        let (low, high) = and_parts (leb 1 b.bytes) (leb b.bytes (32 * n.terms.longest)) fit in
        let some = leb-true 1 b.bytes low in
        let most : b.bytes ≤ 32 * p = subst (λ x. b.bytes ≤ 32 * x) s.longest (leb-true b.bytes (32 * n.terms.longest) high) in
        let before : s.sent.waiting ≡ map (job s.since) n.waiting = s.waiting ∙ ap (λ c. waiting_jobs s.since s.bulk_since n.waiting c) none in
        let jobs : List Job = waiting_jobs s.since n.clock n.waiting (Some b) in
        let j : Job = bulk_job n.clock b in
        record {
          longest = s.longest;
          q = s.q;
          sent = state s.sent.clock jobs s.sent.log;
          entries = s.entries;
          since = s.since;
          bulk_since = n.clock;
          ledger = ledger_bulk numbers steps p (earliest_first numbers steps p) s.q s.sent s.entries j jobs (record { least = omega arith; most = omega arith; due = refl }) (sym s.clock)
              (same_jobs (j ∷ s.sent.waiting) jobs (λ f. ap (λ w. f j + total f w) before)) s.ledger;
          clock = s.clock;
          passed_clock = s.passed_clock;
          busy = s.busy;
          waiting = refl;
          air = s.air;
          tracks = s.tracks;
          allowed = s.allowed;
          packed = s.packed;
          no_dues = s.no_dues;
          lined = λ mat o. lined_on numbers mat hs (other ∷ hs) n.air n.waiting s.sent.log refl refl (s.lined mat o);
        }

    -- one row moves, and with it the channels
    sends_rows : (n : Model X S) (rows : List (FullRow X S)) (es : List (Entry X S)) (s : Now n) → Ledger numbers steps p (earliest_first numbers steps p) s.q s.sent es → Tracks rows es → AllByRecursion (Allowed hs) rows →
        ((mat : ℕ) → Any (Sender mat) n.rows → Any (Sender mat) rows) → Then other (with_rows n rows)
    sends_rows n rows es s ledger tracks allowed keep = record {
      longest = s.longest;
      q = s.q;
      sent = s.sent;
      entries = es;
      since = s.since;
      bulk_since = s.bulk_since;
      ledger = ledger;
      clock = s.clock;
      passed_clock = s.passed_clock;
      busy = s.busy;
      waiting = s.waiting;
      air = s.air;
      tracks = tracks;
      allowed = allowed;
      packed = All-weaker _ (Packed hs rows n.clock n.offers) (λ x h. (h.0, h.1, h.2, keep x.mat h.3)) n.waiting s.packed;
      no_dues = s.no_dues;
      lined = λ mat o. lined_on numbers mat hs (other ∷ hs) n.air n.waiting s.sent.log refl refl (s.lined mat o);
    }

    -- refused, or only asked
    pub sends_unchanged : (n : Model X S) → Now n → Then other n
    sends_unchanged n s = sends_rows n n.rows s.entries s s.ledger s.tracks s.allowed (λ mat a. a)

    -- a row that goes on to count
    row_stays : (e : Event) (n : Model X S) (i : ℕ) (r : FullRow X S) → slice_get n.rows i ≡ Some r → counted r.entry ≡ true → counted (moved e r.entry) ≡ true → (is_held (moved e r.entry).phase ≡ true → ⊥) →
        (sends r.entry.phase ≡ true → sends (moved e r.entry).phase ≡ true) → Now n → Then other (moved_at e n i)
    row_stays e n i r at_i counts-now counts-then live keep s =
        let f = focus s.tracks i r at_i counts-now in
        let t = f.tracked in
        sends_rows n (changed (on_entry (moved e)) i n.rows) s.entries s s.ledger
        (subst (Tracks (changed (on_entry (moved e)) i n.rows)) (sym f.is) (f.put (on_entry (moved e)) f.entry counts-then (record { kind = t.kind; now = t.now; idle = λ h. absurd (live h) })))
        (all_changed (Allowed hs) (on_entry (moved e)) n.rows i r at_i (λ c. all_nth (Allowed hs) n.rows i r at_i s.allowed counts-now) s.allowed)
        (λ mat a. any_changed (Sender mat) (on_entry (moved e)) n.rows i r at_i (λ h. (keep h.0, h.1)) a)

    -- a held row that becomes free
    row_goes : (e : Event) (n : Model X S) (i : ℕ) (r : FullRow X S) → slice_get n.rows i ≡ Some r → r.entry.phase ≡ Held → counted (moved e r.entry) ≡ false → Now n → Then other (moved_at e n i)
    row_goes e n i r at_i held gone s =
        let f = focus s.tracks i r at_i (ap counts held) in
        sends_rows n (changed (on_entry (moved e)) i n.rows) (f.front ++ f.back) s
        (ledger_drops numbers steps p (earliest_first numbers steps p) s.q s.sent f.front f.entry f.back (f.tracked.idle (ap is_held held)) (subst (Ledger numbers steps p (earliest_first numbers steps p) s.q s.sent) f.is s.ledger))
        (f.drop (on_entry (moved e)) gone)
        (all_changed (Allowed hs) (on_entry (moved e)) n.rows i r at_i (λ c. absurd (true≢false (sym c ∙ gone))) s.allowed)
        (λ mat a. any_changed (Sender mat) (on_entry (moved e)) n.rows i r at_i (λ h. absurd (true≢false (sym h.0 ∙ ap sends held))) a)

    pub sends_moves : (e : Event) (n : Model X S) (i : ℕ) (r : FullRow X S) (phase : Phase) → slice_get n.rows i ≡ Some r → r.entry.phase ≡ phase → Moves e phase → Now n → Then other (moved_at e n i)
    sends_moves e n i r phase at_i is confirms s =
        row_stays e n i r at_i (ap counts is) (ap (λ x. counts (next x e)) is) (λ h. true≢false (sym h ∙ ap (λ x. is_held (next x e)) is)) (λ h. absurd (true≢false (sym h ∙ ap sends is))) s
    sends_moves e n i r phase at_i is cancels s = row_goes e n i r at_i is (ap (λ x. counts (next x e)) is) s
    sends_moves e n i r phase at_i is frees s = row_goes e n i r at_i is (ap (λ x. counts (next x e)) is) s
    sends_moves e n i r phase at_i is leaves s =
        row_stays e n i r at_i (ap counts is) (ap (λ x. counts (next x e)) is) (λ h. true≢false (sym h ∙ ap (λ x. is_held (next x e)) is)) (λ h. ap (λ x. sends (next x e)) is) s

    -- a row of this mat would be found
    other_mat : (mat : ℕ) (r : FullRow X S) → counted_of mat r.entry ≡ false → counted r.entry ≡ true → mat ≡ r.entry.mat → ⊥
    other_mat mat r u c e = true≢false (sym (and_from (eqb r.entry.mat mat) (counts r.entry.phase) (eq-eqb r.entry.mat mat (sym e)) c) ∙ u)

    module _ (limits : X → ℕ → Bool) (shaped : (k : X) (p : ℕ) → 1 ≤ p → p ≤ 255 → limits k p ≡ true → CurveLaws p (numbers k))
        (sound : (k : X) (p : ℕ) → 1 ≤ p → p ≤ 255 → limits k p ≡ true → TrafficLaws (numbers k) (steps k)) where
      -- a channel is granted
      pub sends_grants : (mat : ℕ) (k : X) (n o : Model X S) (g : Grant numbers limits steps n mat k o) → Standing numbers limits (filled n g.place mat (record { kind = k; state = (steps k).fresh })) →
          Now n → Then (grants mat k) (filled n g.place mat (record { kind = k; state = (steps k).fresh }))
      sends_grants mat k n o g stand s =
          let (r, at_i, free) = g.vacant in
          let w : Row X S = record { kind = k; state = (steps k).fresh } in
          let full : FullRow X S = record { entry = record { mat = mat; serial = n.serials + 1; phase = Held }; row = w } in
          let gp = gap s.tracks g.place r at_i free in
          let tracks : Tracks (set n.rows g.place full) (gp.front ++ fresh steps k ∷ gp.back) = gp.put full (fresh steps k) refl (record { kind = refl; now = refl; idle = λ h. refl }) in
          let low : 1 ≤ p = subst (λ x. 1 ≤ x) s.longest g.judged.least in
          let high : p ≤ 255 = subst (λ x. x ≤ 255) s.longest g.judged.most in
          let lim : limits k p ≡ true = subst (λ x. limits k x ≡ true) s.longest g.within in
          record {
            longest = s.longest;
            q = s.q;
            sent = s.sent;
            entries = gp.front ++ fresh steps k ∷ gp.back;
            since = s.since;
            bulk_since = s.bulk_since;
            ledger = ledger_holds numbers steps p (earliest_first numbers steps p) s.q s.sent gp.front k gp.back (shaped k p low high lim) (sound k p low high lim)
                (served limits (filled n g.place mat w) (gp.front ++ fresh steps k ∷ gp.back) s.longest stand tracks)
                (subst (Ledger numbers steps p (earliest_first numbers steps p) s.q s.sent) gp.is s.ledger);
            clock = s.clock;
            passed_clock = s.passed_clock;
            busy = s.busy;
            waiting = s.waiting;
            air = s.air;
            tracks = tracks;
            allowed = all_set (Allowed (grants mat k ∷ hs)) n.rows g.place full (λ c. cond-true (eqb mat mat) _ _ (eq-eqb mat mat refl))
                (all_zip (Allowed hs) (λ (r : FullRow X S). counted_of mat r.entry ≡ false) (Allowed (grants mat k ∷ hs))
                (λ r a u c. cond-false (eqb mat r.entry.mat) _ _ (ne_eqb mat r.entry.mat (other_mat mat r u c)) ∙ a c) n.rows s.allowed g.uncounted);
            packed = All-weaker _ (Packed (grants mat k ∷ hs) (set n.rows g.place full) n.clock n.offers) (λ x h.
                let differs : mat ≡ x.mat → ⊥ = λ e. any_all (Sender x.mat) n.rows h.3 (All-weaker _ (λ (r : FullRow X S). Sender x.mat r → ⊥) (λ r u b. other_mat mat r u (sends_counts r.entry.phase b.0) (e ∙ sym b.1)) n.rows g.uncounted) in
                let same = cond-false (eqb mat x.mat) (numbers k).allowance (allowance_of numbers x.mat hs) (ne_eqb mat x.mat differs) in
                (h.0, h.1, omega (arith, h.2), any_set (Sender x.mat) n.rows g.place r full at_i (λ b. true≢false (sym b.0 ∙ ap sends free)) h.3)) n.waiting s.packed;
            no_dues = s.no_dues;
            lined = λ m o. lined_on numbers m hs (grants mat k ∷ hs) n.air n.waiting s.sent.log refl refl (s.lined m o);
          }
