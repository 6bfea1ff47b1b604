-- A slot passes: the link still refines the core machine.
use Rattle.std.proofs.Common.{◌≡◌, ℕ, ◌+◌, ◌<◌, ◌≤◌, Bool, true, false, ◌⊎◌, List, [], ◌∷◌, map, sym, refl, ap, ◌∙◌, subst, inl, inr, arith}
use Rattle.std.proofs.ByRecursion.{All-map, All-weaker}
use Rattle.std.proofs.lemmas.Bool.{cond-true, cond-false}
use Rattle.std.specs.Option.{option_map}
use Rattle.std.specs.List.{AllByRecursion}
use Rattle.traffic.specs.Arrivals.{Steps}
use Rattle.traffic.specs.Curves.{Numbers}
use Rattle.schedule.specs.Core.{State, state}
use Rattle.schedule.specs.Jobs.{timed}
use Rattle.schedule.proofs.Counts.{ahead}
use Rattle.schedule.proofs.Disciplines.{earliest_first}
use Rattle.schedule.proofs.Ledgers.{Entry, Ledger, ledger_tick, ledger_quiet_among}
use Rattle.schedule.proofs.Logs.{waiting_positive}
use Rattle.link.specs.declared.state.Event.TheVariants.{Quiet}
use Rattle.link.specs.Happenings.{Happening, passes, is_quiet, busy_slots}
use Rattle.link.specs.Model.{Model, on_entry}
use Rattle.link.specs.Packets.{told}
use Rattle.link.specs.Rows.{moved}
use Rattle.link.specs.Standing.{Standing}
use Rattle.link.specs.Ticking.{Begins, quiet, passed}
use Rattle.link.proofs.Carrying.{Up, up_passes}
use Rattle.link.proofs.Fading.{fading_phase}
use Rattle.link.proofs.Lining.{lined_passes}
use Rattle.link.proofs.Starting.{Starts, starts}
use Rattle.link.proofs.Tracks.{Tracks, rests}
use Rattle.link.proofs.Refining.{Allowed, Packed, Now, Then, served}

module _ {X S : Type 0} (numbers : X → Numbers) (steps : X → Steps S) (p : ℕ) (hs : List (Happening X)) where
  -- A slot passes.
  module _ (n a : Model X S) (s : Now numbers steps p hs n) (st : Starts numbers s.since s.bulk_since n a s.sent.clock s.sent.waiting s.sent.log) where
    after_slot : State
    after_slot = state (s.sent.clock + 1) st.jobs st.log

    -- whether quiet or not
    sends_slot : (q : ℕ) (es : List (Entry X S)) → Ledger numbers steps p (earliest_first numbers steps p) q after_slot es → q + busy_slots (passes (option_map told a.air) ∷ hs) ≡ n.clock + 1 →
        Tracks a.rows es → AllByRecursion (Allowed numbers hs) a.rows → AllByRecursion (Packed numbers hs a.rows n.clock n.offers) a.waiting → Then numbers steps p hs (passes (option_map told a.air)) (passed a)
    unfolding after_slot
    sends_slot q es ledger busy tracks allowed packed = record {
      longest = ap (λ t. t.longest) st.terms ∙ s.longest;
      q = q;
      sent = after_slot;
      entries = es;
      since = s.since;
      bulk_since = s.bulk_since;
      ledger = ledger;
      clock = omega (arith, s.clock, st.clock);
      passed_clock = omega (arith, s.passed_clock, st.clock);
      busy = omega (arith, busy, st.clock);
      waiting = st.waiting;
      air = up_passes s.sent.clock a.air st.log st.up ledger.kept.sound.queue;
      tracks = tracks;
      allowed = allowed;
      packed = All-weaker _ (Packed numbers (passes (option_map told a.air) ∷ hs) a.rows (a.clock + 1) a.offers) (λ x h. (h.0, omega (arith, h.1, st.offers), omega (arith, h.2, st.clock), h.3)) a.waiting packed;
      no_dues = s.no_dues;
      lined = λ mat o. lined_passes numbers mat hs a.air a.waiting st.log (subst (λ c. Up c a.air st.log) (s.clock ∙ sym s.passed_clock) st.up) ledger.timely (st.lined mat hs o (s.lined mat o));
    }

    sends_busy : a.rows ≡ n.rows → is_quiet (option_map told a.air) ≡ false → 0 < ahead timed s.sent → Then numbers steps p hs (passes (option_map told a.air)) (passed a)
    unfolding after_slot
    sends_busy rows busy some =
        sends_slot s.q s.entries (ledger_tick numbers steps p (earliest_first numbers steps p) s.q s.sent after_slot s.entries st.tick some s.ledger)
        (omega (arith, s.busy, cond-false (is_quiet (option_map told a.air)) 0 (busy_slots hs + 1) busy))
        (subst (λ rs. Tracks rs s.entries) (sym rows) s.tracks) (subst (AllByRecursion (Allowed numbers hs)) (sym rows) s.allowed)
        (subst (λ rs. AllByRecursion (Packed numbers hs rs n.clock n.offers) a.waiting) (sym rows) (st.fewer (Packed numbers hs n.rows n.clock n.offers) s.packed))

    sends_quiet : (limits : X → ℕ → Bool) → Standing numbers limits (passed a) → a.rows ≡ map (on_entry (moved Quiet)) n.rows → n.waiting ≡ [] → is_quiet (option_map told a.air) ≡ true → ahead timed s.sent ≡ 0 →
        Then numbers steps p hs (passes (option_map told a.air)) (passed a)
    unfolding after_slot
    sends_quiet limits stand rows empty calm none =
        let rest = rests s.tracks in
        let tracks : Tracks a.rows rest.stay = subst (λ rs. Tracks rs rest.stay) (sym rows) rest.tracks in
        sends_slot (s.sent.clock + 1) rest.stay
        (ledger_quiet_among numbers steps p (earliest_first numbers steps p) s.q s.sent after_slot s.entries rest.stay rest.each
        (served numbers steps p hs limits (passed a) rest.stay (ap (λ t. t.longest) st.terms ∙ s.longest) stand tracks) st.tick none s.ledger)
        (omega (arith, s.clock, cond-true (is_quiet (option_map told a.air)) 0 (busy_slots hs + 1) calm)) tracks
        (subst (AllByRecursion (Allowed numbers hs)) (sym rows) (All-map (Allowed numbers hs) (on_entry (moved Quiet)) n.rows (All-weaker _ _ (λ r h c. h (fading_phase r.entry.phase Quiet (λ e. cc) c)) n.rows s.allowed)))
        (st.fewer (Packed numbers hs a.rows n.clock n.offers) (subst (AllByRecursion (Packed numbers hs a.rows n.clock n.offers)) (sym empty) tt))

  pub sends_passes : (limits : X → ℕ → Bool) (n a : Model X S) → Begins n.air n a → Standing numbers limits (passed a) → Now numbers steps p hs n → Then numbers steps p hs (passes (option_map told a.air)) (passed a)
  sends_passes limits n a b stand s = go st.rests
    where
      st : Starts numbers s.since s.bulk_since n a s.sent.clock s.sent.waiting s.sent.log
      st = starts numbers s.since s.bulk_since n a s.sent.clock s.sent.waiting s.sent.log n.air refl b s.air s.waiting (waiting_positive s.sent s.ledger.kept.sound)
          (All-weaker _ (λ x. 1 ≤ x.mat) (λ x h. h.0) n.waiting s.packed)

      go : ((a ≡ quiet n) × (n.waiting ≡ []) × (is_quiet (option_map told a.air) ≡ true) × (ahead timed s.sent ≡ 0)) ⊎ ((a.rows ≡ n.rows) × (is_quiet (option_map told a.air) ≡ false) × (0 < ahead timed s.sent)) →
          Then numbers steps p hs (passes (option_map told a.air)) (passed a)
      go (inl (is, empty, calm, none)) = sends_quiet n a s st limits stand (ap (λ (x : Model X S). x.rows) is) empty calm none
      go (inr (rows, busy, some)) = sends_busy n a s st rows busy some
