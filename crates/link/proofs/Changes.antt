-- What a call makes of a link: every history is a chain of these few changes.
use Rattle.std.proofs.Common.{◌≡◌, ℕ, ◌+◌, ◌≤◌, Bool, true, false, cond, ◌&&◌, eqb, List, [], ◌∷◌, ◌++◌, length, Some, None, Ok, Err, Option, Result, sym, refl, ap, ◌∙◌, subst}
use Rattle.std.proofs.lemmas.Bool.{and_parts, leb-true}
use Rattle.std.specs.List.{slice_get, AllByRecursion}
use Rattle.std.specs.Option.{option_map}
use Rattle.std.specs.List.Sorted.{IsPermutation}
use Rattle.traffic.specs.Arrivals.{Steps}
use Rattle.traffic.specs.Curves.{Numbers}
use Rattle.traffic.specs.Laws.{CurveLaws}
use Rattle.traffic.specs.declared.Row.{Row}
use Rattle.verdict.specs.Demand.{blocking}
use Rattle.verdict.specs.Judged.{Judged, Judgeable}
use Rattle.verdict.specs.Passes.{Passes}
use Rattle.verdict.specs.declared.Unfit.{Unfit}
use Rattle.verdict.proofs.Exactness.{judged_exact}
use Rattle.refusals.specs.declared.Refusal.{Refusal}
use Rattle.link.specs.declared.state.Bulk.{Bulk}
use Rattle.link.specs.declared.state.Event.{Event}
use Rattle.link.specs.declared.state.Event.TheVariants.{Confirm, Cancel, Release}
use Rattle.link.specs.declared.state.Hold.{Hold}
use Rattle.link.specs.declared.state.Packet.{Packet}
use Rattle.link.specs.declared.state.Phase.{Phase}
use Rattle.link.specs.declared.state.Phase.TheVariants.{Held, Live}
use Rattle.link.specs.declared.state.Sent.{Sent}
use Rattle.link.specs.Happenings.{Happening, grants, accepts, passes, other, happening, happenings}
use Rattle.link.specs.History.{Call, held, offered, ticked, History, opening, hold, confirm, cancel, release, offer, bulk, tick, stretch, least, piece}
use Rattle.link.specs.Holding.{Vacant, filled, hold_cause, HeldOr, Decided}
use Rattle.link.specs.Model.{FullRow, Model, find, channels, with_rows, on_row}
use Rattle.link.specs.Outcomes.{Answered}
use Rattle.link.specs.Packets.{slots, offer_bytes_lem, bulk_bytes_lem, is_mat_lem, told}
use Rattle.refusals.specs.Refusals.{decided}
use Rattle.link.specs.Rows.{counted_of, held_of, is_held, is_live, may_release_lem, changed}
use Rattle.link.specs.Sending.{admitted, offer_admitted, offer_row, offer_place, offer_outcome, Offered, queued, bulk_waits, bulk_outcome, with_bulk}
use Rattle.link.specs.Settling.{GivenBack, settled, settled_at, moved_at, release_row, release_place, release_outcome}
use Rattle.link.specs.Ticking.{Begins, passed, tick_cause, Ticked}
use Rattle.link.proofs.Firsts.{first_passes}
use Rattle.link.proofs.Inversions.{unless_refused, else_refused, ok_same, some_same, hold_new, hold_within, hold_mat}

-- the moves that a call makes of a row
pub data Moves : Event → Phase → Type 0 where
  confirms : Moves Confirm Held
  cancels : Moves Cancel Held
  frees : Moves Release Held
  leaves : Moves Release Live

held_confirms : (p : Phase) → is_held p ≡ true → Moves Confirm p
held_confirms Held h = confirms
held_confirms p h = cc

held_cancels : (p : Phase) → is_held p ≡ true → Moves Cancel p
held_cancels Held h = cancels
held_cancels p h = cc

may_move : (p : Phase) → may_release_lem p ≡ true → Moves Release p
may_move Held h = frees
may_move Live h = leaves
may_move p h = cc

module _ {X S : Type 0} (numbers : X → Numbers) (limits : X → ℕ → Bool) (steps : X → Steps S) where
  -- a channel is counted, in a free row
  pub record Grant (n : Model X S) (mat : ℕ) (k : X) (o : Model X S) : Type 0 where
    pub place : ℕ
    pub vacant : Vacant n place
    pub named : 1 ≤ mat
    pub uncounted : AllByRecursion (λ (r : FullRow X S). counted_of mat r.entry ≡ false) n.rows
    pub judged : Judgeable limits n.terms.longest (length n.rows) (channels n.rows ++ k ∷ [])
    pub within : limits k n.terms.longest ≡ true
    pub passing : Passes numbers (blocking n.terms.longest) (channels n.rows ++ k ∷ [])
    pub is : o ≡ filled n place mat (record { kind = k; state = (steps k).fresh })

  -- a packet of a live row is accepted
  pub record Accept (n : Model X S) (mat : ℕ) (o : Model X S) : Type 0 where
    pub place : ℕ
    pub row : FullRow X S
    pub after : S
    pub at : ℕ
    pub bytes : ℕ
    pub found : slice_get n.rows place ≡ Some row
    pub fitting : counted_of mat row.entry ≡ true
    pub live : is_live row.entry.phase ≡ true
    pub named : 1 ≤ mat
    pub taken : (steps row.row.kind).step row.row.state n.clock (slots bytes) ≡ Some after
    pub waits : IsPermutation (record { due = n.clock + (numbers row.row.kind).allowance; mat = mat; count = n.offers; place = at; bytes = bytes } ∷ n.waiting) o.waiting
    pub is : o ≡ with_rows (queued n o.waiting) (changed (on_row (record { kind = row.row.kind; state = after })) place n.rows)

  pub data Change (n o : Model X S) : Happening X → Type 0 where
    -- refused, or only asked
    unchanged : o ≡ n → Change n o other
    counts : (mat : ℕ) (k : X) → Grant n mat k o → Change n o (grants mat k)
    moves : (e : Event) (i : ℕ) (r : FullRow X S) → slice_get n.rows i ≡ Some r → Moves e r.entry.phase → o ≡ moved_at e n i → Change n o other
    takes : (mat : ℕ) → Accept n mat o → Change n o (accepts mat)
    bulk_comes : (b : Bulk) → n.bulk ≡ None → bulk_bytes_lem n.terms.longest b.bytes ≡ true → o ≡ with_bulk n b → Change n o other
    -- a slot passes: a is the link at its start
    slot_passes : (a : Model X S) → Begins n.air n a → o ≡ passed a → Change n o (passes (option_map told a.air))

  -- Offers.

  stepped : (d : ℕ) (v w : Row X S) (due : ℕ) (o : Option S) → option_map {U = Row X S × ℕ} (λ s. (record { kind = v.kind; state = s }, d)) o ≡ Some (w, due) →
      (s : S) × (o ≡ Some s) × (record { kind = v.kind; state = s } ≡ w) × (d ≡ due)
  stepped d v w due None h = cc
  stepped d v w due (Some s) h =
      let same = some_same {U = Row X S × ℕ} (record { kind = v.kind; state = s }, d) (w, due) h in
      (s, refl, ap (λ (x : Row X S × ℕ). x.0) same, ap (λ (x : Row X S × ℕ). x.1) same)

  admitted_some : (b : Bool) (o : Option (Row X S × ℕ)) (w : Row X S) (due : ℕ) → cond b o None ≡ Some (w, due) → o ≡ Some (w, due)
  admitted_some true o w due h = h
  admitted_some false o w due h = cc

  packet : Model X S → ℕ → ℕ → ℕ → ℕ → Packet
  packet m due mat place bytes = record { due = due; mat = mat; count = m.offers; place = place; bytes = bytes }

  offer_admits : (m : Model X S) (mat place bytes i : ℕ) (o : Option (Row X S × ℕ)) (j : ℕ) (w : Row X S) (p : Packet) →
      offer_admitted numbers limits steps m mat place bytes i o ≡ Ok (j, w, p) →
      (i ≡ j) × ((due : ℕ) × (o ≡ Some (w, due)) × (packet m due mat place bytes ≡ p))
  unfolding packet
  offer_admits m mat place bytes i None j w p h = cc
  offer_admits m mat place bytes i (Some (v, due)) j w p h =
      let q = unless_refused (eqb (length m.waiting) m.terms.places) _ _ _ h in
      let same = ok_same {U = ℕ × Row X S × Packet} (i, v, packet m due mat place bytes) (j, w, p) q in
      (ap (λ (x : ℕ × Row X S × Packet). x.0) same, (due, ap (λ (x : ℕ × Row X S × Packet). Some (x.1, due)) same, ap (λ (x : ℕ × Row X S × Packet). x.2) same))

  -- what an accepted offer tells
  record Admits (m : Model X S) (mat place bytes j : ℕ) (w : Row X S) (p : Packet) : Type 0 where
    row : FullRow X S
    after : S
    found : slice_get m.rows j ≡ Some row
    fitting : counted_of mat row.entry ≡ true
    live : is_live row.entry.phase ≡ true
    taken : (steps row.row.kind).step row.row.state m.clock (slots bytes) ≡ Some after
    stores : record { kind = row.row.kind; state = after } ≡ w
    waits : packet m (m.clock + (numbers row.row.kind).allowance) mat place bytes ≡ p

  cond_ok : {U : Type 0} (b : Bool) (x y : Result U Refusal) (u : U) → (y ≡ Ok u → ⊥) → cond b x y ≡ Ok u → (b ≡ true) × (x ≡ Ok u)
  cond_ok true x y u n h = (refl, h)
  cond_ok false x y u n h = absurd (n h)

  err_ok : {U : Type 0} (e : Refusal) (u : U) → ◌≡◌ {A = Result U Refusal} (Err e) (Ok u) → ⊥
  err_ok e u h = cc

  offer_at : (m : Model X S) (mat place bytes i : ℕ) (r : FullRow X S) (j : ℕ) (w : Row X S) (p : Packet) → slice_get m.rows i ≡ Some r → counted_of mat r.entry ≡ true →
      offer_row numbers limits steps m mat place bytes i (Some r) ≡ Ok (j, w, p) → Admits m mat place bytes j w p
  offer_at m mat place bytes i r j w p found fit h =
      let (live, q) = cond_ok (is_live r.entry.phase) _ _ _ (err_ok _ _) h in
      let (same, (due, a, is)) = offer_admits m mat place bytes i (admitted numbers limits steps m.terms.longest m.clock (slots bytes) r.row) j w p q in
      let (s, t, st, d) = stepped _ r.row w due ((steps r.row.kind).step r.row.state m.clock (slots bytes)) (admitted_some (limits r.row.kind m.terms.longest) _ w due a) in
      record {
        row = r;
        after = s;
        found = subst (λ k. slice_get m.rows k ≡ Some r) same found;
        fitting = fit;
        live = live;
        taken = t;
        stores = st;
        waits = ap (λ x. packet m x mat place bytes) d ∙ is;
      }

  offer_found : (m : Model X S) (mat place bytes : ℕ) (o : Option ℕ) (j : ℕ) (w : Row X S) (p : Packet) → find (counted_of mat) m ≡ o →
      offer_place numbers limits steps m mat place bytes o ≡ Ok (j, w, p) → Admits m mat place bytes j w p
  offer_found m mat place bytes None j w p f h = absurd (err_ok _ _ h)
  offer_found m mat place bytes (Some i) j w p f h =
      let (r, at, fit) = first_passes (λ (r : FullRow X S). counted_of mat r.entry) m.rows i f in
      offer_at m mat place bytes i r j w p at fit (subst (λ x. offer_row numbers limits steps m mat place bytes i x ≡ Ok (j, w, p)) at h)

  offer_admitted_as : (m : Model X S) (mat place bytes j : ℕ) (w : Row X S) (p : Packet) → offer_outcome numbers limits steps m mat place bytes ≡ Ok (j, w, p) →
      (1 ≤ mat) × Admits m mat place bytes j w p
  offer_admitted_as m mat place bytes j w p h =
      let (named, q) = cond_ok (is_mat_lem mat && offer_bytes_lem bytes) _ _ _ (err_ok _ _) (unless_refused m.terms.shut _ _ _ h) in
      (leb-true 1 mat (and_parts (is_mat_lem mat) (offer_bytes_lem bytes) named).0, offer_found m mat place bytes (find (counted_of mat) m) j w p refl q)

  offer_changes : (n : Model X S) (mat place bytes : ℕ) (x : Result (ℕ × Row X S × Packet) Refusal) (r : Result (Unit {0}) Refusal) (o : Model X S) → offer_outcome numbers limits steps n mat place bytes ≡ x →
      Offered x n r o → Change n o (happening (offered mat place bytes r))
  unfolding packet
  offer_changes n mat place bytes (Err e) (Ok tt) o q (w, s) = absurd (err_ok _ _ (sym w))
  offer_changes n mat place bytes (Err e) (Err e') o q (w, s) = unchanged s
  offer_changes n mat place bytes (Ok (i, w, p)) (Err e) o q (g, sh, s) = absurd (err_ok _ _ g)
  offer_changes n mat place bytes (Ok (i, w, p)) (Ok tt) o q (g, sh, s) =
      let (named, a) = offer_admitted_as n mat place bytes i w p q in
      takes mat (record {
        place = i;
        row = a.row;
        after = a.after;
        at = place;
        bytes = bytes;
        found = a.found;
        fitting = a.fitting;
        live = a.live;
        named = named;
        taken = a.taken;
        waits = subst (λ x. IsPermutation (x ∷ n.waiting) o.waiting) (sym a.waits) sh;
        is = subst (λ (x : Row X S). o ≡ with_rows (queued n o.waiting) (changed (on_row x) i n.rows)) (sym a.stores) s;
      })

  -- Holds settled and released.

  settled_changes : (e : Event) → ((p : Phase) → is_held p ≡ true → Moves e p) → (n : Model X S) (mat serial : ℕ) (x : Option ℕ) (o : Model X S) → find (held_of mat serial) n ≡ x →
      settled_at e n x ≡ Ok o → Change n o other
  settled_changes e may n mat serial None o f h = absurd (err_ok _ _ h)
  settled_changes e may n mat serial (Some i) o f h =
      let (r, at, fit) = first_passes (λ (r : FullRow X S). held_of mat serial r.entry) n.rows i f in
      let is-it = (and_parts (eqb r.entry.serial serial) _ (and_parts (eqb r.entry.mat mat) _ fit).1).1 in
      moves e i r at (may r.entry.phase is-it) (sym (ok_same (moved_at e n i) o h))

  hold_settles : (e : Event) → ((p : Phase) → is_held p ≡ true → Moves e p) → (h : Hold) (n o : Model X S) → settled e h n ≡ Ok o → Change n o other
  hold_settles e may h n o q =
      settled_changes e may n h.mat h.serial (find (held_of h.mat h.serial) n) o refl (else_refused _ _ _ _ (unless_refused n.terms.shut _ _ _ q))

  same_change : (n a o : Model X S) → o ≡ a → Change n a other → Change n o other
  same_change n a o e c = subst (λ (x : Model X S). Change n x other) (sym e) c

  given_changes : (h : Hold) (n : Model X S) (x : Result (Model X S) Refusal) (r : Result (Unit {0}) (Refusal × Hold)) (o : Model X S) → ((a : Model X S) → x ≡ Ok a → Change n a other) →
      GivenBack h x n r o → Change n o other
  given_changes h n (Ok a) r o f g = same_change n a o g.1 (f a refl)
  given_changes h n (Err e) r o f g = unchanged g.1

  answered_changes : (n : Model X S) (x : Result (Model X S) Refusal) (r : Result (Unit {0}) Refusal) (o : Model X S) → ((a : Model X S) → x ≡ Ok a → Change n a other) → Answered x n r o → Change n o other
  answered_changes n (Ok a) r o f g = same_change n a o g.1 (f a refl)
  answered_changes n (Err e) r o f g = unchanged g.1

  release_changes : (n : Model X S) (i : ℕ) (x : Option (FullRow X S)) (o : Model X S) → slice_get n.rows i ≡ x → release_row n i x ≡ Ok o → Change n o other
  release_changes n i None o f h = absurd (err_ok _ _ h)
  release_changes n i (Some r) o f h =
      let (may, q) = cond_ok (may_release_lem r.entry.phase) _ _ _ (err_ok _ _) h in
      moves Release i r f (may_move r.entry.phase may) (sym (ok_same (moved_at Release n i) o q))

  release_found : (n : Model X S) (x : Option ℕ) (o : Model X S) → release_place n x ≡ Ok o → Change n o other
  release_found n None o h = absurd (err_ok _ _ h)
  release_found n (Some i) o h = release_changes n i (slice_get n.rows i) o refl h

  -- Bulk and slots.

  bulk_changes : (n : Model X S) (b : Bulk) (x : Option Bulk) (o : Model X S) → n.bulk ≡ x → bulk_bytes_lem n.terms.longest b.bytes ≡ true → bulk_waits n b x ≡ Ok o → Change n o other
  bulk_changes n b None o e fit h = bulk_comes b e fit (sym (ok_same (with_bulk n b) o h))
  bulk_changes n b (Some c) o e fit h = absurd (err_ok _ _ h)

  bulk_outcome_changes : (n : Model X S) (place bytes : ℕ) (o : Model X S) → bulk_outcome n place bytes ≡ Ok o → Change n o other
  bulk_outcome_changes n place bytes o h =
      let (fit, q) = cond_ok (bulk_bytes_lem n.terms.longest bytes) _ _ _ (err_ok _ _) (unless_refused n.terms.shut _ _ _ h) in
      bulk_changes n (record { place = place; bytes = bytes }) n.bulk o refl fit q

  tick_changes : (x : Option Refusal) (n : Model X S) (r : Result (Option Sent) Refusal) (o : Model X S) → Ticked x n r o → Change n o (happening (ticked r))
  tick_changes (Some e) n (Ok s) o (w, g) = absurd (err_ok _ _ (sym w))
  tick_changes (Some e) n (Err e') o (w, g) = unchanged g
  tick_changes None n (Err e) o (a, b, w, g) = absurd (err_ok _ _ w)
  tick_changes None n (Ok s) o (a, b, w, g) = subst (λ (x : Option Sent). Change n o (passes x)) (sym (ok_same s (option_map told a.air) w)) (slot_passes a b g)

  -- Channels granted.

  module _ (shaped : (k : X) (p : ℕ) → 1 ≤ p → p ≤ 255 → limits k p ≡ true → CurveLaws p (numbers k)) where
    decided_changes : (v : Result ℕ Unfit) (n : Model X S) (mat : ℕ) (k : X) (r : Result (Hold × ℕ) Refusal) (o : Model X S) → hold_cause limits n mat k ≡ None →
        Judged numbers limits n.terms.longest (length n.rows) (channels n.rows ++ k ∷ []) v →
        Decided numbers limits steps (decided v) n mat k r o → Change n o (happening (held mat k r))
    decided_changes (Err unfit) n mat k (Ok h) o c j (w, g) = absurd (err_ok _ _ (sym w))
    decided_changes (Err unfit) n mat k (Err e) o c j (w, g) = unchanged g
    decided_changes (Ok count) n mat k (Err e) o c j (i, vacant, w, g) = absurd (err_ok _ _ w)
    decided_changes (Ok count) n mat k (Ok h) o c j (i, vacant, w, g) =
        let exact = judged_exact numbers limits shaped n.terms.longest (length n.rows) (channels n.rows ++ k ∷ []) (Ok count) j in
        counts mat k (record {
          place = i;
          vacant = vacant;
          named = hold_mat limits n mat k c;
          uncounted = hold_new limits n mat k c;
          judged = j.0;
          within = hold_within limits n mat k c;
          passing = (exact.0 refl).1;
          is = g;
        })

    held_changes : (x : Option Refusal) (n : Model X S) (mat : ℕ) (k : X) (r : Result (Hold × ℕ) Refusal) (o : Model X S) → hold_cause limits n mat k ≡ x →
        HeldOr numbers limits steps x n mat k r o → Change n o (happening (held mat k r))
    held_changes (Some e) n mat k (Ok h) o c (w, g) = absurd (err_ok _ _ (sym w))
    held_changes (Some e) n mat k (Err e') o c (w, g) = unchanged g
    held_changes None n mat k r o c (v, j, d) = decided_changes v n mat k r o c j d

    module _ (dated : X → ℕ → X) (m : Model X S) (P : List (Happening X) → Model X S → Type 0) (start : P [] m)
        (step : (hs : List (Happening X)) (n o : Model X S) (h : Happening X) → Change n o h → P hs n → P (h ∷ hs) o) where
      -- what holds at first and is kept by every change holds after every history
      pub along : {cs : List (Call X)} {n : Model X S} → History numbers limits dated steps m cs n → P (happenings cs) n
      along opening = start
      along (hold {cs} {n} {o} mat k r h c) = step _ n o _ (held_changes (hold_cause limits n mat k) n mat k r o refl c) (along h)
      along (confirm {cs} {n} {o} x r h c) = step _ n o _ (given_changes x n (settled Confirm x n) r o (hold_settles Confirm held_confirms x n) c) (along h)
      along (cancel {cs} {n} {o} x r h c) = step _ n o _ (answered_changes n (settled Cancel x n) r o (hold_settles Cancel held_cancels x n) c) (along h)
      along (release {cs} {n} {o} mat r h c) =
          step _ n o _ (answered_changes n (release_outcome n mat) r o (λ a e. release_found n (find (counted_of mat) n) a (else_refused (is_mat_lem mat) _ _ _ (unless_refused n.terms.shut _ _ _ e))) c) (along h)
      along (offer {cs} {n} {o} mat place bytes r h c) = step _ n o _ (offer_changes n mat place bytes (offer_outcome numbers limits steps n mat place bytes) r o refl c) (along h)
      along (bulk {cs} {n} {o} place bytes r h c) = step _ n o _ (answered_changes n (bulk_outcome n place bytes) r o (bulk_outcome_changes n place bytes) c) (along h)
      along (tick {cs} {n} {o} r h c) = step _ n o _ (tick_changes (tick_cause n) n r o c) (along h)
      along (stretch {cs} {n} r h c) = step _ n n other (unchanged refl) (along h)
      along (least {cs} {n} k r h c) = step _ n n other (unchanged refl) (along h)
      along (piece {cs} {n} mats files r h c) = step _ n n other (unchanged refl) (along h)
