-- Records beside rows: what changes one list changes the joined one.
use Rattle.std.proofs.Common.{◌≡◌, ℕ, zero, suc, ◌+◌, ◌<◌, ◌≤◌, Bool, true, false, cond, not, List, [], ◌∷◌, map, length, get_or, take, set, replicate, IfSome, Some, None, Option, sym, refl, ap, ◌∙◌, le_of_suc-le-suc, not-suc-le-zero, length-set}
use Rattle.std.specs.List.{slice_get, position}
use Rattle.std.specs.Option.{option_map}
use Rattle.traffic.specs.declared.Curve.{Ghosts as CurveGhosts}
use Rattle.traffic.specs.declared.Traffic.{Ghosts as TrafficGhosts}
use Rattle.traffic.specs.declared.Row.{Row}
use Rattle.pool.specs.Contents.{capacity}
use Rattle.verdict.specs.Members.{marked, present}
use Rattle.link.specs.declared.state.Link.{Link}
use Rattle.link.specs.declared.state.Packet.{Packet}
use Rattle.link.specs.declared.state.Phase.{Phase}
use Rattle.link.specs.declared.state.Phase.TheVariants.{Free, Held}
use Rattle.link.specs.declared.state.Record.{Record}
use Rattle.link.specs.Rows.{blank, counts, counted, is_free, changed}
use Rattle.link.specs.Holding.{filled}
use Rattle.link.proofs.Firsts.{position-cons, first_passes}
use Rattle.link.specs.Model.{FullRow, joined, channels, on_entry, on_row, terms_of, opened, Model, model, with_rows}

uncounted : (p : Phase) → not (counts p) ≡ true → p ≡ Free
uncounted Free h = refl
uncounted p h = cc

module _ {X : Type 0} where
  present_cond : (b : Bool) (k : X) (os : List (Option X)) → present (cond b (Some k) None ∷ os) ≡ cond b (k ∷ present os) (present os)
  present_cond true k os = refl
  present_cond false k os = refl

module _ {X S : Type 0} where
  abbrev full : Record → Row X S → FullRow X S
  full e w = record { entry = e; row = w }

  pub joined_blank : (n : ℕ) (ws : List (Row X S)) → joined (replicate n blank) ws ≡ map (full blank) (take n ws)
  joined_blank zero ws = refl
  joined_blank (suc n) [] = refl
  joined_blank (suc n) (w ∷ ws) = ap (λ rs. full blank w ∷ rs) (joined_blank n ws)

  pub joined_length : (es : List Record) (ws : List (Row X S)) → length ws ≤ length es → length (joined es ws) ≡ length ws
  joined_length [] [] l = refl
  joined_length [] (w ∷ ws) l = absurd (not-suc-le-zero l)
  joined_length (e ∷ es) [] l = refl
  joined_length (e ∷ es) (w ∷ ws) l = ap suc (joined_length es ws (le_of_suc-le-suc l))

  pub joined_first : (P : Record → Bool) (es : List Record) (ws : List (Row X S)) → position (λ r. P r.entry) (joined es ws) ≡ position P (take (length ws) es)
  joined_first P [] [] = refl
  joined_first P [] (w ∷ ws) = refl
  joined_first P (e ∷ es) [] = refl
  joined_first P (e ∷ es) (w ∷ ws) =
      position-cons (λ (r : FullRow X S). P r.entry) (full e w) (joined es ws)
      ∙ ap (λ o. cond (P e) (Some 0) (option_map suc o)) (joined_first P es ws)
      ∙ sym (position-cons P e (take (length ws) es))

  pub joined_nth : (es : List Record) (ws : List (Row X S)) (i : ℕ) (w : Row X S) (d : Record) → i < length es → slice_get ws i ≡ Some w → slice_get (joined es ws) i ≡ Some (full (get_or es i d) w)
  joined_nth [] ws i w d l h = absurd (not-suc-le-zero l)
  joined_nth (e ∷ es) [] i w d l h = cc
  joined_nth (e ∷ es) (v ∷ ws) zero w d l h = let is : v ≡ w = cc in rw is
  joined_nth (e ∷ es) (v ∷ ws) (suc i) w d l h = joined_nth es ws i w d (le_of_suc-le-suc l) h

  pub joined_changed : (f : Record → Record) (es : List Record) (ws : List (Row X S)) (i : ℕ) → joined (changed f i es) ws ≡ changed (on_entry f) i (joined es ws)
  joined_changed f [] ws i = refl
  joined_changed f (e ∷ es) [] zero = refl
  joined_changed f (e ∷ es) [] (suc i) = refl
  joined_changed f (e ∷ es) (w ∷ ws) zero = refl
  joined_changed f (e ∷ es) (w ∷ ws) (suc i) = ap (λ rs. full e w ∷ rs) (joined_changed f es ws i)

  pub joined_set : (es : List Record) (ws : List (Row X S)) (i : ℕ) (e : Record) (w : Row X S) → joined (set es i e) (set ws i w) ≡ set (joined es ws) i (full e w)
  joined_set [] ws i e w = refl
  joined_set (x ∷ es) [] zero e w = refl
  joined_set (x ∷ es) [] (suc i) e w = refl
  joined_set (x ∷ es) (v ∷ ws) zero e w = refl
  joined_set (x ∷ es) (v ∷ ws) (suc i) e w = ap (λ rs. full x v ∷ rs) (joined_set es ws i e w)

  pub joined_set_row : (es : List Record) (ws : List (Row X S)) (i : ℕ) (w : Row X S) → joined es (set ws i w) ≡ changed (on_row w) i (joined es ws)
  joined_set_row [] ws i w = refl
  joined_set_row (x ∷ es) [] zero w = refl
  joined_set_row (x ∷ es) [] (suc i) w = refl
  joined_set_row (x ∷ es) (v ∷ ws) zero w = refl
  joined_set_row (x ∷ es) (v ∷ ws) (suc i) w = ap (λ rs. full x v ∷ rs) (joined_set_row es ws i w)

  pub joined_map : (f : Record → Record) (es : List Record) (ws : List (Row X S)) → joined (map f es) ws ≡ map (on_entry f) (joined es ws)
  joined_map f [] ws = refl
  joined_map f (e ∷ es) [] = refl
  joined_map f (e ∷ es) (w ∷ ws) = ap (λ rs. full (f e) w ∷ rs) (joined_map f es ws)

  present_none : (ws : List (Row X S)) → present (marked ws []) ≡ []
  present_none [] = refl
  present_none (w ∷ ws) = present_none ws

  -- the verdict's members in the rows are the counted channels
  pub joined_channels : (es : List Record) (ws : List (Row X S)) → present (marked ws (map counted es)) ≡ channels (joined es ws)
  joined_channels [] ws = present_none ws
  joined_channels (e ∷ es) [] = refl
  joined_channels (e ∷ es) (w ∷ ws) =
      present_cond (counted e) w.kind (marked ws (map counted es))
      ∙ ap (λ ks. cond (counted e) (w.kind ∷ ks) ks) (joined_channels es ws)

  -- an opened link
  pub opened_model : (name longest cap places : ℕ) (rows : List (Row X S)) (rs : List (FullRow X S)) (ps : List Packet) →
      cap ≡ places → rs ≡ map (full blank) (take 32 rows) → ps ≡ [] →
      record { terms = terms_of name longest (length rows) cap; clock = 0; serials = 0; offers = 0; rows = rs; waiting = ps; bulk = None; air = None; last = None } ≡ opened name longest rows places
  opened_model name longest cap places rows rs ps p q r = rw (p, q, r)

  -- the model of a link that has so many lent rows, and these rows
  abbrev pub placed : {t : TrafficGhosts X S} {c : CurveGhosts X} → Link X S t c → ℕ → List (FullRow X S) → Model X S
  placed l n rs = record (model l) { terms = terms_of l.name l.longest n (capacity l.waiting); rows = rs }

  abbrev with_serial : Model X S → ℕ → Model X S
  with_serial m n = record m { serials = n }

  pub stored_model : {t : TrafficGhosts X S} {c : CurveGhosts X} (l : Link X S t c) (i : ℕ) (w : Row X S) →
      placed l (length (set l.rows.now i w)) (joined l.table.records (set l.rows.now i w))
      ≡ with_rows (model l) (changed (on_row w) i (joined l.table.records l.rows.now))
  stored_model l i w =
      let es = l.table.records in
      let ws = l.rows.now in
      ap (λ n. placed l n (joined es (set ws i w))) (length-set ws i w) ∙ ap (λ rs. placed l (length ws) rs) (joined_set_row es ws i w)

  -- also by marks of the counted rows
  pub marked_channels : (es : List Record) (ws : List (Row X S)) (bs : List Bool) → bs ≡ map counted es → present (marked ws bs) ≡ channels (joined es ws)
  marked_channels es ws bs e = ap (λ cs. present (marked ws cs)) e ∙ joined_channels es ws

  -- a row that a search found free is free, in the model and in the table
  pub vacant_row : (es : List Record) (ws : List (Row X S)) (i : ℕ) → position (λ r. is_free r.entry) (joined es ws) ≡ Some i →
      (r : FullRow X S) × (slice_get (joined es ws) i ≡ Some r) × (r.entry.phase ≡ Free)
  vacant_row es ws i h =
      let y = first_passes (λ r. is_free r.entry) (joined es ws) i h in
      (y.0, y.1, uncounted y.0.entry.phase y.2)

  pub joined_entry : (es : List Record) (ws : List (Row X S)) (i : ℕ) (r : FullRow X S) (d : Record) → slice_get (joined es ws) i ≡ Some r → r.entry ≡ get_or es i d
  joined_entry [] ws i r d h = cc
  joined_entry (e ∷ es) [] i r d h = cc
  joined_entry (e ∷ es) (w ∷ ws) zero r d h = let is : full e w ≡ r = cc in ap (λ (q : FullRow X S). q.entry) (sym is)
  joined_entry (e ∷ es) (w ∷ ws) (suc i) r d h = joined_entry es ws i r d h

  pub vacant_found : (es : List Record) (ws : List (Row X S)) (o : Option ℕ) → o ≡ position (λ r. is_free r.entry) (joined es ws) →
      IfSome o (λ i. (r : FullRow X S) × (slice_get (joined es ws) i ≡ Some r) × (r.entry.phase ≡ Free))
  vacant_found es ws None h = tt
  vacant_found es ws (Some i) h = vacant_row es ws i (sym h)

  pub vacant_entry : (es : List Record) (ws : List (Row X S)) (o : Option ℕ) → o ≡ position (λ r. is_free r.entry) (joined es ws) →
      IfSome o (λ i. (get_or es i blank).phase ≡ Free)
  vacant_entry es ws None h = tt
  vacant_entry es ws (Some i) h =
      let v = vacant_row es ws i (sym h) in
      ap (λ (e : Record). e.phase) (sym (joined_entry es ws i v.0 blank v.1)) ∙ v.2

  pub filled_model : {t : TrafficGhosts X S} {c : CurveGhosts X} (l : Link X S t c) (i mat : ℕ) (w : Row X S) (es : List Record) →
      es ≡ set l.table.records i (record { mat = mat; serial = l.serials + 1; phase = Held }) →
      with_serial (placed l (length (set l.rows.now i w)) (joined es (set l.rows.now i w))) (l.serials + 1)
      ≡ filled (model l) i mat w
  filled_model l i mat w es e =
      let ws = l.rows.now in
      ap (λ n. with_serial (placed l n (joined es (set ws i w))) (l.serials + 1)) (length-set ws i w)
      ∙ ap (λ (zs : List Record). with_serial (placed l (length ws) (joined zs (set ws i w))) (l.serials + 1)) e
      ∙ ap (λ rs. with_serial (placed l (length ws) rs) (l.serials + 1)) (joined_set l.table.records ws i _ w)
