-- A link stands at its opening, and every change leaves it standing.
use Rattle.std.proofs.Common.{◌≡◌, ℕ, Bool, true, false, leb, List, [], ◌∷◌, map, take, Some, None, Option, sym, refl, subst, inl, inr, arith}
use Rattle.std.proofs.lemmas.Bool.{and_parts, not-false, leb-true}
use Rattle.std.proofs.lemmas.List.{length-map, length-take}
use Rattle.std.specs.List.{AllByRecursion}
use Rattle.traffic.specs.Arrivals.{Steps}
use Rattle.traffic.specs.Curves.{Numbers}
use Rattle.traffic.specs.declared.Row.{Row}
use Rattle.verdict.specs.Demand.{blocking}
use Rattle.verdict.specs.Passes.{Passes}
use Rattle.link.specs.declared.state.Air.{Air}
use Rattle.link.specs.declared.state.Event.{Event}
use Rattle.link.specs.declared.state.Event.TheVariants.{Hold, Quiet}
use Rattle.link.specs.declared.state.Phase.{Phase}
use Rattle.link.specs.Happenings.{Happening}
use Rattle.link.specs.Model.{FullRow, Model, opened, channels, with_rows, on_entry, on_row}
use Rattle.link.specs.Rows.{blank, moved, changed}
use Rattle.link.specs.Sending.{queued, with_bulk}
use Rattle.link.specs.Settling.{moved_at}
use Rattle.link.specs.Ticking.{Begins, quiet, going, passed}
use Rattle.link.specs.Holding.{filled}
use Rattle.link.specs.Standing.{Apart, Numbered, Differ, InRange, Standing}
use Rattle.link.proofs.Changes.{Moves, confirms, cancels, frees, leaves, Change, unchanged, counts, moves, takes, bulk_comes, slot_passes}
use Rattle.link.proofs.Fading.{Fades, fades_same, fade_moved, fades_changed, fades_map, fades_stored, standing_fades}
use Rattle.link.proofs.Filling.{standing_filled}

no_hold : (e : Event) (p : Phase) → Moves e p → e ≡ Hold → ⊥
no_hold e p confirms h = cc
no_hold e p cancels h = cc
no_hold e p frees h = cc
no_hold e p leaves h = cc

module _ {X S : Type 0} (numbers : X → Numbers) (limits : X → ℕ → Bool) where
  -- what a change that only moves rows leaves: the same terms and serials, and rows that fade
  abbrev Milder : Model X S → Model X S → Type 0
  Milder m o = (o.terms ≡ m.terms) × (o.serials ≡ m.serials) × Fades m.rows o.rows

  milder : (m o : Model X S) → Milder m o → Standing numbers limits m → Standing numbers limits o
  milder m o h s = standing_fades numbers limits m o h.0 h.1 h.2 s

  same : (m o : Model X S) → o ≡ m → Standing numbers limits m → Standing numbers limits o
  same m o e s = subst (λ (x : Model X S). Standing numbers limits x) (sym e) s

  begins_stands : (a : Option Air) (m n : Model X S) → Begins a m n → Standing numbers limits m → Standing numbers limits n
  begins_stands (Some a) m n b s = same m n b s
  begins_stands None m n (inl b) s =
      same (quiet m) n b.1 (milder m (quiet m) (refl, refl, fades_map (on_entry (moved Quiet)) (fade_moved Quiet (λ e. cc)) m.rows) s)
  begins_stands None m n (inr (p, f, sh, e)) s =
      same (going m p n.waiting) n e (milder m (going m p n.waiting) (refl, refl, fades_same m.rows) s)

  pub standing_change : (steps : X → Steps S) (n o : Model X S) (h : Happening X) → Change numbers limits steps n o h → Standing numbers limits n → Standing numbers limits o
  standing_change steps n o h (unchanged e) s = same n o e s
  standing_change steps n o h (counts mat k g) s =
      let w : Row X S = record { kind = k; state = (steps k).fresh } in
      same (filled n g.place mat w) o g.is (standing_filled numbers limits n g.place mat w g.vacant g.uncounted g.within g.passing s)
  standing_change steps n o h (moves e i r at mv is) s =
      same (moved_at e n i) o is (milder n (moved_at e n i) (refl, refl, fades_changed (on_entry (moved e)) (fade_moved e (no_hold e r.entry.phase mv)) i n.rows) s)
  standing_change steps n o h (takes mat a) s =
      let w : Row X S = record { kind = a.row.row.kind; state = a.after } in
      let b : Model X S = with_rows (queued n o.waiting) (changed (on_row w) a.place n.rows) in
      same b o a.is (milder n b (refl, refl, fades_stored w a.place n.rows a.row a.found refl) s)
  standing_change steps n o h (bulk_comes b none fit is) s = same (with_bulk n b) o is (milder n (with_bulk n b) (refl, refl, fades_same n.rows) s)
  standing_change steps n o h (slot_passes a b is) s =
      same (passed a) o is (milder a (passed a) (refl, refl, fades_same a.rows) (begins_stands n.air n a b s))

  differs : (v : Row X S) (ws : List (Row X S)) → AllByRecursion (Differ (record { entry = blank; row = v })) (map (λ w. record { entry = blank; row = w }) ws)
  differs v [] = tt
  differs v (w ∷ ws) = (λ a b. cc, differs v ws)

  apart_blank : (ws : List (Row X S)) → Apart (map (λ w. record { entry = blank; row = w }) ws)
  apart_blank [] = tt
  apart_blank (w ∷ ws) = (differs w ws, apart_blank ws)

  numbered_blank : (ws : List (Row X S)) → AllByRecursion (Numbered 0) (map (λ w. record { entry = blank; row = w }) ws)
  numbered_blank [] = tt
  numbered_blank (w ∷ ws) = (λ c. cc, numbered_blank ws)

  channels_blank : (ws : List (Row X S)) → channels (map (λ w. record { entry = blank; row = w }) ws) ≡ []
  channels_blank [] = refl
  channels_blank (w ∷ ws) = channels_blank ws

  -- a link that is not shut is in range at its opening
  in_range_opened : (name longest : ℕ) (rows : List (Row X S)) (places : ℕ) → (opened name longest rows places).terms.shut ≡ false → InRange (opened name longest rows places)
  in_range_opened name longest rows places unshut =
      let a = and_parts (leb 1 longest) _ (not-false _ unshut) in
      let b = and_parts (leb longest 255) _ a.1 in
      record {
        least = leb-true 1 longest a.0;
        most = leb-true longest 255 b.0;
        few = omega (arith, length-map {B = FullRow X S} (take 32 rows) (λ w. record { entry = blank; row = w }), length-take 32 rows);
      }

  -- a link stands at its opening
  pub opened_stands : (name longest : ℕ) (rows : List (Row X S)) (places : ℕ) → Standing numbers limits (opened name longest rows places)
  opened_stands name longest rows places =
      let none = channels_blank (take 32 rows) in
      record {
        in_range = in_range_opened name longest rows places;
        apart = apart_blank (take 32 rows);
        numbered = numbered_blank (take 32 rows);
        within = subst (λ (ks : List X). AllByRecursion (λ k. limits k longest ≡ true) ks) (sym none) tt;
        passing = subst (λ (ks : List X). Passes numbers (blocking longest) ks) (sym none) (record { works_fit = omega arith; demand_fits = λ t h. absurd (omega arith) });
      }
