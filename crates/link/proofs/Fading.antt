-- Rows that keep their mats, serials and kinds, and of which none begins to count.
use Rattle.std.proofs.Common.{◌≡◌, ℕ, zero, suc, ◌≤◌, Bool, true, false, cond, List, [], ◌∷◌, map, length, Some, sym, refl, ap, ◌∙◌, subst, arith}
use Rattle.std.proofs.lemmas.Bool.{true≢false}
use Rattle.std.specs.List.{slice_get, AllByRecursion}
use Rattle.traffic.specs.Curves.{Numbers}
use Rattle.traffic.specs.declared.Row.{Row}
use Rattle.verdict.specs.Demand.{total, blocking}
use Rattle.verdict.specs.Passes.{Passes}
use Rattle.link.specs.declared.state.Event.{Event}
use Rattle.link.specs.declared.state.Event.TheVariants.{Hold}
use Rattle.link.specs.declared.state.Phase.{Phase}
use Rattle.link.specs.declared.state.Phase.TheVariants.{Free}
use Rattle.link.specs.Model.{FullRow, Model, Terms, channels, on_entry, on_row}
use Rattle.link.specs.Rows.{counts, counted, next, moved, changed}
use Rattle.link.specs.Standing.{Differ, Apart, Numbered, InRange, Standing}

pub fading_phase : (p : Phase) (e : Event) → (e ≡ Hold → ⊥) → counts (next p e) ≡ true → counts p ≡ true
fading_phase Free Hold n h = absurd (n refl)
fading_phase Free e n h = h
fading_phase p e n h = refl

module _ {X S : Type 0} where
  pub record Fade (r q : FullRow X S) : Type 0 where
    pub mat : q.entry.mat ≡ r.entry.mat
    pub serial : q.entry.serial ≡ r.entry.serial
    pub kind : q.row.kind ≡ r.row.kind
    pub counts_less : counted q.entry ≡ true → counted r.entry ≡ true

  abbrev pub Fades : List (FullRow X S) → List (FullRow X S) → Type 0
  Fades [] [] = Unit {0}
  Fades [] (q ∷ qs) = ⊥
  Fades (r ∷ rs) [] = ⊥
  Fades (r ∷ rs) (q ∷ qs) = Fade r q × Fades rs qs

  fade_same : (r : FullRow X S) → Fade r r
  fade_same r = record { mat = refl; serial = refl; kind = refl; counts_less = λ h. h }

  pub fades_same : (rs : List (FullRow X S)) → Fades rs rs
  fades_same [] = tt
  fades_same (r ∷ rs) = (fade_same r, fades_same rs)

  pub fade_moved : (e : Event) → (e ≡ Hold → ⊥) → (r : FullRow X S) → Fade r (on_entry (moved e) r)
  fade_moved e n r = record { mat = refl; serial = refl; kind = refl; counts_less = fading_phase r.entry.phase e n }

  pub fades_changed : (f : FullRow X S → FullRow X S) → ((r : FullRow X S) → Fade r (f r)) → (i : ℕ) (rs : List (FullRow X S)) → Fades rs (changed f i rs)
  fades_changed f h i [] = tt
  fades_changed f h zero (r ∷ rs) = (h r, fades_same rs)
  fades_changed f h (suc i) (r ∷ rs) = (fade_same r, fades_changed f h i rs)

  pub fades_map : (f : FullRow X S → FullRow X S) → ((r : FullRow X S) → Fade r (f r)) → (rs : List (FullRow X S)) → Fades rs (map f rs)
  fades_map f h [] = tt
  fades_map f h (r ∷ rs) = (h r, fades_map f h rs)

  pub fades_stored : (w : Row X S) (i : ℕ) (rs : List (FullRow X S)) (r : FullRow X S) → slice_get rs i ≡ Some r → w.kind ≡ r.row.kind → Fades rs (changed (on_row w) i rs)
  fades_stored w i [] r h k = tt
  fades_stored w zero (q ∷ rs) r h k =
      let is : q ≡ r = cc in
      (record { mat = refl; serial = refl; kind = k ∙ ap (λ (x : FullRow X S). x.row.kind) (sym is); counts_less = λ c. c }, fades_same rs)
  fades_stored w (suc i) (q ∷ rs) r h k = (fade_same q, fades_stored w i rs r h k)

  -- rows that fade stay as many
  length-fades : (rs qs : List (FullRow X S)) → Fades rs qs → length qs ≡ length rs
  length-fades [] [] g = refl
  length-fades (r ∷ rs) (q ∷ qs) g = ap suc (length-fades rs qs g.1)
  length-fades rs qs g = absurd g

  -- a link with the same terms and as many rows is in range too
  pub in_range_same : (m o : Model X S) → o.terms ≡ m.terms → length o.rows ≡ length m.rows → InRange m → InRange o
  in_range_same m o t n h =
      let p : o.terms.longest ≡ m.terms.longest = ap (λ (x : Terms). x.longest) t in
      record { least = omega (arith, p, h.least); most = omega (arith, p, h.most); few = omega (arith, n, h.few) }

  differ_fades : (a b c d : FullRow X S) → Fade a c → Fade b d → Differ a b → Differ c d
  differ_fades a b c d f g h x y =
      let z = h (f.counts_less x) (g.counts_less y) in
      (λ e. z.0 (sym f.mat ∙ e ∙ g.mat), λ e. z.1 (sym f.serial ∙ e ∙ g.serial))

  all_differ_fades : (a c : FullRow X S) (rs qs : List (FullRow X S)) → Fade a c → Fades rs qs → AllByRecursion (Differ a) rs → AllByRecursion (Differ c) qs
  all_differ_fades a c [] [] f g h = tt
  all_differ_fades a c (r ∷ rs) (q ∷ qs) f g h = (differ_fades a r c q f g.0 h.0, all_differ_fades a c rs qs f g.1 h.1)
  all_differ_fades a c rs qs f g h = absurd g

  apart_fades : (rs qs : List (FullRow X S)) → Fades rs qs → Apart rs → Apart qs
  apart_fades [] [] g h = tt
  apart_fades (r ∷ rs) (q ∷ qs) g h = (all_differ_fades r q rs qs g.0 g.1 h.0, apart_fades rs qs g.1 h.1)
  apart_fades rs qs g h = absurd g

  numbered_fades : (n : ℕ) (rs qs : List (FullRow X S)) → Fades rs qs → AllByRecursion (Numbered n) rs → AllByRecursion (Numbered n) qs
  numbered_fades n [] [] g h = tt
  numbered_fades n (r ∷ rs) (q ∷ qs) g h =
      (λ c. subst (λ x. x ≤ n) (sym g.0.serial) (h.0 (g.0.counts_less c)), numbered_fades n rs qs g.1 h.1)
  numbered_fades n rs qs g h = absurd g

module _ {X : Type 0} where
  total-fewer : (f : X → ℕ) (b c : Bool) (k j : X) (xs ys : List X) → (c ≡ true → b ≡ true) → j ≡ k → total f xs ≤ total f ys → total f (cond c (j ∷ xs) xs) ≤ total f (cond b (k ∷ ys) ys)
  total-fewer f true true k j xs ys g e h = let s : f j ≡ f k = ap f e in omega arith
  total-fewer f false true k j xs ys g e h = absurd (true≢false (sym (g refl)))
  total-fewer f true false k j xs ys g e h = omega arith
  total-fewer f false false k j xs ys g e h = h

  all_fewer : (P : X → Type 0) (b c : Bool) (k j : X) (xs ys : List X) → (c ≡ true → b ≡ true) → j ≡ k → (AllByRecursion P ys → AllByRecursion P xs) → AllByRecursion P (cond b (k ∷ ys) ys) → AllByRecursion P (cond c (j ∷ xs) xs)
  all_fewer P true true k j xs ys g e h a = (subst P (sym e) a.0, h a.1)
  all_fewer P false true k j xs ys g e h a = absurd (true≢false (sym (g refl)))
  all_fewer P true false k j xs ys g e h a = h a.1
  all_fewer P false false k j xs ys g e h a = h a

  -- channels that ask for less everywhere pass where those that ask for more do
  pub passes_less : (numbers : X → Numbers) (p : ℕ) (js ks : List X) → ((f : X → ℕ) → total f js ≤ total f ks) → Passes numbers (blocking p) ks → Passes numbers (blocking p) js
  passes_less numbers p js ks less h =
      let w = less (λ k. (numbers k).work) in
      record {
        works_fit = omega (arith, w, h.works_fit);
        demand_fits = λ t some. let c = less (λ k. (numbers k).curve t) in let fit = h.demand_fits t (omega (arith, c, some)) in omega (arith, c, fit);
      }

module _ {X S : Type 0} where
  total-fades : (f : X → ℕ) (rs qs : List (FullRow X S)) → Fades rs qs → total f (channels qs) ≤ total f (channels rs)
  total-fades f [] [] g = omega arith
  total-fades f (r ∷ rs) (q ∷ qs) g =
      total-fewer f (counted r.entry) (counted q.entry) r.row.kind q.row.kind (channels qs) (channels rs) g.0.counts_less g.0.kind (total-fades f rs qs g.1)
  total-fades f rs qs g = absurd g

  all_fades : (P : X → Type 0) (rs qs : List (FullRow X S)) → Fades rs qs → AllByRecursion P (channels rs) → AllByRecursion P (channels qs)
  all_fades P [] [] g a = tt
  all_fades P (r ∷ rs) (q ∷ qs) g a =
      all_fewer P (counted r.entry) (counted q.entry) r.row.kind q.row.kind (channels qs) (channels rs) g.0.counts_less g.0.kind (all_fades P rs qs g.1) a
  all_fades P rs qs g a = absurd g

  -- a link whose rows only fade still stands
  pub standing_fades : (numbers : X → Numbers) (limits : X → ℕ → Bool) (m o : Model X S) → o.terms ≡ m.terms → o.serials ≡ m.serials → Fades m.rows o.rows → Standing numbers limits m → Standing numbers limits o
  standing_fades numbers limits m o t s f h =
      record {
        in_range = λ unshut. in_range_same m o t (length-fades m.rows o.rows f) (h.in_range (ap (λ (x : Terms). x.shut) (sym t) ∙ unshut));
        apart = apart_fades m.rows o.rows f h.apart;
        numbered = subst (λ n. AllByRecursion (Numbered n) o.rows) (sym s) (numbered_fades m.serials m.rows o.rows f h.numbered);
        within = subst (λ (x : Terms). AllByRecursion (λ k. limits k x.longest ≡ true) (channels o.rows)) (sym t) (all_fades (λ k. limits k m.terms.longest ≡ true) m.rows o.rows f h.within);
        passing = subst (λ (x : Terms). Passes numbers (blocking x.longest) (channels o.rows)) (sym t) (passes_less numbers m.terms.longest (channels o.rows) (channels m.rows) (λ g. total-fades g m.rows o.rows f) h.passing);
      }
