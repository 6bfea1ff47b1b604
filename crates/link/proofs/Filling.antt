-- A free row that is filled.
use Rattle.std.proofs.Common.{◌≡◌, ℕ, zero, suc, ◌+◌, Bool, true, false, cond, eqb, List, [], ◌∷◌, ◌++◌, set, Some, sym, refl, ap, ◌∙◌, subst, arith, length-set, eq-eqb}
use Rattle.std.proofs.lemmas.Bool.{true≢false, and_from}
use Rattle.std.specs.List.{slice_get, AllByRecursion}
use Rattle.traffic.specs.Curves.{Numbers}
use Rattle.traffic.specs.declared.Row.{Row}
use Rattle.verdict.specs.Demand.{total, blocking}
use Rattle.verdict.specs.Passes.{Passes}
use Rattle.verdict.proofs.Totals.{total-push}
use Rattle.link.specs.declared.state.Phase.{Phase}
use Rattle.link.specs.declared.state.Phase.TheVariants.{Free, Held}
use Rattle.link.specs.Model.{FullRow, Model, channels}
use Rattle.link.specs.Rows.{counts, counted, counted_of}
use Rattle.link.specs.Standing.{Differ, Apart, Numbered, Standing}
use Rattle.link.specs.Holding.{Vacant, filled}
use Rattle.link.proofs.Places.{all_set}
use Rattle.link.proofs.Fading.{in_range_same, passes_less}

module _ {X : Type 0} where
  total-cond : (f : X → ℕ) (b : Bool) (x k : X) (xs ys : List X) → total f ys ≡ f k + total f xs → total f (cond b (x ∷ ys) ys) ≡ f k + total f (cond b (x ∷ xs) xs)
  total-cond f true x k xs ys h = omega arith
  total-cond f false x k xs ys h = h

  all_cond : (P : X → Type 0) (b : Bool) (x : X) (xs ys : List X) → (AllByRecursion P xs → AllByRecursion P ys) → AllByRecursion P (cond b (x ∷ xs) xs) → AllByRecursion P (cond b (x ∷ ys) ys)
  all_cond P true x xs ys h a = (a.0, h a.1)
  all_cond P false x xs ys h a = h a

module _ {X S : Type 0} where
  differ_sym : (a b : FullRow X S) → Differ a b → Differ b a
  differ_sym a b h x y = let z = h y x in (λ e. z.0 (sym e), λ e. z.1 (sym e))

  apart_set : (rs : List (FullRow X S)) (i : ℕ) (q : FullRow X S) → AllByRecursion (Differ q) rs → Apart rs → Apart (set rs i q)
  apart_set [] i q d h = tt
  apart_set (r ∷ rs) zero q d h = (d.1, h.1)
  apart_set (r ∷ rs) (suc i) q d h = (all_set (Differ r) rs i q (differ_sym q r d.0) h.0, apart_set rs i q d.1 h.1)

  module _ (q : FullRow X S) (held : q.entry.phase ≡ Held) where
    -- the channels of the filled table are the counted ones and the new one
    total-filled : (f : X → ℕ) (rs : List (FullRow X S)) (i : ℕ) (r : FullRow X S) → slice_get rs i ≡ Some r → r.entry.phase ≡ Free →
        total f (channels (set rs i q)) ≡ f q.row.kind + total f (channels rs)
    total-filled f [] i r h e = cc
    total-filled f (x ∷ rs) zero r h e =
        let is : x ≡ r = cc in
        let free : x.entry.phase ≡ Free = ap (λ (y : FullRow X S). y.entry.phase) is ∙ e in
        rw (held, free)
    total-filled f (x ∷ rs) (suc i) r h e =
        total-cond f (counted x.entry) x.row.kind q.row.kind (channels rs) (channels (set rs i q)) (total-filled f rs i r h e)

    all_filled : (P : X → Type 0) (rs : List (FullRow X S)) (i : ℕ) (r : FullRow X S) → slice_get rs i ≡ Some r → r.entry.phase ≡ Free →
        P q.row.kind → AllByRecursion P (channels rs) → AllByRecursion P (channels (set rs i q))
    all_filled P [] i r h e p a = cc
    all_filled P (x ∷ rs) zero r h e p a =
        let is : x ≡ r = cc in
        let free : x.entry.phase ≡ Free = ap (λ (y : FullRow X S). y.entry.phase) is ∙ e in
        let rest : AllByRecursion P (channels rs) = subst (λ (y : Phase). AllByRecursion P (cond (counts y) (x.row.kind ∷ channels rs) (channels rs))) free a in
        subst (λ (y : Phase). AllByRecursion P (cond (counts y) (q.row.kind ∷ channels rs) (channels rs))) (sym held) (p, rest)
    all_filled P (x ∷ rs) (suc i) r h e p a =
        all_cond P (counted x.entry) x.row.kind (channels rs) (channels (set rs i q)) (all_filled P rs i r h e p) a

  new_differs : (mat n : ℕ) (q r : FullRow X S) → q.entry.mat ≡ mat → q.entry.serial ≡ n + 1 → counted_of mat r.entry ≡ false → Numbered n r → Differ q r
  new_differs mat n q r m s h b x y = (
    (λ e. true≢false (sym (and_from (eqb r.entry.mat mat) (counts r.entry.phase) (eq-eqb r.entry.mat mat (sym e ∙ m)) y) ∙ h)),
    (λ e. let l = b y in absurd (omega arith)),
  )

  all_differ : (mat n : ℕ) (q : FullRow X S) (rs : List (FullRow X S)) → q.entry.mat ≡ mat → q.entry.serial ≡ n + 1 →
      AllByRecursion (λ (r : FullRow X S). counted_of mat r.entry ≡ false) rs → AllByRecursion (Numbered n) rs → AllByRecursion (Differ q) rs
  all_differ mat n q [] m s h b = tt
  all_differ mat n q (r ∷ rs) m s h b = (new_differs mat n q r m s h.0 b.0, all_differ mat n q rs m s h.1 b.1)

  numbered_more : (n : ℕ) (rs : List (FullRow X S)) → AllByRecursion (Numbered n) rs → AllByRecursion (Numbered (n + 1)) rs
  numbered_more n [] h = tt
  numbered_more n (r ∷ rs) h = (λ c. let l = h.0 c in omega arith, numbered_more n rs h.1)

  -- a granted hold leaves the link standing
  pub standing_filled : (numbers : X → Numbers) (limits : X → ℕ → Bool) (m : Model X S) (i mat : ℕ) (w : Row X S) → Vacant m i →
      AllByRecursion (λ (r : FullRow X S). counted_of mat r.entry ≡ false) m.rows → limits w.kind m.terms.longest ≡ true →
      Passes numbers (blocking m.terms.longest) (channels m.rows ++ w.kind ∷ []) → Standing numbers limits m → Standing numbers limits (filled m i mat w)
  standing_filled numbers limits m i mat w (r, at, free) new lim pass h =
      let q : FullRow X S = record { entry = record { mat = mat; serial = m.serials + 1; phase = Held }; row = w } in
      record {
        in_range = λ unshut. in_range_same m (filled m i mat w) refl (length-set m.rows i q) (h.in_range unshut);
        apart = apart_set m.rows i q (all_differ mat m.serials q m.rows refl refl new h.numbered) h.apart;
        numbered = all_set (Numbered (m.serials + 1)) m.rows i q (λ c. omega arith) (numbered_more m.serials m.rows h.numbered);
        within = all_filled q refl (λ k. limits k m.terms.longest ≡ true) m.rows i r at free lim h.within;
        passing = passes_less numbers m.terms.longest (channels (set m.rows i q)) (channels m.rows ++ w.kind ∷ [])
            (λ f. let a = total-filled q refl f m.rows i r at free in let b = total-push f (channels m.rows) w.kind in omega arith) pass;
      }
