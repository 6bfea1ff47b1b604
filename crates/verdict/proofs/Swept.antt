-- A sweep over the rows of a table, as a walk over the points of the sum of their curves.
use Rattle.std.proofs.Common.{◌≡◌, ℕ, ◌+◌, ◌-◌, ◌*◌, ◌<◌, ◌≤◌, Bool, true, false, List, [], ◌∷◌, ◌++◌, length, get_or, Some, None, Ok, Err, Option, sym, ap, ◌∙◌, subst, ⊎_elim, arith, below_more}
use Rattle.std.specs.Option.{option_to_list}
use Rattle.std.specs.List.{AllByRecursion}
use Rattle.std.specs.List.Sorted.{IsPermutation}
use Rattle.std.proofs.ByRecursion.{All-from_get_or, All-weaker}
use Rattle.std.proofs.lemmas.Bool.{cases_lt}
use Rattle.std.proofs.lemmas.Bool.Decides.{nat_tests}
use Rattle.pool.specs.Elements.{First, head}
use Rattle.traffic.specs.Curves.{Numbers, before, Rises, NextRise}
use Rattle.traffic.specs.Laws.{CurveLaws}
use Rattle.traffic.specs.Staircase.{before_later}
use Rattle.verdict.specs.Demand.{total, curves}
use Rattle.verdict.specs.Judged.{Judgeable}
use Rattle.verdict.specs.Members.{members, places, size}
use Rattle.verdict.specs.Points.{Fits, rises, Walked, point_before}
use Rattle.verdict.specs.Sweeps.{upto, row_curve, Pending, Sweep, NextPoint, left}
use Rattle.verdict.specs.declared.Unfit.TheVariants.{Late}
use Rattle.verdict.specs.declared.channels.Channels.{Channels}
use Rattle.verdict.specs.declared.points.Point.{Point}
use Rattle.verdict.proofs.Rowwise.{row_laws, row_up, row_most, rows_sum}
use Rattle.verdict.proofs.Totals.{nothing_at_zero, places_few}
use Rattle.verdict.proofs.Sweeping.{level_until, sum_is, sum_most, rises_there, sweep_shuffled, sweep_from, pass_on, pass_done, rises_flat, total-shuffled}
use Rattle.verdict.proofs.Counts.{rises_up}

-- all rises of F up to t are counted and fit under β, and t is before the end
pub record Upto (F : ℕ → ℕ) (end : ℕ) (β : ℕ → ℕ) (t count : ℕ) : Type 0 where
  pub inside : t < end
  pub few : count ≤ t
  pub counted : count ≡ rises F (t + 1)
  pub fit : (u : ℕ) → u < t + 1 → Rises F u → Fits β F u

-- the walk is past some t: the points up to it are taken, and the sweep stands behind it
pub record Past (rc : ℕ → ℕ → ℕ) (n : ℕ) (F : ℕ → ℕ) (end : ℕ) (β : ℕ → ℕ) (ps : List Point) (sum count : ℕ) : Type 0 where
  pub t : ℕ
  pub far : Upto F end β t count
  pub swept : Sweep rc n (t + 1) (t + 1) end ps sum

-- the first point is the earliest
pub earliest : (p : Point) (ps : List Point) → First point_before p ps → AllByRecursion (λ q. p.t ≤ q.t) ps
earliest p ps first = All-from_get_or (λ q. p.t ≤ q.t) ps p (λ i inside. not_before (get_or ps i p) (first i p inside))
  where
    not_before : (q : Point) → point_before q p ≡ false → p.t ≤ q.t
    not_before q e = grind (arith, nat_tests)

pub head_is : {X : Type 0} (xs : List X) (x : X) → head xs ≡ Some x → (rest : List X) × (xs ≡ x ∷ rest)
head_is [] x e = let z : ◌≡◌ {A = ℕ} 0 1 = cc in absurd (omega arith)
head_is (y ∷ xs) x e = let same : y ≡ x = cc in (xs, ap (λ z. z ∷ xs) same)

module _ (rc : ℕ → ℕ → ℕ) (up : (i t u : ℕ) → t ≤ u → rc i t ≤ rc i u) (n end : ℕ) where
  -- no row rises at t any more
  pub advanced_none : {t sum : ℕ} (p : Point) (ps : List Point) → (p.t ≡ t → ⊥) → t ≤ p.t → First point_before p ps → Sweep rc n t (t + 1) end ps sum → Sweep rc n (t + 1) (t + 1) end ps sum
  advanced_none {t} p ps other not_before first s =
      sweep_from rc up n end {low = t} {from = t + 1} (omega arith) (All-weaker (λ q. p.t ≤ q.t) (λ q. t + 1 ≤ q.t) (λ q h. omega arith) ps (earliest p ps first)) s

  -- one row is past its rise
  pub advanced_one : {t sum after : ℕ} (p : Point) (rest ps qs : List Point) (next : Option Point) → p.t ≡ t → IsPermutation ps (p ∷ rest) → IsPermutation (option_to_list next ++ rest) qs → NextPoint (rc p.row) p.row t (rc p.row t) end next → after + p.level ≡ sum + rc p.row t → Sweep rc n t (t + 1) end ps sum → Sweep rc n t (t + 1) end qs after × (left end qs < left end ps)
  advanced_one {t} {sum} {after} p rest ps qs next at taken put point add s = cases next put point
    where
      swept : Sweep rc n t (p.t + 1) end (p ∷ rest) sum
      swept = subst (λ u. Sweep rc n t (u + 1) end (p ∷ rest) sum) (sym at) (sweep_shuffled rc up n end taken s)

      grown : after + p.level ≡ sum + rc p.row p.t
      grown = add ∙ ap (λ u. sum + rc p.row u) (sym at)

      less : left end ps ≡ end - p.t + left end rest
      less = sym (total-shuffled (λ q. end - q.t) ps (p ∷ rest) taken)

      cases : (o : Option Point) → IsPermutation (option_to_list o ++ rest) qs → NextPoint (rc p.row) p.row t (rc p.row t) end o → Sweep rc n t (t + 1) end qs after × (left end qs < left end ps)
      cases None put none =
          let inside = swept.pending.0.below in
          let done = pass_done rc up n end p rest after swept grown inside (λ v more. none v (omega arith)) in (
            sweep_shuffled rc up n end put (subst (λ u. Sweep rc n t (u + 1) end rest after) at done),
            omega (arith, less, total-shuffled (λ q. end - q.t) rest qs put),
          )
      cases (Some q) put (same, is, inside, rise) =
          let on = pass_on rc up n end p rest after swept grown q same (is ∙ ap (rc p.row) (sym at)) inside (subst (λ u. NextRise (rc p.row) u (Some q.t)) (sym at) rise) in (
            sweep_shuffled rc up n end put (subst (λ u. Sweep rc n t (u + 1) end (q ∷ rest) after) at on),
            omega (arith, less, rise.0, total-shuffled (λ x. end - x.t) (q ∷ rest) qs put),
          )

  module _ (F : ℕ → ℕ) (same : (v : ℕ) → total (λ i. rc i v) (upto n) ≡ F v) where
    -- between two points nothing rises
    flat_between : (t : ℕ) {low sum : ℕ} {ps : List Point} → low ≤ end → Sweep rc n low (t + 1) end ps sum → (v : ℕ) → t + 1 ≤ v → v < low → Rises F v → ⊥
    flat_between t {low} inside s v more less up' =
        omega (arith, before_later F v (omega arith), level_until rc up n end s v (omega arith) less (omega arith), level_until rc up n end s (v - 1) (omega arith) (omega arith) (omega arith), same v, same (v - 1), same t)

    module _ {β : ℕ → ℕ} {t count sum : ℕ} {ps : List Point} (far : Upto F end β t count) (s : Sweep rc n (t + 1) (t + 1) end ps sum) where
      -- nothing is left: all points below the end were taken
      pub all_taken : ps ≡ [] → Walked β F end (Ok count)
      all_taken none =
          let empty = subst (λ qs. Sweep rc n (t + 1) (t + 1) end qs sum) none s in
          let ended = sweep_from rc up n end {low = t + 1} {low' = end} {from = t + 1} {from' = t + 1} (omega arith) tt empty in
          let inside = far.inside in
          let flat = flat_between t (omega arith) ended in
          let e : t + 1 + (end - (t + 1)) ≡ end = omega arith in
          let level = rises_flat F (t + 1) (end - (t + 1)) (λ v more less. flat v more (omega arith)) in
          record {
            fit = λ u below up'. fits u below up' flat;
            counted = far.counted ∙ sym level ∙ ap (rises F) e;
          }
        where
          fits : (u : ℕ) → u < end → Rises F u → ((v : ℕ) → t + 1 ≤ v → v < end → Rises F v → ⊥) → Fits β F u
          fits u below up' flat = ⊎_elim (λ lt. far.fit u lt up') (λ le. absurd (flat u le below up')) (cases_lt u (t + 1))

      module _ (p : Point) (rest : List Point) (is : ps ≡ p ∷ rest) (first : First point_before p ps) where
        there : Sweep rc n (t + 1) (t + 1) end (p ∷ rest) sum
        there = subst (λ qs. Sweep rc n (t + 1) (t + 1) end qs sum) is s

        soonest : AllByRecursion (λ q. p.t ≤ q.t) (p ∷ rest)
        soonest = subst (AllByRecursion (λ q. p.t ≤ q.t)) is (earliest p ps first)

        -- the next point comes after t, and the rows that rise there are to be moved on
        pub point_after_lem : t < p.t
        point_after_lem = omega (arith, there.pending.0.not_before)

        pub point_inside : p.t < end
        point_inside = there.pending.0.below

        pub enter : Sweep rc n p.t (p.t + 1) end ps sum
        enter =
            let more = point_after_lem in
            subst (λ qs. Sweep rc n p.t (p.t + 1) end qs sum) (sym is) (sweep_from rc up n end {low = t + 1} {from = t + 1} (omega arith) soonest there)

        -- the sum rises there, and nowhere since t
        up_there : Rises F p.t
        up_there =
            let some : 0 < p.t = omega (arith, point_after_lem) in
            omega (arith, rises_there rc up n end p rest some there, before_later F p.t some, before_later (λ v. total (λ i. rc i v) (upto n)) p.t some, same p.t, same (p.t - 1))

        flat_since : (v : ℕ) → t + 1 ≤ v → v < p.t → Rises F v → ⊥
        flat_since =
            let near = point_inside in
            flat_between t (omega arith) (sweep_from rc up n end {low = t + 1} {from = t + 1} {from' = t + 1} (omega arith) soonest there)

        pub counted_there : count + 1 ≡ rises F (p.t + 1)
        counted_there =
            let more = point_after_lem in
            let e : t + 1 + (p.t - (t + 1)) ≡ p.t = omega arith in
            let level = rises_flat F (t + 1) (p.t - (t + 1)) (λ v from less. flat_since v from (omega arith)) in
            ap (λ c. c + 1) (far.counted ∙ sym level ∙ ap (rises F) e) ∙ sym (rises_up F p.t up_there)

        fit_before : (u : ℕ) → u < p.t → Rises F u → Fits β F u
        fit_before u below up' = ⊎_elim (λ lt. far.fit u lt up') (λ le. absurd (flat_since u le below up')) (cases_lt u (t + 1))

        -- the point fits
        pub goes_on : F p.t + β p.t ≤ p.t → Upto F end β p.t (count + 1)
        goes_on fits = record {
          inside = point_inside;
          few = omega (arith, far.few, point_after_lem);
          counted = counted_there;
          fit = below_more (λ u. Rises F u → Fits β F u) p.t fit_before (λ _ _. fits);
        }

        -- it does not
        pub fails_there : p.t < F p.t + β p.t → Walked β F end (Err (Late p.t (count + 1)))
        fails_there late = record {
          below = point_inside;
          rise = up_there;
          fails = λ fits. omega (arith, fits (omega (arith, up_there)));
          earlier = fit_before;
          counted = counted_there;
        }

    -- at the start: t is 0, and no sum is above 0 there
    pub starts_upto : (β : ℕ → ℕ) → 0 < end → F 0 ≡ 0 → Upto F end β 0 0
    starts_upto β some none = record {
      inside = some;
      few = omega arith;
      counted = first_count;
      fit = λ u below up'. absurd (no_rise u (omega arith) up');
    }
      where
        no_rise : (u : ℕ) → u ≡ 0 → Rises F u → ⊥
        no_rise u e up' = omega (arith, ap F e)

        first_count : 0 ≡ rises F (0 + 1)
        first_count = sym (rises_flat F 0 1 (λ v from below. no_rise v (omega arith)))

-- the point at the head is one of those to come
pub first_pending : (rc : ℕ → ℕ → ℕ) (ps : List Point) (p : Point) {n low from end sum : ℕ} → head ps ≡ Some p → Sweep rc n low from end ps sum → Pending rc low from end p
first_pending rc [] p e s = let z : ◌≡◌ {A = ℕ} 0 1 = cc in absurd (omega arith)
first_pending rc (q ∷ ps) p {n} {low} {from} {end} e s = let same : q ≡ p = cc in subst (Pending rc low from end) same s.pending.0

-- the first point is taken and its row's next point put
module _ (rc : ℕ → ℕ → ℕ) (up : (i t u : ℕ) → t ≤ u → rc i t ≤ rc i u) (n end : ℕ) {t sum level : ℕ} (p q : Point) (rest ps qs : List Point) (next : Option Point) where
  pub advance_step : head ps ≡ Some p → head ps ≡ Some q → IsPermutation ps (q ∷ rest) → IsPermutation (option_to_list next ++ rest) qs → p.t ≡ t → NextPoint (rc p.row) p.row t level end next → level ≡ rc p.row t → Sweep rc n t (t + 1) end ps sum → Sweep rc n t (t + 1) end qs (sum + (level - p.level)) × (left end qs < left end ps)
  advance_step first also taken put at point is s =
      let same : p ≡ q = cc in
      let h = first_pending rc ps p first s in
      let risen : p.level < level = omega (arith, h.level, h.rise, ap (rc p.row) at, ap (before (rc p.row)) at) in
      advanced_one rc up n end p rest ps qs next at (subst (λ x. IsPermutation ps (x ∷ rest)) (sym same) taken) put
      (subst (λ l. NextPoint (rc p.row) p.row t l end next) is point) (omega arith) s

-- the same for the rows of a judged table
module _ {K S : Type 0} (m : K → Numbers) (limits : K → ℕ → Bool) (shaped : (k : K) (p : ℕ) → 1 ≤ p → p ≤ 255 → limits k p ≡ true → CurveLaws p (m k)) {p : ℕ} (c : Channels K S) (judged : Judgeable limits p (size c) (members c)) (end : ℕ) where
  abbrev rc : ℕ → ℕ → ℕ
  rc = row_curve m (places c)

  abbrev all_curves : ℕ → ℕ
  all_curves = curves m (members c)

  laws : AllByRecursion (λ k. CurveLaws p (m k)) (members c)
  laws = row_laws m limits shaped judged

  up : (i t u : ℕ) → t ≤ u → rc i t ≤ rc i u
  up = row_up m p (places c) laws

  pub sum_small : 0 < end → end ≤ 45360 → {low from sum : ℕ} {ps : List Point} → Sweep rc (length (places c)) low from end ps sum → sum ≤ 16777216 * 33
  sum_small some near s =
      omega (arith, sum_most rc (length (places c)) end some (λ i v below. omega (arith, near, row_most m p (places c) laws i v)) s, places_few c judged)

  pub walk_starts : (β : ℕ → ℕ) → 0 < end → Upto all_curves end β 0 0
  walk_starts β some = starts_upto rc up (length (places c)) end all_curves (rows_sum m (places c)) β some (nothing_at_zero m p (members c) laws)

  module _ {β : ℕ → ℕ} {t count sum : ℕ} {ps : List Point} (far : Upto all_curves end β t count) (s : Sweep rc (length (places c)) (t + 1) (t + 1) end ps sum) where
    pub walk_ends : ps ≡ [] → Walked β all_curves end (Ok count)
    walk_ends none = all_taken rc up (length (places c)) end all_curves (rows_sum m (places c)) far s none

    module _ (q : Point) (is : Some q ≡ head ps) (first : First point_before q ps) where
      front : (rest : List Point) × (ps ≡ q ∷ rest)
      front = head_is ps q (sym is)

      pub walk_enters : Sweep rc (length (places c)) q.t (q.t + 1) end ps sum
      walk_enters = enter rc up (length (places c)) end all_curves (rows_sum m (places c)) far s q front.0 front.1 first

      pub walk_later : t < q.t
      walk_later = point_after_lem rc up (length (places c)) end all_curves (rows_sum m (places c)) far s q front.0 front.1 first

      pub walk_inside : q.t < end
      walk_inside = point_inside rc up (length (places c)) end all_curves (rows_sum m (places c)) far s q front.0 front.1 first

      module _ {more : ℕ} {qs : List Point} (after : Sweep rc (length (places c)) (q.t + 1) (q.t + 1) end qs more) where
        sum_there : more ≡ all_curves q.t
        sum_there = sum_is rc up (length (places c)) end after (omega arith) walk_inside ∙ rows_sum m (places c) q.t

        pub walk_goes_on : more + β q.t ≤ q.t → Upto all_curves end β q.t (count + 1)
        walk_goes_on fits = goes_on rc up (length (places c)) end all_curves (rows_sum m (places c)) far s q front.0 front.1 first (omega (arith, sum_there))

        pub walk_fails : q.t < more + β q.t → Walked β all_curves end (Err (Late q.t (count + 1)))
        walk_fails late = fails_there rc up (length (places c)) end all_curves (rows_sum m (places c)) far s q front.0 front.1 first (omega (arith, sum_there))
