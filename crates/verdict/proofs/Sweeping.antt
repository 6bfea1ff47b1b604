-- What a sweep over rises knows, and each of its steps.
use Rattle.std.proofs.Common.{◌≡◌, ℕ, zero, suc, ◌+◌, ◌-◌, ◌*◌, ◌<◌, ◌≤◌, List, [], ◌∷◌, ◌++◌, Some, None, sum_by, Option, sym, refl, ap, ◌∙◌, subst, ⊎_elim, arith}
use Rattle.std.specs.Option.{option_to_list}
use Rattle.std.specs.List.{AllByRecursion}
use Rattle.std.specs.List.Sorted.{IsPermutation}
use Rattle.std.proofs.ByRecursion.{All-weaker, all_shuffled}
use Rattle.std.proofs.lemmas.List.Sorted.{sum_by-IsPermutation}
use Rattle.std.proofs.lemmas.List.Recursion.{is_sum_by}
use Rattle.std.proofs.lemmas.Bool.{cases_lt}
use Rattle.traffic.specs.Curves.{before, Rises, NextRise}
use Rattle.traffic.specs.Staircase.{before_later}
use Rattle.traffic.proofs.Uses.{steady, steady_until_rise}
use Rattle.verdict.specs.Demand.{total}
use Rattle.verdict.specs.Points.{rises}
use Rattle.verdict.specs.Sweeps.{upto, Pending, Quiet, Sweep, NextPoint}
use Rattle.verdict.specs.declared.points.Point.{Point}
use Rattle.verdict.proofs.Counts.{rises_level}

-- sums over a list
module _ {X : Type 0} where
  total-sum_by : (f : X → ℕ) (xs : List X) → total f xs ≡ sum_by f xs
  total-sum_by f xs = is_sum_by (total f) f refl (λ _ _. refl) xs

  pub total-shuffled : (f : X → ℕ) (xs ys : List X) → IsPermutation xs ys → total f ys ≡ total f xs
  total-shuffled f xs ys s = total-sum_by f ys ∙ sum_by-IsPermutation f xs ys s ∙ sym (total-sum_by f xs)

  total-same : (f g : X → ℕ) (xs : List X) → AllByRecursion (λ x. f x ≡ g x) xs → total f xs ≡ total g xs
  total-same f g [] all = refl
  total-same f g (x ∷ xs) all = omega (arith, all.0, total-same f g xs all.1)

  pub total-most : (f : X → ℕ) (b : ℕ) (xs : List X) → AllByRecursion (λ x. f x ≤ b) xs → total f xs ≤ b * total (λ _. 1) xs
  total-most f b [] all = omega arith
  total-most f b (x ∷ xs) all = omega (arith, all.0, total-most f b xs all.1, mul_step (total (λ _. 1) xs))
    where
      mul_step : (n : ℕ) → b * (1 + n) ≡ b + b * n
      mul_step n = omega arith

module _ (rc : ℕ → ℕ → ℕ) (up : (i t u : ℕ) → t ≤ u → rc i t ≤ rc i u) (n end : ℕ) where
  abbrev sum_at : ℕ → ℕ
  sum_at v = total (λ i. rc i v) (upto n)

  -- a row with a point to come is level until it; a row that is done is level to the end
  pending_level : {low t : ℕ} (p : Point) → Pending rc low (t + 1) end p → (v : ℕ) → t ≤ v → v < p.t → rc p.row v ≡ rc p.row t
  pending_level {low} {t} p h v from below = steady (rc p.row) (up p.row) t v from (λ w more most. h.first w (omega arith) (omega arith))

  quiet_level : {t : ℕ} (i : ℕ) → Quiet rc (t + 1) end i → (v : ℕ) → t ≤ v → v < end → rc i v ≡ rc i t
  quiet_level {t} i h v from below = steady (rc i) (up i) t v from (λ w more most. h w (omega arith) (omega arith))

  module _ {t low sum : ℕ} {ps : List Point} (s : Sweep rc n low (t + 1) end ps sum) where
    -- from t until just before the first point to come, the sum of all rows is level
    pub level_until : (v : ℕ) → t ≤ v → v < low → v < end → sum_at v ≡ sum_at t
    level_until v from below inside =
        let points = total-same (λ p. rc p.row v) (λ p. rc p.row t) ps (All-weaker (Pending rc low (t + 1) end) (λ p. rc p.row v ≡ rc p.row t) (λ p h. pending_level p h v from (omega (arith, h.not_before))) ps s.pending) in
        let others = total-same (λ i. rc i v) (λ i. rc i t) s.done (All-weaker (Quiet rc (t + 1) end) (λ i. rc i v ≡ rc i t) (λ i h. quiet_level i h v from inside) s.done s.quiet) in
        omega (arith, points, others, s.rows (λ i. rc i v), s.rows (λ i. rc i t))

    -- the sweep's sum is that of all rows at t
    pub sum_is : t < low → t < end → sum ≡ sum_at t
    sum_is more inside =
        let points = total-same (λ p. p.level) (λ p. rc p.row t) ps (All-weaker (Pending rc low (t + 1) end) (λ p. p.level ≡ rc p.row t)
        (λ p h. h.level ∙ before_later (rc p.row) p.t (omega (arith, h.not_before)) ∙ pending_level p h (p.t - 1) (omega (arith, h.not_before)) (omega (arith, h.not_before))) ps s.pending) in
        let others = total-same (λ i. rc i (end - 1)) (λ i. rc i t) s.done (All-weaker (Quiet rc (t + 1) end) (λ i. rc i (end - 1) ≡ rc i t) (λ i h. quiet_level i h (end - 1) (omega arith) (omega arith)) s.done s.quiet) in
        omega (arith, s.level, points, others, s.rows (λ i. rc i t))

  -- the sum never falls
  sum_climbs : (xs : List ℕ) (t u : ℕ) → t ≤ u → total (λ i. rc i t) xs ≤ total (λ i. rc i u) xs
  sum_climbs [] t u h = omega arith
  sum_climbs (i ∷ xs) t u h = omega (arith, up i t u h, sum_climbs xs t u h)

  points_climb : (ps : List Point) (t u : ℕ) → t ≤ u → total (λ p. rc p.row t) ps ≤ total (λ p. rc p.row u) ps
  points_climb [] t u h = omega arith
  points_climb (p ∷ ps) t u h = omega (arith, up p.row t u h, points_climb ps t u h)

  -- at the first point to come, the sum rises
  pub rises_there : {low from sum : ℕ} (p : Point) (rest : List Point) → 0 < p.t → Sweep rc n low from end (p ∷ rest) sum → Rises sum_at p.t
  rises_there p rest some s =
      let t = p.t in
      let h = s.pending.0 in
      omega (arith, before_later sum_at t some, before_later (rc p.row) t some, h.rise, s.rows (λ i. rc i t), s.rows (λ i. rc i (t - 1)), points_climb rest (t - 1) t (omega arith), sum_climbs s.done (t - 1) t (omega arith))

  -- points that lie in another order
  pub sweep_shuffled : {low from sum : ℕ} {ps qs : List Point} → IsPermutation ps qs → Sweep rc n low from end ps sum → Sweep rc n low from end qs sum
  sweep_shuffled {low} {from} {sum} {ps} {qs} mix s = record {
    done = s.done;
    pending = all_shuffled (Pending rc low from end) ps qs mix s.pending;
    quiet = s.quiet;
    rows = λ w. omega (arith, s.rows w, total-shuffled (λ p. w p.row) ps qs mix);
    level = omega (arith, s.level, total-shuffled (λ p. p.level) ps qs mix);
  }

  -- a later start, where no point lies before it
  pub sweep_from : {low low' from from' sum : ℕ} {ps : List Point} → from ≤ from' → AllByRecursion (λ p. low' ≤ p.t) ps → Sweep rc n low from end ps sum → Sweep rc n low' from' end ps sum
  sweep_from {low} {low'} {from} {from'} {sum} {ps} later all s = record {
    done = s.done;
    pending = both ps all s.pending;
    quiet = All-weaker (Quiet rc from end) (Quiet rc from' end) (λ i h v more. h v (omega arith)) s.done s.quiet;
    rows = s.rows;
    level = s.level;
  }
    where
      both : (qs : List Point) → AllByRecursion (λ p. low' ≤ p.t) qs → AllByRecursion (Pending rc low from end) qs → AllByRecursion (Pending rc low' from' end) qs
      both [] a b = tt
      both (q ∷ qs) a b = (
        record {
          not_before = a.0;
          below = b.0.below;
          rise = b.0.rise;
          level = b.0.level;
          first = λ v more. b.0.first v (omega arith);
        },
        both qs a.1 b.1,
      )

  module _ {low sum : ℕ} (p : Point) (rest : List Point) (after : ℕ) (s : Sweep rc n low (p.t + 1) end (p ∷ rest) sum) (add : after + p.level ≡ sum + rc p.row p.t) where
    -- the row's next rise takes the place of the point
    pub pass_on : (q : Point) → q.row ≡ p.row → q.level ≡ rc p.row p.t → q.t < end → NextRise (rc p.row) p.t (Some q.t) → Sweep rc n low (p.t + 1) end (q ∷ rest) after
    pass_on q same is inside next =
        let h = s.pending.0 in
        let f = rc p.row in
        let flat = steady_until_rise f (up p.row) p.t q.t (q.t - 1) next (omega (arith, next.0)) (omega (arith, next.0)) in
        record {
          done = s.done;
          pending = (
            record {
              not_before = omega (arith, h.not_before, next.0);
              below = inside;
              rise = subst (λ i. Rises (rc i) q.t) (sym same) next.1;
              level = is ∙ sym flat ∙ sym (before_later f q.t (omega (arith, next.0))) ∙ ap (λ i. before (rc i) q.t) (sym same);
              first = subst (λ i. (v : ℕ) → p.t + 1 ≤ v → v < q.t → Rises (rc i) v → ⊥) (sym same) (λ v more less. next.2 v (omega arith) less);
            },
            s.pending.1,
          );
          quiet = s.quiet;
          rows = λ w. omega (arith, s.rows w, ap w same);
          level = omega (arith, s.level);
        }

    -- the row is done: it rises no more before the end
    pub pass_done : p.t < end → ((v : ℕ) → p.t < v → v < end → Rises (rc p.row) v → ⊥) → Sweep rc n low (p.t + 1) end rest after
    pass_done inside none =
        let last = quiet_level {t = p.t} p.row (λ v more less. none v (omega arith) less) (end - 1) (omega arith) (omega arith) in
        record {
          done = p.row ∷ s.done;
          pending = s.pending.1;
          quiet = (λ v more less. none v (omega arith) less, s.quiet);
          rows = λ w. omega (arith, s.rows w);
          level = omega (arith, s.level, last);
        }

-- the first points, of one row more
module _ (rc : ℕ → ℕ → ℕ) (up : (i t u : ℕ) → t ≤ u → rc i t ≤ rc i u) (end i : ℕ) (some : 0 < end) (zero-there : rc i 0 ≡ 0) {ps : List Point} (s : Sweep rc i 1 1 end ps 0) where
  row_more : (w : ℕ → ℕ) → total w (upto (i + 1)) ≡ w i + total w (upto i)
  row_more w = ap (λ n. total w (upto n)) (next i)
    where
      next : (i : ℕ) → i + 1 ≡ suc i
      next i = omega arith

  fill_quiet : NextPoint (rc i) i 0 0 end None → Sweep rc (i + 1) 1 1 end ps 0
  fill_quiet none =
      let quiet : Quiet rc 1 end i = λ v more less. none v (omega arith) less in
      let flat = quiet_level rc up i end {t = 0} i quiet (end - 1) (omega arith) (omega arith) in
      record {
        done = i ∷ s.done;
        pending = s.pending;
        quiet = (quiet, s.quiet);
        rows = λ w. omega (arith, s.rows w, row_more w);
        level = omega (arith, s.level, flat, zero-there);
      }

  fill_point : (q : Point) → NextPoint (rc i) i 0 0 end (Some q) → Sweep rc (i + 1) 1 1 end (q ∷ ps) 0
  fill_point q (same, none, inside, next) =
      let f = rc i in
      let flat = steady_until_rise f (up i) 0 q.t (q.t - 1) next (omega arith) (omega (arith, next.0)) in
      record {
        done = s.done;
        pending = (
          record {
            not_before = next.0;
            below = inside;
            rise = subst (λ j. Rises (rc j) q.t) (sym same) next.1;
            level = none ∙ sym (flat ∙ zero-there) ∙ sym (before_later f q.t next.0) ∙ ap (λ j. before (rc j) q.t) (sym same);
            first = subst (λ j. (v : ℕ) → 1 ≤ v → v < q.t → Rises (rc j) v → ⊥) (sym same) (λ v more less. next.2 v more less);
          },
          s.pending,
        );
        quiet = s.quiet;
        rows = λ w. omega (arith, s.rows w, row_more w, ap w same);
        level = omega (arith, s.level);
      }

  pub fill_next : (next : Option Point) → NextPoint (rc i) i 0 0 end next → Sweep rc (i + 1) 1 1 end (option_to_list next ++ ps) 0
  fill_next None h = fill_quiet h
  fill_next (Some q) h = fill_point q h

-- where a function does not rise, the count of its rises stays
pub rises_flat : (F : ℕ → ℕ) (a m : ℕ) → ((v : ℕ) → a ≤ v → v < a + m → Rises F v → ⊥) → rises F (a + m) ≡ rises F a
rises_flat F a zero none = ap (rises F) (omega arith)
rises_flat F a (suc m) none =
    let e : a + suc m ≡ a + m + 1 = omega arith in
    let flat : F (a + m) ≤ before F (a + m) = ⊎_elim (λ lt. absurd (none (a + m) (omega arith) (omega arith) lt)) (λ le. le) (cases_lt (before F (a + m)) (F (a + m))) in
    ap (rises F) e ∙ rises_level F (a + m) flat ∙ rises_flat F a m (λ v more less. none v more (omega arith))

-- levels stay small, so the sum does
module _ (rc : ℕ → ℕ → ℕ) (n end : ℕ) (some : 0 < end) (most : (i v : ℕ) → v < end → rc i v ≤ 16777216) where
  count_upto : (k : ℕ) → total (λ _. 1) (upto k) ≡ k
  count_upto zero = refl
  count_upto (suc k) = omega (arith, count_upto k)

  before_most : (i t : ℕ) → t < end → before (rc i) t ≤ 16777216
  before_most i t h =
      ⊎_elim (λ lt. omega (arith, before_later (rc i) t lt, most i (t - 1) (omega arith))) (λ le. let e : t ≡ 0 = omega arith in omega (arith, ap (before (rc i)) e)) (cases_lt 0 t)

  pub sum_most : {low from sum : ℕ} {ps : List Point} → Sweep rc n low from end ps sum → sum ≤ 16777216 * n
  sum_most {low} {from} {sum} {ps} s =
      let points = total-most (λ p. p.level) 16777216 ps (All-weaker (Pending rc low from end) (λ p. p.level ≤ 16777216) (λ p h. omega (arith, h.level, before_most p.row p.t h.below)) ps s.pending) in
      let others = total-most (λ i. rc i (end - 1)) 16777216 s.done (All-weaker (Quiet rc from end) (λ i. rc i (end - 1) ≤ 16777216) (λ i h. most i (end - 1) (omega arith)) s.done s.quiet) in
      omega (arith, s.level, points, others, s.rows (λ _. 1), count_upto n)
