-- The rows of the granted channels, as they are judged.
use Rattle.std.proofs.Common.{◌≡◌, ℕ, ◌<◌, ◌≤◌, Bool, ◌||◌, eqb, List, [], ◌∷◌, ◌++◌, map, length, take, vec_items, vec_len, Ok, Result, sym, refl, ap, ◌∙◌, subst, arith, take_all}
use Rattle.std.proofs.lemmas.List.{length-map}
use Rattle.std.specs.List.{list_any}
use Rattle.traffic.specs.declared.Row.{Row}
use Rattle.verdict.specs.Judged.{Judged}
use Rattle.verdict.specs.Least as verdict
use Rattle.verdict.specs.declared.Unfit.{Unfit}
use Rattle.refusals.specs.Refusals.{decided}
use Rattle.plan.specs.Kinds.{Kind, kind_numbers, kind_limits, kind_dated}
use Rattle.plan.specs.declared.Channel.{Channel}
use Rattle.answers.specs.Decisions.{Decision, early, Judges, Decided}
use Rattle.lines.specs.Lines.{least_line_lem}
use Rattle.lines.specs.declared.Line.{Line}
use Rattle.answers.specs.Granted.{kinds, listed, found, LeastTold}
use Rattle.answers.specs.declared.decisions.Granted.{Granted}
use Rattle.answers.proofs.Deciding.{free_row}

module _ {K : Type 0} where
  -- looking for a mat in the rows is looking for it among their mats
  any_row : (mat : ℕ) (rs : List (Row K ℕ)) → list_any (λ r. eqb r.state mat) rs ≡ list_any (λ m. eqb m mat) (map (λ r. r.state) rs)
  any_row mat [] = refl
  any_row mat (r ∷ rs) = ap (λ b. eqb r.state mat || b) (any_row mat rs)

  pub rows_have : (mat : ℕ) (rs rs' : List (Row K ℕ)) (b : Bool) → rs' ≡ rs → b ≡ list_any (λ r. eqb r.state mat) rs' → list_any (λ m. eqb m mat) (map (λ r. r.state) rs) ≡ b
  rows_have mat rs rs' b same is = sym (is ∙ ap (list_any (λ r. eqb r.state mat)) same ∙ any_row mat rs)

-- no refusal comes early, so the verdict on all rows with the channel decides
pub judged_decides : (p : ℕ) (mats : List ℕ) (rs : List (Row Kind ℕ)) (c : Channel) (d : Decision) (v : Result ℕ Unfit) (n : ℕ) (u : Unit {0}) (size : ℕ) (ks : List Kind) → n ≡ length rs → Ok u ≡ early p mats n c →
    size ≡ length rs → ks ≡ map (λ r. r.kind) (take 32 rs) ++ c.kind ∷ [] → Judged kind_numbers kind_limits p size ks v → d ≡ decided v → Decided p mats (map (λ r. r.kind) rs) c d
judged_decides p mats rs c d v n u size ks count late sized together judged is =
    let free : n < 32 = free_row p mats n c u (sym late) in
    let all = take_all 32 rs (omega arith) in
    let here : Judged kind_numbers kind_limits p (length (map (λ r. r.kind) rs)) (map (λ r. r.kind) rs ++ c.kind ∷ []) v =
    subst (λ n. Judged kind_numbers kind_limits p n (map (λ r. r.kind) rs ++ c.kind ∷ []) v) (sized ∙ sym (length-map rs (λ r. r.kind)))
    (subst (λ xs. Judged kind_numbers kind_limits p size xs v) (together ∙ ap (λ (ys : List (Row Kind ℕ)). map (λ r. r.kind) ys ++ c.kind ∷ []) all) judged) in
    subst (λ o. Judges p (map (λ r. r.kind) rs) c.kind o d) (late ∙ ap (λ k. early p mats k c) (count ∙ sym (length-map rs (λ r. r.kind)))) (v, here, is)

-- the least allowance beside the first 32 rows
pub least_tells : (p : ℕ) (rs : List (Row Kind ℕ)) (c : Channel) (r : Result (ℕ × ℕ) Unfit) (l : Line) (n size : ℕ) (ks : List Kind) → n ≡ length rs → size ≡ length rs → ks ≡ map (λ r. r.kind) (take 32 rs) →
    verdict.Least kind_numbers kind_limits kind_dated p size ks c.kind r → l ≡ least_line_lem c.mat (found r) → LeastTold p n (map (λ r. r.kind) (take 32 rs)) c l
least_tells p rs c r l n size ks count sized same least is =
    (r, subst (λ k. verdict.Least kind_numbers kind_limits kind_dated p k (map (λ r. r.kind) (take 32 rs)) c.kind r) (sized ∙ sym count) (subst (λ xs. verdict.Least kind_numbers kind_limits kind_dated p size xs c.kind r) same least), is)

-- and so beside those granted so far, which are no more
pub least_shown : (p : ℕ) (ks : List Kind) (c d : Channel) (l : Line) (g : Granted) → length ks ≤ 32 → kinds g ≡ ks → d ≡ c → LeastTold p (vec_len g.rows) (listed g) d l → LeastTold p (length ks) ks c l
least_shown p ks c d l g few same channel told =
    let rs = vec_items g.rows in
    let lengths : length ks ≡ length rs = sym (ap length same) ∙ length-map rs (λ r. r.kind) in
    let all : listed g ≡ ks = ap (λ (ys : List (Row Kind ℕ)). map (λ r. r.kind) ys) (take_all 32 rs (omega arith)) ∙ same in
    subst (λ (x : Channel). LeastTold p (length ks) ks x l) channel
    (subst (λ n. LeastTold p n ks d l) (g.rows.ok.0 ∙ sym lengths)
    (subst (λ xs. LeastTold p (vec_len g.rows) xs d l) all told))
