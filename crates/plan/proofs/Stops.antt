-- Where a text stops being the beginning of a plan, by the step that failed.
use Rattle.std.proofs.Common.{◌≡◌, ℕ, suc, ◌+◌, ◌<◌, ◌≤◌, List, [], ◌∷◌, ◌++◌, length, take, drop, decimal, sym, refl, ap, ◌∙◌, subst, append_assoc, append-nil, arith}
use Rattle.std.proofs.lemmas.Fmt.{decimal_injective}
use Rattle.std.proofs.lemmas.List.{length-append, length-map, take_at}
use Rattle.std.proofs.lemmas.Bool.Decides.{nat_tests}
use Rattle.traffic.specs.declared.mixture.Mixture.TheVariants.{First}
use Rattle.plan.specs.Format.{Script, lines, section, FitSection, InRange}
use Rattle.plan.specs.Lines.{line, longest_words, channel_words, channel_mats, call_words, call_mats, Number, Fits}
use Rattle.plan.specs.Reading.{place, StopsAt}
use Rattle.plan.specs.Steps.{BrokenAt, Lacks}
use Rattle.plan.specs.declared.Call.{Call}
use Rattle.plan.specs.declared.Call.TheVariants.{Bulk}
use Rattle.plan.specs.declared.Channel.{Channel}
use Rattle.plan.proofs.Breaks.{Breaks, breaks, section_front}

place_one : (s : Script) (i : ℕ) → i < 2 → (1, i) ≡ place s i
place_one s i h = grind (arith, nat_tests)

place_two : (s : Script) (i k : ℕ) → i ≡ 2 + k → k ≤ length s.channels → (2, k) ≡ place s i
place_two s i k e h = grind (arith, nat_tests)

place_three : (s : Script) (i k : ℕ) → i ≡ 3 + length s.channels + k → (3, k) ≡ place s i
place_three s i k e = grind (arith, nat_tests)

-- lines that agree one line past a front share the front
front_shared : (front rest w : List (List ℕ)) → take (suc (length front)) (front ++ rest) ≡ take (suc (length front)) w → (v : List (List ℕ)) × (w ≡ front ++ v) × (take 1 rest ≡ take 1 v)
front_shared [] rest w e = (w, refl, e)
front_shared (x ∷ front) rest [] e = absurd (omega (arith, ap length e))
front_shared (x ∷ front) rest (y ∷ w) e =
    let same : x ≡ y = cc in
    let f = front_shared front rest w (ap (drop 1) e) in
    let g = f.1 in
    (f.0, (cc), f.2)

-- it is enough to look at the first line after those of a plan's beginning
pub stops_after : (ls front rest more : List (List ℕ)) (s : Script) (at : ℕ × ℕ) → ls ≡ front ++ rest → InRange s → lines s ≡ front ++ more → at ≡ place s (length front) → ((q : Script) (v : List (List ℕ)) → InRange q → lines q ≡ front ++ v → take 1 rest ≡ take 1 v → ⊥) → StopsAt ls at
stops_after ls front rest more s at split fit same placed other = record {
  i = length front;
  s = s;
  in_range = fit;
  begins = ap (take (length front)) split ∙ take_at front rest (length front) refl ∙ sym (ap (take (length front)) same ∙ take_at front more (length front) refl);
  stops = λ q fits e.
      let f = front_shared front rest (lines q) (ap (take (suc (length front))) (sym split) ∙ e) in
      other q f.0 fits f.1 f.2;
  placed = placed;
}

-- the plan of no channels and no calls
bare : ℕ → Script
bare p = record { longest = p; channels = []; calls = [] }

bare_fits : (p : ℕ) → Number p → InRange (bare p)
unfolding bare
bare_fits p small = record { longest = small; channels = (omega arith, tt); calls = (omega arith, tt) }

-- the first count is not 1
pub stops_at_first_count : (ls : List (List ℕ)) → (take 1 ls ≡ decimal 1 ∷ [] → ⊥) → StopsAt ls (1, 0)
unfolding bare
stops_at_first_count ls other =
    stops_after ls [] ls (lines (bare 0)) (bare 0) (1, 0) refl (bare_fits 0 (omega arith)) refl (place_one (bare 0) 0 (omega arith))
    (λ q v fit e h. other (h ∙ ap (take 1) (sym e)))

pub stops_without_count : (ls : List (List ℕ)) (l : ℕ) → (l ≡ 0) × Lacks decimal Number ls → StopsAt ls (1, l)
stops_without_count ls l (first, lacks) =
    subst (λ n. StopsAt ls (1, n)) (sym first) (stops_at_first_count ls (lacks 1 (omega arith)))

pub stops_at_other_count : (ls rest : List (List ℕ)) (n : ℕ) → Number n × (ls ≡ decimal n ∷ rest) → (n ≡ 1 → ⊥) → StopsAt ls (1, 0)
stops_at_other_count ls rest n (small, counted) other =
    stops_at_first_count ls (λ h.
    let f = sym (ap (take 1) counted) ∙ h in
    let d : decimal n ≡ decimal 1 = cc in
    other (decimal_injective n 1 (omega arith) (omega arith) d))

pub stops_at_longest : (ls rest : List (List ℕ)) → ls ≡ decimal 1 ∷ rest → Lacks (λ p. line (longest_words p)) Number rest → StopsAt ls (1, 1)
unfolding bare
stops_at_longest ls rest split lacks =
    stops_after ls (decimal 1 ∷ []) rest (drop 1 (lines (bare 0))) (bare 0) (1, 1) split (bare_fits 0 (omega arith)) refl (place_one (bare 0) 1 (omega arith))
    (λ q v fit e h. lacks q.longest fit.longest (h ∙ ap (λ l. take 1 (drop 1 l)) (sym e)))

-- a channel that may stand in a plan
abbrev silent : Channel
silent = record { mat = 0; kind = First (record { period = 0; longest = 0; allowance = 0 }) }

silent_fits : Fits channel_words channel_mats silent
silent_fits = ((omega arith, (omega arith, (omega arith, (omega arith, tt)))), (omega arith, tt))

-- section 1 of a text, and what follows it
pub record Opened (ls : List (List ℕ)) (p : ℕ) (rest : List (List ℕ)) : Type 0 where
  pub small : Number p
  pub split : ls ≡ decimal 1 ∷ line (longest_words p) ∷ rest

module _ {ls rest : List (List ℕ)} {p : ℕ} (opened : Opened ls p rest) where
  -- the same, after section 1
  stops_later : (front after more : List (List ℕ)) (cs : List Channel) (ks : List Call) (at : ℕ × ℕ) → rest ≡ front ++ after → FitSection channel_words channel_mats cs → FitSection call_words call_mats ks → section channel_words cs ++ section call_words ks ≡ front ++ more → at ≡ place (record { longest = p; channels = cs; calls = ks }) (suc (suc (length front))) → ((ds : List Channel) (js : List Call) (v : List (List ℕ)) → FitSection channel_words channel_mats ds → FitSection call_words call_mats js → section channel_words ds ++ section call_words js ≡ front ++ v → take 1 after ≡ take 1 v → ⊥) → StopsAt ls at
  stops_later front after more cs ks at split fit_channels fit_calls begins placed other =
      let s : Script = record { longest = p; channels = cs; calls = ks } in
      stops_after ls (decimal 1 ∷ line (longest_words p) ∷ front) after more s at
      (opened.split ∙ ap (λ l. decimal 1 ∷ line (longest_words p) ∷ l) split)
      (record { longest = opened.small; channels = fit_channels; calls = fit_calls })
      (ap (λ l. decimal 1 ∷ line (longest_words p) ∷ l) begins)
      placed
      (λ q v fits e h. other q.channels q.calls v fits.channels fits.calls (ap (drop 2) e) h)

  pub breaks_in_channels : (k : ℕ) → Breaks channel_words channel_mats rest k → StopsAt ls (2, k)
  breaks_in_channels k b =
      let none = section call_words [] in
      stops_later b.front b.rest (b.more ++ none) b.xs [] (2, k) b.split b.fit (omega arith, tt)
      (ap (λ l. l ++ none) b.begins ∙ append_assoc b.front b.more none)
      (place_two (record { longest = p; channels = b.xs; calls = [] }) (suc (suc (length b.front))) k (omega (arith, b.at)) b.within)
      (λ ds js v fits_channels fits_calls e h. b.stops ds (section call_words js) v fits_channels e h)

  pub stops_in_channels : (k : ℕ) → BrokenAt channel_words channel_mats rest k → StopsAt ls (2, k)
  stops_in_channels k broken = breaks_in_channels k (breaks channel_words channel_mats silent silent_fits rest k broken)

  module _ (cs : List Channel) (after : List (List ℕ)) (read : FitSection channel_words channel_mats cs × (rest ≡ section channel_words cs ++ after)) where
    -- what follows the channels of a plan that agrees
    after_channels : (front v : List (List ℕ)) (ds : List Channel) (js : List Call) → FitSection channel_words channel_mats ds → section channel_words ds ++ section call_words js ≡ (section channel_words cs ++ front) ++ v → section call_words js ++ [] ≡ front ++ v
    after_channels front v ds js fits e =
        append-nil (section call_words js)
        ∙ (section_front channel_words channel_mats ds cs (section call_words js) (front ++ v) fits.0 read.0.0 (e ∙ append_assoc (section channel_words cs) front v)).1

    pub breaks_in_calls : (k : ℕ) → Breaks call_words call_mats after k → StopsAt ls (3, k)
    breaks_in_calls k b =
        let cl = section channel_words cs in
        let long : length (cl ++ b.front) ≡ suc (length cs) + k = simp (length-append, length-map) (omega (arith, b.at)) in
        stops_later (cl ++ b.front) b.rest b.more cs b.xs (3, k)
        (read.1 ∙ ap (λ l. cl ++ l) b.split ∙ sym (append_assoc cl b.front b.rest)) read.0 b.fit
        (ap (λ l. cl ++ l) b.begins ∙ sym (append_assoc cl b.front b.more))
        (place_three (record { longest = p; channels = cs; calls = b.xs }) (suc (suc (length (cl ++ b.front)))) k (omega arith))
        (λ ds js v fits_channels fits_calls e h. b.stops js [] v fits_calls (after_channels b.front v ds js fits_channels e) h)

    pub stops_in_calls : (k : ℕ) → BrokenAt call_words call_mats after k → StopsAt ls (3, k)
    stops_in_calls k broken = breaks_in_calls k (breaks call_words call_mats (Bulk 0) ((omega arith, tt), tt) after k broken)

    pub stops_after_calls : (ks : List Call) {end others : List (List ℕ)} (l : List ℕ) → FitSection call_words call_mats ks × (after ≡ section call_words ks ++ end) → end ≡ l ∷ others → StopsAt ls (3, length ks + 1)
    stops_after_calls ks {end} {others} l (fit, split) more =
        let cl = section channel_words cs in
        let kl = section call_words ks in
        let long : length (cl ++ kl) ≡ suc (length cs) + suc (length ks) = simp (length-append, length-map) in
        stops_later (cl ++ kl) end [] cs ks (3, length ks + 1)
        (read.1 ∙ ap (λ r. cl ++ r) split ∙ sym (append_assoc cl kl end)) read.0 fit (sym (append-nil (cl ++ kl)))
        (place_three (record { longest = p; channels = cs; calls = ks }) (suc (suc (length (cl ++ kl)))) (length ks + 1) (omega arith))
        (λ ds js v fits_channels fits_calls e h.
        let last = section_front call_words call_mats js ks [] v fits_calls.0 fit.0 (after_channels kl v ds js fits_channels e) in
        omega (arith, ap length (sym (ap (take 1) more) ∙ h ∙ ap (take 1) (sym last.1))))
