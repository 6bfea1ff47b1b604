-- A section that breaks off: a whole section begins as the text does, and none goes on as it does.
use Rattle.std.proofs.Common.{◌≡◌, ℕ, suc, ◌-◌, ◌<◌, ◌≤◌, List, [], ◌∷◌, ◌++◌, map, length, take, drop, replicate, decimal, sym, refl, ap, ◌∙◌, arith}
use Rattle.std.proofs.lemmas.Fmt.{decimal_injective}
use Rattle.std.proofs.ByRecursion.{All-append}
use Rattle.std.proofs.lemmas.List.{drop_at, length-append, length-map, length-replicate, map-append, take_at}
use Rattle.std.proofs.lemmas.List.Elements.{All-replicate, recursion_from_All}
use Rattle.std.specs.List.{AllByRecursion}
use Rattle.plan.specs.Format.{section, FitSection}
use Rattle.plan.specs.Lines.{Words, line, Number, Fits}
use Rattle.plan.specs.Steps.{BrokenAt, no_count, no_entry}

pub same_parts : {X : Type 0} (xs ys t u : List X) → length xs ≡ length ys → xs ++ t ≡ ys ++ u → (xs ≡ ys) × (t ≡ u)
same_parts xs ys t u long e = (
  sym (take_at xs t (length ys) long) ∙ ap (take (length ys)) e ∙ take_at ys u (length ys) refl,
  sym (drop_at xs t (length ys) long) ∙ ap (drop (length ys)) e ∙ drop_at ys u (length ys) refl,
)

module _ {X : Type 0} (words : X → Words) (mats : X → List ℕ) where
  -- A section that breaks off at line k.
  pub record Breaks (ls : List (List ℕ)) (k : ℕ) : Type 0 where
    pub front : List (List ℕ)
    pub rest : List (List ℕ)
    pub more : List (List ℕ)
    pub xs : List X
    pub split : ls ≡ front ++ rest
    pub at : length front ≡ k
    pub fit : FitSection words mats xs
    pub begins : section words xs ≡ front ++ more
    pub within : k ≤ length xs
    pub stops : (ys : List X) (t v : List (List ℕ)) → FitSection words mats ys → section words ys ++ t ≡ front ++ v → take 1 rest ≡ take 1 v → ⊥

  -- the entry that follows fewer ones
  next_entry : (ys xs : List X) (t v : List (List ℕ)) → AllByRecursion (Fits words mats) ys → length xs < length ys → map (λ x. line (words x)) ys ++ t ≡ map (λ x. line (words x)) xs ++ v → (y : X) × Fits words mats y × (take 1 v ≡ line (words y) ∷ [])
  next_entry [] xs t v fit h e = absurd (omega arith)
  next_entry (y ∷ ys) [] t v fit h e = (y, fit.0, ap (take 1) (sym e))
  next_entry (y ∷ ys) (x ∷ xs) t v fit h e = next_entry ys xs t v fit.1 (omega arith) (ap (drop 1) e)

  -- two sections that agree have as many entries
  same_count : (xs ys : List X) (t u : List (List ℕ)) → Number (length xs) → Number (length ys) → section words xs ++ t ≡ section words ys ++ u → length xs ≡ length ys
  same_count xs ys t u p q e =
      let d : decimal (length xs) ≡ decimal (length ys) = cc in
      decimal_injective (length xs) (length ys) (omega arith) (omega arith) d

  pub section_front : (xs ys : List X) (t u : List (List ℕ)) → Number (length xs) → Number (length ys) → section words xs ++ t ≡ section words ys ++ u → (map (λ x. line (words x)) xs ≡ map (λ x. line (words x)) ys) × (t ≡ u)
  section_front xs ys t u p q e =
      let n = same_count xs ys t u p q e in
      same_parts (map (λ x. line (words x)) xs) (map (λ x. line (words x)) ys) t u (simp length-map n) (ap (drop 1) e)

  -- any entry fills a section up to its count
  pub breaks : (filler : X) → Fits words mats filler → (ls : List (List ℕ)) (k : ℕ) → BrokenAt words mats ls k → Breaks ls k
  breaks filler ok ls _ (no_count lacks) = record {
    front = [];
    rest = ls;
    more = section words [];
    xs = [];
    split = refl;
    at = refl;
    fit = (omega arith, tt);
    begins = refl;
    within = omega arith;
    stops = λ ys t v fit e h. lacks (length ys) fit.0 (h ∙ ap (take 1) (sym e));
  }
  breaks filler ok ls _ (no_entry n xs rest small fit fewer split lacks) =
      let fill = replicate (n - length xs) filler in
      let whole : length (xs ++ fill) ≡ n = simp (length-append, length-replicate) (omega arith) in
      record {
        front = decimal n ∷ map (λ x. line (words x)) xs;
        rest = rest;
        more = map (λ x. line (words x)) fill;
        xs = xs ++ fill;
        split = split;
        at = ap suc (length-map xs (λ x. line (words x)));
        fit = (omega arith, All-append (Fits words mats) xs fill fit (recursion_from_All (Fits words mats) fill (All-replicate (Fits words mats) (n - length xs) filler ok)));
        begins = let m = map-append (λ x. line (words x)) xs fill in cc;
        within = omega arith;
        stops = λ ys t v fits e h.
            let d : decimal (length ys) ≡ decimal n = cc in
            let many = decimal_injective (length ys) n (omega (arith, fits.0)) (omega arith) d in
            let next = next_entry ys xs t v fits.1 (omega arith) (ap (drop 1) e) in
            lacks next.0 next.1 (h ∙ next.2);
      }
