-- Where a section breaks off, by the step that failed.
use Rattle.std.proofs.Common.{◌≡◌, ℕ, suc, ◌+◌, ◌<◌, List, [], ◌∷◌, ◌++◌, map, length, IsErrAnd, Err, decimal, Result, sym, ap, ◌∙◌, subst, append_assoc, arith}
use Rattle.std.proofs.ByRecursion.{All-push}
use Rattle.std.proofs.lemmas.List.{length_push, map_push}
use Rattle.std.proofs.lemmas.Result.{err_from_is_err_and}
use Rattle.std.specs.List.{AllByRecursion}
use Rattle.plan.specs.Lines.{Words, line, Number, Fits}
use Rattle.plan.specs.Steps.{Fails, Lacks, BrokenAt, no_count, no_entry}
use Rattle.plan.specs.declared.Fault.{Fault}
use Rattle.plan.specs.declared.Fault.TheVariants.{Malformed, NoMemory}

-- what a `?` on a fault returns
pub fault_passed : {T : Type 0} (r : Result T Fault) (e : Fault) → IsErrAnd r (λ y. y ≡ e) → r ≡ Err e
fault_passed r e h = let p = err_from_is_err_and r h in p.1 ∙ ap Err p.2

-- a fault of a step is one of the section that the step is part of
pub fails_so : (e : Fault) (here sec : ℕ) (P Q : ℕ → Type 0) → here ≡ sec → ((l : ℕ) → P l → Q l) → Fails e here P → Fails e sec Q
fails_so (Malformed s l) here sec P Q same so (p, h) = (p ∙ same, so l h)
fails_so NoMemory here sec P Q same so h = tt

module _ {X : Type 0} (words : X → Words) (mats : X → List ℕ) where
  abbrev line_of : X → List ℕ
  line_of x = line (words x)

  -- the entries read so far and what follows them
  pub record Entries (ls : List (List ℕ)) (k : ℕ) (xs : List X) (rest : List (List ℕ)) : Type 0 where
    pub fit : AllByRecursion (Fits words mats) xs
    pub many : length xs ≡ k
    pub split : ls ≡ map (λ x. line (words x)) xs ++ rest

  pub one_more_entry : {ls mid rest : List (List ℕ)} {k : ℕ} {xs ys : List X} (x : X) → Entries ls k xs mid → Fits words mats x × (mid ≡ line (words x) ∷ rest) → ys ≡ xs ++ (x ∷ []) → Entries ls (k + 1) ys rest
  one_more_entry {ls} {mid} {rest} {k} {xs} {ys} x h (fit, e) more = record {
    fit = subst (AllByRecursion (Fits words mats)) (sym more) (All-push (Fits words mats) xs x h.fit fit);
    many = omega (arith, ap length more, length_push xs x, h.many);
    split = h.split ∙ ap (λ l. map line_of xs ++ l) e ∙ sym (append_assoc (map line_of xs) (line_of x ∷ []) rest) ∙ ap (λ l. l ++ rest) (sym (ap (map line_of) more ∙ map_push line_of xs x));
  }

  pub broken_at_count : {ls : List (List ℕ)} (l : ℕ) → (l ≡ 0) × Lacks decimal Number ls → BrokenAt words mats ls l
  broken_at_count {ls} l (first, lacks) = subst (BrokenAt words mats ls) (sym first) (no_count lacks)

  pub broken_at_entry : {ls after mid : List (List ℕ)} {xs : List X} (n k : ℕ) → Number n × (ls ≡ decimal n ∷ after) → Entries after k xs mid → k < n → (l : ℕ) → (l ≡ k + 1) × Lacks line_of (Fits words mats) mid → BrokenAt words mats ls l
  broken_at_entry {ls} {after} {mid} {xs} n k (small, counted) h fewer l (at, lacks) =
      let many = h.many in
      let place : suc (length xs) ≡ l = omega arith in
      subst (BrokenAt words mats ls) place (no_entry n xs mid small h.fit (omega arith) (counted ∙ ap (λ r. decimal n ∷ r) h.split) lacks)
