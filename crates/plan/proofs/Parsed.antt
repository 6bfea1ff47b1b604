-- From a line's letter and numbers to its entry.
use Rattle.std.proofs.Common.{◌≡◌, ℕ, List, ◌∷◌, drop, Some, None, Option, sym, ap, ◌∙◌}
use Rattle.plan.specs.Lines.{Words, fields, line, Numbers, Fits}
use Rattle.plan.specs.Steps.{Reads}
use Rattle.plan.proofs.Pieces.{same_from_fields}

-- two lines that agree have the same letter and numbers
pub same_from_line : (v w : Words) → Numbers v.1 → Numbers w.1 → line v ≡ line w → v ≡ w
same_from_line v w p q e =
    let letter : v.0 ≡ w.0 = cc in
    let numbers = same_from_fields v.1 w.1 p q (ap (drop 1) e) in
    λ i. (letter i, numbers i)

module _ {X : Type 0} (words : X → Words) (mats : X → List ℕ) {text tail : List ℕ} {letter : ℕ} (split : text ≡ letter ∷ tail) where
  -- where the rest of a line is no numbers, the line is no entry's
  pub no_words : ((ns : List ℕ) → Numbers ns → fields ns ≡ tail → ⊥) → (x : X) → Fits words mats x → line (words x) ≡ text → ⊥
  no_words none x fit e = none (words x).1 fit.0 (ap (drop 1) (e ∙ split))

  -- where it is numbers, the line is that of the entry which the letter and the numbers say
  pub entry_read : (ns : List ℕ) → Numbers ns × (fields ns ≡ tail) → (p : Option X) → Reads words (Fits words mats) (letter, ns) p → Reads (λ x. line (words x)) (Fits words mats) text p
  entry_read ns (small, e) (Some x) (fit, same) = (fit, ap line same ∙ ap (λ l. letter ∷ l) e ∙ sym split)
  entry_read ns (small, e) None none =
      λ x fit same. none x fit (same_from_line (words x) (letter, ns) fit.0 small (same ∙ split ∙ ap (λ l. letter ∷ l) (sym e)))
