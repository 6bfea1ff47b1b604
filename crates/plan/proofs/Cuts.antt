-- Cutting a text into lines, and putting the lines together again.
use Rattle.std.proofs.Common.{◌≡◌, ℕ, suc, ◌+◌, ◌<◌, ◌≤◌, Bool, true, false, cond, eqb, ◌⊎◌, List, [], ◌∷◌, ◌++◌, length, take, drop, sym, refl, ap, ◌∙◌, inl, inr, ⊎_elim, append_assoc, true-eqb, arith}
use Rattle.std.proofs.lemmas.Bool.{cond-false}
use Rattle.std.proofs.lemmas.List.{drop_more, flat_map_more, get_or-take, length-take-le, take-append-drop}
use Rattle.std.proofs.lemmas.List.Elements.{recursion_from_All}
use Rattle.std.specs.List.{onto_first, AllByRecursion, AllWithin, HoldsAt}
use Rattle.plan.specs.Format.{cut, ended}

-- no byte 10
abbrev pub Unbroken : List ℕ → Type 0
Unbroken l = AllByRecursion (λ b. eqb b 10 ≡ false) l

-- a byte 10 at the front ends an empty line, and any other byte goes in front of the first line
cut_at_break : (bs : List ℕ) → cut (10 ∷ bs) ≡ [] ∷ cut bs
cut_at_break bs = refl

cut_other : (b : ℕ) (bs : List ℕ) → eqb b 10 ≡ false → cut (b ∷ bs) ≡ onto_first b (cut bs)
cut_other b bs other = cond-false (eqb b 10) ([] ∷ cut bs) (onto_first b (cut bs)) other

-- a line that is ended
pub cut_line : (l rest : List ℕ) → Unbroken l → cut (l ++ (10 ∷ rest)) ≡ l ∷ cut rest
cut_line [] rest p = refl
cut_line (b ∷ l) rest p = cut_other b (l ++ (10 ∷ rest)) p.0 ∙ ap (onto_first b) (cut_line l rest p.1)

-- a last line that is not ended
pub cut_last : (b : ℕ) (l : List ℕ) → Unbroken (b ∷ l) → cut (b ∷ l) ≡ (b ∷ l) ∷ []
cut_last b [] p = cut_other b [] p.0
cut_last b (c ∷ l) p = cut_other b (c ∷ l) p.0 ∙ ap (onto_first b) (cut_last c l p.1)

-- a text with its first byte 10 at n
pub cut_found : (bs : List ℕ) (n : ℕ) → n < length bs → HoldsAt (λ b. b ≡ 10) bs n → AllWithin (λ b. eqb b 10 ≡ false) bs 0 n → cut bs ≡ take n bs ∷ cut (drop (n + 1) bs)
cut_found bs n within found before =
    let long = length-take-le n bs (omega arith) in
    let front = recursion_from_All (λ b. eqb b 10 ≡ false) (take n bs) (λ i d h. let less : i < n = omega arith in rw (get_or-take n bs i d less) (before i d (omega arith) less)) in
    let split : bs ≡ take n bs ++ (10 ∷ drop (n + 1) bs) = sym (take-append-drop n bs) ∙ ap (λ l. take n bs ++ l) (drop_more bs n 0 within ∙ ap (λ b. b ∷ drop (n + 1) bs) (found 0)) in
    ap cut split ∙ cut_line (take n bs) (drop (n + 1) bs) front

-- a text that is not empty and has no byte 10
pub cut_not_found : (bs : List ℕ) → 0 < length bs → AllWithin (λ b. eqb b 10 ≡ false) bs 0 (length bs) → cut bs ≡ bs ∷ []
cut_not_found [] some none = absurd (omega arith)
cut_not_found (b ∷ bs) some none =
    cut_last b bs (recursion_from_All (λ b. eqb b 10 ≡ false) (b ∷ bs) (λ i d h. none i d (omega arith) h))

-- lines without a byte 10 are cut apart again
pub cut_ended : (ls : List (List ℕ)) → AllByRecursion Unbroken ls → cut (ended ls) ≡ ls
cut_ended [] p = refl
cut_ended (l ∷ ls) p =
    ap cut (append_assoc l (10 ∷ []) (ended ls)) ∙ cut_line l (ended ls) p.0 ∙ ap (λ k. l ∷ k) (cut_ended ls p.1)

pub same_from_ended : (ks ls : List (List ℕ)) → AllByRecursion Unbroken ks → AllByRecursion Unbroken ls → ended ks ≡ ended ls → ks ≡ ls
same_from_ended ks ls p q e = sym (cut_ended ks p) ∙ ap cut e ∙ cut_ended ls q

pub cut_unbroken : (bs : List ℕ) → AllByRecursion Unbroken (cut bs)
cut_unbroken [] = tt
cut_unbroken (b ∷ bs) = by_byte (eqb b 10) refl (cut_unbroken bs)
  where
    onto : (ls : List (List ℕ)) → eqb b 10 ≡ false → AllByRecursion Unbroken ls → AllByRecursion Unbroken (onto_first b ls)
    onto [] other p = ((other, tt), tt)
    onto (l ∷ ls) other p = ((other, p.0), p.1)

    by_byte : (t : Bool) → eqb b 10 ≡ t → AllByRecursion Unbroken (cut bs) → AllByRecursion Unbroken (cond t ([] ∷ cut bs) (onto_first b (cut bs)))
    by_byte true e p = (tt, p)
    by_byte false e p = onto (cut bs) e p

-- a text is its lines, each ended, but for a last byte 10
abbrev pub Ended : List ℕ → List (List ℕ) → Type 0
Ended bs ls = (bs ≡ ended ls) ⊎ (bs ++ (10 ∷ []) ≡ ended ls)

-- a byte that does not end a line, put in front
onto_ended : (b : ℕ) (bs : List ℕ) (ls : List (List ℕ)) → Ended bs ls → Ended (b ∷ bs) (onto_first b ls)
onto_ended b [] [] h = inr refl
onto_ended b (c ∷ bs) [] h = absurd (⊎_elim (λ e. omega (arith, ap length e)) (λ e. omega (arith, ap length e)) h)
onto_ended b bs (l ∷ ls) h = ⊎_elim (λ e. inl (ap (λ k. b ∷ k) e)) (λ e. inr (ap (λ k. b ∷ k) e)) h

pub ended_cut : (bs : List ℕ) → Ended bs (cut bs)
ended_cut [] = inl refl
ended_cut (b ∷ bs) = by_byte (eqb b 10) refl (ended_cut bs)
  where
    by_byte : (t : Bool) → eqb b 10 ≡ t → Ended bs (cut bs) → Ended (b ∷ bs) (cond t ([] ∷ cut bs) (onto_first b (cut bs)))
    by_byte true e p =
        let break = true-eqb b 10 (sym e) in
        ⊎_elim (λ h. inl (λ i. break i ∷ h i)) (λ h. inr (λ i. break i ∷ h i)) p
    by_byte false e p = onto_ended b bs (cut bs) p

pub ended_more : (ls : List (List ℕ)) (l : List ℕ) → ended (ls ++ (l ∷ [])) ≡ ended ls ++ (l ++ (10 ∷ []))
ended_more ls l = sym (flat_map_more (λ k. k ++ (10 ∷ [])) [] ls l)

-- a text has no more lines than bytes
pub length-cut_le : (bs : List ℕ) → length (cut bs) ≤ length bs
length-cut_le [] = omega arith
length-cut_le (b ∷ bs) = by_byte (eqb b 10) (length-cut_le bs)
  where
    onto : (ls : List (List ℕ)) → length (onto_first b ls) ≤ suc (length ls)
    onto [] = omega arith
    onto (l ∷ ls) = omega arith

    by_byte : (t : Bool) → length (cut bs) ≤ length bs → length (cond t ([] ∷ cut bs) (onto_first b (cut bs))) ≤ suc (length bs)
    by_byte true p = omega arith
    by_byte false p = omega (arith, onto (cut bs))
