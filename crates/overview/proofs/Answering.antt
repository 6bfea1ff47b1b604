-- What `filter_map` and `min` give where a relation says what each call answers.
use denote.Param.Members.{Mut}
use Rattle.std.proofs.Common.{◌≡◌, ℕ, min, List, [], ◌∷◌, ◌++◌, Some, None, Option, MatchOption, filter_map, is_some, true, false, refl, sym, ap, ◌∙◌, subst, fold, arith}
use Rattle.std.specs.Fn.{Called}
use Rattle.std.specs.Iterator.{AlwaysYields, Yields, Drains, PicksByCmp}
use Rattle.std.specs.Iterator.Adapters.{filter_map_source, filter_map_callee, filter_map_steps}
use Rattle.std.specs.List.{AllZip, FoldsTo, reduce}
use Rattle.std.specs.Ordering.{nat_cmp, min_by_ordering}
use mathlib.Core.Bool.{true≢false}
use Rattle.std.specs.declared.iter.FilterMap.{FilterMap}
use Rattle.std.specs.declared.cmp.Ordering.{Ordering}
use Rattle.std.specs.declared.cmp.Ordering.TheVariants.{Less, Equal, Greater}
use Rattle.std.proofs.lemmas.Cmp.{ranked}
use Rattle.std.proofs.lemmas.Iterator.{YieldsList}

-- each item has an answer, and ys are those that there are
abbrev pub Answered : {B C : Type 0} → (B → Option C → Type 0) → List B → List C → Type 0
Answered {C = C} R all ys = (os : List (Option C)) × AllZip R all os × (ys ≡ filter_map (λ o. o) os)

module _ {S A B C F : Type 0} (steps : S → Option A → S → Type 0) (v : A → B) (g : Mut F (A × Unit {0}) (Option C)) (R : B → Option C → Type 0) (f : F)
    (k : (x : A) (r : Option C) (q : F) → Called g f (x, tt) r q → (q ≡ f) × R (v x) r) where
  ended : (more : List B) (t u : S) → AlwaysYields steps v t more → steps t None u → more ≡ []
  ended [] t u e p = refl
  ended (y ∷ ys) t u e p = absurd (e.0 u p)

  went : (more : List B) (t u : S) (x : A) → AlwaysYields steps v t more → steps t (Some x) u → (ys : List B) × (more ≡ v x ∷ ys) × AlwaysYields steps v u ys
  went [] t u x e p = absurd (e x u p)
  went (y ∷ ys) t u x e p = let n = e.1 x u p in (ys, ap (λ w. w ∷ ys) (sym n.0), n.1)

  -- beyond the first of all, whose answers are before, more is left
  abbrev Passed : List B → List C → F → S → Type 0
  Passed all before q t = (more : List B) × (q ≡ f) × AlwaysYields steps v t more × ((ys : List C) → Answered R more ys → Answered R all (before ++ ys))

  passed : (xs : List A) (all : List B) (s t : S) (p q : F) → p ≡ f → AlwaysYields steps v s all → Yields steps s xs t → FoldsTo (λ w x z. Called g w (x, tt) None z) p xs q → Passed all [] q t
  passed [] all s t p q a e y c = (all, sym c ∙ a, subst (λ u. AlwaysYields steps v u all) y e, λ ys w. w)
  passed (x ∷ xs) [] s t p q a e y c = absurd (e x y.0 y.1)
  passed (x ∷ xs) (z ∷ zs) s t p q a e y c =
      let n = e.1 x y.0 y.1 in
      let d = k x None c.0 (subst (λ w. Called g w (x, tt) None c.0) a c.1) in
      let m = passed xs zs y.0 t c.0 q d.0 n.1 y.2 c.2 in
      (m.0, m.1, m.2, λ ys w. let u = m.3 ys w in (None ∷ u.0, (subst (λ b. R b None) n.0 d.1, u.1), u.2))

  one_answer : (all : List B) (s j : FilterMap S F) (y : C) → filter_map_callee s ≡ f → AlwaysYields steps v (filter_map_source s) all → filter_map_steps steps g s (Some y) j → Passed all (y ∷ []) (filter_map_callee j) (filter_map_source j)
  one_answer all s j y a e p = cases p.1 p.3.2 p.5
    where
      m : Passed all [] p.2 p.3.0
      m = passed p.0 all (filter_map_source s) p.3.0 (filter_map_callee s) p.2 a e p.3.1 p.4

      cases : (o : Option A) → steps p.3.0 o (filter_map_source j) → MatchOption o ((Some y ≡ None) × (filter_map_callee j ≡ p.2)) (λ x. Called g p.2 (x, tt) (Some y) (filter_map_callee j) × (true ≡ true))
          → Passed all (y ∷ []) (filter_map_callee j) (filter_map_source j)
      cases None _ c = absurd (true≢false (ap is_some c.0))
      cases (Some x) step c =
          let w = went m.0 p.3.0 (filter_map_source j) x m.2 step in
          let d = k x (Some y) (filter_map_callee j) (subst (λ z. Called g z (x, tt) (Some y) (filter_map_callee j)) m.1 c.0) in
          (w.0, d.0, w.2, λ ys u. m.3 (y ∷ ys) (subst (λ l. Answered R l (y ∷ ys)) (sym w.1) (Some y ∷ u.0, (d.1, u.1), ap (λ l. y ∷ l) u.2)))

  no_answer : (all : List B) (s j : FilterMap S F) → filter_map_callee s ≡ f → AlwaysYields steps v (filter_map_source s) all → filter_map_steps steps g s None j → Answered R all []
  no_answer all s j a e p = m.3 [] (cases _ _ p.1 p.3.2 p.5)
    where
      m : Passed all [] p.2 p.3.0
      m = passed p.0 all (filter_map_source s) p.3.0 (filter_map_callee s) p.2 a e p.3.1 p.4

      cases : (P : Type 0) (Q : A → Type 0) (o : Option A) → steps p.3.0 o (filter_map_source j) → MatchOption o P (λ x. Q x × (false ≡ true)) → Answered R m.0 []
      cases P Q None step _ = subst (λ l. Answered R l []) (sym (ended m.0 p.3.0 (filter_map_source j) m.2 step)) ([], tt, refl)
      cases P Q (Some x) _ c = absurd (true≢false (sym c.1))

  answers : (ys : List C) (all : List B) (s : FilterMap S F) → filter_map_callee s ≡ f → AlwaysYields steps v (filter_map_source s) all → Drains (filter_map_steps steps g) s ys → Answered R all ys
  answers [] all s a e d = no_answer all s d.0 a e (subst (λ u. filter_map_steps steps g u None d.0) (sym d.1.1) d.1.2)
  answers (y ∷ ys) all s a e d =
      let next = d.1.1 in
      let m = one_answer all s next.0 y a e next.1 in
      m.3 ys (answers ys m.0 next.0 m.1 m.2 (d.0, (d.1.0, next.2, d.1.2)))

module _ (p z : ℕ) where
  lesser : (o : Ordering) → nat_cmp p z ≡ o → min_by_ordering o p z ≡ min p z
  lesser Less e = omega (arith, ranked p z Less (sym e))
  lesser Equal e = omega (arith, ranked p z Equal (sym e))
  lesser Greater e = omega (arith, ranked p z Greater (sym e))

folded_min : (x : ℕ) (xs : List ℕ) (y : ℕ) → FoldsTo (λ p z c. c ≡ min_by_ordering (nat_cmp p z) p z) x xs y → y ≡ fold min x xs
folded_min x [] y h = sym h
folded_min x (z ∷ zs) y h = folded_min h.0 zs y h.2 ∙ ap (λ w. fold min w zs) (h.1 ∙ lesser x z _ refl)

-- `min` is the least of some run to the end
least_of_run : {S : Type 0} (steps : S → Option ℕ → S → Type 0) (s : S) (r : Option ℕ) → PicksByCmp steps min_by_ordering nat_cmp s r → (ys : List ℕ) × Drains steps s ys × (r ≡ reduce min ys)
least_of_run steps s None h = ([], h, refl)
least_of_run steps s (Some y) h = (h.0 ∷ h.1, h.2, ap Some (folded_min h.0 h.1 y h.3))

-- `min` after `filter_map`, from the clause `ran`
pub least_answer : {S A B F : Type 0} {steps : S → Option A → S → Type 0} {g : Mut F (A × Unit {0}) (Option ℕ)} {f : F} {v : A → B} {all : List B} (s : FilterMap S F) (r : Option ℕ)
    → PicksByCmp (filter_map_steps steps g) min_by_ordering nat_cmp s r → YieldsList steps v (filter_map_source s) all → filter_map_callee s ≡ f
    → (R : B → Option ℕ → Type 0) → ((x : A) (o : Option ℕ) (q : F) → Called g f (x, tt) o q → (q ≡ f) × R (v x) o) → (os : List (Option ℕ)) × AllZip R all os × (reduce min (filter_map (λ o. o) os) ≡ r)
least_answer {steps = steps} {g} {f} {v} {all} s r ran yields is R k =
    let run = least_of_run (filter_map_steps steps g) s r ran in
    let found = answers steps v g R f k run.0 all s is yields.runs run.1 in
    (found.0, found.1, sym (run.2 ∙ ap (reduce min) found.2))
