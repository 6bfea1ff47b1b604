-- The places of a table with marks, one by one.
use Rattle.std.proofs.Common.{◌≡◌, ℕ, zero, suc, ◌+◌, ◌<◌, ◌≤◌, Bool, true, false, List, [], ◌∷◌, ◌++◌, length, get_or, take, replicate, Some, None, Option, refl, ap, ◌∙◌, arith, length-append, sym, subst, inr, ◌⊎◌}
use Rattle.std.specs.Bool.{then_some}
use Rattle.std.specs.Iterator.{YieldsFirst, item_count, MakesProgress}
use Rattle.std.proofs.Math.ListN.{get_or-eq_default}
use Rattle.std.proofs.lemmas.List.{take_more}
use Rattle.traffic.specs.declared.Row.{Row}
use Rattle.verdict.specs.Members.{marked, present, kinds}

module _ {K S : Type 0} where
  pub length_marked : (rs : List (Row K S)) (bs : List Bool) → length (marked rs bs) ≡ length rs
  length_marked [] bs = refl
  length_marked (r ∷ rs) [] = ap suc (length_marked rs [])
  length_marked (r ∷ rs) (b ∷ bs) = ap suc (length_marked rs bs)

  -- a place for each row, and one more
  pub length-places : (rs : List (Row K S)) (bs : List Bool) (o : Option K) → length (marked rs bs ++ o ∷ []) ≡ length rs + 1
  length-places rs bs o = simp length-append (omega (arith, length_marked rs bs))

  -- a row's channel, where its mark is true
  pub marked_at : (rs : List (Row K S)) (bs : List Bool) (i : ℕ) (o : Option K) (r : Row K S) (mark : Bool) → i < length rs → i < length bs → r ≡ get_or rs i r → mark ≡ get_or bs i mark → get_or (marked rs bs ++ o ∷ []) i None ≡ then_some mark r.kind
  marked_at [] bs i o r mark inside marks row is = absurd (omega arith)
  marked_at (x ∷ rs) [] i o r mark inside marks row is = absurd (omega arith)
  marked_at (x ∷ rs) (true ∷ bs) zero o r mark inside marks row is = rw (is, row) refl
  marked_at (x ∷ rs) (false ∷ bs) zero o r mark inside marks row is = rw is refl
  marked_at (x ∷ rs) (b ∷ bs) (suc i) o r mark inside marks row is = marked_at rs bs i o r mark (omega arith) (omega arith) row is

  -- none counts where the mark is missing
  pub unmarked_at : (rs : List (Row K S)) (bs : List Bool) (i : ℕ) (o : Option K) → i < length rs → length bs ≤ i → get_or (marked rs bs ++ o ∷ []) i None ≡ None
  unmarked_at [] bs i o inside past = absurd (omega arith)
  unmarked_at (r ∷ rs) [] zero o inside past = refl
  unmarked_at (r ∷ rs) [] (suc i) o inside past = unmarked_at rs [] i o (omega arith) (omega arith)
  unmarked_at (r ∷ rs) (b ∷ bs) zero o inside past = absurd (omega arith)
  unmarked_at (r ∷ rs) (b ∷ bs) (suc i) o inside past = unmarked_at rs bs i o (omega arith) (omega arith)

  -- after the rows comes the one more
  pub more_at : (rs : List (Row K S)) (bs : List Bool) (i : ℕ) (o : Option K) → i ≡ length rs → get_or (marked rs bs ++ o ∷ []) i None ≡ o
  more_at [] bs i o e = rw e
  more_at (r ∷ rs) bs zero o e = absurd (omega arith)
  more_at (r ∷ rs) [] (suc i) o e = more_at rs [] i o (omega arith)
  more_at (r ∷ rs) (b ∷ bs) (suc i) o e = more_at rs bs i o (omega arith)

  -- and then none
  pub none_at : (rs : List (Row K S)) (bs : List Bool) (i : ℕ) (o : Option K) → length rs < i → get_or (marked rs bs ++ o ∷ []) i None ≡ None
  none_at rs bs i o h = get_or-eq_default _ None {n = i} (omega (arith, length-places rs bs o))

-- the channel at a place, as a list
abbrev pub one : {K : Type 0} → Option K → List K
one None = []
one (Some k) = k ∷ []

pub present_push : {K : Type 0} (os : List (Option K)) (o : Option K) → present (os ++ o ∷ []) ≡ present os ++ one o
present_push [] None = refl
present_push [] (Some k) = refl
present_push (None ∷ os) o = present_push os o
present_push (Some k ∷ os) o = ap (λ ks. k ∷ ks) (present_push os o)

-- where the first n rows are marked, they count
pub marked_all : {K S : Type 0} (rs : List (Row K S)) (n : ℕ) → present (marked rs (replicate n true)) ≡ kinds (take n rs)
marked_all [] zero = refl
marked_all [] (suc n) = refl
marked_all (r ∷ rs) zero = marked_all rs zero
marked_all (r ∷ rs) (suc n) = ap (λ ks. r.kind ∷ ks) (marked_all rs n)

-- the channels of one place more
pub present_more : {K : Type 0} (os : List (Option K)) (i : ℕ) → i < length os → present (take (i + 1) os) ≡ present (take i os) ++ one (get_or os i None)
present_more os i inside = ap present (take_more os i None inside) ∙ present_push (take i os) (get_or os i None)

-- where the rows or the marks are at their end, only the one more is left
pub last_left : {K S : Type 0} (rs : List (Row K S)) (bs : List Bool) (o : Option K) → (length rs ≡ 0) ⊎ (length bs ≡ 0) → present (marked rs bs ++ o ∷ []) ≡ one o
last_left [] bs None end = refl
last_left [] bs (Some k) end = refl
last_left (r ∷ rs) [] o end = last_left rs [] o (inr refl)
last_left (r ∷ rs) (b ∷ bs) o end = absurd (omega arith)

module _ {S K : Type 0} (left : S → List K) (s t : S) where
  yields_it : (o : Option K) → left s ≡ one o → left t ≡ [] → YieldsFirst left s o t
  yields_it None is then = (is, then)
  yields_it (Some k) is then = is ∙ ap (λ ks. k ∷ ks) (sym then)

  -- it is taken, and nothing is left
  pub yields_last : (o r : Option K) → r ≡ o → left s ≡ one o → left t ≡ [] → YieldsFirst left s r t
  yields_last o r same is then = subst (λ x. YieldsFirst left s x t) (sym same) (yields_it o is then)

  goes_it : (o : Option K) → left s ≡ one o → left t ≡ [] → MakesProgress (λ _. Unit {0}) (item_count left) s o t
  goes_it None is then = record { on = λ _. tt; keeps = tt; rests = λ f. tt }
  goes_it (Some k) is then = record { on = λ _. (tt, tt, omega (arith, ap length is, ap length then)); keeps = tt; rests = λ _. tt }

  pub goes_last : (o r : Option K) → r ≡ o → left s ≡ one o → left t ≡ [] → MakesProgress (λ _. Unit {0}) (item_count left) s r t
  goes_last o r same is then = subst (λ x. MakesProgress (λ _. Unit {0}) (item_count left) s x t) (sym same) (goes_it o is then)
