-- For callers: what stays true of each element over `put` and `take`, and which element is taken.
use Rattle.std.proofs.Common.{◌≡◌, Bool, false, [], ◌∷◌, length, take, Some, None, Ok, Err, Option, Result, sym, ap, subst}
use Rattle.std.specs.List.{All}
use Rattle.std.proofs.lemmas.List.{length-take-le}
use Rattle.std.proofs.lemmas.List.Elements.{All-cons, All-head, All-tail}
use Rattle.std.proofs.lemmas.List.Sorted.{All-permutation}
use Rattle.pool.specs.declared.Ordered.{Ghosts as OrderedGhosts}
use Rattle.pool.specs.declared.Pool.{Pool}
use Rattle.pool.specs.Contents.{contents, Put, Taken}
use Rattle.pool.specs.Elements.{First}

-- there are as many elements as the count says
pub contents_length : {X : Type 0} {o : OrderedGhosts X} (p : Pool X o) → length (contents p) ≡ p.count
contents_length p = length-take-le p.count p.places.now p.fits

pub contents_none : {X : Type 0} {o : OrderedGhosts X} (p : Pool X o) → p.count ≡ 0 → contents p ≡ []
contents_none p e = ap (λ n. take n p.places.now) e

module _ {X : Type 0} {o : OrderedGhosts X} where
  module _ (P : X → Type 0) where
    -- what holds of all and of the new one holds of all after `put`
    pub each_after_put : {U : Type 0} (x : X) (p q : Pool X o) (r : Result U X) → Put x p q r → P x → All P (contents p) → All P (contents q)
    each_after_put x p q (Ok _) h px e = All-permutation P (x ∷ contents p) (contents q) h.2 (All-cons P x (contents p) px e)
    each_after_put x p q (Err y) h px e = subst (λ s. All P (contents s)) (sym h.2) e

    module _ (before : X → X → Bool) (p q : Pool X o) where
      -- what holds of all before `take` holds of the one taken and of the rest
      both_taken : (x : X) → Taken before p q (Some x) → All P (contents p) → All P (x ∷ contents q)
      both_taken x h e = All-permutation P (contents p) (x ∷ contents q) h.1 e

      pub taken_holds : (x : X) → Taken before p q (Some x) → All P (contents p) → P x
      taken_holds x h e = All-head P x (contents q) (both_taken x h e)

      pub each_after_take : (r : Option X) → Taken before p q r → All P (contents p) → All P (contents q)
      each_after_take (Some x) h e = All-tail P x (contents q) (both_taken x h e)
      each_after_take None h e = subst (λ s. All P (contents s)) (sym h.1) e

  module _ (before : X → X → Bool) where
    -- none of all goes before the one taken
    pub taken_first : (p q : Pool X o) (x : X) → Taken before p q (Some x) → First before x (contents p)
    taken_first p q x h = h.2

    -- nor does any of the rest
    pub rest_after_taken : (p q : Pool X o) (x : X) → Taken before p q (Some x) → First before x (contents q)
    rest_after_taken p q x h = each_after_take (λ y. before y x ≡ false) before p q (Some x) h h.2
