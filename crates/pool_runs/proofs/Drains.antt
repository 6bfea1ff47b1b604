-- One element more is drained.
use Rattle.std.proofs.Common.{◌≡◌, ℕ, ◌+◌, ◌<◌, Bool, false, List, length, get_or, set, Some, arith}
use Rattle.std.proofs.lemmas.List.{take_more_set, get_or-set_same, get_or-set_other}
use Rattle.std.proofs.lemmas.List.Sorted.{IsPermutation-pop_more}
use Rattle.pool.specs.declared.Ordered.{Ghosts as OrderedGhosts}
use Rattle.pool.specs.declared.Pool.{Pool}
use Rattle.pool.specs.Contents.{contents, Taken}
use Rattle.pool.specs.Elements.{First}
use Rattle.pool.proofs.Uses.{taken_holds, each_after_take, rest_after_taken}
use Rattle.pool_runs.specs.Drained.{Drained}

module _ {X : Type 0} {o : OrderedGhosts X} (before : X → X → Bool) where
  pub drained_more : (s p q : Pool X o) (out : List X) (n : ℕ) (x : X) → n < length out → Taken before p q (Some x) → Drained before s p out n → Drained before s q (set out n x) (n + 1)
  drained_more s p q out n x lt h w =
      let ys : List X = set out n x in
      let fresh : (d : X) → get_or ys n d ≡ x = λ d. get_or-set_same out n x d lt in
      let kept : (k : ℕ) (d : X) → k < n → get_or ys k d ≡ get_or out k d = λ k d l. get_or-set_other out n k x d (λ e. omega arith) in
      let next : (k : ℕ) (d : X) → k < n → before x (get_or out k d) ≡ false = λ k d l. taken_holds (λ y. before y (get_or out k d) ≡ false) before p q x h (w.later k d l) in
      let later : (k : ℕ) (d : X) → k < n → First before (get_or out k d) (contents q) = λ k d l. each_after_take (λ y. before y (get_or out k d) ≡ false) before p q (Some x) h (w.later k d l) in
      record {
        all = rw (take_more_set out n x lt) (IsPermutation-pop_more _ _ _ _ x w.all h.1);
        order = λ k d l b. grind (arith, fresh d, kept k d, kept (k + 1) d, next k d, w.order k d l);
        later = λ k d l j e b. grind (arith, fresh d, kept k d, rest_after_taken before p q x h j e b, λ (m : k < n). later k d m j e b);
      }
