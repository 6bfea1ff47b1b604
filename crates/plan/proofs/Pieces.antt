-- The fields of a line's tail are its pieces between blanks, after an empty first one.
use Rattle.std.proofs.Common.{◌≡◌, ℕ, zero, suc, ◌<◌, eqb, List, [], ◌∷◌, ◌++◌, map, length, get_or, drop, decimal, Option, Some, None, Bor, sym, refl, ap, ◌∙◌, subst, append_assoc, append-nil, arith}
use Rattle.std.proofs.ByRecursion.{All-push}
use Rattle.std.proofs.lemmas.List.{map_push, nil_from_length}
use Rattle.std.proofs.lemmas.Iterator.{YieldsList}
use Rattle.std.proofs.lemmas.Iterator.Consumers.{YieldsList-turn, YieldsList-end}
use Rattle.std.specs.Iterator.{Yields}
use Rattle.std.proofs.lemmas.Fmt.{decimal_injective}
use Rattle.std.proofs.lemmas.List.Splits.{slice_split_none, slice_split_at, join_with_byte-slice_split}
use Rattle.std.specs.List.{slice_split, join_with_byte}
use Rattle.plan.specs.Lines.{fields, Number, Numbers}
use Rattle.plan.proofs.Decimals.{decimal_lacks}
use Rattle.plan.proofs.Mapped.{same_from_map}

abbrev pub pieces : List ℕ → List (List ℕ)
pieces tail = slice_split (λ b. eqb b 32) tail

pieces_of_numbers : (n : ℕ) (ns : List ℕ) → Number n → Numbers ns → pieces (decimal n ++ fields ns) ≡ map decimal (n ∷ ns)
pieces_of_numbers n [] small others =
    ap pieces (append-nil (decimal n)) ∙ slice_split_none (λ b. eqb b 32) (decimal n) (decimal_lacks n 32 small (λ h. omega arith))
pieces_of_numbers n (m ∷ ns) small others =
    slice_split_at (λ b. eqb b 32) (decimal n) 32 (decimal m ++ fields ns) (decimal_lacks n 32 small (λ h. omega arith)) refl
    ∙ ap (λ l. decimal n ∷ l) (pieces_of_numbers m ns others.0 others.1)

pub pieces_of_fields : (ns : List ℕ) → Numbers ns → pieces (fields ns) ≡ [] ∷ map decimal ns
pieces_of_fields [] small = refl
pieces_of_fields (n ∷ ns) small = ap (λ l. [] ∷ l) (pieces_of_numbers n ns small.0 small.1)

joined_numbers : (n : ℕ) (ns : List ℕ) → join_with_byte 32 (map decimal (n ∷ ns)) ≡ decimal n ++ fields ns
joined_numbers n [] = sym (append-nil (decimal n))
joined_numbers n (m ∷ ns) = ap (λ l. decimal n ++ (32 ∷ l)) (joined_numbers m ns)

joined_fields : (ns : List ℕ) → join_with_byte 32 ([] ∷ map decimal ns) ≡ fields ns
joined_fields [] = refl
joined_fields (n ∷ ns) = ap (λ l. 32 ∷ l) (joined_numbers n ns)

pub fields_of_pieces : (tail ns : List ℕ) → [] ∷ map decimal ns ≡ pieces tail → fields ns ≡ tail
fields_of_pieces tail ns e =
    sym (joined_fields ns) ∙ ap (join_with_byte 32) e ∙ join_with_byte-slice_split 32 tail

pub fields_append : (ms ns : List ℕ) → fields (ms ++ ns) ≡ fields ms ++ fields ns
fields_append [] ns = refl
fields_append (m ∷ ms) ns =
    ap (λ l. 32 ∷ (decimal m ++ l)) (fields_append ms ns) ∙ ap (λ l. 32 ∷ l) (sym (append_assoc (decimal m) (fields ms) (fields ns)))

pub same_from_fields : (ms ns : List ℕ) → Numbers ms → Numbers ns → fields ms ≡ fields ns → ms ≡ ns
same_from_fields ms ns p q e =
    same_from_map decimal Number (λ m n small few same. decimal_injective m n (omega arith) (omega arith) same) ms ns p q
    (ap (drop 1) (sym (pieces_of_fields ms p) ∙ ap pieces e ∙ pieces_of_fields ns q))

number_at : (ns : List ℕ) (k : ℕ) (field : List ℕ) → Numbers ns → k < length (map decimal ns) → field ≡ get_or (map decimal ns) k field → (n : ℕ) × Number n × (decimal n ≡ field)
number_at [] k field small within e = absurd (omega arith)
number_at (n ∷ ns) zero field small within e = (n, small.0, sym e)
number_at (n ∷ ns) (suc k) field small within e = number_at ns k field small.1 (omega arith) e

-- one more field is read
pub one_more : (items : List ℕ) {longer : List ℕ} (given : List (Bor (List ℕ))) (n : ℕ) (x : Bor (List ℕ)) → Numbers items × (map decimal items ≡ map (λ piece. piece.now) given) → Number n × (decimal n ≡ x.now) → longer ≡ items ++ (n ∷ []) → Numbers longer × (map decimal longer ≡ map (λ piece. piece.now) (given ++ (x ∷ [])))
one_more items given n x (small, same) (fits, e) more = (
  subst Numbers (sym more) (All-push Number items n small fits),
  ap (map decimal) more ∙ map_push decimal items n ∙ (λ i. same i ++ (e i ∷ [])) ∙ sym (map_push (λ piece. piece.now) given x),
)

-- a tail that is split at its blanks
module _ {S : Type 0} {steps : S → Option (Bor (List ℕ)) → S → Type 0} {s : S} {tail : List ℕ} (road : YieldsList steps (λ piece. piece.now) s (pieces tail)) where
  pieces_are : (ns : List ℕ) → Numbers ns → fields ns ≡ tail → pieces tail ≡ [] ∷ map decimal ns
  pieces_are ns small e = sym (ap pieces e) ∙ pieces_of_fields ns small

  -- the first piece of fields is empty
  pub first_given : (r : Option (Bor (List ℕ))) {u : S} → steps s r u → (ns : List ℕ) → Numbers ns → fields ns ≡ tail → (x : Bor (List ℕ)) × (r ≡ Some x) × (length x.now ≡ 0)
  first_given None {u} step ns small e =
      absurd (omega (arith, (YieldsList-end road [] s refl None u refl step).1, ap length (pieces_are ns small e)))
  first_given (Some x) {u} step ns small e =
      let turn = YieldsList-turn road [] s refl (Some x) u x refl step in
      (x, refl, ap length (turn.1 ∙ ap (λ p. get_or p 0 x.now) (pieces_are ns small e)))

  -- what comes after the first piece and these others
  module _ (first : Bor (List ℕ)) (others : List (Bor (List ℕ))) {j k t : S} (u : S) {r : Option (Bor (List ℕ))} (begun : steps s (Some first) j) (same : k ≡ j) (run : Yields steps k others t) (step : steps t r u) where
    pub all_read : (ns : List ℕ) → r ≡ None → length first.now ≡ 0 → map decimal ns ≡ map (λ piece. piece.now) others → fields ns ≡ tail
    all_read ns end empty read =
        let whole = YieldsList-end road (first ∷ others) t (j, begun, subst (λ i. Yields steps i others t) same run) r u end step in
        fields_of_pieces tail ns ((λ i. sym (nil_from_length first.now empty) i ∷ read i) ∙ whole.0)

    -- a later piece is the number of a field
    pub number_given : (x : Bor (List ℕ)) → r ≡ Some x → (ns : List ℕ) → Numbers ns → fields ns ≡ tail → (n : ℕ) × Number n × (decimal n ≡ x.now)
    number_given x some ns small e =
        let p = pieces_are ns small e in
        let turn = YieldsList-turn road (first ∷ others) t (j, begun, subst (λ i. Yields steps i others t) same run) r u x some step in
        number_at ns (length others) x.now small (omega (arith, turn.0, ap length p)) (turn.1 ∙ ap (λ l. get_or l (suc (length others)) x.now) p)
