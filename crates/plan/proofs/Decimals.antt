-- What a field may hold: the digits of a number, and no other bytes.
use Rattle.std.proofs.Common.{◌≡◌, ℕ, zero, suc, ◌<◌, false, eqb, List, [], ◌∷◌, length, get_or, Some, None, Ok, Err, IsUtf8, decimal, Result, sym, ap, ◌∙◌, subst, inl, inr, ⊎_elim, arith}
use Rattle.std.proofs.lemmas.Fmt.{parse-decimal, IsAscii-decimal, decimal_digit, decimal_is_IsNumeral, decimal-digits_value, first_decimal}
use Rattle.std.proofs.lemmas.Str.Parse.{IsNumeralModel, digit_at, numerals_by_value, parse_plain, tells_digits}
use Rattle.std.proofs.lemmas.List.{get_or_default}
use Rattle.std.proofs.lemmas.Bool.{cases_lt, ne_eqb}
use Rattle.std.proofs.lemmas.Str.{IsUtf8-from_ascii}
use Rattle.std.proofs.lemmas.Option.{none-some, same_Some}
use Rattle.std.specs.Result.{MatchResult, result_ok}
use Rattle.std.specs.Str.Parse.{AllDigits, ParsesUnsigned, digits_value}
use Rattle.std.specs.Int.{IsInRange}
use Rattle.std.specs.List.{All}
use Rattle.plan.specs.Lines.{Number}
use Rattle.plan.specs.Steps.{Padded, Reads}

own : IsNumeralModel (AllDigits 10) (digits_value 10)
own = numerals_by_value (AllDigits 10) tells_digits

-- a byte of a decimal number is a digit
pub digit_in_decimal : (n : ℕ) → Number n → (i : ℕ) → i < length (decimal n) → IsInRange 48 57 (get_or (decimal n) i 0)
digit_in_decimal n small i h = digit_at (decimal n) i (decimal_is_IsNumeral n (omega arith)).0.1 h

pub decimal_lacks : (n b : ℕ) → Number n → (IsInRange 48 57 b → ⊥) → All (λ x. eqb x b ≡ false) (decimal n)
decimal_lacks n b small other i d h =
    ne_eqb (get_or (decimal n) i d) b (λ e. other (subst (IsInRange 48 57) (get_or_default (decimal n) i 0 d h ∙ e) (digit_in_decimal n small i h)))

pub unpadded_decimal : (n : ℕ) → Number n → Padded (decimal n) → ⊥
unpadded_decimal n small (inl (some, sign)) = omega (arith, digit_in_decimal n small 0 some)
unpadded_decimal zero small (inr (long, led)) = omega (arith, ap length (decimal_digit 0 (omega arith)))
unpadded_decimal (suc n) small (inr (long, led)) = omega (arith, first_decimal (suc n) (omega arith) (omega arith))

pub utf8_decimal : (n : ℕ) → Number n → IsUtf8 (decimal n)
utf8_decimal n small = IsUtf8-from_ascii (decimal n) (IsAscii-decimal n (omega arith))

-- a parsed field with no sign and no leading zero
pub number_parsed : {E : Type 0} (bs : List ℕ) (r : Result ℕ E) → ParsesUnsigned 32 10 bs r → (Padded bs → ⊥) → Reads decimal Number bs (result_ok r)
number_parsed {E} bs (Ok x) h unpadded =
    let read = parse_plain own {E = E} 32 bs (Ok x) h (unsigned bs unpadded) in
    let unled : get_or bs 0 0 ≡ 48 → length bs ≡ 1 = λ e. ⊎_elim (λ more. absurd (unpadded (inr (more, e)))) (λ one. omega (arith, read.0.1)) (cases_lt 1 (length bs)) in
    (omega (arith, read.0.2, read.1), ap decimal read.1 ∙ decimal-digits_value own bs read.0.0 read.0.1 unled (omega (arith, read.0.2)))
  where
    unsigned : (bs : List ℕ) → (Padded bs → ⊥) → get_or bs 0 0 ≡ 43 → ⊥
    unsigned [] other e = omega arith
    unsigned (b ∷ bs) other e = other (inl (omega arith, e))
number_parsed {E} bs (Err d) h unpadded = λ n small e. let z = parse-decimal 32 n bs (Err d) small (omega arith) (sym e) h in cc

-- what `ok` keeps of a result
pub matched_some : {T E : Type 0} (r : Result T E) (P : T → Type 0) (Q : E → Type 0) → MatchResult r P Q → (x : T) → result_ok r ≡ Some x → P x
matched_some (Ok y) P Q h x e = subst P (same_Some y x e) h
matched_some (Err d) P Q h x e = absurd (none-some x e)

pub matched_none : {T E : Type 0} (r : Result T E) (P : T → Type 0) (Q : E → Type 0) → MatchResult r P Q → result_ok r ≡ None → (d : E) × Q d
matched_none (Ok y) P Q h e = absurd (none-some y (sym e))
matched_none (Err d) P Q h e = (d, h)
