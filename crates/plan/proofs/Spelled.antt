-- A plan that is written out is cut into its lines again.
use Rattle.std.proofs.Common.{◌≡◌, ℕ, ◌<◌, false, eqb, List, [], ◌∷◌, ◌++◌, map, length, decimal, sym, refl, ap, ◌∙◌, subst, ⊎_elim, arith}
use Rattle.std.proofs.lemmas.Fmt.{decimal_nonempty}
use Rattle.std.proofs.ByRecursion.{All-append, all-has, All-weaker, has_push}
use Rattle.std.proofs.lemmas.List.Elements.{recursion_from_All}
use Rattle.std.specs.List.{AllByRecursion}
use Rattle.traffic.specs.declared.bucket.Bucket.{Bucket}
use Rattle.traffic.specs.declared.mixture.Mixture.{Mixture}
use Rattle.traffic.specs.declared.mixture.Mixture.TheVariants.{First, Second}
use Rattle.traffic.specs.declared.spaced.Spaced.{Spaced}
use Rattle.plan.specs.Format.{Script, lines, section, cut, FitSection, InRange}
use Rattle.plan.specs.Lines.{Words, fields, line, longest_words, kind_words, channel_words, channel_mats, call_words, call_mats, Number, Numbers, Fits}
use Rattle.plan.specs.Reading.{Spells}
use Rattle.plan.specs.declared.Call.{Call}
use Rattle.plan.specs.declared.Call.TheVariants.{Offer, Bulk, Ticks, Release}
use Rattle.plan.proofs.Cuts.{Unbroken, cut_ended, cut_unbroken, ended_cut, ended_more, same_from_ended}
use Rattle.plan.proofs.Decimals.{decimal_lacks}

-- a line that is not empty and has no byte 10
abbrev Solid : List ℕ → Type 0
Solid l = Unbroken l × (0 < length l)

solid_decimal : (n : ℕ) → Number n → Solid (decimal n)
solid_decimal n small = (recursion_from_All (λ b. eqb b 10 ≡ false) (decimal n) (decimal_lacks n 10 small (λ h. omega arith)), decimal_nonempty n (omega arith))

fields_unbroken : (ns : List ℕ) → Numbers ns → Unbroken (fields ns)
fields_unbroken [] small = tt
fields_unbroken (n ∷ ns) small = (
  refl,
  All-append (λ b. eqb b 10 ≡ false) (decimal n) (fields ns) (solid_decimal n small.0).0 (fields_unbroken ns small.1),
)

solid_line : (w : Words) → eqb w.0 10 ≡ false → Numbers w.1 → Solid (line w)
solid_line w letter small = ((letter, fields_unbroken w.1 small), omega arith)

solid_section : {X : Type 0} (words : X → Words) (mats : X → List ℕ) → ((x : X) → eqb (words x).0 10 ≡ false) → (xs : List X) → FitSection words mats xs → AllByRecursion Solid (section words xs)
solid_section {X} words mats letters xs fit = (solid_decimal (length xs) fit.0, entries xs fit.1)
  where
    entries : (xs : List X) → AllByRecursion (Fits words mats) xs → AllByRecursion Solid (map (λ x. line (words x)) xs)
    entries [] fits = tt
    entries (x ∷ xs) fits = (solid_line (words x) (letters x) fits.0.0, entries xs fits.1)

channel_letter : (m : ℕ) (k : Mixture Spaced Bucket) → eqb (kind_words m k).0 10 ≡ false
channel_letter m (First k) = refl
channel_letter m (Second k) = refl

call_letter : (c : Call) → eqb (call_words c).0 10 ≡ false
call_letter (Offer m bytes) = refl
call_letter (Bulk bytes) = refl
call_letter (Ticks count) = refl
call_letter (Release m) = refl

solid_lines : (s : Script) → InRange s → AllByRecursion Solid (lines s)
solid_lines s fit =
    All-append Solid (section longest_words (s.longest ∷ [])) (section channel_words s.channels ++ section call_words s.calls)
    (solid_section longest_words (λ p. []) (λ p. refl) (s.longest ∷ []) (omega arith, (((fit.longest, tt), tt), tt)))
    (All-append Solid (section channel_words s.channels) (section call_words s.calls)
    (solid_section channel_words channel_mats (λ c. channel_letter c.mat c.kind) s.channels fit.channels)
    (solid_section call_words call_mats call_letter s.calls fit.calls))

pub cut_spelled : (bytes : List ℕ) (s : Script) → InRange s → Spells bytes s → cut bytes ≡ lines s
cut_spelled bytes s fit h =
    let solid = solid_lines s fit in
    let unbroken = All-weaker Solid Unbroken (λ l p. p.0) (lines s) solid in
    ⊎_elim
    (λ e. ap cut e ∙ cut_ended (lines s) unbroken)
    (λ e.
    ⊎_elim
    (λ closed.
    let longer = All-append Unbroken (cut bytes) ([] ∷ []) (cut_unbroken bytes) (tt, tt) in
    let same = same_from_ended (cut bytes ++ ([] ∷ [])) (lines s) longer unbroken (ended_more (cut bytes) [] ∙ ap (λ b. b ++ (10 ∷ [])) (sym closed) ∙ e) in
    let last = all-has Solid (cut bytes ++ ([] ∷ [])) [] (subst (AllByRecursion Solid) (sym same) solid) (has_push (cut bytes) []) in
    absurd (omega (arith, last.1)))
    (λ opened. same_from_ended (cut bytes) (lines s) (cut_unbroken bytes) unbroken (sym opened ∙ e))
    (ended_cut bytes))
    h
