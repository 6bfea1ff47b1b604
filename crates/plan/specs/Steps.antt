-- What one step of reading answers: a field, a line, an entry, a section.
use Rattle.std.specs.Prelude.{◌≡◌, ℕ, suc, ◌<◌, ◌⊎◌, List, [], ◌∷◌, ◌++◌, map, length, take, Some, None, Ok, Err, vec_items, decimal, Option, Result, Vec, ◌≢◌, slice_index}
use Rattle.std.specs.declared.alloc.Global.{Global}
use Rattle.std.specs.List.{AllByRecursion}
use Rattle.plan.specs.Format.{section, FitSection}
use Rattle.plan.specs.Lines.{Words, line, Number, Fits}
use Rattle.plan.specs.declared.Fault.{Fault}
use Rattle.plan.specs.declared.Fault.TheVariants.{Malformed, NoMemory}

-- The value that is written so, or none where no value is.
abbrev pub Reads : {X Y : Type 0} → (X → Y) → (X → Type 0) → Y → Option X → Type 0
Reads written ok text (Some x) = ok x × (written x ≡ text)
Reads {X} written ok text None = (x : X) → ok x → written x ≢ text

-- A sign in front, or a zero with more after it.
abbrev pub Padded : List ℕ → Type 0
Padded bytes = ((0 < length bytes) × (slice_index bytes 0 ≡ 43)) ⊎ ((1 < length bytes) × (slice_index bytes 0 ≡ 48))

-- There is no first line, or it is that of no value.
abbrev pub Lacks : {X : Type 0} → (X → List ℕ) → (X → Type 0) → List (List ℕ) → Type 0
Lacks {X} written ok ls = (x : X) → ok x → take 1 ls ≢ written x ∷ []

-- A fault at a line of a section, of which At holds, or no memory.
abbrev pub Fails : Fault → ℕ → (ℕ → Type 0) → Type 0
Fails (Malformed s l) sec At = (s ≡ sec) × At l
Fails NoMemory sec At = Unit {0}

-- The value on the next line, whose place is `sec` and `num`, or no value there.
abbrev pub Next : {X : Type 0} → (X → List ℕ) → (X → Type 0) → ℕ → ℕ → List (List ℕ) → List (List ℕ) → Result X Fault → Type 0
Next written ok sec num ls rest (Ok x) = ok x × (ls ≡ written x ∷ rest)
Next written ok sec num ls rest (Err e) = Fails e sec (λ l. (l ≡ num) × Lacks written ok ls)

-- A count on the next line, which is line 0 of its section.
abbrev pub NextCount : ℕ → List (List ℕ) → List (List ℕ) → Result ℕ Fault → Type 0
NextCount sec ls rest r = Next decimal Number sec 0 ls rest r

-- An entry on the next line.
abbrev pub NextEntry : {X : Type 0} → (X → Words) → (X → List ℕ) → ℕ → ℕ → List (List ℕ) → List (List ℕ) → Result X Fault → Type 0
NextEntry words mats sec num ls rest r = Next (λ x. line (words x)) (Fits words mats) sec num ls rest r

-- The line at which a section breaks off: there is no count, or after some entries there is none though the count asks for more.
pub data BrokenAt {X : Type 0} (words : X → Words) (mats : X → List ℕ) (ls : List (List ℕ)) : ℕ → Type 0 where
  no_count : Lacks decimal Number ls → BrokenAt words mats ls 0
  no_entry : (n : ℕ) (xs : List X) (rest : List (List ℕ)) → Number n → AllByRecursion (Fits words mats) xs → length xs < n → ls ≡ (decimal n ∷ map (λ x. line (words x)) xs) ++ rest → Lacks (λ x. line (words x)) (Fits words mats) rest → BrokenAt words mats ls (suc (length xs))

-- The entries of a section, or the line at which it breaks off.
abbrev pub Sectioned : {X : Type 0} → (X → Words) → (X → List ℕ) → ℕ → List (List ℕ) → List (List ℕ) → Result (Vec X Global) Fault → Type 0
Sectioned words mats sec ls rest (Ok v) = FitSection words mats (vec_items v) × (ls ≡ section words (vec_items v) ++ rest)
Sectioned words mats sec ls rest (Err e) = Fails e sec (BrokenAt words mats ls)
