-- The written form of each line of a plan: a letter and numbers.
use Rattle.std.specs.Prelude.{ℕ, ◌^◌, ◌<◌, ◌≤◌, List, [], ◌∷◌, ◌++◌, decimal}
use Rattle.std.specs.List.{AllByRecursion}
use Rattle.traffic.specs.declared.bucket.Bucket.{Bucket}
use Rattle.traffic.specs.declared.mixture.Mixture.{Mixture}
use Rattle.traffic.specs.declared.mixture.Mixture.TheVariants.{First, Second}
use Rattle.traffic.specs.declared.spaced.Spaced.{Spaced}
use Rattle.plan.specs.declared.Call.{Call}
use Rattle.plan.specs.declared.Call.TheVariants.{Offer, Bulk, Ticks, Release}
use Rattle.plan.specs.declared.Channel.{Channel}

-- What a line says: its letter, and its numbers in order.
abbrev pub Words : Type 0
Words = ℕ × List ℕ

-- Numbers in decimal digits, with one blank before each.
abbrev pub fields : List ℕ → List ℕ
fields [] = []
fields (n ∷ ns) = 32 ∷ (decimal n ++ fields ns)

-- The bytes of a line, without the byte 10 that ends it.
abbrev pub line : Words → List ℕ
line w = w.0 ∷ fields w.1

-- `P longest`
abbrev pub longest_words : ℕ → Words
longest_words p = (80, p ∷ [])

-- `S mat period longest allowance` or `B mat period longest depth allowance`
abbrev pub kind_words : ℕ → Mixture Spaced Bucket → Words
kind_words m (First k) = (83, m ∷ k.period ∷ k.longest ∷ k.allowance ∷ [])
kind_words m (Second k) = (66, m ∷ k.period ∷ k.longest ∷ k.depth ∷ k.allowance ∷ [])

-- A channel's line.
abbrev pub channel_words : Channel → Words
channel_words c = kind_words c.mat c.kind

-- `O mat bytes`, `K bytes`, `T count` or `R mat`
abbrev pub call_words : Call → Words
call_words (Offer m bytes) = (79, m ∷ bytes ∷ [])
call_words (Bulk bytes) = (75, bytes ∷ [])
call_words (Ticks count) = (84, count ∷ [])
call_words (Release m) = (82, m ∷ [])

-- The mats that a channel names.
abbrev pub channel_mats : Channel → List ℕ
channel_mats c = c.mat ∷ []

-- The mats that a call names.
abbrev pub call_mats : Call → List ℕ
call_mats (Offer m bytes) = m ∷ []
call_mats (Bulk bytes) = []
call_mats (Ticks count) = []
call_mats (Release m) = m ∷ []

-- A number that a field may hold: at most 4,294,967,295.
abbrev pub Number : ℕ → Type 0
Number n = n < 2 ^ 32

abbrev pub Numbers : List ℕ → Type 0
Numbers ns = AllByRecursion Number ns

-- An entry that may stand on a line: its numbers fit their fields, and its mats are at most 255.
abbrev pub Fits : {X : Type 0} → (X → Words) → (X → List ℕ) → X → Type 0
Fits words mats x = Numbers (words x).1 × AllByRecursion (λ m. m ≤ 255) (mats x)
