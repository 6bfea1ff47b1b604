-- The text of a whole plan, and a text's lines.
use Rattle.std.specs.Prelude.{ℕ, cond, List, [], ◌∷◌, ◌++◌, map, length, vec_items, decimal, ◌==◌}
use Rattle.std.specs.List.{flat_map, onto_first, AllByRecursion}
use Rattle.plan.specs.Lines.{Words, line, longest_words, channel_words, channel_mats, call_words, call_mats, Number, Fits}
use Rattle.plan.specs.declared.Call.{Call}
use Rattle.plan.specs.declared.Channel.{Channel}
use Rattle.plan.specs.declared.Plan.{Plan}

-- What a plan says.
pub record Script : Type 0 where
  pub longest : ℕ
  pub channels : List Channel
  pub calls : List Call

abbrev pub script : Plan → Script
script p = record { longest = p.longest; channels = vec_items p.channels; calls = vec_items p.calls }

-- The lines of a section: its count, and then its entries.
abbrev pub section : {X : Type 0} → (X → Words) → List X → List (List ℕ)
section words xs = decimal (length xs) ∷ map (λ x. line (words x)) xs

-- The lines of a plan.
abbrev pub lines : Script → List (List ℕ)
lines s = section longest_words (s.longest ∷ []) ++ (section channel_words s.channels ++ section call_words s.calls)

-- Lines as bytes, each with a byte 10 after it.
abbrev pub ended : List (List ℕ) → List ℕ
ended ls = flat_map (λ l. l ++ (10 ∷ [])) ls

-- The bytes of a plan.
abbrev pub written : Script → List ℕ
written s = ended (lines s)

-- Entries that may stand in a section, whose count is a field too.
abbrev pub FitSection : {X : Type 0} → (X → Words) → (X → List ℕ) → List X → Type 0
FitSection words mats xs = Number (length xs) × AllByRecursion (Fits words mats) xs

-- Every number fits its field.
pub record InRange (s : Script) : Type 0 where
  pub longest : Number s.longest
  pub channels : FitSection channel_words channel_mats s.channels
  pub calls : FitSection call_words call_mats s.calls

-- The lines of a text: a byte 10 ends a line, and the last line may lack it.
abbrev pub cut : List ℕ → List (List ℕ)
cut [] = []
cut (b ∷ bs) = cond (b == 10) ([] ∷ cut bs) (onto_first b (cut bs))
