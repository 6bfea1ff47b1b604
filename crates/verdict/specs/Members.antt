-- The channels to judge: the counted rows of a table, and one more or none.
use Rattle.std.specs.Prelude.{ℕ, Bool, cond, List, [], ◌∷◌, ◌++◌, length, map, Some, None, Option}
use Rattle.traffic.specs.declared.Row.{Row}
use Rattle.verdict.specs.declared.channels.Channels.{Channels}

-- each row's channel where the row counts; rows past the end of the marks do not
abbrev pub marked : {K S : Type 0} → List (Row K S) → List Bool → List (Option K)
marked [] marks = []
marked (r ∷ rs) [] = None ∷ marked rs []
marked (r ∷ rs) (b ∷ bs) = cond b (Some r.kind) None ∷ marked rs bs

-- a place for each row, and one more
abbrev pub places : {K S : Type 0} → Channels K S → List (Option K)
places c = marked c.rows.now c.counted.now ++ c.more ∷ []

-- the channels of rows that all count
abbrev pub kinds : {K S : Type 0} → List (Row K S) → List K
kinds rs = map (λ r. r.kind) rs

abbrev pub present : {K : Type 0} → List (Option K) → List K
present [] = []
present (None ∷ os) = present os
present (Some k ∷ os) = k ∷ present os

-- the channels that count
abbrev pub members : {K S : Type 0} → Channels K S → List K
members c = present (places c)

-- those in the table's rows
abbrev pub rows_counted : {K S : Type 0} → Channels K S → List K
rows_counted c = present (marked c.rows.now c.counted.now)

-- how many rows there are, counted or not
abbrev pub size : {K S : Type 0} → Channels K S → ℕ
size c = length c.rows.now
