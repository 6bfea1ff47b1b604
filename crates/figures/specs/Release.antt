-- A released row counts until the first quiet slot, and only then another mat gets its share.
use Rattle.std.specs.Prelude.{◌≡◌, ℕ, Bool, true, false, List, [], ◌∷◌, Some, None, Ok, Err}
use Rattle.link.specs.History.{Call, held, confirmed, released, offered, ticked}
use Rattle.refusals.specs.declared.Refusal.TheVariants.{Late}
use Rattle.link.specs.declared.state.Hold.{Hold}
use Rattle.figures.specs.Answers.{Link, Refuses, Grants, Leads, start}
use Rattle.figures.specs.Kinds.{Kind, S}

-- mat 1 has the first hold that is granted, and mat 2 the second
abbrev pub hold_for : ℕ → Hold
hold_for mat = record { link = 0; mat = mat; serial = mat }

-- a slot carried this piece of the mat's packet, the last or not
abbrev pub carried : ℕ → ℕ → Bool → Call Kind
carried mat piece ended = ticked (Ok (Some (record { mat = mat; piece = piece; ended = ended })))

-- after these calls, the five slots of the mat's packet
abbrev pub sent : ℕ → List (Call Kind) → List (Call Kind)
sent mat cs = carried mat 4 true ∷ carried mat 3 false ∷ carried mat 2 false ∷ carried mat 1 false ∷ carried mat 0 false ∷ cs

-- the last call first: mats 1 and 2 join, each offers a packet of 160 bytes, that of mat 1 is sent, and mat 1 is released
abbrev pub calls_to_5 : ℕ → ℕ → List (Call Kind)
calls_to_5 c d =
    released 1 (Ok tt) ∷ sent 1 (
    offered 2 0 160 (Ok tt) ∷ offered 1 0 160 (Ok tt)
    ∷ confirmed (hold_for 2) (Ok tt) ∷ held 2 (S 20 5 14) (Ok (hold_for 2, d))
    ∷ confirmed (hold_for 1) (Ok tt) ∷ held 1 (S 20 5 9) (Ok (hold_for 1, c)) ∷ [])

-- then mat 3 is refused, the packet of mat 2 is sent, and a slot is quiet
abbrev pub calls_to_11 : ℕ → ℕ → List (Call Kind)
calls_to_11 c d = ticked (Ok None) ∷ sent 2 (held 3 (S 20 5 9) (Err (Late 9 1)) ∷ calls_to_5 c d)

-- on a link whose longest packet has 5 slots
pub record Release : Type 0 where
  -- how many points the verdict took for mat 1, and for mat 2
  pub first_count : ℕ
  pub second_count : ℕ
  -- at clock 5, mat 1 just released, mat 3 cannot but be refused
  pub at_5 : Link
  pub leads_to_5 : Leads (start 5) (calls_to_5 first_count second_count) at_5
  pub clock_5 : at_5.clock ≡ 5
  pub late_at_5 : Refuses (Late 9 1) at_5 3 (S 20 5 9)
  -- at clock 11, after the quiet slot, it cannot but be granted
  pub at_11 : Link
  pub leads_to_11 : Leads (start 5) (calls_to_11 first_count second_count) at_11
  pub clock_11 : at_11.clock ≡ 11
  pub granted_at_11 : Grants at_11 3 (S 20 5 9)
  -- and so is mat 1, which then has the third hold: an accepted packet that ended, a refused hold, a release and a hold of the same mat again, in one history
  pub third_count : ℕ
  pub again : Link
  pub leads_again : Leads (start 5) (held 1 (S 20 5 9) (Ok (record { link = 0; mat = 1; serial = 3 }, third_count)) ∷ calls_to_11 first_count second_count) again
