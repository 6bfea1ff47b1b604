use Rattle.std.proofs.Common.{◌≡◌, [], ◌∷◌, ◌++◌, length, None, inl, inr, sym, ap, ◌∙◌, ◌⊎◌}
use Rattle.verdict.specs.Members.{members, marked, present}
use Rattle.verdict.specs.declared.members.Members.{Members}
use Rattle.verdict.proofs.Places.{last_left, yields_last, goes_last}
use Rattle.verdict.proofs.members.MembersIterator.next.Goals as goal
use Rattle.verdict.proofs.members.MembersIterator.next.Goals.{in_default, in_default-2}

-- the rows or the marks are at their end
ended : (g : _) (c : goal.After-take g) → (length c.loop-row.self.left.rows.now ≡ 0) ⊎ (length c.loop-row.self.left.counted.now ≡ 0)
ended g c = elim c.match-split_first.branch [
  | in_default w ↦ inr w.in_default.ensures'.cases
  | in_default-2 w ↦ inl w.in_default.ensures.cases
]

-- what is left then
abbrev after : (g : _) (c : goal.After-take g) → Members g.row.K.Denot g.row.S.Denot
after g c = record { left = record c.loop-row.self.left { more = c.take.new.self } }

pub returns-clause-steps : goal.returns-clause-steps
returns-clause-steps g c =
    let end = ended g c in
    let left = c.loop-row.self.left in
    yields_last (λ (s : Members g.row.K.Denot g.row.S.Denot). members s.left) c.args.self.now (after g c) _ _ c.take.ensures.value (sym c.loop-row.invariant ∙ last_left _ _ left.more end)
    (ap (λ o. present (marked left.rows.now left.counted.now ++ o ∷ [])) c.take.ensures.after ∙ last_left _ _ None end)

pub returns-clause-goes : goal.returns-clause-goes
returns-clause-goes g c =
    let end = ended g c in
    let left = c.loop-row.self.left in
    goes_last (λ (s : Members g.row.K.Denot g.row.S.Denot). members s.left) c.args.self.now (after g c) _ _ c.take.ensures.value (sym c.loop-row.invariant ∙ last_left _ _ left.more end)
    (ap (λ o. present (marked left.rows.now left.counted.now ++ o ∷ [])) c.take.ensures.after ∙ last_left _ _ None end)
