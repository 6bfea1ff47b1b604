use Rattle.std.proofs.Common.{◌≡◌, vec_items}
use Rattle.plan.proofs.Broken.{Entries}
use Rattle.plan.proofs.sections.Reader.section.Given as goal

abbrev pub invariant-loop-read : goal.invariant-loop-read
invariant-loop-read g l =
    (l.self.section ≡ l.number) × Entries g.E.Entry.words g.E.Entry.mats l.initial.self.lines l.read (vec_items l.items) l.self.lines
