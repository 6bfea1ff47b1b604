use Rattle.std.proofs.Common.{◌≡◌, length}
use Rattle.verdict.specs.Members.{members}
use Rattle.verdict.proofs.members.MembersIterator.next.Given as goal

abbrev pub invariant-loop-row : goal.invariant-loop-row
invariant-loop-row g l = members l.self.left ≡ members l.fn.self.left

abbrev pub decreases-loop-row : goal.decreases-loop-row
decreases-loop-row g l = length l.self.left.rows.now
