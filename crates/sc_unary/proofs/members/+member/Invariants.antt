-- The unnamed members that are left give what all give. The search goes inwards.
use Rattle.std.proofs.Common.{◌≡◌, ◌+◌, ◌*◌, drop}
use Rattle.struct_table.specs.Members.{unnamed_from}
use Rattle.sc_unary.specs.Members.{body_at, among_unnamed, member}
use Rattle.sc_unary.proofs.Numbers.{among_numbers}
use Rattle.sc_unary.proofs.members.+member.Given as goal

abbrev pub invariant-among_unnamed-loop-k : goal.invariant-among_unnamed-loop-k
invariant-among_unnamed-loop-k l =
    among_numbers (member l.deep l.structs l.name) (body_at l.structs l.number).union (body_at l.structs l.number).fields
    (drop l.k-index (unnamed_from 0 (body_at l.structs l.number).fields))
    ≡ among_unnamed (member l.deep l.structs l.name) (body_at l.structs l.number).union (body_at l.structs l.number).fields

abbrev pub decreases-among_unnamed : goal.decreases-among_unnamed
decreases-among_unnamed l = 3 * l.deep + 2

abbrev pub decreases-member_at : goal.decreases-member_at
decreases-member_at l = 3 * l.deep

abbrev pub decreases-member : goal.decreases-member
decreases-member l = 3 * l.deep + 1
