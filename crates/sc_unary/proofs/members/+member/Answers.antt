use Rattle.std.proofs.Common.{◌≡◌}
use Rattle.sc_unary.specs.Members as spec
use Rattle.sc_unary.proofs.Numbers.{unnamed_by_numbers}
use Rattle.sc_unary.proofs.members.+member.Goals as goal

pub among_unnamed-loop-k-init : goal.among_unnamed-loop-k-init
among_unnamed-loop-k-init t c = unnamed_by_numbers (spec.member c.args.deep c.args.structs.now c.args.name)
    (spec.body_at c.args.structs.now c.args.number).union (spec.body_at c.args.structs.now c.args.number).fields
