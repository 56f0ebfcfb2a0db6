use Rattle.std.proofs.Common.{◌≡◌, arith, sym, ◌∙◌}
use Rattle.sc_unary.specs.Members as spec
use Rattle.sc_unary.proofs.Numbers.{among_some}
use Rattle.sc_unary.proofs.members.among.Goals as goal

pub returns-in-None : goal.returns-in-None
returns-in-None c =
    let number = sym c.find.ensures ∙ c.in-Some.is in
    let found = among_some (spec.body_at c.args.structs.now c.args.number).union c.in-Some.k c.args.name (spec.body_at c.args.structs.now c.args.number).fields spec.no_field number in
    let fields = rw c.as_slice.ensures at c.fields_at.ensures in
    let past = rw fields at c.in-None.ensures.lookup.3 in
    absurd (omega (arith, found.0, past))
