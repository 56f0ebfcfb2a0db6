use Rattle.std.proofs.Common.{subst}
use Rattle.gl_sets.specs.Sets.{IsWhere}
use Rattle.gate_values.specs.Operators.{HasTests}
use Rattle.gate_values.proofs.Targets.{same_gate}
use Rattle.gate_values.proofs.pointers.same_target.Goals as goal

pub returns-clause-ok : goal.returns-clause-ok
returns-clause-ok c =
    same_gate c.where_target.new.net c.args.net.now c.args.a.now.pairs.items c.args.b.now.pairs.items c.in_ok-tests.tests.items c.in_ok-same.same.at
    c.in_ok-same.ensures.grown
    (subst (λ ps. HasTests c.args.net.now ps c.args.b.now.pairs.items c.in_ok-tests.tests.items) c.as_slice.ensures c.in_ok-tests.ensures)
    (subst (λ gs. IsWhere c.where_target.new.net c.args.a.now.pairs.items gs c.in_ok-same.same.at) c.as_slice-2.ensures.value c.in_ok-same.ensures.ok)
