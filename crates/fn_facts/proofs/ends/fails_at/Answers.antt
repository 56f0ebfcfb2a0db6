use Rattle.std.proofs.Common.{List, subst}
use Rattle.bit_net.specs.declared.nodes.Gate.{Gate}
use Rattle.bit_net.specs.Runs.{Gives}
use Rattle.gate_runs.specs.Stands.{told}
use Rattle.fn_facts.proofs.Ending.{fail_shown}
use Rattle.fn_facts.proofs.ends.fails_at.Goals as goal

pub returns : goal.returns
returns c =
    fail_shown _ _ c.args.at _ c.requires.ready
    (subst (λ (gs : List Gate). Gives c.args.net.now c.gate_or_never.result.at (λ choice v. told v gs c.args.at)) c.as_slice.ensures.value
    c.gate_or_never.ensures)
