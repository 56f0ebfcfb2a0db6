use Rattle.std.proofs.Common.{◌≡◌, ℕ, IfOk, ap, subst}
use Rattle.sc_gather.specs.Seen.{source_of}
use Rattle.sc_world.specs.View.{stm}
use Rattle.flow_graph.specs.Growing.{Growing}
use Rattle.sc_flow.specs.Seen.{structs_of, growing, labels}
use Rattle.sc_flow.proofs.Whole.{body_is}
use Rattle.sc_flow.proofs.flow.body.Goals as goal

pub returns-in_ok-end-in-Some : goal.returns-in_ok-end-in-Some
unfolding labels
returns-in_ok-end-in-Some c =
    let structs = structs_of c.args.here.now in
    subst (λ (r : ℕ × Growing). IfOk c.statement.result (λ at. (at, growing structs c.statement.new.g) ≡ r))
    (body_is c.depth.result (source_of c.args.here.now).depth (stm structs c.in-Some.s.now) (source_of c.args.here.now).body
    c.end_of.result (labels c.new-labels.result) c.in_ok-end-in-Some.end (growing structs c.args.g.now)
    (growing structs c.ending-in-Some.new.g) c.depth.ensures c.in-Some.ensures c.end_of.ensures (ap labels c.new-labels.ensures)
    c.in_ok-end-in-Some.ensures)
    c.statement.ensures.made
