use Rattle.std.proofs.Common.{◌∙◌}
use Rattle.layout_base.specs.Seen.{layout_of}
use Rattle.sc_flow.specs.Seen.{structs_of}
use Rattle.flow_exits.proofs.Emptying.{seen_ended}
use Rattle.flow_exits.proofs.endings.without_values.Goals as goal

pub returns-clause-seen : goal.returns-clause-seen
returns-clause-seen c =
    seen_ended (structs_of c.args.here.now) (layout_of c.args.layout.now.places.now) c.args.flow.now.nodes c.from_vec.result c.args.flow.now.temps
    c.args.flow.now.slots (c.from_vec.ensures ∙ c.in_ok-nodes.ensures)
