use Rattle.std.proofs.Common.{slice_index_or, ap, ◌∙◌}
use Rattle.flow_whole.proofs.Reading.{node_read, gates_read}
use Rattle.flow_whole.proofs.whole.node_at.Goals as goal

pub returns-clause-is : goal.returns-clause-is
returns-clause-is c = λ structs.
    (let n = c.index-as_slice-at.result in
    node_read structs c.args.flow.now.nodes c.args.at n c.requires (c.index-as_slice-at.is ∙ ap (λ xs. slice_index_or xs c.args.at n) c.as_slice.ensures))

pub returns-clause-gates : goal.returns-clause-gates
returns-clause-gates c = λ takes makes h.
    (let n = c.index-as_slice-at.result in
    gates_read takes makes c.args.flow.now.nodes c.args.at n c.requires (c.index-as_slice-at.is ∙ ap (λ xs. slice_index_or xs c.args.at n) c.as_slice.ensures) h)
