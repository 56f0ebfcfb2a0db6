-- The gate gets its literal.
use Rattle.std.proofs.Common.{refl}
use Rattle.clause_builder.proofs.Extension.{loaded_more, kept_more, here_more}
use Rattle.clause_builder.proofs.marked.load_gate.Goals as goal

pub node_lit-requires-clause-below : goal.node_lit-requires-clause-below
node_lit-requires-clause-below g c = rw c.as_slice.ensures.value (λ a l at. (c.requires.loaded.inside a l at).1)

pub node_lit-requires-clause-operands : goal.node_lit-requires-clause-operands
node_lit-requires-clause-operands g c =
    rw (c.as_slice.ensures.value, c.plain_node-node.ensures) (c.requires.operands c.node-read.result c.node-read.ensures)

pub returns-clause-loaded : goal.returns-clause-loaded
returns-clause-loaded g c =
    let lits = c.args.lits.now.items in
    let node = c.node-read.result in
    let encodes = rw (c.as_slice.ensures.value, c.plain_node-node.ensures) at c.in_ok-lit.ensures.encodes in
    loaded_more c.args.net.now lits _ c.args.at node c.in_ok-lit.lit _ _ _ _ c.sound.ensures c.runs_fit_tables.ensures.fits c.node-read.ensures c.requires.room
    refl c.requires.missing c.in_ok-lit.ensures.vars c.in_ok-lit.ensures.below (c.requires.operands node c.node-read.ensures) encodes c.requires.loaded

pub returns-clause-kept : goal.returns-clause-kept
returns-clause-kept g c = kept_more c.args.lits.now.items _ c.args.at c.in_ok-lit.lit c.requires.room refl c.requires.missing

pub returns-clause-here : goal.returns-clause-here
returns-clause-here g c = here_more c.args.lits.now.items _ c.args.at c.in_ok-lit.lit c.requires.room refl
