use Rattle.std.proofs.Common.{map, ◌∙◌, ap}
use Rattle.sc_flow.specs.Seen.{node, structs_of}
use Rattle.flow_exits.specs.Marks.{marked}
use Rattle.flow_fits.specs.Voids.{is_filled, each_read}
use Rattle.flow_fits.proofs.Voids.{all_agree}
use Rattle.flow_fits.proofs.whole.reads_no_void.Goals as goal

pub returns : goal.returns
returns c =
    let seen = node (structs_of c.args.here.now) in
    let given = c.as_slice-nodes.result.now in
    let nodes = map seen c.args.flow.now.nodes in
    let marks = c.in_ok-flags.flags.items in
    c.each_reads_marked.ensures
    ∙ ap (λ xs. each_read (marked xs) (map seen given)) c.deref.ensures.value
    ∙ ap (λ ns. each_read (marked marks) (map seen ns)) c.as_slice-nodes.ensures
    ∙ all_agree (marked marks) (is_filled nodes) c.args.flow.now.temps c.args.flow.now.slots nodes
    (λ m low. c.in_ok-flags.ensures m low ∙ ap (λ ns. is_filled (map seen ns) m) c.as_slice-nodes.ensures) c.requires.fine
