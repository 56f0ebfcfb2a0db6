use Rattle.std.proofs.Common.{map, ◌∙◌, ap}
use Rattle.layout_base.specs.Seen.{layout_of}
use Rattle.sc_flow.specs.Seen.{node, structs_of}
use Rattle.flow_exits.specs.Exits as exits
use Rattle.flow_exits.specs.Marks.{marked}
use Rattle.flow_exits.proofs.Emptying.{both_agree}
use Rattle.flow_exits.proofs.endings.gives_only_nothing.Goals as goal

pub returns : goal.returns
returns c =
    let structs = structs_of c.args.here.now in
    let p = layout_of c.args.layout.now.places.now in
    let seen = node structs in
    let given = c.as_slice-nodes.result.now in
    let nodes = map seen c.args.flow.now.nodes in
    let marks = c.in_ok-flags.flags.items in
    c.all_give_nothing.ensures
    ∙ ap (λ xs. exits.all_give_nothing p (marked xs) (map seen given)) c.deref.ensures.value
    ∙ ap (λ ns. exits.all_give_nothing p (marked marks) (map seen ns)) c.as_slice-nodes.ensures
    ∙ both_agree p (marked marks) (exits.is_given nodes) c.args.flow.now.temps c.args.flow.now.slots
    (λ m low. c.in_ok-flags.ensures m low ∙ ap (λ ns. exits.is_given (map seen ns) m) c.as_slice-nodes.ensures) nodes c.requires.fine
