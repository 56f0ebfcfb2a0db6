use Rattle.std.proofs.Common.{◌∷◌, ap, sym, ◌∙◌}
use Rattle.sc_world.specs.View.{stm}
use Rattle.sc_world.specs.Tree.{Label}
use Rattle.flow_graph.specs.Statements.{labels_of}
use Rattle.sc_flow.specs.Seen.{structs_of, labels}
use Rattle.sc_flow.proofs.Labels.{one_more}
use Rattle.sc_flow.proofs.Loops.{stm_label}
use Rattle.sc_flow.proofs.targets.+name_labels.Goals as goal

pub returns-in_ok-declare-in-Label-clause-labels : goal.returns-in_ok-declare-in-Label-clause-labels
returns-in_ok-declare-in-Label-clause-labels t c =
    let structs = structs_of c.args.here.now in
    let is = ap (stm structs) c.in-Label.is ∙ stm_label structs c.in-Label.name c.in-Label.x c.in-Label.field-2
    ∙ ap (λ y. Label c.in-Label.name (stm structs y)) (sym c.get.ensures) in
    ap labels c.in_ok-declare-in-Label.ensures.ok
    ∙ (one_more c.in-Label.name c.args.at c.name_labels.new.labels
    ∙ (ap (λ ls. record { name = c.in-Label.name; at = c.args.at } ∷ ls) c.in_ok-name_labels-in-Label.ensures.labels
    ∙ sym (ap (λ y. labels_of y c.args.at (labels c.args.labels.now)) is)))
