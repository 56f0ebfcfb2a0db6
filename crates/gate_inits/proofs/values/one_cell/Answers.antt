use Rattle.std.proofs.Common.{◌∷◌, [], ◌++◌, ◌∙◌, ap, refl}
use Rattle.gate_inits.proofs.CellsGiven.{one_cell}
use Rattle.gate_inits.proofs.values.one_cell.Goals as goal

pub returns : goal.returns
returns c =
    one_cell c.args.net.now c.args.val (record { when = c.constant-when.result; val = c.args.val }) (record { vals = c.push.new.self }) c.push-2.new.self.items c.requires.val
    c.constant-when.ensures.below (record { holds = c.constant-when.ensures.value }) refl
    (c.in_ok-push.ensures.items ∙ ap (λ xs. xs ++ record { when = c.constant-when.result; val = c.args.val } ∷ []) c.new-vals.ensures.items)
    (c.in_ok-push-2.ensures.items ∙ ap (λ xs. xs ++ record { vals = c.push.new.self } ∷ []) c.new-cells.ensures.items)
