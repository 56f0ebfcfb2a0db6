-- An easy operand: what was made of it is taken back.
use Rattle.std.proofs.Common.{◌≡◌, length, sym, ap, ◌∙◌}
use Rattle.sc_world.specs.View.{exp}
use Rattle.flow_graph.specs.Expressions.{kept}
use Rattle.sc_flow.specs.Seen.{structs_of, growing, aim, back}
use Rattle.sc_flow.proofs.Added.{back_is}
use Rattle.sc_flow.proofs.Easy.{easy_is_kept}
use Rattle.sc_flow.proofs.expressions.+expression.Goals as goal

pub operand-returns-in_ok-at-clause-made : goal.operand-returns-in_ok-at-clause-made
operand-returns-in_ok-at-clause-made t c =
    let structs = structs_of c.args.here.now in
    let e = exp structs c.args.e.now in
    let to = aim c.args.aim in
    let g = growing structs c.args.g.now in
    let made = growing structs c.hard.new.g in
    let again : growing structs c.take_back.new.self ≡ g =
    c.take_back.ensures
    ∙ (ap (λ n. back n c.reached-before.result.temps made) c.reached-before.ensures.nodes
    ∙ (ap (λ n. back (length g.nodes) n made) c.reached-before.ensures.temps
    ∙ back_is e c.args.turn to g made c.in_ok-made.made.at c.in_ok-made.ensures.made)) in
    c.in_ok-at.ensures
    ∙ (ap (kept e to) again ∙ sym (easy_is_kept e c.args.turn to g (sym c.in_ok-made.ensures.easy ∙ c.if-made.true)))
