use Rattle.std.proofs.Common.{◌-◌, refl, sym, ◌∙◌}
use Rattle.sc_parse_front.specs.Front.{is_right_brace}
use Rattle.sc_parse_expr.specs.Reading.Grammar.{with_item}
use Rattle.sc_parse_unit.specs.Nests.{inner_init}
use Rattle.sc_parse_unit.specs.Reading.{init_item}
use Rattle.sc_parse_expr.specs.Read.{read}
use Rattle.sc_parse_expr.proofs.Steps.{commas_refused, commas_last, commas_ended, commas_next, commas_out, items_of, passed_on, ord_max_nat}
use Rattle.sc_parse_unit.proofs.initialisers.Initialisers.items.Goals as goal

pub returns-in_err-found : goal.returns-in_err-found
returns-in_err-found g c =
    passed_on c.from_residual.result c.item.new.tokens c.item.new.tokens c.in_err-found.field-0.0 c.in_err-found.ensures c.from_residual.ensures.1
    (λ none. commas_refused (init_item c.args.self.now.types.now (c.args.self.now.limit - 1)
    (inner_init c.args.self.now.types.now c.args.self.now.limit)) with_item is_right_brace items_of _ _ c.loop-turn.all
    c.loop-turn.height c.loop-turn.tokens c.loop-turn-test.true c.loop-turn.invariant none)

pub returns-then-not-is_comma : goal.returns-then-not-is_comma
returns-then-not-is_comma g c =
    commas_last (init_item c.args.self.now.types.now (c.args.self.now.limit - 1)
    (inner_init c.args.self.now.types.now c.args.self.now.limit)) with_item is_right_brace items_of _ _ c.loop-turn.all
    c.loop-turn.height c.loop-turn.tokens (read c.in_ok-found.found.it c.in_ok-found.found.height c.item.new.tokens) c.push.new.self
    c.max-height.result c.item.new.tokens c.loop-turn-test.true c.loop-turn.invariant c.in_ok-found.ensures
    (sym c.is_comma.ensures ∙ c.if-not-is_comma.true)
    c.in_ok-push.ensures.ok (c.max-height.ensures ∙ ord_max_nat _ _) refl

pub returns-then-is_right_brace : goal.returns-then-is_right_brace
returns-then-is_right_brace g c =
    commas_ended (init_item c.args.self.now.types.now (c.args.self.now.limit - 1)
    (inner_init c.args.self.now.types.now c.args.self.now.limit)) with_item is_right_brace items_of _ _ c.loop-turn.all
    c.loop-turn.height c.loop-turn.tokens (read c.in_ok-found.found.it c.in_ok-found.found.height c.item.new.tokens) c.push.new.self
    c.max-height.result c.advance.new.self c.loop-turn-test.true c.loop-turn.invariant c.in_ok-found.ensures
    (sym c.is_comma.ensures ∙ c.if-not-is_comma.false)
    c.advance.ensures (sym c.is_right_brace.ensures ∙ c.if-is_right_brace.true) c.in_ok-push.ensures.ok (c.max-height.ensures ∙ ord_max_nat _ _)

pub loop-turn-preserved : goal.loop-turn-preserved
loop-turn-preserved g c =
    commas_next (init_item c.args.self.now.types.now (c.args.self.now.limit - 1)
    (inner_init c.args.self.now.types.now c.args.self.now.limit)) with_item is_right_brace items_of _ _ c.loop-turn.all
    c.loop-turn.height c.loop-turn.tokens (read c.in_ok-found.found.it c.in_ok-found.found.height c.item.new.tokens) c.push.new.self
    c.max-height.result c.advance.new.self c.loop-turn-test.true c.loop-turn.invariant c.in_ok-found.ensures
    (sym c.is_comma.ensures ∙ c.if-not-is_comma.false)
    c.advance.ensures (sym c.is_right_brace.ensures ∙ c.if-is_right_brace.false) c.in_ok-push.ensures.ok (c.max-height.ensures ∙ ord_max_nat _ _)

pub returns : goal.returns
returns g c = commas_out (init_item c.args.self.now.types.now (c.args.self.now.limit - 1)
    (inner_init c.args.self.now.types.now c.args.self.now.limit)) with_item is_right_brace items_of _ _ c.loop-turn.all c.loop-turn.height
    c.loop-turn.tokens c.loop-turn-test.false c.loop-turn.invariant
