use Rattle.std.proofs.Common.{◌-◌, ◌++◌, ◌∷◌, [], ap, sym, ◌∙◌}
use Rattle.sc_parse_front.specs.Front.{is_right_brace}
use Rattle.sc_parse_expr.specs.Reading.Grammar.{with_item}
use Rattle.sc_parse_unit.specs.Nests.{inner_stmt}
use Rattle.sc_parse_unit.specs.Reading.{an_item}
use Rattle.sc_parse_expr.specs.Read.{read}
use Rattle.sc_parse_expr.proofs.Steps.{many_ended, many_refused, many_next, many_out, passed_on}
use Rattle.sc_parse_unit.proofs.Turns.{items_begin}
use Rattle.sc_parse_unit.proofs.parts.Statements.items.Goals as goal

pub returns-then-is_right_brace : goal.returns-then-is_right_brace
returns-then-is_right_brace g c = many_ended (an_item c.args.self.now.types.now (c.args.self.now.limit - 1)
    (inner_stmt c.args.self.now.types.now c.args.self.now.limit) c.args.switch) with_item is_right_brace _ c.loop-turn.all
    c.loop-turn.height c.loop-turn.tokens c.loop-turn.invariant (sym c.is_right_brace.ensures ∙ c.if-is_right_brace.true)

pub returns-in_err-found : goal.returns-in_err-found
returns-in_err-found g c =
    passed_on c.from_residual.result c.an_item.new.tokens c.an_item.new.tokens c.in_err-found.field-0.0 c.in_err-found.ensures c.from_residual.ensures.1
    (λ none. many_refused (an_item c.args.self.now.types.now (c.args.self.now.limit - 1)
    (inner_stmt c.args.self.now.types.now c.args.self.now.limit) c.args.switch) with_item is_right_brace _ _ c.loop-turn.all
    c.loop-turn.height c.loop-turn.tokens c.loop-turn-test.true c.loop-turn.invariant
    (sym c.is_right_brace.ensures ∙ c.if-is_right_brace.false) none)

pub loop-turn-preserved : goal.loop-turn-preserved
loop-turn-preserved g c =
    many_next (an_item c.args.self.now.types.now (c.args.self.now.limit - 1) (inner_stmt c.args.self.now.types.now c.args.self.now.limit)
    c.args.switch) with_item is_right_brace _ _ c.loop-turn.all c.loop-turn.height c.loop-turn.tokens
    (read c.in_ok-found.found.it c.in_ok-found.found.height c.an_item.new.tokens) c.push.new.self c.max-height.result
    c.loop-turn-test.true c.loop-turn.invariant (sym c.is_right_brace.ensures ∙ c.if-is_right_brace.false) c.in_ok-found.ensures
    (c.in_ok-push.ensures.ok ∙ ap (λ t. c.loop-turn.all ++ t ∷ []) c.into_inner.ensures) c.max-height.ensures

pub returns-then-not-is_right_brace : goal.returns-then-not-is_right_brace
returns-then-not-is_right_brace g c = many_out (an_item c.args.self.now.types.now (c.args.self.now.limit - 1)
    (inner_stmt c.args.self.now.types.now c.args.self.now.limit) c.args.switch) with_item is_right_brace _ _ c.loop-turn.all
    c.loop-turn.height c.loop-turn.tokens c.loop-turn-test.false c.loop-turn.invariant (sym c.is_right_brace-2.ensures ∙ c.if-not-is_right_brace.true)

pub returns : goal.returns
returns g c = many_ended (an_item c.args.self.now.types.now (c.args.self.now.limit - 1)
    (inner_stmt c.args.self.now.types.now c.args.self.now.limit) c.args.switch) with_item is_right_brace _ c.loop-turn.all
    c.loop-turn.height c.loop-turn.tokens c.loop-turn.invariant (sym c.is_right_brace-2.ensures ∙ c.if-not-is_right_brace.false)

pub loop-turn-init : goal.loop-turn-init
loop-turn-init g c = items_begin c.args.self.now.types.now (c.args.self.now.limit - 1)
    (inner_stmt c.args.self.now.types.now c.args.self.now.limit) c.args.switch _ _ c.args.tokens.now c.len-turn-end.ensures c.new-all.ensures
