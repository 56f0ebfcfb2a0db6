use Rattle.std.proofs.Common.{◌-◌, sym, ◌∙◌}
use Rattle.sc_parse_expr.specs.Reading.Grammar.{with_item}
use Rattle.sc_parse_unit.specs.Reading.{a_designator}
use Rattle.sc_parse_unit.proofs.Turns.{ends_designators, designators_begin}
use Rattle.sc_parse_expr.specs.Read.{read}
use Rattle.sc_parse_expr.proofs.Steps.{many_ended, many_refused, many_next, many_out, passed_on}
use Rattle.sc_parse_unit.proofs.initialisers.Initialisers.designators.Goals as goal

pub returns-then-is_no_designator : goal.returns-then-is_no_designator
returns-then-is_no_designator g c = many_ended (a_designator c.args.self.now.types.now (c.args.self.now.limit - 1)) with_item
    ends_designators _ c.loop-turn.all c.loop-turn.height c.loop-turn.tokens c.loop-turn.invariant
    (sym c.is_no_designator.ensures ∙ c.if-is_no_designator.true)

pub returns-in_err-found : goal.returns-in_err-found
returns-in_err-found g c =
    passed_on c.from_residual.result c.designator.new.tokens c.designator.new.tokens c.in_err-found.field-0.0 c.in_err-found.ensures c.from_residual.ensures.1
    (λ none. many_refused (a_designator c.args.self.now.types.now (c.args.self.now.limit - 1)) with_item ends_designators _ _
    c.loop-turn.all c.loop-turn.height c.loop-turn.tokens c.loop-turn-test.true c.loop-turn.invariant
    (sym c.is_no_designator.ensures ∙ c.if-is_no_designator.false) none)

pub loop-turn-preserved : goal.loop-turn-preserved
loop-turn-preserved g c =
    many_next (a_designator c.args.self.now.types.now (c.args.self.now.limit - 1)) with_item ends_designators _ _ c.loop-turn.all
    c.loop-turn.height c.loop-turn.tokens (read c.in_ok-found.found.it c.in_ok-found.found.height c.designator.new.tokens)
    c.push.new.self c.max-height.result
    c.loop-turn-test.true c.loop-turn.invariant (sym c.is_no_designator.ensures ∙ c.if-is_no_designator.false) c.in_ok-found.ensures
    c.in_ok-push.ensures.ok c.max-height.ensures

pub returns-then-not-is_no_designator : goal.returns-then-not-is_no_designator
returns-then-not-is_no_designator g c = many_out (a_designator c.args.self.now.types.now (c.args.self.now.limit - 1)) with_item
    ends_designators _ _ c.loop-turn.all c.loop-turn.height c.loop-turn.tokens c.loop-turn-test.false c.loop-turn.invariant
    (sym c.is_no_designator-2.ensures ∙ c.if-not-is_no_designator.true)

pub returns : goal.returns
returns g c = many_ended (a_designator c.args.self.now.types.now (c.args.self.now.limit - 1)) with_item ends_designators _ c.loop-turn.all
    c.loop-turn.height c.loop-turn.tokens c.loop-turn.invariant (sym c.is_no_designator-2.ensures ∙ c.if-not-is_no_designator.false)

pub loop-turn-init : goal.loop-turn-init
loop-turn-init g c = designators_begin c.args.self.now.types.now (c.args.self.now.limit - 1) _ _ c.args.tokens.now c.len-turn-end.ensures c.new-all.ensures
