use Rattle.std.proofs.Common.{sym, ◌∙◌}
use Rattle.sc_parse_expr.specs.Nests.{below}
use Rattle.sc_parse_expr.proofs.Steps.{sequence_loop, loop_stops, loop_refused, loop_next, loop_out, passed_on}
use Rattle.sc_parse_expr.proofs.grammar.Grammar.sequence.Goals as goal

pub returns-then-not-is_comma : goal.returns-then-not-is_comma
returns-then-not-is_comma g c = loop_stops (sequence_loop c.args.self.now.types.now c.args.self.now.limit
    (below c.args.self.now.types.now c.args.self.now.limit) c.args.begin) _ _ c.loop-turn.invariant (sym c.is_comma.ensures ∙ c.if-not-is_comma.true)

pub returns-in_err-a : goal.returns-in_err-a
returns-in_err-a g c =
    passed_on c.from_residual.result c.sequenced.new.tokens c.sequenced.new.tokens c.in_err-a.field-0.0 c.in_err-a.ensures c.from_residual.ensures.1
    (λ none. loop_refused (sequence_loop c.args.self.now.types.now c.args.self.now.limit
    (below c.args.self.now.types.now c.args.self.now.limit) c.args.begin) _ _ _ c.loop-turn-test.true c.loop-turn.invariant
    (sym c.is_comma.ensures ∙ c.if-not-is_comma.false) none)

pub loop-turn-preserved : goal.loop-turn-preserved
loop-turn-preserved g c = loop_next (sequence_loop c.args.self.now.types.now c.args.self.now.limit
    (below c.args.self.now.types.now c.args.self.now.limit) c.args.begin) _ _ _ _ c.loop-turn-test.true c.loop-turn.invariant
    (sym c.is_comma.ensures ∙ c.if-not-is_comma.false) c.in_ok-a.ensures

pub returns-then-is_comma : goal.returns-then-is_comma
returns-then-is_comma g c = loop_out (sequence_loop c.args.self.now.types.now c.args.self.now.limit
    (below c.args.self.now.types.now c.args.self.now.limit) c.args.begin) _ _ _ c.loop-turn-test.false c.loop-turn.invariant
    (sym c.is_comma-2.ensures ∙ c.if-is_comma.true)

pub returns : goal.returns
returns g c = loop_stops (sequence_loop c.args.self.now.types.now c.args.self.now.limit
    (below c.args.self.now.types.now c.args.self.now.limit) c.args.begin) _ _ c.loop-turn.invariant (sym c.is_comma-2.ensures ∙ c.if-is_comma.false)
