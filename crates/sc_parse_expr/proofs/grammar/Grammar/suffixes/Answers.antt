use Rattle.std.proofs.Common.{sym, ◌∙◌}
use Rattle.sc_parse_expr.specs.Nests.{below}
use Rattle.sc_parse_expr.proofs.Steps.{suffixes_loop, loop_stops, loop_refused, loop_next, loop_out, passed_on}
use Rattle.sc_parse_expr.proofs.grammar.Grammar.suffixes.Goals as goal

pub returns-then-not-has_suffix : goal.returns-then-not-has_suffix
returns-then-not-has_suffix g c = loop_stops (suffixes_loop c.args.self.now.types.now c.args.self.now.limit
    (below c.args.self.now.types.now c.args.self.now.limit) c.args.begin) _ _ c.loop-turn.invariant
    (sym c.has_suffix.ensures ∙ c.if-not-has_suffix.true)

pub returns-in_err-a : goal.returns-in_err-a
returns-in_err-a g c =
    passed_on c.from_residual.result c.suffixed.new.tokens c.suffixed.new.tokens c.in_err-a.field-0.0 c.in_err-a.ensures c.from_residual.ensures.1
    (λ none. loop_refused (suffixes_loop c.args.self.now.types.now c.args.self.now.limit
    (below c.args.self.now.types.now c.args.self.now.limit) c.args.begin) _ _ _ c.loop-turn-test.true c.loop-turn.invariant
    (sym c.has_suffix.ensures ∙ c.if-not-has_suffix.false) none)

pub loop-turn-preserved : goal.loop-turn-preserved
loop-turn-preserved g c = loop_next (suffixes_loop c.args.self.now.types.now c.args.self.now.limit
    (below c.args.self.now.types.now c.args.self.now.limit) c.args.begin) _ _ _ _ c.loop-turn-test.true c.loop-turn.invariant
    (sym c.has_suffix.ensures ∙ c.if-not-has_suffix.false) c.in_ok-a.ensures

pub returns-then-has_suffix : goal.returns-then-has_suffix
returns-then-has_suffix g c = loop_out (suffixes_loop c.args.self.now.types.now c.args.self.now.limit
    (below c.args.self.now.types.now c.args.self.now.limit) c.args.begin) _ _ _ c.loop-turn-test.false c.loop-turn.invariant
    (sym c.has_suffix-2.ensures ∙ c.if-has_suffix.true)

pub returns : goal.returns
returns g c = loop_stops (suffixes_loop c.args.self.now.types.now c.args.self.now.limit
    (below c.args.self.now.types.now c.args.self.now.limit) c.args.begin) _ _ c.loop-turn.invariant
    (sym c.has_suffix-2.ensures ∙ c.if-has_suffix.false)
