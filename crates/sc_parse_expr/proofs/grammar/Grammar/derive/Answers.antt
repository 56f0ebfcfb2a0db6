use Rattle.std.proofs.Common.{sym, ◌∙◌}
use Rattle.sc_parse_expr.specs.Nests.{below}
use Rattle.sc_parse_expr.proofs.Steps.{derive_loop, loop_stops, loop_refused, loop_next, loop_out, passed_on}
use Rattle.sc_parse_expr.proofs.grammar.Grammar.derive.Goals as goal

pub returns-then-not-has_derived : goal.returns-then-not-has_derived
returns-then-not-has_derived g c = loop_stops (derive_loop c.args.self.now.types.now c.args.self.now.limit
    (below c.args.self.now.types.now c.args.self.now.limit)) _ _ c.loop-turn.invariant (sym c.has_derived.ensures ∙ c.if-not-has_derived.true)

pub returns-in_err-a : goal.returns-in_err-a
returns-in_err-a g c =
    passed_on c.from_residual.result c.derived.new.tokens c.derived.new.tokens c.in_err-a.field-0.0 c.in_err-a.ensures c.from_residual.ensures.1
    (λ none. loop_refused (derive_loop c.args.self.now.types.now c.args.self.now.limit
    (below c.args.self.now.types.now c.args.self.now.limit)) _ _ _ c.loop-turn-test.true c.loop-turn.invariant
    (sym c.has_derived.ensures ∙ c.if-not-has_derived.false) none)

pub loop-turn-preserved : goal.loop-turn-preserved
loop-turn-preserved g c = loop_next (derive_loop c.args.self.now.types.now c.args.self.now.limit
    (below c.args.self.now.types.now c.args.self.now.limit)) _ _ _ _ c.loop-turn-test.true c.loop-turn.invariant
    (sym c.has_derived.ensures ∙ c.if-not-has_derived.false) c.in_ok-a.ensures

pub returns-then-has_derived : goal.returns-then-has_derived
returns-then-has_derived g c = loop_out (derive_loop c.args.self.now.types.now c.args.self.now.limit
    (below c.args.self.now.types.now c.args.self.now.limit)) _ _ _ c.loop-turn-test.false c.loop-turn.invariant
    (sym c.has_derived-2.ensures ∙ c.if-has_derived.true)

pub returns : goal.returns
returns g c = loop_stops (derive_loop c.args.self.now.types.now c.args.self.now.limit
    (below c.args.self.now.types.now c.args.self.now.limit)) _ _ c.loop-turn.invariant (sym c.has_derived-2.ensures ∙ c.if-has_derived.false)
