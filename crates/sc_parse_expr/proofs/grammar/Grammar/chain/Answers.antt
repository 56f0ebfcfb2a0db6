use Rattle.std.proofs.Common.{is_some, true, false, ap, sym, ◌∙◌}
use Rattle.sc_parse_expr.specs.Read.{read}
use Rattle.sc_parse_expr.specs.Nests.{below}
use Rattle.sc_parse_front.specs.Front.{front}
use Rattle.sc_parse_expr.proofs.Steps.{chain_loop, operator_step_by, loop_stops, loop_refused, loop_next, loop_out, passed_on}
use Rattle.sc_parse_expr.proofs.Steps.{operator_none, operator_some, operator_there}
use Rattle.sc_parse_expr.proofs.grammar.Grammar.chain.Goals as goal

pub returns-in_default : goal.returns-in_default
returns-in_default g c =
    loop_stops (chain_loop c.args.self.now.types.now c.args.self.now.limit (below c.args.self.now.types.now c.args.self.now.limit)
    c.args.stronger c.args.begin) _ _ c.loop-turn.invariant
    (operator_none c.binary_at.result c.args.stronger (front c.loop-turn.tokens) c.binary_at.ensures c.in_default.is)

pub returns-in_err-a : goal.returns-in_err-a
returns-in_err-a g c =
    let op = operator_some c.binary_at.result c.args.stronger (front c.loop-turn.tokens) c.in-Some.op c.binary_at.ensures c.in-Some.is in
    passed_on c.from_residual.result c.combined.new.tokens c.combined.new.tokens c.in_err-a.field-0.0 c.in_err-a.ensures c.from_residual.ensures.1
    (λ none. loop_refused (chain_loop c.args.self.now.types.now c.args.self.now.limit
    (below c.args.self.now.types.now c.args.self.now.limit) c.args.stronger c.args.begin) _ _ _ c.loop-turn-test.true
    c.loop-turn.invariant (ap is_some op)
    (ap (λ o. operator_step_by c.args.self.now.types.now c.args.self.now.limit (below c.args.self.now.types.now c.args.self.now.limit)
    c.args.stronger c.args.begin o (read c.loop-turn.a.it c.loop-turn.a.height c.loop-turn.tokens)) op ∙ none))

pub loop-turn-preserved : goal.loop-turn-preserved
loop-turn-preserved g c =
    let op = operator_some c.binary_at.result c.args.stronger (front c.loop-turn.tokens) c.in-Some.op c.binary_at.ensures c.in-Some.is in
    loop_next (chain_loop c.args.self.now.types.now c.args.self.now.limit (below c.args.self.now.types.now c.args.self.now.limit)
    c.args.stronger c.args.begin) _ _ _ _ c.loop-turn-test.true c.loop-turn.invariant (ap is_some op)
    (ap (λ o. operator_step_by c.args.self.now.types.now c.args.self.now.limit (below c.args.self.now.types.now c.args.self.now.limit)
    c.args.stronger c.args.begin o (read c.loop-turn.a.it c.loop-turn.a.height c.loop-turn.tokens)) op ∙ c.in_ok-a.ensures)

pub returns-then-is_some : goal.returns-then-is_some
returns-then-is_some g c =
    loop_out (chain_loop c.args.self.now.types.now c.args.self.now.limit (below c.args.self.now.types.now c.args.self.now.limit)
    c.args.stronger c.args.begin) _ _ _ c.loop-turn-test.false c.loop-turn.invariant
    (operator_there c.binary_at-2.result c.args.stronger (front c.loop-turn.tokens) true c.binary_at-2.ensures (sym c.is_some.ensures ∙ c.if-is_some.true))

pub returns : goal.returns
returns g c =
    loop_stops (chain_loop c.args.self.now.types.now c.args.self.now.limit (below c.args.self.now.types.now c.args.self.now.limit)
    c.args.stronger c.args.begin) _ _ c.loop-turn.invariant
    (operator_there c.binary_at-2.result c.args.stronger (front c.loop-turn.tokens) false c.binary_at-2.ensures (sym c.is_some.ensures ∙ c.if-is_some.false))
