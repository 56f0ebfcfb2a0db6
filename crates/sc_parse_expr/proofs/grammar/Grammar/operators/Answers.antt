use Rattle.std.proofs.Common.{◌≡◌, arith, ◌+◌}
use Rattle.sc_parse_expr.specs.Nests.{below}
use Rattle.sc_parse_expr.specs.Read.{read}
use Rattle.sc_parse_expr.specs.Reading.{operators}
use Rattle.sc_parse_expr.proofs.Steps.{operators_none, operators_next, operators_refused, passed_on}
use Rattle.sc_parse_expr.proofs.grammar.Grammar.operators.Goals as goal

pub returns-in_err-a : goal.returns-in_err-a
unfolding operators
returns-in_err-a g c =
    let same : c.args.level ≡ c.args.level + 0 = omega arith in
    passed_on c.from_residual.result c.casts.new.tokens c.casts.new.tokens c.in_err-a.field-0.0 c.in_err-a.ensures c.from_residual.ensures.1
    (λ none. operators_none c.args.self.now.types.now c.args.self.now.limit (below c.args.self.now.types.now c.args.self.now.limit) 0
    c.args.level c.args.level c.args.tokens.now same none)

pub loop-stronger-init : goal.loop-stronger-init
unfolding operators
loop-stronger-init g c = c.in_ok-a.ensures

pub returns-in_err-a-2 : goal.returns-in_err-a-2
returns-in_err-a-2 g c =
    passed_on c.from_residual-in_err-a-2.result c.chain.new.tokens c.chain.new.tokens c.in_err-a-2.field-0.0 c.in_err-a-2.ensures
    c.from_residual-in_err-a-2.ensures.1
    (λ none. operators_refused c.args.self.now.types.now c.args.self.now.limit (below c.args.self.now.types.now c.args.self.now.limit)
    c.args.tokens.now c.first_pos-begin.result c.first_pos-begin.ensures c.loop-stronger.stronger c.args.level
    (read c.loop-stronger.a.it c.loop-stronger.a.height c.loop-stronger.tokens)
    c.loop-stronger-test.true c.loop-stronger.invariant none)

pub loop-stronger-preserved : goal.loop-stronger-preserved
loop-stronger-preserved g c =
    operators_next c.args.self.now.types.now c.args.self.now.limit (below c.args.self.now.types.now c.args.self.now.limit) c.args.tokens.now
    c.first_pos-begin.result c.first_pos-begin.ensures c.loop-stronger.stronger
    (read c.loop-stronger.a.it c.loop-stronger.a.height c.loop-stronger.tokens) _
    c.loop-stronger.invariant c.in_ok-a-2.ensures
