use Rattle.std.proofs.Common.{sym, ◌∙◌}
use Rattle.sc_parse_front.specs.Front.{is_right_brace}
use Rattle.sc_parse_expr.specs.Nests.{below}
use Rattle.sc_parse_expr.specs.Read.{read}
use Rattle.sc_parse_expr.specs.Reading.{member, with_item}
use Rattle.sc_parse_expr.proofs.Steps.{many_ended, many_refused, many_next, many_out, passed_on}
use Rattle.sc_parse_expr.proofs.grammar.Grammar.members.Goals as goal

pub returns-then-is_right_brace : goal.returns-then-is_right_brace
returns-then-is_right_brace g c = many_ended (member c.args.self.now.types.now c.args.self.now.limit
    (below c.args.self.now.types.now c.args.self.now.limit)) with_item is_right_brace _ c.loop-turn.all c.loop-turn.height
    c.loop-turn.tokens c.loop-turn.invariant (sym c.is_right_brace.ensures ∙ c.if-is_right_brace.true)

pub returns-in_err-found : goal.returns-in_err-found
returns-in_err-found g c =
    passed_on c.from_residual.result c.member.new.tokens c.member.new.tokens c.in_err-found.field-0.0 c.in_err-found.ensures c.from_residual.ensures.1
    (λ none. many_refused (member c.args.self.now.types.now c.args.self.now.limit (below c.args.self.now.types.now c.args.self.now.limit))
    with_item is_right_brace _ _ c.loop-turn.all c.loop-turn.height c.loop-turn.tokens c.loop-turn-test.true c.loop-turn.invariant
    (sym c.is_right_brace.ensures ∙ c.if-is_right_brace.false) none)

pub loop-turn-preserved : goal.loop-turn-preserved
loop-turn-preserved g c =
    many_next (member c.args.self.now.types.now c.args.self.now.limit (below c.args.self.now.types.now c.args.self.now.limit)) with_item
    is_right_brace _ _ c.loop-turn.all c.loop-turn.height c.loop-turn.tokens
    (read c.in_ok-found.found.it c.in_ok-found.found.height c.member.new.tokens) c.push.new.self c.max-height.result
    c.loop-turn-test.true c.loop-turn.invariant (sym c.is_right_brace.ensures ∙ c.if-is_right_brace.false) c.in_ok-found.ensures
    c.in_ok-push.ensures.ok c.max-height.ensures

pub returns-then-not-is_right_brace : goal.returns-then-not-is_right_brace
returns-then-not-is_right_brace g c = many_out (member c.args.self.now.types.now c.args.self.now.limit
    (below c.args.self.now.types.now c.args.self.now.limit)) with_item is_right_brace _ _ c.loop-turn.all c.loop-turn.height
    c.loop-turn.tokens c.loop-turn-test.false c.loop-turn.invariant (sym c.is_right_brace-2.ensures ∙ c.if-not-is_right_brace.true)

pub returns : goal.returns
returns g c = many_ended (member c.args.self.now.types.now c.args.self.now.limit (below c.args.self.now.types.now c.args.self.now.limit))
    with_item is_right_brace _ c.loop-turn.all c.loop-turn.height c.loop-turn.tokens c.loop-turn.invariant
    (sym c.is_right_brace-2.ensures ∙ c.if-not-is_right_brace.false)
