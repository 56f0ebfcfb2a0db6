use Rattle.std.proofs.Common.{sym, ◌∙◌}
use Rattle.sc_parse_expr.specs.Read.{read}
use Rattle.sc_parse_expr.proofs.Steps.{passed_on_as}
use Rattle.sc_parse_unit.proofs.FileTurns.{file_refused, file_init_refused, file_last, file_next, file_out, keeps_all}
use Rattle.sc_parse_unit.proofs.outlines.more_declarators.Goals as goal

pub returns-in_err-declared-clause-gives : goal.returns-in_err-declared-clause-gives
returns-in_err-declared-clause-gives c =
    passed_on_as _ c.from_residual.result c.read_declarator.new.tokens _ c.in_err-declared.field-0.0 c.in_err-declared.ensures c.from_residual.ensures.1
    (λ none. file_refused c.args.typedef _ _ c.loop-turn.all c.loop-turn.types c.loop-turn.height c.loop-turn.tokens c.loop-turn-test.true
    c.loop-turn.invariant.0 none)

pub returns-in_err-found-clause-gives : goal.returns-in_err-found-clause-gives
returns-in_err-found-clause-gives c =
    passed_on_as _ c.from_residual-in_err-found.result c.file_declarator.new.tokens _ c.in_err-found.field-0.0 c.in_err-found.ensures.gives
    c.from_residual-in_err-found.ensures.1
    (λ none. file_init_refused c.args.typedef _ _ c.loop-turn.all c.loop-turn.types c.loop-turn.height c.loop-turn.tokens
    c.loop-turn-test.true c.loop-turn.invariant.0
    (read c.in_ok-declared.declared.it c.in_ok-declared.declared.height c.read_declarator.new.tokens) c.in_ok-declared.ensures none)

pub returns-then-not-is_comma-clause-gives : goal.returns-then-not-is_comma-clause-gives
returns-then-not-is_comma-clause-gives c =
    file_last c.args.typedef _ _ c.loop-turn.all c.loop-turn.types c.loop-turn.height c.loop-turn.tokens c.loop-turn-test.true c.loop-turn.invariant.0
    (read c.in_ok-declared.declared.it c.in_ok-declared.declared.height c.read_declarator.new.tokens) c.in_ok-declared.ensures
    (read c.in_ok-found.found.it c.in_ok-found.found.height c.file_declarator.new.tokens) c.in_ok-found.ensures.gives
    c.file_declarator.new.types c.in_ok-found.ensures.types
    c.push.new.self c.in_ok-push.ensures.ok c.max-height.result c.max-height.ensures (sym c.is_comma.ensures ∙ c.if-not-is_comma.true)

pub loop-turn-preserved : goal.loop-turn-preserved
loop-turn-preserved c = (
  file_next c.args.typedef _ _ c.loop-turn.all c.loop-turn.types c.loop-turn.height c.loop-turn.tokens c.loop-turn-test.true c.loop-turn.invariant.0
      (read c.in_ok-declared.declared.it c.in_ok-declared.declared.height c.read_declarator.new.tokens) c.in_ok-declared.ensures
      (read c.in_ok-found.found.it c.in_ok-found.found.height c.file_declarator.new.tokens) c.in_ok-found.ensures.gives
      c.file_declarator.new.types c.in_ok-found.ensures.types
      c.push.new.self c.in_ok-push.ensures.ok c.max-height.result c.max-height.ensures (sym c.is_comma.ensures ∙ c.if-not-is_comma.false)
      c.advance.new.self c.advance.ensures,
  keeps_all c.loop-turn.invariant.1 c.in_ok-found.ensures.kept,
)

pub returns-clause-gives : goal.returns-clause-gives
returns-clause-gives c = file_out c.args.typedef _ _ c.loop-turn.all c.loop-turn.types c.loop-turn.height c.loop-turn.tokens
    c.loop-turn-test.false c.loop-turn.invariant.0
