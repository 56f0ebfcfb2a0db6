use Rattle.std.proofs.Common.{refl, sym, ◌∙◌}
use Rattle.sc_parse_expr.specs.Reading.Grammar.{with_item, never}
use Rattle.sc_parse_unit.specs.Reading.{init_declarator}
use Rattle.sc_parse_expr.specs.Read.{read}
use Rattle.sc_parse_expr.proofs.Steps.{commas_refused, commas_last, commas_next, commas_out, items_of, passed_on, ord_max_nat}
use Rattle.sc_parse_unit.proofs.declarations.some_declarators.Goals as goal

pub returns-in_err-found : goal.returns-in_err-found
returns-in_err-found c =
    passed_on c.from_residual-in_err-found.result c.init_declarator.new.tokens c.init_declarator.new.tokens c.in_err-found.field-0.0
    c.in_err-found.ensures c.from_residual-in_err-found.ensures.1
    (λ none. commas_refused (init_declarator c.args.types.now c.args.limit) with_item never items_of _ _ c.loop-turn.all c.loop-turn.height
    c.loop-turn.tokens c.loop-turn-test.true c.loop-turn.invariant none)

pub returns-then-not-is_comma : goal.returns-then-not-is_comma
returns-then-not-is_comma c =
    commas_last (init_declarator c.args.types.now c.args.limit) with_item never items_of _ _ c.loop-turn.all c.loop-turn.height
    c.loop-turn.tokens (read c.in_ok-found.found.it c.in_ok-found.found.height c.init_declarator.new.tokens) c.push.new.self
    c.max-height.result c.init_declarator.new.tokens c.loop-turn-test.true c.loop-turn.invariant c.in_ok-found.ensures
    (sym c.is_comma.ensures ∙ c.if-not-is_comma.true)
    c.in_ok-push.ensures.ok (c.max-height.ensures ∙ ord_max_nat _ _) refl

pub loop-turn-preserved : goal.loop-turn-preserved
loop-turn-preserved c =
    commas_next (init_declarator c.args.types.now c.args.limit) with_item never items_of _ _ c.loop-turn.all c.loop-turn.height
    c.loop-turn.tokens (read c.in_ok-found.found.it c.in_ok-found.found.height c.init_declarator.new.tokens) c.push.new.self
    c.max-height.result c.advance.new.self c.loop-turn-test.true c.loop-turn.invariant c.in_ok-found.ensures
    (sym c.is_comma.ensures ∙ c.if-not-is_comma.false)
    c.advance.ensures refl c.in_ok-push.ensures.ok (c.max-height.ensures ∙ ord_max_nat _ _)

pub returns : goal.returns
returns c = commas_out (init_declarator c.args.types.now c.args.limit) with_item never items_of _ _ c.loop-turn.all c.loop-turn.height
    c.loop-turn.tokens c.loop-turn-test.false c.loop-turn.invariant
