use Rattle.std.proofs.Common.{◌++◌, ◌∷◌, [], refl, sym, ap, ◌∙◌}
use Rattle.sc_tree.specs.declared.grammar.Level.TheVariants.{Assignment}
use Rattle.sc_parse_expr.specs.Reading.{inner_expr, with_tree, never}
use Rattle.sc_parse_expr.specs.Nests.{below}
use Rattle.sc_parse_expr.specs.Read.{read}
use Rattle.sc_parse_expr.proofs.Steps.{commas_refused, commas_last, commas_next, commas_out, items_of, passed_on, ord_max_nat}
use Rattle.sc_parse_expr.proofs.grammar.Grammar.some_arguments.Goals as goal

pub returns-in_err-found : goal.returns-in_err-found
returns-in_err-found g c =
    passed_on c.from_residual-in_err-found.result c.inner_expr.new.tokens c.inner_expr.new.tokens c.in_err-found.field-0.0
    c.in_err-found.ensures c.from_residual-in_err-found.ensures.1
    (λ none. commas_refused (inner_expr c.args.self.now.types.now c.args.self.now.limit
    (below c.args.self.now.types.now c.args.self.now.limit) Assignment) with_tree never items_of _ _ c.loop-turn.all c.loop-turn.height
    c.loop-turn.tokens c.loop-turn-test.true c.loop-turn.invariant none)

pub returns-then-not-is_comma : goal.returns-then-not-is_comma
returns-then-not-is_comma g c =
    commas_last (inner_expr c.args.self.now.types.now c.args.self.now.limit (below c.args.self.now.types.now c.args.self.now.limit)
    Assignment) with_tree never items_of _ _ c.loop-turn.all c.loop-turn.height c.loop-turn.tokens
    (read c.in_ok-found.found.it c.in_ok-found.found.height c.inner_expr.new.tokens) c.push.new.self c.max-height.result
    c.inner_expr.new.tokens c.loop-turn-test.true c.loop-turn.invariant c.in_ok-found.ensures (sym c.is_comma.ensures ∙ c.if-not-is_comma.true)
    (c.in_ok-push.ensures.ok ∙ ap (λ t. c.loop-turn.all ++ t ∷ []) c.into_inner.ensures) (c.max-height.ensures ∙ ord_max_nat _ _) refl

pub loop-turn-preserved : goal.loop-turn-preserved
loop-turn-preserved g c =
    commas_next (inner_expr c.args.self.now.types.now c.args.self.now.limit (below c.args.self.now.types.now c.args.self.now.limit)
    Assignment) with_tree never items_of _ _ c.loop-turn.all c.loop-turn.height c.loop-turn.tokens
    (read c.in_ok-found.found.it c.in_ok-found.found.height c.inner_expr.new.tokens) c.push.new.self c.max-height.result
    c.advance.new.self c.loop-turn-test.true c.loop-turn.invariant c.in_ok-found.ensures (sym c.is_comma.ensures ∙ c.if-not-is_comma.false)
    c.advance.ensures refl (c.in_ok-push.ensures.ok ∙ ap (λ t. c.loop-turn.all ++ t ∷ []) c.into_inner.ensures) (c.max-height.ensures ∙ ord_max_nat _ _)

pub returns : goal.returns
returns g c = commas_out (inner_expr c.args.self.now.types.now c.args.self.now.limit (below c.args.self.now.types.now c.args.self.now.limit)
    Assignment) with_tree never items_of _ _ c.loop-turn.all c.loop-turn.height c.loop-turn.tokens c.loop-turn-test.false c.loop-turn.invariant
