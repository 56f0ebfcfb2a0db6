use Rattle.std.proofs.Common.{◌++◌, ◌∷◌, [], Some, true, refl, sym, ap, ◌∙◌}
use Rattle.sc_tree.specs.declared.grammar.Naming.TheVariants as naming
use Rattle.sc_parse_front.specs.Front.{is_ellipsis}
use Rattle.sc_parse_expr.specs.Reading.{params, inner_head, enrolled, listed_params}
use Rattle.sc_parse_expr.specs.Nests.{below}
use Rattle.sc_parse_expr.specs.Read.{read}
use Rattle.sc_parse_expr.specs.Reading.{params_of}
use Rattle.sc_parse_expr.proofs.Steps.{commas_refused, commas_last, commas_ended, commas_next, commas_out, passed_on_as, roll_more, ord_max_nat}
use Rattle.sc_parse_expr.proofs.grammar.Grammar.heads.Goals as goal

pub returns-in_err-found : goal.returns-in_err-found
returns-in_err-found g c =
    passed_on_as params_of c.from_residual-in_err-found.result c.inner_head.new.tokens c.inner_head.new.tokens c.in_err-found.field-0.0
    c.in_err-found.ensures c.from_residual-in_err-found.ensures.1
    (λ none. commas_refused (inner_head c.args.self.now.types.now c.args.self.now.limit
    (below c.args.self.now.types.now c.args.self.now.limit) naming.Optional) enrolled is_ellipsis
    (listed_params c.args.self.now.types.now c.args.self.now.limit (below c.args.self.now.types.now c.args.self.now.limit)) _ _
    (record { heads = c.loop-turn.all; named = c.loop-turn.named }) c.loop-turn.height c.loop-turn.tokens c.loop-turn-test.true
    c.loop-turn.invariant none)

pub returns-then-not-is_comma : goal.returns-then-not-is_comma
returns-then-not-is_comma g c =
    commas_last (inner_head c.args.self.now.types.now c.args.self.now.limit (below c.args.self.now.types.now c.args.self.now.limit)
    naming.Optional) enrolled is_ellipsis (listed_params c.args.self.now.types.now c.args.self.now.limit
    (below c.args.self.now.types.now c.args.self.now.limit)) _ _ (record { heads = c.loop-turn.all; named = c.loop-turn.named })
    c.loop-turn.height c.loop-turn.tokens (read c.in_ok-found.found.it c.in_ok-found.found.height c.inner_head.new.tokens)
    (record { heads = c.push.new.self; named = c.both-named.result }) c.max-height.result c.inner_head.new.tokens c.loop-turn-test.true
    c.loop-turn.invariant c.in_ok-found.ensures (sym c.is_comma.ensures ∙ c.if-not-is_comma.true)
    (roll_more c.loop-turn.all c.push.new.self c.loop-turn.named c.both-named.result c.in_ok-found.found.it
    (c.in_ok-push.ensures.ok ∙ ap (λ t. c.loop-turn.all ++ t ∷ []) c.into_inner.ensures) c.both-named.ensures)
    (c.max-height.ensures ∙ ord_max_nat _ _) refl

pub returns-then-is_ellipsis : goal.returns-then-is_ellipsis
returns-then-is_ellipsis g c =
    commas_ended (inner_head c.args.self.now.types.now c.args.self.now.limit (below c.args.self.now.types.now c.args.self.now.limit)
    naming.Optional) enrolled is_ellipsis (listed_params c.args.self.now.types.now c.args.self.now.limit
    (below c.args.self.now.types.now c.args.self.now.limit)) _ _ (record { heads = c.loop-turn.all; named = c.loop-turn.named })
    c.loop-turn.height c.loop-turn.tokens (read c.in_ok-found.found.it c.in_ok-found.found.height c.inner_head.new.tokens)
    (record { heads = c.push.new.self; named = c.both-named.result }) c.max-height.result c.advance.new.self c.loop-turn-test.true
    c.loop-turn.invariant c.in_ok-found.ensures (sym c.is_comma.ensures ∙ c.if-not-is_comma.false)
    c.advance.ensures (sym c.is_ellipsis.ensures ∙ c.if-is_ellipsis.true)
    (roll_more c.loop-turn.all c.push.new.self c.loop-turn.named c.both-named.result c.in_ok-found.found.it
    (c.in_ok-push.ensures.ok ∙ ap (λ t. c.loop-turn.all ++ t ∷ []) c.into_inner.ensures) c.both-named.ensures)
    (c.max-height.ensures ∙ ord_max_nat _ _) ∙ ap (λ ts. Some
    (read (params (Some c.push.new.self) c.both-named.result true) c.max-height.result ts)) (sym c.advance-then-is_ellipsis.ensures)

pub loop-turn-preserved : goal.loop-turn-preserved
loop-turn-preserved g c =
    commas_next (inner_head c.args.self.now.types.now c.args.self.now.limit (below c.args.self.now.types.now c.args.self.now.limit)
    naming.Optional) enrolled is_ellipsis (listed_params c.args.self.now.types.now c.args.self.now.limit
    (below c.args.self.now.types.now c.args.self.now.limit)) _ _ (record { heads = c.loop-turn.all; named = c.loop-turn.named })
    c.loop-turn.height c.loop-turn.tokens (read c.in_ok-found.found.it c.in_ok-found.found.height c.inner_head.new.tokens)
    (record { heads = c.push.new.self; named = c.both-named.result }) c.max-height.result c.advance.new.self c.loop-turn-test.true
    c.loop-turn.invariant c.in_ok-found.ensures (sym c.is_comma.ensures ∙ c.if-not-is_comma.false)
    c.advance.ensures (sym c.is_ellipsis.ensures ∙ c.if-is_ellipsis.false)
    (roll_more c.loop-turn.all c.push.new.self c.loop-turn.named c.both-named.result c.in_ok-found.found.it
    (c.in_ok-push.ensures.ok ∙ ap (λ t. c.loop-turn.all ++ t ∷ []) c.into_inner.ensures) c.both-named.ensures)
    (c.max-height.ensures ∙ ord_max_nat _ _)

pub returns : goal.returns
returns g c = commas_out (inner_head c.args.self.now.types.now c.args.self.now.limit (below c.args.self.now.types.now c.args.self.now.limit)
    naming.Optional) enrolled is_ellipsis (listed_params c.args.self.now.types.now c.args.self.now.limit
    (below c.args.self.now.types.now c.args.self.now.limit)) _ _ (record { heads = c.loop-turn.all; named = c.loop-turn.named })
    c.loop-turn.height c.loop-turn.tokens c.loop-turn-test.false c.loop-turn.invariant
