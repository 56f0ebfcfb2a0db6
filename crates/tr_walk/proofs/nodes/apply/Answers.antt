-- What an operator asks of kept operands, and what it promises over them.
use Rattle.std.proofs.Common.{sym, ◌∙◌, ap}
use Rattle.run_values.specs.Seen.{want_of}
use Rattle.expr_fits.specs.Around.{exp_of}
use Rattle.expr_fits.specs.Operands.{has_operands}
use Rattle.tr_walk.proofs.Own as own
use Rattle.tr_walk.proofs.nodes.apply.Goals as goal

pub apply_unary-requires-clause-applies : goal.apply_unary-requires-clause-applies
apply_unary-requires-clause-applies c = own.over_applies c.args.around.now (want_of c.args.want) c.args.kept.first c.args.kept.second (exp_of c.args.around.now c.args.e.now) (ap has_operands (sym c.arity_of.ensures ∙ c.in-Unary.is)) c.requires.can

pub apply_unary-requires-clause-kind : goal.apply_unary-requires-clause-kind
apply_unary-requires-clause-kind c =
    own.first_kind c.args.around.now (want_of c.args.want) c.args.kept.first c.args.kept.second (exp_of c.args.around.now c.args.e.now) c.args.net.now c.args.stored.now.locations.items c.args.ends.now c.in_ok-x-in-Unary.x
    (own.first_walks c.args.around.now (want_of c.args.want) c.args.kept.first c.args.kept.second (exp_of c.args.around.now c.args.e.now) c.args.net.now c.args.stored.now.locations.items c.args.ends.now c.in_ok-x-in-Unary.x (ap has_operands (sym c.arity_of.ensures ∙ c.in-Unary.is)) c.requires.can c.requires.ready c.in_ok-x-in-Unary.ensures)

pub apply_unary-requires-clause-top : goal.apply_unary-requires-clause-top
apply_unary-requires-clause-top c =
    let walked = own.first_walks c.args.around.now (want_of c.args.want) c.args.kept.first c.args.kept.second (exp_of c.args.around.now c.args.e.now) c.args.net.now c.args.stored.now.locations.items c.args.ends.now c.in_ok-x-in-Unary.x (ap has_operands (sym c.arity_of.ensures ∙ c.in-Unary.is)) c.requires.can c.requires.ready c.in_ok-x-in-Unary.ensures in
    walked.below

pub returns-in_ok-made-in-Unary-clause-ok : goal.returns-in_ok-made-in-Unary-clause-ok
returns-in_ok-made-in-Unary-clause-ok c =
    own.over_one c.args.around.now (want_of c.args.want) c.args.kept.first c.args.kept.second (exp_of c.args.around.now c.args.e.now) c.args.net.now _ _ _ _ _ c.in_ok-x-in-Unary.x _ (ap has_operands (sym c.arity_of.ensures ∙ c.in-Unary.is)) c.requires.can c.requires.ready c.in_ok-x-in-Unary.ensures c.in_ok-made-in-Unary.ensures.ok

pub apply_binary-requires-clause-applies : goal.apply_binary-requires-clause-applies
apply_binary-requires-clause-applies c = own.over_applies c.args.around.now (want_of c.args.want) c.args.kept.first c.args.kept.second (exp_of c.args.around.now c.args.e.now) (ap has_operands (sym c.arity_of.ensures ∙ c.in-Binary.is)) c.requires.can

pub apply_binary-requires-clause-left : goal.apply_binary-requires-clause-left
apply_binary-requires-clause-left c =
    own.first_kind c.args.around.now (want_of c.args.want) c.args.kept.first c.args.kept.second (exp_of c.args.around.now c.args.e.now) c.args.net.now c.args.stored.now.locations.items c.args.ends.now c.in_ok-left-in-Binary.left
    (own.first_walks c.args.around.now (want_of c.args.want) c.args.kept.first c.args.kept.second (exp_of c.args.around.now c.args.e.now) c.args.net.now c.args.stored.now.locations.items c.args.ends.now c.in_ok-left-in-Binary.left (ap has_operands (sym c.arity_of.ensures ∙ c.in-Binary.is)) c.requires.can c.requires.ready c.in_ok-left-in-Binary.ensures)

pub apply_binary-requires-clause-right : goal.apply_binary-requires-clause-right
apply_binary-requires-clause-right c =
    own.second_kind c.args.around.now (want_of c.args.want) c.args.kept.first c.args.kept.second (exp_of c.args.around.now c.args.e.now) c.args.net.now c.args.stored.now.locations.items c.args.ends.now c.in_ok-right-in-Binary.right
    (own.second_walks c.args.around.now (want_of c.args.want) c.args.kept.first c.args.kept.second (exp_of c.args.around.now c.args.e.now) c.args.net.now c.args.stored.now.locations.items c.args.ends.now c.in_ok-right-in-Binary.right (sym c.arity_of.ensures ∙ c.in-Binary.is) c.requires.can c.requires.ready c.in_ok-right-in-Binary.ensures)

pub apply_binary-requires-clause-left_top : goal.apply_binary-requires-clause-left_top
apply_binary-requires-clause-left_top c =
    let walked = own.first_walks c.args.around.now (want_of c.args.want) c.args.kept.first c.args.kept.second (exp_of c.args.around.now c.args.e.now) c.args.net.now c.args.stored.now.locations.items c.args.ends.now c.in_ok-left-in-Binary.left (ap has_operands (sym c.arity_of.ensures ∙ c.in-Binary.is)) c.requires.can c.requires.ready c.in_ok-left-in-Binary.ensures in
    walked.below

pub apply_binary-requires-clause-right_top : goal.apply_binary-requires-clause-right_top
apply_binary-requires-clause-right_top c =
    let walked = own.second_walks c.args.around.now (want_of c.args.want) c.args.kept.first c.args.kept.second (exp_of c.args.around.now c.args.e.now) c.args.net.now c.args.stored.now.locations.items c.args.ends.now c.in_ok-right-in-Binary.right (sym c.arity_of.ensures ∙ c.in-Binary.is) c.requires.can c.requires.ready c.in_ok-right-in-Binary.ensures in
    walked.below

pub returns-in_ok-made-in-Binary-clause-ok : goal.returns-in_ok-made-in-Binary-clause-ok
returns-in_ok-made-in-Binary-clause-ok c =
    own.over_both c.args.around.now (want_of c.args.want) c.args.kept.first c.args.kept.second (exp_of c.args.around.now c.args.e.now) c.args.net.now _ _ _ _ _ _ _ (sym c.arity_of.ensures ∙ c.in-Binary.is) c.requires.can c.requires.ready c.in_ok-left-in-Binary.ensures c.in_ok-right-in-Binary.ensures c.in_ok-made-in-Binary.ensures.ok
