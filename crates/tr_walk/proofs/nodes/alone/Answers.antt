-- What has no operands that are kept stands as it is, but for the size of an expression.
use Rattle.std.proofs.Common.{◌≡◌, true, sym, ◌∙◌, ap, subst}
use Rattle.gate_values.specs.Values.{IsNumber}
use Rattle.sc_world.specs.Tree.{Ty, is_integer, int_bits}
use Rattle.run_values.specs.Seen.{want_of}
use Rattle.expr_fits.specs.Around.{exp_of, source_of}
use Rattle.expr_fits.specs.Fits.{fits_width}
use Rattle.tr_walk.proofs.Arms as arms
use Rattle.tr_walk.proofs.Own as own
use Rattle.tr_walk.proofs.nodes.alone.Goals as goal

pub walk-requires-clause-can : goal.walk-requires-clause-can
walk-requires-clause-can c =
    rw (own.over_alone (exp_of c.args.around.now c.args.e.now) c.args.kept.first c.args.kept.second c.requires.alone (sym c.size_of.ensures ∙ c.in-None.is)) at c.requires.can

pub returns-in_ok-made-in-None-clause-ok : goal.returns-in_ok-made-in-None-clause-ok
returns-in_ok-made-in-None-clause-ok c =
    rw (own.over_alone (exp_of c.args.around.now c.args.e.now) c.args.kept.first c.args.kept.second c.requires.alone (sym c.size_of.ensures ∙ c.in-None.is)) c.in_ok-made-in-None.ensures.ok

pub number_of-requires-clause-fits : goal.number_of-requires-clause-fits
number_of-requires-clause-fits c =
    let size = own.over_size (exp_of c.args.around.now c.args.e.now) c.args.kept.first c.args.kept.second c.in-Some.n (sym c.size_of.ensures ∙ c.in-Some.is) in
    let can = rw size at c.requires.can in
    subst (λ (t : Ty). fits_width (source_of c.args.around.now) t c.in-Some.n ≡ true) (sym c.type_of.ensures) can.constants

pub number_of-requires-clause-integer : goal.number_of-requires-clause-integer
number_of-requires-clause-integer c =
    let size = own.over_size (exp_of c.args.around.now c.args.e.now) c.args.kept.first c.args.kept.second c.in-Some.n (sym c.size_of.ensures ∙ c.in-Some.is) in
    let can = rw size at c.requires.can in
    ap is_integer c.type_of.ensures ∙ can.fits.1

pub returns-in_ok-made-in-Some-clause-ok : goal.returns-in_ok-made-in-Some-clause-ok
returns-in_ok-made-in-Some-clause-ok c =
    let size = own.over_size (exp_of c.args.around.now c.args.e.now) c.args.kept.first c.args.kept.second c.in-Some.n (sym c.size_of.ensures ∙ c.in-Some.is) in
    rw size
    (arms.walks_size_of c.args.around.now c.args.net.now (want_of c.args.want) _ _ _ _ _ c.requires.ready (rw size at c.requires.can)
    (subst (λ (t : Ty). IsNumber c.args.net.now c.in-Some.n (int_bits (source_of c.args.around.now).widths t) c.in_ok-made-in-Some.made) c.type_of.ensures c.in_ok-made-in-Some.ensures))
