use Rattle.std.proofs.Common.{◌≡◌, ap, sym, ◌∙◌, subst, arith}
use Rattle.gl_store.specs.declared.values.Val.TheVariants as val
use Rattle.gl_store.specs.Meets.{val_top}
use Rattle.gl_store.specs.Steps.{IsSame}
use Rattle.gl_store.specs.declared.values.Val.{Val}
use Rattle.sc_world.specs.View.{type}
use Rattle.run_values.specs.Seen.{want_of}
use Rattle.expr_fits.specs.Around.{temps_of}
use Rattle.expr_fits.specs.Temps.{temp_at}
use Rattle.tr_walk.proofs.Arms.{walks_place, walks_at_place, kept_pointer}
use Rattle.tr_walk.proofs.Kept.{temp_low}
use Rattle.tr_walk.proofs.leaves.kept_place.Goals as goal

pub as_set-place-requires : goal.as_set-place-requires
as_set-place-requires c =
    kept_pointer c.args.around.now (want_of c.args.want) c.args.number (type c.args.t.now) c.in_ok-kept.kept c.requires.can c.in_ok-kept.ensures

pub wanted-requires-clause-pointer : goal.wanted-requires-clause-pointer
wanted-requires-clause-pointer c =
    let low = temp_low (temps_of c.args.around.now) c.args.number in
    let top : val_top (val.Set c.as_set-place.result) ≡ val_top (temp_at (temps_of c.args.around.now) c.args.number) =
    ap val_top (sym c.as_set-place.ensures) ∙ c.in_ok-kept.ensures.top in
    omega (arith, top, low, c.requires.ready.temps)

pub returns-in-Place-clause-ok : goal.returns-in-Place-clause-ok
returns-in-Place-clause-ok c =
    rw c.in-Place.is
    (walks_place c.args.around.now c.args.net.now c.args.number (type c.args.t.now) c.args.stored.now.locations.items c.args.ends.now c.in_ok-kept.kept
    c.requires.ready (rw c.in-Place.is at c.requires.can) c.in_ok-kept.ensures)

pub returns-in_ok-made-in-Value-clause-ok : goal.returns-in_ok-made-in-Value-clause-ok
returns-in_ok-made-in-Value-clause-ok c =
    rw c.in-Value.is
    (walks_at_place c.args.around.now c.args.net.now c.wanted.new.net c.args.number (type c.args.t.now) c.args.stored.now.locations.items c.args.ends.now
    c.as_set-place.result c.in_ok-made-in-Value.made c.in_ok-made-in-Value.ensures.grown c.requires.ready
    (subst (λ (x : Val). IsSame (temp_at (temps_of c.args.around.now) c.args.number) x) c.as_set-place.ensures c.in_ok-kept.ensures)
    (rw c.in-Value.is at c.in_ok-made-in-Value.ensures.ok))
