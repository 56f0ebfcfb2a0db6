use Rattle.std.proofs.Common.{not, refl, sym, ap, ◌∙◌, ◌++◌, ◌∷◌, [], take, arith}
use Rattle.std.proofs.lemmas.List.{take_more}
use Rattle.bit_net.proofs.Growth.{Grown-refl, Grown-trans}
use Rattle.layout_base.specs.Seen as laid
use Rattle.sc_world.specs.Known.{spot_behind}
use Rattle.sc_world.specs.Occurrences.{is_out_path}
use Rattle.gate_paths.specs.Cells.{spot_behind_cells}
use Rattle.gate_paths.proofs.Writing.{behind_more, writes_none, writes_step, writes_all}
use Rattle.gate_paths.proofs.cells.writes.Goals as goal

pub loop-x-init : goal.loop-x-init
loop-x-init c =
    record {
      grown = Grown-refl _;
      spot = refl;
      most = omega arith;
      so_far =
          writes_none _ (laid.layout_of c.args.layout.now.places.now) c.args.store.now.locations.items c.args.args.now c.args.items.now c.args.spot
          c.args.cells.now _
          c.new-found.ensures.items;
    }

pub loop-x-preserved : goal.loop-x-preserved
loop-x-preserved c =
    let step = c.in_ok-add_write.ensures in
    let i = c.loop-x.x-index in
    let x = c.x-item.result in
    let items = c.args.items.now in
    record {
      grown = Grown-trans _ _ _ c.loop-x.invariant.grown step.grown;
      spot =
          c.spot_behind-k.ensures.value ∙ ap (λ b. spot_behind (not b) c.loop-x.k) c.is_out_path-told.ensures
          ∙ ap (spot_behind (not (is_out_path items x.path))) c.loop-x.invariant.spot
          ∙ sym (behind_more items c.args.spot (take i c.args.cells.now) x)
          ∙ ap (spot_behind_cells items c.args.spot) (sym (take_more c.args.cells.now i x c.loop-x-test.true ∙ ap (λ y. take i c.args.cells.now ++ y ∷ [])
          (sym c.x-item.is)));
      most = omega (arith, c.loop-x.invariant.most, c.spot_behind-k.ensures.most);
      so_far =
          writes_step _ _ (laid.layout_of c.args.layout.now.places.now) c.args.store.now.locations.items c.args.args.now items c.args.spot c.loop-x.k
          c.args.cells.now i x
          c.is_out_path-told.result c.spot_of_cell-here.result _ _ c.loop-x-test.true c.x-item.is c.loop-x.invariant.spot c.is_out_path-told.ensures
          c.spot_of_cell-here.ensures
          step.grown c.loop-x.invariant.so_far step.ok;
    }

pub returns-clause-ok : goal.returns-clause-ok
returns-clause-ok c =
    writes_all _ (laid.layout_of c.args.layout.now.places.now) c.args.store.now.locations.items c.args.args.now c.args.items.now c.args.spot c.args.cells.now
    c.loop-x.x-index _
    c.loop-x-test.false c.loop-x.invariant.so_far
