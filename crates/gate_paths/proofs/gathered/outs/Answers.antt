use Rattle.std.proofs.Common.{arith, ap, sym, ◌∙◌, ◌++◌, ◌∷◌, [], take, refl}
use Rattle.std.proofs.lemmas.List.{take_more}
use Rattle.bit_net.proofs.Growth.{Grown-refl, Grown-trans}
use Rattle.layout_base.specs.Seen as laid
use Rattle.sc_world.specs.Known.{is_out_item, spot_behind}
use Rattle.gate_paths.specs.Gathered.{spot_after}
use Rattle.gate_paths.proofs.Gathering.{after_more, outs_none, outs_step, outs_all}
use Rattle.gate_paths.proofs.gathered.outs.Goals as goal

pub loop-x-init : goal.loop-x-init
loop-x-init c =
    record {
      grown = Grown-refl _;
      spot = refl;
      most = omega arith;
      so_far = outs_none _ (laid.layout_of c.args.layout.now.places.now) c.args.store.now.locations.items c.args.args.now c.args.spot c.args.items.now _
          c.new-found.ensures.items;
    }

pub loop-x-preserved : goal.loop-x-preserved
loop-x-preserved c =
    let step = c.in_ok-add_out.ensures in
    let i = c.loop-x.x-index in
    let x = c.x-item.result in
    record {
      grown = Grown-trans _ _ _ c.loop-x.invariant.grown step.grown;
      spot =
          c.spot_behind-k.ensures.value ∙ ap (λ b. spot_behind b c.loop-x.k) c.is_of.ensures ∙ ap (spot_behind (is_out_item x.item)) c.loop-x.invariant.spot
          ∙ sym (after_more is_out_item c.args.spot (take i c.args.items.now) x)
          ∙ ap (spot_after is_out_item c.args.spot) (sym (take_more c.args.items.now i x c.loop-x-test.true ∙ ap (λ y. take i c.args.items.now ++ y ∷ [])
          (sym c.x-item.is)));
      most = omega (arith, c.loop-x.invariant.most, c.spot_behind-k.ensures.most);
      so_far =
          outs_step _ _ (laid.layout_of c.args.layout.now.places.now) c.args.store.now.locations.items c.args.args.now c.args.spot c.loop-x.k c.args.items.now
          i x _ _
          c.loop-x-test.true c.x-item.is c.loop-x.invariant.spot step.grown c.loop-x.invariant.so_far step.ok;
    }

pub returns-clause-ok : goal.returns-clause-ok
returns-clause-ok c =
    outs_all _ (laid.layout_of c.args.layout.now.places.now) c.args.store.now.locations.items c.args.args.now c.args.spot c.args.items.now c.loop-x.x-index _
    c.loop-x-test.false c.loop-x.invariant.so_far
