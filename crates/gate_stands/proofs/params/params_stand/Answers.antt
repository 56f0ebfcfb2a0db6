use Rattle.std.proofs.Common.{arith, ap, sym, ◌∙◌, ◌++◌, ◌∷◌, [], take, refl}
use Rattle.std.proofs.lemmas.List.{take_more}
use Rattle.bit_net.proofs.Growth.{Grown-refl, Grown-trans}
use Rattle.run_world.specs.Seen as seen
use Rattle.sc_world.specs.Known.{is_param, spot_behind}
use Rattle.gate_paths.specs.Gathered.{spot_after}
use Rattle.gate_stands.proofs.Arguing.{after_more, params_none, params_step, params_all}
use Rattle.gate_stands.proofs.params.params_stand.Goals as goal

pub loop-x-init : goal.loop-x-init
loop-x-init c =
    record {
      grown = Grown-refl _;
      spot = refl;
      most = omega arith;
      so_far =
          params_none (seen.env c.args.here.now).source (seen.env c.args.here.now).layout _ c.args.args.now c.args.given.now c.args.outcome c.args.spot
          c.args.items.now _ c.constant-all.ensures;
    }

pub loop-x-preserved : goal.loop-x-preserved
loop-x-preserved c =
    let i = c.loop-x.x-index in
    let x = c.x-item.result in
    record {
      grown = Grown-trans _ _ _ c.loop-x.invariant.grown (Grown-trans _ _ _ c.in_ok-one.ensures.grown c.in_ok-more.ensures.grown);
      spot =
          c.spot_behind-k.ensures.value ∙ ap (λ b. spot_behind b c.loop-x.k) c.is_of.ensures ∙ ap (spot_behind (is_param x.item)) c.loop-x.invariant.spot
          ∙ sym (after_more is_param c.args.spot (take i c.args.items.now) x)
          ∙ ap (spot_after is_param c.args.spot) (sym (take_more c.args.items.now i x c.loop-x-test.true ∙ ap (λ y. take i c.args.items.now ++ y ∷ [])
          (sym c.x-item.is)));
      most = omega (arith, c.loop-x.invariant.most, c.spot_behind-k.ensures.most);
      so_far =
          params_step (seen.env c.args.here.now).source (seen.env c.args.here.now).layout _ _ _ c.args.args.now c.args.given.now c.args.outcome c.args.spot
          c.loop-x.k c.args.items.now i x _ _ _ c.loop-x-test.true c.x-item.is c.loop-x.invariant.spot c.in_ok-one.ensures.grown c.in_ok-more.ensures.grown
          c.loop-x.invariant.so_far c.in_ok-one.ensures.ok c.in_ok-more.ensures.ok;
    }

pub returns-clause-ok : goal.returns-clause-ok
returns-clause-ok c =
    params_all (seen.env c.args.here.now).source (seen.env c.args.here.now).layout _ c.args.args.now c.args.given.now c.args.outcome c.args.spot
    c.args.items.now c.loop-x.x-index _ c.loop-x-test.false c.loop-x.invariant.so_far
