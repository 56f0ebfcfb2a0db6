use Rattle.std.proofs.Common.{arith, ap, refl, sym, ◌∙◌, ◌++◌, ◌∷◌, [], take}
use Rattle.std.proofs.lemmas.List.{take_more}
use Rattle.bit_net.proofs.Growth.{Grown-refl, Grown-trans}
use Rattle.sc_world.specs.Known.{is_param, spot_behind}
use Rattle.gate_paths.specs.Gathered.{spot_after}
use Rattle.gate_fails.proofs.Acting.{acts_all, acts_none, acts_step, after_more}
use Rattle.gate_fails.proofs.params.act_each.Goals as goal

pub loop-x-init : goal.loop-x-init
loop-x-init c =
    record {
      grown = Grown-refl _;
      ready = c.requires.ends;
      bads = refl;
      spot = refl;
      most = omega arith;
      so_far = acts_none _ _ c.args.args.now c.args.spot c.args.items.now _ c.args.ends.now c.requires.store;
    }

pub loop-x-preserved : goal.loop-x-preserved
loop-x-preserved c =
    let step = c.in_ok-param_act.ensures in
    let i = c.loop-x.x-index in
    let x = c.x-item.result in
    record {
      grown = Grown-trans _ _ _ c.loop-x.invariant.grown step.grown;
      ready = step.ready;
      bads = step.locations ∙ c.loop-x.invariant.bads;
      spot =
          c.spot_behind-k.ensures.value ∙ ap (λ b. spot_behind b c.loop-x.k) c.is_of.ensures ∙ ap (spot_behind (is_param x.item)) c.loop-x.invariant.spot
          ∙ sym (after_more is_param c.args.spot (take i c.args.items.now) x)
          ∙ ap (spot_after is_param c.args.spot) (sym (take_more c.args.items.now i x c.loop-x-test.true ∙ ap (λ y. take i c.args.items.now ++ y ∷ [])
          (sym c.x-item.is)));
      most = omega (arith, c.loop-x.invariant.most, c.spot_behind-k.ensures.most);
      so_far =
          acts_step _ _ _ c.args.args.now c.args.spot c.loop-x.k c.args.items.now i x _ _ _ _ _ _ c.loop-x-test.true c.x-item.is c.loop-x.invariant.spot
          step.grown c.loop-x.invariant.so_far step.ok;
    }

pub returns-clause-ok : goal.returns-clause-ok
returns-clause-ok c =
    acts_all _ _ c.args.args.now c.args.spot c.args.items.now c.loop-x.x-index _ _ _ _ c.loop-x-test.false c.loop-x.invariant.so_far
