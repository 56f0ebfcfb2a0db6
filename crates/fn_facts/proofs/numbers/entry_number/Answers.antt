use Rattle.std.proofs.Common.{◌+◌, List, ap, subst, refl, drop}
use Rattle.std.proofs.lemmas.List.{drop_all}
use Rattle.bit_net.proofs.Growth.{Grown-refl, Grown-trans}
use Rattle.sc_world.specs.Programs.{types_of}
use Rattle.sc_world.specs.Tree.{Ty}
use Rattle.fn_facts.specs.Showing.{BitsSoFar}
use Rattle.fn_facts.proofs.Growing.{ready_grows}
use Rattle.fn_facts.proofs.States.{bits_begin, bits_done, param_first, params_of}
use Rattle.fn_facts.proofs.numbers.entry_number.Goals as goal

pub loop-param-init : goal.loop-param-init
loop-param-init c =
    record {
      grown = Grown-refl _;
      ready = c.requires.ready;
      count = refl;
      so_far = bits_begin _ _ _ _ c.new-bits.ensures.items (params_of _ _ c.params-params.ensures);
    }

pub loop-param-preserved : goal.loop-param-preserved
loop-param-preserved c =
    let more = c.in_ok-read_bit.ensures in
    let first = param_first c.params-params.result.now c.loop-param.param-index c.param-item.result c.loop-param-test.true c.param-item.is in
    record {
      grown = Grown-trans _ _ _ c.loop-param.invariant.grown more.grown;
      ready = ready_grows _ _ _ more.grown c.loop-param.invariant.ready;
      count = ap (λ n. n + 1) c.loop-param.invariant.count;
      so_far = more.ok (types_of (drop (c.loop-param.param-index + 1) c.params-params.result.now))
          (subst (λ (ts : List Ty). BitsSoFar c.args.around.now c.loop-param.net c.loop-param.k ts c.loop-param.bits.items) first
          c.loop-param.invariant.so_far);
    }

pub returns-clause-ok : goal.returns-clause-ok
returns-clause-ok c =
    bits_done _ _ c.loop-param.k _ _
    (ap types_of (drop_all c.loop-param.param-index c.params-params.result.now c.loop-param-test.false)) c.loop-param.invariant.so_far
