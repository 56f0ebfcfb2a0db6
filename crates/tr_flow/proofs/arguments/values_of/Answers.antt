use Rattle.std.proofs.Common.{◌≡◌, ℕ, ◌+◌, [], List, sym, subst, arith}
use Rattle.gl_store.specs.declared.values.Val.{Val}
use Rattle.flow_graph.specs.Growing.{numbers}
use Rattle.tr_flow.specs.Arguments.{AreOf}
use Rattle.tr_flow.proofs.Called.{one_more}
use Rattle.tr_flow.proofs.arguments.values_of.Goals as goal

pub loop-at-init : goal.loop-at-init
loop-at-init c = record {
  are = subst (λ (xs : List Val). AreOf c.args.temps.now [] xs) (sym c.new-values.ensures.items) tt;
  low = omega arith;
}

pub loop-at-preserved : goal.loop-at-preserved
loop-at-preserved c =
    let t = c.args.temps.now in
    let k = c.args.numbers.first in
    record {
      are =
          subst (λ (xs : List Val). AreOf t (numbers k (c.loop-at.at + 1)) xs) (sym c.in_ok-push.ensures.items)
          (one_more t k c.loop-at.at c.loop-at.values.items c.in_ok-value.value c.loop-at.invariant.are c.in_ok-value.ensures);
      low = omega arith;
    }

pub returns : goal.returns
returns c =
    let last : c.loop-at.at ≡ c.args.numbers.count = (let low = c.loop-at.invariant.low in let out = c.loop-at-test.false in omega arith) in
    subst (λ (n : ℕ). AreOf c.args.temps.now (numbers c.args.numbers.first n) c.loop-at.values.items) last c.loop-at.invariant.are
