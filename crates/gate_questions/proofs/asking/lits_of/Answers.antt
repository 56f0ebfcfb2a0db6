-- One gate more.
use Rattle.std.proofs.Common.{arith}
use Rattle.bit_net.specs.declared.nodes.Gate.{Gate}
use Rattle.gate_questions.proofs.Holding.{lits_none, lits_more, lits_all}
use Rattle.gate_questions.proofs.asking.lits_of.Goals as goal

pub loop-gate-init : goal.loop-gate-init
loop-gate-init g c = record {
  loaded = c.requires.loaded;
  lits = lits_none _ _ c.new-lits.ensures.items;
  kept = λ a l at. at;
}

pub lit_of-requires-clause-gate : goal.lit_of-requires-clause-gate
lit_of-requires-clause-gate g c =
    let d : Gate = record { at = 0 } in c.requires.gates c.loop-gate.gate-index d c.loop-gate-test.true

pub loop-gate-preserved : goal.loop-gate-preserved
loop-gate-preserved g c =
    let d : Gate = record { at = 0 } in
    let so_far = c.loop-gate.invariant in
    let more = c.lit_of.ensures in
    record {
      loaded = c.in_ok-lit.ensures.loaded;
      lits =
          lits_more _ _ c.args.gates.now _ _ c.loop-gate.gate-index d c.in_ok-lit.lit more.kept c.loop-gate-test.true c.in_ok-lit.ensures.lit
          c.in_ok-push.ensures.items so_far.lits;
      kept = λ a l at. more.kept a l (so_far.kept a l at);
    }

pub returns-in_err-lit-clause-kept : goal.returns-in_err-lit-clause-kept
returns-in_err-lit-clause-kept g c a l at = c.lit_of.ensures.kept a l (c.loop-gate.invariant.kept a l at)

pub returns-in_err-push-clause-kept : goal.returns-in_err-push-clause-kept
returns-in_err-push-clause-kept g c a l at = c.lit_of.ensures.kept a l (c.loop-gate.invariant.kept a l at)

pub returns-clause-lits : goal.returns-clause-lits
returns-clause-lits g c = lits_all _ c.args.gates.now _ c.loop-gate.gate-index (omega arith) c.loop-gate.invariant.lits
