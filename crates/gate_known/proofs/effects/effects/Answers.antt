use Rattle.std.proofs.Common.{arith}
use Rattle.bit_net.proofs.Growth.{Grown-trans}
use Rattle.run_world.specs.Seen.{env}
use Rattle.gate_states.proofs.Staying.{cells_stay, is_called, items_stay}
use Rattle.gate_known.proofs.Acting.{does_effects}
use Rattle.gate_known.proofs.Growing.{kind_stays}
use Rattle.gate_known.proofs.effects.effects.Goals as goal

pub set_states-requires-clause-locks : goal.set_states-requires-clause-locks
set_states-requires-clause-locks c = c.requires.called.locks

pub set_outs-requires-clause-outs : goal.set_outs-requires-clause-outs
set_outs-requires-clause-outs c =
    items_stay c.args.net.now c.set_states.new.net c.args.called.now.outs.now c.in_ok-set_states.ensures.grown.longer c.requires.called.outs

pub set_writes-requires-clause-writes : goal.set_writes-requires-clause-writes
set_writes-requires-clause-writes c =
    cells_stay c.args.net.now c.set_outs.new.net c.args.called.now.writes.now
    (omega (arith, c.in_ok-set_states.ensures.grown.longer, c.in_ok-set_outs.ensures.grown.longer)) c.requires.called.writes

pub params_act-requires-clause-called : goal.params_act-requires-clause-called
params_act-requires-clause-called c =
    is_called c.args.net.now c.set_writes.new.net c.args.called.now
    (Grown-trans _ _ _ (Grown-trans _ _ _ c.in_ok-set_states.ensures.grown c.in_ok-set_outs.ensures.grown) c.in_ok-set_writes.ensures.grown) c.requires.called

pub mark_given-requires-clause-val : goal.mark_given-requires-clause-val
mark_given-requires-clause-val c =
    omega (
      arith,
      c.requires.val,
      c.in_ok-set_states.ensures.grown.longer,
      c.in_ok-set_outs.ensures.grown.longer,
      c.in_ok-set_writes.ensures.grown.longer,
      c.in_ok-params_act.ensures.grown.longer,
    )

pub mark_given-requires-clause-kind : goal.mark_given-requires-clause-kind
mark_given-requires-clause-kind c =
    kind_stays c.args.net.now c.params_act.new.net c.args.given.now.kind
    (omega (
      arith,
      c.in_ok-set_states.ensures.grown.longer,
      c.in_ok-set_outs.ensures.grown.longer,
      c.in_ok-set_writes.ensures.grown.longer,
      c.in_ok-params_act.ensures.grown.longer,
    )) c.requires.kind

pub returns-clause-ok : goal.returns-clause-ok
returns-clause-ok c =
    does_effects (env c.args.here.now).source (env c.args.here.now).layout c.set_states.new.net c.set_outs.new.net c.set_writes.new.net c.params_act.new.net _
    c.args.called.now c.args.given.now _ _ _ _ _ _ c.args.ends.now c.params_act.new.ends
    c.in_ok-set_outs.ensures.grown c.in_ok-set_writes.ensures.grown c.in_ok-params_act.ensures.grown c.in_ok-mark_given.ensures.grown
    c.in_ok-set_states.ensures.ok c.in_ok-set_outs.ensures.ok c.in_ok-set_writes.ensures.ok c.in_ok-params_act.ensures.ok c.in_ok-mark_given.ensures.ok
