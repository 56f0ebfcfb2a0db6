use Rattle.bit_net.proofs.Growth.{Grown-trans}
use Rattle.run_world.specs.Seen.{env}
use Rattle.sc_world.specs.View.{type}
use Rattle.gate_states.proofs.Staying.{is_called}
use Rattle.gate_known.proofs.Acting.{does_acts}
use Rattle.gate_known.proofs.acts.acts.Goals as goal

pub errs_each-requires-clause-called : goal.errs_each-requires-clause-called
errs_each-requires-clause-called c = is_called c.args.net.now c.unless_met.new.net c.args.called.now c.in_ok-unless_met.ensures.grown c.requires.called

pub acts_as-requires-clause-called : goal.acts_as-requires-clause-called
acts_as-requires-clause-called c =
    is_called c.args.net.now c.errs_each.new.net c.args.called.now
    (Grown-trans _ _ _ c.in_ok-unless_met.ensures.grown c.in_ok-errs_each.ensures.grown) c.requires.called

pub returns-clause-ok : goal.returns-clause-ok
returns-clause-ok c =
    does_acts (env c.args.here.now).source (env c.args.here.now).layout c.unless_met.new.net c.errs_each.new.net _ (type c.args.t.now)
    c.args.called.now c.in_ok-r.r _ _ _ _ _ _ _
    c.in_ok-errs_each.ensures.grown c.in_ok-r.ensures.grown c.first_error_ends.ensures c.in_ok-unless_met.ensures.ok c.in_ok-errs_each.ensures.ok
    c.in_ok-r.ensures.ok
