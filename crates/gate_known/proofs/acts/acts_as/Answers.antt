use Rattle.std.proofs.Common.{arith}
use Rattle.bit_net.proofs.Growth.{Grown-trans}
use Rattle.run_world.specs.Seen.{env}
use Rattle.sc_world.specs.View.{type}
use Rattle.gate_states.proofs.Staying.{is_called}
use Rattle.gate_known.proofs.Acting.{does_as}
use Rattle.gate_known.proofs.Growing.{kind_stays}
use Rattle.gate_known.proofs.acts.acts_as.Goals as goal

pub rows_stand-requires-clause-called : goal.rows_stand-requires-clause-called
rows_stand-requires-clause-called c = is_called c.args.net.now c.given_by.new.net c.args.called.now c.in_ok-given.ensures.grown c.requires.called

pub rows_stand-requires-clause-outcome : goal.rows_stand-requires-clause-outcome
rows_stand-requires-clause-outcome c = c.in_ok-given.ensures.ok.outcome_below

pub rows_stand-requires-clause-kind : goal.rows_stand-requires-clause-kind
rows_stand-requires-clause-kind c = c.in_ok-given.ensures.ok.kind_below

pub effects-requires-clause-called : goal.effects-requires-clause-called
effects-requires-clause-called c =
    is_called c.args.net.now c.unless.new.net c.args.called.now
    (Grown-trans _ _ _ (Grown-trans _ _ _ c.in_ok-given.ensures.grown c.in_ok-stand.ensures.grown) c.in_ok-unless.ensures.grown) c.requires.called

pub effects-requires-clause-val : goal.effects-requires-clause-val
effects-requires-clause-val c =
    omega (arith, c.in_ok-given.ensures.ok.below, c.in_ok-stand.ensures.grown.longer, c.in_ok-unless.ensures.grown.longer)

pub effects-requires-clause-kind : goal.effects-requires-clause-kind
effects-requires-clause-kind c =
    kind_stays c.given_by.new.net c.unless.new.net c.in_ok-given.given.kind
    (omega (arith, c.in_ok-stand.ensures.grown.longer, c.in_ok-unless.ensures.grown.longer)) c.in_ok-given.ensures.ok.kind_below

pub returns-clause-ok : goal.returns-clause-ok
returns-clause-ok c =
    does_as (env c.args.here.now).source (env c.args.here.now).layout c.given_by.new.net c.rows_stand.new.net c.unless.new.net _ (type c.args.t.now)
    c.args.called.now c.in_ok-given.given c.in_ok-stand.stand.at _ _ _ _ _
    c.in_ok-stand.ensures.grown c.in_ok-unless.ensures.grown c.in_ok-effects.ensures.grown c.in_ok-given.ensures.ok c.in_ok-stand.ensures.ok
    c.in_ok-unless.ensures.ok c.in_ok-effects.ensures.ok
