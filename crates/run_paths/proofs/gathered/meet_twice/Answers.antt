use Rattle.std.proofs.Common.{sym, ap, ◌∙◌}
use Rattle.sc_world.specs.Known as spec
use Rattle.run_paths.proofs.Places.{locked_ats, outed_ats}
use Rattle.run_paths.proofs.gathered.meet_twice.Goals as goal

pub returns-clause-locks : goal.returns-clause-locks
returns-clause-locks c = c.meets.ensures ∙ ap spec.meet_twice (sym (locked_ats c.args.found.now))

pub returns-clause-outs : goal.returns-clause-outs
returns-clause-outs c = c.meets.ensures ∙ ap spec.meet_twice (sym (outed_ats c.args.found.now))
