use Rattle.std.proofs.Common.{map}
use Rattle.sc_gather.specs.Seen.{source_of}
use Rattle.sc_world.specs.Programs.{summary, source_by}
use Rattle.layout_base.specs.Seen.{ground_of}
use Rattle.run_world.specs.Seen.{env}
use Rattle.run_known.proofs.Numbers.{most_fits}
use Rattle.run_known.proofs.calls.most_items.Goals as goal

pub returns-clause-fits : goal.returns-clause-fits
unfolding env ground_of source_of source_by
returns-clause-fits c = λ k. rw c.largest.ensures (most_fits (map summary c.args.here.now.ground.here.now.verdicts.now) k)
