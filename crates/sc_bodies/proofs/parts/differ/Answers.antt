use Rattle.std.proofs.Common.{[]}
use Rattle.sc_bodies.proofs.Kept.{gives_left, choices_kept}
use Rattle.sc_bodies.proofs.parts.differ.Goals as goal

pub returns-clause-kept : goal.returns-clause-kept
returns-clause-kept c =
    gives_left _ c.choices_differ.result c.choices_differ.new.walk c.args.walk.now.globals
    c.choices_differ.ensures (choices_kept c.args.items.now [] c.args.walk.now)
