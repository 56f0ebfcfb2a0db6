-- A kept callee has a place, and the rule on places orders the stages.
use Rattle.std.proofs.Common.{Some, None}
use Rattle.summary_db.specs.Told.{IsOutput}
use Rattle.summary_db.proofs.Shown.{shows_core}
use Rattle.summary_db.proofs.laws.every_moment.Goals as goal

pub returns : goal.returns
returns g c rows work s plan rule = shows_core rows None (IsOutput g.W.Work.defined (Some work)) s rule plan
