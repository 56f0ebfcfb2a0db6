use Rattle.flow_stages.proofs.OfNodes.{reads_are_asked, asked_before}
use Rattle.flow_stages.proofs.laws.reads_are_asked.Goals as goal

pub returns-clause-here : goal.returns-clause-here
returns-clause-here k = reads_are_asked

pub returns-clause-later : goal.returns-clause-later
returns-clause-later k = asked_before
