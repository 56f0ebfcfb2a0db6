-- By the law on first choices, kind by kind.
use Rattle.world_laws.proofs.Reported.{double_reported, ambiguous_reported, inner_reported, leak_reported}
use Rattle.world_laws.proofs.laws.each_error_has_its_report.Goals as goal

pub returns-clause-double : goal.returns-clause-double
returns-clause-double c = double_reported c.the_first_choice.ensures.least c.the_first_choice.ensures.some

pub returns-clause-ambiguous : goal.returns-clause-ambiguous
returns-clause-ambiguous c = ambiguous_reported c.the_first_choice.ensures.least c.the_first_choice.ensures.some

pub returns-clause-inner : goal.returns-clause-inner
returns-clause-inner c = inner_reported c.the_first_choice.ensures.least c.the_first_choice.ensures.some

pub returns-clause-leak : goal.returns-clause-leak
returns-clause-leak c = leak_reported c.the_first_choice.ensures.least c.the_first_choice.ensures.some
