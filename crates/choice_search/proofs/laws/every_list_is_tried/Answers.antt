use Rattle.choice_search.proofs.Searching.{starts, finds, steps_on, stops, fewer_left}
use Rattle.choice_search.proofs.laws.every_list_is_tried.Goals as goal

pub returns-clause-start : goal.returns-clause-start
returns-clause-start c = starts

pub returns-clause-found : goal.returns-clause-found
returns-clause-found c = finds

pub returns-clause-next : goal.returns-clause-next
returns-clause-next c = steps_on

pub returns-clause-last : goal.returns-clause-last
returns-clause-last c = stops

pub returns-clause-fewer : goal.returns-clause-fewer
returns-clause-fewer c = fewer_left
