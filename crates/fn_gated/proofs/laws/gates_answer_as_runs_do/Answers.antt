use Rattle.fn_gated.proofs.Firsts.{some_answers, none_answers, first_answers}
use Rattle.fn_gated.proofs.laws.gates_answer_as_runs_do.Goals as goal

pub returns-clause-some : goal.returns-clause-some
returns-clause-some c s x q ns g circuit inputs answer =
    some_answers (record { fits = c.runs_fit_tables.ensures.fits; runs = c.runs_fit_tables.ensures.runs; values = c.values_are_runs.ensures.runs })
    s x q ns g circuit inputs answer (record { least = c.the_first_choice.ensures.least; some = c.the_first_choice.ensures.some })

pub returns-clause-none : goal.returns-clause-none
returns-clause-none c s x q ns g circuit inputs answer =
    none_answers (record { fits = c.runs_fit_tables.ensures.fits; runs = c.runs_fit_tables.ensures.runs; values = c.values_are_runs.ensures.runs })
    s x q ns g circuit inputs answer (record { least = c.the_first_choice.ensures.least; some = c.the_first_choice.ensures.some })

pub returns-clause-first : goal.returns-clause-first
returns-clause-first c s x q ns g bits circuit inputs answer =
    first_answers (record { fits = c.runs_fit_tables.ensures.fits; runs = c.runs_fit_tables.ensures.runs; values = c.values_are_runs.ensures.runs })
    s x q ns g circuit inputs answer (record { least = c.the_first_choice.ensures.least; some = c.the_first_choice.ensures.some }) bits
