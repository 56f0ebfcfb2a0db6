-- By the law on first choices.
use Rattle.sc_world.specs.Layout.{is_outer, is_cell}
use Rattle.sc_world.specs.Shows as query
use Rattle.sc_world.specs.Verdict as verdict
use Rattle.world_laws.proofs.Among.{some_from, some_to, those, all_those, those_locations, those_of_two}
use Rattle.world_laws.proofs.Candidates.{exit_said, param_said, out_said}
use Rattle.world_laws.proofs.laws.rows_are_those_of_runs.Goals as goal

pub returns-clause-some : goal.returns-clause-some
returns-clause-some c s x q =
    (some_from c.the_first_choice.ensures.least s x q, some_to c.the_first_choice.ensures.some s x q)

pub returns-clause-exits : goal.returns-clause-exits
returns-clause-exits c s x r =
    all_those c.the_first_choice.ensures.least c.the_first_choice.ensures.some s x query.Exits (verdict.exit_candidates s)
    (λ q b h. exit_said x (verdict.run_over s x.layout b) q h) r

pub returns-clause-locks : goal.returns-clause-locks
returns-clause-locks c s x at r =
    those c.the_first_choice.ensures.least c.the_first_choice.ensures.some s x (query.Locks at) (verdict.lock_candidates s) r

pub returns-clause-params : goal.returns-clause-params
returns-clause-params c s x n r =
    all_those c.the_first_choice.ensures.least c.the_first_choice.ensures.some s x (query.Params n) (verdict.param_candidates s)
    (λ q b h. param_said x (verdict.run_over s x.layout b) n q h) r

pub returns-clause-outs : goal.returns-clause-outs
returns-clause-outs c s x n r =
    all_those c.the_first_choice.ensures.least c.the_first_choice.ensures.some s x (query.Outs n) (verdict.out_candidates s)
    (λ q b h. out_said x (verdict.run_over s x.layout b) n q h) r

pub returns-clause-touched : goal.returns-clause-touched
returns-clause-touched c s x at =
    those_locations c.the_first_choice.ensures.least c.the_first_choice.ensures.some s x query.Touches is_outer at

pub returns-clause-written : goal.returns-clause-written
returns-clause-written c s x at =
    those_of_two c.the_first_choice.ensures.least c.the_first_choice.ensures.some s x query.Writes is_outer is_cell at

pub returns-clause-changed : goal.returns-clause-changed
returns-clause-changed c s x n =
    those c.the_first_choice.ensures.least c.the_first_choice.ensures.some s x query.Changes
    (verdict.params_from s x (verdict.answers s x) 0 s.params) n

pub returns-clause-set : goal.returns-clause-set
returns-clause-set c s x n =
    those c.the_first_choice.ensures.least c.the_first_choice.ensures.some s x query.Sets
    (verdict.out_params_from s x (verdict.answers s x) 0 s.params) n
