-- By the answer of the solver.
use Rattle.std.proofs.Common.{arith}
use Rattle.sat_base.specs.Logic.{at}
use Rattle.gate_questions.proofs.Holding.{lits_below, loaded_kept, none_hold, some_hold, lanes_none}
use Rattle.gate_questions.proofs.asking.ask.Goals as goal

pub solve-requires : goal.solve-requires
solve-requires g c =
    rw c.as_slice-lits.ensures.value
    (lits_below _ _ _ _ c.args.gates.now c.in_ok-assumed.assumed.items c.in_ok-assumed.ensures.loaded c.in_ok-assumed.ensures.lits)

pub returns-in-NoModel-clause-loaded : goal.returns-in-NoModel-clause-loaded
returns-in-NoModel-clause-loaded g c =
    loaded_kept _ _ _ _ _ _ c.in_ok-answer.ensures.vars c.in_ok-answer.ensures.clauses c.in_ok-assumed.ensures.loaded

pub returns-in-NoModel-clause-answer : goal.returns-in-NoModel-clause-answer
returns-in-NoModel-clause-answer g c =
    let none = rw (c.in-NoModel.is, c.as_slice-lits.ensures.value) at c.in_ok-answer.ensures.answer in
    none_hold _ _ _ _ c.args.gates.now c.in_ok-assumed.assumed.items c.in_ok-assumed.ensures.loaded c.in_ok-assumed.ensures.lits none

pub keep_model-requires : goal.keep_model-requires
keep_model-requires g c a l at =
    let found = rw c.in-Model.is at c.in_ok-answer.ensures.answer in
    let size = found.0 in
    let inside = (c.in_ok-assumed.ensures.loaded.inside a l at).1 in omega (arith, size, inside)

pub returns-clause-loaded : goal.returns-clause-loaded
returns-clause-loaded g c =
    loaded_kept _ _ _ _ _ _ c.in_ok-answer.ensures.vars c.in_ok-answer.ensures.clauses c.in_ok-assumed.ensures.loaded

pub returns-clause-answer : goal.returns-clause-answer
returns-clause-answer g c =
    let found = rw (c.in-Model.is, c.as_slice-lits.ensures.value) at c.in_ok-answer.ensures.answer in
    some_hold _ _ _ _ c.args.gates.now c.in_ok-assumed.assumed.items _ c.in_ok-assumed.ensures.loaded c.in_ok-assumed.ensures.lits found.1

pub returns-clause-lanes : goal.returns-clause-lanes
returns-clause-lanes g c _ = lanes_none _ _ _ c.keep_model.ensures.words
