-- The least values of the inputs in a model in which the goals hold.
use Rattle.gate_questions.proofs.Holding.{false_inside, first_answer, inputs_below, lits_below, lits_kept}
use Rattle.gate_questions.proofs.first_choice.find_first.Goals as goal

pub lit_of-requires-clause-gate : goal.lit_of-requires-clause-gate
lit_of-requires-clause-gate g c = false_inside _ c.sound.ensures

pub least-requires-clause-bits : goal.least-requires-clause-bits
least-requires-clause-bits g c =
    rw c.as_slice-bit_lits.ensures.value
    (inputs_below _ _ _ _ c.in_ok-never.never c.args.count c.in_ok-bits.bits.items c.in_ok-never.ensures.loaded c.in_ok-never.ensures.lit c.in_ok-bits.ensures)

pub least-requires-clause-goals : goal.least-requires-clause-goals
least-requires-clause-goals g c =
    rw c.as_slice-goal_lits.ensures.value
    (lits_below _ _ _ _ c.args.gates.now c.in_ok-goals.goals.items c.in_ok-never.ensures.loaded
    (lits_kept _ _ c.args.gates.now c.in_ok-goals.goals.items c.lit_of.ensures.kept c.in_ok-goals.ensures.lits))

pub returns-clause-loaded : goal.returns-clause-loaded
returns-clause-loaded g c =
    c.what_is_loaded_stays.ensures.extended _ _ _ _ _ _ c.in_ok-found.ensures.vars c.in_ok-found.ensures.clauses c.in_ok-never.ensures.loaded

pub returns-clause-first : goal.returns-clause-first
returns-clause-first g c =
    let found = rw (c.as_slice-bit_lits.ensures.value, c.as_slice-goal_lits.ensures.value) at c.in_ok-found.ensures.least in
    first_answer c.args.net.now _ _ _ c.args.gates.now c.in_ok-goals.goals.items c.in_ok-bits.bits.items c.in_ok-never.never c.args.count
    c.in_ok-found.found c.sound.ensures c.runs_fit_tables.ensures.fits c.requires.count c.in_ok-never.ensures.loaded
    (lits_kept _ _ c.args.gates.now c.in_ok-goals.goals.items c.lit_of.ensures.kept c.in_ok-goals.ensures.lits) c.in_ok-never.ensures.lit
    c.in_ok-bits.ensures found
