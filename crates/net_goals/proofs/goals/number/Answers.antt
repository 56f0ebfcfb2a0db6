use Rattle.std.proofs.Common.{◌≡◌, ◌<◌, ℕ, Bool, true, Some, length, slice_get, subst, sym, ◌∙◌, arith}
use Rattle.bit_net.specs.declared.nodes.Node.{Node}
use Rattle.bit_net.specs.Value.{value}
use Rattle.net_goals.proofs.Marks.{reads_earlier}
use Rattle.net_goals.proofs.Tables.{IsTable}
use Rattle.net_goals.proofs.Numbering.{operands_in, passed_by, as_input, as_table}
use Rattle.net_goals.proofs.goals.number.Goals as goal

pub returns-then-not-marks-at : goal.returns-then-not-marks-at
returns-then-not-marks-at c = passed_by c.args.net.now c.args.inputs c.args.marks.now c.args.at c.args.making.now c.if-not-marks-at.true c.requires.numbered

pub returns-in-Input : goal.returns-in-Input
returns-in-Input c =
    let ns = c.args.net.now in
    let low : c.args.at < length ns = omega (arith, c.requires.at, c.requires.gates) in
    as_input ns c.args.inputs c.args.marks.now c.args.at c.in-Input.input c.args.making.now _ c.requires.inputs c.sound.ensures
    (λ choice. c.runs_fit_tables.ensures.fits ns choice (value choice ns) c.sound.ensures (c.values_are_runs.ensures.runs ns choice))
    (subst (λ (n : Node). slice_get ns c.args.at ≡ Some n) c.in-Input.is c.node-node.ensures) low
    c.number_input.ensures.lits c.number_input.ensures.vars c.number_input.ensures.clauses c.requires.numbered

pub returns-in_ok-number_table-in-Constant : goal.returns-in_ok-number_table-in-Constant
returns-in_ok-number_table-in-Constant c =
    let ns = c.args.net.now in
    let n = c.node-node.result in
    let done = c.in_ok-number_table-in-Constant.ensures in
    as_table ns c.args.inputs c.args.marks.now c.args.at n c.args.making.now _ (subst IsTable (sym c.in-Constant.is) tt)
    (λ choice. c.runs_fit_tables.ensures.fits ns choice (value choice ns) c.sound.ensures (c.values_are_runs.ensures.runs ns choice))
    c.node-node.ensures (omega (arith, c.requires.at, c.requires.gates)) (reads_earlier ns c.args.at n c.sound.ensures c.node-node.ensures)
    (c.requires.closed n c.node-node.ensures c.if-not-marks-at.false) done.lits done.vars done.clauses c.requires.numbered

pub number_table-requires-in-Not-clause-operands : goal.number_table-requires-in-Not-clause-operands
number_table-requires-in-Not-clause-operands c =
    operands_in c.args.net.now c.args.inputs c.args.marks.now c.args.at c.node-node.result c.args.making.now c.sound.ensures c.node-node.ensures
    (omega (arith, c.requires.at, c.requires.gates)) c.requires.numbered

pub returns-in_ok-number_table-in-Not : goal.returns-in_ok-number_table-in-Not
returns-in_ok-number_table-in-Not c =
    let ns = c.args.net.now in
    let n = c.node-node.result in
    let done = c.in_ok-number_table-in-Not.ensures in
    as_table ns c.args.inputs c.args.marks.now c.args.at n c.args.making.now _ (subst IsTable (sym c.in-Not.is) tt)
    (λ choice. c.runs_fit_tables.ensures.fits ns choice (value choice ns) c.sound.ensures (c.values_are_runs.ensures.runs ns choice))
    c.node-node.ensures (omega (arith, c.requires.at, c.requires.gates)) (reads_earlier ns c.args.at n c.sound.ensures c.node-node.ensures)
    (c.requires.closed n c.node-node.ensures c.if-not-marks-at.false) done.lits done.vars done.clauses c.requires.numbered

pub number_table-requires-in-And-clause-operands : goal.number_table-requires-in-And-clause-operands
number_table-requires-in-And-clause-operands c =
    operands_in c.args.net.now c.args.inputs c.args.marks.now c.args.at c.node-node.result c.args.making.now c.sound.ensures c.node-node.ensures
    (omega (arith, c.requires.at, c.requires.gates)) c.requires.numbered

pub returns-in_ok-number_table-in-And : goal.returns-in_ok-number_table-in-And
returns-in_ok-number_table-in-And c =
    let ns = c.args.net.now in
    let n = c.node-node.result in
    let done = c.in_ok-number_table-in-And.ensures in
    as_table ns c.args.inputs c.args.marks.now c.args.at n c.args.making.now _ (subst IsTable (sym c.in-And.is) tt)
    (λ choice. c.runs_fit_tables.ensures.fits ns choice (value choice ns) c.sound.ensures (c.values_are_runs.ensures.runs ns choice))
    c.node-node.ensures (omega (arith, c.requires.at, c.requires.gates)) (reads_earlier ns c.args.at n c.sound.ensures c.node-node.ensures)
    (c.requires.closed n c.node-node.ensures c.if-not-marks-at.false) done.lits done.vars done.clauses c.requires.numbered

pub number_table-requires-in-Or-clause-operands : goal.number_table-requires-in-Or-clause-operands
number_table-requires-in-Or-clause-operands c =
    operands_in c.args.net.now c.args.inputs c.args.marks.now c.args.at c.node-node.result c.args.making.now c.sound.ensures c.node-node.ensures
    (omega (arith, c.requires.at, c.requires.gates)) c.requires.numbered

pub returns-in_ok-number_table-in-Or : goal.returns-in_ok-number_table-in-Or
returns-in_ok-number_table-in-Or c =
    let ns = c.args.net.now in
    let n = c.node-node.result in
    let done = c.in_ok-number_table-in-Or.ensures in
    as_table ns c.args.inputs c.args.marks.now c.args.at n c.args.making.now _ (subst IsTable (sym c.in-Or.is) tt)
    (λ choice. c.runs_fit_tables.ensures.fits ns choice (value choice ns) c.sound.ensures (c.values_are_runs.ensures.runs ns choice))
    c.node-node.ensures (omega (arith, c.requires.at, c.requires.gates)) (reads_earlier ns c.args.at n c.sound.ensures c.node-node.ensures)
    (c.requires.closed n c.node-node.ensures c.if-not-marks-at.false) done.lits done.vars done.clauses c.requires.numbered

pub number_table-requires-in-Xor-clause-operands : goal.number_table-requires-in-Xor-clause-operands
number_table-requires-in-Xor-clause-operands c =
    operands_in c.args.net.now c.args.inputs c.args.marks.now c.args.at c.node-node.result c.args.making.now c.sound.ensures c.node-node.ensures
    (omega (arith, c.requires.at, c.requires.gates)) c.requires.numbered

pub returns-in_ok-number_table-in-Xor : goal.returns-in_ok-number_table-in-Xor
returns-in_ok-number_table-in-Xor c =
    let ns = c.args.net.now in
    let n = c.node-node.result in
    let done = c.in_ok-number_table-in-Xor.ensures in
    as_table ns c.args.inputs c.args.marks.now c.args.at n c.args.making.now _ (subst IsTable (sym c.in-Xor.is) tt)
    (λ choice. c.runs_fit_tables.ensures.fits ns choice (value choice ns) c.sound.ensures (c.values_are_runs.ensures.runs ns choice))
    c.node-node.ensures (omega (arith, c.requires.at, c.requires.gates)) (reads_earlier ns c.args.at n c.sound.ensures c.node-node.ensures)
    (c.requires.closed n c.node-node.ensures c.if-not-marks-at.false) done.lits done.vars done.clauses c.requires.numbered

pub number_table-requires-in-Mux-clause-operands : goal.number_table-requires-in-Mux-clause-operands
number_table-requires-in-Mux-clause-operands c =
    operands_in c.args.net.now c.args.inputs c.args.marks.now c.args.at c.node-node.result c.args.making.now c.sound.ensures c.node-node.ensures
    (omega (arith, c.requires.at, c.requires.gates)) c.requires.numbered

pub returns-in_ok-number_table-in-Mux : goal.returns-in_ok-number_table-in-Mux
returns-in_ok-number_table-in-Mux c =
    let ns = c.args.net.now in
    let n = c.node-node.result in
    let done = c.in_ok-number_table-in-Mux.ensures in
    as_table ns c.args.inputs c.args.marks.now c.args.at n c.args.making.now _ (subst IsTable (sym c.in-Mux.is) tt)
    (λ choice. c.runs_fit_tables.ensures.fits ns choice (value choice ns) c.sound.ensures (c.values_are_runs.ensures.runs ns choice))
    c.node-node.ensures (omega (arith, c.requires.at, c.requires.gates)) (reads_earlier ns c.args.at n c.sound.ensures c.node-node.ensures)
    (c.requires.closed n c.node-node.ensures c.if-not-marks-at.false) done.lits done.vars done.clauses c.requires.numbered
