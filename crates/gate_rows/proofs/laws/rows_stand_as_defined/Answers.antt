use Rattle.std.proofs.Common.{refl}
use Rattle.bit_words.specs.Number.{number}
use Rattle.sum_rows.specs.declared.row.State.TheVariants as state
use Rattle.gate_rows.specs.Sought.{gives_of}
use Rattle.gate_rows.proofs.Rows.{sought_from, sought_if, sought_stands}
use Rattle.gate_rows.proofs.laws.rows_stand_as_defined.Goals as goal

pub returns-clause-one : goal.returns-clause-one
returns-clause-one c = λ v q b a rows from to. sought_stands v q (number v q.given.now) (gives_of v q.result) refl refl b a rows from to

pub returns-clause-named : goal.returns-clause-named
returns-clause-named c = λ v q a rows from to. sought_if v q (number v q.given.now) (gives_of v q.result) refl refl state.Nil a rows from to refl

pub returns-clause-any : goal.returns-clause-any
returns-clause-any c = λ v q env before a rows from to. sought_from v q (number v q.given.now) (gives_of v q.result) refl refl env before a rows from to
