use Rattle.std.proofs.Common.{refl}
use Rattle.bit_words.specs.Number.{number}
use Rattle.sum_rows.specs.declared.row.State.TheVariants as state
use Rattle.gate_rows.specs.declared.sought.Outcome.TheVariants as outcome
use Rattle.gate_rows.specs.declared.sought.Side.TheVariants as side
use Rattle.gate_rows.specs.declared.sought.Sought.{Sought}
use Rattle.gate_fails.proofs.Erring.{error_gate}
use Rattle.gate_fails.proofs.errors.has_error.Goals as goal

pub returns-clause-ok : goal.returns-clause-ok
returns-clause-ok c =
    let q : Sought = record { given = c.args.given; before = side.Numbered c.args.before; result = outcome.Nothing; after = side.Named state.Bad } in
    error_gate _ _ _ _ c.args.given.now c.args.before.now c.args.rows.now _ _ _ _ q c.in_ok-known.ensures.grown c.in_ok-stands.ensures.grown
    c.in_ok-r.ensures.grown c.in_ok-any.ensures.ok c.in_ok-known.ensures.ok c.in_ok-stands.ensures.ok c.in_ok-r.ensures.ok refl (λ v. refl)
    (λ v x. c.numbers_name_states.ensures.machine (number v c.args.before.now) x) (λ v x. refl) c.rows_stand_as_defined.ensures.one
