use Rattle.std.proofs.Common.{◌≡◌, ℕ, [], Bool}
use Rattle.sc_program.specs.Globals.{is_local_global, has_settled, any_record}
use Rattle.sc_program.specs.Tables.{local_in, with_records}
use Rattle.sc_program.proofs.RecordTable.{type_found}
use Rattle.sc_program.proofs.globals.GlobalTypes.of.Goals as goal

pub returns : goal.returns
returns c = λ f n.
    let local : ℕ → ℕ → Bool = local_in c.in_ok-local.local in
    let known : (f n : ℕ) → local f n ≡ is_local_global c.args.records f n = λ f n. rw c.as_slice.ensures at (c.in_ok-local.ensures f n) in
    let settled : c.in_ok-settled.settled ≡ with_records (has_settled c.args.w c.args.structs.now) local 0 c.args.records [] = rw c.as_slice-2.ensures at c.in_ok-settled.ensures in
    let any : c.in_ok-any.any ≡ with_records any_record local 0 c.args.records [] = rw c.as_slice-3.ensures at c.in_ok-any.ensures in
    rw (settled, any) (type_found c.args.w c.args.structs.now c.args.records local known f n)
