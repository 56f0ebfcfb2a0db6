use Rattle.std.proofs.Common.{sym, subst}
use Rattle.run_world.specs.Seen.{env}
use Rattle.gate_entry.specs.Entry.{IsPointer}
use Rattle.gate_entry.proofs.Filling.{pointer_own}
use Rattle.gate_entry.proofs.cells.chosen_pointer.Goals as goal

pub returns-in_ok-made-in-Some-clause-ok : goal.returns-in_ok-made-in-Some-clause-ok
returns-in_ok-made-in-Some-clause-ok c =
    subst (λ o. IsPointer (env c.args.here.now).layout c.join.new.net c.args.at o c.in_ok-made-in-Some.made.pairs.items) (sym c.in-Some.is)
    (pointer_own _ _ _ c.args.at c.in-Some.own c.in-Some-checked_add.target c.chosen_bit-bit.result.at c.one-there.result.pairs.items c.one-null.result.pairs.items
    c.in_ok-made-in-Some.made.pairs.items c.in_ok-made-in-Some.ensures.grown c.in-Some-checked_add.ensures.1 c.chosen_bit-bit.ensures c.one-there.ensures.points
    c.one-null.ensures.points c.in_ok-made-in-Some.ensures.ok)
