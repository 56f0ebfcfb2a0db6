use Rattle.gate_rows.proofs.Giving.{is_pointer_given}
use Rattle.gate_rows.proofs.given.given_pointer.Goals as goal

pub returns-clause-ok : goal.returns-clause-ok
returns-clause-ok c =
    is_pointer_given _ _ c.args.net.now c.is_number.new.net _ _ _ c.in_ok-kind.kind c.in_ok-null.null c.in_ok-object.object.pairs.items
    c.one-none.result.pairs.items
    c.in_ok-made.made c.requires.pointer c.in_ok-null.ensures.grown c.in_ok-made.ensures.grown c.in_ok-kind.ensures
    (rw (← c.deref.ensures.value) c.in_ok-null.ensures.ok) c.in_ok-object.ensures
    c.one-none.ensures.points c.in_ok-made.ensures.ok
