use Rattle.std.proofs.Common.{sym, subst}
use Rattle.run_world.specs.Seen.{env}
use Rattle.gate_acts.specs.Acts.{IsPointer}
use Rattle.gate_objects.proofs.Giving.{object_some}
use Rattle.gate_objects.proofs.given.chosen_object.Goals as goal

pub returns-in_ok-made-in-Some-clause-ok : goal.returns-in_ok-made-in-Some-clause-ok
returns-in_ok-made-in-Some-clause-ok c =
    subst (λ o. IsPointer (env c.args.here.now).layout c.join.new.net c.args.bit o c.in_ok-made-in-Some.made.pairs.items) (sym c.in-Some.is)
    (object_some _ _ _ c.args.bit c.in-Some.at c.in-Some-checked_add.target c.chosen_bit-chosen.result.at c.one-there.result.pairs.items c.one-null.result.pairs.items
    c.in_ok-made-in-Some.made.pairs.items c.in_ok-made-in-Some.ensures.grown c.in-Some-checked_add.ensures.1 c.chosen_bit-chosen.ensures c.one-there.ensures.points
    c.one-null.ensures.points c.in_ok-made-in-Some.ensures.ok)
