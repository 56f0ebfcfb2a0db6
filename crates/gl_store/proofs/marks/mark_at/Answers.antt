use Rattle.std.proofs.Common.{arith, refl}
use Rattle.gl_store.proofs.MarkLemmas.{marked_there, flag_below, same_place}
use Rattle.gl_store.proofs.marks.mark_at.Goals as goal

pub or-requires-clause-a : goal.or-requires-clause-a
or-requires-clause-a c = omega (arith, flag_below c.args.locations.now c.args.at c.index-locations-at.result c.args.flag c.requires.place, c.gate_of_flag.ensures, c.requires.locations)

pub returns-clause-ok : goal.returns-clause-ok
returns-clause-ok c =
    marked_there _ _ c.args.when.at c.args.at c.args.flag c.args.locations.now _ c.index-locations-at.result _ c.in_ok-gate.gate c.gate_of_flag.result.at
    c.in_ok-gate.ensures.grown c.requires.place c.requires.locations refl
    (same_place c.args.locations.now c.args.at c.index-locations-at-2.result c.index-locations-at.result c.requires.place)
    c.with_flag.ensures c.gate_of_flag.ensures c.in_ok-gate.ensures.ok
