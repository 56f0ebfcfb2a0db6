use Rattle.gate_known.proofs.Marking.{marks_bits, marks_nothing}
use Rattle.gate_known.proofs.marked.mark_given.Goals as goal

pub returns-in-None-clause-ok : goal.returns-in-None-clause-ok
returns-in-None-clause-ok c = marks_nothing c.args.net.now c.args.ends.now c.args.given.now c.args.stored.now.locations.items c.in-None.is c.requires.store

pub returns-in_ok-mark_named-in-Some-2-clause-ok : goal.returns-in_ok-mark_named-in-Some-2-clause-ok
returns-in_ok-mark_named-in-Some-2-clause-ok c =
    marks_bits c.args.net.now _ _ c.args.ends.now c.args.given.now c.in-Some.kind _ _ c.in_ok-object-in-Some.object.pairs.items _ _ _
    c.in-Some.is c.deref.ensures.value c.deref-in-Some.ensures.value c.in_ok-mark_named-in-Some.ensures.grown
    c.in_ok-mark_named-in-Some-2.ensures.grown c.in_ok-object-in-Some.ensures c.in_ok-mark_named-in-Some.ensures.ok
    c.in_ok-mark_named-in-Some-2.ensures.ok
