use Rattle.gate_entry.proofs.Naming.{named_many, named_few}
use Rattle.gate_entry.proofs.states.named_state.Goals as goal

pub returns-then-states-ge-MOST-clause-ok : goal.returns-then-states-ge-MOST-clause-ok
returns-then-states-ge-MOST-clause-ok c =
    named_many _ c.args.states c.args.name.now.bits.items _ c.requires.few c.if-states-ge-MOST.true c.in_ok-wide.ensures.ok

pub returns-clause-ok : goal.returns-clause-ok
returns-clause-ok c =
    named_few _ _ _ c.args.states c.saturating_sub.result c.args.name.now.bits.items c.in_ok-wide.wide.bits.items c.in_ok-count.count.bits.items
    c.in_ok-last.last.bits.items _ c.in_ok-known.known.at c.requires.few c.if-states-ge-MOST.false c.saturating_sub.ensures c.in_ok-known.ensures.grown
    c.in_ok-state.ensures.grown c.in_ok-wide.ensures.ok c.in_ok-count.ensures c.in_ok-last.ensures c.in_ok-known.ensures.ok c.in_ok-state.ensures.ok
