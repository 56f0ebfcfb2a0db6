use Rattle.gate_known.proofs.Marking.{marks_named}
use Rattle.gate_known.proofs.marked.mark_named.Goals as goal

pub returns-clause-ok : goal.returns-clause-ok
returns-clause-ok c =
    marks_named c.is_number.new.net c.join.new.net _ c.args.ends.now c.args.kind.now c.args.number c.in_ok-named.named.at c.args.flag
    c.args.object.now.pairs.items c.one-none.result.pairs.items c.in_ok-marked.marked.pairs.items _ _
    c.in_ok-marked.ensures.grown c.in_ok-mark_target.ensures.grown c.in_ok-named.ensures.ok c.one-none.ensures.points
    c.in_ok-marked.ensures.ok c.in_ok-mark_target.ensures.ok
