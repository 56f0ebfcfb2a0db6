use Rattle.layout_base.specs.Seen.{spot_of}
use Rattle.gate_paths.specs.Gathered.{where_item}
use Rattle.gate_sets.proofs.Pointing.{marks_object}
use Rattle.gate_sets.proofs.outs.mark_object.Goals as goal

pub returns-clause-ok : goal.returns-clause-ok
returns-clause-ok c =
    marks_object _ _ _ _ _ _ c.args.ends.now c.args.flag c.args.number (spot_of c.args.out.now.spot) (where_item c.args.out.now)
    c.in_ok-object.object.pairs.items c.one-null.result.pairs.items c.in_ok-marked.marked.pairs.items c.in_ok-named.named.at c.points.result.at
    c.in_ok-there.there.at c.in_ok-when.when.at _ _ c.in_ok-there.ensures.grown c.in_ok-when.ensures.grown c.in_ok-marked.ensures.grown
    c.in_ok-mark_target.ensures.grown c.in_ok-named.ensures.ok c.points.ensures c.in_ok-there.ensures.ok c.in_ok-when.ensures.ok c.in_ok-object.ensures
    c.one-null.ensures.points c.in_ok-marked.ensures.ok c.in_ok-mark_target.ensures.ok
