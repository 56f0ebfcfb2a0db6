use Rattle.gl_store.proofs.MakeLemmas.{merged_location}
use Rattle.gl_store.proofs.making.merge_location.Goals as goal

pub returns-clause-ok : goal.returns-clause-ok
returns-clause-ok c =
    merged_location _ _ c.args.c.at c.args.a.now c.args.b.now record { val = c.in_ok-val.val; flags = c.in_ok-flags.flags } c.requires.kind c.in_ok-flags.ensures.grown c.in_ok-val.ensures.ok c.in_ok-flags.ensures.ok
