use Rattle.std.proofs.Common.{◌∙◌, sym, arith}
use Rattle.reach_net.proofs.RowLemmas.{row_wide, row_below, found_through}
use Rattle.reach_net.proofs.rows.found_through.Goals as goal

pub widened-requires-clause-wide : goal.widened-requires-clause-wide
widened-requires-clause-wide c = row_wide _ _ c.args.k _ _ c.index-rows-k.is c.deref.ensures.value c.requires.place c.requires.wide ∙ sym c.requires.count

pub widened-requires-clause-next : goal.widened-requires-clause-next
widened-requires-clause-next c = omega (arith, row_below _ c.args.k _ _ c.index-rows-k.is c.deref.ensures.value c.requires.place, c.requires.rows)

pub returns-clause-ok : goal.returns-clause-ok
returns-clause-ok c = found_through _ c.args.k c.args.rows.now _ _ _ _ c.index-rows-k.is c.deref.ensures.value c.requires.place c.in_ok-more.ensures.ok
