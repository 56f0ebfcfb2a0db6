-- Each clause in turn.
use Rattle.std.proofs.Common.{sym, ap, ◌∙◌}
use Rattle.sat_base.specs.Logic.{all_true, at}
use Rattle.sat_clauses.proofs.HeldLemmas.{all_more, all_fails, take_past}
use Rattle.sat_cdcl.proofs.values.unmet.Goals as goal

pub returns-in-None : goal.returns-in-None
returns-in-None c = ap (all_true (at c.args.values.now)) (sym (take_past c.args.clauses.now.given c.loop-i.i c.in-None.ensures)) ∙ c.loop-i.invariant

pub returns-then-not-meets : goal.returns-then-not-meets
returns-then-not-meets c = all_fails (at c.args.values.now) c.args.clauses.now.given c.loop-i.i _ c.in-Some.ensures (sym c.if-not-meets.ensures)

pub loop-i-preserved : goal.loop-i-preserved
loop-i-preserved c = all_more (at c.args.values.now) c.args.clauses.now.given c.loop-i.i _ c.in-Some.ensures (sym c.if-not-meets.ensures) c.loop-i.invariant
