use Rattle.std.proofs.Common.{◌≡◌, ◌∙◌, false, Bool, List, sym, subst}
use Rattle.plan_core.specs.Graph.{callees}
use Rattle.whole_replays.specs.Spared.{is_spared}
use Rattle.whole_replays.proofs.Spares.{all_needed}
use Rattle.whole_replays.proofs.needed.NeededWork.row.Goals as goal

pub row-requires-clause-given : goal.row-requires-clause-given
row-requires-clause-given c =
    let here = c.args.self.now.analysis in
    let Q : List Bool → Type 0 = λ spared. is_spared spared c.args.function ≡ false in
    let needed : Q c.args.self.now.spared.items = subst Q c.as_slice.ensures.value (sym c.is_spared.ensures ∙ c.if-is_spared.false) in
    c.requires.given
    ∙ all_needed here.program.now here.depth here.reach c.args.self.now.spared.items (callees here.plan.now.callees c.args.function)
    (c.args.self.now.closed c.args.function needed)
