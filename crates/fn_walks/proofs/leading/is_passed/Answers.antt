use Rattle.std.proofs.Common.{sym, ◌∙◌}
use Rattle.fn_walks.proofs.Stepping.{passed_among, passed_behind, passed_no_pointer, passed_nowhere}
use Rattle.fn_walks.proofs.leading.is_passed.Goals as goal

pub returns-then-not-is_pointer_cell : goal.returns-then-not-is_pointer_cell
returns-then-not-is_pointer_cell c =
    λ e. passed_no_pointer c.args.around.now c.args.from c.args.objects.now c.args.at
    (sym c.is_pointer_cell.ensures ∙ c.if-not-is_pointer_cell.true)

pub returns-then-not-may_lead : goal.returns-then-not-may_lead
returns-then-not-may_lead c = λ e. passed_nowhere c.args.around.now c.args.from c.args.objects.now c.args.at (c.may_lead.ensures c.if-not-may_lead.true)

pub returns-then-begins_behind : goal.returns-then-begins_behind
returns-then-begins_behind c =
    λ e. passed_behind c.args.around.now c.args.from c.args.objects.now c.args.at _ c.root_at-root.ensures
    (sym c.begins_behind.ensures ∙ c.if-begins_behind.true)

pub returns : goal.returns
returns c = λ e. passed_among c.args.around.now c.args.from c.args.objects.now c.args.at _ c.root_at-root.ensures (sym c.is_among.ensures ∙ e)
