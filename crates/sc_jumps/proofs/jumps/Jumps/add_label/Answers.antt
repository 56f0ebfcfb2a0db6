use Rattle.std.proofs.Common.{sym, ◌∙◌}
use Rattle.sc_jumps.proofs.Labels.{label_added}
use Rattle.sc_jumps.proofs.jumps.Jumps.add_label.Goals as goal

pub returns : goal.returns
returns c =
    rw (← c.self.view_is) (label_added c.args.name c.args.pos c.args.way.now.items c.in_ok-way.way c.self.inside.labels c.insert.new.self c.self.inside.again c.self.inside.gotos
    (sym c.contains.ensures ∙ c.if-contains.false) c.in_ok-way.ensures c.in_ok-insert.ensures.ok)
