use Rattle.std.proofs.Common.{reverse, sym, ◌∙◌}
use Rattle.scopes.proofs.FrameLemmas.{here_at_file, here_in_block}
use Rattle.scopes.proofs.scopes.Scopes.get_here.Goals as goal

pub returns-then-is_file : goal.returns-then-is_file
returns-then-is_file g c = c.get.ensures ∙ here_at_file c.args.name.at c.args.self.now c.if-is_file.ensures

pub returns-else-is_file : goal.returns-else-is_file
returns-else-is_file g c =
    let block = rw (← c.self.view_is) at c.if-is_file.ensures in
    rw (← c.self.view_is) (c.get_among.ensures ∙ sym (here_in_block c.args.name.at c.self.inside.here (reverse c.self.inside.outer.items) c.self.inside.stack block))
