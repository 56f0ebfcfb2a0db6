use Rattle.std.proofs.Common.{reverse, sym, ◌∙◌}
use Rattle.scopes.proofs.FrameLemmas.{meaning-frames}
use Rattle.scopes.proofs.scopes.Scopes.get.Goals as goal

pub returns : goal.returns
returns g c = rw (← c.self.view_is) (c.get.ensures ∙ sym (meaning-frames c.args.name.at c.self.inside.here (reverse c.self.inside.outer.items) c.self.inside.stack))
