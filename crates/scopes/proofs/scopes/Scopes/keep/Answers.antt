use Rattle.std.proofs.Common.{reverse}
use Rattle.scopes.proofs.FrameLemmas.{frames-kept}
use Rattle.scopes.proofs.scopes.Scopes.keep.Goals as goal

pub returns : goal.returns
returns g c =
    let file = rw (← c.self.view_is) at c.requires in
    rw (← c.self.view_is) (frames-kept c.self.inside.here (reverse c.self.inside.outer.items) c.self.inside.stack file)
