use Rattle.std.proofs.Common.{reverse}
use Rattle.scopes.proofs.FrameLemmas.{frames-forgotten}
use Rattle.scopes.proofs.scopes.Scopes.forget.Goals as goal

pub returns : goal.returns
returns g c =
    let file = rw (← c.self.view_is) at c.requires in
    rw (c.drop_off.ensures, ← c.self.view_is) (frames-forgotten c.self.inside.here (reverse c.self.inside.outer.items) c.self.inside.stack file)
