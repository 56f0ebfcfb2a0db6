use Rattle.std.proofs.Common.{reverse}
use Rattle.scopes.proofs.FrameLemmas.{frames-push}
use Rattle.scopes.proofs.scopes.Scopes.declare.Goals as goal

pub returns-clause-ok : goal.returns-clause-ok
returns-clause-ok g c =
    rw (c.in_ok-push.ensures.ok, ← c.self.view_is) (frames-push c.args.name.at c.args.value c.self.inside.here (reverse c.self.inside.outer.items) c.self.inside.stack)
