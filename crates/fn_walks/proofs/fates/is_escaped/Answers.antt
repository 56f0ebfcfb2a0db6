use Rattle.fn_walks.proofs.Fating.{escape_shown}
use Rattle.fn_walks.proofs.fates.is_escaped.Goals as goal

pub returns-clause-ok : goal.returns-clause-ok
returns-clause-ok c =
    escape_shown _ _ _ c.args.walk.now.from c.args.object _ _ _ c.requires.from c.in_ok-escaped.ensures.grown c.in_ok-there.ensures.ok
    c.has-marked.ensures c.in_ok-escaped.ensures.ok
