use Rattle.sc_check.proofs.Kept.{left, signature_kept}
use Rattle.sc_check.proofs.heads.judge_signature.Goals as goal

pub returns-clause-kept : goal.returns-clause-kept
returns-clause-kept c =
    left _ tt c.signature_at.new.walk c.args.walk.now.globals c.signature_at.ensures
    ((signature_kept c.args.at _ c.args.params.now).kept c.args.walk.now)
