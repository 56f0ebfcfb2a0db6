use Rattle.sc_check.proofs.Kept.{left, jumps_kept}
use Rattle.sc_check.proofs.heads.judge_found.Goals as goal

pub returns-clause-kept : goal.returns-clause-kept
returns-clause-kept c =
    left _ tt c.check_jumps.new.walk c.args.walk.now.globals c.check_jumps.ensures
    ((jumps_kept c.args.found.now).kept c.args.walk.now)
