use Rattle.std.proofs.Common.{◌<◌, length, arith, subst}
use Rattle.summary_db.proofs.Moves_kept.{look_allowed}
use Rattle.summary_db.proofs.db.Db.look.Goals as goal

pub load-requires : goal.load-requires
load-requires g c =
    let d = c.args.self.now in let w = d.words in let f = c.requires.1 in
    (c.requires.0, omega arith, look_allowed _ _ _ _ _ _ _ _ (subst (λ rs. c.args.function < length rs) d.planned f))
