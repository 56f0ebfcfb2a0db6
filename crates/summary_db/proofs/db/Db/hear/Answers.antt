use Rattle.std.proofs.Common.{arith, length, ap, sym, ◌∙◌}
use Rattle.summary_db.proofs.Moves_kept.{hear_allowed_at}
use Rattle.summary_db.proofs.db.Db.hear.Goals as goal

pub load-requires : goal.load-requires
load-requires g c =
    let d = c.args.self.now in let w = d.words in let n = c.len.ensures in
    (c.requires, omega arith, hear_allowed_at _ _ _ _ _ _ _ c.len.result (ap length (sym d.planned) ∙ sym n))
