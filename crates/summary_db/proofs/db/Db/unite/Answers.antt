use Rattle.std.proofs.Common.{arith, refl}
use Rattle.summary_db.proofs.Moves_kept.{join_allowed}
use Rattle.summary_db.proofs.db.Db.unite.Goals as goal

pub join_seat-requires : goal.join_seat-requires
join_seat-requires g c =
    let d = c.args.self.now in let w = d.words in (
      c.requires.0,
      c.requires.1,
      c.requires.2,
      omega arith,
      join_allowed _ _ _ _ _ _ _ _ _ _ record { claims = refl; gone = refl; done = refl; seen = refl; stopped = refl }
          record { claims = refl; gone = refl; done = refl; seen = refl; stopped = refl },
    )
