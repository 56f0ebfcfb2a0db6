use Rattle.std.proofs.Common.{arith, refl}
use Rattle.summary_db.proofs.Moves_kept.{split_allowed}
use Rattle.summary_db.proofs.db.Db.begin.Goals as goal

pub split_seat-requires : goal.split_seat-requires
split_seat-requires g c =
    let d = c.args.self.now in let w = d.words in (
      c.requires,
      omega arith,
      split_allowed _ _ _ _ _ c.args.seat.now.me.0 _ _ (λ s r at. let f = r.fits c.args.seat.now.id c.args.seat.now.me.0 at in record { claims = f.claims; gone = f.gone; done = f.done; seen = f.seen; stopped = f.stopped })
          record { claims = refl; gone = refl; done = refl; seen = λ h has. has; stopped = refl },
    )
