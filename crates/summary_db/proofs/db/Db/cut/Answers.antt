use Rattle.std.proofs.Common.{arith, refl, true, ◌≡◌}
use Rattle.std.proofs.lemmas.Bool.{false≢true}
use Rattle.summary_db.proofs.Moves_kept.{split_allowed}
use Rattle.summary_db.proofs.db.Db.cut.Goals as goal

pub split_seat-requires : goal.split_seat-requires
split_seat-requires g c =
    let d = c.args.self.now in let w = d.words in (
      c.requires,
      omega arith,
      split_allowed _ _ _ _ _ c.args.seat.now.me.0 _ _ (λ s r at. r.fits c.args.seat.now.id c.args.seat.now.me.0 at)
          record { claims = refl; gone = refl; done = refl; seen = λ h has. absurd (false≢true has); stopped = refl },
    )
