use Rattle.std.proofs.Common.{arith, Some, subst}
use Rattle.summary_db.proofs.Moves_kept.{put_allowed}
use Rattle.summary_db.specs.Places.{IsLaidOut, Holds, Fills, slots_of}
use Rattle.summary_db.specs.Told.{IsOutput}
use Rattle.summary_db.proofs.db.Db.put_word.Goals as goal

pub compare_exchange-requires : goal.compare_exchange-requires
compare_exchange-requires g c =
    let d = c.args.self.now in let w = d.words in let f = c.requires.seat.1 in (
      c.requires.seat.0,
      omega arith,
      put_allowed _ _ _ _ (subst IsLaidOut d.planned d.laid) _ _ _ c.args.function c.requires.claim
          (subst (λ rs. Holds (Fills rs (IsOutput g.W.Work.defined (Some d.table.shared.key.work.value)) c.args.function) (slots_of rs c.args.function) c.args.seat.now.me.1) d.planned c.requires.full),
    )
