use Rattle.std.proofs.Common.{◌≡◌, arith, length, ap, sym, ◌∙◌, subst, None}
use Rattle.summary_db.proofs.Moves_kept.{leave_allowed_at}
use Rattle.summary_db.specs.Places.{IsLaidOut, Holds, slots_of}
use Rattle.summary_db.proofs.db.Db.leave.Goals as goal

pub store-requires : goal.store-requires
store-requires g c =
    let d = c.args.self.now in let w = d.words in let n = c.len.ensures in (
      c.requires.seat,
      omega arith,
      leave_allowed_at _ _ _ _ (subst IsLaidOut d.planned d.laid) _ _ _ c.args.seat.now.me.0.place c.len.result (ap length (sym d.planned) ∙ sym n) c.requires.claim
          (subst (λ rs. Holds (λ i y. y ≡ None) (slots_of rs c.args.seat.now.me.0.place) c.args.seat.now.me.1) d.planned c.requires.empty),
    )
