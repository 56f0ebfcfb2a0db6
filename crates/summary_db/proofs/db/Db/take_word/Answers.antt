use Rattle.std.proofs.Common.{◌≡◌, ◌<◌, ℕ, true, arith, length, ◌∙◌, subst}
use Rattle.plan_core.specs.Graph.{callees}
use Rattle.summary_db.specs.Views.{member}
use Rattle.summary_db.specs.Places.{IsLaidOut}
use Rattle.summary_db.proofs.Moves_kept.{claim_told}
use Rattle.summary_db.proofs.db.Db.take_word.Goals as goal

pub compare_exchange-requires : goal.compare_exchange-requires
compare_exchange-requires g c =
    let d = c.args.self.now in let w = d.words in let f = c.requires.seat.1 in (
      c.requires.seat.0,
      omega arith,
      claim_told g.W.Work.defined d.table.shared.key.plan.value.callees d.table.shared.key.work.value (subst IsLaidOut d.planned d.laid) _ _ c.args.seat.now.me c.args.function
          (subst (λ rs. c.args.function < length rs) d.planned f)
          (subst (λ rs. (h : ℕ) → member h (callees rs c.args.function) ≡ true → member h c.args.seat.now.me.0.seen ≡ true) d.planned c.requires.seen)
          (c.requires.key.0 ∙ d.planned)
          c.requires.key.1,
    )
