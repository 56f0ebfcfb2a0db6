use Rattle.std.proofs.Common.{◌≡◌, ◌+◌, arith, length, ap, sym, ◌∙◌, subst, None, Some, ℕ}
use Rattle.summary_db.specs.Places.{Anything, Fills, Rolled, slots_of, takes_of}
use Rattle.summary_db.specs.Told.{IsOutput}
use Rattle.summary_db.proofs.Jobs.{skipped}
use Rattle.summary_db.proofs.db.Db.skip.Goals as goal

pub loop-k-preserved : goal.loop-k-preserved
loop-k-preserved g c =
    let d = c.args.self.now in let inv = c.loop-k.invariant in let t = c.turn.ensures in
    let low = c.loop-k-test.true in let e = ap length c.takes-takes.ensures in
    let good = IsOutput g.W.Work.defined (Some d.table.shared.key.work.value) in (
      t.0 ∙ inv.0,
      t.1 ∙ inv.1,
      ap (λ m. m.0) t.2 ∙ inv.2,
      subst (λ m. Rolled Anything (Fills d.rows good c.args.function) (slots_of d.rows c.args.function) (c.loop-k._k + 1) m.1) (sym t.2)
          (skipped d.rows d.laid None good c.args.function c.requires.inside.0 c.loop-k._k c.loop-k.seat.me.1 (omega arith) inv.3),
    )

pub returns-clause-slots : goal.returns-clause-slots
returns-clause-slots g c =
    let d = c.args.self.now in let inv = c.loop-k.invariant in
    let good = IsOutput g.W.Work.defined (Some d.table.shared.key.work.value) in
    let high = c.loop-k-test.false in let e = ap length c.takes-takes.ensures in let low = c.requires.inside.1 in let a = c.loop-k.auto in
    let same : c.loop-k._k ≡ length (takes_of d.rows c.args.function) = omega arith in
    subst (λ (k : ℕ). Rolled Anything (Fills d.rows good c.args.function) (slots_of d.rows c.args.function) k c.loop-k.seat.me.1) same inv.3
