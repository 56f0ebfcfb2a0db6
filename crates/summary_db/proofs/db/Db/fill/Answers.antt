use Rattle.std.proofs.Common.{◌≡◌, ◌+◌, ◌<◌, ◌∷◌, arith, length, length-append, ap, sym, ◌∙◌, subst, None, Some, ℕ}
use Rattle.std.specs.Arc.{arc_value}
use Rattle.std.specs.declared.sync.Arc.{Arc}
use Rattle.std.proofs.Common.{Global}
use Rattle.std.specs.Option.{IsSome}
use Rattle.std.proofs.lemmas.List.Elements.{All-pop}
use Rattle.summary_db.specs.Places.{Anything, Fills, Rolled, slots_of, takes_of, gives_of}
use Rattle.summary_db.specs.Told.{IsOutput}
use Rattle.atomic_table.specs.Table.{rest, turned}
use Rattle.summary_db.proofs.Rolls.{roll}
use Rattle.summary_db.proofs.Calls_kept.{some_and, one_popped}
use Rattle.summary_db.proofs.db.Db.fill.Goals as goal

pub swap-requires-after_bounds : goal.swap-requires-after_bounds
swap-requires-after_bounds g c κs within =
    let d = c.args.self.now in let inv = c.loop-k.invariant in
    let n = roll Anything (Fills d.rows (IsOutput g.W.Work.defined (Some d.table.shared.key.work.value)) c.args.function) (slots_of d.rows c.args.function) (length c.takes-takes.result.now + c.loop-k.k) c.slot-slot.result c.loop-k.seat.me.1 c.slot-slot.ensures inv.1 in
    (inv.0.0 ∙ c.requires.inside.1, (n.value, n.first))

pub loop-k-preserved : goal.loop-k-preserved
loop-k-preserved g c =
    let d = c.args.self.now in let inv = c.loop-k.invariant in let s = c.swap.ensures.seat in
    let out = λ (row : Arc g.row.W-Out.Denot Global). arc_value row ≡ g.W.Work.defined d.table.shared.key.work.value c.args.function in
    let good = IsOutput g.W.Work.defined (Some d.table.shared.key.work.value) in
    let n = roll Anything (Fills d.rows good c.args.function) (slots_of d.rows c.args.function) (length c.takes-takes.result.now + c.loop-k.k) c.slot-slot.result c.loop-k.seat.me.1 c.slot-slot.ensures inv.1 in
    let popped = All-pop out c.loop-k.list.items c.pop-row.new.self.items c.pop-row.result c.pop-row.ensures.items inv.3 in
    let low = c.loop-k-test.true in let e = ap length c.gives-gives.ensures in let m = inv.2 in
    let is : IsSome c.pop-row.result = c.pop-row.ensures.variant.1 (omega arith) in
    let one = one_popped c.pop-row.result is in let len = c.pop-row.ensures.len in
    let full : good c.args.function c.pop-row.result = some_and c.pop-row.result out is popped.1 in
    let again : length c.takes-takes.result.now + c.loop-k.k + 1 ≡ length c.takes-takes.result.now + (c.loop-k.k + 1) = omega arith in (
      (s.0 ∙ inv.0.0, s.1 ∙ inv.0.1, ap (λ m'. m'.0) s.2 ∙ inv.0.2),
      subst (λ m'. Rolled Anything (Fills d.rows good c.args.function) (slots_of d.rows c.args.function) (length c.takes-takes.result.now + (c.loop-k.k + 1)) m'.1) (sym s.2)
          (subst (λ (j : ℕ). Rolled Anything (Fills d.rows good c.args.function) (slots_of d.rows c.args.function) j (turned ((c.slot-slot.result, c.pop-row.result) ∷ rest c.loop-k.seat.me.1))) again (n.on c.pop-row.result (λ p at same. full))),
      omega arith,
      popped.0,
    )

pub returns-clause-slots : goal.returns-clause-slots
returns-clause-slots g c =
    let d = c.args.self.now in let inv = c.loop-k.invariant in
    let good = IsOutput g.W.Work.defined (Some d.table.shared.key.work.value) in
    let high = c.loop-k-test.false in let e = ap length c.takes-takes.ensures in let e' = ap length c.gives-gives.ensures in let a = c.loop-k.auto in
    let m = length-append (takes_of d.rows c.args.function) (gives_of d.rows c.args.function) in
    let same : length c.takes-takes.result.now + c.loop-k.k ≡ length (slots_of d.rows c.args.function) = omega arith in
    subst (λ (k : ℕ). Rolled Anything (Fills d.rows good c.args.function) (slots_of d.rows c.args.function) k c.loop-k.seat.me.1) same inv.1
