use Rattle.std.proofs.Common.{◌≡◌, ◌+◌, arith, length, length-append, ap, sym, ◌∙◌, subst, None, ℕ, refl}
use Rattle.summary_db.specs.Places.{Anything, Rolled, slots_of, takes_of, gives_of}
use Rattle.summary_db.proofs.Rolls.{roll}
use Rattle.summary_db.proofs.db.Db.clear.Goals as goal

pub swap-requires-after_bounds : goal.swap-requires-after_bounds
swap-requires-after_bounds g c κs within =
    let d = c.args.self.now in let inv = c.loop-k.invariant in
    let n = roll Anything (λ i y. y ≡ None) (slots_of d.rows c.args.function) c.loop-k.k c.slot-slot.result c.loop-k.seat.me.1 c.slot-slot.ensures inv.1 in
    (inv.0.0 ∙ c.requires.inside.1, (n.value, n.first))

pub loop-k-preserved : goal.loop-k-preserved
loop-k-preserved g c =
    let d = c.args.self.now in let inv = c.loop-k.invariant in let s = c.swap.ensures.seat in
    let n = roll Anything (λ i y. y ≡ None) (slots_of d.rows c.args.function) c.loop-k.k c.slot-slot.result c.loop-k.seat.me.1 c.slot-slot.ensures inv.1 in (
      (s.0 ∙ inv.0.0, s.1 ∙ inv.0.1, ap (λ m. m.0) s.2 ∙ inv.0.2),
      subst (λ m. Rolled Anything (λ i y. y ≡ None) (slots_of d.rows c.args.function) (c.loop-k.k + 1) m.1) (sym s.2) (n.on None refl),
    )

pub returns-clause-slots : goal.returns-clause-slots
returns-clause-slots g c =
    let d = c.args.self.now in let inv = c.loop-k.invariant in
    let high = c.loop-k-test.false in let e = ap length c.takes-takes.ensures in let e' = ap length c.gives-gives.ensures in let a = c.loop-k.auto in
    let m = length-append (takes_of d.rows c.args.function) (gives_of d.rows c.args.function) in let low = c.requires.inside.2 in
    let same : c.loop-k.k ≡ length (slots_of d.rows c.args.function) = omega arith in
    subst (λ (k : ℕ). Rolled Anything (λ i y. y ≡ None) (slots_of d.rows c.args.function) k c.loop-k.seat.me.1) same inv.1
