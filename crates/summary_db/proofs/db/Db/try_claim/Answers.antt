use Rattle.std.proofs.Common.{◌≡◌, arith, ap, sym, ◌∙◌, subst}
use Rattle.summary_db.specs.Views.{looked, opens, starts, ends, Looks}
use Rattle.summary_db.proofs.Jobs.{looks_again, looked_looks, missed_looks}
use Rattle.summary_db.proofs.db.Db.try_claim.Goals as goal

pub returns-clause-claim : goal.returns-clause-claim
returns-clause-claim g c =
    let f = c.args.function in
    let v0 = c.args.pass.now.seat.me.0 in
    let v1 = c.waits_for.new.pass.seat.me.0 in
    let v2 = c.look.new.seat.me.0 in
    let found = c.take_word-found.result in
    let w = c.end.new.seat.me.0 in
    let missed = c.take_word-found.ensures.claims.1 c.if-found-eq0.false in
    let e2 : v2 ≡ looked f c.look.result v1 = ap (λ m. m.0) c.look.ensures.seat.2 in
    let a : c.begin-seat.new.seat.me.0 ≡ opens v2 = ap (λ m. m.0) c.begin-seat.ensures.pass.2 in
    let b : c.take_word-found.new.seat.me.0 ≡ looked f found (starts v2) = ap (λ m. m.0) missed.0 ∙ ap (λ m. looked f found m.0) c.begin-seat.ensures.job.1 in
    let e : w ≡ ends (opens v2) (looked f found (starts v2)) = ap (λ m. m.0) c.end.ensures.2 ∙ (λ i. ends (a i) (b i)) in
    let first = c.waits_for.ensures.looks in
    let second : Looks v1 v2 = subst (Looks v1) (sym e2) (looked_looks f c.look.result v1) in
    let third : Looks v2 w = subst (Looks v2) (sym e) (missed_looks f found v2 (ap (λ v. v.place) e2)) in
    let n0 = first.finds in let n1 = ap (λ v. v.finds) e2 in let n2 = third.finds in
    let small = missed.1 in let some' = c.if-found-eq0.false in (
      omega arith,
      small,
      ap (λ v. v.place) e,
      ap (λ v. v.word) e,
      omega arith,
      looks_again v0 v2 w (looks_again v0 v1 v2 first second) third,
    )
