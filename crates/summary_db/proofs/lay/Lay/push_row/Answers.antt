use Rattle.std.proofs.Common.{arith, ◌++◌, map, take, take_all, get_or, subst, ap}
use Rattle.summary_db.specs.Places.{edge}
use Rattle.summary_db.specs.Lays.{IsLay}
use Rattle.summary_db.proofs.Laying.{row_more, member_get}
use Rattle.summary_db.proofs.lay.Lay.push_row.Goals as goal

pub push-requires : goal.push-requires
push-requires c =
    let a = c.loop-giver.invariant.1 in
    let b = c.loop-giver.invariant.2 in
    let low = c.requires.0 in
    let low' = c.requires.1 (get_or c.args.givers.now c.loop-giver.giver-index 0) (member_get c.args.givers.now c.loop-giver.giver-index 0 c.loop-giver-test.true) in
    (omega arith, omega arith)

pub loop-giver-preserved : goal.loop-giver-preserved
loop-giver-preserved c =
    let a = c.loop-giver.invariant.1 in
    let b = c.loop-giver.invariant.2 in
    let l = c.in_ok-push.ensures.len in (
      (λ n places lay.
          subst (λ ps. IsLay n ps c.push.new.self) (row_more places (edge c.args.taker) c.args.givers.now c.loop-giver.giver-index 0 c.loop-giver-test.true)
          (c.in_ok-push.ensures.lay n (places ++ map (edge c.args.taker) (take c.loop-giver.giver-index c.args.givers.now)) (c.loop-giver.invariant.0 n places lay))),
      omega arith,
      omega arith,
    )

pub returns-clause-lay : goal.returns-clause-lay
returns-clause-lay c n places lay =
    subst (λ xs. IsLay n (places ++ map (edge c.args.taker) xs) c.loop-giver.self) (take_all c.loop-giver.giver-index c.args.givers.now c.loop-giver-test.false)
    (c.loop-giver.invariant.0 n places lay)
