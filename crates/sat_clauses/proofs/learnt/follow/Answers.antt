-- Each place in turn.
use Rattle.std.proofs.Common.{sym, ◌∙◌, arith}
use Rattle.sat_clauses.proofs.LearntLemmas.{followed_more, followed_all}
use Rattle.sat_clauses.proofs.learnt.follow.Goals as goal

pub follow_one-requires : goal.follow_one-requires
follow_one-requires c r h = c.requires c.loop-i.i r (sym (c.loop-i.invariant.rest c.loop-i.i (omega arith)) ∙ h)

pub loop-i-preserved : goal.loop-i-preserved
loop-i-preserved c =
    let before = c.loop-i.invariant in
    record {
      len = c.follow_one.ensures.len ∙ before.len;
      done = followed_more c.args.moves.now.places c.args.table.now.items c.loop-i.table.items c.follow_one.new.table.items c.loop-i.i
          c.follow_one.ensures.moved c.follow_one.ensures.others before.done before.rest;
      rest = λ j past. c.follow_one.ensures.others j (λ e. absurd (omega (arith, e, past))) ∙ before.rest j (omega (arith, past));
    }

pub returns : goal.returns
returns c =
    let over = c.loop-i-test.false in
    let last = c.len-i-end.ensures in
    followed_all c.args.moves.now.places c.args.table.now.items c.loop-i.table.items c.loop-i.i c.loop-i.invariant.len
    (omega (arith, over, last)) c.loop-i.invariant.done
