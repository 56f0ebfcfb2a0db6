use Rattle.std.proofs.Common.{◌<◌, vec_len, vec_capacity, length, sym, ◌∙◌, ap, arith}
use Rattle.std.proofs.lemmas.List.{length-take-le}
use Rattle.scopes.proofs.FrameLemmas.{drop_next, drop_some, taken_next}
use Rattle.scopes.proofs.scopes.take_off.Goals as goal
use Rattle.scopes.proofs.scopes.take_off.Goals.{in-Some+in-Err-1, in-Some+in-Ok-1, in_default}

pub loop-off-preserved : goal.loop-off-preserved
loop-off-preserved g c =
    let end = rw c.loop-off.invariant.left at c.pop.ensures.empty in
    let left = drop_next c.loop-off._off c.args.stack.now c.pop.result c.pop.new.self (sym c.loop-off.invariant.left ∙ c.pop.ensures.top) end in
    let more : c.loop-off._off < length c.args.stack.now = omega arith in
    let count = length-take-le c.loop-off._off c.args.stack.now (omega arith) in
    let room : vec_len c.loop-off.into < vec_capacity c.loop-off.into = omega (arith, ap length c.loop-off.invariant.taken, count) in
    elim c.match-pop.branch [
      | in-Some+in-Err-1 w ↦ record {
        left = left;
        taken = rw w.into-is (taken_next c.loop-off._off c.args.stack.now w.in-Some.entry c.pop.new.self c.loop-off.into.items w.push.new.self.items w.push.result (sym c.loop-off.invariant.left ∙ w.in-Some.ensures.top) c.loop-off.invariant.taken w.push.ensures.items (w.push.ensures.succeeds room));
        room = rw w.into-is (omega arith);
      }
      | in-Some+in-Ok-1 w ↦ record {
        left = left;
        taken = rw w.into-is (taken_next c.loop-off._off c.args.stack.now w.in-Some.entry c.pop.new.self c.loop-off.into.items w.push.new.self.items w.push.result (sym c.loop-off.invariant.left ∙ w.in-Some.ensures.top) c.loop-off.invariant.taken w.push.ensures.items (w.push.ensures.succeeds room));
        room = rw w.into-is (omega arith);
      }
      | in_default w ↦ absurd (drop_some c.loop-off._off c.args.stack.now more (sym c.loop-off.invariant.left ∙ w.in_default.ensures.empty))
    ]
