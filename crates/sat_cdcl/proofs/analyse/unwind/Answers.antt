-- The clause of the conflict, whole.
use Rattle.std.proofs.Common.{arith}
use Rattle.sat_cdcl.proofs.ResolventLemmas.{entails_taken}
use Rattle.sat_cdcl.proofs.InferredLemmas.{inferred_taken}
use Rattle.sat_cdcl.proofs.analyse.unwind.Goals as goal

pub loop-behind-init : goal.loop-behind-init
loop-behind-init c =
    let len = c.len-behind.ensures.len in
    record {
      inside = omega (arith, len);
      entailed = entails_taken c.args.clauses.now.given c.clear.new.self c.take_all.new.resolvent c.in-Some.clause.now c.in-Some.ensures.entailed
          c.in_ok-take_all.ensures;
      inferred = inferred_taken c.args.clauses.now c.clear.new.self c.take_all.new.resolvent c.in-Some.clause.now c.in-Some.ensures.known
          c.in_ok-take_all.ensures;
    }
