use Rattle.top_answers.specs.Seen.{seen}
use Rattle.top_answers.proofs.Promised.{promised, untouched}
use Rattle.bench_top.proofs.Owing.{owing, sound, kind}
use Rattle.bench_top.proofs.workers.bench_main.Goals as goal

pub returns-in-Ok : goal.returns-in-Ok
returns-in-Ok g c = record {
  promises =
      promised _ _ _ _ _ (sound _) (seen c.in-Ok.answer) c.give.result c.in-Ok.ensures (owing _ _ c.in-Ok.ensures) c.give.ensures;
  kinds = kind _ (seen c.in-Ok.answer) c.give.result _ _ c.in-Ok.ensures c.give.ensures;
}

pub returns-in-Err-clause-promises : goal.returns-in-Err-clause-promises
returns-in-Err-clause-promises g c = untouched _ _ _ _ _ _ _
