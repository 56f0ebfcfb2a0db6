use Rattle.bench_checks.specs.Bench.{sources_of}
use Rattle.bench_checks.proofs.program.program_of.Goals as goal

pub returns-in-Err-clause-none : goal.returns-in-Err-clause-none
returns-in-Err-clause-none c = c.unplanned.ensures (sources_of c.args.input) c.in-Err.ensures.said
