use Rattle.bench_checks.proofs.Reading.{is_refused}
use Rattle.bench_checks.proofs.trees.input.Goals as goal

pub returns-clause-refused : goal.returns-clause-refused
returns-clause-refused c =
    is_refused c.args.count c.args.seed c.in_ok-files.files c.read_input.new.files.faults c.read_input.result c.in_ok-files.ensures
    c.read_input.ensures.answers
