use Rattle.std.proofs.Common.{rules, codes}
use Rattle.std.specs.Prelude.{decimal}
use Rattle.verify_runs.proofs.Joined.{joined}
use Rattle.verify_runs.proofs.lines.malformed_line.Goals as goal

pub returns : goal.returns
returns c =
    joined (codes "saturn_verify: ") c.args.name.now (codes ":") (decimal c.args.line) (codes ": malformed\n") _ _ _ _ _ (search rules)
    c.in_ok-put.ensures c.in_ok-put-2.ensures c.in_ok-put_number.ensures c.in_ok-put-3.ensures
