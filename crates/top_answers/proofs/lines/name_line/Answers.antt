use Rattle.std.proofs.Common.{codes}
use Rattle.top_answers.specs.Lines.{shown_name}
use Rattle.top_answers.proofs.Joined.{ended}
use Rattle.top_answers.proofs.lines.name_line.Goals as goal

pub returns : goal.returns
returns c =
    ended c.args.program.now (codes ": ") c.args.word.now (shown_name c.args.name.now) (codes "\n") _ _ _ _ c.in_ok-line.ensures
    c.in_ok-put.ensures c.in_ok-put_name.ensures c.in_ok-put-2.ensures
