use Rattle.std.proofs.Common.{codes}
use Rattle.std.specs.Prelude.{decimal}
use Rattle.top_answers.specs.Lines.{shown_name}
use Rattle.top_answers.proofs.Joined.{placed}
use Rattle.top_answers.proofs.lines.place_line.Goals as goal

pub returns : goal.returns
returns c =
    placed c.args.program.now (codes ": ") (shown_name c.args.name.now) (codes ":") (decimal c.args.pos.line) (codes ":") (decimal c.args.pos.col) (codes ": ")
    c.args.word.now (codes "\n") _ _ _ _ _ _ _ _ _ c.in_ok-line.ensures c.in_ok-put_name.ensures c.in_ok-put.ensures c.in_ok-put_number.ensures
    c.in_ok-put-2.ensures c.in_ok-put_number-2.ensures c.in_ok-put-3.ensures c.in_ok-put-4.ensures c.in_ok-put-5.ensures
