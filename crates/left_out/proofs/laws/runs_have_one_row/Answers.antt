use Rattle.left_out.proofs.OneRow.{some, one, has}
use Rattle.left_out.proofs.laws.runs_have_one_row.Goals as goal

pub returns : goal.returns
returns c = record { some = λ x o t r h. some x o t r h; one = λ x o t r q h k. one x o t r q h k; has = λ x o t h. has x o t h }
