use Rattle.std.proofs.Common.{[], ◌∷◌, codes}
use Rattle.std.specs.Prelude.{pos}
use Rattle.saturn_words.specs.Commands.{bench_command, number_option, number_argument}
use Rattle.saturn_words.proofs.Adding.{adds, adds_last}
use Rattle.saturn_words.proofs.commands.bench_command.Goals as goal

pub returns : goal.returns
unfolding bench_command
returns c =
    let jobs = number_option (codes "jobs") (pos 1) (pos 64) in
    let many = number_argument (codes "N") (pos 1) (pos 4096) in
    let one = adds (codes "saturn_bench") [] jobs c.named.result c.number_option.result c.in_ok-arg.field-0
    c.named.ensures c.number_option.ensures.rule c.number_option.ensures.local c.in_ok-arg.ensures in
    let two = adds (codes "saturn_bench") (jobs ∷ []) many c.in_ok-arg.field-0
    c.number_argument.result c.in_ok-arg-2.field-0 one
    c.number_argument.ensures.rule c.number_argument.ensures.local c.in_ok-arg-2.ensures in
    adds_last (codes "saturn_bench") (jobs ∷ many ∷ [])
    (number_argument (codes "SEED") (pos 0) (pos 4294967295)) c.in_ok-arg-2.field-0
    c.number_argument-2.result c.arg-3.result two
    c.number_argument-2.ensures.rule c.number_argument-2.ensures.local c.arg-3.ensures
