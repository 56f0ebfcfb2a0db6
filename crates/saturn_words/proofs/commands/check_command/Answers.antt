use Rattle.std.proofs.Common.{[], ◌∷◌, codes}
use Rattle.std.specs.Prelude.{pos}
use Rattle.saturn_words.specs.Commands.{check_command, files_argument, number_option, options, word_option}
use Rattle.saturn_words.proofs.Adding.{adds, adds_last}
use Rattle.saturn_words.proofs.commands.check_command.Goals as goal

pub returns : goal.returns
unfolding check_command
returns c =
    let form = word_option (codes "format") c.args.formats in
    let jobs = number_option (codes "jobs") (pos 1) (pos 64) in
    let models = c.args.models in
    let one = adds (codes "saturn_check") (options models []) form c.in_ok-with_options.field-0
    c.word_option.result c.in_ok-arg.field-0
    c.in_ok-with_options.ensures c.word_option.ensures.rule c.word_option.ensures.local c.in_ok-arg.ensures in
    let two = adds (codes "saturn_check") (options models (form ∷ [])) jobs c.in_ok-arg.field-0
    c.number_option.result c.in_ok-arg-2.field-0 one
    c.number_option.ensures.rule c.number_option.ensures.local c.in_ok-arg-2.ensures in
    adds_last (codes "saturn_check") (options models (form ∷ jobs ∷ [])) files_argument c.in_ok-arg-2.field-0
    c.files_argument.result c.arg-3.result two
    c.files_argument.ensures.rule c.files_argument.ensures.local c.arg-3.ensures
