use Rattle.std.proofs.Common.{[], ◌∷◌, codes}
use Rattle.saturn_words.specs.Commands.{run_command, files_argument, needed_option, options, word_option}
use Rattle.saturn_words.proofs.Adding.{adds, adds_last}
use Rattle.saturn_words.proofs.commands.run_command.Goals as goal

pub returns : goal.returns
unfolding run_command
returns c =
    let form = word_option (codes "format") c.args.formats in
    let name = needed_option (codes "function") in
    let choice = needed_option (codes "choice") in
    let models = c.args.models in
    let one = adds (codes "saturn_run") (options models []) form c.in_ok-with_options.field-0
    c.word_option.result c.in_ok-arg.field-0
    c.in_ok-with_options.ensures c.word_option.ensures.rule c.word_option.ensures.local c.in_ok-arg.ensures in
    let two = adds (codes "saturn_run") (options models (form ∷ [])) name c.in_ok-arg.field-0
    c.needed_option.result c.in_ok-arg-2.field-0 one
    c.needed_option.ensures.rule c.needed_option.ensures.local c.in_ok-arg-2.ensures in
    let three = adds (codes "saturn_run") (options models (form ∷ name ∷ [])) choice c.in_ok-arg-2.field-0
    c.needed_option-2.result c.in_ok-arg-3.field-0 two
    c.needed_option-2.ensures.rule c.needed_option-2.ensures.local c.in_ok-arg-3.ensures in
    adds_last (codes "saturn_run") (options models (form ∷ name ∷ choice ∷ [])) files_argument c.in_ok-arg-3.field-0
    c.files_argument.result c.arg-4.result three
    c.files_argument.ensures.rule c.files_argument.ensures.local c.arg-4.ensures
