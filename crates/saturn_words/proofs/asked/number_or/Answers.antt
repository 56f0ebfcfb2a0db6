use Rattle.std.proofs.Common.{◌∙◌, ap, Ok}
use Rattle.std.specs.Str.Parse.{ParsesUnsigned, ExplainsUnsignedError, HasUnsignedDigitsIfOk}
use Rattle.clap.specs.Words.{found_of}
use Rattle.saturn_words.proofs.Numbers.{read_some, read_none}
use Rattle.saturn_words.proofs.asked.number_or.Goals as goal

pub returns-in-Ok-Some : goal.returns-in-Ok-Some
returns-in-Ok-Some c =
    read_some (λ bs r. ParsesUnsigned 32 10 bs r × ExplainsUnsignedError 10 bs r × HasUnsignedDigitsIfOk bs r)
    c.args.default c.args.name.now (found_of c.args.matches.now)
    c.try_get_one.result c.in-Ok-Some.n (λ t x g. g.0) c.try_get_one.ensures.none c.try_get_one.ensures.value
    (c.in-Ok-Some.is ∙ ap Ok c.in-Ok-Some.field-0-is)

pub returns-in-Ok-None : goal.returns-in-Ok-None
returns-in-Ok-None c =
    read_none (λ bs r. ParsesUnsigned 32 10 bs r × ExplainsUnsignedError 10 bs r × HasUnsignedDigitsIfOk bs r)
    c.args.default c.args.name.now (found_of c.args.matches.now)
    c.try_get_one.result c.try_get_one.ensures.value (c.in-Ok-None.is ∙ ap Ok c.in-Ok-None.field-0-is)
