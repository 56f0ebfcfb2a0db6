use Rattle.sc_typing.specs.Tables.{here_of}
use Rattle.sc_check.proofs.Named.{named_gives}
use Rattle.sc_check.proofs.functions.function.Goals as goal

pub returns-clause-typed : goal.returns-clause-typed
returns-clause-typed c =
    named_gives (here_of c.args.here.now) c.args.h.now c.args.b.now c.head_name.result c.head_is_local-is_local.result
    c.args.walk.now c.function_named.result c.function_named.new.walk c.head_name.ensures c.head_is_local-is_local.ensures
    c.function_named.ensures.typed
