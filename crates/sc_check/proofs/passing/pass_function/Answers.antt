use Rattle.sc_typing.specs.Tables.{here_of}
use Rattle.sc_check.proofs.Bare.{function_left}
use Rattle.sc_check.proofs.passing.pass_function.Goals as goal

pub returns-clause-left : goal.returns-clause-left
returns-clause-left c =
    function_left (here_of c.args.here.now) c.args.h.now c.args.b.now c.head_name.result c.head_is_local-is_local.result
    c.args.walk.now c.pass_named.result c.pass_named.new.walk c.head_name.ensures c.head_is_local-is_local.ensures
    c.pass_named.ensures.left
