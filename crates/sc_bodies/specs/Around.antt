-- What stands round a statement, as the code hands it down.
use Rattle.std.specs.Option.{option_copied}
use Rattle.sc_bodies.specs.declared.around.Around.{Around}
use Rattle.sc_bodies.specs.Bodies.{Inside}

unfoldable pub inside_of : Around → Inside
inside_of a =
    record { result = option_copied a.result; loop = a.repeats; leaves = a.leaves; switch = option_copied a.switch }
