-- An `if` with `else` is the chain of its steps; a `while` and a `switch` are what the parts of their tree say.
use Rattle.sc_typing.specs.Tables.{here_of}
use Rattle.sc_bodies.specs.Around.{inside_of}
use Rattle.sc_bodies.proofs.Branches.{else_gives, while_gives, switch_gives}
use Rattle.sc_bodies.proofs.statements.+statement.Goals as goal

pub statement-returns-in_ok-t-in-Some-clause-typed : goal.statement-returns-in_ok-t-in-Some-clause-typed
statement-returns-in_ok-t-in-Some-clause-typed t c =
    else_gives (here_of c.args.here.now) c.in-If.at c.in-If.e c.get-in-Some.result.now c.in-If.x
    c.get-in-Some-2.result.now c.in-Some.z c.get-in-Some-3.result.now c.args.s.now c.in-If.y
    (inside_of c.args.around.now) c.args.walk.now c.open_block.new.walk c.boxed_condition.new.walk c.inner.new.walk
    c.inner-in-Some.new.walk c.in_ok-open_block-in-Some.field-0 c.in_ok-c-in-Some.c c.in_ok-y-in-Some.y
    c.in_ok-t-in-Some.t c.close_if_else.result c.close_if_else.new.walk
    c.in-If.is c.in-Some.is c.get-in-Some.ensures c.get-in-Some-2.ensures c.get-in-Some-3.ensures
    c.in_ok-open_block-in-Some.ensures.opened c.in_ok-c-in-Some.ensures.typed c.in_ok-y-in-Some.ensures.typed
    c.in_ok-t-in-Some.ensures.typed c.close_if_else.ensures.typed

pub statement-returns-in-While-clause-typed : goal.statement-returns-in-While-clause-typed
statement-returns-in-While-clause-typed t c =
    while_gives (here_of c.args.here.now) c.in-While.at c.in-While.e c.get-in-While-2.result.now c.in-While.x
    c.get-in-While.result.now c.args.s.now (inside_of c.args.around.now) c.args.walk.now c.scoped_while.result
    c.scoped_while.new.walk c.in-While.is c.get-in-While-2.ensures c.get-in-While.ensures c.scoped_while.ensures.typed

pub statement-returns-in-Switch-clause-typed : goal.statement-returns-in-Switch-clause-typed
statement-returns-in-Switch-clause-typed t c =
    switch_gives (here_of c.args.here.now) c.in-Switch.at c.in-Switch.to c.in-Switch.e c.get-in-Switch-2.result.now
    c.in-Switch.xs c.get-in-Switch.result.now c.args.s.now (inside_of c.args.around.now) c.args.walk.now
    c.scoped_switch.result c.scoped_switch.new.walk c.in-Switch.is c.get-in-Switch-2.ensures c.get-in-Switch.ensures
    c.scoped_switch.ensures.typed
