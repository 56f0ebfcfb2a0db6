-- What contracts see of where a run goes on, and of what it seeks.
use Rattle.std.specs.Prelude.{Option, Some, None, Bool, List}
use Rattle.sum_rows.specs.declared.report.What.{What}
use Rattle.sum_rows.specs.declared.report.What.TheVariants as what
use Rattle.sc_world.specs.Exec as spec
use Rattle.run_world.specs.Seen.{cell}
use Rattle.run_stmts.specs.declared.flow.Flow.{Flow}
use Rattle.run_stmts.specs.declared.flow.Flow.TheVariants as flows
use Rattle.run_stmts.specs.declared.flow.Seek.{Seek}
use Rattle.run_stmts.specs.declared.flow.Seek.TheVariants as seeks
use Rattle.run_stmts.specs.declared.flow.After.{After}
use Rattle.run_stmts.specs.declared.flow.After.TheVariants as afters
use Rattle.run_stmts.specs.Items as items
use Rattle.run_stmts.specs.Loops as loops
use Rattle.run_stmts.specs.declared.loops.Loop.{Loop}
use Rattle.run_stmts.specs.declared.loops.Loop.TheVariants as loop
use Rattle.sc_world.specs.Source.{Struct}
use Rattle.sc_world.specs.View.{exp, exp_if}
use Rattle.run_stmts.specs.declared.conditions.Test.{Test}
use Rattle.run_stmts.specs.declared.conditions.Test.TheVariants as test

abbrev pub flow : Flow → spec.Flow
flow flows.Next = spec.Next
flow flows.Breaks = spec.Breaks
flow flows.Continues = spec.Continues
flow (flows.GoesTo n) = spec.GoesTo n
flow (flows.Returns v) = spec.Returns (cell v)

abbrev pub flow_if : Option Flow → Option spec.Flow
flow_if None = None
flow_if (Some f) = Some (flow f)

abbrev pub seek : Seek → spec.Seek
seek seeks.Here = spec.Here
seek (seeks.AtLabel n) = spec.AtLabel n
seek (seeks.AtCase n) = spec.AtCase n
seek seeks.AtDefault = spec.AtDefault

abbrev pub seek_if : Option Seek → Option spec.Seek
seek_if None = None
seek_if (Some s) = Some (seek s)

abbrev pub after : After → items.After
after (afters.Seeks s) = items.Seeks (seek s)
after (afters.Ends f) = items.Ends (flow f)

-- the event of a condition
abbrev pub asked : Test → Bool → What
asked test.If = what.If
asked test.Loop = what.Loop

-- what a loop tests
abbrev pub loop_of : List Struct → Loop → loops.Loop
loop_of structs (loop.While e) = loops.While (exp structs e.now)
loop_of structs (loop.For c n) = loops.For (exp_if structs c.now) (exp_if structs n.now)
loop_of structs (loop.Do e) = loops.Do (exp structs e.now)
