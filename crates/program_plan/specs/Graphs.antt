-- The call graph, made with a machine that is told.
use Rattle.std.specs.Prelude.{ℕ, Bool, List, [], map, filter}
use Rattle.fsm_spec.specs.declared.table.MachineSpec.{MachineSpec}
use Rattle.sc_typed.specs.declared.program.Program.{Program}
use Rattle.sc_world.specs.Source.{Source}
use Rattle.sc_world.specs.Programs.{source_by}
use Rattle.program_verdicts.specs.CallGraph.{in_stm, calls_body, functions}

-- what is read of a function, of none of whose callees a summary is there
abbrev pub source_with : Program → MachineSpec → (tries : Bool) → ℕ → Source
source_with p machine tries f = source_by p machine tries f [] [] 0 0

-- the functions that the body calls, ascending, each once
abbrev pub row_in : Program → Source → List ℕ
row_in p s = filter (calls_body (in_stm s s.body)) (functions p)

abbrev pub row_with : Program → MachineSpec → (tries : Bool) → ℕ → List ℕ
row_with p machine tries f = row_in p (source_with p machine tries f)

abbrev pub rows_with : Program → MachineSpec → (tries : Bool) → List (List ℕ)
rows_with p machine tries = map (row_with p machine tries) (functions p)
