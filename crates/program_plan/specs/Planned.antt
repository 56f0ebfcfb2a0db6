-- What planning answers: the plan of the call graph, or that the graph has too many edges. Of want of memory nothing
-- is said.
use Rattle.std.specs.Prelude.{◌≡◌, ℕ, ◌+◌, ◌<◌, ◌≤◌, List, [], ◌∷◌, Result, Ok, Err, length}
use Rattle.plan_core.specs.declared.plan.Plan.{Plan}
use Rattle.sc_base.specs.declared.skip.LimitKind.TheVariants as limit
use Rattle.sc_typed.specs.declared.program.Program.{Program}
use Rattle.program_verdicts.specs.CallGraph.{rows, plan}
use Rattle.program_plan.specs.declared.answer.PlanAnswer.{PlanAnswer}
use Rattle.program_plan.specs.declared.answer.PlanAnswer.TheVariants as answer

-- the edges of a graph: a pair of a caller and a callee counts once, however often the one calls the other
abbrev pub edges : List (List ℕ) → ℕ
edges [] = 0
edges (row ∷ rows) = length row + edges rows

abbrev pub edges_of : Program → ℕ
edges_of p = edges (rows p)

abbrev pub most_edges : ℕ
most_edges = 65535

abbrev pub Refuses : Program → PlanAnswer → Type 0
Refuses p (answer.Limit kind count) = (most_edges < edges_of p) × ((kind ≡ limit.Edges) × (count ≡ edges_of p))
Refuses p answer.OutOfMemory = Unit {0}

abbrev pub Answers : Program → Result Plan PlanAnswer → Type 0
Answers p (Ok x) = (edges_of p ≤ most_edges) × (x ≡ plan p)
Answers p (Err e) = Refuses p e
