-- The plan of a program has a row for each function, and what is made along it are the verdicts.
use Rattle.std.proofs.Common.{◌≡◌, ◌∙◌, ℕ, ◌<◌, ◌^◌, List, [], length, map, ap, arith}
use Rattle.std.proofs.lemmas.List.FromFn.{length-map-range_with_len, get_or-map-range_with_len}
use Rattle.sum_rows.specs.declared.report.Verdict.{Verdict}
use Rattle.sc_typed.specs.declared.program.Program.{Program}
use Rattle.plan_core.specs.Graph.{IsGraph, IsPlan, plan_of, callees, kept_callees}
use Rattle.program_plan.proofs.CallRows.{rows_are_graph}
use Rattle.program_verdicts.specs.CallGraph.{plan, row, rows}
use Rattle.program_verdicts.specs.Verdicts.{verdict_in, verdicts, kept_of}
use Rattle.work_pool.specs.Outputs.{outputs_of}

-- the plan is one, by the law that plans of call graphs are
pub plan_is_plan : ((rows : List (List ℕ)) → IsGraph rows → IsPlan (plan_of rows).callees) → (p : Program) → length p.functions < 2 ^ 32
    → IsPlan (plan p).callees
plan_is_plan law p few = law (rows p) (rows_are_graph p few)

as_many : (p : Program) → length (plan p).callees ≡ length p.functions
as_many p =
    length-map-range_with_len (kept_callees (rows p)) 0 (length (rows p)) ∙ length-map-range_with_len (row p) 0 (length p.functions)

pub outputs_are_verdicts : (p : Program) (depth reach : ℕ) (made : List Verdict)
    → made ≡ outputs_of (verdict_in p depth reach) (length (plan p).callees) → made ≡ verdicts p depth reach
outputs_are_verdicts p depth reach made is = is ∙ ap (λ n. outputs_of (verdict_in p depth reach) n) (as_many p)

-- the kept callees of a function stand in its row of the plan
pub callees_are_kept : (p : Program) (f : ℕ) → f < length (plan p).callees → callees (plan p).callees f ≡ kept_of p f
callees_are_kept p f inside =
    let many : length (plan p).callees ≡ length (rows p) = length-map-range_with_len (kept_callees (rows p)) 0 (length (rows p)) in
    get_or-map-range_with_len (kept_callees (rows p)) 0 (length (rows p)) f f [] (omega (arith, inside, many)) (omega arith)
