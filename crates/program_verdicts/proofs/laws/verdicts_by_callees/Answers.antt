-- Along kept edges a rank falls, and there are more steps than ranks.
use Rattle.std.proofs.Common.{ℕ, ◌+◌, ◌*◌, ◌<◌, length, subst}
use Rattle.std.proofs.lemmas.List.FromFn.{length-map-range_with_len}
use Rattle.sc_typed.specs.declared.program.Program.{Program}
use Rattle.program_verdicts.specs.CallGraph.{functions, rows, row}
use Rattle.program_verdicts.specs.Verdicts.{verdict_in, verdict_given, no_verdict, kept_of, steps}
use Rattle.program_verdicts.proofs.Chains.{made_of, only_one, map_all}
use Rattle.program_verdicts.proofs.Ranks.{rank, rank_below, falls}
use Rattle.program_verdicts.proofs.laws.verdicts_by_callees.Goals as goal

below : (p : Program) (f : ℕ) → rank (rows p) f < steps p
below p f =
    subst (λ n. rank (rows p) f < n * n + n + 1) (length-map-range_with_len (row p) 0 (length p.functions)) (rank_below (rows p) f)

pub returns-clause-made : goal.returns-clause-made
returns-clause-made c p depth reach =
    made_of (λ g vs. verdict_given p depth reach g (kept_of p g) vs) no_verdict (kept_of p) (rank (rows p))
    (falls (rows p) (c.reaching.ensures.walks (rows p))) (steps p) (below p)

pub returns-clause-only : goal.returns-clause-only
returns-clause-only c p depth reach v are =
    only_one (λ g vs. verdict_given p depth reach g (kept_of p g) vs) no_verdict (kept_of p) (rank (rows p))
    (falls (rows p) (c.reaching.ensures.walks (rows p))) v are (steps p) (below p)

pub returns-clause-listed : goal.returns-clause-listed
returns-clause-listed c p depth reach v are =
    map_all v (verdict_in p depth reach) (returns-clause-only c p depth reach v are) (functions p)
