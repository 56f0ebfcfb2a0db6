-- The verdicts of a program: each is made of the verdicts of its kept callees.
use Rattle.std.specs.Prelude.{◌≡◌, ℕ, ◌+◌, ◌*◌, Option, Some, None, List, map, slice_get, length}
use Rattle.sc_base.specs.declared.skip.Skip.TheVariants as skip
use Rattle.sc_base.specs.declared.skip.LimitKind.TheVariants as limit
use Rattle.sc_base.specs.declared.pos.NameId.{NameId}
use Rattle.sum_rows.specs.declared.report.Verdict.{Verdict}
use Rattle.sum_rows.specs.declared.report.Verdict.TheVariants as verdict
use Rattle.sc_typed.specs.declared.program.Program.{Program}
use Rattle.sc_typed.specs.declared.program.Function.{Function}
use Rattle.sc_typed.specs.declared.program.Param.{Param}
use Rattle.sc_typed.specs.declared.program.TBody.{TBody}
use Rattle.sc_typed.specs.declared.program.TBody.TheVariants as body
use Rattle.plan_core.specs.Graph.{kept_callees}
use Rattle.sc_world.specs.Layout.{Layout}
use Rattle.sc_world.specs.Paths.{Texts}
use Rattle.sc_world.specs.Programs.{source}
use Rattle.sc_world.specs.Verdict.{verdict_of}
use Rattle.program_verdicts.specs.CallGraph.{functions, rows}
use Rattle.program_verdicts.specs.Outputs.{output}

abbrev pub names_of : List Param → List NameId
names_of ps = map (λ (p : Param). p.name) ps

-- what the texts of a function's locations read
abbrev pub texts : Program → Function → Layout → Texts
texts p f layout =
    record {
      names = p.names;
      params = names_of f.params;
      globals = map (λ g. g.name) p.globals;
      locals = names_of f.locals;
      layout = layout;
    }

-- a function whose body is not taken is skipped for that
abbrev pub unless_skipped : TBody → Verdict → Verdict
unless_skipped (body.Skipped s) v = verdict.Skipped s
unless_skipped (body.Tree t) v = v

-- what stands for the verdict of a function that there is not
abbrev pub no_verdict : Verdict
no_verdict = verdict.Skipped (skip.Limit limit.Functions 0)

-- the verdict of a function, given its kept callees, ascending, and the verdict of each
abbrev pub verdict_by : Program → (depth reach : ℕ) → ℕ → (kept : List ℕ) → List Verdict → Option Function → Verdict
verdict_by p depth reach f kept vs None = no_verdict
verdict_by p depth reach f kept vs (Some g) = unless_skipped g.body (verdict_of (source p f kept vs depth reach) (texts p g))

abbrev pub verdict_given : Program → (depth reach : ℕ) → ℕ → (kept : List ℕ) → List Verdict → Verdict
verdict_given p depth reach f kept vs = verdict_by p depth reach f kept vs (slice_get p.functions f)

-- the callees of a function to which its edge is kept, ascending
abbrev pub kept_of : Program → ℕ → List ℕ
kept_of p f = kept_callees (rows p) f

-- more steps than any chain of kept edges has
abbrev pub steps : Program → ℕ
steps p = length p.functions * length p.functions + length p.functions + 1

-- The verdict of a function: by the verdicts of its kept callees, of theirs, and so on. That the number of steps is
-- enough is a law.
abbrev pub verdict_in : Program → (depth reach : ℕ) → ℕ → Verdict
verdict_in p depth reach f =
    output (λ g vs. verdict_given p depth reach g (kept_of p g) vs) no_verdict (kept_of p) (steps p) f

-- the verdicts of all functions, in the order of the program
abbrev pub verdicts : Program → (depth reach : ℕ) → List Verdict
verdicts p depth reach = map (verdict_in p depth reach) (functions p)

-- whether each verdict is made of those of the kept callees
abbrev pub AreVerdicts : Program → (depth reach : ℕ) → (ℕ → Verdict) → Type 0
AreVerdicts p depth reach v = (f : ℕ) → v f ≡ verdict_given p depth reach f (kept_of p f) (map v (kept_of p f))
