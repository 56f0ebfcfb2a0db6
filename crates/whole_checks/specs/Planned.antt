-- The typed program of the files with its plan; or what is said of them in place of a text.
use Rattle.std.specs.Prelude.{◌≡◌, ⊤, ℕ, ◌<◌, ◌^◌, true, nat_le, length}
use Rattle.plan_core.specs.declared.plan.Plan.{Plan}
use Rattle.sc_typed.specs.declared.program.Program.{Program}
use Rattle.sc_check.specs.Typed.{Sources, Typed, typed}
use Rattle.program_plan.specs.Planned.{edges_of, most_edges}
use Rattle.program_verdicts.specs.CallGraph as graph
use Rattle.whole_checks.specs.declared.planning.NoPlan.{NoPlan}
use Rattle.whole_checks.specs.declared.planning.NoPlan.TheVariants as no_plan
use Rattle.whole_checks.specs.Said.{Twice, Beyond, said}

-- The typed program of the files, with its plan, where a text is said.
pub record IsPlanned (s : Sources) (p : Program) (found : Plan) : Type 0 where
  pub typed : typed s ≡ Typed p
  pub few : length p.functions < 2 ^ 32
  pub edges : nat_le (edges_of p) most_edges ≡ true
  pub plan : found ≡ graph.plan p

-- what is said of the files in place of a text, for each depth and each reach; of memory that was refused nothing
abbrev pub Says : Sources → NoPlan → Type 0
Says s (no_plan.Twice name) = (depth reach : ℕ) → said s depth reach ≡ Twice name.items
Says s (no_plan.Beyond kind count) = (depth reach : ℕ) → said s depth reach ≡ Beyond kind count
Says s no_plan.OutOfMemory = ⊤
