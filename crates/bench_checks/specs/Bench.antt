-- The check of a generated program: the generated text is the one file of a check without a machine of states, with the
-- widths of ILP32, depth 2 and reach 2. What is told of it are the seven lines of counts; or the first reason why there
-- are none, which is that of a check.
use Rattle.std.specs.Prelude.{◌≡◌, ⊤, ℕ, List, [], ◌∷◌, Some, None, codes}
use Rattle.plan_core.specs.declared.plan.Plan.{Plan}
use Rattle.bench_programs.specs.Programs.{bench_text}
use Rattle.sc_input.specs.declared.input.Input.{Input}
use Rattle.sc_input.specs.declared.refusal.Refusal.{Refusal}
use Rattle.sc_input.specs.Input.{Outside, IsInput, Refuse}
use Rattle.sc_tree.specs.declared.ctype.Widths.TheVariants.{Ilp32}
use Rattle.sc_typed.specs.declared.program.Program.{Program}
use Rattle.whole_checks.specs.Typed.{Sources}
use Rattle.program_verdicts.specs.Verdicts.{verdicts}
use Rattle.whole_checks.specs.Said.{Twice, Beyond, said}
use Rattle.whole_checks.specs.Planned.{IsPlanned}
use Rattle.check_counts.specs.Counts.{counts_of, counts_text}
use Rattle.bench_checks.specs.declared.program.NoProgram.{NoProgram}
use Rattle.bench_checks.specs.declared.program.NoProgram.TheVariants as no

-- ---- the files

-- the name of the file
abbrev pub bench_file : List ℕ
bench_file = codes "bench.c"

-- the names of the files that are read
abbrev pub bench_names : List (List ℕ)
bench_names = bench_file ∷ []

-- the files, with their bytes
abbrev pub bench_files : (count seed : ℕ) → List (List ℕ × List ℕ)
bench_files count seed = (bench_file, bench_text count seed) ∷ []

-- the same, of which no call fails: every name is firm
abbrev pub bench_outside : (count seed faults : ℕ) → Outside
bench_outside count seed faults =
    record { held = Some (bench_files count seed); firm = bench_names; faults_before = 0; faults_after = faults }

-- ---- the program

-- the trees of the file
abbrev pub IsRead : (count seed : ℕ) → Input → Type 0
IsRead count seed input = IsInput (Some (bench_files count seed)) None bench_names input

-- why the file gives none
abbrev pub IsRefused : (count seed : ℕ) → Refusal → Type 0
IsRefused count seed why = (faults : ℕ) × Refuse (bench_outside count seed faults) None bench_names why

-- what is checked
abbrev pub sources_of : Input → Sources
sources_of input = record { names = input.names; files = input.files; units = input.units; widths = Ilp32; machine = None }

-- the typed program, with its plan
pub record IsGenerated (count seed : ℕ) (p : Program) (plan : Plan) : Type 0 where
  pub input : Input
  pub read : IsRead count seed input
  pub planned : IsPlanned (sources_of input) p plan

-- why these trees give no program with a plan
abbrev pub Lacks : Sources → NoProgram → Type 0
Lacks s (no.Refused why) = ⊥
Lacks s (no.Twice name) = (depth reach : ℕ) → said s depth reach ≡ Twice name.items
Lacks s (no.Beyond kind count) = (depth reach : ℕ) → said s depth reach ≡ Beyond kind count
Lacks s no.OutOfMemory = ⊤

-- Why there is none. Of memory that was refused nothing is said.
abbrev pub HasNoProgram : (count seed : ℕ) → NoProgram → Type 0
HasNoProgram count seed (no.Refused why) = IsRefused count seed why
HasNoProgram count seed (no.Twice name) = (input : Input) × IsRead count seed input × Lacks (sources_of input) (no.Twice name)
HasNoProgram count seed (no.Beyond kind n) = (input : Input) × IsRead count seed input × Lacks (sources_of input) (no.Beyond kind n)
HasNoProgram count seed no.OutOfMemory = ⊤

-- ---- the counts

-- the seven lines of a typed program, at depth 2 and reach 2
unfoldable pub counts_lines : Program → List ℕ
counts_lines p = counts_text (counts_of (verdicts p 2 2))

-- the lines of the generated program
abbrev pub AreLines : (count seed : ℕ) → List ℕ → Type 0
AreLines count seed lines =
    (p : Program) × (plan : Plan) × IsGenerated count seed p plan × (lines ≡ counts_lines p)
