-- Why the one file in memory was not read.
use Rattle.std.proofs.Common.{◌≡◌, ℕ, List, [], Option, Some, None, Result, Ok, Err, IfErr, subst}
use Rattle.sc_base.specs.Memory.{FilesInMemory, firm_names}
use Rattle.sc_input.specs.declared.input.Input.{Input}
use Rattle.sc_input.specs.declared.refusal.Refusal.{Refusal}
use Rattle.sc_input.specs.Input.{Outside, Answers, Refuse}
use Rattle.bench_checks.specs.Bench.{bench_files, bench_names, bench_outside, IsRefused}

-- that file, before it is read
abbrev pub unread : (count seed : ℕ) → FilesInMemory
unread count seed = record { held = bench_files count seed; failing = []; calls = 0; faults = 0; left = None }

of_err : (outside : Outside) (machine : Option (List ℕ)) (ns : List (List ℕ)) (result : Result Input Refusal)
    → Answers outside machine ns result → IfErr result (Refuse outside machine ns)
of_err outside machine ns (Ok input) is = tt
of_err outside machine ns (Err why) is = is

refused : (count seed faults : ℕ) (result : Result Input Refusal)
    → IfErr result (Refuse (bench_outside count seed faults) None bench_names)
    → IfErr result (IsRefused count seed)
refused count seed faults (Ok input) is = tt
refused count seed faults (Err why) is = (faults, is)

-- these files in memory, of which the count of faults rose so far
abbrev around : FilesInMemory → (faults : ℕ) → Outside
around before faults =
    record { held = Some before.held; firm = firm_names before; faults_before = before.faults; faults_after = faults }

pub is_refused : (count seed : ℕ) (before : FilesInMemory) (faults : ℕ) (result : Result Input Refusal) → before ≡ unread count seed
    → Answers (around before faults) None bench_names result → IfErr result (IsRefused count seed)
is_refused count seed before faults result is answers =
    let P : FilesInMemory → Type 0 = λ b. Answers (around b faults) None bench_names result in
    refused count seed faults result (of_err (around (unread count seed) faults) None bench_names result (subst P is answers))
