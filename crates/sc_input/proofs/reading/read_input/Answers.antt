use Rattle.std.proofs.Common.{◌≡◌, ◌≤◌, ℕ, List, Option, Ok, Err, map, option_map, length, arith, sym, subst}
use Rattle.std.specs.Borrow.{Bor}
use Rattle.std.proofs.lemmas.List.{length-map}
use Rattle.std.proofs.lemmas.Result.{err_from_is_err_and}
use Rattle.sc_input.specs.declared.input.Input.{Input}
use Rattle.sc_input.specs.Input.{most_files, so_far, Outside, Answers}
use Rattle.sc_input.proofs.Growing.{answers_behind}
use Rattle.sc_input.proofs.reading.read_input.Goals as goal

pub returns-in_err-reading-clause-answers : goal.returns-in_err-reading-clause-answers
returns-in_err-reading-clause-answers g c =
    let p = err_from_is_err_and c.from_residual-in_err-reading.result c.from_residual-in_err-reading.ensures.1 in
    let step : Outside = record {
      held = g.F.Files.held c.begun.new.files;
      firm = g.F.Files.firm c.begun.new.files;
      faults_before = g.F.Files.faults c.begun.new.files;
      faults_after = g.F.Files.faults c.with_files.new.files;
    } in
    let all : Outside = record {
      held = g.F.Files.held c.args.files.now;
      firm = g.F.Files.firm c.args.files.now;
      faults_before = g.F.Files.faults c.args.files.now;
      faults_after = g.F.Files.faults c.with_files.new.files;
    } in
    let machine : Option (List ℕ) = option_map (λ (name : Bor (List ℕ)). name.now) c.args.machine in
    let names : List (List ℕ) = map (λ (name : Bor (List ℕ)). name.now) c.args.named.now in
    let few : length names ≤ most_files =
    omega (arith, length-map c.args.named.now (λ (name : Bor (List ℕ)). name.now), c.if-named-gt-MOST_FILES.false) in
    let stops = answers_behind step all machine names (so_far c.in_ok-start.start) (Err c.in_err-reading.field-0.0) c.begun.ensures.held
    c.begun.ensures.firm c.begun.ensures.later (omega arith) few c.in_ok-start.ensures.begins tt c.in_err-reading.ensures.stops in
    rw (p.1, p.2) stops

pub returns-clause-answers : goal.returns-clause-answers
returns-clause-answers g c =
    let step : Outside = record {
      held = g.F.Files.held c.begun.new.files;
      firm = g.F.Files.firm c.begun.new.files;
      faults_before = g.F.Files.faults c.begun.new.files;
      faults_after = g.F.Files.faults c.with_files.new.files;
    } in
    let all : Outside = record {
      held = g.F.Files.held c.args.files.now;
      firm = g.F.Files.firm c.args.files.now;
      faults_before = g.F.Files.faults c.args.files.now;
      faults_after = g.F.Files.faults c.with_files.new.files;
    } in
    let machine : Option (List ℕ) = option_map (λ (name : Bor (List ℕ)). name.now) c.args.machine in
    let names : List (List ℕ) = map (λ (name : Bor (List ℕ)). name.now) c.args.named.now in
    let few : length names ≤ most_files =
    omega (arith, length-map c.args.named.now (λ (name : Bor (List ℕ)). name.now), c.if-named-gt-MOST_FILES.false) in
    let read : Answers all machine names (Ok (so_far c.in_ok-reading.reading)) =
    answers_behind step all machine names (so_far c.in_ok-start.start) (Ok (so_far c.in_ok-reading.reading)) c.begun.ensures.held
    c.begun.ensures.firm c.begun.ensures.later (omega arith) few c.in_ok-start.ensures.begins c.in_ok-reading.ensures.read tt in
    subst (λ (input : Input). Answers all machine names (Ok input)) (sym c.in_ok-into_input.ensures) read
