use Rattle.std.proofs.Common.{rules, ◌≡◌, ℕ, List, map, sym, subst}
use Rattle.std.specs.Borrow.{Bor}
use Rattle.std.proofs.lemmas.Result.{IfOk-weaker}
use Rattle.sc_input.specs.Input.{Outside, IsInput, Refuse}
use Rattle.top_answers.specs.Answer.{Due}
use Rattle.top_answers.specs.Promises.{around}
use Rattle.run_top.specs.Runs.{machine_of, files_of, IsFound, refused, read}
use Rattle.top_answers.specs.Seen.{seen}
use Rattle.run_top.proofs.Machines.{input_whole}
use Rattle.run_top.proofs.running.find.Goals as goal

pub answer_for-requires : goal.answer_for-requires
answer_for-requires g c =
    record { whole = input_whole _ _ _ c.in-Ok.input (c.whole_machines.ensures.files, c.whole_machines.ensures.lock) c.in-Ok.ensures.answers }

pub returns-in-Ok : goal.returns-in-Ok
returns-in-Ok g c =
    let outside : Outside = around (g.F.Files.held c.args.files.now) (g.F.Files.firm c.args.files.now) (g.F.Files.faults c.args.files.now) (g.F.Files.faults c.read_input.new.files) in
    let same : c.as_slice.result.now ≡ c.args.asked.now.options.files.items = search rules in
    let P : List (Bor (List ℕ)) → Type 0 =
    λ names. IsInput outside.held (machine_of c.args.asked.now.options) (map (λ name. name.now) names) c.in-Ok.input in
    let input : IsInput outside.held (machine_of c.args.asked.now.options) (files_of c.args.asked.now.options) c.in-Ok.input =
    subst P same c.in-Ok.ensures.answers in
    let Q : Due → Type 0 = λ due. IsFound c.args.asked.now outside due in
    IfOk-weaker c.answer_for.result _ _ (λ answer is. subst Q (sym is) (read c.in-Ok.input input)) c.answer_for.ensures

pub returns-in-Err : goal.returns-in-Err
returns-in-Err g c =
    let outside : Outside = around (g.F.Files.held c.args.files.now) (g.F.Files.firm c.args.files.now) (g.F.Files.faults c.args.files.now) (g.F.Files.faults c.read_input.new.files) in
    let same : c.as_slice.result.now ≡ c.args.asked.now.options.files.items = search rules in
    let P : List (Bor (List ℕ)) → Type 0 =
    λ names. Refuse outside (machine_of c.args.asked.now.options) (map (λ name. name.now) names) c.in-Err.why in
    let refuses : Refuse outside (machine_of c.args.asked.now.options) (files_of c.args.asked.now.options) c.in-Err.why =
    subst P same c.in-Err.ensures.answers in
    IfOk-weaker c.refused.result _ _ (λ answer is. refused c.in-Err.why (seen answer) refuses is) c.refused.ensures
