use Rattle.std.proofs.Common.{ℕ, Result, IfOk, IfErr, Vec, subst}
use Rattle.std.specs.declared.alloc.Global.{Global}
use Rattle.std.proofs.lemmas.Result.{IfOk-weaker}
use Rattle.top_answers.specs.Seen.{seen}
use Rattle.bench_checks.specs.declared.program.NoProgram.{NoProgram}
use Rattle.bench_checks.specs.Bench.{AreLines, HasNoProgram}
use Rattle.bench_top.specs.Bench.{counted, refused}
use Rattle.bench_top.proofs.found.answer_of.Goals as goal

pub returns-in-Ok : goal.returns-in-Ok
returns-in-Ok c count seed lines none =
    let P : Result (Vec ℕ Global) NoProgram → Type 0 = λ r. IfOk r (λ t. AreLines count seed t.items) in
    counted _ (subst P c.in-Ok.is lines)

pub returns-in-Err : goal.returns-in-Err
returns-in-Err c count seed lines none =
    let P : Result (Vec ℕ Global) NoProgram → Type 0 = λ r. IfErr r (HasNoProgram count seed) in
    IfOk-weaker c.without_program.result _ _ (λ answer is. refused c.in-Err.why (seen answer) (subst P c.in-Err.is none) is)
    c.without_program.ensures
