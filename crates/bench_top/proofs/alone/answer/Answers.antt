use Rattle.std.proofs.Common.{rules, ◌≡◌, List, map, subst, string_bytes, String}
use Rattle.std.specs.declared.alloc.Global.{Global}
use Rattle.std.proofs.lemmas.Result.{IfOk-weaker}
use Rattle.top_answers.specs.Seen.{seen}
use Rattle.bench_top.specs.Bench.{Ask, found}
use Rattle.bench_top.proofs.alone.answer.Goals as goal

pub returns-in-Ok : goal.returns-in-Ok
returns-in-Ok c =
    let same : c.as_slice.result.now ≡ c.args.words.now.items = search rules in
    let P : List (String Global) → Type 0 = λ words. Ask (map string_bytes words) c.in-Ok.asked in
    let ask : Ask (map string_bytes c.args.words.now.items) c.in-Ok.asked = subst P same c.in-Ok.ensures.asked in
    IfOk-weaker c.answer_of.result _ _ (λ answer is. found c.in-Ok.asked (seen answer) ask is)
    (c.answer_of.ensures c.in-Ok.asked.functions c.in-Ok.asked.seed c.lines_alone.ensures.lines c.lines_alone.ensures.none)
