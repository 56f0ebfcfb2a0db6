use Rattle.std.proofs.Common.{◌≡◌, ◌∙◌, ◌<◌, not, List, [], ◌∷◌, ◌++◌, length, sym, ap, arith}
use Rattle.sat_base.specs.declared.literal.Lit.{Lit}
use Rattle.cnf_answers.proofs.ModelLemmas.{lit_more}
use Rattle.cnf_answers.proofs.solver.true_lits.Goals as goal

pub loop-var-preserved : goal.loop-var-preserved
loop-var-preserved c =
    let small : c.loop-var.var < length c.args.solver.now.found = omega (arith, c.loop-var-test.true, c.requires) in
    let lit : Lit = record { var = c.loop-var.var; neg = not c.model-neg.result } in
    c.in_ok-push.ensures.items ∙ ap (λ (ls : List Lit). ls ++ lit ∷ []) c.loop-var.invariant
    ∙ sym (lit_more c.loop-var.var c.args.solver.now.found (not c.model-neg.result) small (ap not c.model-neg.ensures))
