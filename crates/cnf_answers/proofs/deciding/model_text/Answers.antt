use Rattle.std.proofs.Common.{◌≡◌, ◌∙◌, List, sym, subst}
use Rattle.sat_base.specs.declared.literal.Lit.{Lit}
use Rattle.sat_base.specs.Logic.{LitsBelow}
use Rattle.cnf_answers.proofs.ModelLemmas.{true_lits_below}
use Rattle.cnf_answers.proofs.deciding.model_text.Goals as goal

pub values_text-requires : goal.values_text-requires
values_text-requires c =
    let P : List Lit → Type 0 = λ ls. LitsBelow c.vars-vars.result ls in
    subst P (sym (c.deref.ensures.value ∙ c.in_ok-lits.ensures))
    (true_lits_below c.vars-vars.result c.args.solver.now.found (c.requires.size ∙ sym c.vars-vars.ensures))
