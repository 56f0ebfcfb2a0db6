use Rattle.std.proofs.Common.{Bool, List, [], ◌∷◌, ◌++◌, subst, sym, ap, ◌∙◌}
use Rattle.sat_base.specs.declared.literal.Lit.{Lit}
use Rattle.net_goals.specs.Clauses.{lit_of}
use Rattle.net_goals.specs.Cones.{IsCone}
use Rattle.net_goals.proofs.Numbering.{is_goal}
use Rattle.net_goals.proofs.goals.goal_of.Goals as goal

pub returns-clause-goal : goal.returns-clause-goal
returns-clause-goal c =
    let ns = c.args.net.now in
    let marks = c.as_slice.result.now in
    let m = c.in_ok-making.making in
    let cone = subst (λ (ms : List Bool). IsCone ns c.args.gate.at ms) (sym c.as_slice.ensures.value) c.in_ok-marks.ensures in
    let is_last = c.lit_at-last.ensures ∙ ap (λ (ls : List Lit). lit_of ls c.args.gate.at) c.as_slice-2.ensures.value in
    is_goal ns c.args.inputs marks c.args.gate.at m _ cone c.in_ok-making.ensures (c.in_ok-put.ensures ∙ ap (λ (l : Lit). m.clauses ++ (l ∷ []) ∷ []) is_last)
