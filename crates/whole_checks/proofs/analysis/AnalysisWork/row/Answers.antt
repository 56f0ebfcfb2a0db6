use Rattle.std.proofs.Common.{rules, ◌≡◌, ◌<◌, ◌∙◌, ℕ, List, length, map, sym, subst, ap}
use Rattle.std.specs.Arc.{arc_value}
use Rattle.std.proofs.lemmas.Result.{IfOk-weaker}
use Rattle.sum_rows.specs.declared.report.Verdict.{Verdict}
use Rattle.plan_core.specs.declared.plan.Plan.{Plan}
use Rattle.plan_core.specs.Graph.{callees}
use Rattle.program_verdicts.specs.CallGraph as graph
use Rattle.program_verdicts.specs.Verdicts.{verdict_in, verdict_given, kept_of}
use Rattle.whole_checks.proofs.Plans.{callees_are_kept}
use Rattle.whole_checks.proofs.analysis.AnalysisWork.row.Goals as goal

pub returns : goal.returns
returns c =
    let p = c.args.self.now.program.now in
    let f = c.args.function in
    let defined = verdict_in p c.args.self.now.depth c.args.self.now.reach in
    let same : c.args.self.now.plan.now ≡ graph.plan p = c.args.self.now.planned in
    let P : Plan → Type 0 = λ q. f < length q.callees in
    let inside : f < length (graph.plan p).callees = subst P same c.requires.inside in
    let kept : callees c.args.self.now.plan.now.callees f ≡ kept_of p f =
    ap (λ (q : Plan). callees q.callees f) same ∙ callees_are_kept p f inside in
    let row : c.callees_of.result.now ≡ kept_of p f = c.callees_of.ensures ∙ kept in
    let shared : c.as_slice.result.now ≡ c.args.given.now.list.items = search rules in
    let copied : c.as_slice-2.result.now ≡ c.in_ok-verdicts.verdicts.items = search rules in
    let given : c.as_slice-2.result.now ≡ map defined (kept_of p f) =
    copied ∙ (c.in_ok-verdicts.ensures ∙ (ap (map arc_value) shared ∙ (c.requires.given ∙ ap (map defined) kept))) in
    let Q : List ℕ → Type 0 = λ ks. (v : Verdict) → v ≡ verdict_given p c.args.self.now.depth c.args.self.now.reach f ks (map defined (kept_of p f)) → v ≡ defined f in
    let made : Q (kept_of p f) = λ v is. is ∙ sym (c.verdicts_by_callees.ensures.made p c.args.self.now.depth c.args.self.now.reach f) in
    let R : List Verdict → Type 0 = λ vs. (v : Verdict) → v ≡ verdict_given p c.args.self.now.depth c.args.self.now.reach f c.callees_of.result.now vs → v ≡ defined f in
    IfOk-weaker c.analyse.result _ _ (subst R (sym given) (subst Q (sym row) made)) c.analyse.ensures
