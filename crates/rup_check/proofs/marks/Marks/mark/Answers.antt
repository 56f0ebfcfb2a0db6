-- A literal more, and its bit.
use Rattle.std.proofs.Common.{◌≡◌, ◌<◌, ℕ, true, not, List, set, sym, subst, ap, ◌∙◌}
use Rattle.std.specs.List.{Contains, count_by}
use Rattle.std.proofs.lemmas.Bool.{false≢true}
use Rattle.sat_base.specs.declared.literal.Lit.{Lit}
use Rattle.rup_check.specs.Marking.{place, MarksState, IsMarks, IsMarked}
use Rattle.rup_check.proofs.MarkingLemmas.{marks_push, is_marked-push}
use Rattle.rup_check.proofs.marks.Marks.mark.Goals as goal

pub invariant_of-self-2 : goal.invariant_of-self-2
invariant_of-self-2 c =
    let low : c.args.lit.var < c.self.inside.vars = subst (λ (m : MarksState). c.args.lit.var < m.vars) (sym c.self.view_is) c.requires in
    subst (λ (p : ℕ). IsMarks c.self.inside.vars (set c.self.inside.bits.items p true) c.push.new.self.items) (sym c.place.ensures)
    (subst (λ (ls : List Lit). IsMarks c.self.inside.vars (set c.self.inside.bits.items (place c.args.lit) true) ls) (sym c.in_ok-push.ensures.items)
    (marks_push c.self.inside.vars c.self.inside.bits.items c.self.inside.trail.items c.args.lit c.self.invariant low))

pub returns-clause-ok : goal.returns-clause-ok
returns-clause-ok c =
    let low : c.args.lit.var < c.self.inside.vars = subst (λ (m : MarksState). c.args.lit.var < m.vars) (sym c.self.view_is) c.requires in
    let seen : c.self.inside.trail.items ≡ c.args.self.now.lits = ap (λ (m : MarksState). m.lits) c.self.view_is in
    let vars = c.self.inside.vars in
    let bits = c.self.inside.bits.items in
    subst
    (λ (m : MarksState). IsMarked m (record { vars = vars; lits = c.push.new.self.items; unmarked = count_by (λ b. not b) (set bits c.place.result true) })
    c.args.lit)
    c.self.view_is
    (subst
    (λ (p : ℕ). IsMarked (record { vars = vars; lits = c.self.inside.trail.items; unmarked = count_by (λ b. not b) bits })
    (record { vars = vars; lits = c.push.new.self.items; unmarked = count_by (λ b. not b) (set bits p true) }) c.args.lit)
    (sym c.place.ensures)
    (subst
    (λ (ls : List Lit). IsMarked (record { vars = vars; lits = c.self.inside.trail.items; unmarked = count_by (λ b. not b) bits })
    (record { vars = vars; lits = ls; unmarked = count_by (λ b. not b) (set bits (place c.args.lit) true) }) c.args.lit)
    (sym c.in_ok-push.ensures.items)
    (is_marked-push vars bits c.self.inside.trail.items c.args.lit c.self.invariant low
    (λ h. false≢true (sym c.if-has.false ∙ c.has.ensures.1 (subst (λ (ls : List Lit). Contains ls c.args.lit) seen h))))))
