-- The bit of the literal.
use Rattle.std.proofs.Common.{◌≡◌, ◌<◌, true, List, sym, subst, ap}
use Rattle.std.specs.List.{Contains}
use Rattle.sat_base.specs.declared.literal.Lit.{Lit}
use Rattle.rup_check.specs.Marking.{MarksState}
use Rattle.rup_check.proofs.MarkingLemmas.{has_from}
use Rattle.rup_check.proofs.marks.Marks.has.Goals as goal

pub returns : goal.returns
returns c =
    let seen : c.self.inside.trail.items ≡ c.args.self.now.lits = ap (λ (m : MarksState). m.lits) c.self.view_is in
    let low : c.args.lit.var < c.self.inside.vars = subst (λ (m : MarksState). c.args.lit.var < m.vars) (sym c.self.view_is) c.requires in
    subst (λ (ls : List Lit). (c.index.result.now ≡ true → Contains ls c.args.lit) × (Contains ls c.args.lit → c.index.result.now ≡ true)) seen
    (has_from c.self.inside.vars c.self.inside.bits.items c.self.inside.trail.items c.args.lit c.place.result c.index.result.now c.self.invariant low
    c.index.ensures c.place.ensures)
