-- One bit after the other.
use Rattle.std.proofs.Common.{◌+◌, ℕ, false, set, get_or, sym, subst, arith}
use Rattle.rup_check.proofs.MarkingLemmas.{IsClearing, low_at, place_below, clearing_none, clearing_more, clearing_all}
use Rattle.rup_check.proofs.marks.clear_bits.Goals as goal

pub place-requires : goal.place-requires
place-requires c =
    let low = low_at c.args.vars c.args.lits.now c.loop-lit.lit-index (record { var = 0; neg = false }) c.requires.below c.loop-lit-test.true in
    let size = c.loop-lit.invariant.size in
    omega (arith, low, size, c.loop-lit.bits.ok.0)

pub index_mut-requires : goal.index_mut-requires
index_mut-requires c =
    let lit = get_or c.args.lits.now c.loop-lit.lit-index (record { var = 0; neg = false }) in
    let low = low_at c.args.vars c.args.lits.now c.loop-lit.lit-index (record { var = 0; neg = false }) c.requires.below c.loop-lit-test.true in
    let at = place_below lit c.args.vars low in
    let size = c.loop-lit.invariant.size in
    let is = c.place.ensures in
    omega (arith, at, size, is, c.loop-lit.bits.ok.0)

pub loop-lit-init : goal.loop-lit-init
loop-lit-init c = clearing_none c.args.vars c.args.bits.now.items c.args.lits.now c.requires

pub loop-lit-preserved : goal.loop-lit-preserved
loop-lit-preserved c =
    subst (λ (p : ℕ). IsClearing c.args.vars (set c.loop-lit.bits.items p false) c.args.lits.now (c.loop-lit.lit-index + 1)) (sym c.place.ensures)
    (clearing_more c.args.vars c.loop-lit.bits.items c.args.lits.now c.loop-lit.lit-index (record { var = 0; neg = false }) c.loop-lit-test.true
    c.requires.below c.loop-lit.invariant)

pub returns : goal.returns
returns c =
    clearing_all c.args.vars c.loop-lit.bits.items c.args.lits.now c.loop-lit.lit-index (omega (arith, c.loop-lit-test.false)) c.loop-lit.invariant
