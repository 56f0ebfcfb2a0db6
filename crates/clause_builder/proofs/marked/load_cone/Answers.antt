-- The cone is marked, its gates are loaded, and the gate is one of them.
use Rattle.std.proofs.Common.{length, ap, ◌∙◌, arith}
use Rattle.clause_builder.specs.Cones.{is_marked}
use Rattle.clause_builder.proofs.Extension.{loaded_same, keeps_same}
use Rattle.clause_builder.proofs.marked.load_cone.Goals as goal

pub returns-in_err-reserve-clause-kept : goal.returns-in_err-reserve-clause-kept
returns-in_err-reserve-clause-kept g c a l at = c.reserve.ensures.same a ∙ at

pub cone-requires-clause-lits : goal.cone-requires-clause-lits
cone-requires-clause-lits g c = rw c.as_slice-front.ensures.value c.in_ok-reserve.ensures.room

pub returns-in_err-marks-clause-kept : goal.returns-in_err-marks-clause-kept
returns-in_err-marks-clause-kept g c a l at = c.reserve.ensures.same a ∙ at

pub load_marked-requires-clause-loaded : goal.load_marked-requires-clause-loaded
load_marked-requires-clause-loaded g c = loaded_same _ _ _ _ _ c.reserve.ensures.same c.requires.loaded

pub load_marked-requires-clause-room : goal.load_marked-requires-clause-room
load_marked-requires-clause-room g c =
    let wide = c.in_ok-marks.ensures.width in
    let room = c.in_ok-reserve.ensures.room in
    let same = ap length c.as_slice-marked.ensures.value in omega (arith, wide, room, same)

pub load_marked-requires-clause-gates : goal.load_marked-requires-clause-gates
load_marked-requires-clause-gates g c =
    let wide = c.in_ok-marks.ensures.width in
    let inside = c.requires.gate in
    let same = ap length c.as_slice-marked.ensures.value in omega (arith, wide, inside, same)

pub load_marked-requires-clause-closed : goal.load_marked-requires-clause-closed
load_marked-requires-clause-closed g c =
    let wide = c.in_ok-marks.ensures.width in
    let cone = rw c.as_slice-front.ensures.value at c.in_ok-marks.ensures in
    rw c.as_slice-marked.ensures.value (λ a less. cone.closed a (omega (arith, less, wide)))

pub returns-in_err-load_marked-clause-kept : goal.returns-in_err-load_marked-clause-kept
returns-in_err-load_marked-clause-kept g c = keeps_same _ _ _ c.reserve.ensures.same c.load_marked.ensures.kept

pub loaded_lit-requires : goal.loaded_lit-requires
loaded_lit-requires g c =
    let wide = c.in_ok-marks.ensures.width in
    let same = ap length c.as_slice-marked.ensures.value in
    let top = ap (λ ms. is_marked ms c.args.gate.at) c.as_slice-marked.ensures.value ∙ c.in_ok-marks.ensures.top in
    rw c.as_slice-all.ensures.value (c.in_ok-load_marked.ensures.all c.args.gate.at (omega (arith, wide, same)) top)

pub returns-clause-lit : goal.returns-clause-lit
returns-clause-lit g c = rw c.as_slice-all.ensures.value at c.loaded_lit.ensures

pub returns-clause-kept : goal.returns-clause-kept
returns-clause-kept g c = keeps_same _ _ _ c.reserve.ensures.same c.load_marked.ensures.kept
