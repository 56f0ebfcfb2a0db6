-- What is read of the lists at the function's number.
use Rattle.std.proofs.Common.{ℕ, ◌<◌, List, [], length, map, ap, subst, ◌∙◌, arith}
use Rattle.std.proofs.lemmas.List.Elements.{Contains-get_or}
use Rattle.std.specs.Prelude.{None, option_map, slice_index_or}
use Rattle.std.specs.List.{Contains}
use Rattle.std.specs.Arc.{arc_value}
use Rattle.session_core.specs.declared.kept.Matter.{Matter}
use Rattle.session_core.specs.Stale.{memory, rows_of}
use Rattle.session_core.proofs.Equal.{at_look, same_stale}
use Rattle.session_core.proofs.staleness.stale_at.Goals as goal

pub rows_of-requires : goal.rows_of-requires
rows_of-requires c k d low =
    let found = slice_index_or c.callees_of.result.now k d in
    let P : List ℕ → Type 0 = λ xs. Contains xs found in
    let inside = c.requires.plan.inside c.args.function found (subst P c.callees_of.ensures (Contains-get_or c.callees_of.result.now k d low)) in
    omega (arith, inside, c.as_slice.ensures.len, c.requires.counts.verdicts_many)

pub returns : goal.returns
returns c =
    let f = c.args.function in
    let matters = c.args.now.now.items in
    let kept = c.args.kept.now.items in
    let low : f < length matters = omega (arith, c.requires.inside, c.requires.counts.matters_many, c.args.now.now.ok.0) in
    let low' : f < length kept = omega (arith, c.requires.inside, c.requires.counts.kept_many, c.args.kept.now.ok.0) in
    same_stale
    (at_look (λ (m : Matter). m.words) matters f c.index.result.now [] low c.index.ensures)
    (ap (option_map memory) c.as_ref.ensures.value ∙ at_look (option_map memory) kept f c.index-2.result.now None low' c.index-2.ensures)
    (c.in_ok-rows.ensures ∙ (λ i. rows_of (c.callees_of.ensures i) (map arc_value (c.as_slice.ensures.value i))))
    c.is_stale.ensures.stale
