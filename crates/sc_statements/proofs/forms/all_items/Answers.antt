use Rattle.std.proofs.Common.{◌≡◌, ◌∷◌, [], List, length, refl, sym, ◌∙◌, arith}
use Rattle.std.specs.Vec.Iter.{into_iter_items}
use Rattle.sc_statements.proofs.Items.{behind_end}
use Rattle.sc_statements.proofs.forms.all_items.Goals as goal

nothing_left : {X : Type 0} (l : List X) → length l ≡ 0 → l ≡ []
nothing_left [] h = refl
nothing_left (x ∷ xs) h = absurd (omega arith)

pub returns : goal.returns
returns c =
    let at = c.loop-s in
    let none = c.in-None.ensures.steps in
    let empty : into_iter_items at.s-iterator ≡ [] = nothing_left _ (sym at.invariant.1 ∙ none.0) in
    let left = rw empty at at.invariant.0 in
    let given = c.into_iter-s-iterator.ensures.into_iter_gives.0 ∙ c.into_vec-s-items.ensures in
    rw given at (sym (behind_end at.all) ∙ left)
