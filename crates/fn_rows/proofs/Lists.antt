-- What is listed, as the definitions list it.
use Rattle.std.proofs.Common.{◌≡◌, ℕ, ◌+◌, ◌<◌, List, [], ◌∷◌, ◌++◌, length, map, take, get_or, sym, ap, ◌∙◌}
use Rattle.std.proofs.lemmas.List.{map_more}
use Rattle.std.specs.List.{range_with_len}
use Rattle.sc_world.specs.Layout.{location, is_outer, is_cell}
use Rattle.sc_world.specs.Source.{Source}
use Rattle.sc_world.specs.Paths.{Texts}
use Rattle.sc_world.specs.Shows.{Touches, Writes}
use Rattle.sc_world.specs.Verdict as spec
use Rattle.sc_world.specs.Verdict.{Answers}
use Rattle.fn_rows.specs.Asked.{those}
use Rattle.fn_rows.specs.Outer.{meant}
use Rattle.fn_rows.specs.Params.{pointing}
use Rattle.fn_rows.specs.declared.asking.Listed.TheVariants as listed
use Rattle.fn_rows.specs.declared.locations.Which.TheVariants as which
use Rattle.fn_rows.specs.declared.params.PointsTo.TheVariants as to
use Rattle.fn_rows.proofs.Counts.{pointers_are, outs_are}
use Rattle.fn_rows.proofs.Filters.{filter_both, filter_three}

pub touched_is : (s : Source) (x : Texts) (q : Answers) (ats : List ℕ) → ats ≡ meant which.Outer x.layout → those q listed.Touches ats ≡ spec.touched s x q
touched_is s x q ats is =
    ap (those q listed.Touches) is
    ∙ sym (filter_both (λ at. is_outer (location x.layout at)) (λ at. q.some (Touches at)) (range_with_len 0 (length x.layout.locations)))

pub written_is : (s : Source) (x : Texts) (q : Answers) (ats : List ℕ) → ats ≡ meant which.OuterCells x.layout → those q listed.Writes ats ≡ spec.written s x q
written_is s x q ats is =
    ap (those q listed.Writes) is
    ∙ sym (filter_three (λ at. is_outer (location x.layout at)) (λ at. is_cell (location x.layout at)) (λ at. q.some (Writes at))
    (range_with_len 0 (length x.layout.locations)))

pub changed_is : (s : Source) (x : Texts) (q : Answers) (ns : List ℕ) → ns ≡ pointing to.Anything 0 s.params → those q listed.Changes ns ≡ spec.changed s x q
changed_is s x q ns is = ap (those q listed.Changes) (is ∙ sym (pointers_are s x q 0 s.params))

pub set_is : (s : Source) (x : Texts) (q : Answers) (ns : List ℕ) → ns ≡ pointing to.Pointer 0 s.params → those q listed.Sets ns ≡ spec.set_params s x q
set_is s x q ns is = ap (those q listed.Sets) (is ∙ sym (outs_are s x q 0 s.params))

-- a loop that puts the value of one element more
pub map_turn : {X Y : Type 0} (f : X → Y) (xs : List X) (i : ℕ) (d : X) (y : Y) (before after : List Y) → i < length xs → before ≡ map f (take i xs)
    → y ≡ f (get_or xs i d) → after ≡ before ++ y ∷ [] → after ≡ map f (take (i + 1) xs)
map_turn f xs i d y before after low so_far is put =
    put
    ∙ ap (λ ys. ys ++ y ∷ []) so_far
    ∙ ap (λ z. map f (take i xs) ++ z ∷ []) is
    ∙ sym (map_more f xs i d low)
