-- What became of objects, in the words of the code.
use Rattle.std.proofs.Common.{◌≡◌, ℕ, Bool, refl, length}
use Rattle.std.specs.Prelude.{not, ◌&&◌, ◌||◌, None, if◌then◌else◌}
use Rattle.std.specs.List.{list_any}
use Rattle.sc_base.specs.declared.pos.Pos.{Pos}
use Rattle.run_store.specs.declared.Flag.TheVariants as flag
use Rattle.sum_rows.specs.declared.row.State.{State}
use Rattle.sum_rows.specs.declared.row.State.TheVariants as state
use Rattle.sc_world.specs.Tree.{is_pointer}
use Rattle.sc_world.specs.Shows.{Over, has, cell_now, result_cell, result_object, root_at}
use Rattle.run_answers.specs.declared.holders.Beside.TheVariants as beside
use Rattle.run_answers.specs.Rest.{rest}
use Rattle.run_answers.specs.Seen.{held, reached, is_reached, is_escaped, is_own, kind, kind_of_result, kind_of_cell, result_kind, fate, out_fate, is_from, is_lost, is_lost_from, loses}
use Rattle.run_answers.proofs.Rests.{any_all, any_first, any_none}

pub escaped_is : (o : Over) (n : ℕ)
    → is_escaped o n ≡ (has o flag.Escaped n || is_reached o (result_object o) (beside.Object n) n)
unfolding is_escaped reached held
escaped_is o n = refl

pub result_kind_is : (o : Over)
    → result_kind o ≡ (if is_pointer o.source.result then kind_of_result o else state.Nil)
unfolding result_kind kind_of_result
result_kind_is o = refl

pub kind_of_result_is : (o : Over) → kind_of_result o ≡ kind o None beside.Nothing (result_cell o.ended)
unfolding kind_of_result kind is_own reached held
kind_of_result_is o = refl

pub kind_of_cell_is : (o : Over) (at : ℕ)
    → kind_of_cell o at ≡ kind o (result_object o) (beside.Cell at) (cell_now o at)
unfolding kind_of_cell kind is_own reached held
kind_of_cell_is o at = refl

pub fate_is : (o : Over) (at : ℕ)
    → fate o at ≡ (if has o flag.Freed at then state.Freed else (if is_escaped o at then state.Escaped else state.Held))
unfolding fate is_escaped
fate_is o at = refl

pub out_fate_is : (o : Over) (at : ℕ)
    → out_fate o at
    ≡ (if not (has o flag.Written at) || has o flag.Freed (root_at o at) then state.Same else kind_of_cell o at)
unfolding out_fate kind_of_cell
out_fate_is o at = refl

pub lost_is : (o : Over) (at : ℕ)
    → is_lost o at ≡ (has o flag.Allocated at && (not (has o flag.Freed at) && not (is_escaped o at)))
unfolding is_lost is_escaped
lost_is o at = refl

pub ruleset object_steps = (escaped_is, result_kind_is, kind_of_result_is, kind_of_cell_is, fate_is, out_fate_is, lost_is)

pub loses_is : (o : Over) (p : Pos) → loses o p ≡ list_any (is_lost_from o p) (rest 0 (length o.layout.locations))
unfolding loses is_lost_from is_from is_lost
loses_is o p = any_all (is_lost_from o p) (length o.layout.locations)

pub ruleset loss_steps = (loses_is, any_first, any_none)
