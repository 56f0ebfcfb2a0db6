-- One reference, or none.
use Rattle.std.proofs.Common.{Some, slice_get, length-set, ap, sym, ◌∙◌}
use Rattle.sat_clauses.proofs.LearntLemmas.{followed_some, get-set_other}
use Rattle.sat_clauses.proofs.learnt.follow_one.Goals as goal

pub returns-in-Some : goal.returns-in-Some
returns-in-Some c = record {
  moved = followed_some c.args.moves.now.places c.args.table.now.items c.args.i c.in-Some.r c.place-moved.result
      (ap (λ es. slice_get es c.args.i) (sym c.as_slice.ensures.value) ∙ c.in-Some.ensures.found) c.place-moved.ensures;
  others = λ j other. get-set_other c.args.table.now.items c.args.i j (Some c.place-moved.result) other;
  len = length-set c.args.table.now.items c.args.i (Some c.place-moved.result);
}
