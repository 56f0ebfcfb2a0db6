-- One bit more.
use Rattle.std.proofs.Common.{refl, sym, ◌∙◌, subst, arith}
use Rattle.query.specs.Values.{IsSeen}
use Rattle.query.proofs.Fixed.{below_fixed, bit_at}
use Rattle.query.proofs.Narrowing.{narrowed_start, narrowed_more, least_from}
use Rattle.query.proofs.least_model.least_values.Goals as goal

pub loop-place-init : goal.loop-place-init
loop-place-init g c = record {
  vars = refl;
  clauses = refl;
  below = c.requires.below;
  narrowed = narrowed_start _ _ _ _ c.new-values.ensures.items c.requires.goals (c.requires.last.model, c.requires.last.holds);
  last = c.requires.last;
}

pub fix_low-requires-clause-bit : goal.fix_low-requires-clause-bit
fix_low-requires-clause-bit g c = bit_at c.args.bits.now c.loop-place.place _ c.loop-place-test.true

pub loop-place-preserved : goal.loop-place-preserved
loop-place-preserved g c =
    let so_far = c.loop-place.invariant in
    let fixed = c.in_ok-value.ensures in
    record {
      vars = fixed.vars ∙ so_far.vars;
      clauses = fixed.clauses ∙ so_far.clauses;
      below = below_fixed _ _ _ c.in_ok-value.value _ fixed.items so_far.below (c.requires.bits c.loop-place.place _ c.loop-place-test.true);
      narrowed =
          narrowed_more _ _ _ _ _ _ _ _ c.loop-place.place _ c.in_ok-value.value so_far.clauses c.loop-place-test.true c.in_ok-push.ensures.items fixed.items
          (fixed.last.model, fixed.last.holds) fixed.forced so_far.narrowed;
      last = rw fixed.clauses fixed.last;
    }

pub returns-clause-least : goal.returns-clause-least
returns-clause-least g c = least_from _ _ _ _ _ c.loop-place.place (omega arith) c.loop-place.invariant.narrowed
