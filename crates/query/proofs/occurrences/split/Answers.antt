-- The model that is known lies in the half of its own bit.
use Rattle.std.proofs.Common.{◌≡◌, List, [], ◌∷◌, ◌++◌, sym, ap, ◌∙◌}
use Rattle.sat_base.specs.Logic.{negation}
use Rattle.query.proofs.Fixed.{below_push, bit_below, seen_low, seen_up}
use Rattle.query.proofs.occurrences.split.Goals as goal

pub returns-in_ok-model : goal.returns-in_ok-model
returns-in_ok-model g c =
    let low = c.in_ok-without.ensures ∙ ap (λ l. c.args.fixed.now ++ l ∷ []) c.negated.ensures in
    let var = bit_below _ c.args.bits.now c.args.place c.args.bit c.requires.below c.requires.bit in
    record {
      vars = c.in_ok-model.ensures.vars;
      clauses = c.in_ok-model.ensures.clauses;
      low_fixed = low;
      up_fixed = c.in_ok-including.ensures;
      low_below = below_push _ c.args.fixed.now _ (negation c.args.bit) low c.requires.fixed var;
      up_below = below_push _ c.args.fixed.now _ c.args.bit c.in_ok-including.ensures c.requires.fixed var;
      low = record { found = rw c.as_slice.ensures.value at c.in_ok-model.ensures.found };
      up = record {
        found = seen_up _ c.args.fixed.now _ c.args.bits.now c.args.last.items c.args.place c.args.bit _ c.requires.last c.requires.bit
            (sym c.index.ensures ∙ c.if-index.true) c.in_ok-including.ensures;
      };
    }

pub returns-in_ok-model-2 : goal.returns-in_ok-model-2
returns-in_ok-model-2 g c =
    let low = c.in_ok-without.ensures ∙ ap (λ l. c.args.fixed.now ++ l ∷ []) c.negated.ensures in
    let var = bit_below _ c.args.bits.now c.args.place c.args.bit c.requires.below c.requires.bit in
    record {
      vars = c.in_ok-model-2.ensures.vars;
      clauses = c.in_ok-model-2.ensures.clauses;
      low_fixed = low;
      up_fixed = c.in_ok-including.ensures;
      low_below = below_push _ c.args.fixed.now _ (negation c.args.bit) low c.requires.fixed var;
      up_below = below_push _ c.args.fixed.now _ c.args.bit c.in_ok-including.ensures c.requires.fixed var;
      low = record {
        found = seen_low _ c.args.fixed.now _ c.args.bits.now c.args.last.items c.args.place c.args.bit _ c.requires.last c.requires.bit
            (sym c.index.ensures ∙ c.if-index.false) low;
      };
      up = record { found = rw c.as_slice-else-index.ensures.value at c.in_ok-model-2.ensures.found };
    }
