use Rattle.std.proofs.Common.{ap, sym, ◌∙◌, subst, arith}
use Rattle.std.proofs.lemmas.List.{with_items_is}
use Rattle.flow_turns.specs.Kept.{slots_top}
use Rattle.flow_fills.specs.Slots.{KeepsIn}
use Rattle.flow_fills.proofs.slots.keep_among.Goals as goal

pub returns-clause-temps : goal.returns-clause-temps
returns-clause-temps c =
    let slots_is = with_items_is c.args.temps.now.slots c.keep_in.new.slots (c.keep_in.ensures.len ∙ c.as_mut_slice.ensures.len) in
    let are = c.requires.temps in
    let longer = c.in_ok-keep_in.ensures.grown.longer in
    record {
      vals = omega (arith, are.vals, longer);
      sure = omega (arith, are.sure, longer);
      slots = omega (arith, ap slots_top slots_is, c.in_ok-keep_in.ensures.top);
      each_sure = are.each_sure;
      each_kept = are.each_kept;
    }

pub returns-clause-ok : goal.returns-clause-ok
returns-clause-ok c =
    let slots_is = with_items_is c.args.temps.now.slots c.keep_in.new.slots (c.keep_in.ensures.len ∙ c.as_mut_slice.ensures.len) in
    subst (λ xs. KeepsIn c.keep_in.new.net c.args.when.at c.args.slot c.args.cells.items c.args.temps.now.slots.items xs) (sym slots_is)
    (subst (λ ys. KeepsIn c.keep_in.new.net c.args.when.at c.args.slot c.args.cells.items ys c.keep_in.new.slots) c.as_mut_slice.ensures.value c.in_ok-keep_in.ensures.ok)
