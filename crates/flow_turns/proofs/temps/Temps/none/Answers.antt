use Rattle.std.proofs.Common.{arith, ◌∙◌, sym}
use Rattle.flow_turns.proofs.Beginning.{blank_top}
use Rattle.flow_turns.proofs.temps.Temps.none.Goals as goal

pub returns : goal.returns
returns c = record {
  are = record {
    vals = omega (arith, c.in_ok-vals.ensures.top);
    sure = c.in_ok-sure.ensures.below;
    slots = omega (arith, blank_top c.in_ok-slots.slots.items c.in_ok-slots.ensures.blank);
    each_sure = c.in_ok-sure.ensures.len ∙ sym c.in_ok-vals.ensures.len;
    each_kept = c.in_ok-kept.ensures.len ∙ sym c.in_ok-vals.ensures.len;
  };
  many_temps = c.in_ok-vals.ensures.len;
  many_slots = c.in_ok-slots.ensures.len;
  vals = c.in_ok-vals.ensures.none;
  sure = λ choice v r. c.in_ok-sure.ensures.none.holds choice v r;
  kept = c.in_ok-kept.ensures.none;
  blank = c.in_ok-slots.ensures.blank;
}
