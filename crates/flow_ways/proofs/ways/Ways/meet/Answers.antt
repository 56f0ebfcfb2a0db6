use Rattle.std.proofs.Common.{◌||◌, ◌&&◌, nat_eq, get_or, ◌∙◌, ap, arith, sym}
use Rattle.flow_ways.specs.Held.{any, held, ways_top}
use Rattle.flow_ways.proofs.WayLemmas.{meet_step, held_remove, ways_top_remove, ways_top_append, before_read}
use Rattle.flow_ways.proofs.ways.Ways.meet.Goals as goal

pub returns-in_ok-extend_from_slice-in-Some-clause-ok : goal.returns-in_ok-extend_from_slice-in-Some-clause-ok
returns-in_ok-extend_from_slice-in-Some-clause-ok c = λ v all q.
    (let d = c.args.way in
    let k = c.in-Some.k in
    meet_step v c.args.self.now.waits.items c.remove.new.self.items c.args.node c.args.todo.now.items _ _ c.args.way (get_or c.args.self.now.waits.items k d) c.args.other.at q
    (held_remove v c.args.self.now.waits.items k d q c.in-Some.ensures.place ∙ ap (λ ws. (nat_eq (get_or c.args.self.now.waits.items k d).node q && v (get_or c.args.self.now.waits.items k d).gate.at) || held v ws q) (sym c.remove.ensures.items))
    (c.in-Some.ensures.node d) (c.in-Some.ensures.gate d) c.in_ok-extend_from_slice-in-Some.ensures.items
    (c.requires.sides v all c.index.result.now ∙ ap (any v) (ap (λ z. z.before.items) (sym c.index.ensures) ∙ sym c.deref.ensures.value)))

pub returns-in_ok-extend_from_slice-in-Some-clause-waits : goal.returns-in_ok-extend_from_slice-in-Some-clause-waits
returns-in_ok-extend_from_slice-in-Some-clause-waits c = omega (arith, ap ways_top c.remove.ensures.items, ways_top_remove c.args.self.now.waits.items c.in-Some.k)

pub returns-in_ok-extend_from_slice-in-Some-clause-todo : goal.returns-in_ok-extend_from_slice-in-Some-clause-todo
returns-in_ok-extend_from_slice-in-Some-clause-todo c = omega (
  arith,
  ap ways_top c.in_ok-extend_from_slice-in-Some.ensures.items,
  ways_top_append c.args.todo.now.items c.deref.result.now,
  ap ways_top c.deref.ensures.value,
  before_read c.args.self.now.splits.items c.args.way.split c.index.result.now c.index.ensures c.requires.split,
)
