use Rattle.std.proofs.Common.{◌<◌, length, length-append, ap, arith, ◌∷◌, []}
use Rattle.reach_net.specs.Walks.{gates_top, holds_at}
use Rattle.bit_net.proofs.Growth.{Grown-refl, Grown-trans}
use Rattle.reach_net.proofs.RowLemmas.{gate_below, gates_top-push, gates_top-nil, Widens-none, Widens-step, widened_whole, widened_same}
use Rattle.reach_net.proofs.rows.widened.Goals as goal

pub is_never-requires : goal.is_never-requires
is_never-requires c = omega (arith, gate_below c.args.row.now c.args.k record { at = 0 } c.requires.place, c.requires.row)

pub returns-then-is_never-clause-ok : goal.returns-then-is_never-clause-ok
returns-then-is_never-clause-ok c = widened_same _ _ c.args.k _ c.args.row.now c.args.next.now _
    (Grown-refl _) c.requires.place c.requires.row c.in_ok-same.ensures.items (c.is_never.ensures.never c.if-is_never.true).holds

pub loop-j-init : goal.loop-j-init
loop-j-init c = record {
  grown = Grown-refl _;
  wide = ap length c.new-wider.ensures.items;
  below = omega (arith, ap gates_top c.new-wider.ensures.items, gates_top-nil);
  value = record { holds = λ choice v r. Widens-none v (holds_at v c.args.row.now c.args.k) _ c.new-wider.ensures.items };
}

pub or_through-requires-clause-there : goal.or_through-requires-clause-there
or_through-requires-clause-there c = omega (arith, gate_below c.args.row.now c.loop-j.j record { at = 0 } c.loop-j-test.true, c.requires.row, c.loop-j.invariant.grown.longer)

pub or_through-requires-clause-to : goal.or_through-requires-clause-to
or_through-requires-clause-to c = omega (arith, gate_below c.args.row.now c.args.k record { at = 0 } c.requires.place, c.requires.row, c.loop-j.invariant.grown.longer)

pub or_through-requires-clause-from : goal.or_through-requires-clause-from
or_through-requires-clause-from c =
    let low : c.loop-j.j < length c.args.next.now = omega arith in
    omega (arith, gate_below c.args.next.now c.loop-j.j record { at = 0 } low, c.requires.next, c.loop-j.invariant.grown.longer)

pub loop-j-preserved : goal.loop-j-preserved
loop-j-preserved c =
    let grown = c.in_ok-gate.ensures.grown in
    record {
      grown = Grown-trans _ _ _ c.loop-j.invariant.grown grown;
      wide = omega (arith, ap length c.in_ok-push.ensures.items, length-append c.loop-j.wider.items (c.in_ok-gate.gate ∷ []), c.loop-j.invariant.wide);
      below = omega (arith, ap gates_top c.in_ok-push.ensures.items, gates_top-push c.loop-j.wider.items c.in_ok-gate.gate, c.loop-j.invariant.below, grown.longer, c.in_ok-gate.ensures.ok.below);
      value = record {
        holds = λ choice v r.
            Widens-step v c.args.row.now c.args.next.now _ _ c.loop-j.j c.args.k record { at = 0 } c.in_ok-gate.gate c.requires.wide c.loop-j-test.true c.requires.place c.in_ok-push.ensures.items
            (c.loop-j.invariant.value.holds choice v (grown.runs choice v r)) (c.in_ok-gate.ensures.ok.value choice v r);
      };
    }

pub returns-clause-ok : goal.returns-clause-ok
returns-clause-ok c =
    widened_whole _ c.args.k c.loop-j.j c.args.row.now c.args.next.now _ c.requires.wide c.loop-j-test.false (omega
    (arith, c.loop-j.invariant.wide)) c.loop-j.invariant.below c.loop-j.invariant.value.holds
