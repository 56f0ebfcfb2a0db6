use Rattle.std.proofs.Common.{length, ap, ◌∙◌, arith}
use Rattle.reach_net.specs.Walks.{gates_top, rows_top, rows_of}
use Rattle.bit_net.proofs.Growth.{Grown-refl, Grown-trans}
use Rattle.reach_net.proofs.RowLemmas.{same_square, length-rows_of}
use Rattle.reach_net.proofs.WalkLemmas.{reached_none, reached_step, reached_whole}
use Rattle.reach_net.proofs.rows.reached.Goals as goal

pub loop-k-init : goal.loop-k-init
loop-k-init c = record {
  grown = Grown-refl _;
  so_far = reached_none _ _ _ _ _ (c.in_ok-rows.ensures ∙ ap rows_of c.deref.ensures.value) (c.in_ok-found.ensures.items ∙ c.deref-2.ensures.value)
      (length-rows_of _ ∙ c.requires.count) c.requires.wide c.requires.points c.requires.roots;
}

pub found_through-requires-clause-place : goal.found_through-requires-clause-place
found_through-requires-clause-place c = omega (arith, ap length c.deref-in-loop-k-2.ensures.value, length-rows_of c.loop-k.rows.items, c.loop-k.invariant.so_far.count, c.loop-k-test.true)

pub found_through-requires-clause-count : goal.found_through-requires-clause-count
found_through-requires-clause-count c = omega (arith, ap length c.deref-in-loop-k.ensures.value, ap length c.deref-in-loop-k-2.ensures.value, length-rows_of c.loop-k.rows.items, c.loop-k.invariant.so_far.count, c.loop-k.invariant.so_far.found_wide)

pub found_through-requires-clause-wide : goal.found_through-requires-clause-wide
found_through-requires-clause-wide c = same_square _ _ _ c.deref-in-loop-k-2.ensures.value c.loop-k.invariant.so_far.count c.loop-k.invariant.so_far.wide

pub found_through-requires-clause-found : goal.found_through-requires-clause-found
found_through-requires-clause-found c = omega (arith, ap gates_top c.deref-in-loop-k.ensures.value, c.loop-k.invariant.so_far.found_below)

pub found_through-requires-clause-rows : goal.found_through-requires-clause-rows
found_through-requires-clause-rows c = omega (arith, ap (λ l. rows_top (rows_of l)) c.deref-in-loop-k-2.ensures.value, c.loop-k.invariant.so_far.below)

pub through-requires-clause-place : goal.through-requires-clause-place
through-requires-clause-place c = omega (arith, ap length c.deref-in-loop-k-3.ensures.value, length-rows_of c.loop-k.rows.items, c.loop-k.invariant.so_far.count, c.loop-k-test.true)

pub through-requires-clause-wide : goal.through-requires-clause-wide
through-requires-clause-wide c = same_square _ _ _ c.deref-in-loop-k-3.ensures.value c.loop-k.invariant.so_far.count c.loop-k.invariant.so_far.wide

pub through-requires-clause-below : goal.through-requires-clause-below
through-requires-clause-below c = omega (
  arith,
  ap (λ l. rows_top
      (rows_of l)) c.deref-in-loop-k-3.ensures.value,
  c.loop-k.invariant.so_far.below,
  c.in_ok-more.ensures.grown.longer,
)

pub loop-k-preserved : goal.loop-k-preserved
loop-k-preserved c = record {
  grown = Grown-trans _ _ _ c.loop-k.invariant.grown (Grown-trans _ _ _ c.in_ok-more.ensures.grown c.in_ok-next.ensures.grown);
  so_far = reached_step _ _ _ c.loop-k.k _ _ c.loop-k.rows.items _ _ _ _ _ _ c.in_ok-more.ensures.grown c.in_ok-next.ensures.grown c.deref-in-loop-k-2.ensures.value c.deref-in-loop-k-3.ensures.value c.deref-in-loop-k.ensures.value
      c.in_ok-more.ensures.ok c.in_ok-next.ensures.ok c.loop-k.invariant.so_far;
}

pub returns-clause-ok : goal.returns-clause-ok
returns-clause-ok c = reached_whole _ c.loop-k.k _ _ _ _ (length-rows_of _ ∙ c.requires.count) (omega (arith, c.loop-k-test.false)) c.loop-k.invariant.so_far
