use Rattle.bit_net.proofs.Growth.{Grown-trans}
use Rattle.gl_store.proofs.MakeLemmas.{Gives-grown, merged_flags}
use Rattle.gl_store.proofs.making.merge_flags.Goals as goal

pub returns-clause-ok : goal.returns-clause-ok
returns-clause-ok c =
    let g5 = c.in_ok-escaped.ensures.grown in
    let g4 = Grown-trans _ _ _ c.in_ok-freed.ensures.grown g5 in
    let g3 = Grown-trans _ _ _ c.in_ok-allocated.ensures.grown g4 in
    let g2 = Grown-trans _ _ _ c.in_ok-written.ensures.grown g3 in
    merged_flags _ c.args.c.at c.args.a c.args.b
    record { touched = c.in_ok-touched.touched; written = c.in_ok-written.written; allocated = c.in_ok-allocated.allocated; freed = c.in_ok-freed.freed; escaped = c.in_ok-escaped.escaped }
    (Gives-grown _ _ _ _ g2 c.in_ok-touched.ensures.ok) (Gives-grown _ _ _ _ g3 c.in_ok-written.ensures.ok) (Gives-grown _ _ _ _ g4 c.in_ok-allocated.ensures.ok)
    (Gives-grown _ _ _ _ g5 c.in_ok-freed.ensures.ok) c.in_ok-escaped.ensures.ok
