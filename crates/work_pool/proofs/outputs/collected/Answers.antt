-- Each output moves from its place to the end of the list.
use Rattle.std.proofs.Common.{◌≡◌, ◌+◌, ◌<◌, length, get_or, map, take, Some, None, get_or-set_other, sym, subst, ◌∙◌, arith, vec_len}
use Rattle.std.proofs.lemmas.List.{length-set, take_all}
use Rattle.work_pool.proofs.Made.{moved_push, outputs_moved, get_any}
use Rattle.work_pool.proofs.outputs.collected.Goals as goal

pub loop-function-preserved : goal.loop-function-preserved
loop-function-preserved g c =
    let inv = c.loop-function.invariant in
    let i = c.loop-function.function in
    let made = c.loop-function.made.items in
    let ok = c.loop-function.made.ok.0 in
    let ok' = c.args.made.ok.0 in
    let many = inv.many in
    let low : i < length made = omega arith in
    let low' : i < length c.args.made.items = omega arith in
    let here : Some c.unwrap.result ≡ get_or c.args.made.items i None =
    sym c.unwrap.ensures
    ∙ (c.take.ensures.value
    ∙ (c.index_mut.ensures.value ∙ (get_any made i c.index_mut.result.now None low ∙ inv.left i (omega arith)))) in
    record {
      many = length-set made i c.take.new.self ∙ inv.many;
      moved =
          subst (λ xs. map Some xs ≡ take (i + 1) c.args.made.items) (sym c.in_ok-push.ensures.items)
          (moved_push c.loop-function.list.items c.args.made.items c.unwrap.result i low' inv.moved here);
      left = λ f past. get_or-set_other made i f c.take.new.self None (λ same. omega arith) ∙ inv.left f (omega arith);
    }

pub returns : goal.returns
returns g c defined all =
    let inv = c.loop-function.invariant in
    let ok = c.args.made.ok.0 in
    let many = inv.many in
    let ok' = c.loop-function.made.ok.0 in
    outputs_moved defined c.loop-function.list.items c.args.made.items (vec_len c.args.made)
    (inv.moved ∙ take_all c.loop-function.function c.args.made.items (omega arith)) (omega arith) all
