use Rattle.std.proofs.Common.{◌≡◌, get_or, true, arith, ℕ, ◌++◌, map, length, refl, sym, subst, append-nil, ap, ◌∙◌}
use Rattle.std.specs.List.{range_with_len}
use Rattle.plan_core.specs.Graph.{callees}
use Rattle.summary_db.specs.Places.{edge, edges_before}
use Rattle.summary_db.specs.Lays.{IsLay}
use Rattle.summary_db.proofs.Laying.{laid_none, rows_more, results_more, all_places, read_row}
use Rattle.summary_db.specs.Views.{member}
use Rattle.summary_db.proofs.lay.Lay.new.Goals as goal

pub loop-taker-init : goal.loop-taker-init
loop-taker-init c = laid_none c.args.rows.now c.len-count.result _ c.in_ok-none.ensures c.in_ok-none-2.ensures refl

pub push_row-requires : goal.push_row-requires
push_row-requires c =
    let low = c.loop-taker-test.true in let n = c.len-count.ensures in let a = c.loop-taker.invariant.takers in let b = c.loop-taker.invariant.givers in
    let row = c.index-as_slice-taker.result in
    let is : c.as_slice-in-loop-taker.result.now ≡ callees c.args.rows.now c.loop-taker.taker =
    c.as_slice-in-loop-taker.ensures ∙ read_row c.args.rows.now c.loop-taker.taker row (omega arith) (c.index-as_slice-taker.is ∙ ap (λ l. get_or l c.loop-taker.taker row) c.as_slice.ensures) in
    (omega arith, λ giver has. let i = c.requires.0.inside c.loop-taker.taker giver (subst (λ xs. member giver xs ≡ true) is has) in omega arith)

pub loop-taker-preserved : goal.loop-taker-preserved
loop-taker-preserved c =
    let low = c.loop-taker-test.true in let n = c.len-count.ensures in
    let row = c.index-as_slice-taker.result in
    let is : c.as_slice-in-loop-taker.result.now ≡ callees c.args.rows.now c.loop-taker.taker =
    c.as_slice-in-loop-taker.ensures ∙ read_row c.args.rows.now c.loop-taker.taker row (omega arith) (c.index-as_slice-taker.is ∙ ap (λ l. get_or l c.loop-taker.taker row) c.as_slice.ensures) in
    subst (λ ps. IsLay c.len-count.result ps c.push_row.new.self) (ap (λ gs. edges_before c.args.rows.now c.loop-taker.taker ++ map (edge c.loop-taker.taker) gs) is ∙ rows_more c.args.rows.now c.loop-taker.taker)
    (c.in_ok-push_row.ensures.lay c.len-count.result (edges_before c.args.rows.now c.loop-taker.taker) c.loop-taker.invariant)

pub loop-giver-init : goal.loop-giver-init
loop-giver-init c =
    let low = c.loop-taker.auto.taker-end in let high = c.loop-taker-test.false in
    let same : c.loop-taker.taker ≡ c.len-count.result = omega arith in
    subst (λ ps. IsLay c.len-count.result ps c.loop-taker.lay) (ap (edges_before c.args.rows.now) same ∙ sym (append-nil (edges_before c.args.rows.now c.len-count.result))) c.loop-taker.invariant

pub loop-giver-preserved : goal.loop-giver-preserved
loop-giver-preserved c =
    subst (λ ps. IsLay c.len-count.result ps c.push.new.self) (results_more (edges_before c.args.rows.now c.len-count.result) c.len-count.result c.loop-giver.giver)
    (c.in_ok-push.ensures.lay c.len-count.result _ c.loop-giver.invariant)

pub returns : goal.returns
returns c =
    let low = c.loop-giver.auto.giver-end in let high = c.loop-giver-test.false in
    let same : c.loop-giver.giver ≡ c.len-count.result = omega arith in
    let n : c.len-count.result ≡ length c.args.rows.now = c.len-count.ensures in
    subst (λ ps. IsLay (length c.args.rows.now) ps c.loop-giver.lay) (all_places c.args.rows.now)
    (subst (λ (k : ℕ). IsLay k (edges_before c.args.rows.now k ++ map (edge k) (range_with_len 0 k)) c.loop-giver.lay) n
    (subst (λ (k : ℕ). IsLay c.len-count.result (edges_before c.args.rows.now c.len-count.result ++ map (edge c.len-count.result) (range_with_len 0 k)) c.loop-giver.lay) same c.loop-giver.invariant))
