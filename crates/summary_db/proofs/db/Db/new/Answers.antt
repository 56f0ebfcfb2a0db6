use Rattle.std.proofs.Common.{◌≡◌, ◌<◌, ◌+◌, ◌^◌, List, ℕ, arith, length, ap, sym, ◌∙◌, subst, Some, None, refl, replicate}
use Rattle.std.proofs.lemmas.List.{length-replicate}
use Rattle.atomic_table.specs.Table.{opening}
use Rattle.summary_db.specs.Views.{fresh}
use Rattle.summary_db.specs.Places.{IsLaidOut, places_of}
use Rattle.summary_db.specs.Rule.{IsRuled}
use Rattle.summary_db.specs.Told.{IsOutput}
use Rattle.summary_db.proofs.Edges.{laid_from_plan}
use Rattle.summary_db.proofs.Moves_kept.{opened}
use Rattle.summary_db.proofs.db.Db.new.Goals as goal

pub new-requires : goal.new-requires
new-requires g c =
    let plan = c.requires.plan.0 in
    subst (λ rs. IsLaidOut rs × (length rs < 2 ^ 32)) (sym c.in_ok-rows.ensures) (laid_from_plan c.args.plan.now.callees plan, plan.few)

pub vacant-requires : goal.vacant-requires
vacant-requires g c =
    let about = c.about-about.result in
    let rows : List (List ℕ) = about.plan.value.callees in
    let same : c.in_ok-rows.rows ≡ rows = c.in_ok-rows.ensures ∙ sym (ap (λ p. p.callees) c.about-about.ensures.0) in
    let count : c.in_ok-lay.lay.count ≡ length (places_of rows) = c.in_ok-lay.ensures.count ∙ ap (λ rs. length (places_of rs)) same in
    let wide : c.len-2.result ≡ length rows = c.len-2.ensures ∙ ap length same in
    let words : c.as_slice.result.now ≡ replicate (length rows + 1) 0 = c.as_slice.ensures.value ∙ (c.in_ok-words.ensures ∙ ap (λ (n : ℕ). replicate (n + 1) 0) wide) in
    subst (λ ws. IsRuled rows None (IsOutput g.W.Work.defined (Some about.work.value)) (opening ws (replicate c.in_ok-lay.lay.count None) (fresh rows (Some about.work.value)))) (sym words)
    (opened _ rows None (IsOutput g.W.Work.defined (Some about.work.value)) c.in_ok-lay.lay.count (fresh rows (Some about.work.value)) count
    record { claims = refl; gone = refl; done = refl; seen = refl; stopped = refl })

pub invariant_of-db : goal.invariant_of-db
invariant_of-db g c =
    let plan = c.requires.plan.0 in
    let table = c.in_ok-table.ensures in
    let same = c.in_ok-rows.ensures ∙ sym (ap (λ p. p.callees) c.about-about.ensures.0) in
    let w : c.in_ok-table.table.shared.table_id.words ≡ length c.as_slice.result.now = table.0 in
    let items : length c.as_slice.result.now ≡ length (replicate {A = ℕ} (c.len-2.result + 1) 0) = ap length (c.as_slice.ensures.value ∙ c.in_ok-words.ensures) in
    let len : c.len-2.result ≡ length c.in_ok-rows.rows = c.len-2.ensures in
    record {
      planned = same ∙ sym (ap (λ k. k.plan.value.callees) table.5);
      few = subst (λ rs. length rs < 2 ^ 32) (sym c.in_ok-rows.ensures) plan.few;
      laid = subst IsLaidOut (sym c.in_ok-rows.ensures) (laid_from_plan c.args.plan.now.callees plan);
      words = w ∙ (items ∙ (length-replicate {A = ℕ} (c.len-2.result + 1) 0 ∙ ap (λ (k : ℕ). k + 1) len));
      slots = table.1;
      roomy = c.in_ok-room.ensures ∙ c.len.ensures;
      listed = c.in_ok-lay.ensures;
    }
