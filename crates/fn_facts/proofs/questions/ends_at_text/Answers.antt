use Rattle.std.proofs.Common.{arith}
use Rattle.bit_net.proofs.Growth.{Grown-refl, Grown-trans}
use Rattle.location_texts.specs.Seen.{texts}
use Rattle.fn_facts.proofs.Ending.{text_begins, text_more, text_shown}
use Rattle.fn_facts.proofs.Growing.{ready_grows}
use Rattle.fn_facts.proofs.questions.ends_at_text.Goals as goal

pub loop-k-init : goal.loop-k-init
loop-k-init c =
    record { grown = Grown-refl _; ready = c.requires.ready; some = text_begins _ (texts c.args.texts.now) c.args.text.now _ _ c.constant-some.ensures }

pub loop-k-preserved : goal.loop-k-preserved
loop-k-preserved c =
    let more = c.in_ok-more.ensures in
    record {
      grown = Grown-trans _ _ _ c.loop-k.invariant.grown more.grown;
      ready = ready_grows _ _ _ more.grown c.loop-k.invariant.ready;
      some = text_more _ (texts c.args.texts.now) c.args.text.now _ _ c.loop-k.k c.loop-k.some.at _ _ more.grown c.loop-k.invariant.some c.in_ok-here.ensures more.ok;
    }

pub returns-clause-ok : goal.returns-clause-ok
returns-clause-ok c =
    text_shown _ (texts c.args.texts.now) c.args.text.now _ c.loop-k.k _ (omega (arith, c.count-k-end.ensures.count)) c.loop-k.invariant.some
