use Rattle.location_texts.specs.Seen.{texts}
use Rattle.fn_facts.proofs.Ending.{text_elsewhere, text_there}
use Rattle.fn_facts.proofs.questions.ends_with_text.Goals as goal

pub returns-then-same : goal.returns-then-same
returns-then-same c =
    text_there _ (texts c.args.texts.now) c.args.text.now _ c.args.at _ _ c.in_ok-same.ensures c.if-same.true c.ends_at.ensures

pub returns : goal.returns
returns c =
    text_elsewhere _ (texts c.args.texts.now) c.args.text.now _ c.args.at _ _ c.in_ok-same.ensures c.if-same.false c.constant.ensures
