use Rattle.std.proofs.Common.{◌+◌, ap}
use Rattle.fn_facts.proofs.States.{now_shown}
use Rattle.fn_facts.proofs.numbers.state_now.Goals as goal

pub returns : goal.returns
returns c = now_shown _ _ c.args.at _ _ c.requires.ready (ap (λ n. n + c.args.at) c.count.ensures.count) c.word_at.ensures
