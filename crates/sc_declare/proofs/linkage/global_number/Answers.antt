use Rattle.std.proofs.Common.{ℕ, sym, ◌∙◌, ap}
use Rattle.sc_declare.proofs.Keys.{number_is}
use Rattle.sc_declare.proofs.linkage.global_number.Goals as goal

pub returns : goal.returns
returns c =
    ap (λ (n : ℕ). (n, c.args.walk.now))
    (sym (c.in_ok-number.ensures ∙ number_is c.args.key c.args.numbers.now c.args.walk.now.globals c.requires))
