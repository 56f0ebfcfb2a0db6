use Rattle.bit_net.proofs.LiteralLemmas.{cut_back}
use Rattle.bit_net.proofs.nodes.Net.or_inverse.Goals as goal

pub or_back-requires : goal.or_back-requires
or_back-requires c =
    cut_back c.or-made.result c.args.self.now c.not.new.self c.or-made.new.self c.len-gates.result c.sound.ensures c.len-gates.ensures c.not.ensures.front
    c.or-made.ensures.err
