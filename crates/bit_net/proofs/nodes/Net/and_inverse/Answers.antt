use Rattle.bit_net.proofs.LiteralLemmas.{cut_back}
use Rattle.bit_net.proofs.nodes.Net.and_inverse.Goals as goal

pub or_back-requires : goal.or_back-requires
or_back-requires c =
    cut_back c.and-made.result c.args.self.now c.not.new.self c.and-made.new.self c.len-gates.result c.sound.ensures c.len-gates.ensures c.not.ensures.front
    c.and-made.ensures.err
