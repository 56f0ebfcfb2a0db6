use Rattle.std.proofs.Common.{sym, ◌∙◌, arith}
use Rattle.sc_world.specs.View.{type}
use Rattle.fn_facts.proofs.States.{bits_full, bits_skip}
use Rattle.fn_facts.proofs.numbers.read_bit.Goals as goal

pub returns-then-len-ge-MOST_BITS-clause-ok : goal.returns-then-len-ge-MOST_BITS-clause-ok
returns-then-len-ge-MOST_BITS-clause-ok c = λ ts h. bits_full _ _ c.args.k _ _ ts _ (omega (arith, c.if-len-ge-MOST_BITS.true)) h

pub returns-then-has_bit-clause-ok : goal.returns-then-has_bit-clause-ok
returns-then-has_bit-clause-ok c = λ ts h.
    c.in_ok-push_bit.ensures.ok (type c.args.param.now.ctype) ts (sym c.has_bit.ensures ∙ c.if-has_bit.true) h

pub returns-clause-ok : goal.returns-clause-ok
returns-clause-ok c = λ ts h. bits_skip _ _ c.args.k _ ts _ (sym c.has_bit.ensures ∙ c.if-has_bit.false) h
