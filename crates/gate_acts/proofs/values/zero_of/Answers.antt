use Rattle.std.proofs.Common.{sym, ◌∙◌}
use Rattle.gate_acts.proofs.Valuing.{zero_word, zero_none}
use Rattle.gate_acts.proofs.values.zero_of.Goals as goal

pub returns-in_ok-word : goal.returns-in_ok-word
returns-in_ok-word c = zero_word _ _ _ _ c.integer_bits.result (sym c.is_integer.ensures ∙ c.if-is_integer.true) c.integer_bits.ensures.value c.in_ok-word.ensures

pub returns-else-is_integer : goal.returns-else-is_integer
returns-else-is_integer c = zero_none _ _ _ (sym c.is_integer.ensures ∙ c.if-is_integer.false)
