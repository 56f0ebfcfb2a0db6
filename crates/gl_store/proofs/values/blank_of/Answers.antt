use Rattle.gl_store.proofs.ValueLemmas.{blank_word}
use Rattle.gl_store.proofs.values.blank_of.Goals as goal

pub returns-in_ok-bits-in-Words : goal.returns-in_ok-bits-in-Words
returns-in_ok-bits-in-Words c =
    rw c.in-Words.is
    (blank_word _ record { bits = c.in_ok-bits-in-Words.bits } c.constant.result c.in-Words.width (c.in_ok-bits-in-Words.ensures.items_if_clones_equal
    (λ y h. h)) c.constant.ensures)
