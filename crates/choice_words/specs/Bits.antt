-- Which bits each thing has that a choice speaks of.
use Rattle.std.specs.Prelude.{ℕ, ◌+◌}
use Rattle.sc_world.specs.Source.{Source}
use Rattle.sc_world.specs.Objects.{state_bits}
use Rattle.verdict_laws.specs.Bits.{Bits}
use Rattle.choice_words.specs.declared.subjects.Reading.{Reading}
use Rattle.choice_words.specs.declared.subjects.Reading.TheVariants as reading
use Rattle.choice_words.specs.declared.subjects.Thing.{Thing}

abbrev pub width_of : Source → Reading → ℕ
width_of s (reading.Number width sign) = width
width_of s (reading.Pointer object) = 1
width_of s reading.Success = 1
width_of s reading.State = state_bits s
width_of s reading.StateAfter = 1 + state_bits s
width_of s (reading.Given object) = 2
width_of s reading.Fate = 2
width_of s (reading.Pointed object) = 2

abbrev pub bits_of : Source → Thing → Bits
bits_of s t = record { first = t.bit; width = width_of s t.reading }
