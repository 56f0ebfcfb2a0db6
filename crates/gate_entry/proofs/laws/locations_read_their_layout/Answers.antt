use Rattle.gate_entry.proofs.Reading.{all_within}
use Rattle.gate_entry.proofs.laws.locations_read_their_layout.Goals as goal

pub returns : goal.returns
returns c s p laid = all_within s p (c.each_bit_is_of_one_thing.ensures s p laid)
