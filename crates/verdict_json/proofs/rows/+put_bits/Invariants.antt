-- The digits that are left.
use Rattle.verdict_json.proofs.rows.+put_bits.Given as goal

abbrev pub decreases-put_bits : goal.decreases-put_bits
decreases-put_bits l = l.digits
