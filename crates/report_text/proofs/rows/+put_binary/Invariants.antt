-- The digits that are left.
use Rattle.report_text.proofs.rows.+put_binary.Given as goal

abbrev pub decreases-put_binary : goal.decreases-put_binary
decreases-put_binary l = l.digits
