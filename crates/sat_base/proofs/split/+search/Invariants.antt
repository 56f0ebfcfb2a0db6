use Rattle.sat_base.specs.Marks.{open_count}
use Rattle.sat_base.proofs.split.+search.Given as goal

-- each value that is tried leaves a variable fewer without one
abbrev pub decreases-search : goal.decreases-search
decreases-search l = open_count l.marks.now
