use Rattle.sc_parse_unit.proofs.initialisers.+read_initialiser.Given as goal

abbrev pub decreases-read_initialiser : goal.decreases-read_initialiser
decreases-read_initialiser l = l.limit
