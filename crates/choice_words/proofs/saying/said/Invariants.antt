-- What is said of the things so far.
use Rattle.std.proofs.Common.{◌≡◌, map, take}
use Rattle.choice_words.specs.Words.{say}
use Rattle.choice_words.proofs.saying.said.Given as goal

abbrev pub invariant-loop-thing : goal.invariant-loop-thing
invariant-loop-thing l = l.said.items ≡ map (say l.states l.choice) (take l.thing-index l.things)
