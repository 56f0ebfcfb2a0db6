-- Growth of nets goes from each net to itself, and over a net between two. Crates above cite these two lemmas.
use Rattle.std.proofs.Common.{List, refl, ◌∙◌, arith}
use Rattle.bit_net.specs.declared.nodes.Node.{Node}
use Rattle.bit_net.specs.Runs.{Grown}

pub Grown-refl : (ns : List Node) → Grown ns ns
Grown-refl ns = record { longer = omega arith; inputs = refl; runs = λ choice v r. r }

pub Grown-trans : (a b c : List Node) → Grown a b → Grown b c → Grown a c
Grown-trans a b c g h = record { longer = omega arith; inputs = h.inputs ∙ g.inputs; runs = λ choice v r. g.runs choice v (h.runs choice v r) }
