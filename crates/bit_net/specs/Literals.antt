-- A literal of a net is a gate or its opposite. What folding sees of gates is said by the values of literals.
use Rattle.std.specs.Prelude.{ℕ, Bool, true, false}
use Rattle.bit_net.specs.Value.{xor}
use Rattle.bit_net.specs.declared.literals.Literal.{Literal}

-- the value of a literal, where gate g has the value v g
abbrev pub holds : (v : ℕ → Bool) → Literal → Bool
holds v l = xor l.negated (v l.gate.at)

-- the second holds where the first does
abbrev pub leads : Bool → Bool → Bool
leads true b = b
leads false b = true
