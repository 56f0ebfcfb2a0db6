-- Where the other side of the branch that made a way waits.
use Rattle.std.specs.Prelude.{ℕ, nat_eq, Option, Some, None, List, [], ◌∷◌, if◌then◌else◌, slice_get}
use Rattle.flow_ways.specs.declared.ways.Way.{Way}
use Rattle.flow_ways.specs.declared.ways.Split.{Split}

-- the gate of the other side, where the gate is one side of the branch
abbrev pub other_side : (gate : ℕ) → Option Split → Option ℕ
other_side gate None = None
other_side gate (Some s) = if nat_eq s.hit.at gate then Some s.miss.at else if nat_eq s.miss.at gate then Some s.hit.at else None

-- the node at which a way with that gate waits, the first one of the list
abbrev pub node_with : (gate : ℕ) → List Way → Option ℕ
node_with gate [] = None
node_with gate (w ∷ ws) = if nat_eq w.gate.at gate then Some w.node else node_with gate ws

abbrev pub node_of : Option ℕ → List Way → Option ℕ
node_of None waits = None
node_of (Some gate) waits = node_with gate waits

abbrev pub sibling : (waits : List Way) (splits : List Split) → Way → Option ℕ
sibling waits splits w = node_of (other_side w.gate.at (slice_get splits w.split)) waits
