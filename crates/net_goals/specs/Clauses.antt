-- The clauses of a gate, by the literals of the gates.
use Rattle.std.specs.Prelude.{ℕ, Bool, true, false, List, [], ◌∷◌, slice_index_or}
use Rattle.bit_net.specs.declared.nodes.Node.{Node}
use Rattle.bit_net.specs.declared.nodes.Node.TheVariants.{Constant, Input, Not, And, Or, Xor, Mux}
use Rattle.sat_base.specs.declared.literal.Lit.{Lit}
use Rattle.sat_base.specs.Logic.{negation}

-- the literal of gate g, in the order of the gates
abbrev pub lit_of : List Lit → ℕ → Lit
lit_of lits g = slice_index_or lits g (record { var = 0; neg = false })

abbrev pub signed : Bool → Lit → Lit
signed true l = l
signed false l = negation l

-- The fewest clauses that say the truth table of a node: `out` is the literal of its gate, and an input has none.
abbrev pub table_clauses : (out : Lit) → List Lit → Node → List (List Lit)
table_clauses out lits (Constant b) = (signed b out ∷ []) ∷ []
table_clauses out lits (Input k) = []
table_clauses out lits (Not a) =
    (out ∷ lit_of lits a.at ∷ []) ∷ (negation out ∷ negation (lit_of lits a.at) ∷ []) ∷ []
table_clauses out lits (And a b) =
    (negation out ∷ lit_of lits a.at ∷ []) ∷ (negation out ∷ lit_of lits b.at ∷ [])
    ∷ (out ∷ negation (lit_of lits a.at) ∷ negation (lit_of lits b.at) ∷ []) ∷ []
table_clauses out lits (Or a b) =
    (out ∷ negation (lit_of lits a.at) ∷ []) ∷ (out ∷ negation (lit_of lits b.at) ∷ [])
    ∷ (negation out ∷ lit_of lits a.at ∷ lit_of lits b.at ∷ []) ∷ []
table_clauses out lits (Xor a b) =
    (negation out ∷ lit_of lits a.at ∷ lit_of lits b.at ∷ [])
    ∷ (negation out ∷ negation (lit_of lits a.at) ∷ negation (lit_of lits b.at) ∷ [])
    ∷ (out ∷ negation (lit_of lits a.at) ∷ lit_of lits b.at ∷ [])
    ∷ (out ∷ lit_of lits a.at ∷ negation (lit_of lits b.at) ∷ []) ∷ []
table_clauses out lits (Mux c a b) =
    (negation out ∷ negation (lit_of lits c.at) ∷ lit_of lits a.at ∷ [])
    ∷ (out ∷ negation (lit_of lits c.at) ∷ negation (lit_of lits a.at) ∷ [])
    ∷ (negation out ∷ lit_of lits c.at ∷ lit_of lits b.at ∷ [])
    ∷ (out ∷ lit_of lits c.at ∷ negation (lit_of lits b.at) ∷ []) ∷ []
