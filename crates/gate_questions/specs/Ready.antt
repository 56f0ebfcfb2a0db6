-- What who answers questions about a net keeps: what a solver knows of its gates, and the values of gates for 64 choices.

use Rattle.std.specs.Prelude.{◌≡◌, ℕ, ◌+◌, Bool, true, List, length, map, Option, Some, None}
use Rattle.std.specs.List.{range_with_len}
use Rattle.bit_net.specs.declared.nodes.Gate.{Gate}
use Rattle.bit_net.specs.declared.nodes.Node.{Node}
use Rattle.bit_net.specs.Circuit.{input_count}
use Rattle.bit_net.specs.Lanes.{AreLanes}
use Rattle.sat_base.specs.declared.literal.Lit.{Lit}
use Rattle.clause_builder.specs.Cones.{AreLoaded, lit_at}

pub record QuestionsState : Type 0 where
  -- the variables and clauses of the solver, and the literals of the loaded gates
  pub vars : ℕ
  pub clauses : List (List Lit)
  pub loaded : List (Option Lit)
  -- no memory was refused
  pub usable : Bool
  -- bit k of the word of an input, or of a gate, is its value for choice k
  pub inputs : List ℕ
  pub words : List ℕ

-- it may be asked about this net
pub record IsReady (ns : List Node) (q : QuestionsState) : Type 0 where
  pub loaded : q.usable ≡ true → AreLoaded ns q.loaded q.vars q.clauses
  pub inputs : length q.inputs ≡ input_count ns
  pub lanes : AreLanes ns q.inputs q.words

-- the literals of these gates
pub record AreLits (loaded : List (Option Lit)) (gates : List Gate) (lits : List Lit) : Type 0 where
  pub same : map (λ g. lit_at loaded g.at) gates ≡ map Some lits

-- The literals that stand for the first inputs, which begin at gate 2: their own, and for an input that is not loaded the one that is
-- false in every model. No loaded gate reads such an input.
abbrev pub lit_or : Lit → Option Lit → Lit
lit_or never None = never
lit_or never (Some l) = l

abbrev pub input_lit : List (Option Lit) → (never : Lit) → ℕ → Lit
input_lit loaded never k = lit_or never (lit_at loaded (2 + k))

abbrev pub input_lits : List (Option Lit) → (never : Lit) → ℕ → List Lit
input_lits loaded never n = map (input_lit loaded never) (range_with_len 0 n)
