-- Gates with their variables: what holds behind the first gates of a net.
use Rattle.std.specs.Prelude.{◌≡◌, ℕ, ◌+◌, ◌<◌, ◌≤◌, Bool, true, List, length, take}
use Rattle.bit_net.specs.declared.nodes.Node.{Node}
use Rattle.bit_net.specs.Value.{bit_at, value}
use Rattle.sat_base.specs.declared.literal.Lit.{Lit}
use Rattle.sat_base.specs.Logic.{at, lit_true, all_true, ClausesBelow}
use Rattle.net_goals.specs.Clauses.{lit_of}
use Rattle.net_goals.specs.Cones.{is_marked}
use Rattle.net_goals.specs.declared.goals.Making.{Making}

-- what an assignment is that goes on from a choice and satisfies the clauses
pub record GoesOn (inputs : ℕ) (m : Making) (c a : List Bool) : Type 0 where
  pub count : length a ≡ m.vars
  pub begins : take inputs a ≡ c
  pub satisfies : all_true (at a) m.clauses ≡ true

-- Each marked gate below `g` has a literal. For each choice just one assignment goes on from it that satisfies the clauses, and it gives each
-- of these gates its value.
pub record AreNumbered (ns : List Node) (inputs : ℕ) (marks : List Bool) (g : ℕ) (m : Making) : Type 0 where
  pub width : length m.lits.items ≡ length ns
  pub room : inputs ≤ m.vars
  pub below : ClausesBelow m.vars m.clauses
  pub filled : List Bool → List Bool
  pub goes : (c : List Bool) → length c ≡ inputs → GoesOn inputs m c (filled c)
  pub only : (c a : List Bool) → length c ≡ inputs → GoesOn inputs m c a → a ≡ filled c
  pub inside : (h : ℕ) → h < g → is_marked marks h ≡ true → (lit_of m.lits.items h).var < m.vars
  pub values : (h : ℕ) → h < g → is_marked marks h ≡ true → (c : List Bool) → length c ≡ inputs
      → lit_true (at (filled c)) (lit_of m.lits.items h) ≡ value (bit_at c) ns h
