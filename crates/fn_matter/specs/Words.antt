-- Trees of numbers, and the lists that spell them. A node is spelled by its kind, the number of its numbers, these, and its
-- parts, each behind a 1, with a 0 behind the last; so a list is read in one way.
use Rattle.std.specs.Prelude.{ℕ, List, [], ◌∷◌, ◌++◌, length}

mutual
  pub data Tree : Type 0 where
    node : (kind : ℕ) → (numbers : List ℕ) → (parts : Trees) → Tree

  pub data Trees : Type 0 where
    none : Trees
    more : Tree → Trees → Trees

abbrev mutual
  pub words : Tree → List ℕ
  words (node k ns ts) = k ∷ length ns ∷ (ns ++ words_all ts)

  pub words_all : Trees → List ℕ
  words_all none = 0 ∷ []
  words_all (more t ts) = 1 ∷ (words t ++ words_all ts)

abbrev pub trees : List Tree → Trees
trees [] = none
trees (t ∷ ts) = more t (trees ts)

-- a node without parts
abbrev pub leaf : (kind : ℕ) → (numbers : List ℕ) → Tree
leaf k ns = node k ns none

-- The same behind numbers that stand already, as they are written one after the other. That these are the numbers and then
-- the words of the tree is a law.

abbrev pub begun : (kind : ℕ) → (numbers : List ℕ) → List ℕ → List ℕ
begun k ns ws = ws ++ (k ∷ length ns ∷ ns)

abbrev pub marked : List ℕ → List ℕ
marked ws = ws ++ 1 ∷ []

abbrev pub ended : List ℕ → List ℕ
ended ws = ws ++ 0 ∷ []

abbrev mutual
  pub spell : Tree → List ℕ → List ℕ
  spell (node k ns ts) ws = spell_all ts (begun k ns ws)

  pub spell_all : Trees → List ℕ → List ℕ
  spell_all none ws = ended ws
  spell_all (more t ts) ws = spell_all ts (spell t (marked ws))
