-- How many nodes a graph has, held against the tree with its loops unrolled.
use Rattle.std.specs.Prelude.{◌≤◌, ℕ, zero, suc, ◌+◌, ◌*◌, Option, Some, None, List, [], ◌∷◌, length}
use Rattle.sc_world.specs.Tree.{Exp, Comma, Assign, Cond, Binary, Cast, Unary, PreInc, PostInc, SizeofExpr, SizeofType, Index, Call, Field, Param, Local, Global, Function, Number, Str, Convert, Temp, TempPlace, Exps, NoExps, Exps', Given, Init, NoInit, One, Braces, Dec, Start, NoStart, Begin, Declare, Stm, Block, Decl, Evaluate, If, IfElse, While, Do, For, Switch, Case, Default, Goto, Break, Continue, Return, Label, Stms, NoStms, Stms'}
use Rattle.sc_world.specs.Source.{Source}
use Rattle.flow_graph.specs.Unrolled.{flow}

-- the nodes of a tree
abbrev mutual
  pub size : Exp → ℕ
  size (Comma a b t) = 1 + (size a + size b)
  size (Assign o w a b t) = 1 + (size a + size b)
  size (Cond a b c t) = 1 + (size a + (size b + size c))
  size (Binary o a b t) = 1 + (size a + size b)
  size (Cast a t) = 1 + size a
  size (Unary o a t) = 1 + size a
  size (PreInc s a t) = 1 + size a
  size (PostInc s a t) = 1 + size a
  size (SizeofExpr a n t) = 1 + size a
  size (SizeofType n t) = 1
  size (Index a b t) = 1 + (size a + size b)
  size (Call p f es t) = 1 + (size f + all_sizes es)
  size (Field a n arrow t) = 1 + size a
  size (Param n t) = 1
  size (Local n t) = 1
  size (Global n t) = 1
  size (Function n b t) = 1
  size (Number n t) = 1
  size (Str p t) = 1
  size (Convert a t) = 1 + size a
  size (Temp n t) = 1
  size (TempPlace n t) = 1

  pub all_sizes : Exps → ℕ
  all_sizes NoExps = 0
  all_sizes (Exps' e es) = size e + all_sizes es

abbrev pub size_if : Option Exp → ℕ
size_if None = 0
size_if (Some e) = size e

abbrev pub given_sizes : List Given → ℕ
given_sizes [] = 0
given_sizes (x ∷ xs) = 1 + (size x.value + given_sizes xs)

abbrev pub init_size : Init → ℕ
init_size NoInit = 0
init_size (One e) = size e
init_size (Braces xs) = given_sizes xs

abbrev pub dec_sizes : List Dec → ℕ
dec_sizes [] = 0
dec_sizes (d ∷ ds) = 1 + (init_size d.init + dec_sizes ds)

abbrev pub start_size : Start → ℕ
start_size NoStart = 0
start_size (Begin e) = size e
start_size (Declare ds) = dec_sizes ds

abbrev pub times : (k n : ℕ) → ℕ
times zero n = 0
times (suc k) n = n + times k n

-- the nodes of a statement with its loops unrolled: a loop has its condition and its body as often as the depth says, and
-- its condition once more
module _ (depth : ℕ) where
  abbrev mutual
    pub unrolled : Stm → ℕ
    unrolled (Block ss end) = 1 + all_unrolled ss
    unrolled (Decl ds) = 1 + dec_sizes ds
    unrolled (Evaluate e) = 1 + size_if e
    unrolled (If p e s) = 1 + (size e + unrolled s)
    unrolled (IfElse p e s r) = 1 + (size e + (unrolled s + unrolled r))
    unrolled (While p e s) = 1 + (size e + times depth (1 + (size e + unrolled s)))
    unrolled (Do p s e) = 1 + times depth (1 + (size e + unrolled s))
    unrolled (For p f c n s) =
        1 + (start_size f + (size_if c + times depth (1 + (size_if c + (size_if n + unrolled s)))))
    unrolled (Switch p e ss) = 1 + (size e + all_unrolled ss)
    unrolled (Case n e) = 1
    unrolled Default = 1
    unrolled (Goto p n) = 1
    unrolled Break = 1
    unrolled Continue = 1
    unrolled (Return p e) = 1 + size_if e
    unrolled (Label n s) = 1 + unrolled s

    pub all_unrolled : Stms → ℕ
    all_unrolled NoStms = 0
    all_unrolled (Stms' s rest) = unrolled s + all_unrolled rest

-- at most three nodes for each node of the unrolled tree, and two for the end
abbrev pub GraphsAreSmall : Type 0
GraphsAreSmall = (s : Source) → length (flow s).nodes ≤ 2 + 3 * unrolled s.depth s.body
