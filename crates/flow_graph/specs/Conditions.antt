-- What an encoding asks of a graph besides its order. The temps and slots that nodes name are among those that are
-- counted. The expression of a node has no call and no branch. And on every way to a node that reads a temp or a slot, a
-- node before it kept that one.
use Rattle.std.specs.Prelude.{◌≡◌, ◌<◌, ℕ, suc, nat_eq, Bool, true, false, not, ◌&&◌, ◌||◌, Some, None, List, [], ◌∷◌, ◌++◌, map, if◌then◌else◌}
use Rattle.sc_world.specs.Tree.{Exp, Comma, Assign, Cond, Binary, Cast, Unary, PreInc, PostInc, SizeofExpr, SizeofType, Index, Call, Field, Param, Local, Global, Function, Number, Str, Convert, Temp, TempPlace, Exps, NoExps, Exps'}
use Rattle.sc_world.specs.Source.{Source}
use Rattle.sc_world.specs.Eval.{is_logical}
use Rattle.flow_graph.specs.Nodes.{Node, Keep, KeepCells, CallOf, Update, Set, Fill, Branch, Choose, Mark, MarkSwitch, Exit, SetAside}
use Rattle.flow_graph.specs.Unrolled.{flow}

-- a temp or a slot
pub data Held : Type 0 where
  InTemp : ℕ → Held
  InSlot : ℕ → Held

abbrev pub same : Held → Held → Bool
same (InTemp x) (InTemp y) = nat_eq x y
same (InTemp x) (InSlot y) = false
same (InSlot x) (InTemp y) = false
same (InSlot x) (InSlot y) = nat_eq x y

abbrev pub among : Held → List Held → Bool
among m [] = false
among m (x ∷ xs) = same m x || among m xs

-- the temps that an expression names
abbrev mutual
  pub temps_of : Exp → List ℕ
  temps_of (Comma a b t) = temps_of a ++ temps_of b
  temps_of (Assign o w a b t) = temps_of a ++ temps_of b
  temps_of (Cond a b c t) = temps_of a ++ (temps_of b ++ temps_of c)
  temps_of (Binary o a b t) = temps_of a ++ temps_of b
  temps_of (Cast a t) = temps_of a
  temps_of (Unary o a t) = temps_of a
  temps_of (PreInc s a t) = temps_of a
  temps_of (PostInc s a t) = temps_of a
  temps_of (SizeofExpr a n t) = temps_of a
  temps_of (SizeofType n t) = []
  temps_of (Index a b t) = temps_of a ++ temps_of b
  temps_of (Call p f es t) = temps_of f ++ all_temps_of es
  temps_of (Field a n arrow t) = temps_of a
  temps_of (Param n t) = []
  temps_of (Local n t) = []
  temps_of (Global n t) = []
  temps_of (Function n b t) = []
  temps_of (Number n t) = []
  temps_of (Str p t) = []
  temps_of (Convert a t) = temps_of a
  temps_of (Temp n t) = n ∷ []
  temps_of (TempPlace n t) = n ∷ []

  pub all_temps_of : Exps → List ℕ
  all_temps_of NoExps = []
  all_temps_of (Exps' e es) = temps_of e ++ all_temps_of es

-- what a node reads, and what it keeps
abbrev pub read_by : Node → List Held
read_by (Keep want t e next) = map InTemp (temps_of e)
read_by (KeepCells n e next) = map InTemp (temps_of e)
read_by (CallOf c args t next) = map InTemp args
read_by (Update u want at old right t next) = InTemp at ∷ InTemp old ∷ InTemp right ∷ []
read_by (Set n e next) = map InTemp (temps_of e)
read_by (Fill n xs slots next) = map InSlot slots
read_by (Branch t hit miss) = InTemp t ∷ []
read_by (Choose t n hit miss) = InTemp t ∷ []
read_by (Mark p x next) = []
read_by (MarkSwitch p t from next) = InTemp from ∷ []
read_by (Exit None) = []
read_by (Exit (Some t)) = InTemp t ∷ []
read_by (SetAside r) = []

abbrev pub kept_by : Node → List Held
kept_by (Keep want t e next) = InTemp t ∷ []
kept_by (KeepCells n e next) = InSlot n ∷ []
kept_by (CallOf c args t next) = InTemp t ∷ []
kept_by (Update u want at old right t next) = InTemp t ∷ []
kept_by (Set n e next) = []
kept_by (Fill n xs slots next) = []
kept_by (Branch t hit miss) = []
kept_by (Choose t n hit miss) = []
kept_by (Mark p x next) = []
kept_by (MarkSwitch p t from next) = []
kept_by (Exit from) = []
kept_by (SetAside r) = []

-- Numbers in range.
abbrev pub IsIn : (temps slots : ℕ) → Held → Type 0
IsIn temps slots (InTemp x) = x < temps
IsIn temps slots (InSlot x) = x < slots

abbrev pub AreIn : (temps slots : ℕ) → List Held → Type 0
AreIn temps slots [] = Unit {0}
AreIn temps slots (x ∷ xs) = IsIn temps slots x × AreIn temps slots xs

-- Expressions without calls and branches.
abbrev pub is_plain : Exp → Bool
is_plain (Comma a b t) = is_plain a && is_plain b
is_plain (Assign o w a b t) = is_plain a && is_plain b
is_plain (Cond a b c t) = false
is_plain (Binary o a b t) = not (is_logical o) && (is_plain a && is_plain b)
is_plain (Cast a t) = is_plain a
is_plain (Unary o a t) = is_plain a
is_plain (PreInc s a t) = is_plain a
is_plain (PostInc s a t) = is_plain a
is_plain (SizeofExpr a n t) = is_plain a
is_plain (SizeofType n t) = true
is_plain (Index a b t) = is_plain a && is_plain b
is_plain (Call p f es t) = false
is_plain (Field a n arrow t) = is_plain a
is_plain (Param n t) = true
is_plain (Local n t) = true
is_plain (Global n t) = true
is_plain (Function n b t) = true
is_plain (Number n t) = true
is_plain (Str p t) = true
is_plain (Convert a t) = is_plain a
is_plain (Temp n t) = true
is_plain (TempPlace n t) = true

abbrev pub has_plain : Node → Bool
has_plain (Keep want t e next) = is_plain e
has_plain (KeepCells n e next) = is_plain e
has_plain (CallOf c args t next) = true
has_plain (Update u want at old right t next) = true
has_plain (Set n e next) = is_plain e
has_plain (Fill n xs slots next) = true
has_plain (Branch t hit miss) = true
has_plain (Choose t n hit miss) = true
has_plain (Mark p x next) = true
has_plain (MarkSwitch p t from next) = true
has_plain (Exit from) = true
has_plain (SetAside r) = true

-- a node whose numbers are in range and whose expression is plain
pub record IsFine (temps slots : ℕ) (n : Node) : Type 0 where
  pub reads : AreIn temps slots (read_by n)
  pub keeps : AreIn temps slots (kept_by n)
  pub plain : has_plain n ≡ true

abbrev pub AllFine : (temps slots : ℕ) → List Node → Type 0
AllFine temps slots [] = Unit {0}
AllFine temps slots (n ∷ ns) = IsFine temps slots n × AllFine temps slots ns

-- each number of a temp or slot is one of those that the graph counts, and each expression is plain
abbrev pub NodesAreFine : Type 0
NodesAreFine = (s : Source) → AllFine (flow s).temps (flow s).slots (flow s).nodes

-- What is read was kept. Whether it is so at each node at which a node goes on:
abbrev pub onward : Node → (is_so : ℕ → Bool) → Bool
onward (Keep want t e next) is_so = is_so next
onward (KeepCells n e next) is_so = is_so next
onward (CallOf c args t next) is_so = is_so next
onward (Update u want at old right t next) is_so = is_so next
onward (Set n e next) is_so = is_so next
onward (Fill n xs slots next) is_so = is_so next
onward (Branch t hit miss) is_so = is_so hit && is_so miss
onward (Choose t n hit miss) is_so = is_so hit && is_so miss
onward (Mark p x next) is_so = is_so next
onward (MarkSwitch p t from next) is_so = is_so next
onward (Exit from) is_so = true
onward (SetAside r) is_so = true

-- a node does not read it, and keeps it, or else it is so from there on
abbrev pub kept_at : Held → Node → (is_so : ℕ → Bool) → Bool
kept_at m n is_so = not (among m (read_by n)) && (among m (kept_by n) || onward n is_so)

-- whether on every way from a node no node reads m but behind one that keeps it; the list has the nodes from number
-- `first` on
abbrev pub kept_first : Held → (first : ℕ) → List Node → (at : ℕ) → Bool
kept_first m first [] at = true
kept_first m first (n ∷ ns) at =
    if nat_eq at first then kept_at m n (kept_first m (suc first) ns) else kept_first m (suc first) ns at

-- on every way from the first node to one that reads a temp or slot, a node before it keeps that one
abbrev pub WhatIsReadWasKept : Type 0
WhatIsReadWasKept = (s : Source) (m : Held) → kept_first m 0 (flow s).nodes 0 ≡ true
