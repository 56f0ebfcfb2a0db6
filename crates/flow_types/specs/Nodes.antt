-- Nodes that fit: each reads from a temp or a slot what is kept there, and keeps there what it is for.
use Rattle.std.specs.Prelude.{◌≡◌, ℕ, true, Some, None, List, [], ◌∷◌, length, slice_get}
use Rattle.sc_world.specs.declared.run.Origin.TheVariants as origin
use Rattle.sc_world.specs.Tree.{Ty, is_integer, Exps, NoExps, Exps', type_of, Given}
use Rattle.sc_world.specs.Source.{Source}
use Rattle.sc_world.specs.Layout.{Layout, location, location_of, has_type, same_pos, site_at}
use Rattle.sc_world.specs.Exec.{part_at, env_of}
use Rattle.run_laws.specs.Fits.{is_scalar, if_scalar, IsThere, TypesMeet, CallFits}
use Rattle.run_laws.specs.Functions.{FunctionFits}
use Rattle.flow_graph.specs.Nodes.{Node, Keep, KeepCells, CallOf, Update, Updating, Set, Fill, Branch, Choose, Mark, MarkSwitch, Exit, SetAside}
use Rattle.flow_graph.specs.Unrolled.{flow}
use Rattle.flow_types.specs.Kinds.{ValueOf, PlaceOf, Kinds, IsKept, KeepsSome, IsFor, FitsOver}

module _ (s : Source) (p : Layout) (k : Kinds) where
  -- the temps keep values of the types of these arguments, one after another
  abbrev pub KeepArguments : List ℕ → Exps → Type 0
  KeepArguments [] NoExps = Unit {0}
  KeepArguments [] (Exps' e es) = ⊥
  KeepArguments (n ∷ ns) NoExps = ⊥
  KeepArguments (n ∷ ns) (Exps' e es) = IsKept k n (ValueOf (type_of e)) × KeepArguments ns es

  -- the slots keep values of the types of these, each for a part of that type of the object
  abbrev pub KeepParts : (object : ℕ) → List ℕ → List Given → Type 0
  KeepParts at [] [] = Unit {0}
  KeepParts at [] (x ∷ xs) = ⊥
  KeepParts at (n ∷ ns) [] = ⊥
  KeepParts at (n ∷ ns) (x ∷ xs) =
      (slice_get k.slots n ≡ Some (type_of x.value))
      × ((to : ℕ) → part_at (env_of s p []) at x.way ≡ Some to → has_type (location p to) (type_of x.value) ≡ true)
      × KeepParts at ns xs

  -- the temp keeps the right side of an assignment by an operator, brought to the type in which it works
  abbrev pub KeepsOperand : Updating → ℕ → Type 0
  KeepsOperand u n = (t : Ty) × IsKept k n (ValueOf t) × (is_integer t ≡ true) × TypesMeet u.op u.works t u.works

  abbrev pub local : ℕ → ℕ
  local n = location_of p (origin.Local n)

  abbrev pub NodeFits : Node → Type 0
  NodeFits (Keep want n e next) = FitsOver k p want e × IsFor k want (type_of e) n
  NodeFits (KeepCells n e next) =
      FitsOver k p (if_scalar (type_of e)) e × (slice_get k.slots n ≡ Some (type_of e))
  -- the arguments of the call, the type that it has by what it does, and its bracket
  NodeFits (CallOf c args n next) =
      (es : Exps) × KeepArguments args es × CallFits es c.result (site_at p c.place.token).site.effect
      × (same_pos c.place.token (site_at p c.place.token).site.bracket ≡ true) × IsKept k n (ValueOf c.result)
  NodeFits (Update u want at old right n next) =
      IsKept k at (PlaceOf u.ctype) × IsKept k old (ValueOf u.ctype) × KeepsOperand u right
      × (is_integer u.ctype ≡ true) × (is_integer u.works ≡ true) × IsFor k want u.ctype n
  NodeFits (Set n e next) =
      IsThere p (origin.Local n) × FitsOver k p (if_scalar (type_of e)) e
      × (has_type (location p (local n)) (type_of e) ≡ true)
  NodeFits (Fill n xs slots next) = IsThere p (origin.Local n) × KeepParts (local n) slots xs
  NodeFits (Branch n hit miss) = KeepsSome k is_scalar n
  NodeFits (Choose n number hit miss) = KeepsSome k is_integer n
  NodeFits (Mark q x next) = Unit {0}
  NodeFits (MarkSwitch q t n next) = IsKept k n (ValueOf t) × (is_integer t ≡ true)
  NodeFits (Exit None) = Unit {0}
  NodeFits (Exit (Some n)) = IsKept k n (ValueOf s.result)
  NodeFits (SetAside r) = Unit {0}

  abbrev pub AllFit : List Node → Type 0
  AllFit [] = Unit {0}
  AllFit (n ∷ ns) = NodeFits n × AllFit ns

-- Each temp and each slot of the graph has one kind, by which all nodes fit.
pub record AreOfOneType (s : Source) (p : Layout) : Type 0 where
  pub kinds : Kinds
  pub temps : length kinds.temps ≡ (flow s).temps
  pub slots : length kinds.slots ≡ (flow s).slots
  pub nodes : AllFit s p kinds (flow s).nodes

abbrev pub TempsAreOfOneType : Type 0
TempsAreOfOneType = (s : Source) (p : Layout) → FunctionFits s p → AreOfOneType s p
