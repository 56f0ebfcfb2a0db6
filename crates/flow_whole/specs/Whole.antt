-- Which nodes have gates, and when look-ups are those of a function.
use Rattle.std.specs.Prelude.{◌≡◌, Bool, true, false, List, [], ◌∷◌}
use Rattle.sc_world.specs.Source.{Source}
use Rattle.sc_world.specs.Layout.{Layout}
use Rattle.sc_world.specs.Eval.{is_logical}
use Rattle.sc_flow.specs.declared.node.Calling.{Calling}
use Rattle.sc_flow.specs.declared.node.Expression.{Expression}
use Rattle.sc_flow.specs.declared.node.Expression.TheVariants as expr
use Rattle.sc_flow.specs.declared.node.Node.{Node}
use Rattle.sc_flow.specs.declared.node.Node.TheVariants as code
use Rattle.flow_fills.specs.declared.laid.Laid.{Laid}
use Rattle.flow_fills.specs.Laid.{IsLooked, source_of, layout_of}

-- what is read is the function's, and the look-ups are those of its layout
pub record IsOf (s : Source) (p : Layout) (l : Laid) : Type 0 where
  pub looked : IsLooked l
  pub source : source_of l ≡ s
  pub layout : layout_of l ≡ p

-- the expression has its type with it, as all have that give a value to a local
abbrev pub HasType : Expression → Type 0
HasType expr.Nothing = ⊥
HasType (expr.Former n t) = ⊥
HasType _ = Unit {0}

-- Which nodes have gates. The operator of an assignment is no `&&` and no `||`.
module _ (takes : Expression → Bool) (makes : Calling → Bool) where
  abbrev pub HasGates : Node → Type 0
  HasGates (code.Keep want temp e next) = takes e ≡ true
  HasGates (code.KeepCells slot e next) = (takes e ≡ true) × HasType e
  HasGates (code.Call c args temp next) = makes c ≡ true
  HasGates (code.Update u want place former right temp next) = is_logical u.op ≡ false
  HasGates (code.Set n e next) = (takes e ≡ true) × HasType e
  HasGates (code.Fill n xs slots next) = Unit {0}
  HasGates (code.Branch from hit miss) = Unit {0}
  HasGates (code.Choose from number hit miss) = Unit {0}
  HasGates (code.Mark pos event next) = Unit {0}
  HasGates (code.MarkSwitch pos t from next) = Unit {0}
  HasGates (code.Exit from) = Unit {0}
  HasGates (code.SetAside reason) = Unit {0}

  abbrev pub AllHaveGates : List Node → Type 0
  AllHaveGates [] = Unit {0}
  AllHaveGates (n ∷ ns) = HasGates n × AllHaveGates ns

-- the node evaluates an expression or makes a call
abbrev pub MakesStep : Node → Type 0
MakesStep (code.Keep want temp e next) = Unit {0}
MakesStep (code.Call c args temp next) = Unit {0}
MakesStep (code.Set n e next) = Unit {0}
MakesStep _ = ⊥

-- the node keeps cells, sets an object to kept cells, or assigns by an operator
abbrev pub Assigns : Node → Type 0
Assigns (code.Update u want place former right temp next) = Unit {0}
Assigns (code.KeepCells slot e next) = Unit {0}
Assigns (code.Fill n xs slots next) = Unit {0}
Assigns _ = ⊥

-- the node only leads on, ends the run or leaves the function
abbrev pub Turns : Node → Type 0
Turns (code.Branch from hit miss) = Unit {0}
Turns (code.Choose from number hit miss) = Unit {0}
Turns (code.Mark pos event next) = Unit {0}
Turns (code.MarkSwitch pos t from next) = Unit {0}
Turns (code.Exit from) = Unit {0}
Turns (code.SetAside reason) = Unit {0}
Turns _ = ⊥
