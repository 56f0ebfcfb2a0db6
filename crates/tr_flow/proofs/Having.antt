-- All nodes of a list that passes the test have gates.
use Rattle.std.proofs.Common.{◌≡◌, Bool, true, false, not, List, [], ◌∷◌, refl, sym}
use Rattle.std.proofs.lemmas.Bool.{true≢false, and_parts}
use Rattle.sc_world.specs.Source.{Source}
use Rattle.sc_world.specs.Layout.{Layout}
use Rattle.flow_whole.specs.Whole.{AllHaveGates, HasGates, HasType}
use Rattle.sc_world.specs.Eval.{is_logical}
use Rattle.sc_flow.specs.declared.node.Expression.{Expression}
use Rattle.sc_flow.specs.declared.node.Expression.TheVariants as expr
use Rattle.sc_flow.specs.declared.node.Node.{Node}
use Rattle.sc_flow.specs.declared.node.Node.TheVariants as code
use Rattle.tr_flow.specs.Taken.{all_have, has_type, makes, node_has, takes}

not_so : (b : Bool) → not b ≡ true → b ≡ false
not_so true h = absurd (true≢false (sym h))
not_so false h = refl

typed : (e : Expression) → has_type e ≡ true → HasType e
typed (expr.Source e) h = tt
typed (expr.Over e x y) h = tt
typed (expr.Temp n t) h = tt
typed (expr.TempPlace n t) h = tt
typed (expr.Former n t) h = absurd (true≢false (sym h))
typed (expr.Truth b t) h = tt
typed expr.Nothing h = absurd (true≢false (sym h))

module _ (s : Source) (p : Layout) where
  has_gates : (n : Node) → node_has s p n ≡ true → HasGates (takes s) (makes s p) n
  has_gates (code.Keep want temp e next) h = h
  has_gates (code.KeepCells slot e next) h =
      let parts = and_parts (takes s e) (has_type e) h in
      (parts.0, typed e parts.1)
  has_gates (code.Call c args temp next) h = h
  has_gates (code.Update u want place former right temp next) h = not_so (is_logical u.op) h
  has_gates (code.Set n e next) h =
      let parts = and_parts (takes s e) (has_type e) h in
      (parts.0, typed e parts.1)
  has_gates (code.Fill n xs slots next) h = tt
  has_gates (code.Branch from hit miss) h = tt
  has_gates (code.Choose from number hit miss) h = tt
  has_gates (code.Mark pos event next) h = tt
  has_gates (code.MarkSwitch pos t from next) h = tt
  has_gates (code.Exit from) h = tt
  has_gates (code.SetAside reason) h = tt

  pub all_have_gates : (ns : List Node) → all_have s p ns ≡ true → AllHaveGates (takes s) (makes s p) ns
  all_have_gates [] h = tt
  all_have_gates (n ∷ ns) h =
      let parts = and_parts (node_has s p n) (all_have s p ns) h in
      (has_gates n parts.0, all_have_gates ns parts.1)
