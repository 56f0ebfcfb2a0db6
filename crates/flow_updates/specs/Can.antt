-- What is asked of an assignment by an operator to a kept place.
use Rattle.std.specs.Prelude.{◌≡◌, ℕ, false, [], ◌∷◌, length}
use Rattle.sc_world.specs.Source.{Source}
use Rattle.sc_world.specs.Layout.{Layout}
use Rattle.sc_world.specs.Eval.{Want, is_logical}
use Rattle.flow_graph.specs.Nodes.{Updating, Update}
use Rattle.flow_types.specs.Kinds as flow
use Rattle.flow_types.specs.Nodes.{NodeFits}
use Rattle.flow_turns.specs.declared.temps.Temps.{Temps}
use Rattle.flow_gates.specs.Steps.{HaveTheirKinds}

-- It fits the layout over temps that have their kinds, and its operator is no `&&` and no `||`.
pub record CanUpdate (s : Source) (p : Layout) (t : Temps) (u : Updating) (want : Want) (place former right : ℕ) : Type 0 where
  pub kinds : flow.Kinds
  pub temp : ℕ
  pub next : ℕ
  pub count : length t.vals.items ≡ length kinds.temps
  pub fits : NodeFits s p kinds (Update u want place former right temp next)
  pub have : HaveTheirKinds s kinds t (place ∷ former ∷ right ∷ [])
  pub plain : is_logical u.op ≡ false
