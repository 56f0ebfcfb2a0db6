-- Two values that an assignment by an operator combines.
use Rattle.std.specs.Prelude.{◌≡◌, true, false, Some}
use Rattle.gl_store.specs.declared.values.Val.{Val}
use Rattle.gl_store.specs.Meets.{val_kind}
use Rattle.run_laws.specs.Fits.{TypesMeet}
use Rattle.sc_world.specs.Tree.{Ty, is_integer}
use Rattle.sc_world.specs.Source.{Source}
use Rattle.sc_world.specs.World.{kind_of_type}
use Rattle.sc_world.specs.Eval.{is_logical}
use Rattle.flow_graph.specs.Nodes.{Updating}

-- the left one has the type of the object, the right one an integer type by which the operator works
pub record CanCombine (s : Source) (u : Updating) (x y : Val) : Type 0 where
  pub plain : is_logical u.op ≡ false
  pub object : is_integer u.ctype ≡ true
  pub works : is_integer u.works ≡ true
  pub left : val_kind x ≡ kind_of_type s (Some u.ctype)
  pub right : Ty
  pub integer : is_integer right ≡ true
  pub meet : TypesMeet u.op u.works right u.works
  pub kind : val_kind y ≡ kind_of_type s (Some right)
