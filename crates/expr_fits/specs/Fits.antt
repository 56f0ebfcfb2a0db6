-- Which expressions of a graph have gates: they fit the layout over temps, without calls and branches.
use Rattle.std.specs.Prelude.{◌≡◌, ℕ, ◌^◌, nat_lt, Bool, true, ◌&&◌, List}
use Rattle.sc_world.specs.Tree.{Ty, int_bits, Exp, Comma, Assign, Cond, Binary, Cast, Unary, PreInc, PostInc, SizeofExpr, SizeofType, Index, Call, Field, Param, Local, Global, Function, Number, Str, Convert, Temp, TempPlace}
use Rattle.sc_world.specs.Source.{Source}
use Rattle.sc_world.specs.Eval.{Want}
use Rattle.flow_graph.specs.Conditions as graph
use Rattle.flow_types.specs.Kinds as flow
use Rattle.expr_fits.specs.declared.around.Around.{Around}
use Rattle.expr_fits.specs.Around.{layout_of, source_of, temps_of}
use Rattle.expr_fits.specs.Temps.{HaveKinds}

-- each constant, and each size, is a number of the width of its type
abbrev pub fits_width : Source → Ty → ℕ → Bool
fits_width s t n = nat_lt n (2 ^ int_bits s.widths t)

abbrev pub constants_fit : Source → Exp → Bool
constants_fit s (Comma a b t) = constants_fit s a && constants_fit s b
constants_fit s (Assign o works a b t) = constants_fit s a && constants_fit s b
constants_fit s (Cond a b c t) = true
constants_fit s (Binary o a b t) = constants_fit s a && constants_fit s b
constants_fit s (Cast a t) = constants_fit s a
constants_fit s (Unary o a t) = constants_fit s a
constants_fit s (PreInc d a t) = constants_fit s a
constants_fit s (PostInc d a t) = constants_fit s a
constants_fit s (SizeofExpr a n t) = fits_width s t n
constants_fit s (SizeofType n t) = fits_width s t n
constants_fit s (Index a b t) = constants_fit s a && constants_fit s b
constants_fit s (Call x f es t) = true
constants_fit s (Field a n arrow t) = constants_fit s a
constants_fit s (Param n t) = true
constants_fit s (Local n t) = true
constants_fit s (Global n t) = true
constants_fit s (Function n b t) = true
constants_fit s (Number n t) = fits_width s t n
constants_fit s (Str x t) = true
constants_fit s (Convert a t) = constants_fit s a
constants_fit s (Temp n t) = true
constants_fit s (TempPlace n t) = true

-- An expression of a node of a graph: it fits the layout, each temp that it names has the kind by which it fits, and it has
-- no call and no branch.
pub record CanWalk (a : Around) (want : Want) (e : Exp) : Type 0 where
  pub kept : flow.Kinds
  pub have : HaveKinds (source_of a) kept.temps (temps_of a) (graph.temps_of e)
  pub fits : flow.FitsOver kept (layout_of a) want e
  pub plain : graph.is_plain e ≡ true
  pub constants : constants_fit (source_of a) e ≡ true

-- All of that but for what the temps have in the gates: it is so for temps that keep what a list says.
pub record Walkable (a : Around) (kept : List flow.Kind) (want : Want) (e : Exp) : Type 0 where
  pub fits : (k : flow.Kinds) → k.temps ≡ kept → flow.FitsOver k (layout_of a) want e
  pub plain : graph.is_plain e ≡ true
  pub constants : constants_fit (source_of a) e ≡ true
