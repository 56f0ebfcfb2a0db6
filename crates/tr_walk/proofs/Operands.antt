-- What `+=` and its kin ask of their operands, in the words of the code: r is the operator that it reads of an assignment, w the
-- type that it reads of the right side.
use Rattle.std.proofs.Common.{◌≡◌, Option, Some, List, if◌then◌else◌, refl, sym, ◌∙◌, ap, subst}
use Rattle.bit_net.specs.declared.nodes.Node.{Node}
use Rattle.gl_sets.specs.declared.sets.Set.{Set as Sets}
use Rattle.gl_store.specs.declared.values.Val.{Val}
use Rattle.gl_store.specs.declared.stores.Location.{Location}
use Rattle.gl_store.specs.Meets.{val_kind}
use Rattle.gate_changes.specs.Changes.{CombineFits}
use Rattle.gate_places.specs.Places.{DoesFind}
use Rattle.sc_tree.specs.declared.op.AssignOp.{AssignOp}
use Rattle.sc_tree.specs.declared.op.BinaryOp.{BinaryOp}
use Rattle.sc_world.specs.Tree.{Ty, Exp, Assign, type_of}
use Rattle.sc_world.specs.View.{operator}
use Rattle.sc_world.specs.World.{kind_of_type}
use Rattle.sc_world.specs.Eval.{Want, Value, Place'}
use Rattle.run_store.specs.Concrete.{Pointers}
use Rattle.run_laws.specs.Fits.{if_scalar}
use Rattle.gate_runs.specs.declared.ends.Ends.{Ends}
use Rattle.tr_walk.specs.Walks.{Walks}
use Rattle.expr_fits.specs.declared.around.Around.{Around}
use Rattle.expr_fits.specs.Around.{layout_of, source_of}
use Rattle.expr_fits.specs.Fits.{CanWalk}
use Rattle.expr_fits.specs.Temps.{HasKindFor}
use Rattle.tr_walk.proofs.Behind.{found_kind}
use Rattle.tr_walk.proofs.Types.{assigning, cell_kind, combined_types, integer_cell}

module _ (a : Around) (want : Want) where
  as_combined : (o r : Option BinaryOp) (b : BinaryOp) (works : Ty) (x y : Exp) (t : Ty) → r ≡ o → r ≡ Some b → CanWalk a want (Assign o works x y t)
      → CanWalk a want (Assign (Some b) works x y t)
  as_combined o r b works x y t is some h = subst (λ z. CanWalk a want (Assign z works x y t)) (sym is ∙ some) h

  pub combine_types : (q : AssignOp) (r : Option BinaryOp) (b : BinaryOp) (works : Ty) (x y : Exp) (t w : Ty) → r ≡ operator q → r ≡ Some b → w ≡ type_of y
      → CanWalk a want (Assign (operator q) works x y t) → CombineFits (source_of a) b works t w
  combine_types q r b works x y t w is some right h =
      let here = as_combined (operator q) r b works x y t is some h in
      subst (λ z. CombineFits (source_of a) b works t z) (sym right)
      (combined_types (source_of a) b works (type_of y) t (assigning (source_of a) q b (sym some ∙ is)) here.fits.3 here.fits.4 here.fits.5 here.fits.6)

  pub combined_kind : (o r : Option BinaryOp) (b : BinaryOp) (works : Ty) (x y : Exp) (t w : Ty) (v : Val) → r ≡ o → r ≡ Some b → w ≡ type_of y
      → CanWalk a want (Assign o works x y t) → HasKindFor (source_of a) Value (type_of y) v → val_kind v ≡ kind_of_type (source_of a) (Some w)
  combined_kind o r b works x y t w v is some right h kind =
      cell_kind (source_of a) (type_of y) v (integer_cell (type_of y) ((as_combined o r b works x y t is some h).fits.5)) kind
      ∙ ap (λ z. kind_of_type (source_of a) (Some z)) (sym right)

  -- what is read at the place on the left
  pub combined_old : (o r : Option BinaryOp) (b : BinaryOp) (works : Ty) (x y : Exp) (t : Ty) (ns : List Node) (l : List Location) (q : Sets) (v : Val) → r ≡ o → r ≡ Some b
      → CanWalk a want (Assign o works x y t) → DoesFind (source_of a) (layout_of a) ns l Value t q.pairs.items v
      → val_kind v ≡ kind_of_type (source_of a) (Some t)
  combined_old o r b works x y t ns l q v is some h found =
      found_kind (source_of a) (layout_of a) ns l q v t ((as_combined o r b works x y t is some h).fits.3) found

  -- a number that is combined is wanted as a value
  pub value_wanted : (o r : Option BinaryOp) (b : BinaryOp) (works : Ty) (x y : Exp) (t : Ty) → r ≡ o → r ≡ Some b → CanWalk a want (Assign o works x y t)
      → if_scalar t ≡ Value
  value_wanted o r b works x y t is some h =
      ap (λ c. if c then Value else Place') (integer_cell t ((as_combined o r b works x y t is some h).fits.3))

  -- a place that was walked to is a pointer
  pub place_kind : (ns : List Node) (w : Want) (x : Exp) (l0 l1 : List Location) (g0 g1 : Ends) (v : Val) → w ≡ Place' → Walks a ns w x l0 l1 g0 g1 v → val_kind v ≡ Pointers
  place_kind ns w x l0 l1 g0 g1 v is h = (subst (λ z. HasKindFor (source_of a) z (type_of x) v) is h.kind) refl
