-- What an operator does to values and to the store depends on the program, the layout and the choice alone, and neither
-- on what is kept nor on the turn.
use Rattle.std.proofs.Common.{◌≡◌, ℕ, zero, suc, Bool, List, refl, ap, ◌∙◌}
use Rattle.sc_tree.specs.declared.op.BinaryOp.{BinaryOp}
use Rattle.sc_tree.specs.declared.op.UnaryOp.{UnaryOp}
use Rattle.sc_tree.specs.declared.op.Step.{Step}
use Rattle.run_store.specs.Concrete.{Cell, Number as Num, Pointer, Nothing}
use Rattle.sc_world.specs.Tree.{Ty, promoted_type, int_bits}
use Rattle.sc_world.specs.Source.{Source}
use Rattle.sc_world.specs.Layout.{Layout}
use Rattle.sc_world.specs.World.{World, done, reach_from, dereference, target_of}
use Rattle.sc_world.specs.Eval.{convert, operated, signed_as, counted, one_step, combined}
use Rattle.flow_graph.specs.Nodes.{Kept, reads, in_tree}
use Rattle.flow_graph.proofs.Steps.{goes_cong}

module _ (s : Source) (p : Layout) (choice : List Bool) (k : Kept) (turn : ℕ) where
  pub convert_same : (t u : Ty) (c : Cell) → convert (reads s p choice k) t u c ≡ convert (in_tree s p choice turn) t u c
  convert_same t u (Num w n) = refl
  convert_same t u (Pointer n) = refl
  convert_same t u Nothing = refl

  pub operated_same : (o : BinaryOp) (t r : Ty) (x y : Cell)
      → operated (reads s p choice k) o t r x y ≡ operated (in_tree s p choice turn) o t r x y
  operated_same o t r (Num v m) (Num w n) = refl
  operated_same o t r (Num v m) (Pointer q) = refl
  operated_same o t r (Num v m) Nothing = refl
  operated_same o t r (Pointer q) (Num w n) = refl
  operated_same o t r (Pointer q) (Pointer q') = refl
  operated_same o t r (Pointer q) Nothing = refl
  operated_same o t r Nothing y = refl

  pub signed_same : (o : UnaryOp) (t : Ty) (c : Cell)
      → signed_as (reads s p choice k) o t c ≡ signed_as (in_tree s p choice turn) o t c
  signed_same o t (Num w n) = refl
  signed_same o t (Pointer n) = refl
  signed_same o t Nothing = refl

  pub counted_same : (d : Step) (t : Ty) (c : Cell) (w : World)
      → counted (reads s p choice k) d t c w ≡ counted (in_tree s p choice turn) d t c w
  counted_same d t c w =
      goes_cong _ _ _ _
      (ap (λ x. operated (reads s p choice k) (one_step d) (promoted_type t) (promoted_type t) x
      (Num (int_bits s.widths (promoted_type t)) 1) w)
      (convert_same t (promoted_type t) c)
      ∙ ap (λ m. m w)
      (operated_same (one_step d) (promoted_type t) (promoted_type t)
      (convert (in_tree s p choice turn) t (promoted_type t) c)
      (Num (int_bits s.widths (promoted_type t)) 1)))
      (λ v w'. ap (λ x. done x w') (convert_same (promoted_type t) t v))

  reach_from_same : (n : ℕ) (w : World) → reach_from (reads s p choice k) n w ≡ reach_from (in_tree s p choice turn) n w
  reach_from_same zero w = refl
  reach_from_same (suc n) w = refl

  pub dereference_same : (t : Ty) (c : Cell) (w : World)
      → dereference (reads s p choice k) t c w ≡ dereference (in_tree s p choice turn) t c w
  dereference_same t c w = goes_cong _ _ _ _ (reach_from_same (target_of c) w) (λ at w'. refl)

  pub combined_same : (o : BinaryOp) (works t : Ty) (old v : Cell) (w : World)
      → combined (reads s p choice k) o works t old v w ≡ combined (in_tree s p choice turn) o works t old v w
  combined_same o works t old v w =
      goes_cong _ _ _ _
      (ap (λ x. operated (reads s p choice k) o works works x v w) (convert_same t works old)
      ∙ ap (λ m. m w) (operated_same o works works (convert (in_tree s p choice turn) t works old) v))
      (λ r w'. ap (λ x. done x w') (convert_same works t r))
