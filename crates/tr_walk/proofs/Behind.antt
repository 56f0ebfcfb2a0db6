-- What each operator promises behind its operands, and what its gates ask of them. u and w are the types that the code reads
-- of the operands, i and j values whose set or word is taken out.
use Rattle.std.proofs.Common.{◌≡◌, Bool, true, false, if◌then◌else◌, Option, Some, None, List, length, refl, sym, ◌∙◌, ap, subst}
use Rattle.std.proofs.lemmas.Bool.{true≢false}
use Rattle.bit_net.specs.declared.nodes.Node.{Node}
use Rattle.bit_net.specs.Runs.{Grown}
use Rattle.bit_words.specs.declared.Word.{Word as Words}
use Rattle.gl_sets.specs.declared.sets.Set.{Set as Sets}
use Rattle.gl_store.specs.declared.values.Val.{Val}
use Rattle.gl_store.specs.declared.values.Val.TheVariants.{Word, Set}
use Rattle.gl_store.specs.declared.stores.Location.{Location}
use Rattle.gl_store.specs.Meets.{val_kind}
use Rattle.gate_runs.specs.declared.ends.Ends.{Ends}
use Rattle.gate_runs.specs.Stands.{AreEnds}
use Rattle.gate_places.specs.Places.{DoesAssign, DoesFind, DoesIndirect, DoesIndex, DoesMember, DoesMemberBehind, IsFirstElement}
use Rattle.gate_elements.specs.Elements.{DoesElement}
use Rattle.gate_copies.specs.Copies.{DoesCopy}
use Rattle.run_store.specs.Concrete.{Pointers}
use Rattle.run_laws.specs.Fits.{is_scalar, Indexed}
use Rattle.sc_base.specs.declared.pos.NameId.{NameId}
use Rattle.sc_tree.specs.declared.op.BinaryOp.{BinaryOp}
use Rattle.sc_tree.specs.declared.op.UnaryOp.{UnaryOp}
use Rattle.sc_tree.specs.declared.op.UnaryOp.TheVariants as sign
use Rattle.sc_tree.specs.declared.op.Step.{Step}
use Rattle.sc_world.specs.Tree.{Ty, is_integer, is_pointer, is_array, Exp, Assign, Binary, Cast, Unary, PreInc, PostInc, Index, Field, Convert, type_of}
use Rattle.sc_world.specs.Source.{Source}
use Rattle.sc_world.specs.Layout.{Layout}
use Rattle.sc_world.specs.World.{kind_of_type}
use Rattle.sc_world.specs.Eval.{Want, Value, Place'}
use Rattle.tr_expr.specs.Evals.{Operates, IsOfUnary}
use Rattle.tr_expr.specs.Plain.{AreAlike, Integers, PointersBoth, BinaryFits, UnaryFits}
use Rattle.expr_fits.specs.declared.around.Around.{Around}
use Rattle.expr_fits.specs.Around.{layout_of, source_of}
use Rattle.expr_fits.specs.Here.{object_wanted, operand_wanted}
use Rattle.expr_fits.specs.Operands.{Applies}
use Rattle.expr_fits.specs.Temps.{HasKindFor}
use Rattle.tr_walk.specs.Behind.{BehindOne, BehindBoth, Changes}
use Rattle.tr_walk.specs.Leaves.{Converts}
use Rattle.tr_walk.specs.Walks.{Walks, takes_value}
use Rattle.tr_walk.specs.declared.operators.Change.{Change}
use Rattle.tr_walk.specs.declared.operators.Sides.{Sides}
use Rattle.tr_walk.proofs.Types.{are_alike, binary_types, cell_kind, integer_cell, pointer_cell, set_kind, sign_fits}
use Rattle.tr_walk.proofs.Joined as joined

-- Kinds of operands.

-- of an array the place is given, of anything else the value
pub array_set : (s : Source) (u w : Ty) (x : Val) → w ≡ u → is_array w ≡ true → HasKindFor s (if is_array u then Place' else Value) u x → val_kind x ≡ Pointers
array_set s u w x is array h = (subst (λ b. HasKindFor s (if b then Place' else Value) u x) (ap is_array (sym is) ∙ array) h) refl

pub value_of : (s : Source) (u w : Ty) (x : Val) → w ≡ u → is_array w ≡ false → HasKindFor s (if is_array u then Place' else Value) u x → HasKindFor s Value w x
value_of s u w x is array h =
    subst (λ z. HasKindFor s Value z x) (sym is) (subst (λ b. HasKindFor s (if b then Place' else Value) u x) (ap is_array (sym is) ∙ array) h)

-- of what has a cell the value is given, of anything else the place
pub object_set : (s : Source) (t u : Ty) (x : Val) → is_scalar t ≡ false → HasKindFor s (if is_scalar t then Value else Place') u x → val_kind x ≡ Pointers
object_set s t u x cell h = (subst (λ b. HasKindFor s (if b then Value else Place') u x) cell h) refl

pub pointer_set : (s : Source) (u : Ty) (x : Val) → is_pointer u ≡ true → HasKindFor s Value u x → val_kind x ≡ Pointers
pointer_set s u x e h = set_kind s Value u x e h

pub place_set : (s : Source) (u : Ty) (x : Val) → HasKindFor s Place' u x → val_kind x ≡ Pointers
place_set s u x h = h refl

-- what an index goes into, an array or a pointer
pub index_set : (s : Source) (p : Layout) (want : Want) (x y : Exp) (t : Ty) (v : Val) → Applies p want (Index x y t)
    → HasKindFor s (if is_array (type_of x) then Place' else Value) (type_of x) v → val_kind v ≡ Pointers
index_set s p want x y t v h kind = side (is_array (type_of x)) h.1 kind
  where
    side : (b : Bool) → Indexed p b (type_of x) t → HasKindFor s (if b then Place' else Value) (type_of x) v → val_kind v ≡ Pointers
    side true i k = k refl
    side false i k = set_kind s Value (type_of x) v i k

-- what has a member: the object, or the pointer to it
pub member_set : (s : Source) (p : Layout) (want : Want) (x : Exp) (n : NameId) (arrow : Bool) (t : Ty) (v : Val) → Applies p want (Field x n arrow t)
    → HasKindFor s (object_wanted arrow) (type_of x) v → val_kind v ≡ Pointers
member_set s p want x n true t v h kind = set_kind s Value (type_of x) v h.0 kind
member_set s p want x n false t v h kind = kind refl

-- what is read at a place
pub found_kind : (s : Source) (p : Layout) (ns : List Node) (l : List Location) (q : Sets) (v : Val) (t : Ty) → is_integer t ≡ true
    → DoesFind s p ns l Value t q.pairs.items v → val_kind v ≡ kind_of_type s (Some t)
found_kind s p ns l q v t e found = found.kind ∙ ap (λ b. if b then kind_of_type s (Some t) else Pointers) (integer_cell t e)

-- What operators ask of the types of their operands.

pub operator_fits : (s : Source) (p : Layout) (want : Want) (o : BinaryOp) (x y : Exp) (t u w : Ty) → u ≡ type_of x → w ≡ type_of y
    → Applies p want (Binary o x y t) → BinaryFits s o u w t
operator_fits s p want o x y t u w left right h =
    subst (λ z. BinaryFits s o z w t) (sym left) (subst (λ z. BinaryFits s o (type_of x) z t) (sym right) (binary_types s o (type_of x) (type_of y) t h.0 h.2 h.3 h.4))

left_cell : (t u : Ty) → AreAlike t u → is_scalar t ≡ true
left_cell t u (Integers i j) = integer_cell t i
left_cell t u (PointersBoth p q) = pointer_cell t p

right_cell : (t u : Ty) → AreAlike t u → is_scalar u ≡ true
right_cell t u (Integers i j) = integer_cell u j
right_cell t u (PointersBoth p q) = pointer_cell u q

pub left_kind : (s : Source) (p : Layout) (want : Want) (o : BinaryOp) (x y : Exp) (t u : Ty) (v : Val) → u ≡ type_of x → Applies p want (Binary o x y t)
    → HasKindFor s Value (type_of x) v → val_kind v ≡ kind_of_type s (Some u)
left_kind s p want o x y t u v is h kind =
    cell_kind s (type_of x) v (left_cell (type_of x) (type_of y) (are_alike s o (type_of x) (type_of y) h.0 h.3)) kind ∙ ap (λ z. kind_of_type s (Some z)) (sym is)

pub right_kind : (s : Source) (p : Layout) (want : Want) (o : BinaryOp) (x y : Exp) (t u : Ty) (v : Val) → u ≡ type_of y → Applies p want (Binary o x y t)
    → HasKindFor s Value (type_of y) v → val_kind v ≡ kind_of_type s (Some u)
right_kind s p want o x y t u v is h kind =
    cell_kind s (type_of y) v (right_cell (type_of x) (type_of y) (are_alike s o (type_of x) (type_of y) h.0 h.3)) kind ∙ ap (λ z. kind_of_type s (Some z)) (sym is)

pub sign_types : (s : Source) (p : Layout) (want : Want) (o : UnaryOp) (x : Exp) (t u : Ty) → u ≡ type_of x → takes_value o ≡ true
    → Applies p want (Unary o x t) → UnaryFits s o u t
sign_types s p want o x t u is takes h = subst (λ z. UnaryFits s o z t) (sym is) (by_sign o takes h)
  where
    by_sign : (o : UnaryOp) → takes_value o ≡ true → Applies p want (Unary o x t) → UnaryFits s o (type_of x) t
    by_sign sign.Not e h = record { gives = h.2 }
    by_sign sign.Plus e h = sign_fits s (type_of x) t h.1 h.2
    by_sign sign.Minus e h = sign_fits s (type_of x) t h.1 h.2
    by_sign sign.Complement e h = sign_fits s (type_of x) t h.1 h.2
    by_sign sign.Address e h = absurd (true≢false (sym e))
    by_sign sign.Deref e h = absurd (true≢false (sym e))

sign_kind : (o : UnaryOp) → takes_value o ≡ true → operand_wanted o ≡ Value
sign_kind sign.Not e = refl
sign_kind sign.Plus e = refl
sign_kind sign.Minus e = refl
sign_kind sign.Complement e = refl
sign_kind sign.Address e = absurd (true≢false (sym e))
sign_kind sign.Deref e = absurd (true≢false (sym e))

pub sign_value : (s : Source) (p : Layout) (want : Want) (o : UnaryOp) (x : Exp) (t u : Ty) (v : Val) → u ≡ type_of x → takes_value o ≡ true
    → Applies p want (Unary o x t) → HasKindFor s (operand_wanted o) (type_of x) v → val_kind v ≡ kind_of_type s (Some u)
sign_value s p want o x t u v is takes h kind =
    cell_kind s (type_of x) v (cell o takes h) (subst (λ w. HasKindFor s w (type_of x) v) (sign_kind o takes) kind) ∙ ap (λ z. kind_of_type s (Some z)) (sym is)
  where
    cell : (o : UnaryOp) → takes_value o ≡ true → Applies p want (Unary o x t) → is_scalar (type_of x) ≡ true
    cell sign.Not e h = h.1
    cell sign.Plus e h = integer_cell (type_of x) (ap is_integer h.1 ∙ h.2)
    cell sign.Minus e h = integer_cell (type_of x) (ap is_integer h.1 ∙ h.2)
    cell sign.Complement e h = integer_cell (type_of x) (ap is_integer h.1 ∙ h.2)
    cell sign.Address e h = absurd (true≢false (sym e))
    cell sign.Deref e h = absurd (true≢false (sym e))

-- Operators.

module _ (a : Around) (want : Want) (n1 n2 : List Node) where
  -- of an array the place was walked to
  array_walks : (ns : List Node) (o x : Exp) (w : Ty) (l0 l : List Location) (g0 g : Ends) (i : Val) → w ≡ type_of x → is_array w ≡ true
      → Walks a ns (if is_array (type_of x) then Place' else Value) o l0 l g0 g i → Walks a ns Place' o l0 l g0 g i
  array_walks ns o x w l0 l g0 g i is array h = subst (λ b. Walks a ns (if b then Place' else Value) o l0 l g0 g i) (ap is_array (sym is) ∙ array) h

  value_walks : (ns : List Node) (o x : Exp) (w : Ty) (l0 l : List Location) (g0 g : Ends) (i : Val) → w ≡ type_of x → is_array w ≡ false
      → Walks a ns (if is_array (type_of x) then Place' else Value) o l0 l g0 g i → Walks a ns Value o l0 l g0 g i
  value_walks ns o x w l0 l g0 g i is array h = subst (λ b. Walks a ns (if b then Place' else Value) o l0 l g0 g i) (ap is_array (sym is) ∙ array) h

  pub convert_array : (x : Exp) (t w : Ty) (l : List Location) (g : Ends) (q u : Sets) (i : Val) → w ≡ type_of x → is_array w ≡ true → i ≡ Set q → Grown n1 n2
      → IsFirstElement n2 (layout_of a) q u → BehindOne a n1 n2 want (Convert x t) l l g g i (Set u)
  convert_array x t w l g q u i is array set grown made =
      record {
        walks = λ o other l0 g0 type can walked.
            joined.by_array a want n1 n2 o t w l0 l g0 g q u i (is ∙ sym type) array set can grown (array_walks n1 o x w l0 l g0 g i is array walked) made;
      }

  pub cast_array : (x : Exp) (t w : Ty) (l : List Location) (g : Ends) (q u : Sets) (i : Val) → w ≡ type_of x → is_array w ≡ true → i ≡ Set q → Grown n1 n2
      → IsFirstElement n2 (layout_of a) q u → BehindOne a n1 n2 want (Cast x t) l l g g i (Set u)
  cast_array x t w l g q u i is array set grown made =
      record {
        walks = λ o other l0 g0 type can walked.
            joined.by_cast_array a want n1 n2 o t w l0 l g0 g q u i (is ∙ sym type) array set can grown (array_walks n1 o x w l0 l g0 g i is array walked) made;
      }

  pub convert_value : (x : Exp) (t w : Ty) (l : List Location) (g : Ends) (i r : Val) → w ≡ type_of x → is_array w ≡ false → Grown n1 n2
      → Converts (source_of a) n2 w t i r → BehindOne a n1 n2 want (Convert x t) l l g g i r
  convert_value x t w l g i r is array grown made =
      record {
        walks = λ o other l0 g0 type can walked.
            joined.by_convert a want n1 n2 o t w l0 l g0 g i r (is ∙ sym type) array can grown (value_walks n1 o x w l0 l g0 g i is array walked) made;
      }

  pub cast_value : (x : Exp) (t w : Ty) (l : List Location) (g : Ends) (i r : Val) → w ≡ type_of x → is_array w ≡ false → Grown n1 n2
      → Converts (source_of a) n2 w t i r → BehindOne a n1 n2 want (Cast x t) l l g g i r
  cast_value x t w l g i r is array grown made =
      record {
        walks = λ o other l0 g0 type can walked.
            joined.by_cast a want n1 n2 o t w l0 l g0 g i r (is ∙ sym type) array can grown (value_walks n1 o x w l0 l g0 g i is array walked) made;
      }

  pub deref : (x : Exp) (t : Ty) (l : List Location) (g1 g2 : Ends) (q : Sets) (i r : Val) → i ≡ Set q → Grown n1 n2 → AreEnds n2 g2
      → length g2.bads.items ≡ length g1.bads.items → DoesIndirect (source_of a) (layout_of a) n2 l want t q.pairs.items g1 g2 r
      → BehindOne a n1 n2 want (Unary sign.Deref x t) l l g1 g2 i r
  deref x t l g1 g2 q i r set grown ends bads made =
      record { walks = λ o other l0 g0 type can walked. joined.by_deref a want n1 n2 o t l0 l g0 g1 g2 q i r set grown ends bads walked made }

  pub signed : (s : UnaryOp) (x : Exp) (t : Ty) (l : List Location) (g : Ends) (i r : Val) → takes_value s ≡ true → Grown n1 n2
      → IsOfUnary (source_of a) n2 s t i r → BehindOne a n1 n2 want (Unary s x t) l l g g i r
  signed s x t l g i r takes grown made =
      record {
        walks = λ o other l0 g0 type can walked.
            joined.by_unary a want n1 n2 s o t l0 l g0 g i r takes can grown (subst (λ w. Walks a n1 w o l0 l g0 g i) (sign_kind s takes) walked) made;
      }

  pub before : (d : Step) (x : Exp) (t : Ty) (l0 l : List Location) (g1 g2 : Ends) (q : Sets) (i : Val) (r : Change) → i ≡ Set q
      → Changes a n1 n2 d t q l0 l g1 g2 r → BehindOne a n1 n2 want (PreInc d x t) l0 l g1 g2 i r.after
  before d x t l1 l2 g1 g2 q i r set made =
      record {
        walks = λ o other l0 g0 type can walked.
            joined.by_before a want n1 made.read made.counted n2 d o t l0 l1 l2 g0 g1 g2 q i r.before r.after set can made.first made.second made.third made.ends made.bads
            walked made.finds made.counts made.stores;
      }

  pub after : (d : Step) (x : Exp) (t : Ty) (l0 l : List Location) (g1 g2 : Ends) (q : Sets) (i : Val) (r : Change) → i ≡ Set q
      → Changes a n1 n2 d t q l0 l g1 g2 r → BehindOne a n1 n2 want (PostInc d x t) l0 l g1 g2 i r.before
  after d x t l1 l2 g1 g2 q i r set made =
      record {
        walks = λ o other l0 g0 type can walked.
            joined.by_after a want n1 made.read made.counted n2 d o t l0 l1 l2 g0 g1 g2 q i r.before r.after set can made.first made.second made.third made.ends made.bads
            walked made.finds made.counts made.stores;
      }

  pub arrow : (x : Exp) (n : NameId) (t w : Ty) (l : List Location) (g1 g2 : Ends) (q : Sets) (i r : Val) → w ≡ type_of x → i ≡ Set q → Grown n1 n2 → AreEnds n2 g2
      → length g2.bads.items ≡ length g1.bads.items → DoesMemberBehind (source_of a) (layout_of a) n2 l want w t n q.pairs.items g1 g2 r
      → BehindOne a n1 n2 want (Field x n true t) l l g1 g2 i r
  arrow x n t w l g1 g2 q i r is set grown ends bads made =
      record {
        walks = λ o other l0 g0 type can walked. joined.by_arrow a want n1 n2 o n t w l0 l g0 g1 g2 q i r (is ∙ sym type) set grown ends bads walked made;
      }

  pub dot : (x : Exp) (n : NameId) (t : Ty) (l : List Location) (g : Ends) (q : Sets) (i r : Val) → i ≡ Set q → Grown n1 n2
      → DoesMember (source_of a) (layout_of a) n2 l g want t n q r → BehindOne a n1 n2 want (Field x n false t) l l g g i r
  dot x n t l g q i r set grown made =
      record { walks = λ o other l0 g0 type can walked. joined.by_dot a want n1 n2 o n t l0 l g0 g q i r set grown walked made }

  -- two operands

  pub assigns : (m : Option BinaryOp) (works : Ty) (x y : Exp) (t : Ty) (l0 l : List Location) (g : Ends) (q : Sets) (xs : Sides) (r : Val) → is_scalar t ≡ true
      → xs.left ≡ Set q → Grown n1 n2 → DoesAssign (source_of a) (layout_of a) n2 g want t q xs.right l0 l r
      → BehindBoth a n1 n2 want (Assign m works x y t) l0 l g g xs r
  assigns m works x y t l2 l3 g2 q xs r cell set grown made =
      record {
        walks = λ start o u l0 l1 g0 g1 from left right can first second.
            joined.by_assign a want start n1 n2 None None works o u t l0 l1 l2 l3 g0 g1 g2 q xs.left xs.right r refl refl cell set from grown first
            (subst (λ b. Walks a n1 (if b then Value else Place') u l1 l2 g1 g2 xs.right) cell second) made;
      }

  pub copies : (m : Option BinaryOp) (works : Ty) (x y : Exp) (t : Ty) (l0 l : List Location) (g : Ends) (q u : Sets) (xs : Sides) (r : Val) → is_scalar t ≡ false
      → xs.left ≡ Set q → xs.right ≡ Set u → Grown n1 n2 → DoesCopy (source_of a) (layout_of a) n2 g t q u l0 l r
      → BehindBoth a n1 n2 want (Assign m works x y t) l0 l g g xs r
  copies m works x y t l2 l3 g2 q u xs r cell set other grown made =
      record {
        walks = λ start o z l0 l1 g0 g1 from left right can first second.
            joined.by_copy a want start n1 n2 None None works o z t l0 l1 l2 l3 g0 g1 g2 q u xs.left xs.right r refl refl cell set other from grown first
            (subst (λ b. Walks a n1 (if b then Value else Place') z l1 l2 g1 g2 xs.right) cell second) made;
      }

  pub operates : (m : BinaryOp) (x y : Exp) (t w : Ty) (l : List Location) (g2 g3 : Ends) (xs : Sides) (r : Val) → w ≡ type_of x → Grown n1 n2 → AreEnds n2 g3
      → length g3.bads.items ≡ length g2.bads.items → Operates (source_of a) n2 m w t xs.left xs.right g2 g3 r
      → BehindBoth a n1 n2 want (Binary m x y t) l l g2 g3 xs r
  operates m x y t w l2 g2 g3 xs r is grown ends bads made =
      record {
        walks = λ start o u l0 l1 g0 g1 from left right can first second.
            joined.by_binary a want start n1 n2 m o u t w l0 l1 l2 g0 g1 g2 g3 xs.left xs.right r (is ∙ sym left) can from grown ends bads first second made;
      }

  pub element : (x y : Exp) (t w : Ty) (l : List Location) (g2 g3 : Ends) (q : Sets) (d : Words) (xs : Sides) (r : Val) → w ≡ type_of x → is_array w ≡ true
      → xs.left ≡ Set q → xs.right ≡ Word d → Grown n1 n2 → AreEnds n2 g3 → length g3.bads.items ≡ length g2.bads.items
      → DoesElement (source_of a) (layout_of a) n2 l want t q d g2 g3 r → BehindBoth a n1 n2 want (Index x y t) l l g2 g3 xs r
  element x y t w l2 g2 g3 q d xs r is array set word grown ends bads made =
      record {
        walks = λ start o u l0 l1 g0 g1 from left right can first second.
            joined.by_element a want start n1 n2 o u t w l0 l1 l2 g0 g1 g2 g3 q d xs.left xs.right r (is ∙ sym left) array set word from grown ends bads
            (array_walks start o x w l0 l1 g0 g1 xs.left is array first) second made;
      }

  pub pointed : (x y : Exp) (t w : Ty) (l : List Location) (g2 g3 : Ends) (q : Sets) (d : Words) (xs : Sides) (r : Val) → w ≡ type_of x → is_array w ≡ false
      → xs.left ≡ Set q → xs.right ≡ Word d → Grown n1 n2 → AreEnds n2 g3 → length g3.bads.items ≡ length g2.bads.items
      → DoesIndex (source_of a) (layout_of a) n2 l want t q.pairs.items d g2 g3 r → BehindBoth a n1 n2 want (Index x y t) l l g2 g3 xs r
  pointed x y t w l2 g2 g3 q d xs r is array set word grown ends bads made =
      record {
        walks = λ start o u l0 l1 g0 g1 from left right can first second.
            joined.by_index a want start n1 n2 o u t w l0 l1 l2 g0 g1 g2 g3 q d xs.left xs.right r (is ∙ sym left) array set word from grown ends bads
            (value_walks start o x w l0 l1 g0 g1 xs.left is array first) second made;
      }

pub address : (a : Around) (want : Want) (ns : List Node) (x : Exp) (t : Ty) (l : List Location) (g : Ends) (r : Val)
    → BehindOne a ns ns want (Unary sign.Address x t) l l g g r r
address a want ns x t l g r = record { walks = λ o other l0 g0 type can walked. joined.by_address a want ns o t l0 l g0 g r can walked }
