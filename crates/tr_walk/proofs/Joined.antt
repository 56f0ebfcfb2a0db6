-- What each arm of the walk promises, in the words of its code: i is a value whose set or word is taken out, u is a type that it
-- reads of an operand, p is the operator that it reads of an assignment.
use Rattle.std.proofs.Common.{◌≡◌, true, false, Option, Some, None, List, length, refl, sym, ◌∙◌, ap, subst, arith}
use Rattle.std.proofs.lemmas.Bool.{true≢false}
use Rattle.bit_net.specs.declared.nodes.Node.{Node}
use Rattle.bit_net.specs.Runs.{Grown}
use Rattle.bit_words.specs.declared.Word.{Word as Words}
use Rattle.gl_sets.specs.declared.sets.Set.{Set as Sets}
use Rattle.gl_store.specs.declared.values.Val.{Val}
use Rattle.gl_store.specs.declared.values.Val.TheVariants.{Word, Set}
use Rattle.gl_store.specs.declared.stores.Location.{Location}
use Rattle.gate_runs.specs.declared.ends.Ends.{Ends}
use Rattle.gate_runs.specs.Stands.{AreEnds}
use Rattle.gate_steps.specs.Steps.{DoesStore}
use Rattle.gate_places.specs.Places.{DoesAssign, DoesFind, DoesIndirect, DoesIndex, DoesMember, DoesMemberBehind, IsFirstElement}
use Rattle.gate_elements.specs.Elements.{DoesElement}
use Rattle.gate_copies.specs.Copies.{DoesCopy}
use Rattle.gate_changes.specs.Changes.{Combines, Counts}
use Rattle.run_laws.specs.Fits.{is_scalar, IsRead, converts_to}
use Rattle.sc_base.specs.declared.pos.NameId.{NameId}
use Rattle.sc_tree.specs.declared.op.BinaryOp.{BinaryOp}
use Rattle.sc_tree.specs.declared.op.UnaryOp.{UnaryOp}
use Rattle.sc_tree.specs.declared.op.UnaryOp.TheVariants as sign
use Rattle.sc_tree.specs.declared.op.Step.{Step}
use Rattle.sc_world.specs.Tree as tree
use Rattle.sc_world.specs.Tree.{Ty, is_integer, is_pointer, is_array, is_void, int_bits, target_or_void, Exp, Comma, Assign, Binary, Cast, Unary, PreInc, PostInc, Index, Field, Param, Local, Convert, Temp, TempPlace, type_of}
use Rattle.sc_world.specs.Eval.{Want, Value, Place'}
use Rattle.tr_expr.specs.Evals.{Operates, IsOfUnary}
use Rattle.expr_fits.specs.declared.around.Around.{Around}
use Rattle.expr_fits.specs.Around.{layout_of, source_of}
use Rattle.tr_walk.specs.Leaves.{Converts}
use Rattle.expr_fits.specs.Temps.{HasKindFor}
use Rattle.expr_fits.specs.Fits.{CanWalk}
use Rattle.tr_walk.specs.Walks.{Walks, takes_value}
use Rattle.tr_walk.proofs.Arms as arms
use Rattle.tr_walk.proofs.Can as can

module _ (a : Around) (want : Want) where
  -- the value without its case
  same : (ns : List Node) (w : Want) (e : Exp) (l0 l1 : List Location) (g0 g1 : Ends) (x y : Val) → x ≡ y → Walks a ns w e l0 l1 g0 g1 x → Walks a ns w e l0 l1 g0 g1 y
  same ns w e l0 l1 g0 g1 x y is h = arms.walks_same a ns w e l0 l1 g0 g1 x y is h

  plain : (o p : Option BinaryOp) (works : Ty) (x y : Exp) (t : Ty) (ns : List Node) (l0 l1 : List Location) (g0 g1 : Ends) (r : Val) → p ≡ o → p ≡ None
      → Walks a ns want (Assign None works x y t) l0 l1 g0 g1 r → Walks a ns want (Assign o works x y t) l0 l1 g0 g1 r
  plain o p works x y t ns l0 l1 g0 g1 r is none h = subst (λ z. Walks a ns want (Assign z works x y t) l0 l1 g0 g1 r) (sym none ∙ is) h

  pub by_comma : (n1 n2 : List Node) (x y : Exp) (t : Ty) (l0 l1 l2 : List Location) (g0 g1 g2 : Ends) (u r : Val) → CanWalk a want (Comma x y t) → Grown n1 n2
      → Walks a n1 Value x l0 l1 g0 g1 u → Walks a n2 want y l1 l2 g1 g2 r → Walks a n2 want (Comma x y t) l0 l2 g0 g2 r
  by_comma n1 n2 x y t l0 l1 l2 g0 g1 g2 u r h grown first second =
      arms.walks_comma a n1 n2 want x y t l0 l1 l2 g0 g1 g2 u r grown (can.comma_type a want x y t h) first second

  pub by_assign : (n1 n2 n3 : List Node) (o p : Option BinaryOp) (works : Ty) (x y : Exp) (t : Ty) (l0 l1 l2 l3 : List Location) (g0 g1 g2 : Ends) (q : Sets) (i u r : Val)
      → p ≡ o → p ≡ None → is_scalar t ≡ true → i ≡ Set q → Grown n1 n2 → Grown n2 n3 → Walks a n1 Place' x l0 l1 g0 g1 i → Walks a n2 Value y l1 l2 g1 g2 u
      → DoesAssign (source_of a) (layout_of a) n3 g2 want t q u l2 l3 r → Walks a n3 want (Assign o works x y t) l0 l3 g0 g2 r
  by_assign n1 n2 n3 o p works x y t l0 l1 l2 l3 g0 g1 g2 q i u r is none cell set grown grown3 first second assigned =
      plain o p works x y t n3 l0 l3 g0 g2 r is none
      (arms.walks_assign a n1 n2 n3 want works x y t l0 l1 l2 l3 g0 g1 g2 q u r grown grown3 cell (same n1 Place' x l0 l1 g0 g1 i (Set q) set first) second assigned)

  pub by_copy : (n1 n2 n3 : List Node) (o p : Option BinaryOp) (works : Ty) (x y : Exp) (t : Ty) (l0 l1 l2 l3 : List Location) (g0 g1 g2 : Ends) (q u : Sets) (i j r : Val)
      → p ≡ o → p ≡ None → is_scalar t ≡ false → i ≡ Set q → j ≡ Set u → Grown n1 n2 → Grown n2 n3 → Walks a n1 Place' x l0 l1 g0 g1 i → Walks a n2 Place' y l1 l2 g1 g2 j
      → DoesCopy (source_of a) (layout_of a) n3 g2 t q u l2 l3 r → Walks a n3 want (Assign o works x y t) l0 l3 g0 g2 r
  by_copy n1 n2 n3 o p works x y t l0 l1 l2 l3 g0 g1 g2 q u i j r is none cell set from grown grown3 first second copied =
      plain o p works x y t n3 l0 l3 g0 g2 r is none
      (arms.walks_copy a n1 n2 n3 want works x y t l0 l1 l2 l3 g0 g1 g2 q u r grown grown3 cell (same n1 Place' x l0 l1 g0 g1 i (Set q) set first)
      (same n2 Place' y l1 l2 g1 g2 j (Set u) from second) copied)

  pub by_combined : (n1 n2 n3 n4 n5 : List Node) (o p : Option BinaryOp) (b : BinaryOp) (works : Ty) (x y : Exp) (t : Ty) (l0 l1 l2 l3 : List Location) (g0 g1 g2 g3 : Ends)
      (q : Sets) (i old u sum r : Val) → p ≡ o → p ≡ Some b → i ≡ Set q → CanWalk a want (Assign o works x y t) → Grown n1 n2 → Grown n2 n3 → Grown n3 n4 → Grown n4 n5
      → AreEnds n4 g3 → length g3.bads.items ≡ length g2.bads.items → Walks a n1 Place' x l0 l1 g0 g1 i → DoesFind (source_of a) (layout_of a) n2 l1 Value t q.pairs.items old
      → Walks a n3 Value y l1 l2 g1 g2 u → Combines (source_of a) n4 b works t old u g2 g3 sum
      → DoesAssign (source_of a) (layout_of a) n5 g3 want t q sum l2 l3 r → Walks a n5 want (Assign o works x y t) l0 l3 g0 g3 r
  by_combined n1 n2 n3 n4 n5 o p b works x y t l0 l1 l2 l3 g0 g1 g2 g3 q i old u sum r is some set h grown2 grown3 grown4 grown5 ends bads first found second made assigned =
      let here : CanWalk a want (Assign (Some b) works x y t) = subst (λ z. CanWalk a want (Assign z works x y t)) (sym is ∙ some) h in
      subst (λ z. Walks a n5 want (Assign z works x y t) l0 l3 g0 g3 r) (sym some ∙ is)
      (arms.walks_combined a n1 n2 n3 n4 n5 want b works x y t l0 l1 l2 l3 g0 g1 g2 g3 q old u sum r grown2 grown3 grown4 grown5 ends bads here.fits.3
      (same n1 Place' x l0 l1 g0 g1 i (Set q) set first) found second made assigned)

  pub by_binary : (n1 n2 n3 : List Node) (o : BinaryOp) (x y : Exp) (t w : Ty) (l0 l1 l2 : List Location) (g0 g1 g2 g3 : Ends) (u d r : Val)
      → w ≡ type_of x → CanWalk a want (Binary o x y t) → Grown n1 n2 → Grown n2 n3 → AreEnds n3 g3 → length g3.bads.items ≡ length g2.bads.items
      → Walks a n1 Value x l0 l1 g0 g1 u → Walks a n2 Value y l1 l2 g1 g2 d → Operates (source_of a) n3 o w t u d g2 g3 r
      → Walks a n3 want (Binary o x y t) l0 l2 g0 g3 r
  by_binary n1 n2 n3 o x y t w l0 l1 l2 g0 g1 g2 g3 u d r is h grown grown3 ends bads first second made =
      arms.walks_binary a n1 n2 n3 want o x y t l0 l1 l2 g0 g1 g2 g3 u d r grown grown3 ends bads (can.not_logical a want o x y h.plain) h.fits.2 h.fits.3 first second
      (subst (λ z. Operates (source_of a) n3 o z t u d g2 g3 r) is made) (omega (arith, second.top, grown3.longer))

  -- an array becomes a pointer, or nothing is wanted of it
  array_kind : (w t : Ty) (k : Want) (u : Sets) → is_array w ≡ true → IsRead k → converts_to w t ≡ true → HasKindFor (source_of a) k t (Set u)
  array_kind (tree.Array e n) tree.Void Value u array read c = λ some. absurd (true≢false some)
  array_kind (tree.Array e n) (tree.Ptr t) Value u array read c = λ some. refl
  array_kind (tree.Array e n) _ Value u array read c = absurd (true≢false (sym c))
  array_kind _ t Value u array read c = absurd (true≢false (sym array))
  array_kind w t Place' u array read c = absurd read

  pub by_array : (n1 n2 : List Node) (x : Exp) (t w : Ty) (l0 l1 : List Location) (g0 g1 : Ends) (q u : Sets) (i : Val) → w ≡ type_of x → is_array w ≡ true → i ≡ Set q
      → CanWalk a want (Convert x t) → Grown n1 n2 → Walks a n1 Place' x l0 l1 g0 g1 i → IsFirstElement n2 (layout_of a) q u → Walks a n2 want (Convert x t) l0 l1 g0 g1 (Set u)
  by_array n1 n2 x t w l0 l1 g0 g1 q u i is array set h grown first made =
      let e : is_array (type_of x) ≡ true = ap is_array (sym is) ∙ array in
      arms.walks_array a n1 n2 want x t l0 l1 g0 g1 q u grown e h.fits.1 (same n1 Place' x l0 l1 g0 g1 i (Set q) set first) made
      (array_kind (type_of x) t want u e h.fits.1 h.fits.2)

  pub by_cast_array : (n1 n2 : List Node) (x : Exp) (t w : Ty) (l0 l1 : List Location) (g0 g1 : Ends) (q u : Sets) (i : Val) → w ≡ type_of x → is_array w ≡ true → i ≡ Set q
      → CanWalk a want (Cast x t) → Grown n1 n2 → Walks a n1 Place' x l0 l1 g0 g1 i → IsFirstElement n2 (layout_of a) q u → Walks a n2 want (Cast x t) l0 l1 g0 g1 (Set u)
  by_cast_array n1 n2 x t w l0 l1 g0 g1 q u i is array set h grown first made =
      arms.walks_cast a n2 want x t l0 l1 g0 g1 (Set u)
      (by_array n1 n2 x t w l0 l1 g0 g1 q u i is array set (can.cast_is_convert a want x t h) grown first made)

  pub by_convert : (n1 n2 : List Node) (x : Exp) (t w : Ty) (l0 l1 : List Location) (g0 g1 : Ends) (u r : Val) → w ≡ type_of x → is_array w ≡ false
      → CanWalk a want (Convert x t) → Grown n1 n2 → Walks a n1 Value x l0 l1 g0 g1 u → Converts (source_of a) n2 w t u r → Walks a n2 want (Convert x t) l0 l1 g0 g1 r
  by_convert n1 n2 x t w l0 l1 g0 g1 u r is array h grown first made =
      arms.walks_convert a n1 n2 want x t l0 l1 g0 g1 u r grown (ap is_array (sym is) ∙ array) h.fits.1 first (subst (λ z. Converts (source_of a) n2 z t u r) is made)

  pub by_cast : (n1 n2 : List Node) (x : Exp) (t w : Ty) (l0 l1 : List Location) (g0 g1 : Ends) (u r : Val) → w ≡ type_of x → is_array w ≡ false
      → CanWalk a want (Cast x t) → Grown n1 n2 → Walks a n1 Value x l0 l1 g0 g1 u → Converts (source_of a) n2 w t u r → Walks a n2 want (Cast x t) l0 l1 g0 g1 r
  by_cast n1 n2 x t w l0 l1 g0 g1 u r is array h grown first made =
      arms.walks_cast a n2 want x t l0 l1 g0 g1 r (by_convert n1 n2 x t w l0 l1 g0 g1 u r is array (can.cast_is_convert a want x t h) grown first made)

  pub by_address : (ns : List Node) (x : Exp) (t : Ty) (l0 l1 : List Location) (g0 g1 : Ends) (r : Val) → CanWalk a want (Unary sign.Address x t)
      → Walks a ns Place' x l0 l1 g0 g1 r → Walks a ns want (Unary sign.Address x t) l0 l1 g0 g1 r
  by_address ns x t l0 l1 g0 g1 r h first = arms.walks_address a ns want x t l0 l1 g0 g1 r h.fits.1 h.fits.2 first

  pub by_deref : (n1 n2 : List Node) (x : Exp) (t : Ty) (l0 l1 : List Location) (g0 g1 g2 : Ends) (q : Sets) (i r : Val) → i ≡ Set q → Grown n1 n2 → AreEnds n2 g2
      → length g2.bads.items ≡ length g1.bads.items → Walks a n1 Value x l0 l1 g0 g1 i
      → DoesIndirect (source_of a) (layout_of a) n2 l1 want t q.pairs.items g1 g2 r → Walks a n2 want (Unary sign.Deref x t) l0 l1 g0 g2 r
  by_deref n1 n2 x t l0 l1 g0 g1 g2 q i r set grown ends bads first made =
      arms.walks_deref a n1 n2 want x t l0 l1 g0 g1 g2 q r grown ends bads (same n1 Value x l0 l1 g0 g1 i (Set q) set first) made

  value_read : (o : UnaryOp) (x : Exp) (t : Ty) → takes_value o ≡ true → CanWalk a want (Unary o x t) → IsRead want × (is_integer t ≡ true)
  value_read sign.Not x t e h = (h.fits.1, h.fits.3)
  value_read sign.Plus x t e h = (h.fits.1, h.fits.3)
  value_read sign.Minus x t e h = (h.fits.1, h.fits.3)
  value_read sign.Complement x t e h = (h.fits.1, h.fits.3)
  value_read sign.Address x t e h = absurd (true≢false (sym e))
  value_read sign.Deref x t e h = absurd (true≢false (sym e))

  pub by_unary : (n1 n2 : List Node) (o : UnaryOp) (x : Exp) (t : Ty) (l0 l1 : List Location) (g0 g1 : Ends) (u r : Val) → takes_value o ≡ true → CanWalk a want (Unary o x t)
      → Grown n1 n2 → Walks a n1 Value x l0 l1 g0 g1 u → IsOfUnary (source_of a) n2 o t u r → Walks a n2 want (Unary o x t) l0 l1 g0 g1 r
  by_unary n1 n2 o x t l0 l1 g0 g1 u r takes h grown first made =
      let read = value_read o x t takes h in
      arms.walks_unary a n1 n2 want o x t l0 l1 g0 g1 u r grown takes read.0 read.1 first made

  pub by_before : (n1 n2 n3 n4 : List Node) (d : Step) (x : Exp) (t : Ty) (l0 l1 l2 : List Location) (g0 g1 g2 : Ends) (q : Sets) (i old new : Val) → i ≡ Set q
      → CanWalk a want (PreInc d x t) → Grown n1 n2 → Grown n2 n3 → Grown n3 n4 → AreEnds n3 g2 → length g2.bads.items ≡ length g1.bads.items
      → Walks a n1 Place' x l0 l1 g0 g1 i → DoesFind (source_of a) (layout_of a) n2 l1 Value t q.pairs.items old → Counts (source_of a) n3 d t old g1 g2 new
      → DoesStore n4 g2 q.pairs.items new l1 l2 → Walks a n4 want (PreInc d x t) l0 l2 g0 g2 new
  by_before n1 n2 n3 n4 d x t l0 l1 l2 g0 g1 g2 q i old new set h grown2 grown3 grown4 ends bads first found made stored =
      arms.walks_changed a n1 n2 n3 n4 want true d x t l0 l1 l2 g0 g1 g2 q old new new grown2 grown3 grown4 ends bads h.fits.1 h.fits.3 h.fits.2
      (same n1 Place' x l0 l1 g0 g1 i (Set q) set first) found made stored refl

  pub by_after : (n1 n2 n3 n4 : List Node) (d : Step) (x : Exp) (t : Ty) (l0 l1 l2 : List Location) (g0 g1 g2 : Ends) (q : Sets) (i old new : Val) → i ≡ Set q
      → CanWalk a want (PostInc d x t) → Grown n1 n2 → Grown n2 n3 → Grown n3 n4 → AreEnds n3 g2 → length g2.bads.items ≡ length g1.bads.items
      → Walks a n1 Place' x l0 l1 g0 g1 i → DoesFind (source_of a) (layout_of a) n2 l1 Value t q.pairs.items old → Counts (source_of a) n3 d t old g1 g2 new
      → DoesStore n4 g2 q.pairs.items new l1 l2 → Walks a n4 want (PostInc d x t) l0 l2 g0 g2 old
  by_after n1 n2 n3 n4 d x t l0 l1 l2 g0 g1 g2 q i old new set h grown2 grown3 grown4 ends bads first found made stored =
      arms.walks_changed a n1 n2 n3 n4 want false d x t l0 l1 l2 g0 g1 g2 q old new old grown2 grown3 grown4 ends bads h.fits.1 h.fits.3 h.fits.2
      (same n1 Place' x l0 l1 g0 g1 i (Set q) set first) found made stored refl

  pub by_element : (n1 n2 n3 : List Node) (x y : Exp) (t w : Ty) (l0 l1 l2 : List Location) (g0 g1 g2 g3 : Ends) (q : Sets) (d : Words) (i j r : Val)
      → w ≡ type_of x → is_array w ≡ true → i ≡ Set q → j ≡ Word d → Grown n1 n2 → Grown n2 n3 → AreEnds n3 g3 → length g3.bads.items ≡ length g2.bads.items
      → Walks a n1 Place' x l0 l1 g0 g1 i → Walks a n2 Value y l1 l2 g1 g2 j → DoesElement (source_of a) (layout_of a) n3 l2 want t q d g2 g3 r
      → Walks a n3 want (Index x y t) l0 l2 g0 g3 r
  by_element n1 n2 n3 x y t w l0 l1 l2 g0 g1 g2 g3 q d i j r is array set word grown grown3 ends bads first second made =
      arms.walks_element a n1 n2 n3 want x y t l0 l1 l2 g0 g1 g2 g3 q d r grown grown3 ends bads (ap is_array (sym is) ∙ array)
      (same n1 Place' x l0 l1 g0 g1 i (Set q) set first) (same n2 Value y l1 l2 g1 g2 j (Word d) word second) made

  pub by_index : (n1 n2 n3 : List Node) (x y : Exp) (t w : Ty) (l0 l1 l2 : List Location) (g0 g1 g2 g3 : Ends) (q : Sets) (d : Words) (i j r : Val)
      → w ≡ type_of x → is_array w ≡ false → i ≡ Set q → j ≡ Word d → Grown n1 n2 → Grown n2 n3 → AreEnds n3 g3 → length g3.bads.items ≡ length g2.bads.items
      → Walks a n1 Value x l0 l1 g0 g1 i → Walks a n2 Value y l1 l2 g1 g2 j → DoesIndex (source_of a) (layout_of a) n3 l2 want t q.pairs.items d g2 g3 r
      → Walks a n3 want (Index x y t) l0 l2 g0 g3 r
  by_index n1 n2 n3 x y t w l0 l1 l2 g0 g1 g2 g3 q d i j r is array set word grown grown3 ends bads first second made =
      arms.walks_index a n1 n2 n3 want x y t l0 l1 l2 g0 g1 g2 g3 q d r grown grown3 ends bads (ap is_array (sym is) ∙ array)
      (same n1 Value x l0 l1 g0 g1 i (Set q) set first) (same n2 Value y l1 l2 g1 g2 j (Word d) word second) made

  pub by_arrow : (n1 n2 : List Node) (x : Exp) (n : NameId) (t w : Ty) (l0 l1 : List Location) (g0 g1 g2 : Ends) (q : Sets) (i r : Val) → w ≡ type_of x → i ≡ Set q
      → Grown n1 n2 → AreEnds n2 g2 → length g2.bads.items ≡ length g1.bads.items → Walks a n1 Value x l0 l1 g0 g1 i
      → DoesMemberBehind (source_of a) (layout_of a) n2 l1 want w t n q.pairs.items g1 g2 r → Walks a n2 want (Field x n true t) l0 l1 g0 g2 r
  by_arrow n1 n2 x n t w l0 l1 g0 g1 g2 q i r is set grown ends bads first made =
      arms.walks_arrow a n1 n2 want x n t l0 l1 g0 g1 g2 q r grown ends bads (same n1 Value x l0 l1 g0 g1 i (Set q) set first)
      (subst (λ z. DoesMemberBehind (source_of a) (layout_of a) n2 l1 want z t n q.pairs.items g1 g2 r) is made)

  pub by_dot : (n1 n2 : List Node) (x : Exp) (n : NameId) (t : Ty) (l0 l1 : List Location) (g0 g1 : Ends) (q : Sets) (i r : Val) → i ≡ Set q → Grown n1 n2
      → Walks a n1 Place' x l0 l1 g0 g1 i → DoesMember (source_of a) (layout_of a) n2 l1 g1 want t n q r → Walks a n2 want (Field x n false t) l0 l1 g0 g1 r
  by_dot n1 n2 x n t l0 l1 g0 g1 q i r set grown first made =
      arms.walks_dot a n1 n2 want x n t l0 l1 g0 g1 q r grown (same n1 Place' x l0 l1 g0 g1 i (Set q) set first) made
