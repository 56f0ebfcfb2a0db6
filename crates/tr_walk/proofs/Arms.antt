-- The gates of a construct are made of those of its operands: what each arm of the walk promises.
use Rattle.std.proofs.Common.{◌≡◌, ℕ, ◌≤◌, nat_eq, Bool, true, false, ◌||◌, if◌then◌else◌, Option, Some, None, List, ◌++◌, length, slice_index_or, refl, sym, ◌∙◌, ap, subst, arith}
use Rattle.std.proofs.lemmas.Bool.{true≢false}
use Rattle.bit_net.specs.declared.nodes.Node.{Node}
use Rattle.bit_net.specs.Runs.{Runs, Grown}
use Rattle.bit_net.proofs.Growth.{Grown-refl}
use Rattle.bit_words.specs.declared.Word.{Word as Words}
use Rattle.gl_sets.specs.declared.sets.Set.{Set as Sets}
use Rattle.gl_sets.specs.Guards.{Points}
use Rattle.gl_store.specs.declared.values.Val.{Val}
use Rattle.gl_store.specs.declared.values.Val.TheVariants.{Word, Set}
use Rattle.gl_store.specs.declared.stores.Location.{Location}
use Rattle.gl_store.specs.Meets.{Meets, val_kind, val_top, locations_top}
use Rattle.gl_store.specs.Steps.{IsSame}
use Rattle.gate_runs.specs.declared.ends.Ends.{Ends}
use Rattle.gate_runs.specs.Stands.{AreEnds, Does, Any}
use Rattle.gate_runs.proofs.Bind.{bind, does_done}
use Rattle.gate_steps.specs.Steps.{DoesStore}
use Rattle.gate_steps.proofs.Known.{does_tell}
use Rattle.gate_values.specs.Values.{IsNumber}
use Rattle.gate_places.specs.Places.{GoodFor, DoesAssign, DoesFind, DoesIndirect, DoesIndex, DoesMember, DoesMemberBehind, IsFirstElement, env_of, wanted_kind}
use Rattle.gate_places.proofs.Assigning.{does_narrow, place_leads, place_stays}
use Rattle.gate_elements.specs.Elements.{DoesElement}
use Rattle.gate_copies.specs.Copies.{DoesCopy}
use Rattle.gate_changes.specs.Changes.{Combines, Counts}
use Rattle.run_store.specs.Concrete.{Cell, Number, Pointer, Nothing, Pointers}
use Rattle.run_values.specs.Steps.{member_behind, pointer_index}
use Rattle.run_laws.specs.Fits.{is_scalar, IsRead, Indexed, may_be_stub}
use Rattle.sc_base.specs.declared.pos.NameId.{NameId}
use Rattle.sc_tree.specs.declared.op.BinaryOp.{BinaryOp}
use Rattle.sc_tree.specs.declared.op.UnaryOp.{UnaryOp}
use Rattle.sc_tree.specs.declared.op.UnaryOp.TheVariants as sign
use Rattle.sc_tree.specs.declared.op.Step.{Step}
use Rattle.sc_tree.specs.declared.expr.Place.{Place}
use Rattle.sc_world.specs.declared.run.Reason.TheVariants as reason
use Rattle.sc_world.specs.declared.run.Origin.TheVariants as origin
use Rattle.sc_world.specs.Tree as tree
use Rattle.sc_world.specs.Tree.{Ty, is_integer, is_pointer, is_array, is_void, int_bits, target_or_void, Exp, Comma, Assign, Binary, Cast, Unary, PreInc, PostInc, Index, Field, Param, Local, Convert, Temp, TempPlace, type_of}
use Rattle.sc_world.specs.Layout.{Layout}
use Rattle.sc_world.specs.World.{Env, Run, ◌>>=◌, done, load, store, dereference, kind_of_type, number_of, pointer_to, is_true, unless}
use Rattle.sc_world.specs.Eval.{Want, Value, Place', eval, wanted, needs_right, place_of, is_logical, operated, counted, combined, convert, first_element, assign_by, assign_value, assign_struct, element, truth_cell, member}
use Rattle.flow_graph.specs.Conditions as graph
use Rattle.flow_types.specs.Kinds as flow
use Rattle.tr_expr.specs.Evals.{Operates, IsOfUnary, of_unary}
use Rattle.tr_expr.specs.Names.{DoesName, DoesAddress}
use Rattle.tr_expr.proofs.TypeKinds.{integer_kind, pointer_kind}
use Rattle.expr_fits.specs.declared.around.Around.{Around}
use Rattle.expr_fits.specs.Around.{layout_of, source_of, temps_of}
use Rattle.tr_walk.specs.Leaves.{Converts}
use Rattle.expr_fits.specs.Temps.{AreKept, HasKindFor, temp_at}
use Rattle.expr_fits.specs.Fits.{CanWalk}
use Rattle.tr_walk.specs.Walks.{IsReady, Walks, changes, takes_value}
use Rattle.tr_walk.proofs.Kept.{ends_grow, kept_at, kind_at, left_kept, right_kept, temp_low}
use Rattle.tr_walk.proofs.Types.{read_kind}

-- Steps one after the other; behind the first one it is known that the run went on before, where it goes on.
followed : {A B : Type 0} (v : ℕ → Bool) (l0 l1 l2 : List Location) (g0 g1 g2 : Ends) (m : Run A) (f : A → Run B) (Good : A → Type 0) (Fine : B → Type 0)
    → Does v l0 g0 m l1 g1 Good → ((a : A) → Good a → (v g1.live.at ≡ true → v g0.live.at ≡ true) → Does v l1 g1 (f a) l2 g2 Fine)
    → Does v l0 g0 (m >>= f) l2 g2 Fine
followed {A = A} v l0 l1 l2 g0 g1 g2 m f Good Fine first next =
    bind v l0 l1 l2 g0 g1 g2 m f (λ (a : A). Good a × (v g1.live.at ≡ true → v g0.live.at ≡ true)) Fine
    (does_narrow v l0 l1 g0 g1 m Good first) (λ a h. next a h.0 h.1)

-- a value that is only read
read_good : (v : ℕ → Bool) (g : Ends) (p : Layout) (want : Want) (t : Ty) (x : Val) (c : Cell) → IsRead want → Meets v x c → GoodFor v g p want t x c
read_good v g p Value t x c read h = h
read_good v g p Place' t x c read h = absurd read

read_does : (v : ℕ → Bool) (l0 l1 : List Location) (g0 g1 : Ends) (m : Run Cell) (p : Layout) (want : Want) (t : Ty) (x : Val) → IsRead want
    → Does v l0 g0 m l1 g1 (Meets v x) → Does v l0 g0 m l1 g1 (GoodFor v g1 p want t x)
read_does v l0 l1 g0 g1 m p Value t x read h = record { does = h.does }
read_does v l0 l1 g0 g1 m p Place' t x read h = absurd read

-- of what a step gives less is wanted
weaken : {A : Type 0} (v : ℕ → Bool) (l0 l1 : List Location) (g0 g1 : Ends) (m : Run A) (Good Fine : A → Type 0) → ((c : A) → Good c → Fine c)
    → Does v l0 g0 m l1 g1 Good → Does v l0 g0 m l1 g1 Fine
weaken v l0 l1 g0 g1 m Good Fine less h = does_tell v l0 l1 g0 g1 m Good Fine (λ w met c u is good. less c good) (λ c off good. less c good) h

module _ (a : Around) where
  abbrev env : List Bool → List Cell → ℕ → Env
  env bits cells turn = env_of (source_of a) (layout_of a) bits cells turn

  -- what was kept of the temps that a run reads
  abbrev Have : (v : ℕ → Bool) → Bool → flow.Kinds → List Cell → (named : List ℕ) → Type 0
  Have v b k cells named = AreKept v b (layout_of a) k.temps (temps_of a) cells named

  left : (v : ℕ → Bool) (b : Bool) (k : flow.Kinds) (cells : List Cell) (x y : Exp) → Have v b k cells (graph.temps_of x ++ graph.temps_of y)
      → Have v b k cells (graph.temps_of x)
  left v b k cells x y h = left_kept v (layout_of a) k.temps (temps_of a) cells (graph.temps_of x) (graph.temps_of y) b h

  right : (v : ℕ → Bool) (b0 b1 : Bool) (k : flow.Kinds) (cells : List Cell) (x y : Exp) → (b1 ≡ true → b0 ≡ true)
      → Have v b0 k cells (graph.temps_of x ++ graph.temps_of y) → Have v b1 k cells (graph.temps_of y)
  right v b0 b1 k cells x y narrow h =
      right_kept v (layout_of a) k.temps (temps_of a) cells (graph.temps_of x) (graph.temps_of y) b0 b1 narrow h

  pub walks_comma : (n1 n2 : List Node) (want : Want) (x y : Exp) (t : Ty) (l0 l1 l2 : List Location) (g0 g1 g2 : Ends) (u r : Val) → Grown n1 n2
      → type_of y ≡ t → Walks a n1 Value x l0 l1 g0 g1 u → Walks a n2 want y l1 l2 g1 g2 r → Walks a n2 want (Comma x y t) l0 l2 g0 g2 r
  walks_comma n1 n2 want x y t l0 l1 l2 g0 g1 g2 u r grown is first second =
      record {
        below = second.below;
        kind = subst (λ z. HasKindFor (source_of a) want z r) is second.kind;
        top = second.top;
        same = second.same ∙ first.same;
        ends = second.ends;
        bads = second.bads ∙ first.bads;
        does = λ choice v runs k fits bits cells turn kept.
            subst (λ z. Does v l0 g0 (eval (Comma x y t) want (env bits cells turn)) l2 g2 (GoodFor v g2 (layout_of a) want z r)) is
            (followed v l0 l1 l2 g0 g1 g2 (eval x Value (env bits cells turn)) (λ c. eval y want (env bits cells turn)) (GoodFor v g1 (layout_of a) Value (type_of x) u)
            (GoodFor v g2 (layout_of a) want (type_of y) r)
            (first.does choice v (grown.runs choice v runs) k fits.0 bits cells turn (left v (v g0.live.at) k cells x y kept))
            (λ c good narrow.
            second.does choice v runs k fits.1 bits cells turn (right v (v g0.live.at) (v g1.live.at) k cells x y narrow kept)));
      }

  pub walks_assign : (n1 n2 n3 : List Node) (want : Want) (works : Ty) (x y : Exp) (t : Ty) (l0 l1 l2 l3 : List Location) (g0 g1 g2 : Ends) (q : Sets) (u r : Val)
      → Grown n1 n2 → Grown n2 n3 → is_scalar t ≡ true → Walks a n1 Place' x l0 l1 g0 g1 (Set q) → Walks a n2 Value y l1 l2 g1 g2 u
      → DoesAssign (source_of a) (layout_of a) n3 g2 want t q u l2 l3 r → Walks a n3 want (Assign None works x y t) l0 l3 g0 g2 r
  walks_assign n1 n2 n3 want works x y t l0 l1 l2 l3 g0 g1 g2 q u r grown grown3 cell first second assigned =
      record {
        below = assigned.below;
        kind = λ some. assigned.kind;
        top = assigned.top;
        same = assigned.same ∙ second.same ∙ first.same;
        ends = ends_grow n2 n3 g2 grown3 second.ends;
        bads = second.bads ∙ first.bads;
        does = λ choice v runs k fits bits cells turn kept.
            let r2 = grown3.runs choice v runs in
            followed v l0 l1 l3 g0 g1 g2 (eval x Place' (env bits cells turn)) (λ c. assign_by None works t want (env bits cells turn) c (eval y))
            (GoodFor v g1 (layout_of a) Place' (type_of x) (Set q)) (GoodFor v g2 (layout_of a) want t r)
            (first.does choice v (grown.runs choice v r2) k fits.0 bits cells turn (left v (v g0.live.at) k cells x y kept))
            (λ c good narrow.
            subst (λ b. Does v l1 g1 (if b
            then (eval y Value (env bits cells turn) >>= λ d. assign_value (env bits cells turn) want t c d)
            else (eval y Place' (env bits cells turn) >>= λ d. assign_struct (env bits cells turn) c d)) l3 g2 (GoodFor v g2 (layout_of a) want t r)) (sym cell)
            (followed v l1 l2 l3 g1 g2 g2 (eval y Value (env bits cells turn)) (λ d. assign_value (env bits cells turn) want t c d)
            (GoodFor v g2 (layout_of a) Value (type_of y) u) (GoodFor v g2 (layout_of a) want t r)
            (second.does choice v r2 k (subst (λ w. flow.FitsOver k (layout_of a) w y) (ap (λ b. if b then Value else Place') cell) fits.1) bits cells turn
            (right v (v g0.live.at) (v g1.live.at) k cells x y narrow kept))
            (λ d meets more.
            assigned.does choice v runs bits cells turn c d
            (place_stays v g1 g2 (layout_of a) t q c more (subst (λ z. GoodFor v g1 (layout_of a) Place' z (Set q) c) fits.2 good)) meets)));
      }

  pub walks_copy : (n1 n2 n3 : List Node) (want : Want) (works : Ty) (x y : Exp) (t : Ty) (l0 l1 l2 l3 : List Location) (g0 g1 g2 : Ends) (q u : Sets) (r : Val)
      → Grown n1 n2 → Grown n2 n3 → is_scalar t ≡ false → Walks a n1 Place' x l0 l1 g0 g1 (Set q) → Walks a n2 Place' y l1 l2 g1 g2 (Set u)
      → DoesCopy (source_of a) (layout_of a) n3 g2 t q u l2 l3 r → Walks a n3 want (Assign None works x y t) l0 l3 g0 g2 r
  walks_copy n1 n2 n3 want works x y t l0 l1 l2 l3 g0 g1 g2 q u r grown grown3 cell first second copied =
      record {
        below = copied.below;
        kind = λ some. copied.kind ∙ sym (object_kind want);
        top = copied.top;
        same = copied.same ∙ second.same ∙ first.same;
        ends = ends_grow n2 n3 g2 grown3 second.ends;
        bads = second.bads ∙ first.bads;
        does = λ choice v runs k fits bits cells turn kept.
            let r2 = grown3.runs choice v runs in
            followed v l0 l1 l3 g0 g1 g2 (eval x Place' (env bits cells turn)) (λ c. assign_by None works t want (env bits cells turn) c (eval y))
            (GoodFor v g1 (layout_of a) Place' (type_of x) (Set q)) (GoodFor v g2 (layout_of a) want t r)
            (first.does choice v (grown.runs choice v r2) k fits.0 bits cells turn (left v (v g0.live.at) k cells x y kept))
            (λ c good narrow.
            subst (λ b. Does v l1 g1 (if b
            then (eval y Value (env bits cells turn) >>= λ d. assign_value (env bits cells turn) want t c d)
            else (eval y Place' (env bits cells turn) >>= λ d. assign_struct (env bits cells turn) c d)) l3 g2 (GoodFor v g2 (layout_of a) want t r)) (sym cell)
            (followed v l1 l2 l3 g1 g2 g2 (eval y Place' (env bits cells turn)) (λ d. assign_struct (env bits cells turn) c d)
            (GoodFor v g2 (layout_of a) Place' (type_of y) (Set u)) (GoodFor v g2 (layout_of a) want t r)
            (second.does choice v r2 k (subst (λ w. flow.FitsOver k (layout_of a) w y) (ap (λ b. if b then Value else Place') cell) fits.1) bits cells turn
            (right v (v g0.live.at) (v g1.live.at) k cells x y narrow kept))
            (λ d meets more.
            either v l2 l3 g2 (assign_struct (env bits cells turn) c d) want
            (copied.does choice v runs bits cells turn c d
            (place_stays v g1 g2 (layout_of a) t q c more (subst (λ z. GoodFor v g1 (layout_of a) Place' z (Set q) c) fits.2 good))
            (subst (λ z. GoodFor v g2 (layout_of a) Place' z (Set u) d) fits.3 meets)))));
      }
    where
      object_kind : (w : Want) → wanted_kind (source_of a) w t ≡ Pointers
      object_kind Value = ap (λ b. if b then kind_of_type (source_of a) (Some t) else Pointers) cell
      object_kind Place' = refl

      -- the place of an object is its value, too
      either : (v : ℕ → Bool) (k0 k1 : List Location) (g : Ends) (m : Run Cell) (w : Want) → Does v k0 g m k1 g (GoodFor v g (layout_of a) Place' t r)
          → Does v k0 g m k1 g (GoodFor v g (layout_of a) w t r)
      either v k0 k1 g m Place' h = record { does = h.does }
      either v k0 k1 g m Value h = weaken v k0 k1 g g m (GoodFor v g (layout_of a) Place' t r) (Meets v r) (λ c good. good.0) h

  -- `+=` and its kin

  -- the value at the place on the left
  load_does : (ns : List Node) (t : Ty) (l : List Location) (q : Sets) (x : Val) → is_integer t ≡ true
      → DoesFind (source_of a) (layout_of a) ns l Value t q.pairs.items x → (choice v : ℕ → Bool) → Runs ns choice v → (g : Ends) (c : Cell)
      → GoodFor v g (layout_of a) Place' t (Set q) c → Does v l g (load (place_of c)) l g (Meets v x)
  load_does ns t l q x integer found choice v runs g c good =
      subst (λ b. Does v l g ((if b || is_pointer t then load (place_of c) else done (pointer_to (place_of c)))) l g (Meets v x)) integer
      (found.does choice v runs g (place_of c) (place_leads v g (layout_of a) t q c good) (λ on. (good.1 on).stands))

  pub walks_combined : (n1 n2 n3 n4 n5 : List Node) (want : Want) (o : BinaryOp) (works : Ty) (x y : Exp) (t : Ty) (l0 l1 l2 l3 : List Location) (g0 g1 g2 g3 : Ends)
      (q : Sets) (old u sum r : Val) → Grown n1 n2 → Grown n2 n3 → Grown n3 n4 → Grown n4 n5 → AreEnds n4 g3 → length g3.bads.items ≡ length g2.bads.items
      → is_integer t ≡ true → Walks a n1 Place' x l0 l1 g0 g1 (Set q) → DoesFind (source_of a) (layout_of a) n2 l1 Value t q.pairs.items old
      → Walks a n3 Value y l1 l2 g1 g2 u → Combines (source_of a) n4 o works t old u g2 g3 sum
      → DoesAssign (source_of a) (layout_of a) n5 g3 want t q sum l2 l3 r → Walks a n5 want (Assign (Some o) works x y t) l0 l3 g0 g3 r
  walks_combined n1 n2 n3 n4 n5 want o works x y t l0 l1 l2 l3 g0 g1 g2 g3 q old u sum r grown2 grown3 grown4 grown5 ends bads integer first found second made assigned =
      record {
        below = assigned.below;
        kind = λ some. assigned.kind;
        top = assigned.top;
        same = assigned.same ∙ second.same ∙ first.same;
        ends = ends_grow n4 n5 g3 grown5 ends;
        bads = bads ∙ second.bads ∙ first.bads;
        does = λ choice v runs k fits bits cells turn kept.
            let r4 = grown5.runs choice v runs in
            let r3 = grown4.runs choice v r4 in
            let r2 = grown3.runs choice v r3 in
            followed v l0 l1 l3 g0 g1 g3 (eval x Place' (env bits cells turn)) (λ c. assign_by (Some o) works t want (env bits cells turn) c (eval y))
            (GoodFor v g1 (layout_of a) Place' (type_of x) (Set q)) (GoodFor v g3 (layout_of a) want t r)
            (first.does choice v (grown2.runs choice v r2) k fits.0 bits cells turn (left v (v g0.live.at) k cells x y kept))
            (λ c good narrow.
            let place : GoodFor v g1 (layout_of a) Place' t (Set q) c = subst (λ z. GoodFor v g1 (layout_of a) Place' z (Set q) c) fits.2 good in
            followed v l1 l1 l3 g1 g1 g3 (load (place_of c))
            (λ b. eval y Value (env bits cells turn) >>= λ d. combined (env bits cells turn) o works t b d >>= λ e. assign_value (env bits cells turn) want t c e)
            (Meets v old) (GoodFor v g3 (layout_of a) want t r) (load_does n2 t l1 q old integer found choice v r2 g1 c place)
            (λ b was still.
            followed v l1 l2 l3 g1 g2 g3 (eval y Value (env bits cells turn))
            (λ d. combined (env bits cells turn) o works t b d >>= λ e. assign_value (env bits cells turn) want t c e)
            (Meets v u) (GoodFor v g3 (layout_of a) want t r)
            (second.does choice v r3 k fits.1 bits cells turn (right v (v g0.live.at) (v g1.live.at) k cells x y narrow kept))
            (λ d meets more.
            followed v l2 l2 l3 g2 g3 g3 (combined (env bits cells turn) o works t b d) (λ e. assign_value (env bits cells turn) want t c e) (Meets v sum)
            (GoodFor v g3 (layout_of a) want t r) (made.does choice v r4 l2 (layout_of a) bits cells turn b d was meets)
            (λ e is most.
            assigned.does choice v runs bits cells turn c e (place_stays v g1 g3 (layout_of a) t q c (λ on. more (most on)) place) is))));
      }

  pub walks_binary : (n1 n2 n3 : List Node) (want : Want) (o : BinaryOp) (x y : Exp) (t : Ty) (l0 l1 l2 : List Location) (g0 g1 g2 g3 : Ends) (u w r : Val)
      → Grown n1 n2 → Grown n2 n3 → AreEnds n3 g3 → length g3.bads.items ≡ length g2.bads.items → is_logical o ≡ false → IsRead want → is_integer t ≡ true
      → Walks a n1 Value x l0 l1 g0 g1 u → Walks a n2 Value y l1 l2 g1 g2 w → Operates (source_of a) n3 o (type_of x) t u w g2 g3 r → locations_top l2 ≤ length n3
      → Walks a n3 want (Binary o x y t) l0 l2 g0 g3 r
  walks_binary n1 n2 n3 want o x y t l0 l1 l2 g0 g1 g2 g3 u w r grown grown3 ends bads plain read integer first second made top =
      record {
        below = made.below;
        kind = read_kind (source_of a) want t r read (ap (λ b. b || is_pointer t) integer) made.kind;
        top = top;
        same = second.same ∙ first.same;
        ends = ends;
        bads = bads ∙ second.bads ∙ first.bads;
        does = λ choice v runs k fits bits cells turn kept.
            let r2 = grown3.runs choice v runs in
            read_does v l0 l2 g0 g3 (eval (Binary o x y t) want (env bits cells turn)) (layout_of a) want t r read
            (followed v l0 l1 l2 g0 g1 g3 (eval x Value (env bits cells turn))
            (λ c. if is_logical o
            then (if needs_right o (is_true c)
            then (eval y Value (env bits cells turn) >>= λ d. done (truth_cell (env bits cells turn) t (is_true d)))
            else done (truth_cell (env bits cells turn) t (is_true c)))
            else (eval y Value (env bits cells turn) >>= λ d. operated (env bits cells turn) o (type_of x) t c d)) (Meets v u) (Meets v r)
            (first.does choice v (grown.runs choice v r2) k fits.0 bits cells turn (left v (v g0.live.at) k cells x y kept))
            (λ c was narrow.
            subst (λ b. Does v l1 g1 (if b
            then (if needs_right o (is_true c)
            then (eval y Value (env bits cells turn) >>= λ d. done (truth_cell (env bits cells turn) t (is_true d)))
            else done (truth_cell (env bits cells turn) t (is_true c)))
            else (eval y Value (env bits cells turn) >>= λ d. operated (env bits cells turn) o (type_of x) t c d)) l2 g3 (Meets v r)) (sym plain)
            (followed v l1 l2 l2 g1 g2 g3 (eval y Value (env bits cells turn)) (λ d. operated (env bits cells turn) o (type_of x) t c d) (Meets v w) (Meets v r)
            (second.does choice v r2 k fits.1 bits cells turn (right v (v g0.live.at) (v g1.live.at) k cells x y narrow kept))
            (λ d meets more. made.does choice v runs l2 (layout_of a) bits cells turn c d was meets))));
      }

  -- the value in another type

  pub walks_array : (n1 n2 : List Node) (want : Want) (x : Exp) (t : Ty) (l0 l1 : List Location) (g0 g1 : Ends) (q u : Sets) → Grown n1 n2 → is_array (type_of x) ≡ true
      → IsRead want → Walks a n1 Place' x l0 l1 g0 g1 (Set q) → IsFirstElement n2 (layout_of a) q u → HasKindFor (source_of a) want t (Set u)
      → Walks a n2 want (Convert x t) l0 l1 g0 g1 (Set u)
  walks_array n1 n2 want x t l0 l1 g0 g1 q u grown array read first made kind =
      record {
        below = made.below;
        kind = kind;
        top = omega (arith, first.top, grown.longer);
        same = first.same;
        ends = ends_grow n1 n2 g1 grown first.ends;
        bads = first.bads;
        does = λ choice v runs k fits bits cells turn kept.
            read_does v l0 l1 g0 g1 (eval (Convert x t) want (env bits cells turn)) (layout_of a) want t (Set u) read
            (subst (λ b. Does v l0 g0 (if b
            then (eval x Place' (env bits cells turn) >>= λ c. done (first_element (env bits cells turn) c))
            else (eval x Value (env bits cells turn) >>= λ c. done (convert (env bits cells turn) (type_of x) t c))) l1 g1 (Meets v (Set u))) (sym array)
            (followed v l0 l1 l1 g0 g1 g1 (eval x Place' (env bits cells turn)) (λ c. done (first_element (env bits cells turn) c))
            (GoodFor v g1 (layout_of a) Place' (type_of x) (Set q)) (Meets v (Set u))
            (first.does choice v (grown.runs choice v runs) k (subst (λ w. flow.FitsOver k (layout_of a) w x) (ap (λ b. if b then Place' else Value) array) fits.0)
            bits cells turn kept)
            (λ c good narrow.
            does_done v l1 g1 (first_element (env bits cells turn) c) (Meets v (Set u)) (made.value choice v runs (source_of a) bits cells turn c good.0))));
      }

  pub walks_convert : (n1 n2 : List Node) (want : Want) (x : Exp) (t : Ty) (l0 l1 : List Location) (g0 g1 : Ends) (u r : Val) → Grown n1 n2 → is_array (type_of x) ≡ false
      → IsRead want → Walks a n1 Value x l0 l1 g0 g1 u → Converts (source_of a) n2 (type_of x) t u r → Walks a n2 want (Convert x t) l0 l1 g0 g1 r
  walks_convert n1 n2 want x t l0 l1 g0 g1 u r grown array read first made =
      record {
        below = made.below;
        kind = kind_of want read made.kind;
        top = omega (arith, first.top, grown.longer);
        same = first.same;
        ends = ends_grow n1 n2 g1 grown first.ends;
        bads = first.bads;
        does = λ choice v runs k fits bits cells turn kept.
            read_does v l0 l1 g0 g1 (eval (Convert x t) want (env bits cells turn)) (layout_of a) want t r read
            (subst (λ b. Does v l0 g0 (if b
            then (eval x Place' (env bits cells turn) >>= λ c. done (first_element (env bits cells turn) c))
            else (eval x Value (env bits cells turn) >>= λ c. done (convert (env bits cells turn) (type_of x) t c))) l1 g1 (Meets v r)) (sym array)
            (followed v l0 l1 l1 g0 g1 g1 (eval x Value (env bits cells turn)) (λ c. done (convert (env bits cells turn) (type_of x) t c))
            (Meets v u) (Meets v r)
            (first.does choice v (grown.runs choice v runs) k (subst (λ w. flow.FitsOver k (layout_of a) w x) (ap (λ b. if b then Place' else Value) array) fits.0)
            bits cells turn kept)
            (λ c meets narrow.
            does_done v l1 g1 (convert (env bits cells turn) (type_of x) t c) (Meets v r) (made.value choice v runs (layout_of a) bits cells turn c meets))));
      }
    where
      kind_of : (w : Want) → IsRead w → HasKindFor (source_of a) Value t r → HasKindFor (source_of a) w t r
      kind_of Value read h = h
      kind_of Place' read h = absurd read

  pub walks_cast : (ns : List Node) (want : Want) (x : Exp) (t : Ty) (l0 l1 : List Location) (g0 g1 : Ends) (r : Val) → Walks a ns want (Convert x t) l0 l1 g0 g1 r
      → Walks a ns want (Cast x t) l0 l1 g0 g1 r
  walks_cast ns want x t l0 l1 g0 g1 r h =
      record {
        below = h.below;
        kind = h.kind;
        top = h.top;
        same = h.same;
        ends = h.ends;
        bads = h.bads;
        does = λ choice v runs k fits bits cells turn kept. h.does choice v runs k fits bits cells turn kept;
      }

  -- operators on one value

  pub walks_address : (ns : List Node) (want : Want) (x : Exp) (t : Ty) (l0 l1 : List Location) (g0 g1 : Ends) (r : Val) → IsRead want → is_pointer t ≡ true
      → Walks a ns Place' x l0 l1 g0 g1 r → Walks a ns want (Unary sign.Address x t) l0 l1 g0 g1 r
  walks_address ns want x t l0 l1 g0 g1 r read pointer h =
      record {
        below = h.below;
        kind = read_kind (source_of a) want t r read (ap (λ b. is_integer t || b) pointer ∙ or_true (is_integer t)) (h.kind refl ∙ sym (pointer_kind (source_of a) t pointer));
        top = h.top;
        same = h.same;
        ends = h.ends;
        bads = h.bads;
        does = λ choice v runs k fits bits cells turn kept.
            read_does v l0 l1 g0 g1 (eval x Place' (env bits cells turn)) (layout_of a) want t r read
            (weaken v l0 l1 g0 g1 (eval x Place' (env bits cells turn)) (GoodFor v g1 (layout_of a) Place' (type_of x) r) (Meets v r) (λ c good. good.0)
            (h.does choice v runs k fits.0 bits cells turn kept));
      }
    where
      or_true : (b : Bool) → b || true ≡ true
      or_true true = refl
      or_true false = refl

  -- what is behind a pointer
  cell_points : (v : ℕ → Bool) (q : Sets) (c : Cell) → Meets v (Set q) c → (target : ℕ) × (c ≡ Pointer target) × Points v q.pairs.items target
  cell_points v q (Pointer t) m = (t, refl, m)
  cell_points v q (Number w n) m = absurd m
  cell_points v q Nothing m = absurd m

  pub walks_deref : (n1 n2 : List Node) (want : Want) (x : Exp) (t : Ty) (l0 l1 : List Location) (g0 g1 g2 : Ends) (q : Sets) (r : Val) → Grown n1 n2 → AreEnds n2 g2
      → length g2.bads.items ≡ length g1.bads.items → Walks a n1 Value x l0 l1 g0 g1 (Set q)
      → DoesIndirect (source_of a) (layout_of a) n2 l1 want t q.pairs.items g1 g2 r → Walks a n2 want (Unary sign.Deref x t) l0 l1 g0 g2 r
  walks_deref n1 n2 want x t l0 l1 g0 g1 g2 q r grown ends bads first made =
      record {
        below = made.below;
        kind = λ some. made.kind;
        top = omega (arith, first.top, grown.longer);
        same = first.same;
        ends = ends;
        bads = bads ∙ first.bads;
        does = λ choice v runs k fits bits cells turn kept.
            followed v l0 l1 l1 g0 g1 g2 (eval x Value (env bits cells turn)) (λ c. dereference (env bits cells turn) t c >>= λ at. wanted want t at) (Meets v (Set q))
            (GoodFor v g2 (layout_of a) want t r) (first.does choice v (grown.runs choice v runs) k fits.0 bits cells turn kept)
            (λ c meets narrow.
            let h = cell_points v q c meets in
            subst (λ d. Does v l1 g1 (dereference (env bits cells turn) t d >>= λ at. wanted want t at) l1 g2 (GoodFor v g2 (layout_of a) want t r)) (sym h.1)
            (made.does choice v runs bits cells turn h.0 h.2));
      }

  unary_is : (o : UnaryOp) (x : Exp) (t : Ty) (want : Want) (bits : List Bool) (cells : List Cell) (turn : ℕ) (k : Run Cell → Type 0) → takes_value o ≡ true
      → k (eval x Value (env bits cells turn) >>= λ c. done (of_unary (env bits cells turn) o t c)) → k (eval (Unary o x t) want (env bits cells turn))
  unary_is sign.Not x t want bits cells turn k e h = h
  unary_is sign.Plus x t want bits cells turn k e h = h
  unary_is sign.Minus x t want bits cells turn k e h = h
  unary_is sign.Complement x t want bits cells turn k e h = h
  unary_is sign.Address x t want bits cells turn k e h = absurd (true≢false (sym e))
  unary_is sign.Deref x t want bits cells turn k e h = absurd (true≢false (sym e))

  unary_operand : (o : UnaryOp) (x : Exp) (t : Ty) (want : Want) (k : flow.Kinds) → takes_value o ≡ true → flow.FitsOver k (layout_of a) want (Unary o x t)
      → flow.FitsOver k (layout_of a) Value x
  unary_operand sign.Not x t want k e h = h.0
  unary_operand sign.Plus x t want k e h = h.0
  unary_operand sign.Minus x t want k e h = h.0
  unary_operand sign.Complement x t want k e h = h.0
  unary_operand sign.Address x t want k e h = absurd (true≢false (sym e))
  unary_operand sign.Deref x t want k e h = absurd (true≢false (sym e))

  pub walks_unary : (n1 n2 : List Node) (want : Want) (o : UnaryOp) (x : Exp) (t : Ty) (l0 l1 : List Location) (g0 g1 : Ends) (u r : Val) → Grown n1 n2
      → takes_value o ≡ true → IsRead want → is_integer t ≡ true → Walks a n1 Value x l0 l1 g0 g1 u → IsOfUnary (source_of a) n2 o t u r
      → Walks a n2 want (Unary o x t) l0 l1 g0 g1 r
  walks_unary n1 n2 want o x t l0 l1 g0 g1 u r grown takes read integer first made =
      record {
        below = made.below;
        kind = read_kind (source_of a) want t r read (ap (λ b. b || is_pointer t) integer) made.kind;
        top = omega (arith, first.top, grown.longer);
        same = first.same;
        ends = ends_grow n1 n2 g1 grown first.ends;
        bads = first.bads;
        does = λ choice v runs k fits bits cells turn kept.
            read_does v l0 l1 g0 g1 (eval (Unary o x t) want (env bits cells turn)) (layout_of a) want t r read
            (unary_is o x t want bits cells turn (λ m. Does v l0 g0 m l1 g1 (Meets v r)) takes
            (followed v l0 l1 l1 g0 g1 g1 (eval x Value (env bits cells turn)) (λ c. done (of_unary (env bits cells turn) o t c)) (Meets v u) (Meets v r)
            (first.does choice v (grown.runs choice v runs) k (unary_operand o x t want k takes fits) bits cells turn kept)
            (λ c meets narrow.
            does_done v l1 g1 (of_unary (env bits cells turn) o t c) (Meets v r) (made.value choice v runs (layout_of a) bits cells turn c meets))));
      }

  -- `++` and `--`

  counting : (n1 n2 n3 n4 : List Node) (d : Step) (x : Exp) (t : Ty) (l0 l1 l2 : List Location) (g0 g1 g2 : Ends) (q : Sets) (old new r : Val) (pick : Cell → Cell → Cell)
      → Grown n1 n2 → Grown n2 n3 → Grown n3 n4 → is_integer t ≡ true → type_of x ≡ t → Walks a n1 Place' x l0 l1 g0 g1 (Set q)
      → DoesFind (source_of a) (layout_of a) n2 l1 Value t q.pairs.items old → Counts (source_of a) n3 d t old g1 g2 new → DoesStore n4 g2 q.pairs.items new l1 l2
      → ((v : ℕ → Bool) (b e : Cell) → Meets v old b → Meets v new e → Meets v r (pick b e))
      → (choice v : ℕ → Bool) → Runs n4 choice v → (k : flow.Kinds) → flow.FitsOver k (layout_of a) Place' x
      → (bits : List Bool) (cells : List Cell) (turn : ℕ) → Have v (v g0.live.at) k cells (graph.temps_of x)
      → Does v l0 g0 (eval x Place' (env bits cells turn) >>= λ c. load (place_of c) >>= λ b. counted (env bits cells turn) d t b >>= λ e. store (place_of c) e
      >>= λ w. done (pick b e)) l2 g2 (Meets v r)
  counting n1 n2 n3 n4 d x t l0 l1 l2 g0 g1 g2 q old new r pick grown2 grown3 grown4 integer is first found made stored picked choice v runs k fits bits cells turn kept =
      let r3 = grown4.runs choice v runs in
      let r2 = grown3.runs choice v r3 in
      followed v l0 l1 l2 g0 g1 g2 (eval x Place' (env bits cells turn))
      (λ c. load (place_of c) >>= λ b. counted (env bits cells turn) d t b >>= λ e. store (place_of c) e >>= λ w. done (pick b e))
      (GoodFor v g1 (layout_of a) Place' (type_of x) (Set q)) (Meets v r) (first.does choice v (grown2.runs choice v r2) k fits bits cells turn kept)
      (λ c good narrow.
      let place : GoodFor v g1 (layout_of a) Place' t (Set q) c = subst (λ z. GoodFor v g1 (layout_of a) Place' z (Set q) c) is good in
      followed v l1 l1 l2 g1 g1 g2 (load (place_of c)) (λ b. counted (env bits cells turn) d t b >>= λ e. store (place_of c) e >>= λ w. done (pick b e)) (Meets v old)
      (Meets v r) (load_does n2 t l1 q old integer found choice v r2 g1 c place)
      (λ b was still.
      followed v l1 l1 l2 g1 g2 g2 (counted (env bits cells turn) d t b) (λ e. store (place_of c) e >>= λ w. done (pick b e)) (Meets v new) (Meets v r)
      (made.does choice v r3 l1 (layout_of a) bits cells turn b was)
      (λ e meets more.
      followed v l1 l2 l2 g2 g2 g2 (store (place_of c) e) (λ w. done (pick b e)) (Any {A = Unit {0}}) (Meets v r)
      (stored.does choice v runs (place_of c) e (place_leads v g2 (layout_of a) t q c (place_stays v g1 g2 (layout_of a) t q c more place)) meets)
      (λ w any most. does_done v l2 g2 (pick b e) (Meets v r) (picked v b e was meets)))))

  pub walks_changed : (n1 n2 n3 n4 : List Node) (want : Want) (gives_new : Bool) (d : Step) (x : Exp) (t : Ty) (l0 l1 l2 : List Location) (g0 g1 g2 : Ends) (q : Sets)
      (old new r : Val) → Grown n1 n2 → Grown n2 n3 → Grown n3 n4 → AreEnds n3 g2 → length g2.bads.items ≡ length g1.bads.items → IsRead want → is_integer t ≡ true
      → type_of x ≡ t → Walks a n1 Place' x l0 l1 g0 g1 (Set q) → DoesFind (source_of a) (layout_of a) n2 l1 Value t q.pairs.items old
      → Counts (source_of a) n3 d t old g1 g2 new → DoesStore n4 g2 q.pairs.items new l1 l2 → (if gives_new then new else old) ≡ r
      → Walks a n4 want (changes gives_new d x t) l0 l2 g0 g2 r
  walks_changed n1 n2 n3 n4 want true d x t l0 l1 l2 g0 g1 g2 q old new r grown2 grown3 grown4 ends bads read integer is first found made stored picked =
      let cell : is_scalar t ≡ true = ap (λ b. b || is_pointer t) integer in
      subst (λ z. Walks a n4 want (PreInc d x t) l0 l2 g0 g2 z) picked
      (record {
        below = omega (arith, made.below, grown4.longer);
        kind = read_kind (source_of a) want t new read cell made.kind;
        top = stored.below;
        same = stored.same ∙ first.same;
        ends = ends_grow n3 n4 g2 grown4 ends;
        bads = bads ∙ first.bads;
        does = λ choice v runs k fits bits cells turn kept.
            read_does v l0 l2 g0 g2 (eval (PreInc d x t) want (env bits cells turn)) (layout_of a) want t new read
            (counting n1 n2 n3 n4 d x t l0 l1 l2 g0 g1 g2 q old new new (λ b e. e) grown2 grown3 grown4 integer is first found made stored
            (λ v b e was has. has) choice v runs k fits.0 bits cells turn kept);
      })
  walks_changed n1 n2 n3 n4 want false d x t l0 l1 l2 g0 g1 g2 q old new r grown2 grown3 grown4 ends bads read integer is first found made stored picked =
      let cell : is_scalar t ≡ true = ap (λ b. b || is_pointer t) integer in
      subst (λ z. Walks a n4 want (PostInc d x t) l0 l2 g0 g2 z) picked
      (record {
        below = omega (arith, found.below, grown3.longer, grown4.longer);
        kind = read_kind (source_of a) want t old read cell (found.kind ∙ ap (λ b. if b then kind_of_type (source_of a) (Some t) else Pointers) cell);
        top = stored.below;
        same = stored.same ∙ first.same;
        ends = ends_grow n3 n4 g2 grown4 ends;
        bads = bads ∙ first.bads;
        does = λ choice v runs k fits bits cells turn kept.
            read_does v l0 l2 g0 g2 (eval (PostInc d x t) want (env bits cells turn)) (layout_of a) want t old read
            (counting n1 n2 n3 n4 d x t l0 l1 l2 g0 g1 g2 q old new old (λ b e. b) grown2 grown3 grown4 integer is first found made stored
            (λ v b e was has. was) choice v runs k fits.0 bits cells turn kept);
      })

  -- elements and members

  pub walks_element : (n1 n2 n3 : List Node) (want : Want) (x y : Exp) (t : Ty) (l0 l1 l2 : List Location) (g0 g1 g2 g3 : Ends) (q : Sets) (w : Words) (r : Val)
      → Grown n1 n2 → Grown n2 n3 → AreEnds n3 g3 → length g3.bads.items ≡ length g2.bads.items → is_array (type_of x) ≡ true → Walks a n1 Place' x l0 l1 g0 g1 (Set q)
      → Walks a n2 Value y l1 l2 g1 g2 (Word w) → DoesElement (source_of a) (layout_of a) n3 l2 want t q w g2 g3 r → Walks a n3 want (Index x y t) l0 l2 g0 g3 r
  walks_element n1 n2 n3 want x y t l0 l1 l2 g0 g1 g2 g3 q w r grown grown3 ends bads array first second made =
      record {
        below = made.below;
        kind = λ some. made.kind;
        top = omega (arith, second.top, grown3.longer);
        same = second.same ∙ first.same;
        ends = ends;
        bads = bads ∙ second.bads ∙ first.bads;
        does = λ choice v runs k fits bits cells turn kept.
            let r2 = grown3.runs choice v runs in
            subst (λ b. Does v l0 g0 (if b
            then (eval x Place' (env bits cells turn) >>= λ c. eval y Value (env bits cells turn) >>= λ d.
            element (env bits cells turn) (place_of c) (number_of d) >>= λ at. wanted want t at)
            else (eval x Value (env bits cells turn) >>= λ c. eval y Value (env bits cells turn) >>= λ d. dereference (env bits cells turn) t c >>= λ at.
            unless (nat_eq (number_of d) 0) reason.Index >>= λ u. wanted want t at)) l2 g3 (GoodFor v g3 (layout_of a) want t r)) (sym array)
            (followed v l0 l1 l2 g0 g1 g3 (eval x Place' (env bits cells turn))
            (λ c. eval y Value (env bits cells turn) >>= λ d. element (env bits cells turn) (place_of c) (number_of d) >>= λ at. wanted want t at)
            (GoodFor v g1 (layout_of a) Place' (type_of x) (Set q)) (GoodFor v g3 (layout_of a) want t r)
            (first.does choice v (grown.runs choice v r2) k (subst (λ z. flow.FitsOver k (layout_of a) z x) (ap (λ b. if b then Place' else Value) array) fits.0)
            bits cells turn (left v (v g0.live.at) k cells x y kept))
            (λ c good narrow.
            followed v l1 l2 l2 g1 g2 g3 (eval y Value (env bits cells turn))
            (λ d. element (env bits cells turn) (place_of c) (number_of d) >>= λ at. wanted want t at) (Meets v (Word w)) (GoodFor v g3 (layout_of a) want t r)
            (second.does choice v r2 k fits.1 bits cells turn (right v (v g0.live.at) (v g1.live.at) k cells x y narrow kept))
            (λ d meets more.
            made.does choice v runs (type_of x) (subst (λ b. Indexed (layout_of a) b (type_of x) t) array fits.3) bits cells turn c d
            (place_stays v g1 g2 (layout_of a) (type_of x) q c more good) meets)));
      }

  pub walks_index : (n1 n2 n3 : List Node) (want : Want) (x y : Exp) (t : Ty) (l0 l1 l2 : List Location) (g0 g1 g2 g3 : Ends) (q : Sets) (w : Words) (r : Val)
      → Grown n1 n2 → Grown n2 n3 → AreEnds n3 g3 → length g3.bads.items ≡ length g2.bads.items → is_array (type_of x) ≡ false → Walks a n1 Value x l0 l1 g0 g1 (Set q)
      → Walks a n2 Value y l1 l2 g1 g2 (Word w) → DoesIndex (source_of a) (layout_of a) n3 l2 want t q.pairs.items w g2 g3 r
      → Walks a n3 want (Index x y t) l0 l2 g0 g3 r
  walks_index n1 n2 n3 want x y t l0 l1 l2 g0 g1 g2 g3 q w r grown grown3 ends bads array first second made =
      record {
        below = made.below;
        kind = λ some. made.kind;
        top = omega (arith, second.top, grown3.longer);
        same = second.same ∙ first.same;
        ends = ends;
        bads = bads ∙ second.bads ∙ first.bads;
        does = λ choice v runs k fits bits cells turn kept.
            let r2 = grown3.runs choice v runs in
            subst (λ b. Does v l0 g0 (if b
            then (eval x Place' (env bits cells turn) >>= λ c. eval y Value (env bits cells turn) >>= λ d.
            element (env bits cells turn) (place_of c) (number_of d) >>= λ at. wanted want t at)
            else (eval x Value (env bits cells turn) >>= λ c. eval y Value (env bits cells turn) >>= λ d. dereference (env bits cells turn) t c >>= λ at.
            unless (nat_eq (number_of d) 0) reason.Index >>= λ u. wanted want t at)) l2 g3 (GoodFor v g3 (layout_of a) want t r)) (sym array)
            (followed v l0 l1 l2 g0 g1 g3 (eval x Value (env bits cells turn))
            (λ c. eval y Value (env bits cells turn) >>= λ d. pointer_index (env bits cells turn) want t c d) (Meets v (Set q)) (GoodFor v g3 (layout_of a) want t r)
            (first.does choice v (grown.runs choice v r2) k (subst (λ z. flow.FitsOver k (layout_of a) z x) (ap (λ b. if b then Place' else Value) array) fits.0)
            bits cells turn (left v (v g0.live.at) k cells x y kept))
            (λ c points narrow.
            let h = cell_points v q c points in
            followed v l1 l2 l2 g1 g2 g3 (eval y Value (env bits cells turn)) (λ d. pointer_index (env bits cells turn) want t c d) (Meets v (Word w))
            (GoodFor v g3 (layout_of a) want t r)
            (second.does choice v r2 k fits.1 bits cells turn (right v (v g0.live.at) (v g1.live.at) k cells x y narrow kept))
            (λ d meets more.
            subst (λ e. Does v l2 g2 (pointer_index (env bits cells turn) want t e d) l2 g3 (GoodFor v g3 (layout_of a) want t r)) (sym h.1)
            (made.does choice v runs bits cells turn h.0 d h.2 meets))));
      }

  pub walks_arrow : (n1 n2 : List Node) (want : Want) (x : Exp) (n : NameId) (t : Ty) (l0 l1 : List Location) (g0 g1 g2 : Ends) (q : Sets) (r : Val) → Grown n1 n2
      → AreEnds n2 g2 → length g2.bads.items ≡ length g1.bads.items → Walks a n1 Value x l0 l1 g0 g1 (Set q)
      → DoesMemberBehind (source_of a) (layout_of a) n2 l1 want (type_of x) t n q.pairs.items g1 g2 r → Walks a n2 want (Field x n true t) l0 l1 g0 g2 r
  walks_arrow n1 n2 want x n t l0 l1 g0 g1 g2 q r grown ends bads first made =
      record {
        below = made.below;
        kind = λ some. made.kind;
        top = omega (arith, first.top, grown.longer);
        same = first.same;
        ends = ends;
        bads = bads ∙ first.bads;
        does = λ choice v runs k fits bits cells turn kept.
            followed v l0 l1 l1 g0 g1 g2 (eval x Value (env bits cells turn)) (λ c. member_behind (env bits cells turn) want (type_of x) t n c) (Meets v (Set q))
            (GoodFor v g2 (layout_of a) want t r) (first.does choice v (grown.runs choice v runs) k fits.0 bits cells turn kept)
            (λ c meets narrow.
            let h = cell_points v q c meets in
            subst (λ d. Does v l1 g1 (member_behind (env bits cells turn) want (type_of x) t n d) l1 g2 (GoodFor v g2 (layout_of a) want t r)) (sym h.1)
            (made.does choice v runs fits.2 bits cells turn h.0 h.2));
      }

  pub walks_dot : (n1 n2 : List Node) (want : Want) (x : Exp) (n : NameId) (t : Ty) (l0 l1 : List Location) (g0 g1 : Ends) (q : Sets) (r : Val) → Grown n1 n2
      → Walks a n1 Place' x l0 l1 g0 g1 (Set q) → DoesMember (source_of a) (layout_of a) n2 l1 g1 want t n q r → Walks a n2 want (Field x n false t) l0 l1 g0 g1 r
  walks_dot n1 n2 want x n t l0 l1 g0 g1 q r grown first made =
      record {
        below = made.below;
        kind = λ some. made.kind;
        top = omega (arith, first.top, grown.longer);
        same = first.same;
        ends = ends_grow n1 n2 g1 grown first.ends;
        bads = first.bads;
        does = λ choice v runs k fits bits cells turn kept.
            followed v l0 l1 l1 g0 g1 g1 (eval x Place' (env bits cells turn)) (λ c. member (env bits cells turn) n (place_of c) >>= λ j. wanted want t j)
            (GoodFor v g1 (layout_of a) Place' (type_of x) (Set q)) (GoodFor v g1 (layout_of a) want t r)
            (first.does choice v (grown.runs choice v runs) k fits.0 bits cells turn kept)
            (λ c good narrow. made.does choice v runs (type_of x) fits.1 bits cells turn c good);
      }

  -- names, constants and temps

  leaf : (n0 ns : List Node) (want : Want) (e : Exp) (l : List Location) (g : Ends) (r : Val) → Grown n0 ns → IsReady a n0 l g → val_top r ≤ length ns
      → HasKindFor (source_of a) want (type_of e) r
      → ((choice v : ℕ → Bool) → Runs ns choice v → (k : flow.Kinds) → flow.FitsOver k (layout_of a) want e → (bits : List Bool) (cells : List Cell) (turn : ℕ)
      → Have v (v g.live.at) k cells (graph.temps_of e)
      → Does v l g (eval e want (env bits cells turn)) l g (GoodFor v g (layout_of a) want (type_of e) r))
      → Walks a ns want e l l g g r
  leaf n0 ns want e l g r grown ready below kind does =
      record {
        below = below;
        kind = kind;
        top = omega (arith, ready.store, grown.longer);
        same = refl;
        ends = ends_grow n0 ns g grown ready.ends;
        bads = refl;
        does = does;
      }

  pub walks_param : (n0 ns : List Node) (want : Want) (n : ℕ) (t : Ty) (l : List Location) (g : Ends) (r : Val) → Grown n0 ns → IsReady a n0 l g
      → DoesName (source_of a) (layout_of a) ns l want t (origin.Param n) r → Walks a ns want (tree.Param n t) l l g g r
  walks_param n0 ns want n t l g r grown ready made =
      leaf n0 ns want (tree.Param n t) l g r grown ready made.below (λ some. made.kind) (λ choice v runs k fits bits cells turn kept. made.does choice v runs fits g)

  pub walks_local : (n0 ns : List Node) (want : Want) (n : ℕ) (t : Ty) (l : List Location) (g : Ends) (r : Val) → Grown n0 ns → IsReady a n0 l g
      → DoesName (source_of a) (layout_of a) ns l want t (origin.Local n) r → Walks a ns want (tree.Local n t) l l g g r
  walks_local n0 ns want n t l g r grown ready made =
      leaf n0 ns want (tree.Local n t) l g r grown ready made.below (λ some. made.kind) (λ choice v runs k fits bits cells turn kept. made.does choice v runs fits g)

  pub walks_global : (n0 ns : List Node) (want : Want) (n : ℕ) (t : Ty) (l : List Location) (g : Ends) (r : Val) → Grown n0 ns → IsReady a n0 l g
      → DoesName (source_of a) (layout_of a) ns l want t (origin.Global n) r → Walks a ns want (tree.Global n t) l l g g r
  walks_global n0 ns want n t l g r grown ready made =
      leaf n0 ns want (tree.Global n t) l g r grown ready made.below (λ some. made.kind) (λ choice v runs k fits bits cells turn kept. made.does choice v runs fits g)

  stub_kind : (want : Want) (t : Ty) (r : Val) → may_be_stub t ≡ true → val_kind r ≡ Pointers → HasKindFor (source_of a) want t r
  stub_kind Value (tree.Array t n) r e h = λ some. h
  stub_kind Value (tree.Func t known ts variadic) r e h = λ some. h
  stub_kind Value _ r e h = absurd (true≢false (sym e))
  stub_kind Place' t r e h = λ some. h

  -- q is the layout as the look-ups have it
  pub walks_function : (ns : List Node) (q : Layout) (want : Want) (n : NameId) (b : Option ℕ) (t : Ty) (l : List Location) (g : Ends) (r : Val) → q ≡ layout_of a
      → IsReady a ns l g → CanWalk a want (tree.Function n b t) → DoesAddress q ns (origin.Function n) r → Walks a ns want (tree.Function n b t) l l g g r
  walks_function ns q want n b t l g r same ready can made =
      let here = subst (λ p. DoesAddress p ns (origin.Function n) r) same made in
      leaf ns ns want (tree.Function n b t) l g r (Grown-refl ns) ready here.below (stub_kind want t r can.fits.1 here.kind)
      (λ choice v runs k fits bits cells turn kept. here.does choice v runs want t fits l g)

  pub walks_string : (ns : List Node) (q : Layout) (want : Want) (x : Place) (t : Ty) (l : List Location) (g : Ends) (r : Val) → q ≡ layout_of a
      → IsReady a ns l g → CanWalk a want (tree.Str x t) → DoesAddress q ns (origin.Literal x.token) r → Walks a ns want (tree.Str x t) l l g g r
  walks_string ns q want x t l g r same ready can made =
      let here = subst (λ p. DoesAddress p ns (origin.Literal x.token) r) same made in
      leaf ns ns want (tree.Str x t) l g r (Grown-refl ns) ready here.below (stub_kind want t r can.fits.1 here.kind)
      (λ choice v runs k fits bits cells turn kept. here.does choice v runs want t fits l g)

  pub walks_number : (ns : List Node) (want : Want) (n : ℕ) (t : Ty) (l : List Location) (g : Ends) (r : Val) → IsReady a ns l g → CanWalk a want (tree.Number n t)
      → IsNumber ns n (int_bits (source_of a).widths t) r → Walks a ns want (tree.Number n t) l l g g r
  walks_number ns want n t l g r ready can made =
      leaf ns ns want (tree.Number n t) l g r (Grown-refl ns) ready made.below
      (read_kind (source_of a) want t r can.fits.0 (ap (λ b. b || is_pointer t) can.fits.1) (made.kind ∙ sym (integer_kind (source_of a) t can.fits.1)))
      (λ choice v runs k fits bits cells turn kept.
      does_done v l g (Number (int_bits (source_of a).widths t) n) (GoodFor v g (layout_of a) want t r)
      (read_good v g (layout_of a) want t r (Number (int_bits (source_of a).widths t) n) fits.0 (made.value choice v runs)))

  pub walks_size : (ns : List Node) (want : Want) (x : Exp) (n : ℕ) (t : Ty) (l : List Location) (g : Ends) (r : Val) → IsReady a ns l g
      → CanWalk a want (tree.SizeofExpr x n t) → IsNumber ns n (int_bits (source_of a).widths t) r → Walks a ns want (tree.SizeofExpr x n t) l l g g r
  walks_size ns want x n t l g r ready can made =
      leaf ns ns want (tree.SizeofExpr x n t) l g r (Grown-refl ns) ready made.below
      (read_kind (source_of a) want t r can.fits.0 (ap (λ b. b || is_pointer t) can.fits.1) (made.kind ∙ sym (integer_kind (source_of a) t can.fits.1)))
      (λ choice v runs k fits bits cells turn kept.
      does_done v l g (Number (int_bits (source_of a).widths t) n) (GoodFor v g (layout_of a) want t r)
      (read_good v g (layout_of a) want t r (Number (int_bits (source_of a).widths t) n) fits.0 (made.value choice v runs)))

  pub walks_size_of : (ns : List Node) (want : Want) (n : ℕ) (t : Ty) (l : List Location) (g : Ends) (r : Val) → IsReady a ns l g
      → CanWalk a want (tree.SizeofType n t) → IsNumber ns n (int_bits (source_of a).widths t) r → Walks a ns want (tree.SizeofType n t) l l g g r
  walks_size_of ns want n t l g r ready can made =
      leaf ns ns want (tree.SizeofType n t) l g r (Grown-refl ns) ready made.below
      (read_kind (source_of a) want t r can.fits.0 (ap (λ b. b || is_pointer t) can.fits.1) (made.kind ∙ sym (integer_kind (source_of a) t can.fits.1)))
      (λ choice v runs k fits bits cells turn kept.
      does_done v l g (Number (int_bits (source_of a).widths t) n) (GoodFor v g (layout_of a) want t r)
      (read_good v g (layout_of a) want t r (Number (int_bits (source_of a).widths t) n) fits.0 (made.value choice v runs)))

  only_read : (w : Want) (t : Ty) (x : Val) → IsRead w → HasKindFor (source_of a) Value t x → HasKindFor (source_of a) w t x
  only_read Value t x read h = h
  only_read Place' t x read h = absurd read

  pub walks_temp : (ns : List Node) (want : Want) (n : ℕ) (t : Ty) (l : List Location) (g : Ends) (r : Val) → IsReady a ns l g → CanWalk a want (Temp n t)
      → IsSame (temp_at (temps_of a) n) r → Walks a ns want (Temp n t) l l g g r
  walks_temp ns want n t l g r ready can same =
      leaf ns ns want (Temp n t) l g r (Grown-refl ns) ready
      (let low = temp_low (temps_of a) n in omega (arith, same.top, low, ready.temps))
      (only_read want t r can.fits.0 (λ some. same.kind ∙ kind_at (source_of a) can.kept.temps (temps_of a) n (flow.ValueOf t) can.fits.1 can.have some))
      (λ choice v runs k fits bits cells turn kept.
      does_done v l g (slice_index_or cells n Nothing) (GoodFor v g (layout_of a) want t r)
      (read_good v g (layout_of a) want t r (slice_index_or cells n Nothing) fits.0
      (same.value v (slice_index_or cells n Nothing) (kept_at v (v g.live.at) (layout_of a) k.temps (temps_of a) cells n (flow.ValueOf t) fits.1 kept))))

  pub walks_place : (ns : List Node) (n : ℕ) (t : Ty) (l : List Location) (g : Ends) (r : Val) → IsReady a ns l g → CanWalk a Place' (TempPlace n t)
      → IsSame (temp_at (temps_of a) n) r → Walks a ns Place' (TempPlace n t) l l g g r
  walks_place ns n t l g r ready can same =
      leaf ns ns Place' (TempPlace n t) l g r (Grown-refl ns) ready
      (let low = temp_low (temps_of a) n in omega (arith, same.top, low, ready.temps))
      (λ some. same.kind ∙ kind_at (source_of a) can.kept.temps (temps_of a) n (flow.PlaceOf t) can.fits can.have some)
      (λ choice v runs k fits bits cells turn kept.
      let good = kept_at v (v g.live.at) (layout_of a) k.temps (temps_of a) cells n (flow.PlaceOf t) fits kept in
      does_done v l g (slice_index_or cells n Nothing) (GoodFor v g (layout_of a) Place' t r) (same.value v (slice_index_or cells n Nothing) good.0, good.1))

  -- the value of an object whose place was kept
  pub walks_at_place : (n0 ns : List Node) (n : ℕ) (t : Ty) (l : List Location) (g : Ends) (q : Sets) (r : Val) → Grown n0 ns → IsReady a n0 l g
      → IsSame (temp_at (temps_of a) n) (Set q) → DoesFind (source_of a) (layout_of a) ns l Value t q.pairs.items r → Walks a ns Value (TempPlace n t) l l g g r
  walks_at_place n0 ns n t l g q r grown ready same found =
      leaf n0 ns Value (TempPlace n t) l g r grown ready found.below (λ some. found.kind)
      (λ choice v runs k fits bits cells turn kept.
      let good = kept_at v (v g.live.at) (layout_of a) k.temps (temps_of a) cells n (flow.PlaceOf t) fits kept in
      let c : Cell = slice_index_or cells n Nothing in
      found.does choice v runs g (place_of c) (place_leads v g (layout_of a) t q c (same.value v c good.0, good.1)) (λ on. (good.1 on).stands))

  pub walks_same : (ns : List Node) (want : Want) (e : Exp) (l0 l1 : List Location) (g0 g1 : Ends) (x y : Val) → x ≡ y → Walks a ns want e l0 l1 g0 g1 x
      → Walks a ns want e l0 l1 g0 g1 y
  walks_same ns want e l0 l1 g0 g1 x y is h = subst (λ z. Walks a ns want e l0 l1 g0 g1 z) is h

  -- what was kept of a place is a pointer
  pub kept_pointer : (want : Want) (n : ℕ) (t : Ty) (r : Val) → CanWalk a want (TempPlace n t) → IsSame (temp_at (temps_of a) n) r → val_kind r ≡ Pointers
  kept_pointer want n t r can same = same.kind ∙ kind_at (source_of a) can.kept.temps (temps_of a) n (flow.PlaceOf t) can.fits can.have refl
