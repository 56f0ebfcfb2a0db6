-- The shapes of expressions: what keeps their operands, and what reads them.
use Rattle.std.proofs.Common.{◌≡◌, ℕ, ◌+◌, Bool, true, false, ◌||◌, length, refl, sym, ap, subst, inr}
use Rattle.std.specs.Prelude.{if◌then◌else◌}
use Rattle.sc_tree.specs.declared.op.BinaryOp.{BinaryOp}
use Rattle.sc_tree.specs.declared.op.BinaryOp.TheVariants as op
use Rattle.sc_tree.specs.declared.ctype.IntKind.TheVariants as kind
use Rattle.sc_world.specs.Tree.{Ty, Int, is_integer, is_pointer, Exp, Number, TempPlace, type_of}
use Rattle.sc_world.specs.Source.{Source}
use Rattle.sc_world.specs.Layout.{Layout}
use Rattle.sc_world.specs.Eval.{Want, Value, Place'}
use Rattle.run_laws.specs.Fits.{Fits, TypesMeet, is_scalar}
use Rattle.flow_graph.specs.Nodes.{Keep, Update, Updating, Branch}
use Rattle.flow_graph.specs.Growing.{Growing, Build, put, fresh}
use Rattle.flow_graph.specs.Expressions.{Aim, Into, Test, Part, Goal, goal, kept, plainly, one, two, comma, conditional, Sides, sides, first_test, logical, updating, address, called, as_scalar, easy}
use Rattle.flow_types.specs.Kinds.{ValueOf, PlaceOf, Kinds, IsKept, IsFor, FitsOver}
use Rattle.flow_types.proofs.Kept as kept
use Rattle.flow_types.proofs.Kept.{Extends, extends_trans, with_temp, extends_temp, for_on, kind_of, for_kind}
use Rattle.flow_types.proofs.Easy.{easy_fits}

scalar_itself : (t : Ty) → is_integer t ≡ true → as_scalar t ≡ t
scalar_itself t h = ap (λ c. if c || is_pointer t then t else Int kind.Int) h

module _ (s : Source) (p : Layout) where
  abbrev Good : Kinds → Growing → Type 0
  Good = kept.Good s p

  abbrev Made : Kinds → Growing → Type 0
  Made = kept.Made s p

  -- a part for an expression of that type, of which that is wanted
  pub record Typed (want : Want) (t : Ty) (q : Part) : Type 0 where
    pub into : (x next : ℕ) (g : Growing) (k : Kinds) → Good k g → IsFor k want t x → Made k (q (Into want x next) g).1
    pub test : want ≡ Value → is_scalar t ≡ true → (hit miss : ℕ) (g : Growing) (k : Kinds) → Good k g
        → Made k (q (Test hit miss) g).1

  -- a part that keeps its value, for a test as well
  pub typed_goal : (want : Want) (t : Ty) (q : Goal → Build ℕ)
      → ((x next : ℕ) (g : Growing) (k : Kinds) → Good k g → IsFor k want t x
      → Made k (q (record { want = want; temp = x; next = next }) g).1)
      → Typed want t (λ aim g. q (goal aim g).0 (goal aim g).1)
  typed_goal Place' t q h = record { into = h; test = λ is. absurd (cc is) }
  typed_goal Value t q h = record {
    into = h;
    test = λ is sort hit miss g k w.
        kept.from s p (extends_temp k (ValueOf t))
        (h g.temps (length g.nodes) (put (Branch g.temps hit miss) (fresh 1 g).1).1 (with_temp k (ValueOf t))
        (kept.good_put s p (Branch g.temps hit miss) (t, kept.kept_last s p (ValueOf t) w, sort) (kept.good_temp s p (ValueOf t) w))
        (kept.kept_last s p (ValueOf t) w));
  }

  pub kept_typed : (want : Want) (e : Exp) → ((k : Kinds) → FitsOver k p want e) → Typed want (type_of e) (kept e)
  kept_typed want e fit = typed_goal want (type_of e) (λ j. put (Keep j.want j.temp e j.next))
      (λ x next g k w h. kept.made s p (kept.good_put s p (Keep want x e next) (fit k, h) w))

  pub plainly_typed : (want : Want) (e : Exp) (hard : Part) → Fits p want e → Typed want (type_of e) hard
      → Typed want (type_of e) (plainly e hard)
  plainly_typed want e hard fit o = chosen (easy e) refl
    where
      chosen : (c : Bool) → easy e ≡ c → Typed want (type_of e) (λ aim. if c then kept e aim else hard aim)
      chosen true h = kept_typed want e (λ k. easy_fits p k want e h fit)
      chosen false h = o

  -- An operand, or two.
  pub one_typed : (want : Want) (t : Ty) (left : Want) (u : Ty) (a : Part) (whole : ℕ → Exp) → ((x : ℕ) → type_of (whole x) ≡ t)
      → ((k : Kinds) (x : ℕ) → IsKept k x (kind_of left u) → FitsOver k p want (whole x)) → Typed left u a
      → Typed want t (one left a whole)
  one_typed want t left u a whole is fit o =
      typed_goal want t (λ j g. a (Into left g.temps (length g.nodes)) (put (Keep j.want j.temp (whole g.temps) j.next) (fresh 1 g).1).1)
      (λ x next g k w h.
      let l = with_temp k (kind_of left u) in
      let there = kept.kept_last s p (kind_of left u) w in
      kept.from s p (extends_temp k (kind_of left u))
      (o.into g.temps (length g.nodes) (put (Keep want x (whole g.temps) next) (fresh 1 g).1).1 l
      (kept.good_put s p (Keep want x (whole g.temps) next) (
        fit l g.temps there,
        subst (λ z. IsFor l want z x) (sym (is g.temps)) (for_on (extends_temp k (kind_of left u)) want t x h),
      )
      (kept.good_temp s p (kind_of left u) w))
      (for_kind l left u g.temps there)))

  pub two_typed : (want : Want) (t : Ty) (left : Want) (u : Ty) (a : Part) (right : Want) (v : Ty) (b : Part) (whole : ℕ → ℕ → Exp)
      → ((x y : ℕ) → type_of (whole x y) ≡ t)
      → ((k : Kinds) (x y : ℕ) → IsKept k x (kind_of left u) → IsKept k y (kind_of right v) → FitsOver k p want (whole x y))
      → Typed left u a → Typed right v b → Typed want t (two left a right b whole)
  two_typed want t left u a right v b whole is fit oa ob =
      typed_goal want t (λ j g. a (Into left g.temps (second j g).0) (second j g).1)
      (λ x next g k w h.
      let first : Kinds = with_temp k (kind_of left u) in
      let l : Kinds = with_temp first (kind_of right v) in
      let more : Extends k l = extends_trans (extends_temp k (kind_of left u)) (extends_temp first (kind_of right v)) in
      let good : Good first (fresh 1 g).1 = kept.good_temp s p (kind_of left u) w in
      let here : IsKept l g.temps (kind_of left u) =
      (extends_temp first (kind_of right v)).temps g.temps (kind_of left u) (kept.kept_last s p (kind_of left u) w) in
      let there : IsKept l (g.temps + 1) (kind_of right v) = kept.kept_last s p (kind_of right v) good in
      kept.from s p more
      (kept.via s p
      (ob.into (g.temps + 1) (length g.nodes) (behind (record { want = want; temp = x; next = next }) g) l
      (kept.good_put s p (Keep want x (whole g.temps (g.temps + 1)) next)
      (fit l g.temps (g.temps + 1) here there, subst (λ z. IsFor l want z x) (sym (is g.temps (g.temps + 1))) (for_on more want t x h))
      (kept.good_temp s p (kind_of right v) good))
      (for_kind l right v (g.temps + 1) there))
      (λ m more o. oa.into g.temps (second (record { want = want; temp = x; next = next }) g).0
      (second (record { want = want; temp = x; next = next }) g).1 m o (for_kind m left u g.temps (more.temps g.temps (kind_of left u) here)))))
    where
      behind : Goal → Growing → Growing
      behind j g = (put (Keep j.want j.temp (whole g.temps (g.temps + 1)) j.next) (fresh 1 (fresh 1 g).1).1).1

      second : Goal → Build ℕ
      second j g = b (Into right (g.temps + 1) (length g.nodes)) (behind j g)

  pub updating_typed : (u : Updating) (want : Want) (t : Ty) (l r : Part) → is_integer u.ctype ≡ true → is_integer u.works ≡ true
      → is_integer t ≡ true → TypesMeet u.op u.works t u.works → Typed Place' u.ctype l → Typed Value t r → Typed want u.ctype (updating u l r)
  updating_typed u want t l r sort works of meet ol or' =
      typed_goal want u.ctype (λ j g. l (Into Place' g.temps (length (right j g).1.nodes)) (old j g))
      (λ x next g k w h.
      let j : Goal = record { want = want; temp = x; next = next } in
      let first : Kinds = with_temp k (PlaceOf u.ctype) in
      let second : Kinds = with_temp first (ValueOf u.ctype) in
      let third : Kinds = with_temp second (ValueOf t) in
      let good : Good first (fresh 1 g).1 = kept.good_temp s p (PlaceOf u.ctype) w in
      let better : Good second (fresh 1 (fresh 1 g).1).1 = kept.good_temp s p (ValueOf u.ctype) good in
      let more : Extends first third = extends_trans (extends_temp first (ValueOf u.ctype)) (extends_temp second (ValueOf t)) in
      let place : IsKept third g.temps (PlaceOf u.ctype) =
      more.temps g.temps (PlaceOf u.ctype) (kept.kept_last s p (PlaceOf u.ctype) w) in
      let former : IsKept third (g.temps + 1) (ValueOf u.ctype) =
      (extends_temp second (ValueOf t)).temps (g.temps + 1) (ValueOf u.ctype) (kept.kept_last s p (ValueOf u.ctype) good) in
      let operand : IsKept third (g.temps + 1 + 1) (ValueOf t) = kept.kept_last s p (ValueOf t) better in
      let all : Extends k third = extends_trans (extends_temp k (PlaceOf u.ctype)) more in
      let is : as_scalar u.ctype ≡ u.ctype = scalar_itself u.ctype sort in
      kept.from s p all
      (kept.via s p
      (or'.into (g.temps + 1 + 1) (length g.nodes) (behind j g) third
      (kept.good_put s p (Update u want g.temps (g.temps + 1) (g.temps + 1 + 1) x next)
      (place, former, (t, operand, of, meet), sort, works, for_on all want u.ctype x h)
      (kept.good_temp s p (ValueOf t) better))
      operand)
      (λ m more o. ol.into g.temps (length (right j g).1.nodes) (old j g) m
      (kept.good_put s p (Keep Value (g.temps + 1) (TempPlace g.temps (as_scalar u.ctype)) (right j g).0) (
        subst (λ z. IsKept m g.temps (PlaceOf z)) (sym is) (more.temps g.temps (PlaceOf u.ctype) place),
        subst (λ z. IsKept m (g.temps + 1) (ValueOf z)) (sym is) (more.temps (g.temps + 1) (ValueOf u.ctype) former),
      ) o)
      (for_kind m Place' u.ctype g.temps (more.temps g.temps (PlaceOf u.ctype) place)))))
    where
      behind : Goal → Growing → Growing
      behind j g =
          (put (Update u j.want g.temps (g.temps + 1) (g.temps + 1 + 1) j.temp j.next) (fresh 1 (fresh 1 (fresh 1 g).1).1).1).1

      right : Goal → Build ℕ
      right j g = r (Into Value (g.temps + 1 + 1) (length g.nodes)) (behind j g)

      old : Goal → Growing → Growing
      old j g = (put (Keep Value (g.temps + 1) (TempPlace g.temps (as_scalar u.ctype)) (right j g).0) (right j g).1).1

  -- `&`: the place of the operand is kept where the pointer is wanted
  pub address_typed : (t u : Ty) (a : Part) → is_pointer t ≡ true → Typed Place' u a → Typed Value t (address a)
  address_typed t u a sort o =
      typed_goal Value t (λ j g. a (Into Place' j.temp j.next) g)
      (λ x next g k w h. o.into x next g k w (inr (t, h, sort)))

  -- a part whose value nobody reads
  pub dropped_typed : (t : Ty) (q : Part) → Typed Value t q → (next : ℕ) → kept.Steps s p (λ g. q (Into Value g.temps next) (fresh 1 g).1)
  dropped_typed t q o next g k w =
      kept.from s p (extends_temp k (ValueOf t))
      (o.into g.temps next (fresh 1 g).1 (with_temp k (ValueOf t)) (kept.good_temp s p (ValueOf t) w)
      (kept.kept_last s p (ValueOf t) w))

  pub called_typed : (c : Bool) (t : Ty) (f : Part) → (c ≡ false → Typed Value t f) → (next : ℕ) → kept.Steps s p (called c f next)
  called_typed true t f o next g k w = kept.made s p w
  called_typed false t f o next g k w = dropped_typed t f (o refl) next g k w

  pub comma_typed : (want : Want) (t u : Ty) (a b : Part) → Typed Value u a → Typed want t b → Typed want t (comma a b)
  comma_typed want t u a b oa ob = record {
    into = λ x next g k w h.
        kept.via s p (ob.into x next g k w h)
        (λ l more v. dropped_typed u a oa (b (Into want x next) g).0 (b (Into want x next) g).1 l v);
    test = λ is sort hit miss g k w.
        kept.via s p (ob.test is sort hit miss g k w)
        (λ l more v. dropped_typed u a oa (b (Test hit miss) g).0 (b (Test hit miss) g).1 l v);
  }

  pub conditional_typed : (want : Want) (t u : Ty) (c a b : Part) → is_scalar u ≡ true → Typed Value u c → Typed want t a → Typed want t b
      → Typed want t (conditional c a b)
  conditional_typed want t u c a b sort oc oa ob = record {
    into = λ x next g k w h.
        kept.via s p (oa.into x next g k w h)
        (λ l x1 v. kept.via s p (ob.into x next (a (Into want x next) g).1 l v (for_on x1 want t x h))
        (λ m x2 o. tests (Into want x next) g m o));
    test = λ is other hit miss g k w.
        kept.via s p (oa.test is other hit miss g k w)
        (λ l x1 v. kept.via s p (ob.test is other hit miss (a (Test hit miss) g).1 l v)
        (λ m x2 o. tests (Test hit miss) g m o));
  }
    where
      tests : (aim : Aim) (g : Growing) (k : Kinds) → Good k (b aim (a aim g).1).1
          → Made k (c (Test (a aim g).0 (b aim (a aim g).1).0) (b aim (a aim g).1).1).1
      tests aim g k w = oc.test refl sort (a aim g).0 (b aim (a aim g).1).0 (b aim (a aim g).1).1 k w

  -- `&&` and `||`
  first_typed : (o : BinaryOp) (second : ℕ) (c : Sides) (u : Ty) (a : Part) → is_scalar u ≡ true → Typed Value u a
      → kept.Steps s p (a (first_test o second c))
  first_typed op.Or second c u a sort oa g k w = oa.test refl sort c.hit second g k w
  first_typed op.And second c u a sort oa g k w = oa.test refl sort second c.miss g k w
  first_typed op.BitOr second c u a sort oa g k w = oa.test refl sort second c.miss g k w
  first_typed op.BitXor second c u a sort oa g k w = oa.test refl sort second c.miss g k w
  first_typed op.BitAnd second c u a sort oa g k w = oa.test refl sort second c.miss g k w
  first_typed op.Equal second c u a sort oa g k w = oa.test refl sort second c.miss g k w
  first_typed op.NotEqual second c u a sort oa g k w = oa.test refl sort second c.miss g k w
  first_typed op.Less second c u a sort oa g k w = oa.test refl sort second c.miss g k w
  first_typed op.Greater second c u a sort oa g k w = oa.test refl sort second c.miss g k w
  first_typed op.LessEqual second c u a sort oa g k w = oa.test refl sort second c.miss g k w
  first_typed op.GreaterEqual second c u a sort oa g k w = oa.test refl sort second c.miss g k w
  first_typed op.ShiftLeft second c u a sort oa g k w = oa.test refl sort second c.miss g k w
  first_typed op.ShiftRight second c u a sort oa g k w = oa.test refl sort second c.miss g k w
  first_typed op.Add second c u a sort oa g k w = oa.test refl sort second c.miss g k w
  first_typed op.Sub second c u a sort oa g k w = oa.test refl sort second c.miss g k w
  first_typed op.Mul second c u a sort oa g k w = oa.test refl sort second c.miss g k w
  first_typed op.Div second c u a sort oa g k w = oa.test refl sort second c.miss g k w
  first_typed op.Rem second c u a sort oa g k w = oa.test refl sort second c.miss g k w

  pub logical_typed : (o : BinaryOp) (t u v : Ty) (a b : Part) → is_integer t ≡ true → is_scalar u ≡ true → is_scalar v ≡ true
      → Typed Value u a → Typed Value v b → Typed Value t (logical o t a b)
  logical_typed o t u v a b sort left right oa ob = record {
    into = λ x next g k w h.
        behind (Into Value x next) g k
        (kept.good_put s p (Keep Value x (Number 0 t) next) ((tt, sort), h)
        (kept.good_put s p (Keep Value x (Number 1 t) next) ((tt, sort), h) w));
    test = λ is other hit miss g k w. behind (Test hit miss) g k w;
  }
    where
      second : Aim → Build ℕ
      second aim g = b (Test (sides t aim g).0.hit (sides t aim g).0.miss) (sides t aim g).1

      behind : (aim : Aim) (g : Growing) (k : Kinds) → Good k (sides t aim g).1
          → Made k (a (first_test o (second aim g).0 (sides t aim g).0) (second aim g).1).1
      behind aim g k w =
          kept.via s p (ob.test refl right (sides t aim g).0.hit (sides t aim g).0.miss (sides t aim g).1 k w)
          (λ l more i. first_typed o (second aim g).0 (sides t aim g).0 u a left oa (second aim g).1 l i)
