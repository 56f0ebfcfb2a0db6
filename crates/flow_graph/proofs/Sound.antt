-- What is read was kept, and nodes are fine: of the shapes of expressions. `v` says of each node whether it is so from
-- there on; it fits a graph where it does at each node what the definition says.
use Rattle.std.proofs.Common.{◌≡◌, ℕ, zero, suc, ◌+◌, ◌≤◌, ◌<◌, Bool, true, false, not, ◌&&◌, ◌||◌, List, [], ◌∷◌, ◌++◌, map, length, refl, sym, ap, subst, ◌∙◌, arith}
use Rattle.std.specs.Prelude.{Option, Some, None, if◌then◌else◌}
use Rattle.std.proofs.lemmas.Bool.{false≢true}
use Rattle.sc_tree.specs.declared.op.BinaryOp.{BinaryOp}
use Rattle.sc_tree.specs.declared.op.BinaryOp.TheVariants as op
use Rattle.sc_tree.specs.declared.op.UnaryOp.{UnaryOp}
use Rattle.sc_tree.specs.declared.op.UnaryOp.TheVariants as sign
use Rattle.sc_tree.specs.declared.expr.Place.{Place}
use Rattle.sc_world.specs.Tree.{Ty, is_array, Exp, Comma, Assign, Cond, Binary, Cast, Unary, PreInc, PostInc, SizeofExpr, SizeofType, Index, Call, Field, Param, Local, Global, Function, Number, Str, Convert, Temp, TempPlace, Exps, NoExps, Exps', type_of}
use Rattle.sc_world.specs.Eval.{Want, Value, Place', is_name, is_logical}
use Rattle.flow_graph.specs.Nodes.{Node, Keep, CallOf, Update, Updating, Branch}
use Rattle.flow_graph.specs.Growing.{Growing, Build, put, fresh, numbers}
use Rattle.flow_graph.specs.Expressions.{Aim, Into, Test, Part, Goal, goal, kept, plainly, one, two, comma, conditional, Sides, sides, first_test, logical, updating, address, assigning, binary, converted, unary, indexed, called, count, nothing, as_scalar, unroll, unroll_all, easy, is_scalar}
use Rattle.flow_graph.specs.Conditions.{Held, InTemp, InSlot, same, among, temps_of, all_temps_of, AreIn, is_plain, IsFine, AllFine, kept_at}

-- Truth values.
pub either : (b w : Bool) → (b ≡ false → w ≡ true) → (b || w) ≡ true
either true w f = refl
either false w f = f refl

pub calm : (r k : Bool) → r ≡ false → k ≡ true → (not r && k) ≡ true
calm r k h e = ap (λ b. not b && k) h ∙ e

pub both : (a b : Bool) → a ≡ true → b ≡ true → (a && b) ≡ true
both a b h e = ap (λ c. c && b) h ∙ e

pub none_one : (b : Bool) → b ≡ false → (b || false) ≡ false
none_one b h = ap (λ c. c || false) h

pub none_two : (b c : Bool) → b ≡ false → c ≡ false → (b || (c || false)) ≡ false
none_two b c h i = ap (λ a. a || (c || false)) h ∙ none_one c i

pub none_three : (b c d : Bool) → b ≡ false → c ≡ false → d ≡ false → (b || (c || (d || false))) ≡ false
none_three b c d h i j = ap (λ a. a || (c || (d || false))) h ∙ none_two c d i j

pub kept_on : (b w : Bool) → (b || w) ≡ true → ((b || false) || w) ≡ true
kept_on true w h = refl
kept_on false w h = h

pub rest_of : (b r w : Bool) → b ≡ false → ((b || r) || w) ≡ true → (r || w) ≡ true
rest_of b r w h f = sym (ap (λ c. (c || r) || w) h) ∙ f

left_of : (a b : Bool) → (a && b) ≡ true → a ≡ true
left_of true b h = refl
left_of false b h = h

right_of : (a b : Bool) → (a && b) ≡ true → b ≡ true
right_of true b h = h
right_of false b h = absurd (false≢true h)

-- An easy expression names no temp, and is plain.
no_more : (xs ys : List ℕ) → xs ≡ [] → ys ≡ [] → xs ++ ys ≡ []
no_more xs ys h i = ap (λ zs. zs ++ ys) h ∙ i

pub easy_reads : (e : Exp) → easy e ≡ true → temps_of e ≡ []
easy_reads (Comma a b t) h =
    no_more (temps_of a) (temps_of b) (easy_reads a (left_of (easy a) (easy b) h)) (easy_reads b (right_of (easy a) (easy b) h))
easy_reads (Assign o w a b t) h =
    no_more (temps_of a) (temps_of b) (easy_reads a (left_of (easy a) (easy b) h)) (easy_reads b (right_of (easy a) (easy b) h))
easy_reads (Cond a b c t) h = absurd (false≢true h)
easy_reads (Binary o a b t) h =
    let i = right_of (not (is_logical o)) (easy a && easy b) h in
    no_more (temps_of a) (temps_of b) (easy_reads a (left_of (easy a) (easy b) i)) (easy_reads b (right_of (easy a) (easy b) i))
easy_reads (Cast a t) h = easy_reads a h
easy_reads (Unary o a t) h = easy_reads a h
easy_reads (PreInc s a t) h = easy_reads a h
easy_reads (PostInc s a t) h = easy_reads a h
easy_reads (SizeofExpr a n t) h = easy_reads a h
easy_reads (SizeofType n t) h = refl
easy_reads (Index a b t) h =
    no_more (temps_of a) (temps_of b) (easy_reads a (left_of (easy a) (easy b) h)) (easy_reads b (right_of (easy a) (easy b) h))
easy_reads (Call p f es t) h = absurd (false≢true h)
easy_reads (Field a n arrow t) h = easy_reads a h
easy_reads (Param n t) h = refl
easy_reads (Local n t) h = refl
easy_reads (Global n t) h = refl
easy_reads (Function n b t) h = refl
easy_reads (Number n t) h = refl
easy_reads (Str p t) h = refl
easy_reads (Convert a t) h = easy_reads a h
easy_reads (Temp n t) h = absurd (false≢true h)
easy_reads (TempPlace n t) h = absurd (false≢true h)

pub easy_plain : (e : Exp) → easy e ≡ true → is_plain e ≡ true
easy_plain (Comma a b t) h =
    both (is_plain a) (is_plain b) (easy_plain a (left_of (easy a) (easy b) h)) (easy_plain b (right_of (easy a) (easy b) h))
easy_plain (Assign o w a b t) h =
    both (is_plain a) (is_plain b) (easy_plain a (left_of (easy a) (easy b) h)) (easy_plain b (right_of (easy a) (easy b) h))
easy_plain (Cond a b c t) h = h
easy_plain (Binary o a b t) h =
    let i = right_of (not (is_logical o)) (easy a && easy b) h in
    both (not (is_logical o)) (is_plain a && is_plain b) (left_of (not (is_logical o)) (easy a && easy b) h)
    (both (is_plain a) (is_plain b) (easy_plain a (left_of (easy a) (easy b) i)) (easy_plain b (right_of (easy a) (easy b) i)))
easy_plain (Cast a t) h = easy_plain a h
easy_plain (Unary o a t) h = easy_plain a h
easy_plain (PreInc s a t) h = easy_plain a h
easy_plain (PostInc s a t) h = easy_plain a h
easy_plain (SizeofExpr a n t) h = easy_plain a h
easy_plain (SizeofType n t) h = refl
easy_plain (Index a b t) h =
    both (is_plain a) (is_plain b) (easy_plain a (left_of (easy a) (easy b) h)) (easy_plain b (right_of (easy a) (easy b) h))
easy_plain (Call p f es t) h = h
easy_plain (Field a n arrow t) h = easy_plain a h
easy_plain (Param n t) h = refl
easy_plain (Local n t) h = refl
easy_plain (Global n t) h = refl
easy_plain (Function n b t) h = refl
easy_plain (Number n t) h = refl
easy_plain (Str p t) h = refl
easy_plain (Convert a t) h = easy_plain a h
easy_plain (Temp n t) h = refl
easy_plain (TempPlace n t) h = refl

module _ (m : Held) (v : ℕ → Bool) (all_temps all_slots : ℕ) where
  pub record Acts (at : ℕ) (n : Node) : Type 0 where
    pub by : v at ≡ kept_at m n v

  abbrev pub Fits : List Node → Type 0
  Fits [] = Unit {0}
  Fits (n ∷ ns) = Acts (length ns) n × Fits ns

  -- a graph that `v` fits, with at most so many temps and slots
  pub record Whole (g : Growing) : Type 0 where
    pub fits : Fits g.nodes
    pub temps : g.temps ≤ all_temps
    pub slots : g.slots ≤ all_slots

  pub record Grows (g h : Growing) : Type 0 where
    pub less : Whole h → Whole g

  pub grows_refl : (g : Growing) → Grows g g
  grows_refl g = record { less = λ w. w }

  pub grows_trans : {f g h : Growing} → Grows f g → Grows g h → Grows f h
  grows_trans x y = record { less = λ w. x.less (y.less w) }

  pub grows_put : (n : Node) (g : Growing) → Grows g (put n g).1
  grows_put n g = record { less = λ w. record { fits = w.fits.1; temps = w.temps; slots = w.slots } }

  pub grows_fresh : (n : ℕ) (g : Growing) → Grows g (fresh n g).1
  grows_fresh n g = record { less = λ w. record { fits = w.fits; temps = omega (arith, w.temps); slots = w.slots } }

  abbrev pub AimFree : Aim → Type 0
  AimFree (Into want x next) = (same m (InTemp x) || v next) ≡ true
  AimFree (Test hit miss) = (v hit ≡ true) × (v miss ≡ true)

  abbrev pub AimIn : Aim → Type 0
  AimIn (Into want x next) = x < all_temps
  AimIn (Test hit miss) = Unit {0}

  pub record Sound (p : Part) : Type 0 where
    pub grows : (aim : Aim) (g : Growing) → Grows g (p aim g).1
    pub free : (aim : Aim) (g : Growing) → Whole (p aim g).1 → AimFree aim → v (p aim g).0 ≡ true
    pub fine : (aim : Aim) (g : Growing) → Whole (p aim g).1 → AimIn aim → AllFine all_temps all_slots g.nodes
        → AllFine all_temps all_slots (p aim g).1.nodes

  -- the same of a part that keeps its value
  pub record Keeps (p : Goal → Build ℕ) : Type 0 where
    pub grows : (k : Goal) (g : Growing) → Grows g (p k g).1
    pub free : (k : Goal) (g : Growing) → Whole (p k g).1 → (same m (InTemp k.temp) || v k.next) ≡ true → v (p k g).0 ≡ true
    pub fine : (k : Goal) (g : Growing) → Whole (p k g).1 → k.temp < all_temps → AllFine all_temps all_slots g.nodes
        → AllFine all_temps all_slots (p k g).1.nodes

  abbrev at_branch : (hit miss : ℕ) → Growing → Growing
  at_branch hit miss g = record { nodes = Branch g.temps hit miss ∷ g.nodes; temps = g.temps + 1; slots = g.slots }

  abbrev branching : Growing → Goal
  branching g = record { want = Value; temp = g.temps; next = length g.nodes }

  grows_branch : (hit miss : ℕ) (g : Growing) → Grows g (at_branch hit miss g)
  grows_branch hit miss g =
      record { less = λ w. record { fits = w.fits.1; temps = omega (arith, w.temps); slots = w.slots } }

  branch_free : (hit miss : ℕ) (g : Growing) → Whole (at_branch hit miss g) → v hit ≡ true → v miss ≡ true
      → (same m (InTemp g.temps) || v (length g.nodes)) ≡ true
  branch_free hit miss g w h i =
      either (same m (InTemp g.temps)) (v (length g.nodes))
      (λ n. w.fits.0.by
      ∙ calm (same m (InTemp g.temps) || false) (v hit && v miss) (none_one (same m (InTemp g.temps)) n) (both (v hit) (v miss) h i))

  pub sound_kept : (p : Goal → Build ℕ) → Keeps p → Sound (λ aim g. p (goal aim g).0 (goal aim g).1)
  sound_kept p q = record { grows = grows; free = free; fine = fine }
    where
      grows : (aim : Aim) (g : Growing) → Grows g (p (goal aim g).0 (goal aim g).1).1
      grows (Into want x next) g = q.grows (record { want = want; temp = x; next = next }) g
      grows (Test hit miss) g = grows_trans (grows_branch hit miss g) (q.grows (branching g) (at_branch hit miss g))

      free : (aim : Aim) (g : Growing) → Whole (p (goal aim g).0 (goal aim g).1).1 → AimFree aim
          → v (p (goal aim g).0 (goal aim g).1).0 ≡ true
      free (Into want x next) g w f = q.free (record { want = want; temp = x; next = next }) g w f
      free (Test hit miss) g w f =
          q.free (branching g) (at_branch hit miss g) w
          (branch_free hit miss g ((q.grows (branching g) (at_branch hit miss g)).less w) f.0 f.1)

      fine : (aim : Aim) (g : Growing) → Whole (p (goal aim g).0 (goal aim g).1).1 → AimIn aim → AllFine all_temps all_slots g.nodes
          → AllFine all_temps all_slots (p (goal aim g).0 (goal aim g).1).1.nodes
      fine (Into want x next) g w a f = q.fine (record { want = want; temp = x; next = next }) g w a f
      fine (Test hit miss) g w a f =
          let low : g.temps < all_temps = omega (arith, ((q.grows (branching g) (at_branch hit miss g)).less w).temps) in
          q.fine (branching g) (at_branch hit miss g) w low (record { reads = (low, tt); keeps = tt; plain = refl }, f)

  -- a node that keeps what an expression gives
  keep_free : (k : Goal) (e : Exp) (at : ℕ) → Acts at (Keep k.want k.temp e k.next) → among m (map InTemp (temps_of e)) ≡ false
      → (same m (InTemp k.temp) || v k.next) ≡ true → v at ≡ true
  keep_free k e at a r h =
      a.by
      ∙ calm (among m (map InTemp (temps_of e))) ((same m (InTemp k.temp) || false) || v k.next) r
      (kept_on (same m (InTemp k.temp)) (v k.next) h)

  keep_fine : (k : Goal) (e : Exp) (xs : List ℕ) → temps_of e ≡ xs → is_plain e ≡ true → k.temp < all_temps
      → AreIn all_temps all_slots (map InTemp xs) → IsFine all_temps all_slots (Keep k.want k.temp e k.next)
  keep_fine k e xs is plain h r = record {
    reads = subst (λ ys. AreIn all_temps all_slots (map InTemp ys)) (sym is) r;
    keeps = (h, tt);
    plain = plain;
  }

  pub kept_sound : (e : Exp) → temps_of e ≡ [] → is_plain e ≡ true → Sound (kept e)
  kept_sound e none plain = sound_kept (λ k. put (Keep k.want k.temp e k.next))
      (record {
        grows = λ k g. grows_put (Keep k.want k.temp e k.next) g;
        free = λ k g w h. keep_free k e (length g.nodes) w.fits.0 (ap (λ xs. among m (map InTemp xs)) none) h;
        fine = λ k g w t f. (keep_fine k e [] none plain t tt, f);
      })

  pub plainly_sound : (e : Exp) (hard : Part) → Sound hard → Sound (plainly e hard)
  plainly_sound e hard o = chosen (easy e) refl
    where
      chosen : (c : Bool) → easy e ≡ c → Sound (λ aim. if c then kept e aim else hard aim)
      chosen true h = kept_sound e (easy_reads e h) (easy_plain e h)
      chosen false h = o

  -- An operand, or two.
  pub one_sound : (want : Want) (a : Part) (whole : ℕ → Exp) → ((x : ℕ) → temps_of (whole x) ≡ x ∷ [])
      → ((x : ℕ) → is_plain (whole x) ≡ true) → Sound a → Sound (one want a whole)
  one_sound want a whole reads plain o = sound_kept (λ k g. a (Into want g.temps (length g.nodes)) (behind k g))
      (record {
        grows = λ k g. grows_trans (before k g) (o.grows (Into want g.temps (length g.nodes)) (behind k g));
        free = λ k g w h.
            o.free (Into want g.temps (length g.nodes)) (behind k g) w
            (either (same m (InTemp g.temps)) (v (length g.nodes))
            (λ n. keep_free k (whole g.temps) (length g.nodes) (made k g w).fits.0
            (ap (λ xs. among m (map InTemp xs)) (reads g.temps) ∙ none_one (same m (InTemp g.temps)) n) h));
        fine = λ k g w t f.
            let low : g.temps < all_temps = omega (arith, (made k g w).temps) in
            o.fine (Into want g.temps (length g.nodes)) (behind k g) w low
            (keep_fine k (whole g.temps) (g.temps ∷ []) (reads g.temps) (plain g.temps) t (low, tt), f);
      })
    where
      behind : Goal → Growing → Growing
      behind k g = record { nodes = Keep k.want k.temp (whole g.temps) k.next ∷ g.nodes; temps = g.temps + 1; slots = g.slots }

      before : (k : Goal) (g : Growing) → Grows g (behind k g)
      before k g = record { less = λ w. record { fits = w.fits.1; temps = omega (arith, w.temps); slots = w.slots } }

      made : (k : Goal) (g : Growing) → Whole (a (Into want g.temps (length g.nodes)) (behind k g)).1 → Whole (behind k g)
      made k g w = (o.grows (Into want g.temps (length g.nodes)) (behind k g)).less w

  pub two_sound : (left : Want) (a : Part) (right : Want) (b : Part) (whole : ℕ → ℕ → Exp)
      → ((x y : ℕ) → temps_of (whole x y) ≡ x ∷ y ∷ []) → ((x y : ℕ) → is_plain (whole x y) ≡ true) → Sound a → Sound b
      → Sound (two left a right b whole)
  two_sound left a right b whole reads plain oa ob =
      sound_kept (λ k g. a (Into left g.temps (second k g).0) (second k g).1)
      (record {
        grows = λ k g.
            grows_trans (before k g)
            (grows_trans (ob.grows (Into right (g.temps + 1) (length g.nodes)) (behind k g))
            (oa.grows (Into left g.temps (second k g).0) (second k g).1));
        free = λ k g w h.
            oa.free (Into left g.temps (second k g).0) (second k g).1 w
            (either (same m (InTemp g.temps)) (v (second k g).0)
            (λ n. ob.free (Into right (g.temps + 1) (length g.nodes)) (behind k g) (inner k g w)
            (either (same m (InTemp (g.temps + 1))) (v (length g.nodes))
            (λ i. keep_free k (whole g.temps (g.temps + 1)) (length g.nodes) (made k g w).fits.0
            (ap (λ xs. among m (map InTemp xs)) (reads g.temps (g.temps + 1))
            ∙ none_two (same m (InTemp g.temps)) (same m (InTemp (g.temps + 1))) n i) h))));
        fine = λ k g w t f.
            let low : g.temps < all_temps = omega (arith, (made k g w).temps) in
            let next : g.temps + 1 < all_temps = omega (arith, (made k g w).temps) in
            oa.fine (Into left g.temps (second k g).0) (second k g).1 w low
            (ob.fine (Into right (g.temps + 1) (length g.nodes)) (behind k g) (inner k g w) next (
              keep_fine k (whole g.temps (g.temps + 1)) (g.temps ∷ (g.temps + 1) ∷ []) (reads g.temps (g.temps + 1))
                  (plain g.temps (g.temps + 1)) t (low, (next, tt)),
              f,
            ));
      })
    where
      behind : Goal → Growing → Growing
      behind k g = record {
        nodes = Keep k.want k.temp
            (whole g.temps (g.temps + 1)) k.next ∷ g.nodes;
        temps = g.temps + 1 + 1;
        slots = g.slots;
      }

      second : Goal → Build ℕ
      second k g = b (Into right (g.temps + 1) (length g.nodes)) (behind k g)

      before : (k : Goal) (g : Growing) → Grows g (behind k g)
      before k g = record { less = λ w. record { fits = w.fits.1; temps = omega (arith, w.temps); slots = w.slots } }

      inner : (k : Goal) (g : Growing) → Whole (a (Into left g.temps (second k g).0) (second k g).1).1 → Whole (second k g).1
      inner k g w = (oa.grows (Into left g.temps (second k g).0) (second k g).1).less w

      made : (k : Goal) (g : Growing) → Whole (a (Into left g.temps (second k g).0) (second k g).1).1 → Whole (behind k g)
      made k g w = (ob.grows (Into right (g.temps + 1) (length g.nodes)) (behind k g)).less (inner k g w)

  pub updating_sound : (u : Updating) (l r : Part) → Sound l → Sound r → Sound (updating u l r)
  updating_sound u l r ol or' = sound_kept (λ k g. l (Into Place' g.temps (length (right k g).1.nodes)) (old k g))
      (record {
        grows = λ k g.
            grows_trans (before k g)
            (grows_trans (or'.grows (Into Value (g.temps + 1 + 1) (length g.nodes)) (behind k g))
            (grows_trans (grows_put (former k g) (right k g).1) (ol.grows (Into Place' g.temps (length (right k g).1.nodes)) (old k g))));
        free = λ k g w h.
            ol.free (Into Place' g.temps (length (right k g).1.nodes)) (old k g) w
            (either (same m (InTemp g.temps)) (v (length (right k g).1.nodes))
            (λ n. (outer k g w).fits.0.by
            ∙ calm (same m (InTemp g.temps) || false) ((same m (InTemp (g.temps + 1)) || false) || v (right k g).0)
            (none_one (same m (InTemp g.temps)) n)
            (kept_on (same m (InTemp (g.temps + 1))) (v (right k g).0)
            (either (same m (InTemp (g.temps + 1))) (v (right k g).0)
            (λ i. or'.free (Into Value (g.temps + 1 + 1) (length g.nodes)) (behind k g) (inner k g w)
            (either (same m (InTemp (g.temps + 1 + 1))) (v (length g.nodes))
            (λ j. (made k g w).fits.0.by
            ∙ calm
            (same m (InTemp g.temps) || (same m (InTemp (g.temps + 1)) || (same m (InTemp (g.temps + 1 + 1)) || false)))
            ((same m (InTemp k.temp) || false) || v k.next)
            (none_three (same m (InTemp g.temps)) (same m (InTemp (g.temps + 1))) (same m (InTemp (g.temps + 1 + 1))) n i j)
            (kept_on (same m (InTemp k.temp)) (v k.next) h))))))));
        fine = λ k g w t f.
            let x : g.temps < all_temps = omega (arith, (made k g w).temps) in
            let y : g.temps + 1 < all_temps = omega (arith, (made k g w).temps) in
            let z : g.temps + 1 + 1 < all_temps = omega (arith, (made k g w).temps) in
            ol.fine (Into Place' g.temps (length (right k g).1.nodes)) (old k g) w x (
              record { reads = (x, tt); keeps = (y, tt); plain = refl },
              or'.fine (Into Value (g.temps + 1 + 1) (length g.nodes)) (behind k g) (inner k g w) z
                  (record { reads = (x, (y, (z, tt))); keeps = (t, tt); plain = refl }, f),
            );
      })
    where
      behind : Goal → Growing → Growing
      behind k g =
          record {
            nodes = Update u k.want g.temps (g.temps + 1) (g.temps + 1 + 1) k.temp k.next ∷ g.nodes;
            temps = g.temps + 1 + 1 + 1;
            slots = g.slots;
          }

      right : Goal → Build ℕ
      right k g = r (Into Value (g.temps + 1 + 1) (length g.nodes)) (behind k g)

      former : Goal → Growing → Node
      former k g = Keep Value (g.temps + 1) (TempPlace g.temps (as_scalar u.ctype)) (right k g).0

      old : Goal → Growing → Growing
      old k g = (put (former k g) (right k g).1).1

      before : (k : Goal) (g : Growing) → Grows g (behind k g)
      before k g = record { less = λ w. record { fits = w.fits.1; temps = omega (arith, w.temps); slots = w.slots } }

      outer : (k : Goal) (g : Growing) → Whole (l (Into Place' g.temps (length (right k g).1.nodes)) (old k g)).1 → Whole (old k g)
      outer k g w = (ol.grows (Into Place' g.temps (length (right k g).1.nodes)) (old k g)).less w

      inner : (k : Goal) (g : Growing) → Whole (l (Into Place' g.temps (length (right k g).1.nodes)) (old k g)).1
          → Whole (right k g).1
      inner k g w = (grows_put (former k g) (right k g).1).less (outer k g w)

      made : (k : Goal) (g : Growing) → Whole (l (Into Place' g.temps (length (right k g).1.nodes)) (old k g)).1
          → Whole (behind k g)
      made k g w = (or'.grows (Into Value (g.temps + 1 + 1) (length g.nodes)) (behind k g)).less (inner k g w)

  pub address_sound : (a : Part) → Sound a → Sound (address a)
  address_sound a o = sound_kept (λ k g. a (Into Place' k.temp k.next) g)
      (record {
        grows = λ k g. o.grows (Into Place' k.temp k.next) g;
        free = λ k g w h. o.free (Into Place' k.temp k.next) g w h;
        fine = λ k g w t f. o.fine (Into Place' k.temp k.next) g w t f;
      })

  pub comma_sound : (a b : Part) → Sound a → Sound b → Sound (comma a b)
  comma_sound a b oa ob = record {
    grows = λ aim g. grows_trans (ob.grows aim g) (grows_trans (grows_fresh 1 (b aim g).1) (oa.grows (to aim g) (from aim g)));
    free = λ aim g w h.
        oa.free (to aim g) (from aim g) w
        (either (same m (InTemp (b aim g).1.temps)) (v (b aim g).0) (λ n. ob.free aim g (inner aim g w) h));
    fine = λ aim g w i f.
        oa.fine (to aim g) (from aim g) w (omega (arith, ((oa.grows (to aim g) (from aim g)).less w).temps))
        (ob.fine aim g (inner aim g w) i f);
  }
    where
      to : Aim → Growing → Aim
      to aim g = Into Value (b aim g).1.temps (b aim g).0

      from : Aim → Growing → Growing
      from aim g = (fresh 1 (b aim g).1).1

      inner : (aim : Aim) (g : Growing) → Whole (a (to aim g) (from aim g)).1 → Whole (b aim g).1
      inner aim g w = (grows_fresh 1 (b aim g).1).less ((oa.grows (to aim g) (from aim g)).less w)

  pub conditional_sound : (c a b : Part) → Sound c → Sound a → Sound b → Sound (conditional c a b)
  conditional_sound c a b oc oa ob = record {
    grows = λ aim g.
        grows_trans (oa.grows aim g)
        (grows_trans (ob.grows aim (a aim g).1) (oc.grows (Test (a aim g).0 (miss aim g).0) (miss aim g).1));
    free = λ aim g w h.
        oc.free (Test (a aim g).0 (miss aim g).0) (miss aim g).1 w
        (oa.free aim g (first aim g w) h, ob.free aim (a aim g).1 (second aim g w) h);
    fine = λ aim g w i f.
        oc.fine (Test (a aim g).0 (miss aim g).0) (miss aim g).1 w tt
        (ob.fine aim (a aim g).1 (second aim g w) i (oa.fine aim g (first aim g w) i f));
  }
    where
      miss : Aim → Build ℕ
      miss aim g = b aim (a aim g).1

      second : (aim : Aim) (g : Growing) → Whole (c (Test (a aim g).0 (miss aim g).0) (miss aim g).1).1 → Whole (miss aim g).1
      second aim g w = (oc.grows (Test (a aim g).0 (miss aim g).0) (miss aim g).1).less w

      first : (aim : Aim) (g : Growing) → Whole (c (Test (a aim g).0 (miss aim g).0) (miss aim g).1).1 → Whole (a aim g).1
      first aim g w = (ob.grows aim (a aim g).1).less (second aim g w)

  -- where `&&` and `||` go on
  sides_grow : (t : Ty) (aim : Aim) (g : Growing) → Grows g (sides t aim g).1
  sides_grow t (Into want x next) g =
      grows_trans (grows_put (Keep Value x (Number 1 t) next) g)
      (grows_put (Keep Value x (Number 0 t) next) (put (Keep Value x (Number 1 t) next) g).1)
  sides_grow t (Test hit miss) g = grows_refl g

  abbrev SidesFree : Sides → Type 0
  SidesFree c = (v c.hit ≡ true) × (v c.miss ≡ true)

  sides_free : (t : Ty) (aim : Aim) (g : Growing) → Whole (sides t aim g).1 → AimFree aim → SidesFree (sides t aim g).0
  sides_free t (Into want x next) g w h = (
    keep_free (record { want = Value; temp = x; next = next }) (Number 1 t) (length g.nodes) w.fits.1.0 refl h,
    keep_free (record { want = Value; temp = x; next = next }) (Number 0 t) (suc (length g.nodes)) w.fits.0 refl h,
  )
  sides_free t (Test hit miss) g w h = h

  sides_fine : (t : Ty) (aim : Aim) (g : Growing) → AimIn aim → AllFine all_temps all_slots g.nodes → AllFine all_temps all_slots (sides t aim g).1.nodes
  sides_fine t (Into want x next) g i f =
      (record { reads = tt; keeps = (i, tt); plain = refl }, (record { reads = tt; keeps = (i, tt); plain = refl }, f))
  sides_fine t (Test hit miss) g i f = f

  first_free : (o : BinaryOp) (second : ℕ) (c : Sides) → v second ≡ true → SidesFree c → AimFree (first_test o second c)
  first_free op.Or second c s h = (h.0, s)
  first_free op.And second c s h = (s, h.1)
  first_free op.BitOr second c s h = (s, h.1)
  first_free op.BitXor second c s h = (s, h.1)
  first_free op.BitAnd second c s h = (s, h.1)
  first_free op.Equal second c s h = (s, h.1)
  first_free op.NotEqual second c s h = (s, h.1)
  first_free op.Less second c s h = (s, h.1)
  first_free op.Greater second c s h = (s, h.1)
  first_free op.LessEqual second c s h = (s, h.1)
  first_free op.GreaterEqual second c s h = (s, h.1)
  first_free op.ShiftLeft second c s h = (s, h.1)
  first_free op.ShiftRight second c s h = (s, h.1)
  first_free op.Add second c s h = (s, h.1)
  first_free op.Sub second c s h = (s, h.1)
  first_free op.Mul second c s h = (s, h.1)
  first_free op.Div second c s h = (s, h.1)
  first_free op.Rem second c s h = (s, h.1)

  first_in : (o : BinaryOp) (second : ℕ) (c : Sides) → AimIn (first_test o second c)
  first_in op.Or second c = tt
  first_in op.And second c = tt
  first_in op.BitOr second c = tt
  first_in op.BitXor second c = tt
  first_in op.BitAnd second c = tt
  first_in op.Equal second c = tt
  first_in op.NotEqual second c = tt
  first_in op.Less second c = tt
  first_in op.Greater second c = tt
  first_in op.LessEqual second c = tt
  first_in op.GreaterEqual second c = tt
  first_in op.ShiftLeft second c = tt
  first_in op.ShiftRight second c = tt
  first_in op.Add second c = tt
  first_in op.Sub second c = tt
  first_in op.Mul second c = tt
  first_in op.Div second c = tt
  first_in op.Rem second c = tt

  pub logical_sound : (o : BinaryOp) (t : Ty) (a b : Part) → Sound a → Sound b → Sound (logical o t a b)
  logical_sound o t a b oa ob = record {
    grows = λ aim g.
        grows_trans (sides_grow t aim g)
        (grows_trans (ob.grows (at_sides aim g) (sides t aim g).1) (oa.grows (first aim g) (second aim g).1));
    free = λ aim g w h.
        oa.free (first aim g) (second aim g).1 w
        (first_free o (second aim g).0 (sides t aim g).0
        (ob.free (at_sides aim g) (sides t aim g).1 (inner aim g w) (sides_free t aim g (outer aim g w) h))
        (sides_free t aim g (outer aim g w) h));
    fine = λ aim g w i f.
        oa.fine (first aim g) (second aim g).1 w (first_in o (second aim g).0 (sides t aim g).0)
        (ob.fine (at_sides aim g) (sides t aim g).1 (inner aim g w) tt (sides_fine t aim g i f));
  }
    where
      at_sides : Aim → Growing → Aim
      at_sides aim g = Test (sides t aim g).0.hit (sides t aim g).0.miss

      second : Aim → Build ℕ
      second aim g = b (at_sides aim g) (sides t aim g).1

      first : Aim → Growing → Aim
      first aim g = first_test o (second aim g).0 (sides t aim g).0

      inner : (aim : Aim) (g : Growing) → Whole (a (first aim g) (second aim g).1).1 → Whole (second aim g).1
      inner aim g w = (oa.grows (first aim g) (second aim g).1).less w

      outer : (aim : Aim) (g : Growing) → Whole (a (first aim g) (second aim g).1).1 → Whole (sides t aim g).1
      outer aim g w = (ob.grows (at_sides aim g) (sides t aim g).1).less (inner aim g w)

  -- All expressions.
  assign_sound : (c : Bool) (works : Ty) (a b : Exp) (t : Ty) (l r : Part) → Sound l → Sound r
      → Sound (if c then two Place' l Value r (λ x y. Assign None works (TempPlace x (type_of a)) (Temp y (type_of b)) t)
      else two Place' l Place' r (λ x y. Assign None works (TempPlace x (type_of a)) (TempPlace y (type_of b)) t))
  assign_sound true works a b t l r ol or' =
      two_sound Place' l Value r (λ x y. Assign None works (TempPlace x (type_of a)) (Temp y (type_of b)) t) (λ x y. refl) (λ x y. refl) ol or'
  assign_sound false works a b t l r ol or' =
      two_sound Place' l Place' r (λ x y. Assign None works (TempPlace x (type_of a)) (TempPlace y (type_of b)) t) (λ x y. refl)
      (λ x y. refl) ol or'

  assigning_sound : (o : Option BinaryOp) (works : Ty) (a b : Exp) (t : Ty) (l r : Part) → Sound l → Sound r
      → Sound (assigning o works a b t l r)
  assigning_sound None works a b t l r ol or' = assign_sound (is_scalar t) works a b t l r ol or'
  assigning_sound (Some o) works a b t l r ol or' = updating_sound (record { op = o; works = works; ctype = t }) l r ol or'

  binary_sound : (c : Bool) (o : BinaryOp) (a b : Exp) (t : Ty) (l r : Part) → is_logical o ≡ c → Sound l → Sound r
      → Sound (if c then logical o t l r else two Value l Value r (λ x y. Binary o (Temp x (type_of a)) (Temp y (type_of b)) t))
  binary_sound true o a b t l r is ol or' = logical_sound o t l r ol or'
  binary_sound false o a b t l r is ol or' =
      two_sound Value l Value r (λ x y. Binary o (Temp x (type_of a)) (Temp y (type_of b)) t) (λ x y. refl)
      (λ x y. ap (λ c. not c && true) is) ol or'

  cast_sound : (c : Bool) (a : Exp) (t : Ty) (l : Part) → Sound l
      → Sound (if c then one Place' l (λ x. Cast (TempPlace x (type_of a)) t) else one Value l (λ x. Cast (Temp x (type_of a)) t))
  cast_sound true a t l o = one_sound Place' l (λ x. Cast (TempPlace x (type_of a)) t) (λ x. refl) (λ x. refl) o
  cast_sound false a t l o = one_sound Value l (λ x. Cast (Temp x (type_of a)) t) (λ x. refl) (λ x. refl) o

  convert_sound : (c : Bool) (a : Exp) (t : Ty) (l : Part) → Sound l
      → Sound (if c then one Place' l (λ x. Convert (TempPlace x (type_of a)) t) else one Value l (λ x. Convert (Temp x (type_of a)) t))
  convert_sound true a t l o = one_sound Place' l (λ x. Convert (TempPlace x (type_of a)) t) (λ x. refl) (λ x. refl) o
  convert_sound false a t l o = one_sound Value l (λ x. Convert (Temp x (type_of a)) t) (λ x. refl) (λ x. refl) o

  index_sound : (c : Bool) (a b : Exp) (t : Ty) (l r : Part) → Sound l → Sound r
      → Sound (if c then two Place' l Value r (λ x y. Index (TempPlace x (type_of a)) (Temp y (type_of b)) t)
      else two Value l Value r (λ x y. Index (Temp x (type_of a)) (Temp y (type_of b)) t))
  index_sound true a b t l r ol or' =
      two_sound Place' l Value r (λ x y. Index (TempPlace x (type_of a)) (Temp y (type_of b)) t) (λ x y. refl) (λ x y. refl) ol or'
  index_sound false a b t l r ol or' =
      two_sound Value l Value r (λ x y. Index (Temp x (type_of a)) (Temp y (type_of b)) t) (λ x y. refl) (λ x y. refl) ol or'

  unary_sound : (o : UnaryOp) (a : Exp) (t : Ty) (l : Part) → Sound l → Sound (unary o a t l)
  unary_sound sign.Address a t l o = address_sound l o
  unary_sound sign.Deref a t l o = one_sound Value l (λ x. Unary sign.Deref (Temp x (type_of a)) t) (λ x. refl) (λ x. refl) o
  unary_sound sign.Plus a t l o = one_sound Value l (λ x. Unary sign.Plus (Temp x (type_of a)) t) (λ x. refl) (λ x. refl) o
  unary_sound sign.Minus a t l o = one_sound Value l (λ x. Unary sign.Minus (Temp x (type_of a)) t) (λ x. refl) (λ x. refl) o
  unary_sound sign.Complement a t l o =
      one_sound Value l (λ x. Unary sign.Complement (Temp x (type_of a)) t) (λ x. refl) (λ x. refl) o
  unary_sound sign.Not a t l o = one_sound Value l (λ x. Unary sign.Not (Temp x (type_of a)) t) (λ x. refl) (λ x. refl) o

  -- a step in front of a node
  pub record ThenSound (p : (next : ℕ) → Build ℕ) : Type 0 where
    pub grows : (next : ℕ) (g : Growing) → Grows g (p next g).1
    pub free : (next : ℕ) (g : Growing) → Whole (p next g).1 → v next ≡ true → v (p next g).0 ≡ true
    pub fine : (next : ℕ) (g : Growing) → Whole (p next g).1 → AllFine all_temps all_slots g.nodes → AllFine all_temps all_slots (p next g).1.nodes

  -- a part whose value nobody reads
  pub dropped_sound : (p : Part) → Sound p → ThenSound (λ next g. p (Into Value g.temps next) (fresh 1 g).1)
  dropped_sound p o = record {
    grows = λ next g. grows_trans (grows_fresh 1 g) (o.grows (Into Value g.temps next) (fresh 1 g).1);
    free = λ next g w h.
        o.free (Into Value g.temps next) (fresh 1 g).1 w (either (same m (InTemp g.temps)) (v next) (λ n. h));
    fine = λ next g w f.
        o.fine (Into Value g.temps next) (fresh 1 g).1 w
        (omega (arith, ((o.grows (Into Value g.temps next) (fresh 1 g).1).less w).temps)) f;
  }

  pub itself_sound : ThenSound (λ next g. (next, g))
  itself_sound = record { grows = λ next g. grows_refl g; free = λ next g w h. h; fine = λ next g w f. f }

  called_sound : (c : Bool) (f : Part) → Sound f → ThenSound (called c f)
  called_sound true f o = itself_sound
  called_sound false f o = dropped_sound f o

  -- arguments, each kept in its temp
  pub record AllSound (n : ℕ) (p : (x next : ℕ) → Build ℕ) : Type 0 where
    pub grows : (x next : ℕ) (g : Growing) → Grows g (p x next g).1
    pub free : (x next : ℕ) (g : Growing) → Whole (p x next g).1 → (among m (map InTemp (numbers x n)) || v next) ≡ true
        → v (p x next g).0 ≡ true
    pub fine : (x next : ℕ) (g : Growing) → Whole (p x next g).1 → x + n ≤ all_temps → AllFine all_temps all_slots g.nodes
        → AllFine all_temps all_slots (p x next g).1.nodes

  argument_sound : (e : Exp) (es : Exps) (turn : ℕ) → Sound (unroll e turn) → AllSound (count es) (λ x next. unroll_all es turn x next)
      → AllSound (suc (count es)) (λ x next. unroll_all (Exps' e es) turn x next)
  argument_sound e es turn o os = record {
    grows = λ x next g.
        grows_trans (os.grows (x + 1) next g)
        (o.grows (Into Value x (rest x next g).0) (rest x next g).1);
    free = λ x next g w h.
        o.free (Into Value x (rest x next g).0) (rest x next g).1 w
        (either (same m (InTemp x)) (v (rest x next g).0)
        (λ n. os.free (x + 1) next g (inner x next g w)
        (rest_of (same m (InTemp x)) (among m (map InTemp (numbers (x + 1) (count es)))) (v next) n h)));
    fine = λ x next g w i f.
        o.fine (Into Value x (rest x next g).0) (rest x next g).1 w (omega (arith, i))
        (os.fine (x + 1) next g (inner x next g w) (omega (arith, i)) f);
  }
    where
      rest : (x next : ℕ) → Build ℕ
      rest x next g = unroll_all es turn (x + 1) next g

      inner : (x next : ℕ) (g : Growing) → Whole (unroll_all (Exps' e es) turn x next g).1 → Whole (rest x next g).1
      inner x next g w = (o.grows (Into Value x (rest x next g).0) (rest x next g).1).less w

  numbers_in : (x n : ℕ) → x + n ≤ all_temps → AreIn all_temps all_slots (map InTemp (numbers x n))
  numbers_in x zero h = tt
  numbers_in x (suc n) h = (omega (arith, h), numbers_in (x + 1) n (omega (arith, h)))

  call_sound : (q : Place) (f : Exp) (es : Exps) (t : Ty) (turn : ℕ) → Sound (unroll f turn)
      → AllSound (count es) (λ x next. unroll_all es turn x next) → Sound (unroll (Call q f es t) turn)
  call_sound q f es t turn o os = sound_kept (λ k g. called (is_name f) (unroll f turn) (arguments k g).0 (arguments k g).1)
      (record {
        grows = λ k g.
            grows_trans (before k g)
            (grows_trans (os.grows g.temps (length g.nodes) (behind k g)) (callee.grows (arguments k g).0 (arguments k g).1));
        free = λ k g w h.
            callee.free (arguments k g).0 (arguments k g).1 w
            (os.free g.temps (length g.nodes) (behind k g) (inner k g w)
            (either (among m (map InTemp (numbers g.temps (count es)))) (v (length g.nodes))
            (λ n. (made k g w).fits.0.by
            ∙ calm (among m (map InTemp (numbers g.temps (count es)))) ((same m (InTemp k.temp) || false) || v k.next) n
            (kept_on (same m (InTemp k.temp)) (v k.next) h))));
        fine = λ k g w i f.
            let low : g.temps + count es ≤ all_temps = (made k g w).temps in
            callee.fine (arguments k g).0 (arguments k g).1 w
            (os.fine g.temps (length g.nodes) (behind k g) (inner k g w) low
            (record { reads = numbers_in g.temps (count es) low; keeps = (i, tt); plain = refl }, f));
      })
    where
      behind : Goal → Growing → Growing
      behind k g =
          record {
            nodes = CallOf (record { place = q; callee = f; result = t; turn = turn }) (numbers g.temps (count es)) k.temp k.next ∷ g.nodes;
            temps = g.temps + count es;
            slots = g.slots;
          }

      arguments : Goal → Build ℕ
      arguments k g = unroll_all es turn g.temps (length g.nodes) (behind k g)

      callee : ThenSound (called (is_name f) (unroll f turn))
      callee = called_sound (is_name f) (unroll f turn) o

      before : (k : Goal) (g : Growing) → Grows g (behind k g)
      before k g = record { less = λ w. record { fits = w.fits.1; temps = omega (arith, w.temps); slots = w.slots } }

      inner : (k : Goal) (g : Growing) → Whole (called (is_name f) (unroll f turn) (arguments k g).0 (arguments k g).1).1
          → Whole (arguments k g).1
      inner k g w = (callee.grows (arguments k g).0 (arguments k g).1).less w

      made : (k : Goal) (g : Growing) → Whole (called (is_name f) (unroll f turn) (arguments k g).0 (arguments k g).1).1
          → Whole (behind k g)
      made k g w = (os.grows g.temps (length g.nodes) (behind k g)).less (inner k g w)

  mutual
    pub expression_sound : (e : Exp) (turn : ℕ) → Sound (unroll e turn)
    expression_sound (Comma a b t) turn =
        plainly_sound (Comma a b t) _
        (comma_sound (unroll a turn) (unroll b turn) (expression_sound a turn) (expression_sound b turn))
    expression_sound (Assign o works a b t) turn =
        plainly_sound (Assign o works a b t) (assigning o works a b t (unroll a turn) (unroll b turn))
        (assigning_sound o works a b t (unroll a turn) (unroll b turn) (expression_sound a turn) (expression_sound b turn))
    expression_sound (Cond c a b t) turn =
        conditional_sound (unroll c turn) (unroll a turn) (unroll b turn) (expression_sound c turn)
        (expression_sound a turn) (expression_sound b turn)
    expression_sound (Binary o a b t) turn =
        plainly_sound (Binary o a b t) (binary o a b t (unroll a turn) (unroll b turn))
        (binary_sound (is_logical o) o a b t (unroll a turn) (unroll b turn) refl (expression_sound a turn)
        (expression_sound b turn))
    expression_sound (Cast a t) turn =
        plainly_sound (Cast a t) (converted a (λ x. Cast x t) (unroll a turn))
        (cast_sound (is_array (type_of a)) a t (unroll a turn) (expression_sound a turn))
    expression_sound (Unary o a t) turn =
        plainly_sound (Unary o a t) (unary o a t (unroll a turn))
        (unary_sound o a t (unroll a turn) (expression_sound a turn))
    expression_sound (PreInc d a t) turn =
        plainly_sound (PreInc d a t) _
        (one_sound Place' (unroll a turn) (λ x. PreInc d (TempPlace x (type_of a)) t) (λ x. refl) (λ x. refl) (expression_sound a turn))
    expression_sound (PostInc d a t) turn =
        plainly_sound (PostInc d a t) _
        (one_sound Place' (unroll a turn) (λ x. PostInc d (TempPlace x (type_of a)) t) (λ x. refl) (λ x. refl) (expression_sound a turn))
    expression_sound (SizeofExpr a n t) turn = plainly_sound (SizeofExpr a n t) _ (kept_sound (SizeofType n t) refl refl)
    expression_sound (SizeofType n t) turn = kept_sound (SizeofType n t) refl refl
    expression_sound (Index a b t) turn =
        plainly_sound (Index a b t) (indexed a b t (unroll a turn) (unroll b turn))
        (index_sound (is_array (type_of a)) a b t (unroll a turn) (unroll b turn) (expression_sound a turn) (expression_sound b turn))
    expression_sound (Call q f es t) turn = call_sound q f es t turn (expression_sound f turn) (arguments_sound es turn)
    expression_sound (Field a n true t) turn =
        plainly_sound (Field a n true t) _
        (one_sound Value (unroll a turn) (λ x. Field (Temp x (type_of a)) n true t) (λ x. refl) (λ x. refl) (expression_sound a turn))
    expression_sound (Field a n false t) turn =
        plainly_sound (Field a n false t) _
        (one_sound Place' (unroll a turn) (λ x. Field (TempPlace x (type_of a)) n false t) (λ x. refl) (λ x. refl)
        (expression_sound a turn))
    expression_sound (Param n t) turn = kept_sound (Param n t) refl refl
    expression_sound (Local n t) turn = kept_sound (Local n t) refl refl
    expression_sound (Global n t) turn = kept_sound (Global n t) refl refl
    expression_sound (Function n b t) turn = kept_sound (Function n b t) refl refl
    expression_sound (Number n t) turn = kept_sound (Number n t) refl refl
    expression_sound (Str q t) turn = kept_sound (Str q t) refl refl
    expression_sound (Convert a t) turn =
        plainly_sound (Convert a t) (converted a (λ x. Convert x t) (unroll a turn))
        (convert_sound (is_array (type_of a)) a t (unroll a turn) (expression_sound a turn))
    expression_sound (Temp n t) turn = kept_sound nothing refl refl
    expression_sound (TempPlace n t) turn =
        one_sound Value (kept nothing) (λ x. TempPlace x t) (λ x. refl) (λ x. refl) (kept_sound nothing refl refl)

    pub arguments_sound : (es : Exps) (turn : ℕ) → AllSound (count es) (λ x next. unroll_all es turn x next)
    arguments_sound NoExps turn = record {
      grows = λ x next g. grows_refl g;
      free = λ x next g w h. h;
      fine = λ x next g w i f. f;
    }
    arguments_sound (Exps' e es) turn = argument_sound e es turn (expression_sound e turn) (arguments_sound es turn)
