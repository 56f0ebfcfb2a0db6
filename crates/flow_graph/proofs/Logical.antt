-- `&&` and `||`.
use Rattle.std.proofs.Common.{◌≡◌, ◌⊎◌, inl, inr, ℕ, ◌≤◌, Bool, true, false, List, refl, sym, subst, ◌∙◌, arith}
use Rattle.std.proofs.lemmas.Bool.{false≢true}
use Rattle.std.specs.Prelude.{if◌then◌else◌}
use Rattle.sc_tree.specs.declared.op.BinaryOp.{BinaryOp}
use Rattle.sc_tree.specs.declared.op.BinaryOp.TheVariants as op
use Rattle.run_store.specs.Concrete.{Cell, Nothing}
use Rattle.sc_world.specs.Tree.{Ty, Exp, Binary}
use Rattle.sc_world.specs.Source.{Source}
use Rattle.sc_world.specs.Layout.{Layout}
use Rattle.sc_world.specs.World.{World, Run, ◌>>=◌, done, Env, is_true}
use Rattle.sc_world.specs.Eval.{Value, eval, truth_cell, needs_right, is_logical}
use Rattle.flow_graph.specs.Nodes.{Kept, keep, in_tree}
use Rattle.flow_graph.specs.Growing.{Growing}
use Rattle.flow_graph.specs.Expressions.{Aim, Into, Test, Part, Sides, sides, first_test, logical}
use Rattle.flow_graph.proofs.Steps.{goes_assoc}
use Rattle.flow_graph.proofs.Kept.{at_same}
use Rattle.flow_graph.proofs.Parts.{Agrees, agrees_trans, agrees_keep, Apt, Fits, Grows, grows_trans, Reaches, Serves}

module _ (s : Source) (p : Layout) (choice : List Bool) (v : ℕ → Kept → Run Cell) (turn : ℕ) where
  abbrev tree : Env
  tree = in_tree s p choice turn

  -- what is reached where the value is not 0, and where it is
  record Sided (t : Ty) (c : Sides) (b : ℕ) (k : Kept) (f : Cell → Run Cell) : Type 0 where
    hit : (new : Kept) (w : World) → Agrees b k new → v c.hit new w ≡ f (truth_cell tree t true) w
    miss : (new : Kept) (w : World) → Agrees b k new → v c.miss new w ≡ f (truth_cell tree t false) w

  sides_grow : (t : Ty) (aim : Aim) (g : Growing) → Grows s p choice v g (sides t aim g).1
  sides_grow t (Into want x next) g = record { fits = λ z. z.1.1; temps = omega arith; slots = omega arith }
  sides_grow t (Test hit miss) g = record { fits = λ z. z; temps = omega arith; slots = omega arith }

  sides_serve : (t : Ty) (aim : Aim) (g : Growing) (b : ℕ) → b ≤ g.temps → Apt b aim → Fits s p choice v (sides t aim g).1.nodes
      → (k : Kept) (f : Cell → Run Cell) → Reaches s p choice v aim b k f → Sided t (sides t aim g).0 b k f
  sides_serve t (Into want x next) g b h apt fits k f r = record {
    hit = λ new w q.
        fits.1.0.by new w
        ∙ r.goes (keep x (truth_cell tree t true) new) (truth_cell tree t true) w
        (agrees_trans q (agrees_keep b x (truth_cell tree t true) new apt))
        (at_same Nothing x (truth_cell tree t true) new.temps);
    miss = λ new w q.
        fits.0.by new w
        ∙ r.goes (keep x (truth_cell tree t false) new) (truth_cell tree t false) w
        (agrees_trans q (agrees_keep b x (truth_cell tree t false) new apt))
        (at_same Nothing x (truth_cell tree t false) new.temps);
  }
  sides_serve t (Test hit miss) g b h apt fits k f r = record {
    hit = λ new w q. r.goes new (truth_cell tree t true) w q tt;
    miss = λ new w q. r.goes new (truth_cell tree t false) w q tt;
  }

  side : (t : Ty) (c : Sides) (b : ℕ) (k : Kept) (f : Cell → Run Cell) → Sided t c b k f → (held : Bool) (new : Kept) (w : World)
      → Agrees b k new → v (if held then c.hit else c.miss) new w ≡ f (truth_cell tree t held) w
  side t c b k f x true new w q = x.hit new w q
  side t c b k f x false new w q = x.miss new w q

  -- the rest behind the left operand, whose value holds or not
  abbrev behind_left : BinaryOp → Exp → Ty → Bool → Run Cell
  behind_left o b t held =
      if needs_right o held
      then (eval b Value tree >>= λ y. done (truth_cell tree t (is_true y)))
      else done (truth_cell tree t held)

  -- the second operand, where it is needed
  right : (b : Exp) (t : Ty) (pb : Part) (c : Sides) (g : Growing) (b' : ℕ) → Serves s p choice v pb (λ want. eval b want tree)
      → b' ≤ g.temps → Fits s p choice v (pb (Test c.hit c.miss) g).1.nodes → (k : Kept) (f : Cell → Run Cell) → Sided t c b' k f
      → (new : Kept) (w : World) → Agrees b' k new
      → v (pb (Test c.hit c.miss) g).0 new w ≡ ((eval b Value tree >>= λ y. done (truth_cell tree t (is_true y))) >>= f) w
  right b t pb c g b' sb h fits k f x new w q =
      sb.by (Test c.hit c.miss) g b' h tt fits new (λ y. f (truth_cell tree t (is_true y)))
      (record { goes = λ new' y w' q' told. side t c b' k f x (is_true y) new' w' (agrees_trans q q') }) w
      ∙ sym (goes_assoc (eval b Value tree w) (λ y. done (truth_cell tree t (is_true y))) f)

  pub is_and : (o : BinaryOp) → is_logical o ≡ true → (o ≡ op.And) ⊎ (o ≡ op.Or)
  is_and op.And h = inl refl
  is_and op.Or h = inr refl
  is_and op.BitOr h = absurd (false≢true h)
  is_and op.BitXor h = absurd (false≢true h)
  is_and op.BitAnd h = absurd (false≢true h)
  is_and op.Equal h = absurd (false≢true h)
  is_and op.NotEqual h = absurd (false≢true h)
  is_and op.Less h = absurd (false≢true h)
  is_and op.Greater h = absurd (false≢true h)
  is_and op.LessEqual h = absurd (false≢true h)
  is_and op.GreaterEqual h = absurd (false≢true h)
  is_and op.ShiftLeft h = absurd (false≢true h)
  is_and op.ShiftRight h = absurd (false≢true h)
  is_and op.Add h = absurd (false≢true h)
  is_and op.Sub h = absurd (false≢true h)
  is_and op.Mul h = absurd (false≢true h)
  is_and op.Div h = absurd (false≢true h)
  is_and op.Rem h = absurd (false≢true h)

  module _ (a b : Exp) (t : Ty) (pa pb : Part) (sa : Serves s p choice v pa (λ want. eval a want tree))
      (sb : Serves s p choice v pb (λ want. eval b want tree)) where
    abbrev c_of : Aim → Growing → Sides
    c_of aim g = (sides t aim g).0

    abbrev behind_sides : Aim → Growing → ℕ × Growing
    behind_sides aim g = pb (Test (c_of aim g).hit (c_of aim g).miss) (sides t aim g).1

    grows_right : (aim : Aim) (g : Growing) → Grows s p choice v (sides t aim g).1 (behind_sides aim g).1
    grows_right aim g = sb.grows (Test (c_of aim g).hit (c_of aim g).miss) (sides t aim g).1

    grows_left : (o : BinaryOp) (aim : Aim) (g : Growing) → Grows s p choice v (behind_sides aim g).1 (logical o t pa pb aim g).1
    grows_left o aim g = sa.grows (first_test o (behind_sides aim g).0 (c_of aim g)) (behind_sides aim g).1

    grows_logical : (o : BinaryOp) (aim : Aim) (g : Growing) → Grows s p choice v g (logical o t pa pb aim g).1
    grows_logical o aim g =
        grows_trans s p choice v (sides_grow t aim g)
        (grows_trans s p choice v (grows_right aim g) (grows_left o aim g))

    tested_and : (aim : Aim) (g : Growing) (b' : ℕ) → b' ≤ g.temps → Apt b' aim → Fits s p choice v (behind_sides aim g).1.nodes
        → (k : Kept) (f : Cell → Run Cell) → Reaches s p choice v aim b' k f → (held : Bool) (new : Kept) (w : World) → Agrees b' k new
        → v (if held then (behind_sides aim g).0 else (c_of aim g).miss) new w ≡ (behind_left op.And b t held >>= f) w
    tested_and aim g b' h apt fits k f r true new w q =
        right b t pb (c_of aim g) (sides t aim g).1 b' sb (omega (arith, h, (sides_grow t aim g).temps)) fits k f
        (sides_serve t aim g b' h apt ((grows_right aim g).fits fits) k f r) new w q
    tested_and aim g b' h apt fits k f r false new w q =
        (sides_serve t aim g b' h apt ((grows_right aim g).fits fits) k f r).miss new w q

    tested_or : (aim : Aim) (g : Growing) (b' : ℕ) → b' ≤ g.temps → Apt b' aim → Fits s p choice v (behind_sides aim g).1.nodes
        → (k : Kept) (f : Cell → Run Cell) → Reaches s p choice v aim b' k f → (held : Bool) (new : Kept) (w : World) → Agrees b' k new
        → v (if held then (c_of aim g).hit else (behind_sides aim g).0) new w ≡ (behind_left op.Or b t held >>= f) w
    tested_or aim g b' h apt fits k f r true new w q =
        (sides_serve t aim g b' h apt ((grows_right aim g).fits fits) k f r).hit new w q
    tested_or aim g b' h apt fits k f r false new w q =
        right b t pb (c_of aim g) (sides t aim g).1 b' sb (omega (arith, h, (sides_grow t aim g).temps)) fits k f
        (sides_serve t aim g b' h apt ((grows_right aim g).fits fits) k f r) new w q

    pub serves_and : Serves s p choice v (logical op.And t pa pb) (λ want. eval (Binary op.And a b t) want tree)
    serves_and = record {
      grows = grows_logical op.And;
      by = λ aim g b' h apt fits k f r w.
          sa.by (Test (behind_sides aim g).0 (c_of aim g).miss) (behind_sides aim g).1 b'
          (omega (arith, h, (sides_grow t aim g).temps, (grows_right aim g).temps)) tt fits k
          (λ x. behind_left op.And b t (is_true x) >>= f)
          (record {
            goes = λ new x w' q told. tested_and aim g b' h apt ((grows_left op.And aim g).fits fits) k f r (is_true x) new w' q;
          }) w
          ∙ sym (goes_assoc (eval a Value tree w) (λ x. behind_left op.And b t (is_true x)) f);
    }

    pub serves_or : Serves s p choice v (logical op.Or t pa pb) (λ want. eval (Binary op.Or a b t) want tree)
    serves_or = record {
      grows = grows_logical op.Or;
      by = λ aim g b' h apt fits k f r w.
          sa.by (Test (c_of aim g).hit (behind_sides aim g).0) (behind_sides aim g).1 b'
          (omega (arith, h, (sides_grow t aim g).temps, (grows_right aim g).temps)) tt fits k (λ x. behind_left op.Or b t (is_true x) >>= f)
          (record {
            goes = λ new x w' q told. tested_or aim g b' h apt ((grows_left op.Or aim g).fits fits) k f r (is_true x) new w' q;
          }) w
          ∙ sym (goes_assoc (eval a Value tree w) (λ x. behind_left op.Or b t (is_true x)) f);
    }

    pub serves_logical : (o : BinaryOp) → (o ≡ op.And) ⊎ (o ≡ op.Or) → Serves s p choice v (logical o t pa pb)
        (λ want. eval (Binary o a b t) want tree)
    serves_logical o (inl e) =
        subst (λ o. Serves s p choice v (logical o t pa pb) (λ want. eval (Binary o a b t) want tree))
        (sym e) serves_and
    serves_logical o (inr e) =
        subst (λ o. Serves s p choice v (logical o t pa pb) (λ want. eval (Binary o a b t) want tree)) (sym e) serves_or
