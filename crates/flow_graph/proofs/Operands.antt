-- The shapes of expressions: each serves where its operands do.
use Rattle.std.proofs.Common.{◌≡◌, ℕ, ◌+◌, ◌≤◌, Bool, true, false, List, ◌∷◌, length, refl, sym, ap, subst, ◌∙◌, arith}
use Rattle.std.specs.Prelude.{Some, if◌then◌else◌}
use Rattle.run_store.specs.Concrete.{Cell, Nothing}
use Rattle.sc_world.specs.Tree.{Ty, Exp, Assign, Cond, Comma, TempPlace}
use Rattle.sc_world.specs.Source.{Source}
use Rattle.sc_world.specs.Layout.{Layout}
use Rattle.sc_world.specs.World.{World, Run, ◌>>=◌, goes_on, Env, is_true, load}
use Rattle.sc_world.specs.Eval.{Want, Value, Place', eval, combined, assign_value, place_of}
use Rattle.flow_graph.specs.Nodes.{Keep, Update, Updating, Kept, temp, keep, reads, in_tree, updated}
use Rattle.flow_graph.specs.Growing.{Growing, Build, put, fresh}
use Rattle.flow_graph.specs.Expressions.{Aim, Into, Test, Part, Goal, kept, plainly, one, two, comma, conditional, updating, address, as_scalar, is_scalar, easy}
use Rattle.flow_graph.proofs.Steps.{goes_cong, goes_assoc}
use Rattle.flow_graph.proofs.Kept.{at_same, below_same}
use Rattle.flow_graph.proofs.Follows.{One, Two}
use Rattle.flow_graph.proofs.Parts.{Agrees, agrees_refl, agrees_trans, agrees_less, agrees_keep, want_of, Apt, Acts, Fits, Grows, grows_trans, grows_put, grows_fresh, Reaches, reaches_on, Serves, Lands, Keeps, serves_kept, at_branch, grows_branch, chosen}

module _ (s : Source) (p : Layout) (choice : List Bool) (v : ℕ → Kept → Run Cell) where
  -- One node for an expression that means on what is kept what the tree means.
  keeps_plain : (e : Exp) (does : Want → Run Cell)
      → ((want : Want) (k : Kept) (w : World) → eval e want (reads s p choice k) w ≡ does want w)
      → Keeps s p choice v (λ k. put (Keep k.want k.temp e k.next)) does
  keeps_plain e does means = record {
    grows = λ k g. grows_put s p choice v (Keep k.want k.temp e k.next) g;
    by = λ k g b h apt fits old f lands w.
        fits.0.by old w
        ∙ goes_cong _ _ (λ x. v k.next (keep k.temp x old)) f (means k.want old w) (λ x w'. lands old x w' (agrees_refl b old));
  }

  pub serves_plain : (e : Exp) (does : Want → Run Cell)
      → ((want : Want) (k : Kept) (w : World) → eval e want (reads s p choice k) w ≡ does want w)
      → Serves s p choice v (kept e) does
  serves_plain e does means = serves_kept s p choice v (λ k. put (Keep k.want k.temp e k.next)) does (keeps_plain e does means)

  pub serves_plainly : (e : Exp) (hard : Part) (does : Want → Run Cell) (c : Bool)
      → easy e ≡ c
      → (easy e ≡ true → (want : Want) (k : Kept) (w : World) → eval e want (reads s p choice k) w ≡ does want w)
      → Serves s p choice v hard does
      → Serves s p choice v (plainly e hard) does
  serves_plainly e hard does true h means serves =
      subst (λ c. Serves s p choice v (λ aim. if c then kept e aim else hard aim) does) (sym h) (serves_plain e does (means h))
  serves_plainly e hard does false h means serves =
      subst (λ c. Serves s p choice v (λ aim. if c then kept e aim else hard aim) does) (sym h) serves

  module _ (turn : ℕ) where
    abbrev tree : Env
    tree = in_tree s p choice turn

    -- One operand: how the tree goes on behind it, and the node on what was kept.
    pub record Works (wa : Want) (a : Exp) (does : Want → Run Cell) (whole : ℕ → Exp) : Type 0 where
      pub after : Want → Cell → Run Cell
      pub splits : (want : Want) (w : World) → does want w ≡ (eval a wa tree >>= after want) w
      pub on_kept : (want : Want) (x : ℕ) (k : Kept) (w : World) → eval (whole x) want (reads s p choice k) w ≡ after want (temp k x) w

    works : {wa : Want} {a e : Exp} {whole : ℕ → Exp} → One s p choice wa a e whole → Works wa a (λ want. eval e want tree) whole
    works o = record {
      after = λ want c. o.after want tree c;
      splits = λ want w. o.splits want tree w;
      on_kept = λ want x k w. o.on_kept want x k w ∙ o.same want k turn (temp k x) w;
    }

    after_one : {wa : Want} {a : Exp} {does : Want → Run Cell} {whole : ℕ → Exp} (o : Works wa a does whole) (k : Goal) (x at b : ℕ)
        (old : Kept) (f : Cell → Run Cell)
        → Acts s p choice v at (Keep k.want k.temp (whole x) k.next) → Lands s p choice v k b old f
        → (new : Kept) (c : Cell) (w : World) → Agrees b old new → temp new x ≡ c → v at new w ≡ (o.after k.want c >>= f) w
    after_one o k x at b old f acts lands new c w a told =
        acts.by new w
        ∙ goes_cong _ _ (λ y. v k.next (keep k.temp y new)) f
        (o.on_kept k.want x new w ∙ ap (λ d. o.after k.want d w) told)
        (λ y w'. lands new y w' a)

    abbrev behind_one : (whole : ℕ → Exp) → Goal → Growing → Growing
    behind_one whole k g = record { nodes = Keep k.want k.temp (whole g.temps) k.next ∷ g.nodes; temps = g.temps + 1; slots = g.slots }

    grows_one : (whole : ℕ → Exp) (k : Goal) (g : Growing) → Grows s p choice v g (behind_one whole k g)
    grows_one whole k g = record { fits = λ z. z.1; temps = omega arith; slots = omega arith }

    abbrev one_of : Want → Part → (whole : ℕ → Exp) → Goal → Build ℕ
    one_of wa a whole k g = a (Into wa g.temps (length g.nodes)) (behind_one whole k g)

    keeps_one : (wa : Want) (a : Exp) (does : Want → Run Cell) (part : Part) (whole : ℕ → Exp) → Works wa a does whole
        → Serves s p choice v part (λ want. eval a want tree)
        → Keeps s p choice v (one_of wa part whole) does
    keeps_one wa a does part whole o serves = record { grows = grows; by = by }
      where
        grows : (k : Goal) (g : Growing) → Grows s p choice v g (one_of wa part whole k g).1
        grows k g = grows_trans s p choice v (grows_one whole k g) (serves.grows (Into wa g.temps (length g.nodes)) (behind_one whole k g))

        by : (k : Goal) (g : Growing) (b : ℕ) → b ≤ g.temps → b ≤ k.temp → Fits s p choice v (one_of wa part whole k g).1.nodes
            → (old : Kept) (f : Cell → Run Cell) → Lands s p choice v k b old f → (w : World)
            → v (one_of wa part whole k g).0 old w ≡ (does k.want >>= f) w
        by k g b h apt fits old f lands w =
            serves.by (Into wa g.temps (length g.nodes)) (behind_one whole k g) b (omega (arith, h)) h fits old
            (λ c. o.after k.want c >>= f)
            (record {
              goes = after_one o k g.temps (length g.nodes) b old f
                  ((serves.grows (Into wa g.temps (length g.nodes)) (behind_one whole k g)).fits fits).0 lands;
            }) w
            ∙ sym (goes_assoc (eval a wa tree w) (o.after k.want) f)
            ∙ ap (λ r. goes_on r f) (sym (o.splits k.want w))

    pub serves_by : (wa : Want) (a : Exp) (does : Want → Run Cell) (part : Part) (whole : ℕ → Exp) → Works wa a does whole
        → Serves s p choice v part (λ want. eval a want tree)
        → Serves s p choice v (one wa part whole) does
    serves_by wa a does part whole o serves =
        serves_kept s p choice v (one_of wa part whole) does (keeps_one wa a does part whole o serves)

    pub serves_one : (wa : Want) (a e : Exp) (part : Part) (whole : ℕ → Exp) → One s p choice wa a e whole
        → Serves s p choice v part (λ want. eval a want tree)
        → Serves s p choice v (one wa part whole) (λ want. eval e want tree)
    serves_one wa a e part whole o serves =
        serves_by wa a (λ want. eval e want tree) part whole (works o) serves

    -- Two operands.
    after_two : {wa wb : Want} {a c e : Exp} {whole : ℕ → ℕ → Exp} (o : Two s p choice wa a wb c e whole) (k : Goal)
        (x y at b : ℕ) (old : Kept)
        (f : Cell → Run Cell)
        → Acts s p choice v at (Keep k.want k.temp (whole x y) k.next) → Lands s p choice v k b old f
        → (new : Kept) (l r : Cell) (w : World) → Agrees b old new → temp new x ≡ l → temp new y ≡ r
        → v at new w ≡ (o.after k.want tree l r >>= f) w
    after_two o k x y at b old f acts lands new l r w a left right =
        acts.by new w
        ∙ goes_cong _ _ (λ y. v k.next (keep k.temp y new)) f
        (o.on_kept k.want x y new w ∙ o.same k.want new turn (temp new x) (temp new y) w
        ∙ ap (λ d. o.after k.want tree d (temp new y) w) left ∙ ap (λ d. o.after k.want tree l d w) right)
        (λ z w'. lands new z w' a)

    abbrev behind_two : (whole : ℕ → ℕ → Exp) → Goal → Growing → Growing
    behind_two whole k g =
        record { nodes = Keep k.want k.temp (whole g.temps (g.temps + 1)) k.next ∷ g.nodes; temps = g.temps + 1 + 1; slots = g.slots }

    grows_two : (whole : ℕ → ℕ → Exp) (k : Goal) (g : Growing) → Grows s p choice v g (behind_two whole k g)
    grows_two whole k g = record { fits = λ z. z.1; temps = omega arith; slots = omega arith }

    abbrev second : Want → Part → (whole : ℕ → ℕ → Exp) → Goal → Build ℕ
    second wb b whole k g = b (Into wb (g.temps + 1) (length g.nodes)) (behind_two whole k g)

    abbrev two_of : Want → Part → Want → Part → (whole : ℕ → ℕ → Exp) → Goal → Build ℕ
    two_of wa a wb b whole k g = a (Into wa g.temps (second wb b whole k g).0) (second wb b whole k g).1

    keeps_two : (wa : Want) (a : Exp) (pa : Part) (wb : Want) (c : Exp) (pc : Part) (e : Exp) (whole : ℕ → ℕ → Exp)
        → Two s p choice wa a wb c e whole
        → Serves s p choice v pa (λ want. eval a want tree) → Serves s p choice v pc (λ want. eval c want tree)
        → Keeps s p choice v (two_of wa pa wb pc whole) (λ want. eval e want tree)
    keeps_two wa a pa wb c pc e whole o sa sc = record { grows = grows; by = by }
      where
        grows_second : (k : Goal) (g : Growing) → Grows s p choice v (behind_two whole k g) (second wb pc whole k g).1
        grows_second k g = sc.grows (Into wb (g.temps + 1) (length g.nodes)) (behind_two whole k g)

        grows_first : (k : Goal) (g : Growing) → Grows s p choice v (second wb pc whole k g).1 (two_of wa pa wb pc whole k g).1
        grows_first k g = sa.grows (Into wa g.temps (second wb pc whole k g).0) (second wb pc whole k g).1

        grows : (k : Goal) (g : Growing) → Grows s p choice v g (two_of wa pa wb pc whole k g).1
        grows k g = grows_trans s p choice v (grows_two whole k g) (grows_trans s p choice v (grows_second k g) (grows_first k g))

        by : (k : Goal) (g : Growing) (b : ℕ) → b ≤ g.temps → b ≤ k.temp → Fits s p choice v (two_of wa pa wb pc whole k g).1.nodes
            → (old : Kept) (f : Cell → Run Cell) → Lands s p choice v k b old f → (w : World)
            → v (two_of wa pa wb pc whole k g).0 old w ≡ (eval e k.want tree >>= f) w
        by k g b h apt fits old f lands w =
            sa.by (Into wa g.temps (second wb pc whole k g).0) (second wb pc whole k g).1 b
            (omega (arith, h, (grows_second k g).temps)) h fits old
            (λ l. (eval c wb tree >>= o.after k.want tree l) >>= f)
            (record {
              goes = λ new l w' a left.
                  sc.by (Into wb (g.temps + 1) (length g.nodes)) (behind_two whole k g) (g.temps + 1) (omega arith) (omega arith)
                  ((grows_first k g).fits fits) new (λ r. o.after k.want tree l r >>= f)
                  (record {
                    goes = λ new' r w'' a' right.
                        after_two o k g.temps (g.temps + 1) (length g.nodes) b old f
                        ((grows_second k g).fits ((grows_first k g).fits fits)).0 lands new' l r w''
                        (agrees_trans a (agrees_less (omega (arith, h)) a')) (a'.temps g.temps (omega arith) ∙ left) right;
                  }) w'
                  ∙ sym (goes_assoc (eval c wb tree w') (o.after k.want tree l) f);
            }) w
            ∙ sym (goes_assoc (eval a wa tree w) (λ l. eval c wb tree >>= o.after k.want tree l) f)
            ∙ ap (λ r. goes_on r f) (sym (o.splits k.want tree w))

    pub serves_two : (wa : Want) (a : Exp) (pa : Part) (wb : Want) (c : Exp) (pc : Part) (e : Exp) (whole : ℕ → ℕ → Exp)
        → Two s p choice wa a wb c e whole
        → Serves s p choice v pa (λ want. eval a want tree) → Serves s p choice v pc (λ want. eval c want tree)
        → Serves s p choice v (two wa pa wb pc whole) (λ want. eval e want tree)
    serves_two wa a pa wb c pc e whole o sa sc =
        serves_kept s p choice v (two_of wa pa wb pc whole) (λ want. eval e want tree) (keeps_two wa a pa wb c pc e whole o sa sc)

    -- `+=` and its kin: the place, the value there and the right value are kept.
    abbrev behind_update : Updating → Goal → Growing → Growing
    behind_update u k g =
        record {
          nodes = Update u k.want g.temps (g.temps + 1) (g.temps + 1 + 1) k.temp k.next ∷ g.nodes;
          temps = g.temps + 1 + 1 + 1;
          slots = g.slots;
        }

    abbrev right_value : Updating → Part → Goal → Build ℕ
    right_value u r k g = r (Into Value (g.temps + 1 + 1) (length g.nodes)) (behind_update u k g)

    abbrev old_value : Updating → Part → Goal → Growing → Growing
    old_value u r k g =
        (put (Keep Value (g.temps + 1) (TempPlace g.temps (as_scalar u.ctype)) (right_value u r k g).0) (right_value u r k g).1).1

    abbrev update_of : Updating → Part → Part → Goal → Build ℕ
    update_of u l r k g = l (Into Place' g.temps (length (right_value u r k g).1.nodes)) (old_value u r k g)

    grows_update : (u : Updating) (k : Goal) (g : Growing) → Grows s p choice v g (behind_update u k g)
    grows_update u k g = record { fits = λ z. z.1; temps = omega arith; slots = omega arith }

    -- the rest of `+=` behind its place, and behind the value there
    abbrev behind_old : Updating → Exp → Want → Cell → Cell → Run Cell
    behind_old u b want at old = eval b Value tree >>= λ r. combined tree u.op u.works u.ctype old r >>= assign_value tree want u.ctype at

    abbrev behind_place : Updating → Exp → Want → Cell → Run Cell
    behind_place u b want at = load (place_of at) >>= behind_old u b want at

    loads : (t : Ty) (c : Bool) → is_scalar t ≡ c → (x : ℕ) (k : Kept) (w : World)
        → eval (TempPlace x (as_scalar t)) Value (reads s p choice k) w ≡ load (place_of (temp k x)) w
    loads t true h x k w = rw h (rw h refl)
    loads t false h x k w = rw h refl

    after_update : (u : Updating) (k : Goal) (x y z at b : ℕ) (old : Kept) (f : Cell → Run Cell)
        → Acts s p choice v at (Update u k.want x y z k.temp k.next) → Lands s p choice v k b old f
        → (new : Kept) (l o r : Cell) (w : World) → Agrees b old new → temp new x ≡ l → temp new y ≡ o → temp new z ≡ r
        → v at new w ≡ ((combined tree u.op u.works u.ctype o r >>= assign_value tree k.want u.ctype l) >>= f) w
    after_update u k x y z at b old f acts lands new l o r w a hl ho hr =
        acts.by new w
        ∙ goes_cong _ _ (λ c. v k.next (keep k.temp c new)) f
        (ap (λ c. updated s p choice u k.want c (temp new y) (temp new z) w) hl
        ∙ ap (λ c. updated s p choice u k.want l c (temp new z) w) ho
        ∙ ap (λ c. updated s p choice u k.want l o c w) hr)
        (λ c w'. lands new c w' a)

    keeps_update : (u : Updating) (a b : Exp) (pa pb : Part)
        → Serves s p choice v pa (λ want. eval a want tree) → Serves s p choice v pb (λ want. eval b want tree)
        → Keeps s p choice v (update_of u pa pb) (λ want. eval (Assign (Some u.op) u.works a b u.ctype) want tree)
    keeps_update u a b pa pb sa sb = record { grows = grows; by = by }
      where
        grows_right : (k : Goal) (g : Growing) → Grows s p choice v (behind_update u k g) (right_value u pb k g).1
        grows_right k g = sb.grows (Into Value (g.temps + 1 + 1) (length g.nodes)) (behind_update u k g)

        grows_old : (k : Goal) (g : Growing) → Grows s p choice v (right_value u pb k g).1 (old_value u pb k g)
        grows_old k g =
            grows_put s p choice v
            (Keep Value (g.temps + 1) (TempPlace g.temps (as_scalar u.ctype)) (right_value u pb k g).0)
            (right_value u pb k g).1

        grows_place : (k : Goal) (g : Growing) → Grows s p choice v (old_value u pb k g) (update_of u pa pb k g).1
        grows_place k g = sa.grows (Into Place' g.temps (length (right_value u pb k g).1.nodes)) (old_value u pb k g)

        grows : (k : Goal) (g : Growing) → Grows s p choice v g (update_of u pa pb k g).1
        grows k g =
            grows_trans s p choice v (grows_update u k g)
            (grows_trans s p choice v (grows_right k g) (grows_trans s p choice v (grows_old k g) (grows_place k g)))

        -- behind the place and the value there
        goes_right : (k : Goal) (g : Growing) (b' : ℕ) → b' ≤ g.temps → Fits s p choice v (right_value u pb k g).1.nodes
            → (old : Kept) (f : Cell → Run Cell) → Lands s p choice v k b' old f
            → (new : Kept) (l o : Cell) (w : World) → Agrees b' old new → temp new g.temps ≡ l → temp new (g.temps + 1) ≡ o
            → v (right_value u pb k g).0 new w ≡ (behind_old u b k.want l o >>= f) w
        goes_right k g b' h fits old f lands new l o w a hl ho =
            sb.by (Into Value (g.temps + 1 + 1) (length g.nodes)) (behind_update u k g) (g.temps + 1 + 1) (omega arith)
            (omega arith) fits new
            (λ r. (combined tree u.op u.works u.ctype o r >>= assign_value tree k.want u.ctype l) >>= f)
            (record {
              goes = λ new' r w' a' hr.
                  after_update u k g.temps (g.temps + 1) (g.temps + 1 + 1) (length g.nodes) b' old f
                  ((grows_right k g).fits fits).0 lands new' l o r w'
                  (agrees_trans a (agrees_less (omega (arith, h)) a')) (a'.temps g.temps (omega arith) ∙ hl)
                  (a'.temps (g.temps + 1) (omega arith) ∙ ho) hr;
            }) w
            ∙ sym (goes_assoc (eval b Value tree w) (λ r. combined tree u.op u.works u.ctype o r >>= assign_value tree k.want u.ctype l) f)

        by : (k : Goal) (g : Growing) (b' : ℕ) → b' ≤ g.temps → b' ≤ k.temp → Fits s p choice v (update_of u pa pb k g).1.nodes
            → (old : Kept) (f : Cell → Run Cell) → Lands s p choice v k b' old f → (w : World)
            → v (update_of u pa pb k g).0 old w ≡ (eval (Assign (Some u.op) u.works a b u.ctype) k.want tree >>= f) w
        by k g b' h apt fits old f lands w =
            sa.by (Into Place' g.temps (length (right_value u pb k g).1.nodes)) (old_value u pb k g) b'
            (omega (arith, h, (grows_right k g).temps)) h fits old
            (λ l. behind_place u b k.want l >>= f)
            (record {
              goes = λ new l w' a hl.
                  ((grows_place k g).fits fits).0.by new w'
                  ∙ goes_cong _ _ (λ o. v (right_value u pb k g).0 (keep (g.temps + 1) o new)) (λ o. behind_old u b k.want l o >>= f)
                  (loads u.ctype (is_scalar u.ctype) refl g.temps new w' ∙ ap (λ c. load (place_of c) w') hl)
                  (λ o w''.
                  goes_right k g b' h ((grows_old k g).fits ((grows_place k g).fits fits)) old f lands (keep (g.temps + 1) o new) l o w''
                  (agrees_trans a (agrees_keep b' (g.temps + 1) o new (omega (arith, h))))
                  (below_same Nothing (g.temps + 1) o new.temps g.temps (omega arith) ∙ hl) (at_same Nothing (g.temps + 1) o new.temps))
                  ∙ sym (goes_assoc (load (place_of l) w') (behind_old u b k.want l) f);
            }) w
            ∙ sym (goes_assoc (eval a Place' tree w) (behind_place u b k.want) f)

    pub serves_update : (u : Updating) (a b : Exp) (pa pb : Part)
        → Serves s p choice v pa (λ want. eval a want tree) → Serves s p choice v pb (λ want. eval b want tree)
        → Serves s p choice v (updating u pa pb) (λ want. eval (Assign (Some u.op) u.works a b u.ctype) want tree)
    serves_update u a b pa pb sa sb =
        serves_kept s p choice v (update_of u pa pb) (λ want. eval (Assign (Some u.op) u.works a b u.ctype) want tree)
        (keeps_update u a b pa pb sa sb)

    -- `&`: the place of its operand, kept where its value is due
    pub serves_address : (a : Exp) (pa : Part) → Serves s p choice v pa (λ want. eval a want tree)
        → Serves s p choice v (address pa) (λ want. eval a Place' tree)
    serves_address a pa sa = record { grows = grows; by = by }
      where
        grows : (aim : Aim) (g : Growing) → Grows s p choice v g (address pa aim g).1
        grows (Into want t next) g = sa.grows (Into Place' t next) g
        grows (Test hit miss) g =
            grows_trans s p choice v (grows_branch s p choice v hit miss g)
            (sa.grows (Into Place' g.temps (length g.nodes)) (at_branch s p choice v hit miss g))

        by : (aim : Aim) (g : Growing) (b : ℕ) → b ≤ g.temps → Apt b aim → Fits s p choice v (address pa aim g).1.nodes
            → (k : Kept) (f : Cell → Run Cell) → Reaches s p choice v aim b k f → (w : World)
            → v (address pa aim g).0 k w ≡ (eval a Place' tree >>= f) w
        by (Into want t next) g b h apt fits k f r w =
            sa.by (Into Place' t next) g b h apt fits k f (record { goes = λ new c w' q told. r.goes new c w' q told }) w
        by (Test hit miss) g b h apt fits k f r w =
            sa.by (Into Place' g.temps (length g.nodes)) (at_branch s p choice v hit miss g) b (omega (arith, h)) h fits k f
            (record {
              goes = λ new c w' q told.
                  ((sa.grows (Into Place' g.temps (length g.nodes)) (at_branch s p choice v hit miss g)).fits fits).0.by new w'
                  ∙ ap (λ x. (if is_true x then v hit new else v miss new) w') told
                  ∙ chosen s p choice v (is_true c) hit miss new w'
                  ∙ r.goes new c w' q tt;
            }) w

    -- The comma: the left value is dropped.
    pub serves_comma : (a b : Exp) (t : Ty) (pa pb : Part)
        → Serves s p choice v pa (λ want. eval a want tree) → Serves s p choice v pb (λ want. eval b want tree)
        → Serves s p choice v (comma pa pb) (λ want. eval (Comma a b t) want tree)
    serves_comma a b t pa pb sa sb = record { grows = grows; by = by }
      where
        grows_left : (aim : Aim) (g : Growing) → Grows s p choice v (fresh 1 (pb aim g).1).1 (comma pa pb aim g).1
        grows_left aim g = sa.grows (Into Value (pb aim g).1.temps (pb aim g).0) (fresh 1 (pb aim g).1).1

        grows : (aim : Aim) (g : Growing) → Grows s p choice v g (comma pa pb aim g).1
        grows aim g =
            grows_trans s p choice v (sb.grows aim g)
            (grows_trans s p choice v (grows_fresh s p choice v 1 (pb aim g).1) (grows_left aim g))

        by : (aim : Aim) (g : Growing) (b' : ℕ) → b' ≤ g.temps → Apt b' aim → Fits s p choice v (comma pa pb aim g).1.nodes
            → (k : Kept) (f : Cell → Run Cell) → Reaches s p choice v aim b' k f → (w : World)
            → v (comma pa pb aim g).0 k w ≡ (eval (Comma a b t) (want_of aim) tree >>= f) w
        by aim g b' h apt fits k f r w =
            sa.by (Into Value (pb aim g).1.temps (pb aim g).0) (fresh 1 (pb aim g).1).1 b'
            (omega (arith, h, (sb.grows aim g).temps)) (omega (arith, h, (sb.grows aim g).temps)) fits k
            (λ _. eval b (want_of aim) tree >>= f)
            (record {
              goes = λ new c w' q told.
                  sb.by aim g b' h apt ((grows_left aim g).fits fits) new f (reaches_on s p choice v q r) w';
            }) w
            ∙ sym (goes_assoc (eval a Value tree w) (λ _. eval b (want_of aim) tree) f)

    -- `? :`
    pub serves_conditional : (c a b : Exp) (t : Ty) (pc pa pb : Part)
        → Serves s p choice v pc (λ want. eval c want tree)
        → Serves s p choice v pa (λ want. eval a want tree) → Serves s p choice v pb (λ want. eval b want tree)
        → Serves s p choice v (conditional pc pa pb) (λ want. eval (Cond c a b t) want tree)
    serves_conditional c a b t pc pa pb sc sa sb = record { grows = grows; by = by }
      where
        grows_miss : (aim : Aim) (g : Growing) → Grows s p choice v (pa aim g).1 (pb aim (pa aim g).1).1
        grows_miss aim g = sb.grows aim (pa aim g).1

        grows_test : (aim : Aim) (g : Growing) → Grows s p choice v (pb aim (pa aim g).1).1 (conditional pc pa pb aim g).1
        grows_test aim g = sc.grows (Test (pa aim g).0 (pb aim (pa aim g).1).0) (pb aim (pa aim g).1).1

        grows : (aim : Aim) (g : Growing) → Grows s p choice v g (conditional pc pa pb aim g).1
        grows aim g = grows_trans s p choice v (sa.grows aim g) (grows_trans s p choice v (grows_miss aim g) (grows_test aim g))

        sided : (aim : Aim) (g : Growing) (b' : ℕ) → b' ≤ g.temps → Apt b' aim → Fits s p choice v (pb aim (pa aim g).1).1.nodes
            → (k : Kept) (f : Cell → Run Cell) → Reaches s p choice v aim b' k f → (yes' : Bool) (w : World)
            → v (if yes' then (pa aim g).0 else (pb aim (pa aim g).1).0) k w
            ≡ goes_on ((if yes' then eval a (want_of aim) tree else eval b (want_of aim) tree) w) f
        sided aim g b' h apt fits k f r true w = sa.by aim g b' h apt ((grows_miss aim g).fits fits) k f r w
        sided aim g b' h apt fits k f r false w = sb.by aim (pa aim g).1 b' (omega (arith, h, (sa.grows aim g).temps)) apt fits k f r w

        by : (aim : Aim) (g : Growing) (b' : ℕ) → b' ≤ g.temps → Apt b' aim → Fits s p choice v (conditional pc pa pb aim g).1.nodes
            → (k : Kept) (f : Cell → Run Cell) → Reaches s p choice v aim b' k f → (w : World)
            → v (conditional pc pa pb aim g).0 k w ≡ (eval (Cond c a b t) (want_of aim) tree >>= f) w
        by aim g b' h apt fits k f r w =
            sc.by (Test (pa aim g).0 (pb aim (pa aim g).1).0) (pb aim (pa aim g).1).1 b'
            (omega (arith, h, (sa.grows aim g).temps, (grows_miss aim g).temps)) tt fits k
            (λ x. (if is_true x then eval a (want_of aim) tree else eval b (want_of aim) tree) >>= f)
            (record {
              goes = λ new x w' q told. sided aim g b' h apt ((grows_test aim g).fits fits) new f
                  (reaches_on s p choice v q r) (is_true x) w';
            }) w
            ∙ sym (goes_assoc (eval c Value tree w) (λ x. if is_true x then eval a (want_of aim) tree else eval b (want_of aim) tree) f)
