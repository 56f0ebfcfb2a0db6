-- Conditions, dropped values and initialisers: what nodes between statements do.
use Rattle.std.proofs.Common.{◌≡◌, ℕ, suc, ◌+◌, ◌<◌, Bool, true, false, List, [], ◌∷◌, length, map, refl, sym, ap, subst, ◌∙◌, arith}
use Rattle.std.specs.Prelude.{Option, Some, None, if◌then◌else◌}
use Rattle.sc_base.specs.declared.pos.Pos.{Pos}
use Rattle.sc_typed.specs.declared.stmt.Declared.{Declared}
use Rattle.sc_typed.specs.declared.stmt.Declared.TheVariants as declared
use Rattle.run_store.specs.Concrete.{Cell}
use Rattle.sum_rows.specs.declared.report.What.{What}
use Rattle.sum_rows.specs.declared.report.What.TheVariants as what
use Rattle.sc_world.specs.Tree.{Exp, Temp, TempPlace, type_of, Given, Init, NoInit, One, Braces, Dec, Start, NoStart, Begin, Declare}
use Rattle.sc_world.specs.Source.{Source}
use Rattle.sc_world.specs.Layout.{Layout}
use Rattle.sc_world.specs.World.{World, Run, ◌>>=◌, goes_on, done, Env, is_true, event, store}
use Rattle.sc_world.specs.Eval.{Value, Place', eval, place_of, copy, cells_of, load_all}
use Rattle.sc_world.specs.Exec.{condition, condition_if, cells_given, all_given, clear, set_parts, initialise, declared_as, declarator, evaluate_if, begin}
use Rattle.sc_world.specs.Exec as exec
use Rattle.flow_graph.specs.Nodes.{KeepCells, Set, Fill, Mark, Kept, slot, keep_cells, reads, in_tree, local_at, filled}
use Rattle.flow_graph.specs.Growing.{Growing, Build, put, fresh, numbers}
use Rattle.flow_graph.specs.Expressions.{Aim, Into, Test, easy, is_scalar, unroll}
use Rattle.flow_graph.specs.Statements.{tested, test_or_true, dropped, dropped_if, set_to, cells_kept, all_kept, filled_by, initialised, declared_by, declarators, started}
use Rattle.flow_graph.proofs.Steps.{goes_ext, goes_cong, goes_assoc, choose_ext}
use Rattle.flow_graph.proofs.Kept.{at_same, below_same}
use Rattle.flow_graph.proofs.Easy.{easy_same}
use Rattle.flow_graph.proofs.Parts.{Fits, Grows, grows_refl, grows_trans, grows_put, grows_fresh}
use Rattle.flow_graph.proofs.Expressions.{does}

module _ (s : Source) (p : Layout) (choice : List Bool) (v : ℕ → Kept → Run Cell) (turn : ℕ) where
  abbrev tree : Env
  tree = in_tree s p choice turn

  -- where the walk goes on, whatever is kept
  abbrev pub GoesOn : ℕ → Run Cell → Type 0
  GoesOn at rest = (k : Kept) (w : World) → v at k w ≡ rest w

  -- a step that gives nothing, and then the rest
  pub record Then (m : (next : ℕ) → Build ℕ) (step : Run (Unit {0})) : Type 0 where
    pub grows : (next : ℕ) (g : Growing) → Grows s p choice v g (m next g).1
    pub by : (next : ℕ) (g : Growing) → Fits s p choice v (m next g).1.nodes → (rest : Run Cell) → GoesOn next rest
        → GoesOn (m next g).0 (step >>= λ _. rest)

  -- a test, and then one of two
  pub record Tests (m : (hit miss : ℕ) → Build ℕ) (test : Run Bool) : Type 0 where
    pub grows : (hit miss : ℕ) (g : Growing) → Grows s p choice v g (m hit miss g).1
    pub by : (hit miss : ℕ) (g : Growing) → Fits s p choice v (m hit miss g).1.nodes → (rest : Bool → Run Cell)
        → GoesOn hit (rest true) → GoesOn miss (rest false) → GoesOn (m hit miss g).0 (test >>= rest)

  chosen : (c : Bool) (hit miss : ℕ) (rest : Bool → Run Cell) → GoesOn hit (rest true) → GoesOn miss (rest false)
      → GoesOn (if c then hit else miss) (rest c)
  chosen true hit miss rest h m = h
  chosen false hit miss rest h m = m

  -- the marks behind a condition
  abbrev marks : Pos → (Bool → What) → (hit miss : ℕ) → Growing → Growing
  marks q x hit miss g = record g { nodes = Mark q (x false) miss ∷ Mark q (x true) hit ∷ g.nodes }

  grows_marks : (q : Pos) (x : Bool → What) (hit miss : ℕ) (g : Growing) → Grows s p choice v g (marks q x hit miss g)
  grows_marks q x hit miss g = record { fits = λ z. z.1.1; temps = omega arith; slots = omega arith }

  abbrev with_event : Pos → (Bool → What) → (Bool → Run Cell) → Bool → Run Cell
  with_event q x rest c = event q (x c) >>= λ _. rest c

  pub tests : (e : Exp) (q : Pos) (x : Bool → What) → Tests (tested (unroll e turn) q x) (condition q x e tree)
  tests e q x = record {
    grows = λ hit miss g. grows_trans s p choice v (grows_marks q x hit miss g) (grows_last hit miss g);
    by = λ hit miss g fits rest h m k w.
        (does s p choice v turn e).by (aim g) (marks q x hit miss g) 0 (omega arith) tt fits k
        (λ c. with_event q x rest (is_true c))
        (record {
          goes = λ new c w' a told.
              chosen (is_true c) (length g.nodes) (suc (length g.nodes)) (with_event q x rest)
              (λ k' u. ((grows_last hit miss g).fits fits).1.0.by k' u ∙ goes_ext (event q (x true) u) (λ _. v hit k')
              (λ _. rest true) (λ y u'. h k' u'))
              (λ k' u. ((grows_last hit miss g).fits fits).0.by k' u ∙ goes_ext (event q (x false) u) (λ _. v miss k')
              (λ _. rest false) (λ y u'. m k' u'))
              new w';
        }) w
        ∙ sym (goes_assoc (eval e Value tree w) (λ c. event q (x (is_true c)) >>= λ _. done (is_true c)) rest);
  }
    where
      aim : Growing → Aim
      aim g = Test (length g.nodes) (suc (length g.nodes))

      grows_last : (hit miss : ℕ) (g : Growing) → Grows s p choice v (marks q x hit miss g) (tested (unroll e turn) q x hit miss g).1
      grows_last hit miss g = (does s p choice v turn e).grows (aim g) (marks q x hit miss g)

  pub tests_if : (c : Option Exp) (q : Pos) → Tests (test_or_true c turn q) (condition_if q c tree)
  tests_if (Some e) q = tests e q what.Loop
  tests_if None q = record {
    grows = λ hit miss g. grows_put s p choice v (Mark q (what.Loop true) hit) g;
    by = λ hit miss g fits rest h m k w. fits.0.by k w ∙ goes_ext (event q (what.Loop true) w) (λ _. v hit k)
        (λ _. rest true) (λ y u. h k u);
  }

  -- dropped values
  pub drops : (e : Exp) → Then (dropped (unroll e turn)) (eval e Value tree >>= λ x. done tt)
  drops e = record {
    grows = λ next g. grows_trans s p choice v (grows_fresh s p choice v 1 g)
        ((does s p choice v turn e).grows (Into Value g.temps next) (fresh 1 g).1);
    by = λ next g fits rest goes k w.
        (does s p choice v turn e).by (Into Value g.temps next) (fresh 1 g).1 0 (omega arith) (omega arith) fits k (λ _. rest)
        (record { goes = λ new c w' a told. goes new w' }) w
        ∙ sym (goes_assoc (eval e Value tree w) (λ x. done tt) (λ _. rest));
  }

  pub drops_if : (e : Option Exp) → Then (dropped_if e turn) (evaluate_if e tree)
  drops_if None = record { grows = λ next g. grows_refl s p choice v g; by = λ next g fits rest goes k w. goes k w }
  drops_if (Some e) = drops e

  -- a local set to one value
  initial_same : (n : ℕ) (e : Exp) → easy e ≡ true → (k : Kept) (w : World)
      → initialise (local_at s p choice n) (One e) (reads s p choice k) w ≡ initialise (local_at s p choice n) (One e) tree w
  initial_same n e h k w =
      choose_ext (is_scalar (type_of e))
      (eval e Value (reads s p choice k) >>= λ x. store (local_at s p choice n) x)
      (eval e Value tree >>= λ x. store (local_at s p choice n) x)
      (eval e Place' (reads s p choice k) >>= λ x. copy (reads s p choice k) (place_of x) (local_at s p choice n))
      (eval e Place' tree >>= λ x. copy tree (place_of x) (local_at s p choice n)) w
      (goes_cong _ _ (λ x. store (local_at s p choice n) x) (λ x. store (local_at s p choice n) x)
      (easy_same s p choice e h Value k turn w) (λ x u. refl))
      (goes_cong _ _ (λ x. copy (reads s p choice k) (place_of x) (local_at s p choice n))
      (λ x. copy tree (place_of x) (local_at s p choice n))
      (easy_same s p choice e h Place' k turn w) (λ x u. refl))

  abbrev hard_at : Bool → (n : ℕ) → Exp → (x next : ℕ) → Build ℕ
  hard_at c n e x next =
      if c
      then (λ g. unroll e turn (Into Value x (length g.nodes)) (put (Set n (Temp x (type_of e)) next) g).1)
      else (λ g. unroll e turn (Into Place' x (length g.nodes)) (put (Set n (TempPlace x (type_of e)) next) g).1)

  abbrev hard_set : Bool → (n : ℕ) → Exp → (next : ℕ) → Build ℕ
  hard_set c n e next g = hard_at c n e g.temps next (fresh 1 g).1

  abbrev hard_initial : Bool → (n : ℕ) → Exp → Run (Unit {0})
  hard_initial c n e =
      if c
      then (eval e Value tree >>= λ x. store (local_at s p choice n) x)
      else (eval e Place' tree >>= λ x. copy tree (place_of x) (local_at s p choice n))

  hard_sets : (c : Bool) (n : ℕ) (e : Exp) → is_scalar (type_of e) ≡ c → Then (hard_set c n e) (hard_initial c n e)
  hard_sets true n e h = record {
    grows = λ next g. grows_trans s p choice v (grows_node next g) (grows_value next g);
    by = λ next g fits rest goes k w.
        (does s p choice v turn e).by (Into Value g.temps (length g.nodes))
        (put (Set n (Temp g.temps (type_of e)) next) (fresh 1 g).1).1 0 (omega arith) (omega arith) fits k
        (λ c. store (local_at s p choice n) c >>= λ _. rest)
        (record {
          goes = λ new c w' a told.
              ((grows_value next g).fits fits).0.by new w'
              ∙ rw h (ap (λ d. goes_on (store (local_at s p choice n) d w') (λ _. v next new)) told)
              ∙ goes_ext (store (local_at s p choice n) c w') (λ _. v next new) (λ _. rest) (λ y u. goes new u);
        }) w
        ∙ sym (goes_assoc (eval e Value tree w) (λ x. store (local_at s p choice n) x) (λ _. rest));
  }
    where
      grows_node : (next : ℕ) (g : Growing) → Grows s p choice v g (put (Set n (Temp g.temps (type_of e)) next) (fresh 1 g).1).1
      grows_node next g = record { fits = λ z. z.1; temps = omega arith; slots = omega arith }

      grows_value : (next : ℕ) (g : Growing) → Grows s p choice v
          (put (Set n (Temp g.temps (type_of e)) next) (fresh 1 g).1).1 (hard_set true n e next g).1
      grows_value next g =
          (does s p choice v turn e).grows (Into Value g.temps (length g.nodes))
          (put (Set n (Temp g.temps (type_of e)) next) (fresh 1 g).1).1
  hard_sets false n e h = record {
    grows = λ next g. grows_trans s p choice v (grows_node next g) (grows_value next g);
    by = λ next g fits rest goes k w.
        (does s p choice v turn e).by (Into Place' g.temps (length g.nodes))
        (put (Set n (TempPlace g.temps (type_of e)) next) (fresh 1 g).1).1 0 (omega arith) (omega arith) fits k
        (λ c. copy tree (place_of c) (local_at s p choice n) >>= λ _. rest)
        (record {
          goes = λ new c w' a told.
              ((grows_value next g).fits fits).0.by new w'
              ∙ rw h (ap (λ d. goes_on (copy tree (place_of d) (local_at s p choice n) w') (λ _. v next new)) told)
              ∙ goes_ext (copy tree (place_of c) (local_at s p choice n) w') (λ _. v next new) (λ _. rest) (λ y u. goes new u);
        }) w
        ∙ sym (goes_assoc (eval e Place' tree w) (λ x. copy tree (place_of x) (local_at s p choice n)) (λ _. rest));
  }
    where
      grows_node : (next : ℕ) (g : Growing) → Grows s p choice v g (put (Set n (TempPlace g.temps (type_of e)) next) (fresh 1 g).1).1
      grows_node next g = record { fits = λ z. z.1; temps = omega arith; slots = omega arith }

      grows_value : (next : ℕ) (g : Growing) → Grows s p choice v
          (put (Set n (TempPlace g.temps (type_of e)) next) (fresh 1 g).1).1 (hard_set false n e next g).1
      grows_value next g =
          (does s p choice v turn e).grows (Into Place' g.temps (length g.nodes))
          (put (Set n (TempPlace g.temps (type_of e)) next) (fresh 1 g).1).1

  set_part : (c : Bool) (n : ℕ) (e : Exp) → is_scalar (type_of e) ≡ c → Then (hard_set (is_scalar (type_of e)) n e)
      (initialise (local_at s p choice n) (One e) tree)
  set_part c n e h = subst (λ c. Then (λ next g. hard_set c n e next g) (hard_initial c n e)) (sym h) (hard_sets c n e h)

  easy_set : (n : ℕ) (e : Exp) → easy e ≡ true → Then (λ next. put (Set n e next)) (initialise (local_at s p choice n) (One e) tree)
  easy_set n e h = record {
    grows = λ next g. grows_put s p choice v (Set n e next) g;
    by = λ next g fits rest goes k w.
        fits.0.by k w
        ∙ goes_cong _ _ (λ _. v next k) (λ _. rest) (initial_same n e h k w) (λ y u. goes k u);
  }

  set_by : (c : Bool) (n : ℕ) (e : Exp) → easy e ≡ c → Then (set_to n e (unroll e turn)) (initialise (local_at s p choice n) (One e) tree)
  set_by true n e h =
      subst (λ c. Then (λ next. if c then put (Set n e next) else hard_set (is_scalar (type_of e)) n e next)
      (initialise (local_at s p choice n) (One e) tree)) (sym h) (easy_set n e h)
  set_by false n e h =
      subst (λ c. Then (λ next. if c then put (Set n e next) else hard_set (is_scalar (type_of e)) n e next)
      (initialise (local_at s p choice n) (One e) tree)) (sym h)
      (set_part (is_scalar (type_of e)) n e refl)

  -- The cells of a value.
  pub record KeepsCells (m : (n next : ℕ) → Build ℕ) (cells : Run (List Cell)) : Type 0 where
    pub grows : (n next : ℕ) (g : Growing) → Grows s p choice v g (m n next g).1
    pub by : (n next : ℕ) (g : Growing) → Fits s p choice v (m n next g).1.nodes → (k : Kept) (f : List Cell → Run Cell)
        → ((new : Kept) (cs : List Cell) (w : World) → new.slots ≡ (keep_cells n cs k).slots → v next new w ≡ f cs w)
        → (w : World) → v (m n next g).0 k w ≡ (cells >>= f) w

  cells_same : (e : Exp) → easy e ≡ true → (k : Kept) (w : World) → cells_given e (reads s p choice k) w ≡ cells_given e tree w
  cells_same e h k w =
      choose_ext (is_scalar (type_of e))
      (eval e Value (reads s p choice k) >>= λ x. done (x ∷ [])) (eval e Value tree >>= λ x. done (x ∷ []))
      (eval e Place' (reads s p choice k) >>= λ x. load_all (cells_of p (place_of x)))
      (eval e Place' tree >>= λ x. load_all (cells_of p (place_of x))) w
      (goes_cong _ _ (λ x. done (x ∷ [])) (λ x. done (x ∷ [])) (easy_same s p choice e h Value k turn w) (λ x u. refl))
      (goes_cong _ _ (λ x. load_all (cells_of p (place_of x))) (λ x. load_all (cells_of p (place_of x)))
      (easy_same s p choice e h Place' k turn w) (λ x u. refl))

  easy_cells : (e : Exp) → easy e ≡ true → KeepsCells (λ n next. put (KeepCells n e next)) (cells_given e tree)
  easy_cells e h = record {
    grows = λ n next g. grows_put s p choice v (KeepCells n e next) g;
    by = λ n next g fits k f goes w.
        fits.0.by k w ∙ goes_cong _ _ (λ cs. v next (keep_cells n cs k)) f (cells_same e h k w)
        (λ cs u. goes (keep_cells n cs k) cs u refl);
  }

  abbrev cells_at : Bool → Exp → (n x next : ℕ) → Build ℕ
  cells_at c e n x next =
      if c
      then (λ g. unroll e turn (Into Value x (length g.nodes)) (put (KeepCells n (Temp x (type_of e)) next) g).1)
      else (λ g. unroll e turn (Into Place' x (length g.nodes)) (put (KeepCells n (TempPlace x (type_of e)) next) g).1)

  abbrev hard_cells : Bool → Exp → (n next : ℕ) → Build ℕ
  hard_cells c e n next g = cells_at c e n g.temps next (fresh 1 g).1

  abbrev cells_of_hard : Bool → Exp → Run (List Cell)
  cells_of_hard c e =
      if c
      then (eval e Value tree >>= λ x. done (x ∷ []))
      else (eval e Place' tree >>= λ x. load_all (cells_of p (place_of x)))

  hard_keeps : (c : Bool) (e : Exp) → is_scalar (type_of e) ≡ c → KeepsCells (hard_cells c e) (cells_of_hard c e)
  hard_keeps true e h = record {
    grows = λ n next g. grows_trans s p choice v (grows_node n next g) (grows_value n next g);
    by = λ n next g fits k f goes w.
        (does s p choice v turn e).by (Into Value g.temps (length g.nodes))
        (put (KeepCells n (Temp g.temps (type_of e)) next) (fresh 1 g).1).1 0 (omega arith) (omega arith) fits k
        (λ c. f (c ∷ []))
        (record {
          goes = λ new c w' a told.
              ((grows_value n next g).fits fits).0.by new w'
              ∙ rw h (ap (λ d. v next (keep_cells n (d ∷ []) new) w') told)
              ∙ goes (keep_cells n (c ∷ []) new) (c ∷ []) w'
              (ap (λ xs. (keep_cells n (c ∷ []) (record { temps = k.temps; slots = xs })).slots) a.slots);
        }) w
        ∙ sym (goes_assoc (eval e Value tree w) (λ x. done (x ∷ [])) f);
  }
    where
      grows_node : (n next : ℕ) (g : Growing) → Grows s p choice v g (put (KeepCells n (Temp g.temps (type_of e)) next) (fresh 1 g).1).1
      grows_node n next g = record { fits = λ z. z.1; temps = omega arith; slots = omega arith }

      grows_value : (n next : ℕ) (g : Growing) → Grows s p choice v
          (put (KeepCells n (Temp g.temps (type_of e)) next) (fresh 1 g).1).1 (hard_cells true e n next g).1
      grows_value n next g =
          (does s p choice v turn e).grows (Into Value g.temps (length g.nodes))
          (put (KeepCells n (Temp g.temps (type_of e)) next) (fresh 1 g).1).1
  hard_keeps false e h = record {
    grows = λ n next g. grows_trans s p choice v (grows_node n next g) (grows_value n next g);
    by = λ n next g fits k f goes w.
        (does s p choice v turn e).by (Into Place' g.temps (length g.nodes))
        (put (KeepCells n (TempPlace g.temps (type_of e)) next) (fresh 1 g).1).1 0 (omega arith)
        (omega arith) fits k
        (λ c. load_all (cells_of p (place_of c)) >>= f)
        (record {
          goes = λ new c w' a told.
              ((grows_value n next g).fits fits).0.by new w'
              ∙ rw h (ap (λ d. goes_on (load_all (cells_of p (place_of d)) w') (λ cs. v next (keep_cells n cs new))) told)
              ∙ goes_ext (load_all (cells_of p (place_of c)) w') (λ cs. v next (keep_cells n cs new)) f
              (λ cs u. goes (keep_cells n cs new) cs u
              (ap (λ xs. (keep_cells n cs (record { temps = k.temps; slots = xs })).slots) a.slots));
        }) w
        ∙ sym (goes_assoc (eval e Place' tree w) (λ x. load_all (cells_of p (place_of x))) f);
  }
    where
      grows_node : (n next : ℕ) (g : Growing) → Grows s p choice v g
          (put (KeepCells n (TempPlace g.temps (type_of e)) next) (fresh 1 g).1).1
      grows_node n next g = record { fits = λ z. z.1; temps = omega arith; slots = omega arith }

      grows_value : (n next : ℕ) (g : Growing) → Grows s p choice v
          (put (KeepCells n (TempPlace g.temps (type_of e)) next) (fresh 1 g).1).1 (hard_cells false e n next g).1
      grows_value n next g =
          (does s p choice v turn e).grows (Into Place' g.temps (length g.nodes))
          (put (KeepCells n (TempPlace g.temps (type_of e)) next) (fresh 1 g).1).1

  cells_part : (c : Bool) (e : Exp) → is_scalar (type_of e) ≡ c → KeepsCells (hard_cells (is_scalar (type_of e)) e) (cells_given e tree)
  cells_part c e h = subst (λ c. KeepsCells (hard_cells c e) (cells_of_hard c e)) (sym h) (hard_keeps c e h)

  cells_by : (c : Bool) (e : Exp) → easy e ≡ c → KeepsCells (λ n next. cells_kept n e (unroll e turn) next) (cells_given e tree)
  cells_by true e h =
      subst (λ c. KeepsCells
      (λ n next. if c then put (KeepCells n e next) else hard_cells (is_scalar (type_of e)) e n next)
      (cells_given e tree)) (sym h) (easy_cells e h)
  cells_by false e h =
      subst (λ c. KeepsCells
      (λ n next. if c then put (KeepCells n e next) else hard_cells (is_scalar (type_of e)) e n next)
      (cells_given e tree)) (sym h)
      (cells_part (is_scalar (type_of e)) e refl)

  -- All values in braces.
  record KeepsAll (xs : List Given) : Type 0 where
    grows : (n next : ℕ) (g : Growing) → Grows s p choice v g (all_kept xs turn n next g).1
    by : (n next : ℕ) (g : Growing) → Fits s p choice v (all_kept xs turn n next g).1.nodes → (k : Kept) (f : List (List Cell) → Run Cell)
        → ((new : Kept) (css : List (List Cell)) (w : World) → ((j : ℕ) → j < n → slot new j ≡ slot k j)
        → map (slot new) (numbers n (length xs)) ≡ css → v next new w ≡ f css w)
        → (w : World) → v (all_kept xs turn n next g).0 k w ≡ (all_given xs tree >>= f) w

  keeps_all : (xs : List Given) → KeepsAll xs
  keeps_all [] = record {
    grows = λ n next g. grows_refl s p choice v g;
    by = λ n next g fits k f goes w. goes k [] w (λ j h. refl) refl;
  }
  keeps_all (x ∷ xs) = record {
    grows = λ n next g. grows_trans s p choice v ((keeps_all xs).grows (n + 1) next g) (grows_first n next g);
    by = λ n next g fits k f goes w.
        one.by n (rest n next g).0 (rest n next g).1 fits k (λ cs. (all_given xs tree >>= λ css. done (cs ∷ css)) >>= f)
        (λ new cs w' same.
        (keeps_all xs).by (n + 1) next g ((grows_first n next g).fits fits) new (λ css. f (cs ∷ css))
        (λ new' css w'' below are.
        goes new' (cs ∷ css) w''
        (λ j h. below j (omega (arith, h)) ∙ ap (λ xs. slot (record { temps = []; slots = xs }) j) same ∙ below_same [] n cs k.slots j h)
        (ap (λ d. d ∷ map (slot new') (numbers (n + 1) (length xs)))
        (below n (omega arith) ∙ ap (λ xs. slot (record { temps = []; slots = xs }) n) same ∙ at_same [] n cs k.slots)
        ∙ ap (λ ds. cs ∷ ds) are)) w'
        ∙ sym (goes_assoc (all_given xs tree w') (λ css. done (cs ∷ css)) f)) w
        ∙ sym (goes_assoc (cells_given x.value tree w) (λ cs. all_given xs tree >>= λ css. done (cs ∷ css)) f);
  }
    where
      one : KeepsCells (λ n next. cells_kept n x.value (unroll x.value turn) next) (cells_given x.value tree)
      one = cells_by (easy x.value) x.value refl

      rest : (n next : ℕ) (g : Growing) → ℕ × Growing
      rest n next g = all_kept xs turn (n + 1) next g

      grows_first : (n next : ℕ) (g : Growing) → Grows s p choice v (rest n next g).1 (all_kept (x ∷ xs) turn n next g).1
      grows_first n next g = one.grows n (rest n next g).0 (rest n next g).1

  -- Initialisers and declarators.
  abbrev behind_fill : (n : ℕ) → List Given → (next : ℕ) → Growing → Growing
  behind_fill n xs next g =
      record { nodes = Fill n xs (numbers g.slots (length xs)) next ∷ g.nodes; temps = g.temps; slots = g.slots + length xs }

  fills : (n : ℕ) (xs : List Given) → Then (filled_by n xs turn) (initialise (local_at s p choice n) (Braces xs) tree)
  fills n xs = record {
    grows = λ next g. grows_trans s p choice v (grows_node next g) (grows_values next g);
    by = λ next g fits rest goes k w.
        (keeps_all xs).by g.slots (length g.nodes) (behind_fill n xs next g) fits k (λ css. filled s p choice n xs css >>= λ _. rest)
        (λ new css w' below are.
        ((grows_values next g).fits fits).0.by new w'
        ∙ goes_cong _ _ (λ _. v next new) (λ _. rest) (ap (λ ds. filled s p choice n xs ds w') are) (λ y u. goes new u)) w
        ∙ sym (goes_assoc (all_given xs tree w) (λ css. filled s p choice n xs css) (λ _. rest));
  }
    where
      grows_node : (next : ℕ) (g : Growing) → Grows s p choice v g (behind_fill n xs next g)
      grows_node next g = record { fits = λ z. z.1; temps = omega arith; slots = omega arith }

      grows_values : (next : ℕ) (g : Growing) → Grows s p choice v (behind_fill n xs next g) (filled_by n xs turn next g).1
      grows_values next g = (keeps_all xs).grows g.slots (length g.nodes) (behind_fill n xs next g)

  skips : Then (λ next g. (next, g)) (done tt)
  skips = record { grows = λ next g. grows_refl s p choice v g; by = λ next g fits rest goes k w. goes k w }

  initialises : (n : ℕ) (x : Init) → Then (initialised n x turn) (initialise (local_at s p choice n) x tree)
  initialises n NoInit = skips
  initialises n (One e) = set_by (easy e) n e refl
  initialises n (Braces xs) = fills n xs

  declares : (d : Declared) (x : Init) → Then (declared_by d x turn) (declared_as d x tree)
  declares (declared.Local n) x = initialises n x
  declares (declared.Global n) x = skips
  declares declared.Function x = skips

  -- one step and then another, made from the end
  both : (first second : (next : ℕ) → Build ℕ) (m n : Run (Unit {0})) → Then first m → Then second n
      → Then (λ next g. first (second next g).0 (second next g).1) (m >>= λ _. n)
  both first second m n a b = record {
    grows = λ next g. grows_trans s p choice v (b.grows next g) (a.grows (second next g).0 (second next g).1);
    by = λ next g fits rest goes k w.
        a.by (second next g).0 (second next g).1 fits (n >>= λ _. rest)
        (b.by next g ((a.grows (second next g).0 (second next g).1).fits fits) rest goes) k w
        ∙ sym (goes_assoc (m w) (λ _. n) (λ _. rest));
  }

  pub declares_all : (ds : List Dec) → Then (declarators ds turn) (exec.declarators ds tree)
  declares_all [] = skips
  declares_all (d ∷ ds) =
      both (declared_by d.declared d.init turn) (declarators ds turn) (declarator d tree) (exec.declarators ds tree)
      (declares d.declared d.init) (declares_all ds)

  pub starts : (f : Start) → Then (started f turn) (begin f tree)
  starts NoStart = skips
  starts (Begin e) = drops e
  starts (Declare ds) = declares_all ds
