-- What is read was kept, and nodes are fine: of statements.
use Rattle.std.proofs.Common.{◌≡◌, ℕ, zero, suc, ◌+◌, ◌≤◌, ◌<◌, Bool, true, false, not, ◌&&◌, ◌||◌, List, [], ◌∷◌, map, length, refl, sym, ap, subst, ◌∙◌, arith}
use Rattle.std.specs.Prelude.{Option, Some, None, if◌then◌else◌}
use Rattle.sc_base.specs.declared.pos.Pos.{Pos}
use Rattle.sc_base.specs.declared.pos.NameId.{NameId}
use Rattle.sc_typed.specs.declared.stmt.Declared.{Declared}
use Rattle.sc_typed.specs.declared.stmt.Declared.TheVariants as declared
use Rattle.sum_rows.specs.declared.report.What.{What}
use Rattle.sum_rows.specs.declared.report.What.TheVariants as what
use Rattle.sc_world.specs.declared.run.Reason.TheVariants as reason
use Rattle.sc_world.specs.Tree.{Exp, Temp, TempPlace, type_of, Given, Init, NoInit, One, Braces, Dec, Start, NoStart, Begin, Declare, Stm, Block, Decl, Evaluate, If, IfElse, While, Do, For, Switch, Case, Default, Goto, Break, Continue, Return, Label, Stms, NoStms, Stms'}
use Rattle.sc_world.specs.Exec.{has_label, is_default}
use Rattle.sc_world.specs.Eval.{Want, Value, Place'}
use Rattle.flow_graph.specs.Nodes.{Node, KeepCells, Set, Fill, Choose, Mark, MarkSwitch, Exit, SetAside}
use Rattle.flow_graph.specs.Growing.{Growing, Build, ◌>>=◌, pure, put, fresh, fresh_slots, numbers}
use Rattle.flow_graph.specs.Expressions.{Aim, Into, Test, Part, easy, is_scalar, unroll}
use Rattle.flow_graph.specs.Statements.{Targets, look, Piece, tested, test_or_true, dropped, dropped_if, set_to, cells_kept, all_kept, filled_by, initialised, declared_by, declarators, started, in_loop, last_turn, while_turn, while_turns, do_turn, do_turns, with_step, turn_of, Chosen, Opened, cases_of, default_of, item, node_or, chain, switched, returning, unroll_stm, unroll_stms}
use Rattle.flow_graph.specs.Conditions.{Held, InTemp, InSlot, same, among, temps_of, AreIn, is_plain, IsFine, AllFine, kept_at}
use Rattle.flow_graph.proofs.Blocks.{look_labels, default_node}
use Rattle.flow_graph.proofs.Sound as sound
use Rattle.flow_graph.proofs.Sound.{either, calm, both, none_one, kept_on, rest_of, easy_reads, easy_plain}

module _ (m : Held) (v : ℕ → Bool) (all_temps all_slots : ℕ) where
  abbrev Whole : Growing → Type 0
  Whole = sound.Whole m v all_temps all_slots

  abbrev Grows : Growing → Growing → Type 0
  Grows = sound.Grows m v all_temps all_slots

  abbrev Sound : Part → Type 0
  Sound = sound.Sound m v all_temps all_slots

  abbrev ThenSound : ((next : ℕ) → Build ℕ) → Type 0
  ThenSound = sound.ThenSound m v all_temps all_slots

  abbrev Fine : List Node → Type 0
  Fine = AllFine all_temps all_slots

  trans : {f g h : Growing} → Grows f g → Grows g h → Grows f h
  trans x y = record { less = λ w. x.less (y.less w) }

  behind : (n : Node) (g : Growing) → Grows g (put n g).1
  behind = sound.grows_put m v all_temps all_slots

  stays : (g : Growing) → Grows g g
  stays g = record { less = λ w. w }

  parts : (e : Exp) (turn : ℕ) → Sound (unroll e turn)
  parts = sound.expression_sound m v all_temps all_slots

  -- a condition
  pub record TestSound (p : (hit miss : ℕ) → Build ℕ) : Type 0 where
    pub grows : (hit miss : ℕ) (g : Growing) → Grows g (p hit miss g).1
    pub free : (hit miss : ℕ) (g : Growing) → Whole (p hit miss g).1 → v hit ≡ true → v miss ≡ true → v (p hit miss g).0 ≡ true
    pub fine : (hit miss : ℕ) (g : Growing) → Whole (p hit miss g).1 → Fine g.nodes → Fine (p hit miss g).1.nodes

  tests_sound : (e : Exp) (turn : ℕ) (q : Pos) (x : Bool → What) → TestSound (tested (unroll e turn) q x)
  tests_sound e turn q x = record {
    grows = λ hit miss g.
        trans (behind (Mark q (x true) hit) g)
        (trans (behind (Mark q (x false) miss) (put (Mark q (x true) hit) g).1) ((parts e turn).grows (to g) (marks hit miss g)));
    free = λ hit miss g w h i.
        let made : Whole (marks hit miss g) = ((parts e turn).grows (to g) (marks hit miss g)).less w in
        (parts e turn).free (to g) (marks hit miss g) w (made.fits.1.0.by ∙ h, made.fits.0.by ∙ i);
    fine = λ hit miss g w f.
        (parts e turn).fine (to g) (marks hit miss g) w tt
        (record { reads = tt; keeps = tt; plain = refl }, (record { reads = tt; keeps = tt; plain = refl }, f));
  }
    where
      marks : (hit miss : ℕ) → Growing → Growing
      marks hit miss g = record g { nodes = Mark q (x false) miss ∷ Mark q (x true) hit ∷ g.nodes }

      to : Growing → Aim
      to g = Test (length g.nodes) (suc (length g.nodes))

  test_if_sound : (c : Option Exp) (turn : ℕ) (q : Pos) → TestSound (test_or_true c turn q)
  test_if_sound None turn q = record {
    grows = λ hit miss g. behind (Mark q (what.Loop true) hit) g;
    free = λ hit miss g w h i. w.fits.0.by ∙ h;
    fine = λ hit miss g w f. (record { reads = tt; keeps = tt; plain = refl }, f);
  }
  test_if_sound (Some e) turn q = tests_sound e turn q what.Loop

  -- what is evaluated for its effects alone
  drop_sound : (e : Exp) (turn : ℕ) → ThenSound (dropped (unroll e turn))
  drop_sound e turn = sound.dropped_sound m v all_temps all_slots (unroll e turn) (parts e turn)

  itself : ThenSound (λ next. pure next)
  itself = sound.itself_sound m v all_temps all_slots

  drop_if_sound : (e : Option Exp) (turn : ℕ) → ThenSound (dropped_if e turn)
  drop_if_sound None turn = itself
  drop_if_sound (Some e) turn = drop_sound e turn

  -- one step in front of another
  in_front : (first second : (next : ℕ) → Build ℕ) → ThenSound first → ThenSound second → ThenSound (λ next. second next >>= first)
  in_front first second a b = record {
    grows = λ next g. trans (b.grows next g) (a.grows (second next g).0 (second next g).1);
    free = λ next g w h.
        a.free (second next g).0 (second next g).1 w
        (b.free next g ((a.grows (second next g).0 (second next g).1).less w) h);
    fine = λ next g w f.
        a.fine (second next g).0 (second next g).1 w
        (b.fine next g ((a.grows (second next g).0 (second next g).1).less w) f);
  }

  -- a node that reads a kept value, and the value: from a graph with one temp more
  read_sound : (n : (x next : ℕ) → Node) (p : Part) (q : Want)
      → ((x next at : ℕ) → sound.Acts m v all_temps all_slots at (n x next) → same m (InTemp x) ≡ false → v next ≡ true → v at ≡ true)
      → ((x next : ℕ) → x < all_temps → IsFine all_temps all_slots (n x next)) → Sound p
      → ThenSound (λ next g. p (Into q g.temps (length g.nodes)) (put (n g.temps next) (fresh 1 g).1).1)
  read_sound n p q by fine o = record {
    grows = λ next g. trans (sound.grows_fresh m v all_temps all_slots 1 g) (trans (behind (n g.temps next) (fresh 1 g).1) (o.grows (to g) (made next g)));
    free = λ next g w h.
        o.free (to g) (made next g) w
        (either (same m (InTemp g.temps)) (v (length g.nodes))
        (λ i. by g.temps next (length g.nodes) ((o.grows (to g) (made next g)).less w).fits.0 i h));
    fine = λ next g w f.
        let low : g.temps < all_temps = omega (arith, ((o.grows (to g) (made next g)).less w).temps) in
        o.fine (to g) (made next g) w low (fine g.temps next low, f);
  }
    where
      to : Growing → Aim
      to g = Into q g.temps (length g.nodes)

      made : (next : ℕ) → Growing → Growing
      made next g = (put (n g.temps next) (fresh 1 g).1).1

  -- Initialisers.
  set_by : (n : ℕ) (e : Exp) (xs : List ℕ) (next at : ℕ) → temps_of e ≡ xs → sound.Acts m v all_temps all_slots at (Set n e next)
      → among m (map InTemp xs) ≡ false → v next ≡ true → v at ≡ true
  set_by n e xs next at is a r h =
      a.by ∙ calm (among m (map InTemp (temps_of e))) (v next) (ap (λ ys. among m (map InTemp ys)) is ∙ r) h

  set_fine : (n : ℕ) (e : Exp) (xs : List ℕ) (next : ℕ) → temps_of e ≡ xs → is_plain e ≡ true
      → AreIn all_temps all_slots (map InTemp xs) → IsFine all_temps all_slots (Set n e next)
  set_fine n e xs next is plain r =
      record { reads = subst (λ ys. AreIn all_temps all_slots (map InTemp ys)) (sym is) r; keeps = tt; plain = plain }

  set_hard : (c : Bool) (n : ℕ) (e : Exp) (p : Part) → Sound p
      → ThenSound (λ next g. (if c then (put (Set n (Temp g.temps (type_of e)) next) >>= λ at. p (Into Value g.temps at)) else
      (put (Set n (TempPlace g.temps (type_of e)) next) >>= λ at. p (Into Place' g.temps at))) (fresh 1 g).1)
  set_hard true n e p o =
      read_sound (λ x next. Set n (Temp x (type_of e)) next) p Value
      (λ x next at a i h. set_by n (Temp x (type_of e)) (x ∷ []) next at refl a (none_one (same m (InTemp x)) i) h)
      (λ x next h. set_fine n (Temp x (type_of e)) (x ∷ []) next refl refl (h, tt)) o
  set_hard false n e p o =
      read_sound (λ x next. Set n (TempPlace x (type_of e)) next) p Place'
      (λ x next at a i h. set_by n (TempPlace x (type_of e)) (x ∷ []) next at refl a (none_one (same m (InTemp x)) i) h)
      (λ x next h. set_fine n (TempPlace x (type_of e)) (x ∷ []) next refl refl (h, tt)) o

  set_sound : (c : Bool) (n : ℕ) (e : Exp) (p : Part) → easy e ≡ c → Sound p
      → ThenSound (λ next. if c then put (Set n e next) else
      (fresh 1 >>= λ x. if is_scalar (type_of e) then (put (Set n (Temp x (type_of e)) next) >>= λ at. p (Into Value x at)) else
      (put (Set n (TempPlace x (type_of e)) next) >>= λ at. p (Into Place' x at))))
  set_sound true n e p is o = record {
    grows = λ next g. behind (Set n e next) g;
    free = λ next g w h. set_by n e [] next (length g.nodes) (easy_reads e is) w.fits.0 refl h;
    fine = λ next g w f. (set_fine n e [] next (easy_reads e is) (easy_plain e is) tt, f);
  }
  set_sound false n e p is o = set_hard (is_scalar (type_of e)) n e p o

  -- cells of a value that a slot keeps
  pub record SlotSound (n : ℕ) (p : (next : ℕ) → Build ℕ) : Type 0 where
    pub grows : (next : ℕ) (g : Growing) → Grows g (p next g).1
    pub free : (next : ℕ) (g : Growing) → Whole (p next g).1 → (same m (InSlot n) || v next) ≡ true → v (p next g).0 ≡ true
    pub fine : (next : ℕ) (g : Growing) → Whole (p next g).1 → n < all_slots → Fine g.nodes → Fine (p next g).1.nodes

  cells_by : (n : ℕ) (e : Exp) (xs : List ℕ) (next at : ℕ) → temps_of e ≡ xs → sound.Acts m v all_temps all_slots at (KeepCells n e next)
      → among m (map InTemp xs) ≡ false → (same m (InSlot n) || v next) ≡ true → v at ≡ true
  cells_by n e xs next at is a r h =
      a.by
      ∙ calm (among m (map InTemp (temps_of e))) ((same m (InSlot n) || false) || v next)
      (ap (λ ys. among m (map InTemp ys)) is ∙ r) (kept_on (same m (InSlot n)) (v next) h)

  cells_fine : (n : ℕ) (e : Exp) (xs : List ℕ) (next : ℕ) → temps_of e ≡ xs → is_plain e ≡ true
      → AreIn all_temps all_slots (map InTemp xs) → n < all_slots → IsFine all_temps all_slots (KeepCells n e next)
  cells_fine n e xs next is plain r h =
      record { reads = subst (λ ys. AreIn all_temps all_slots (map InTemp ys)) (sym is) r; keeps = (h, tt); plain = plain }

  cells_read : (n : ℕ) (k : ℕ → Exp) (p : Part) (q : Want) → ((x : ℕ) → temps_of (k x) ≡ x ∷ []) → ((x : ℕ) → is_plain (k x) ≡ true)
      → Sound p → SlotSound n (λ next g. p (Into q g.temps (length g.nodes)) (put (KeepCells n (k g.temps) next) (fresh 1 g).1).1)
  cells_read n k p q reads plain o = record {
    grows = λ next g.
        trans (sound.grows_fresh m v all_temps all_slots 1 g)
        (trans (behind (KeepCells n (k g.temps) next) (fresh 1 g).1) (o.grows (to g) (made next g)));
    free = λ next g w h.
        o.free (to g) (made next g) w
        (either (same m (InTemp g.temps)) (v (length g.nodes))
        (λ i. cells_by n (k g.temps) (g.temps ∷ []) next (length g.nodes) (reads g.temps) ((o.grows (to g) (made next g)).less w).fits.0
        (none_one (same m (InTemp g.temps)) i) h));
    fine = λ next g w i f.
        let low : g.temps < all_temps = omega (arith, ((o.grows (to g) (made next g)).less w).temps) in
        o.fine (to g) (made next g) w low (cells_fine n (k g.temps) (g.temps ∷ []) next (reads g.temps) (plain g.temps) (low, tt) i, f);
  }
    where
      to : Growing → Aim
      to g = Into q g.temps (length g.nodes)

      made : (next : ℕ) → Growing → Growing
      made next g = (put (KeepCells n (k g.temps) next) (fresh 1 g).1).1

  cells_hard : (c : Bool) (n : ℕ) (e : Exp) (p : Part) → Sound p
      → SlotSound n (λ next g. (if c then (put (KeepCells n (Temp g.temps (type_of e)) next) >>= λ at. p (Into Value g.temps at)) else
      (put (KeepCells n (TempPlace g.temps (type_of e)) next) >>= λ at. p (Into Place' g.temps at))) (fresh 1 g).1)
  cells_hard true n e p o = cells_read n (λ x. Temp x (type_of e)) p Value (λ x. refl) (λ x. refl) o
  cells_hard false n e p o = cells_read n (λ x. TempPlace x (type_of e)) p Place' (λ x. refl) (λ x. refl) o

  cells_sound : (c : Bool) (n : ℕ) (e : Exp) (p : Part) → easy e ≡ c → Sound p
      → SlotSound n (λ next. if c then put (KeepCells n e next) else
      (fresh 1 >>= λ x. if is_scalar (type_of e) then (put (KeepCells n (Temp x (type_of e)) next) >>= λ at. p (Into Value x at)) else
      (put (KeepCells n (TempPlace x (type_of e)) next) >>= λ at. p (Into Place' x at))))
  cells_sound true n e p is o = record {
    grows = λ next g. behind (KeepCells n e next) g;
    free = λ next g w h. cells_by n e [] next (length g.nodes) (easy_reads e is) w.fits.0 refl h;
    fine = λ next g w i f. (cells_fine n e [] next (easy_reads e is) (easy_plain e is) tt i, f);
  }
  cells_sound false n e p is o = cells_hard (is_scalar (type_of e)) n e p o

  -- the values in braces
  pub record SlotsSound (k : ℕ) (p : (n next : ℕ) → Build ℕ) : Type 0 where
    pub grows : (n next : ℕ) (g : Growing) → Grows g (p n next g).1
    pub free : (n next : ℕ) (g : Growing) → Whole (p n next g).1 → (among m (map InSlot (numbers n k)) || v next) ≡ true
        → v (p n next g).0 ≡ true
    pub fine : (n next : ℕ) (g : Growing) → Whole (p n next g).1 → n + k ≤ all_slots → Fine g.nodes → Fine (p n next g).1.nodes

  value_sound : (k : ℕ) (first : (n next : ℕ) → Build ℕ) (rest : (n next : ℕ) → Build ℕ) → ((n : ℕ) → SlotSound n (first n))
      → SlotsSound k rest → SlotsSound (suc k) (λ n next. rest (n + 1) next >>= first n)
  value_sound k first rest o os = record {
    grows = λ n next g. trans (os.grows (n + 1) next g) ((o n).grows (rest (n + 1) next g).0 (rest (n + 1) next g).1);
    free = λ n next g w h.
        (o n).free (rest (n + 1) next g).0 (rest (n + 1) next g).1 w
        (either (same m (InSlot n)) (v (rest (n + 1) next g).0)
        (λ i. os.free (n + 1) next g (inner n next g w)
        (rest_of (same m (InSlot n)) (among m (map InSlot (numbers (n + 1) k))) (v next) i h)));
    fine = λ n next g w i f.
        (o n).fine (rest (n + 1) next g).0 (rest (n + 1) next g).1 w (omega (arith, i))
        (os.fine (n + 1) next g (inner n next g w) (omega (arith, i)) f);
  }
    where
      inner : (n next : ℕ) (g : Growing) → Whole (first n (rest (n + 1) next g).0 (rest (n + 1) next g).1).1
          → Whole (rest (n + 1) next g).1
      inner n next g w = ((o n).grows (rest (n + 1) next g).0 (rest (n + 1) next g).1).less w

  values_sound : (xs : List Given) (turn : ℕ) → SlotsSound (length xs) (λ n next. all_kept xs turn n next)
  values_sound [] turn = record {
    grows = λ n next g. stays g;
    free = λ n next g w h. h;
    fine = λ n next g w i f. f;
  }
  values_sound (x ∷ xs) turn =
      value_sound (length xs) (λ n next. cells_kept n x.value (unroll x.value turn) next) (λ n next. all_kept xs turn n next)
      (λ n. cells_sound (easy x.value) n x.value (unroll x.value turn) refl (parts x.value turn)) (values_sound xs turn)

  slots_in : (n k : ℕ) → n + k ≤ all_slots → AreIn all_temps all_slots (map InSlot (numbers n k))
  slots_in n zero h = tt
  slots_in n (suc k) h = (omega (arith, h), slots_in (n + 1) k (omega (arith, h)))

  fill_sound : (n : ℕ) (xs : List Given) (turn : ℕ) → ThenSound (filled_by n xs turn)
  fill_sound n xs turn = record {
    grows = λ next g.
        trans (record { less = λ w. record { fits = w.fits.1; temps = w.temps; slots = omega (arith, w.slots) } })
        ((values_sound xs turn).grows g.slots (length g.nodes) (made next g));
    free = λ next g w h.
        (values_sound xs turn).free g.slots (length g.nodes) (made next g) w
        (either (among m (map InSlot (numbers g.slots (length xs)))) (v (length g.nodes))
        (λ i. (((values_sound xs turn).grows g.slots (length g.nodes) (made next g)).less w).fits.0.by
        ∙ calm (among m (map InSlot (numbers g.slots (length xs)))) (v next) i h));
    fine = λ next g w f.
        let low : g.slots + length xs ≤ all_slots = (((values_sound xs turn).grows g.slots (length g.nodes) (made next g)).less w).slots in
        (values_sound xs turn).fine g.slots (length g.nodes) (made next g) w low
        (record { reads = slots_in g.slots (length xs) low; keeps = tt; plain = refl }, f);
  }
    where
      made : (next : ℕ) → Growing → Growing
      made next g = record { nodes = Fill n xs (numbers g.slots (length xs)) next ∷ g.nodes; temps = g.temps; slots = g.slots + length xs }

  initial_sound : (n : ℕ) (x : Init) (turn : ℕ) → ThenSound (initialised n x turn)
  initial_sound n NoInit turn = itself
  initial_sound n (One e) turn = set_sound (easy e) n e (unroll e turn) refl (parts e turn)
  initial_sound n (Braces xs) turn = fill_sound n xs turn

  declared_sound : (d : Declared) (x : Init) (turn : ℕ) → ThenSound (declared_by d x turn)
  declared_sound (declared.Local n) x turn = initial_sound n x turn
  declared_sound (declared.Global n) x turn = itself
  declared_sound declared.Function x turn = itself

  declarators_sound : (ds : List Dec) (turn : ℕ) → ThenSound (declarators ds turn)
  declarators_sound [] turn = itself
  declarators_sound (d ∷ ds) turn =
      in_front (λ at. declared_by d.declared d.init turn at) (λ next. declarators ds turn next)
      (declared_sound d.declared d.init turn) (declarators_sound ds turn)

  start_sound : (f : Start) (turn : ℕ) → ThenSound (started f turn)
  start_sound NoStart turn = itself
  start_sound (Begin e) turn = drop_sound e turn
  start_sound (Declare ds) turn = declarators_sound ds turn

  -- Statements: so it is at each node to which a statement leads.
  pub record TargetsFree (k : Targets) : Type 0 where
    pub next : v k.next ≡ true
    pub leave : v k.leave ≡ true
    pub again : v k.again ≡ true
    pub label : (n : NameId) → v (look n k.labels k.lost) ≡ true

  loop_free : {k : Targets} (at : ℕ) → v at ≡ true → TargetsFree k → TargetsFree (in_loop k at)
  loop_free at h t = record { next = h; leave = t.next; again = h; label = t.label }

  pub record PieceSound (p : Piece) : Type 0 where
    pub grows : (k : Targets) (g : Growing) → Grows g (p k g).1
    pub free : (k : Targets) (g : Growing) → Whole (p k g).1 → TargetsFree k → v (p k g).0 ≡ true
    pub fine : (k : Targets) (g : Growing) → Whole (p k g).1 → Fine g.nodes → Fine (p k g).1.nodes

  last_sound : (test : (hit miss : ℕ) → Build ℕ) → TestSound test → PieceSound (last_turn test)
  last_sound test o = record {
    grows = λ k g. trans (behind (SetAside reason.Depth) g) (o.grows (length g.nodes) k.next (aside g));
    free = λ k g w t.
        o.free (length g.nodes) k.next (aside g) w ((o.grows (length g.nodes) k.next (aside g)).less w).fits.0.by t.next;
    fine = λ k g w f. o.fine (length g.nodes) k.next (aside g) w (record { reads = tt; keeps = tt; plain = refl }, f);
  }
    where
      aside : Growing → Growing
      aside g = (put (SetAside reason.Depth) g).1

  while_sound : (test : (hit miss : ℕ) → Build ℕ) (body rest : Piece) → TestSound test → PieceSound body → PieceSound rest
      → PieceSound (while_turn test body rest)
  while_sound test body rest ot ob or' = record {
    grows = λ k g.
        trans (or'.grows k g)
        (trans (ob.grows (in_loop k (rest k g).0) (rest k g).1) (ot.grows (begins k g).0 k.next (begins k g).1));
    free = λ k g w t.
        ot.free (begins k g).0 k.next (begins k g).1 w
        (ob.free (in_loop k (rest k g).0) (rest k g).1 (inner k g w)
        (loop_free (rest k g).0 (or'.free k g (outer k g w) t) t)) t.next;
    fine = λ k g w f.
        ot.fine (begins k g).0 k.next (begins k g).1 w
        (ob.fine (in_loop k (rest k g).0) (rest k g).1 (inner k g w) (or'.fine k g (outer k g w) f));
  }
    where
      begins : Targets → Build ℕ
      begins k g = body (in_loop k (rest k g).0) (rest k g).1

      inner : (k : Targets) (g : Growing) → Whole (test (begins k g).0 k.next (begins k g).1).1 → Whole (begins k g).1
      inner k g w = (ot.grows (begins k g).0 k.next (begins k g).1).less w

      outer : (k : Targets) (g : Growing) → Whole (test (begins k g).0 k.next (begins k g).1).1 → Whole (rest k g).1
      outer k g w = (ob.grows (in_loop k (rest k g).0) (rest k g).1).less (inner k g w)

  turns_sound : (left t : ℕ) (test : ℕ → (hit miss : ℕ) → Build ℕ) (body : ℕ → Piece)
      → ((t : ℕ) → TestSound (test t)) → ((t : ℕ) → PieceSound (body t)) → PieceSound (while_turns left t test body)
  turns_sound zero t test body ot ob = last_sound (test t) (ot t)
  turns_sound (suc more) t test body ot ob =
      while_sound (test t) (body t) (while_turns more (t + 1) test body) (ot t) (ob t)
      (turns_sound more (t + 1) test body ot ob)

  do_sound : (test : (hit miss : ℕ) → Build ℕ) (body rest : Piece) → TestSound test → PieceSound body → PieceSound rest
      → PieceSound (do_turn test body rest)
  do_sound test body rest ot ob or' = record {
    grows = λ k g.
        trans (or'.grows k g)
        (trans (ot.grows (rest k g).0 k.next (rest k g).1) (ob.grows (in_loop k (tests k g).0) (tests k g).1));
    free = λ k g w t.
        ob.free (in_loop k (tests k g).0) (tests k g).1 w
        (loop_free (tests k g).0
        (ot.free (rest k g).0 k.next (rest k g).1 (inner k g w) (or'.free k g (outer k g w) t) t.next) t);
    fine = λ k g w f.
        ob.fine (in_loop k (tests k g).0) (tests k g).1 w
        (ot.fine (rest k g).0 k.next (rest k g).1 (inner k g w) (or'.fine k g (outer k g w) f));
  }
    where
      tests : Targets → Build ℕ
      tests k g = test (rest k g).0 k.next (rest k g).1

      inner : (k : Targets) (g : Growing) → Whole (body (in_loop k (tests k g).0) (tests k g).1).1 → Whole (tests k g).1
      inner k g w = (ob.grows (in_loop k (tests k g).0) (tests k g).1).less w

      outer : (k : Targets) (g : Growing) → Whole (body (in_loop k (tests k g).0) (tests k g).1).1 → Whole (rest k g).1
      outer k g w = (ot.grows (rest k g).0 k.next (rest k g).1).less (inner k g w)

  do_turns_sound : (left t : ℕ) (test : ℕ → (hit miss : ℕ) → Build ℕ) (body : ℕ → Piece)
      → ((t : ℕ) → TestSound (test t)) → ((t : ℕ) → PieceSound (body t)) → PieceSound (do_turns left t test body)
  do_turns_sound zero t test body ot ob = record {
    grows = λ k g. behind (SetAside reason.Depth) g;
    free = λ k g w t. w.fits.0.by;
    fine = λ k g w f. (record { reads = tt; keeps = tt; plain = refl }, f);
  }
  do_turns_sound (suc more) t test body ot ob =
      do_sound (test t) (body t) (do_turns more (t + 1) test body) (ot t) (ob t)
      (do_turns_sound more (t + 1) test body ot ob)

  step_sound : (body : Piece) (step : (next : ℕ) → Build ℕ) → PieceSound body → ThenSound step → PieceSound (with_step body step)
  step_sound body step ob os = record {
    grows = λ k g. trans (os.grows k.next g) (ob.grows (to k g) (step k.next g).1);
    free = λ k g w t.
        ob.free (to k g) (step k.next g).1 w
        (record {
          next = os.free k.next g (inner k g w) t.next;
          leave = t.leave;
          again = os.free k.next g (inner k g w) t.next;
          label = t.label;
        });
    fine = λ k g w f. ob.fine (to k g) (step k.next g).1 w (os.fine k.next g (inner k g w) f);
  }
    where
      to : Targets → Growing → Targets
      to k g = record k { next = (step k.next g).0; again = (step k.next g).0 }

      inner : (k : Targets) (g : Growing) → Whole (body (to k g) (step k.next g).1).1 → Whole (step k.next g).1
      inner k g w = (ob.grows (to k g) (step k.next g).1).less w

  -- Blocks.
  abbrev CasesFree : List Chosen → Type 0
  CasesFree [] = Unit {0}
  CasesFree (c ∷ cs) = (v c.at ≡ true) × CasesFree cs

  pub record OpenedFree (o : Opened) (lost : ℕ) : Type 0 where
    pub at : v o.at ≡ true
    pub label : (n : NameId) → v (look n o.labels lost) ≡ true
    pub cases : CasesFree o.cases
    pub default : (other : ℕ) → v other ≡ true → v (node_or other o.default) ≡ true

  pub record BlockSound (p : Targets → Build Opened) : Type 0 where
    pub grows : (k : Targets) (g : Growing) → Grows g (p k g).1
    pub free : (k : Targets) (g : Growing) → Whole (p k g).1 → TargetsFree k → OpenedFree (p k g).0 k.lost
    pub fine : (k : Targets) (g : Growing) → Whole (p k g).1 → Fine g.nodes → Fine (p k g).1.nodes

  one_free : (c : Bool) (at other : ℕ) → v at ≡ true → v other ≡ true → v (if c then at else other) ≡ true
  one_free true at other h i = h
  one_free false at other h i = i

  cases_free : (x : Stm) (at : ℕ) (cs : List Chosen) → v at ≡ true → CasesFree cs → CasesFree (cases_of x at cs)
  cases_free (Block ss end) at cs h x = x
  cases_free (Decl ds) at cs h x = x
  cases_free (Evaluate e) at cs h x = x
  cases_free (If q e y) at cs h x = x
  cases_free (IfElse q e y z) at cs h x = x
  cases_free (While q e y) at cs h x = x
  cases_free (Do q y e) at cs h x = x
  cases_free (For q f c n y) at cs h x = x
  cases_free (Switch q e ss) at cs h x = x
  cases_free (Case n e) at cs h x = (h, x)
  cases_free Default at cs h x = x
  cases_free (Goto q n) at cs h x = x
  cases_free Break at cs h x = x
  cases_free Continue at cs h x = x
  cases_free (Return q e) at cs h x = x
  cases_free (Label n y) at cs h x = x

  item_sound : (x : Stm) (part : Piece) (items : Targets → Build Opened) → PieceSound part → BlockSound items
      → BlockSound (λ k g. item x part (items k g).0 k (items k g).1)
  item_sound x part items op ob = record {
    grows = λ k g. trans (ob.grows k g) (op.grows (to k g) (items k g).1);
    free = λ k g w t.
        let rest : OpenedFree (items k g).0 k.lost = ob.free k g (inner k g w) t in
        let here : v (begins k g).0 ≡ true =
        op.free (to k g) (items k g).1 w (record { next = rest.at; leave = t.leave; again = t.again; label = rest.label }) in
        record {
          at = here;
          label = λ n.
              subst (λ at. v at ≡ true) (sym (look_labels n x (begins k g).0 k.lost (items k g).0.labels))
              (one_free (has_label n x) (begins k g).0 (look n (items k g).0.labels k.lost) here (rest.label n));
          cases = cases_free x (begins k g).0 (items k g).0.cases here rest.cases;
          default = λ other h.
              subst (λ at. v at ≡ true) (sym (default_node x (begins k g).0 other (items k g).0.default))
              (one_free (is_default x) (begins k g).0 (node_or other (items k g).0.default) here (rest.default other h));
        };
    fine = λ k g w f. op.fine (to k g) (items k g).1 w (ob.fine k g (inner k g w) f);
  }
    where
      to : Targets → Growing → Targets
      to k g = record k { next = (items k g).0.at; labels = (items k g).0.labels }

      begins : Targets → Build ℕ
      begins k g = part (to k g) (items k g).1

      inner : (k : Targets) (g : Growing) → Whole (begins k g).1 → Whole (items k g).1
      inner k g w = (op.grows (to k g) (items k g).1).less w

  -- the cases of a `switch` read its temp
  chain_grows : (x : ℕ) (cs : List Chosen) (other : ℕ) (g : Growing) → Grows g (chain x cs other g).1
  chain_grows x [] other g = stays g
  chain_grows x (c ∷ cs) other g =
      trans (chain_grows x cs other g) (behind (Choose x c.number c.at (chain x cs other g).0) (chain x cs other g).1)

  chain_free : (x : ℕ) (cs : List Chosen) (other : ℕ) (g : Growing) → same m (InTemp x) ≡ false → Whole (chain x cs other g).1
      → CasesFree cs → v other ≡ true → v (chain x cs other g).0 ≡ true
  chain_free x [] other g n w cs h = h
  chain_free x (c ∷ cs) other g n w free h =
      w.fits.0.by
      ∙ calm (same m (InTemp x) || false) (v c.at && v (chain x cs other g).0) (none_one (same m (InTemp x)) n)
      (both (v c.at) (v (chain x cs other g).0) free.0
      (chain_free x cs other g n ((behind (Choose x c.number c.at (chain x cs other g).0) (chain x cs other g).1).less w) free.1 h))

  chain_fine : (x : ℕ) (cs : List Chosen) (other : ℕ) (g : Growing) → x < all_temps → Fine g.nodes → Fine (chain x cs other g).1.nodes
  chain_fine x [] other g h f = f
  chain_fine x (c ∷ cs) other g h f =
      (record { reads = (h, tt); keeps = tt; plain = refl }, chain_fine x cs other g h f)

  switch_sound : (e : Exp) (turn : ℕ) (q : Pos) (items : Targets → Build Opened) → BlockSound items
      → PieceSound (switched (unroll e turn) q e items)
  switch_sound e turn q items o = record {
    grows = λ k g.
        trans (o.grows (within k) g)
        (trans (sound.grows_fresh m v all_temps all_slots 1 (items (within k) g).1)
        (trans (chain_grows (temp_of k g) (items (within k) g).0.cases (other k g) (fresh 1 (items (within k) g).1).1)
        (trans (behind (mark k g) (first k g).1) ((parts e turn).grows (to k g) (marked k g)))));
    free = λ k g w t.
        let block : OpenedFree (items (within k) g).0 k.lost =
        o.free (within k) g (opens k g w) (record { next = t.next; leave = t.next; again = t.again; label = t.label }) in
        (parts e turn).free (to k g) (marked k g) w
        (either (same m (InTemp (temp_of k g))) (v (length (first k g).1.nodes))
        (λ n. (made k g w).fits.0.by
        ∙ calm (same m (InTemp (temp_of k g)) || false) (v (first k g).0) (none_one (same m (InTemp (temp_of k g))) n)
        (chain_free (temp_of k g) (items (within k) g).0.cases (other k g) (fresh 1 (items (within k) g).1).1 n (chains k g w)
        block.cases (block.default k.next t.next))));
    fine = λ k g w f.
        let low : temp_of k g < all_temps = omega (arith, (begun k g w).temps) in
        (parts e turn).fine (to k g) (marked k g) w low (
          record { reads = (low, tt); keeps = tt; plain = refl },
          chain_fine (temp_of k g) (items (within k) g).0.cases (other k g) (fresh 1 (items (within k) g).1).1 low
              (o.fine (within k) g (opens k g w) f),
        );
  }
    where
      within : Targets → Targets
      within k = record k { leave = k.next }

      temp_of : Targets → Growing → ℕ
      temp_of k g = (items (within k) g).1.temps

      other : Targets → Growing → ℕ
      other k g = node_or k.next (items (within k) g).0.default

      first : Targets → Growing → ℕ × Growing
      first k g = chain (temp_of k g) (items (within k) g).0.cases (other k g) (fresh 1 (items (within k) g).1).1

      mark : Targets → Growing → Node
      mark k g = MarkSwitch q (type_of e) (temp_of k g) (first k g).0

      marked : Targets → Growing → Growing
      marked k g = (put (mark k g) (first k g).1).1

      to : Targets → Growing → Aim
      to k g = Into Value (temp_of k g) (length (first k g).1.nodes)

      made : (k : Targets) (g : Growing) → Whole (unroll e turn (to k g) (marked k g)).1 → Whole (marked k g)
      made k g w = ((parts e turn).grows (to k g) (marked k g)).less w

      chains : (k : Targets) (g : Growing) → Whole (unroll e turn (to k g) (marked k g)).1 → Whole (first k g).1
      chains k g w = (behind (mark k g) (first k g).1).less (made k g w)

      begun : (k : Targets) (g : Growing) → Whole (unroll e turn (to k g) (marked k g)).1 → Whole (fresh 1 (items (within k) g).1).1
      begun k g w =
          (chain_grows (temp_of k g) (items (within k) g).0.cases (other k g) (fresh 1 (items (within k) g).1).1).less (chains k g w)

      opens : (k : Targets) (g : Growing) → Whole (unroll e turn (to k g) (marked k g)).1 → Whole (items (within k) g).1
      opens k g w = (sound.grows_fresh m v all_temps all_slots 1 (items (within k) g).1).less (begun k g w)

  -- `return`
  return_sound : (e : Option Exp) (turn : ℕ) (q : Pos) → PieceSound (λ k. returning e turn q)
  return_sound None turn q = record {
    grows = λ k g. trans (behind (Exit None) g) (behind (Mark q what.Return (length g.nodes)) (put (Exit None) g).1);
    free = λ k g w t. w.fits.0.by ∙ w.fits.1.0.by;
    fine = λ k g w f. (record { reads = tt; keeps = tt; plain = refl }, (record { reads = tt; keeps = tt; plain = refl }, f));
  }
  return_sound (Some e) turn q = record {
    grows = λ k g.
        trans (record { less = λ w. record { fits = w.fits.1.1; temps = omega (arith, w.temps); slots = w.slots } })
        ((parts e turn).grows (to g) (out g));
    free = λ k g w t.
        (parts e turn).free (to g) (out g) w
        (either (same m (InTemp g.temps)) (v (suc (length g.nodes)))
        (λ n. (made g w).fits.0.by
        ∙ ((made g w).fits.1.0.by ∙ calm (same m (InTemp g.temps) || false) true (none_one (same m (InTemp g.temps)) n) refl)));
    fine = λ k g w f.
        let low : g.temps < all_temps = omega (arith, (made g w).temps) in
        (parts e turn).fine (to g) (out g) w low
        (record { reads = tt; keeps = tt; plain = refl }, (record { reads = (low, tt); keeps = tt; plain = refl }, f));
  }
    where
      to : Growing → Aim
      to g = Into Value g.temps (suc (length g.nodes))

      out : Growing → Growing
      out g = record { nodes = Mark q what.Return (length g.nodes) ∷ Exit (Some g.temps) ∷ g.nodes; temps = g.temps + 1; slots = g.slots }

      made : (g : Growing) → Whole (unroll e turn (to g) (out g)).1 → Whole (out g)
      made g w = ((parts e turn).grows (to g) (out g)).less w

  if_sound : (q : Pos) (e : Exp) (turn : ℕ) (part : Piece) → PieceSound part
      → PieceSound (λ k g. tested (unroll e turn) q what.If (part k g).0 k.next (part k g).1)
  if_sound q e turn part o = record {
    grows = λ k g. trans (o.grows k g) ((tests_sound e turn q what.If).grows (part k g).0 k.next (part k g).1);
    free = λ k g w t.
        (tests_sound e turn q what.If).free (part k g).0 k.next (part k g).1 w (o.free k g (inner k g w) t) t.next;
    fine = λ k g w f. (tests_sound e turn q what.If).fine (part k g).0 k.next (part k g).1 w (o.fine k g (inner k g w) f);
  }
    where
      inner : (k : Targets) (g : Growing) → Whole (tested (unroll e turn) q what.If (part k g).0 k.next (part k g).1).1
          → Whole (part k g).1
      inner k g w = ((tests_sound e turn q what.If).grows (part k g).0 k.next (part k g).1).less w

  if_else_sound : (q : Pos) (e : Exp) (turn : ℕ) (hit miss : Piece) → PieceSound hit → PieceSound miss
      → PieceSound (λ k g. tested (unroll e turn) q what.If (hit k g).0 (miss k (hit k g).1).0 (miss k (hit k g).1).1)
  if_else_sound q e turn hit miss oh om = record {
    grows = λ k g.
        trans (oh.grows k g)
        (trans (om.grows k (hit k g).1)
        ((tests_sound e turn q what.If).grows (hit k g).0 (miss k (hit k g).1).0 (miss k (hit k g).1).1));
    free = λ k g w t.
        (tests_sound e turn q what.If).free (hit k g).0 (miss k (hit k g).1).0 (miss k (hit k g).1).1 w
        (oh.free k g (outer k g w) t) (om.free k (hit k g).1 (inner k g w) t);
    fine = λ k g w f.
        (tests_sound e turn q what.If).fine (hit k g).0 (miss k (hit k g).1).0 (miss k (hit k g).1).1 w
        (om.fine k (hit k g).1 (inner k g w) (oh.fine k g (outer k g w) f));
  }
    where
      inner : (k : Targets) (g : Growing)
          → Whole (tested (unroll e turn) q what.If (hit k g).0 (miss k (hit k g).1).0 (miss k (hit k g).1).1).1
          → Whole (miss k (hit k g).1).1
      inner k g w =
          ((tests_sound e turn q what.If).grows (hit k g).0 (miss k (hit k g).1).0 (miss k (hit k g).1).1).less w

      outer : (k : Targets) (g : Growing)
          → Whole (tested (unroll e turn) q what.If (hit k g).0 (miss k (hit k g).1).0 (miss k (hit k g).1).1).1
          → Whole (hit k g).1
      outer k g w = (om.grows k (hit k g).1).less (inner k g w)

  then_piece : (p : (next : ℕ) → Build ℕ) → ThenSound p → PieceSound (λ k. p k.next)
  then_piece p o = record {
    grows = λ k g. o.grows k.next g;
    free = λ k g w t. o.free k.next g w t.next;
    fine = λ k g w f. o.fine k.next g w f;
  }

  for_sound : (loop : Piece) (start : (next : ℕ) → Build ℕ) → PieceSound loop → ThenSound start → PieceSound (λ k. loop k >>= start)
  for_sound loop start ol os = record {
    grows = λ k g. trans (ol.grows k g) (os.grows (loop k g).0 (loop k g).1);
    free = λ k g w t.
        os.free (loop k g).0 (loop k g).1 w (ol.free k g ((os.grows (loop k g).0 (loop k g).1).less w) t);
    fine = λ k g w f.
        os.fine (loop k g).0 (loop k g).1 w (ol.fine k g ((os.grows (loop k g).0 (loop k g).1).less w) f);
  }

  module _ (depth : ℕ) where
    mutual
      pub statement_sound : (x : Stm) (turn : ℕ) → PieceSound (unroll_stm depth x turn)
      statement_sound (Block xs end) turn = record {
        grows = λ k g. (block_sound xs turn).grows k g;
        free = λ k g w t. ((block_sound xs turn).free k g w t).at;
        fine = λ k g w f. (block_sound xs turn).fine k g w f;
      }
      statement_sound (Decl ds) turn = then_piece (declarators ds turn) (declarators_sound ds turn)
      statement_sound (Evaluate e) turn = then_piece (dropped_if e turn) (drop_if_sound e turn)
      statement_sound (If q e x) turn = if_sound q e turn (unroll_stm depth x turn) (statement_sound x turn)
      statement_sound (IfElse q e x y) turn =
          if_else_sound q e turn (unroll_stm depth x turn) (unroll_stm depth y turn) (statement_sound x turn) (statement_sound y turn)
      statement_sound (While q e x) turn =
          turns_sound depth 0 (λ t. tested (unroll e (turn_of turn (depth + 1) t)) q what.Loop)
          (λ t. unroll_stm depth x (turn_of turn depth t))
          (λ t. tests_sound e (turn_of turn (depth + 1) t) q what.Loop) (λ t. statement_sound x (turn_of turn depth t))
      statement_sound (Do q x e) turn =
          do_turns_sound depth 0 (λ t. tested (unroll e (turn_of turn depth t)) q what.Loop) (λ t. unroll_stm depth x (turn_of turn depth t))
          (λ t. tests_sound e (turn_of turn depth t) q what.Loop) (λ t. statement_sound x (turn_of turn depth t))
      statement_sound (For q f c n x) turn =
          for_sound
          (while_turns depth 0 (λ t. test_or_true c (turn_of turn (depth + 1) t) q)
          (λ t. with_step (unroll_stm depth x (turn_of turn depth t)) (dropped_if n (turn_of turn depth t))))
          (started f turn)
          (turns_sound depth 0 (λ t. test_or_true c (turn_of turn (depth + 1) t) q)
          (λ t. with_step (unroll_stm depth x (turn_of turn depth t)) (dropped_if n (turn_of turn depth t)))
          (λ t. test_if_sound c (turn_of turn (depth + 1) t) q)
          (λ t. step_sound (unroll_stm depth x (turn_of turn depth t)) (dropped_if n (turn_of turn depth t))
          (statement_sound x (turn_of turn depth t))
          (drop_if_sound n (turn_of turn depth t))))
          (start_sound f turn)
      statement_sound (Switch q e xs) turn = switch_sound e turn q (unroll_stms depth xs turn) (block_sound xs turn)
      statement_sound (Case n e) turn = then_piece (λ next. pure next) itself
      statement_sound Default turn = then_piece (λ next. pure next) itself
      statement_sound (Goto q n) turn = record {
        grows = λ k g. behind (Mark q (what.Goto n) (look n k.labels k.lost)) g;
        free = λ k g w t. w.fits.0.by ∙ t.label n;
        fine = λ k g w f. (record { reads = tt; keeps = tt; plain = refl }, f);
      }
      statement_sound Break turn = record { grows = λ k g. stays g; free = λ k g w t. t.leave; fine = λ k g w f. f }
      statement_sound Continue turn = record { grows = λ k g. stays g; free = λ k g w t. t.again; fine = λ k g w f. f }
      statement_sound (Return q e) turn = return_sound e turn q
      statement_sound (Label n x) turn = statement_sound x turn

      pub block_sound : (xs : Stms) (turn : ℕ) → BlockSound (unroll_stms depth xs turn)
      block_sound NoStms turn = record {
        grows = λ k g. stays g;
        free = λ k g w t. record { at = t.next; label = t.label; cases = tt; default = λ other h. h };
        fine = λ k g w f. f;
      }
      block_sound (Stms' x xs) turn =
          item_sound x (unroll_stm depth x turn) (unroll_stms depth xs turn) (statement_sound x turn) (block_sound xs turn)
