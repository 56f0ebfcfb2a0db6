-- All statements.
use Rattle.std.proofs.Common.{◌≡◌, ℕ, zero, suc, ◌+◌, Bool, true, false, List, [], ◌∷◌, length, refl, sym, ap, subst, ◌∙◌, arith}
use Rattle.std.specs.Prelude.{Option, Some, None, slice_get, if◌then◌else◌}
use Rattle.sc_base.specs.declared.pos.Pos.{Pos}
use Rattle.sc_typed.specs.declared.stmt.Declared.{Declared}
use Rattle.sc_typed.specs.declared.stmt.Declared.TheVariants as declared
use Rattle.sum_rows.specs.declared.report.What.{What}
use Rattle.sum_rows.specs.declared.report.What.TheVariants as what
use Rattle.sc_world.specs.declared.run.Origin.TheVariants as origin
use Rattle.sc_world.specs.declared.run.Reason.TheVariants as reason
use Rattle.sc_world.specs.Tree.{Ty, is_integer, Exp, Temp, TempPlace, type_of, Given, Init, NoInit, One, Braces, Dec, Start, NoStart, Begin, Declare, Stm, Block, Decl, Evaluate, If, IfElse, While, Do, For, Switch, Case, Default, Goto, Break, Continue, Return, Label, Stms, NoStms, Stms'}
use Rattle.sc_world.specs.Source.{Source}
use Rattle.sc_world.specs.Layout.{Layout, location, location_of, has_type}
use Rattle.sc_world.specs.Eval.{Want, Value, Place'}
use Rattle.run_laws.specs.Fits.{Fits, is_scalar, if_scalar, IsRead, IsThere}
use Rattle.run_laws.specs.Functions.{TestFits, TestFitsIf, FitsIf, SetsPart, ItemsFit, InitFits, DeclaredFits, DeclaratorsFit, StartFits, ReturnFits, StatementFits, StatementsFit}
use Rattle.flow_graph.specs.Nodes.{Node, KeepCells, Set, Fill, Choose, Mark, MarkSwitch, Exit, SetAside}
use Rattle.flow_graph.specs.Growing.{Growing, Build, ◌>>=◌, put, fresh, fresh_slots, numbers}
use Rattle.flow_graph.specs.Expressions.{Into, Part, easy, unroll}
use Rattle.flow_graph.specs.Statements.{Targets, look, Piece, tested, test_or_true, dropped, dropped_if, all_kept, filled_by, initialised, declared_by, declarators, started, in_loop, last_turn, while_turn, while_turns, do_turn, do_turns, with_step, turn_of, Chosen, Opened, item, node_or, chain, switched, returning, unroll_stm, unroll_stms}
use Rattle.flow_types.specs.Kinds.{ValueOf, Kinds, IsKept, KeepsSome}
use Rattle.flow_types.specs.Nodes.{KeepParts, NodeFits}
use Rattle.flow_types.proofs.Kept as kept
use Rattle.flow_types.proofs.Kept.{Extends, extends_refl, extends_trans, with_temp, extends_temp, with_slot, extends_slot, some_on, kind_of, for_kind, get_last, length_last}
use Rattle.flow_types.proofs.Easy.{easy_fits}
use Rattle.flow_types.proofs.Parts as parts
use Rattle.flow_types.proofs.Expressions.{expression_typed}

-- slots for values in braces
abbrev with_slots : Kinds → List Given → Kinds
with_slots k [] = k
with_slots k (x ∷ xs) = with_slots (with_slot k (type_of x.value)) xs

extends_slots : (k : Kinds) (xs : List Given) → Extends k (with_slots k xs)
extends_slots k [] = extends_refl k
extends_slots k (x ∷ xs) =
    extends_trans (extends_slot k (type_of x.value)) (extends_slots (with_slot k (type_of x.value)) xs)

-- a `for`, without what stands in its first place
abbrev loop : (depth : ℕ) → Pos → (test step : Option Exp) → Stm → (turn : ℕ) → Piece
loop depth q c n x turn =
    while_turns depth 0 (λ i. test_or_true c (turn_of turn (depth + 1) i) q)
    (λ i. with_step (unroll_stm depth x (turn_of turn depth i)) (dropped_if n (turn_of turn depth i)))

module _ (s : Source) (p : Layout) where
  abbrev Good : Kinds → Growing → Type 0
  Good = kept.Good s p

  abbrev Made : Kinds → Growing → Type 0
  Made = kept.Made s p

  abbrev Steps : {A : Type 0} → Build A → Type 0
  Steps = kept.Steps s p

  abbrev Typed : Want → Ty → Part → Type 0
  Typed = parts.Typed s p

  value : (e : Exp) (turn : ℕ) → Fits p Value e → Typed Value (type_of e) (unroll e turn)
  value e turn h = expression_typed s p e turn Value h

  -- conditions
  abbrev Tests : ((hit miss : ℕ) → Build ℕ) → Type 0
  Tests m = (hit miss : ℕ) → Steps (m hit miss)

  tested_steps : (e : Exp) (turn : ℕ) (q : Pos) (x : Bool → What) → TestFits s p e → Tests (tested (unroll e turn) q x)
  tested_steps e turn q x h hit miss g k w =
      (value e turn h.0).test refl h.1 (length g.nodes) (suc (length g.nodes)) (put (Mark q (x false) miss) (put (Mark q (x true) hit) g).1).1 k
      (kept.good_put s p (Mark q (x false) miss) tt (kept.good_put s p (Mark q (x true) hit) tt w))

  test_if_steps : (c : Option Exp) (turn : ℕ) (q : Pos) → TestFitsIf s p c → Tests (test_or_true c turn q)
  test_if_steps None turn q h hit miss g k w = kept.made s p (kept.good_put s p (Mark q (what.Loop true) hit) tt w)
  test_if_steps (Some e) turn q h hit miss g k w = tested_steps e turn q what.Loop h hit miss g k w

  -- a step in front of a node
  abbrev Before : ((next : ℕ) → Build ℕ) → Type 0
  Before m = (next : ℕ) → Steps (m next)

  dropped_steps : (e : Exp) (turn : ℕ) → Fits p Value e → Before (dropped (unroll e turn))
  dropped_steps e turn h next g k w = parts.dropped_typed s p (type_of e) (unroll e turn) (value e turn h) next g k w

  dropped_if_steps : (e : Option Exp) (turn : ℕ) → FitsIf s p e → Before (dropped_if e turn)
  dropped_if_steps None turn h next g k w = kept.made s p w
  dropped_if_steps (Some e) turn h next g k w = dropped_steps e turn h next g k w

  -- Initialisers: a node that takes a value or, where that is no scalar, an object, kept in a temp.
  taken : (make : Exp → (next : ℕ) → Node) (e : Exp) (turn : ℕ) (x : Want) (over : ℕ → Exp) → Fits p x e
      → (next : ℕ) (g : Growing) (k : Kinds) → Good k g
      → (IsKept (with_temp k (kind_of x (type_of e))) g.temps (kind_of x (type_of e))
      → NodeFits s p (with_temp k (kind_of x (type_of e))) (make (over g.temps) next))
      → Made k (unroll e turn (Into x g.temps (length g.nodes)) (put (make (over g.temps) next) (fresh 1 g).1).1).1
  taken make e turn x over h next g k w fit =
      let l : Kinds = with_temp k (kind_of x (type_of e)) in
      let there : IsKept l g.temps (kind_of x (type_of e)) = kept.kept_last s p (kind_of x (type_of e)) w in
      kept.from s p (extends_temp k (kind_of x (type_of e)))
      ((expression_typed s p e turn x h).into g.temps (length g.nodes) (put (make (over g.temps) next) (fresh 1 g).1).1 l
      (kept.good_put s p (make (over g.temps) next) (fit there) (kept.good_temp s p (kind_of x (type_of e)) w))
      (for_kind l x (type_of e) g.temps there))

  -- of a scalar the value is read
  reads : (t : Ty) → is_scalar t ≡ true → IsRead (if_scalar t)
  reads t is = subst (λ c. IsRead (if c then Value else Place')) (sym is) tt

  set_hard : (c : Bool) (n : ℕ) (e : Exp) (turn : ℕ) → is_scalar (type_of e) ≡ c → IsThere p (origin.Local n)
      → Fits p (if c then Value else Place') e → has_type (location p (location_of p (origin.Local n))) (type_of e) ≡ true
      → Before (λ next g. (if c then (put (Set n (Temp g.temps (type_of e)) next) >>= λ at. unroll e turn (Into Value g.temps at)) else
      (put (Set n (TempPlace g.temps (type_of e)) next) >>= λ at. unroll e turn (Into Place' g.temps at))) (fresh 1 g).1)
  set_hard true n e turn is there h has next g k w =
      taken (Set n) e turn Value (λ x. Temp x (type_of e)) h next g k w (λ i. (there, (reads (type_of e) is, i), has))
  set_hard false n e turn is there h has next g k w =
      taken (Set n) e turn Place' (λ x. TempPlace x (type_of e)) h next g k w (λ i. (there, i, has))

  set_steps : (c : Bool) (n : ℕ) (e : Exp) (turn : ℕ) → easy e ≡ c → IsThere p (origin.Local n)
      → SetsPart s p (location_of p (origin.Local n)) e
      → Before (λ next. if c then put (Set n e next) else
      (fresh 1 >>= λ x. if is_scalar (type_of e) then (put (Set n (Temp x (type_of e)) next) >>= λ at. unroll e turn (Into Value x at)) else
      (put (Set n (TempPlace x (type_of e)) next) >>= λ at. unroll e turn (Into Place' x at))))
  set_steps true n e turn is there h next g k w =
      kept.made s p (kept.good_put s p (Set n e next) (there, easy_fits p k (if_scalar (type_of e)) e is h.0, h.1) w)
  set_steps false n e turn is there h next g k w = set_hard (is_scalar (type_of e)) n e turn refl there h.0 h.1 next g k w

  -- what a slot keeps
  abbrev Fills : (n : ℕ) → Ty → ((next : ℕ) → Build ℕ) → Type 0
  Fills n t m =
      (next : ℕ) (g : Growing) (k : Kinds) → Good k g → slice_get k.slots n ≡ Some t → Made k (m next g).1

  cells_hard : (c : Bool) (n : ℕ) (e : Exp) (turn : ℕ) → is_scalar (type_of e) ≡ c → Fits p (if c then Value else Place') e
      → Fills n (type_of e) (λ next g. (if c then
      (put (KeepCells n (Temp g.temps (type_of e)) next) >>= λ at. unroll e turn (Into Value g.temps at)) else
      (put (KeepCells n (TempPlace g.temps (type_of e)) next) >>= λ at. unroll e turn (Into Place' g.temps at))) (fresh 1 g).1)
  cells_hard true n e turn is h next g k w slot =
      taken (KeepCells n) e turn Value (λ x. Temp x (type_of e)) h next g k w (λ i. ((reads (type_of e) is, i), slot))
  cells_hard false n e turn is h next g k w slot =
      taken (KeepCells n) e turn Place' (λ x. TempPlace x (type_of e)) h next g k w (λ i. (i, slot))

  cells_steps : (c : Bool) (n : ℕ) (e : Exp) (turn : ℕ) → easy e ≡ c → Fits p (if_scalar (type_of e)) e
      → Fills n (type_of e) (λ next. if c then put (KeepCells n e next) else
      (fresh 1 >>= λ x. if is_scalar (type_of e) then
      (put (KeepCells n (Temp x (type_of e)) next) >>= λ at. unroll e turn (Into Value x at)) else
      (put (KeepCells n (TempPlace x (type_of e)) next) >>= λ at. unroll e turn (Into Place' x at))))
  cells_steps true n e turn is h next g k w slot =
      kept.made s p (kept.good_put s p (KeepCells n e next) (easy_fits p k (if_scalar (type_of e)) e is h, slot) w)
  cells_steps false n e turn is h next g k w slot = cells_hard (is_scalar (type_of e)) n e turn refl h next g k w slot

  -- the values in braces
  values_steps : (xs : List Given) (turn at : ℕ) → ItemsFit s p at xs → (n next : ℕ) (g : Growing) (k : Kinds) → Good k g
      → KeepParts s p k at (numbers n (length xs)) xs → Made k (all_kept xs turn n next g).1
  values_steps [] turn at h n next g k w i = kept.made s p w
  values_steps (x ∷ xs) turn at h n next g k w i =
      kept.via s p (values_steps xs turn at h.2 (n + 1) next g k w i.2)
      (λ l more v. cells_steps (easy x.value) n x.value turn refl h.0 (all_kept xs turn (n + 1) next g).0
      (all_kept xs turn (n + 1) next g).1 l v (more.slots n (type_of x.value) i.0))

  parts_kept : (k : Kinds) (xs : List Given) (at n : ℕ) → length k.slots ≡ n → ItemsFit s p at xs
      → KeepParts s p (with_slots k xs) at (numbers n (length xs)) xs
  parts_kept k [] at n is h = tt
  parts_kept k (x ∷ xs) at n is h =
      let l : Kinds = with_slot k (type_of x.value) in (
        (extends_slots l xs).slots n (type_of x.value) (get_last k.slots (type_of x.value) n is),
        h.1,
        parts_kept l xs at (n + 1) (length_last k.slots (type_of x.value) ∙ ap (λ m. m + 1) is) h.2,
      )

  good_slots : (k : Kinds) (xs : List Given) (g : Growing) → Good k g → Good (with_slots k xs) (fresh_slots (length xs) g).1
  good_slots k [] g w = record { temps = w.temps; slots = omega (arith, w.slots); nodes = w.nodes }
  good_slots k (x ∷ xs) g w =
      let o : Good (with_slots (with_slot k (type_of x.value)) xs) (fresh_slots (length xs) (fresh_slots 1 g).1).1 =
      good_slots (with_slot k (type_of x.value)) xs (fresh_slots 1 g).1
      (record {
        temps = w.temps;
        slots = length_last k.slots (type_of x.value) ∙ ap (λ m. m + 1) w.slots;
        nodes = kept.all_on s p (extends_slot k (type_of x.value)) g.nodes w.nodes;
      }) in
      record { temps = o.temps; slots = omega (arith, o.slots); nodes = o.nodes }

  fill_steps : (n : ℕ) (xs : List Given) (turn : ℕ) → IsThere p (origin.Local n) → ItemsFit s p (location_of p (origin.Local n)) xs
      → Before (filled_by n xs turn)
  fill_steps n xs turn there h next g k w =
      let l : Kinds = with_slots k xs in
      let keeps : KeepParts s p l (location_of p (origin.Local n)) (numbers g.slots (length xs)) xs =
      parts_kept k xs (location_of p (origin.Local n)) g.slots w.slots h in
      kept.from s p (extends_slots k xs)
      (values_steps xs turn (location_of p (origin.Local n)) h g.slots (length g.nodes)
      (put (Fill n xs (numbers g.slots (length xs)) next) (fresh_slots (length xs) g).1).1 l
      (kept.good_put s p (Fill n xs (numbers g.slots (length xs)) next) (there, keeps) (good_slots k xs g w)) keeps)

  initial_steps : (n : ℕ) (x : Init) (turn : ℕ) → IsThere p (origin.Local n) → InitFits s p (location_of p (origin.Local n)) x
      → Before (initialised n x turn)
  initial_steps n NoInit turn there h next g k w = kept.made s p w
  initial_steps n (One e) turn there h next g k w = set_steps (easy e) n e turn refl there h next g k w
  initial_steps n (Braces xs) turn there h next g k w = fill_steps n xs turn there h next g k w

  declared_steps : (d : Declared) (x : Init) (turn : ℕ) → DeclaredFits s p d x → Before (declared_by d x turn)
  declared_steps (declared.Local n) x turn h next g k w = initial_steps n x turn h.0 h.1 next g k w
  declared_steps (declared.Global n) x turn h next g k w = kept.made s p w
  declared_steps declared.Function x turn h next g k w = kept.made s p w

  declarators_steps : (ds : List Dec) (turn : ℕ) → DeclaratorsFit s p ds → Before (declarators ds turn)
  declarators_steps [] turn h next g k w = kept.made s p w
  declarators_steps (d ∷ ds) turn h next g k w =
      kept.via s p (declarators_steps ds turn h.1 next g k w)
      (λ l more v. declared_steps d.declared d.init turn h.0 (declarators ds turn next g).0 (declarators ds turn next g).1 l v)

  start_steps : (f : Start) (turn : ℕ) → StartFits s p f → Before (started f turn)
  start_steps NoStart turn h next g k w = kept.made s p w
  start_steps (Begin e) turn h next g k w = dropped_steps e turn h next g k w
  start_steps (Declare ds) turn h next g k w = declarators_steps ds turn h next g k w

  -- Statements.
  abbrev Pieces : Piece → Type 0
  Pieces m = (t : Targets) → Steps (m t)

  last_steps : (test : (hit miss : ℕ) → Build ℕ) → Tests test → Pieces (last_turn test)
  last_steps test ot t g k w =
      ot (length g.nodes) t.next (put (SetAside reason.Depth) g).1 k (kept.good_put s p (SetAside reason.Depth) tt w)

  while_steps : (test : (hit miss : ℕ) → Build ℕ) (body rest : Piece) → Tests test → Pieces body → Pieces rest
      → Pieces (while_turn test body rest)
  while_steps test body rest ot ob or' t g k w =
      kept.via s p (or' t g k w)
      (λ l x1 v. kept.via s p (ob (in_loop t (rest t g).0) (rest t g).1 l v)
      (λ m x2 o. ot (body (in_loop t (rest t g).0) (rest t g).1).0 t.next (body (in_loop t (rest t g).0) (rest t g).1).1 m o))

  turns_steps : (left n : ℕ) (test : ℕ → (hit miss : ℕ) → Build ℕ) (body : ℕ → Piece) → ((n : ℕ) → Tests (test n))
      → ((n : ℕ) → Pieces (body n)) → Pieces (while_turns left n test body)
  turns_steps zero n test body ot ob t g k w = last_steps (test n) (ot n) t g k w
  turns_steps (suc more) n test body ot ob t g k w =
      while_steps (test n) (body n) (while_turns more (n + 1) test body) (ot n) (ob n) (turns_steps more (n + 1) test body ot ob) t g k w

  do_steps : (test : (hit miss : ℕ) → Build ℕ) (body rest : Piece) → Tests test → Pieces body → Pieces rest
      → Pieces (do_turn test body rest)
  do_steps test body rest ot ob or' t g k w =
      kept.via s p (or' t g k w)
      (λ l x1 v. kept.via s p (ot (rest t g).0 t.next (rest t g).1 l v)
      (λ m x2 o. ob (in_loop t (test (rest t g).0 t.next (rest t g).1).0) (test (rest t g).0 t.next (rest t g).1).1 m o))

  do_turns_steps : (left n : ℕ) (test : ℕ → (hit miss : ℕ) → Build ℕ) (body : ℕ → Piece) → ((n : ℕ) → Tests (test n))
      → ((n : ℕ) → Pieces (body n)) → Pieces (do_turns left n test body)
  do_turns_steps zero n test body ot ob t g k w = kept.made s p (kept.good_put s p (SetAside reason.Depth) tt w)
  do_turns_steps (suc more) n test body ot ob t g k w =
      do_steps (test n) (body n) (do_turns more (n + 1) test body) (ot n) (ob n) (do_turns_steps more (n + 1) test body ot ob) t g k w

  step_steps : (body : Piece) (step : (next : ℕ) → Build ℕ) → Pieces body → Before step → Pieces (with_step body step)
  step_steps body step ob os t g k w =
      kept.via s p (os t.next g k w)
      (λ l more v. ob (record t { next = (step t.next g).0; again = (step t.next g).0 }) (step t.next g).1 l v)

  -- Blocks.
  abbrev Opens : (Targets → Build Opened) → Type 0
  Opens m = (t : Targets) → Steps (m t)

  item_steps : (x : Stm) (part : Piece) (items : Targets → Build Opened) → Pieces part → Opens items
      → Opens (λ t g. item x part (items t g).0 t (items t g).1)
  item_steps x part items op oi t g k w =
      kept.via s p (oi t g k w)
      (λ l more v. op (record t { next = (items t g).0.at; labels = (items t g).0.labels }) (items t g).1 l v)

  -- the cases of a `switch` read its temp
  chain_steps : (x : ℕ) (cs : List Chosen) (other : ℕ) (g : Growing) (k : Kinds) → Good k g → KeepsSome k is_integer x
      → Made k (chain x cs other g).1
  chain_steps x [] other g k w h = kept.made s p w
  chain_steps x (c ∷ cs) other g k w h =
      kept.via s p (chain_steps x cs other g k w h)
      (λ l more v. kept.made s p
      (kept.good_put s p (Choose x c.number c.at (chain x cs other g).0) (some_on more is_integer x h) v))

  switch_steps : (e : Exp) (turn : ℕ) (q : Pos) (items : Targets → Build Opened) → Fits p Value e → is_integer (type_of e) ≡ true
      → Opens items → Pieces (switched (unroll e turn) q e items)
  switch_steps e turn q items h sort oi t g k w =
      kept.via s p (oi within g k w)
      (λ l x1 v.
      let there : IsKept (with_temp l (ValueOf (type_of e))) (items within g).1.temps (ValueOf (type_of e)) =
      kept.kept_last s p (ValueOf (type_of e)) v in
      kept.from s p (extends_temp l (ValueOf (type_of e)))
      (kept.via s p
      (chain_steps (items within g).1.temps (items within g).0.cases (node_or t.next (items within g).0.default)
      (fresh 1 (items within g).1).1 (with_temp l (ValueOf (type_of e))) (kept.good_temp s p (ValueOf (type_of e)) v)
      (type_of e, there, sort))
      (λ m x2 o.
      let here : IsKept m (items within g).1.temps (ValueOf (type_of e)) =
      x2.temps (items within g).1.temps (ValueOf (type_of e)) there in
      (value e turn h).into (items within g).1.temps (length first.1.nodes)
      (put (MarkSwitch q (type_of e) (items within g).1.temps first.0) first.1).1 m
      (kept.good_put s p (MarkSwitch q (type_of e) (items within g).1.temps first.0) (here, sort) o) here)))
    where
      within : Targets
      within = record t { leave = t.next }

      first : ℕ × Growing
      first =
          chain (items within g).1.temps (items within g).0.cases (node_or t.next (items within g).0.default)
          (fresh 1 (items within g).1).1

  return_steps : (e : Option Exp) (turn : ℕ) (q : Pos) → ReturnFits s p e → Pieces (λ t. returning e turn q)
  return_steps None turn q h t g k w =
      kept.made s p (kept.good_put s p (Mark q what.Return (length g.nodes)) tt (kept.good_put s p (Exit None) tt w))
  return_steps (Some e) turn q h t g k w =
      let l : Kinds = with_temp k (ValueOf (type_of e)) in
      let there : IsKept l g.temps (ValueOf (type_of e)) = kept.kept_last s p (ValueOf (type_of e)) w in
      kept.from s p (extends_temp k (ValueOf (type_of e)))
      ((value e turn h.0).into g.temps (suc (length g.nodes))
      (put (Mark q what.Return (length g.nodes)) (put (Exit (Some g.temps)) (fresh 1 g).1).1).1 l
      (kept.good_put s p (Mark q what.Return (length g.nodes)) tt
      (kept.good_put s p (Exit (Some g.temps)) (subst (λ z. IsKept l g.temps (ValueOf z)) h.1 there)
      (kept.good_temp s p (ValueOf (type_of e)) w)))
      there)

  module _ (depth : ℕ) where
    mutual
      pub statement_steps : (x : Stm) (turn : ℕ) → StatementFits s p x → Pieces (unroll_stm depth x turn)
      statement_steps (Block xs end) turn h t g k w = block_steps xs turn h t g k w
      statement_steps (Decl ds) turn h t g k w = declarators_steps ds turn h t.next g k w
      statement_steps (Evaluate e) turn h t g k w = dropped_if_steps e turn h t.next g k w
      statement_steps (If q e x) turn h t g k w =
          kept.via s p (statement_steps x turn h.1 t g k w)
          (λ l more v. tested_steps e turn q what.If h.0 (unroll_stm depth x turn t g).0 t.next (unroll_stm depth x turn t g).1 l v)
      statement_steps (IfElse q e x y) turn h t g k w =
          kept.via s p (statement_steps x turn h.1 t g k w)
          (λ l x1 v. kept.via s p (statement_steps y turn h.2 t (unroll_stm depth x turn t g).1 l v)
          (λ m x2 o. tested_steps e turn q what.If h.0 (unroll_stm depth x turn t g).0
          (unroll_stm depth y turn t (unroll_stm depth x turn t g).1).0 (unroll_stm depth y turn t (unroll_stm depth x turn t g).1).1 m o))
      statement_steps (While q e x) turn h t g k w =
          turns_steps depth 0 (λ n. tested (unroll e (turn_of turn (depth + 1) n)) q what.Loop)
          (λ n. unroll_stm depth x (turn_of turn depth n))
          (λ n. tested_steps e (turn_of turn (depth + 1) n) q what.Loop h.0) (λ n. statement_steps x (turn_of turn depth n) h.1) t g k w
      statement_steps (Do q x e) turn h t g k w =
          do_turns_steps depth 0 (λ n. tested (unroll e (turn_of turn depth n)) q what.Loop)
          (λ n. unroll_stm depth x (turn_of turn depth n))
          (λ n. tested_steps e (turn_of turn depth n) q what.Loop h.1) (λ n. statement_steps x (turn_of turn depth n) h.0) t g k w
      statement_steps (For q f c n x) turn h t g k w =
          kept.via s p
          (turns_steps depth 0 (λ i. test_or_true c (turn_of turn (depth + 1) i) q)
          (λ i. with_step (unroll_stm depth x (turn_of turn depth i)) (dropped_if n (turn_of turn depth i)))
          (λ i. test_if_steps c (turn_of turn (depth + 1) i) q h.1)
          (λ i. step_steps (unroll_stm depth x (turn_of turn depth i)) (dropped_if n (turn_of turn depth i))
          (statement_steps x (turn_of turn depth i) h.3) (dropped_if_steps n (turn_of turn depth i) h.2)) t g k w)
          (λ l more v. start_steps f turn h.0 (loop depth q c n x turn t g).0 (loop depth q c n x turn t g).1 l v)
      statement_steps (Switch q e xs) turn h t g k w =
          switch_steps e turn q (unroll_stms depth xs turn) h.0 h.1 (block_steps xs turn h.2) t g k w
      statement_steps (Case n e) turn h t g k w = kept.made s p w
      statement_steps Default turn h t g k w = kept.made s p w
      statement_steps (Goto q n) turn h t g k w =
          kept.made s p (kept.good_put s p (Mark q (what.Goto n) (look n t.labels t.lost)) tt w)
      statement_steps Break turn h t g k w = kept.made s p w
      statement_steps Continue turn h t g k w = kept.made s p w
      statement_steps (Return q e) turn h t g k w = return_steps e turn q h t g k w
      statement_steps (Label n x) turn h t g k w = statement_steps x turn h t g k w

      pub block_steps : (xs : Stms) (turn : ℕ) → StatementsFit s p xs → Opens (unroll_stms depth xs turn)
      block_steps NoStms turn h t g k w = kept.made s p w
      block_steps (Stms' x xs) turn h t g k w =
          item_steps x (unroll_stm depth x turn) (unroll_stms depth xs turn) (statement_steps x turn h.0) (block_steps xs turn h.1) t g k w
