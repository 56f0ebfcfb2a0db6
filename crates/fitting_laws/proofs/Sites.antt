-- Laying out leaves the calls of the text as they are.
use Rattle.std.proofs.Common.{◌≡◌, ℕ, zero, suc, ◌+◌, ◌-◌, Bool, true, false, ◌&&◌, List, [], ◌∷◌, refl, ◌∙◌, nat_eq}
use Rattle.std.specs.Prelude.{Option, Some, None, Result, Ok, Err, nat_lt, length, if◌then◌else◌}
use Rattle.sc_base.specs.declared.pos.NameId.{NameId}
use Rattle.sc_base.specs.declared.skip.LimitKind.{LimitKind}
use Rattle.sc_base.specs.declared.skip.LimitKind.TheVariants as limit
use Rattle.sum_rows.specs.declared.path.Step.TheVariants as step
use Rattle.sum_rows.specs.declared.row.Item.{Item}
use Rattle.sum_rows.specs.declared.row.Item.TheVariants as item
use Rattle.sum_rows.specs.declared.row.ItemRows.{ItemRows}
use Rattle.sum_rows.specs.declared.row.Summary.{Summary}
use Rattle.sum_rows.specs.declared.row.Write.{Write}
use Rattle.sc_world.specs.declared.run.Origin.{Origin}
use Rattle.sc_world.specs.declared.run.Origin.TheVariants as origin
use Rattle.sc_world.specs.Tree.{Ty, is_pointer, target_or_void}
use Rattle.sc_world.specs.Build.{Built, goes_on, ◌>>=◌, done}
use Rattle.sc_world.specs.Source.{Source, Member, Signature, Effect, Operation, Try, Allocate, Release, Ends, Expect, Known, Unknown, sum_at}
use Rattle.sc_world.specs.Gather.{Site}
use Rattle.sc_world.specs.Layout.{Layout, Location, Occurrence}
use Rattle.sc_world.specs.Objects.{Chosen, CellsAndStates, Ground, Laying, Layer, root_or, add, stub, elements, member_named, members, Parts, NoParts, Elements, Members, parts_of, lay_parts, object, whole, Behind, Object, Stub, set_target, follow_cell, follow_at, follow_all, follow_range, type_or_void, lay_params, lay_global, lay_globals, lay_locals, lay_literals, levels, gives_cells, gives_states, cell_bits, state_bits, next, most_locations, count, take_bits, push, put_at, location_now, bits_if}
use Rattle.sc_world.specs.Objects as objects
use Rattle.sc_world.specs.Occurrences.{stubs_behind, object_if, occur_once, occur, occur_all, cell_at, cell_if, cells_from, object_cells, result_bits, spot_of, state_spot, state_spots, param_spot, param_spots, param_type, out_object, out_spot, out_spots, pointer_spot, write_spot, write_spots, known_spots, known_callee, effect_bits, number_site, number_turns, number_all, is_out_path, is_zeroed, push_occurrence, occurrences_now, push_spot, spots_now, occurrence_now, put_occurrence}
use Rattle.sc_world.specs.Places.{lay_out}

abbrev pub Keeps : {A : Type 0} → Layout → Built Layout A → Type 0
Keeps p (Ok (a, q)) = q.sites ≡ p.sites
Keeps p (Err e) = Unit {0}

pub record Does {A : Type 0} (m : Laying A) : Type 0 where
  pub by : (p : Layout) → Keeps p (m p)

over : {A : Type 0} (p q : Layout) (r : Built Layout A) → q.sites ≡ p.sites → Keeps q r → Keeps p r
over p q (Ok (a, z)) e h = h ∙ e
over p q (Err k) e h = tt

behind : {A B : Type 0} (p : Layout) (r : Built Layout A) (k : A → Laying B) → Keeps p r → ((a : A) → Does (k a)) → Keeps p (goes_on r k)
behind p (Ok (a, q)) k h l = over p q (k a q) h ((l a).by q)
behind p (Err e) k h l = tt

chain : {A B : Type 0} {m : Laying A} {k : A → Laying B} → Does m → ((a : A) → Does (k a)) → Does (m >>= k)
chain {m = m} {k = k} l h = record { by = λ p. behind p (m p) k (l.by p) h }

gives : {A : Type 0} {a : A} → Does (done a)
gives = record { by = λ p. refl }

either : {A : Type 0} {m n : Laying A} (c : Bool) → Does m → Does n → Does (if c then m else n)
either true l h = l
either false l h = h

next_by : (b : Bool) (p : Layout) → Keeps {A = ℕ} p (if b then Ok (length p.locations, p) else Err limit.Locations)
next_by true p = refl
next_by false p = tt

nexts : Does next
nexts = record { by = λ p. next_by (nat_lt (length p.locations) most_locations) p }

counts : Does count
counts = record { by = λ p. refl }

takes : (n : ℕ) → Does (take_bits n)
takes n = record { by = λ p. refl }

takes_if : (c : Bool) (n : ℕ) → Does (bits_if c n)
takes_if true n = chain (takes n) (λ k. gives)
takes_if false n = gives

pushes : (l : Location) → Does (push l)
pushes l = record { by = λ p. refl }

puts : (k : ℕ) (l : Location) → Does (put_at k l)
puts k l = record { by = λ p. refl }

looks : (k : ℕ) → Does (location_now k)
looks k = record { by = λ p. refl }

pushes_occurrence : (o : Occurrence) → Does (push_occurrence o)
pushes_occurrence o = record { by = λ p. refl }

counts_occurrences : Does occurrences_now
counts_occurrences = record { by = λ p. refl }

pushes_spot : (bit : ℕ) (o : Option ℕ) → Does (push_spot bit o)
pushes_spot bit o = record { by = λ p. refl }

counts_spots : Does spots_now
counts_spots = record { by = λ p. refl }

looks_occurrence : (k : ℕ) → Does (occurrence_now k)
looks_occurrence k = record { by = λ p. refl }

puts_occurrence : (k : ℕ) (o : Occurrence) → Does (put_occurrence k o)
puts_occurrence k o = record { by = λ p. refl }

module _ (g : Ground) where
  adds : (c : Chosen) (root : Option ℕ) (t : Ty) (o : Origin) → Does (add g.source c root t o)
  adds c root t o =
      chain nexts
      (λ at. chain (takes_if (gives_cells c && objects.is_cell t) (cell_bits g.source t))
      (λ bit. chain (takes_if (gives_states c) (state_bits g.source))
      (λ state. chain
      (pushes (record { type = Some t; origin = o; root = root_or root at; bit = bit; state = state; target = None }))
      (λ _. gives {a = at}))))

  stubs : (o : Origin) → Does (stub o)
  stubs o =
      chain nexts
      (λ at. chain (pushes (record { type = None; origin = o; root = at; bit = None; state = None; target = None })) (λ _. gives {a = at}))

  abbrev IsLayer : Layer → Type 0
  IsLayer part = (t : Ty) (o : Origin) → Does (part t o)

  lays_elements : (part : Layer) → IsLayer part → (more k at : ℕ) (t : Ty) → Does (elements part more k at t)
  lays_elements part l zero k at t = gives
  lays_elements part l (suc more) k at t = chain (l t (origin.Part at (step.Elem k))) (λ _. lays_elements part l more (k + 1) at t)

  lays_member : (part : Layer) → IsLayer part → (at : ℕ) (t : Ty) (n : Option NameId) → Does (member_named part g.found at t n)
  lays_member part l at t None = gives
  lays_member part l at t (Some n) = either _ (chain (l t (origin.Part at (step.Field n))) (λ _. gives)) gives

  lays_members : (part : Layer) → IsLayer part → (at : ℕ) (ms : List Member) → Does (members part g.found at ms)
  lays_members part l at [] = gives
  lays_members part l at (m ∷ ms) = chain (lays_member part l at m.type m.name) (λ _. lays_members part l at ms)

  lays_parts : (part : Layer) → IsLayer part → (at : ℕ) (x : Parts) → Does (lay_parts g.found part at x)
  lays_parts part l at NoParts = gives
  lays_parts part l at (Elements n t) = lays_elements part l n 0 at t
  lays_parts part l at (Members ms) = lays_members part l at ms

  lays_object : (deep : ℕ) (c : Chosen) (root : Option ℕ) → IsLayer (object deep g c root)
  unfolding object
  lays_object zero c root t o = record { by = λ p. tt }
  lays_object (suc deep) c root t o =
      chain (adds c root t o)
      (λ at. chain
      (lays_parts (object deep g c (Some (root_or root at))) (lays_object deep c (Some (root_or root at))) at (parts_of g.source t))
      (λ _. gives {a = at}))

  lays_whole : (c : Chosen) → IsLayer (whole g c)
  lays_whole c t o = lays_object 257 c None t o

  lays_behind : (f : Behind) (at : ℕ) (t : Ty) → Does (objects.behind g f at t)
  lays_behind (Object c) at t = lays_whole c t (origin.Target at)
  lays_behind Stub at t = stubs (origin.Target at)

  sets_target : (at to : ℕ) → Does (set_target at to)
  sets_target at to = chain (looks at) (λ l. puts at (record l { target = Some to }))

  follows_cell : (f : Behind) (at : ℕ) (l : Location) → Does (follow_cell g f at l)
  follows_cell f at l =
      either _ (chain (lays_behind f at (target_or_void (type_or_void l.type))) (λ to. sets_target at to)) gives

  follows_all : (more at : ℕ) (f : Behind) → Does (follow_all more at g f)
  follows_all zero at f = gives
  follows_all (suc more) at f = chain (chain (looks at) (λ l. follows_cell f at l)) (λ _. follows_all more (at + 1) f)

  follows_range : (from to : ℕ) (f : Behind) → Does (follow_range from to g f)
  follows_range from to f = follows_all (to - from) from f

  lays_params : (k : ℕ) (ts : List Ty) → Does (lay_params k ts g)
  lays_params k [] = gives
  lays_params k (t ∷ ts) = chain (lays_whole objects.Cells t (origin.Param k)) (λ _. lays_params (k + 1) ts)

  lays_global : (k : ℕ) (t : Ty) → Does (lay_global g k t)
  lays_global k t = either _ (chain (lays_whole CellsAndStates t (origin.Global k)) (λ _. gives)) gives

  lays_globals : (k : ℕ) (ts : List Ty) → Does (lay_globals k ts g)
  lays_globals k [] = gives
  lays_globals k (t ∷ ts) = chain (lays_global k t) (λ _. lays_globals (k + 1) ts)

  lays_locals : (k : ℕ) (ts : List Ty) → Does (lay_locals k ts g)
  lays_locals k [] = gives
  lays_locals k (t ∷ ts) = chain (lays_whole objects.Nothing t (origin.Local k)) (λ _. lays_locals (k + 1) ts)

  lays_literals : (os : List Origin) → Does (lay_literals os)
  lays_literals [] = gives
  lays_literals (o ∷ os) = chain (stubs o) (λ _. lays_literals os)

  lays_levels : (reach from to : ℕ) → Does (levels reach from to g)
  lays_levels zero from to = follows_range from to Stub
  lays_levels (suc reach) from to =
      chain counts
      (λ start. chain (follows_range from to (Object CellsAndStates)) (λ _. chain counts (λ end. lays_levels reach start end)))

  lays_stubs : (c : Bool) (from to : ℕ) → Does (stubs_behind c from to g)
  lays_stubs true from to = gives
  lays_stubs false from to = follows_range from to Stub

  lays_object_if : (c : Bool) (n : ℕ) (x : Site) → Does (object_if c g n x)
  lays_object_if true n x =
      chain (lays_whole objects.Nothing x.object (origin.Call n))
      (λ at. chain counts (λ end. chain (lays_stubs (is_zeroed x.effect) at end) (λ _. gives {a = Some at})))
  lays_object_if false n x = gives

  occurs_once : (k : ℕ) (x : Site) → Does (occur_once g k x)
  occurs_once k x =
      chain counts_occurrences
      (λ n. chain (lays_object_if (is_pointer x.result) n x)
      (λ o. pushes_occurrence (record { site = k; object = o; bit = 0; spot = 0 })))

  occurs : (turns k : ℕ) (x : Site) → Does (occur turns g k x)
  occurs zero k x = gives
  occurs (suc more) k x = chain (occurs_once k x) (λ _. occurs more k x)

  occurs_all : (k : ℕ) (xs : List Site) → Does (occur_all k xs g)
  occurs_all k [] = gives
  occurs_all k (x ∷ xs) = chain (occurs x.turns k x) (λ _. occurs_all (k + 1) xs)

  takes_cell : (at : ℕ) (l : Location) → Does (cell_at g.source at l)
  takes_cell at l = either _ (chain (takes _) (λ k. puts at (record l { bit = Some k }))) gives

  takes_cells : (more at root : ℕ) → Does (cells_from more at root g.source)
  takes_cells zero at root = gives
  takes_cells (suc more) at root =
      chain (chain (looks at) (λ l. either (nat_eq l.root root) (takes_cell at l) gives)) (λ _. takes_cells more (at + 1) root)

  takes_object : (o : Option ℕ) → Does (object_cells g.source o)
  takes_object None = gives
  takes_object (Some at) = chain counts (λ n. takes_cells (n - at) at at)

  takes_result : (x : Site) (k : ℕ) (o : Option ℕ) → Does (result_bits g.source x k o)
  takes_result x k o = either _ (chain (takes _) (λ _. gives)) (either _ (chain (takes k) (λ _. takes_object o)) gives)

  takes_spot : (k : ℕ) → Does (spot_of k)
  takes_spot k = chain (takes k) (λ bit. pushes_spot bit None)

  takes_state : (x : Item) → Does (state_spot g.source x)
  takes_state (item.Lock p) = takes_spot (1 + state_bits g.source)
  takes_state item.Exit = gives
  takes_state (item.Param n) = gives
  takes_state (item.Out n) = gives

  takes_states : (xs : List ItemRows) → Does (state_spots g.source xs)
  takes_states [] = gives
  takes_states (x ∷ xs) = chain (takes_state x.item) (λ _. takes_states xs)

  takes_param : (x : Item) → Does (param_spot x)
  takes_param (item.Param n) = takes_spot 2
  takes_param item.Exit = gives
  takes_param (item.Lock p) = gives
  takes_param (item.Out n) = gives

  takes_params : (xs : List ItemRows) → Does (param_spots xs)
  takes_params [] = gives
  takes_params (x ∷ xs) = chain (takes_param x.item) (λ _. takes_params xs)

  lays_out_object : (f : Signature) (n k : ℕ) → Does (out_object g f n k)
  lays_out_object f n k =
      chain (lays_whole objects.Cells (target_or_void (target_or_void (param_type f n))) (origin.Call k))
      (λ at. chain counts (λ end. chain (follows_range at end Stub) (λ _. gives {a = at})))

  takes_out : (f : Signature) (k : ℕ) (x : Item) → Does (out_spot g f k x)
  takes_out f k (item.Out n) = chain (takes 2) (λ bit. chain (lays_out_object f n k) (λ at. pushes_spot bit (Some at)))
  takes_out f k item.Exit = gives
  takes_out f k (item.Lock p) = gives
  takes_out f k (item.Param n) = gives

  takes_outs : (f : Signature) (k : ℕ) (xs : List ItemRows) → Does (out_spots g f k xs)
  takes_outs f k [] = gives
  takes_outs f k (x ∷ xs) = chain (takes_out f k x.item) (λ _. takes_outs f k xs)

  takes_pointer : (k : ℕ) → Does (pointer_spot k)
  takes_pointer k = chain (stubs (origin.Call k)) (λ at. chain (takes 1) (λ bit. pushes_spot bit (Some at)))

  takes_write : (items : List ItemRows) (k : ℕ) (x : Write) → Does (write_spot items k x)
  takes_write items k x = either (is_out_path items x.path) gives (either (nat_eq x.width 0) (takes_pointer k) (takes_spot x.width))

  takes_writes : (items : List ItemRows) (k : ℕ) (xs : List Write) → Does (write_spots items k xs)
  takes_writes items k [] = gives
  takes_writes items k (x ∷ xs) = chain (takes_write items k x) (λ _. takes_writes items k xs)

  takes_known : (k : ℕ) (f : Signature) (sum : Option Summary) → Does (known_spots g k f sum)
  takes_known k f None = gives
  takes_known k f (Some sum) =
      chain (takes_states sum.items)
      (λ _. chain (takes_params sum.items) (λ _. chain (takes_outs f k sum.items) (λ _. takes_writes sum.items k sum.writes)))

  takes_effect : (k : ℕ) (x : Site) (o : Option ℕ) (e : Effect) → Does (effect_bits g k x o e)
  takes_effect k x o (Try m n) = chain (takes 1) (λ _. gives)
  takes_effect k x o (Allocate true) = chain (takes 1) (λ _. gives)
  takes_effect k x o (Allocate false) = chain (takes 1) (λ _. takes_object o)
  takes_effect k x o Unknown = takes_result x 1 o
  takes_effect k x o (Known m) = chain (takes_result x 2 o) (λ _. takes_known k (known_callee g.source m) (sum_at g.source m))
  takes_effect k x o (Operation m) = gives
  takes_effect k x o Release = gives
  takes_effect k x o Ends = gives
  takes_effect k x o Expect = gives

  numbers_site : (k : ℕ) (x : Site) → Does (number_site g k x)
  numbers_site k x =
      chain (looks_occurrence k)
      (λ o. chain (takes 0)
      (λ bit. chain counts_spots
      (λ spot. chain (takes_effect k x o.object x.effect) (λ _. puts_occurrence k (record o { bit = bit; spot = spot })))))

  numbers_turns : (turns k : ℕ) (x : Site) → Does (number_turns turns g k x)
  numbers_turns zero k x = gives
  numbers_turns (suc more) k x = chain (numbers_site k x) (λ _. numbers_turns more (k + 1) x)

  numbers_all : (k : ℕ) (xs : List Site) → Does (number_all k xs g)
  numbers_all k [] = gives
  numbers_all k (x ∷ xs) = chain (numbers_turns x.turns k x) (λ _. numbers_all (k + x.turns) xs)

  pub sites_stay : Does (lay_out g)
  sites_stay =
      chain (lays_params 0 g.source.params)
      (λ _. chain (lays_globals 0 g.source.globals)
      (λ _. chain counts
      (λ entered. chain (lays_locals 0 g.source.locals)
      (λ _. chain (lays_literals g.found.literals)
      (λ _. chain (lays_levels g.source.reach 0 entered)
      (λ _. chain (occurs_all 0 g.found.sites) (λ _. numbers_all 0 g.found.sites)))))))
