-- The layout of a function is closed.
use Rattle.std.proofs.Common.{ℕ, zero, suc, ◌+◌, ◌-◌, ◌<◌, Bool, true, false, ◌&&◌, List, [], ◌∷◌, nat_eq, arith}
use Rattle.std.specs.Prelude.{Option, Some, None, IfOk, Ok, Err}
use Rattle.sc_base.specs.declared.pos.NameId.{NameId}
use Rattle.sc_base.specs.declared.skip.LimitKind.TheVariants as limit
use Rattle.sum_rows.specs.declared.path.Step.TheVariants as step
use Rattle.sum_rows.specs.declared.row.Item.{Item}
use Rattle.sum_rows.specs.declared.row.Item.TheVariants as item
use Rattle.sum_rows.specs.declared.row.ItemRows.{ItemRows}
use Rattle.sum_rows.specs.declared.row.Summary.{Summary}
use Rattle.sum_rows.specs.declared.row.Write.{Write}
use Rattle.sc_world.specs.declared.run.Origin.{Origin}
use Rattle.sc_world.specs.declared.run.Origin.TheVariants as origin
use Rattle.sc_world.specs.Tree.{Ty, is_pointer, target_or_void}
use Rattle.sc_world.specs.Build.{Built}
use Rattle.sc_world.specs.Source.{Source, Member, Signature, Effect, Operation, Try, Allocate, Release, Ends, Expect, Known, Unknown, sum_at}
use Rattle.sc_world.specs.Gather.{Site, Found, gather_function, nothing_found}
use Rattle.sc_world.specs.Layout.{Layout, Location, no_layout}
use Rattle.sc_world.specs.Objects.{Chosen, CellsAndStates, Ground as Setting, Laying, root_or, add, stub, Layer, elements, member_named, members, Parts, NoParts, Elements, Members, parts_of, lay_parts, parts, object, whole, Behind, Object, Stub, set_target, follow_cell, follow_at, follow_all, follow_range, type_or_void, lay_params, lay_global, lay_globals, lay_locals, lay_literals, levels, gives_cells, gives_states, cell_bits, state_bits}
use Rattle.sc_world.specs.Objects as objects
use Rattle.sc_world.specs.Occurrences.{stubs_behind, call_object, object_if, occur_once, occur, occur_all, cell_at, cells_from, object_cells, result_bits, spot_of, state_spot, state_spots, param_spot, param_spots, param_type, out_object, out_spot, out_spots, pointer_spot, write_spot, write_spots, known_spots, known_callee, effect_bits, number_site, number_turns, number_all, is_out_path, is_zeroed}
use Rattle.sc_world.specs.Places.{lay_out, laid, places_of, places}
use Rattle.run_laws.specs.Proper.{IsClosed}
use Rattle.run_laws.proofs.Laying.{IsBelow, below_more, closed_from, After, Lays, Whatever, There, chain, gives, refuses, either, nexts, counts, takes, takes_if, pushes, looks, puts, pushes_occurrence, counts_occurrences, pushes_spot, counts_spots, looks_occurrence, puts_occurrence}

module _ (g : Setting) where
  abbrev Does : ℕ → Laying (Unit {0}) → Type 0
  Does b m = Lays b Whatever m

  -- Objects.

  adds : (b : ℕ) (c : Chosen) (root : Option ℕ) (t : Ty) (o : Origin) → Lays b There (add g.source c root t o)
  adds b c root t o =
      chain (nexts b)
      (λ at n le h. chain (takes_if n (gives_cells c && objects.is_cell t) (cell_bits g.source t))
      (λ bit n2 le2 _. chain (takes_if n2 (gives_states c) (state_bits g.source))
      (λ state n3 le3 _. chain
      (pushes n3 (record { type = Some t; origin = o; root = root_or root at; bit = bit; state = state; target = None }) tt)
      (λ _ n4 le4 less. gives {a = at} (λ m le5. omega (arith, h, le2, le3, less, le5))))))

  stubs : (b : ℕ) (o : Origin) → Lays b There (stub o)
  stubs b o =
      chain (nexts b)
      (λ at n le h. chain
      (pushes n (record { type = None; origin = o; root = at; bit = None; state = None; target = None }) tt)
      (λ _ n2 le2 less. gives {a = at} (λ m le3. omega (arith, h, less, le3))))

  -- a function that lays an object
  abbrev IsLayer : Layer → Type 0
  IsLayer part = (b : ℕ) (t : Ty) (o : Origin) → Lays b There (part t o)

  lays_elements : (part : Layer) → IsLayer part → (more b k at : ℕ) (t : Ty) → Does b (elements part more k at t)
  lays_elements part l zero b k at t = gives (λ _ _. tt)
  lays_elements part l (suc more) b k at t =
      chain (l b t (origin.Part at (step.Elem k))) (λ _ n le _. lays_elements part l more n (k + 1) at t)

  lays_member : (part : Layer) → IsLayer part → (b at : ℕ) (t : Ty) (n : Option NameId) → Does b (member_named part g.found at t n)
  lays_member part l b at t None = gives (λ _ _. tt)
  lays_member part l b at t (Some n) =
      either _ (chain (l b t (origin.Part at (step.Field n))) (λ _ _ _ _. gives (λ _ _. tt))) (gives (λ _ _. tt))

  lays_members : (part : Layer) → IsLayer part → (b at : ℕ) (ms : List Member) → Does b (members part g.found at ms)
  lays_members part l b at [] = gives (λ _ _. tt)
  lays_members part l b at (m ∷ ms) = chain (lays_member part l b at m.type m.name) (λ _ n le _. lays_members part l n at ms)

  lays_parts : (part : Layer) → IsLayer part → (b at : ℕ) (x : Parts) → Does b (lay_parts g.found part at x)
  lays_parts part l b at NoParts = gives (λ _ _. tt)
  lays_parts part l b at (Elements n t) = lays_elements part l n b 0 at t
  lays_parts part l b at (Members ms) = lays_members part l b at ms

  lays_object : (deep : ℕ) (c : Chosen) (root : Option ℕ) → IsLayer (object deep g c root)
  unfolding object
  lays_object zero c root b t o = refuses {e = limit.Locations}
  lays_object (suc deep) c root b t o =
      chain (adds b c root t o)
      (λ at n le h. chain
      (lays_parts (object deep g c (Some (root_or root at))) (lays_object deep c (Some (root_or root at))) n at (parts_of g.source t))
      (λ _ n2 le2 _. gives {a = at} (λ m le3. omega (arith, h, le2, le3))))

  lays_whole : (c : Chosen) → IsLayer (whole g c)
  lays_whole c b t o = lays_object 257 c None b t o

  -- What stands behind pointers.

  sets_target : (b at to : ℕ) → to < b → Does b (set_target at to)
  sets_target b at to less =
      chain (looks b at) (λ l n le _. puts n at (record l { target = Some to }) (omega (arith, less, le)))

  lays_behind : (b : ℕ) (f : Behind) (at : ℕ) (t : Ty) → Lays b There (objects.behind g f at t)
  lays_behind b (Object c) at t = lays_whole c b t (origin.Target at)
  lays_behind b Stub at t = stubs b (origin.Target at)

  follows_cell : (b : ℕ) (f : Behind) (at : ℕ) (l : Location) → Does b (follow_cell g f at l)
  follows_cell b f at l =
      either _ (chain (lays_behind b f at (target_or_void (type_or_void l.type))) (λ to n le h. sets_target n at to h)) (gives (λ _ _. tt))

  follows_all : (more b at : ℕ) (f : Behind) → Does b (follow_all more at g f)
  follows_all zero b at f = gives (λ _ _. tt)
  follows_all (suc more) b at f =
      chain (chain (looks b at) (λ l n le _. follows_cell n f at l)) (λ _ n le _. follows_all more n (at + 1) f)

  follows_range : (b from to : ℕ) (f : Behind) → Does b (follow_range from to g f)
  follows_range b from to f = follows_all (to - from) b from f

  -- Parameters, globals, locals, strings and functions.

  lays_params : (b k : ℕ) (ts : List Ty) → Does b (lay_params k ts g)
  lays_params b k [] = gives (λ _ _. tt)
  lays_params b k (t ∷ ts) = chain (lays_whole objects.Cells b t (origin.Param k)) (λ _ n _ _. lays_params n (k + 1) ts)

  lays_global : (b k : ℕ) (t : Ty) → Does b (lay_global g k t)
  lays_global b k t =
      either _ (chain (lays_whole CellsAndStates b t (origin.Global k)) (λ _ _ _ _. gives (λ _ _. tt))) (gives (λ _ _. tt))

  lays_globals : (b k : ℕ) (ts : List Ty) → Does b (lay_globals k ts g)
  lays_globals b k [] = gives (λ _ _. tt)
  lays_globals b k (t ∷ ts) = chain (lays_global b k t) (λ _ n _ _. lays_globals n (k + 1) ts)

  lays_locals : (b k : ℕ) (ts : List Ty) → Does b (lay_locals k ts g)
  lays_locals b k [] = gives (λ _ _. tt)
  lays_locals b k (t ∷ ts) = chain (lays_whole objects.Nothing b t (origin.Local k)) (λ _ n _ _. lays_locals n (k + 1) ts)

  lays_literals : (b : ℕ) (os : List Origin) → Does b (lay_literals os)
  lays_literals b [] = gives (λ _ _. tt)
  lays_literals b (o ∷ os) = chain (stubs b o) (λ _ n _ _. lays_literals n os)

  lays_levels : (reach b from to : ℕ) → Does b (levels reach from to g)
  lays_levels zero b from to = follows_range b from to Stub
  lays_levels (suc reach) b from to =
      chain (counts b)
      (λ start n _ _. chain (follows_range n from to (Object CellsAndStates))
      (λ _ n2 _ _. chain (counts n2) (λ end n3 _ _. lays_levels reach n3 start end)))

  -- Calls in their turns.

  lays_stubs : (b : ℕ) (c : Bool) (from to : ℕ) → Does b (stubs_behind c from to g)
  lays_stubs b true from to = gives (λ _ _. tt)
  lays_stubs b false from to = follows_range b from to Stub

  -- the object of a call, if it has one
  abbrev ThereIf : Option ℕ → ℕ → Type 0
  ThereIf o n = IsBelow n o

  lays_call_object : (b n : ℕ) (x : Site) → Lays b ThereIf (call_object g n x)
  lays_call_object b n x =
      chain (lays_whole objects.Nothing b x.object (origin.Call n))
      (λ at n1 _ h. chain (counts n1)
      (λ end n2 le2 _. chain (lays_stubs n2 (is_zeroed x.effect) at end)
      (λ _ n3 le3 _. gives {a = Some at} (λ m le4. omega (arith, h, le2, le3, le4)))))

  lays_object_if : (b : ℕ) (c : Bool) (n : ℕ) (x : Site) → Lays b ThereIf (object_if c g n x)
  lays_object_if b true n x = lays_call_object b n x
  lays_object_if b false n x = gives {a = None} (λ _ _. tt)

  occurs_once : (b k : ℕ) (x : Site) → Does b (occur_once g k x)
  occurs_once b k x =
      chain (counts_occurrences b)
      (λ n n1 _ _. chain (lays_object_if n1 (is_pointer x.result) n x)
      (λ o n2 _ h. pushes_occurrence n2 (record { site = k; object = o; bit = 0; spot = 0 }) h))

  occurs : (turns b k : ℕ) (x : Site) → Does b (occur turns g k x)
  occurs zero b k x = gives (λ _ _. tt)
  occurs (suc more) b k x = chain (occurs_once b k x) (λ _ n _ _. occurs more n k x)

  occurs_all : (b k : ℕ) (xs : List Site) → Does b (occur_all k xs g)
  occurs_all b k [] = gives (λ _ _. tt)
  occurs_all b k (x ∷ xs) = chain (occurs x.turns b k x) (λ _ n _ _. occurs_all n (k + 1) xs)

  -- Bits.

  takes_cell : (b at : ℕ) (l : Location) → IsBelow b l.target → Does b (cell_at g.source at l)
  takes_cell b at l h =
      either _
      (chain (takes b _) (λ k n le _. puts n at (record l { bit = Some k }) (below_more b n le l.target h)))
      (gives (λ _ _. tt))

  takes_cells : (more b at root : ℕ) → Does b (cells_from more at root g.source)
  takes_cells zero b at root = gives (λ _ _. tt)
  takes_cells (suc more) b at root =
      chain (chain (looks b at) (λ l n _ h. either (nat_eq l.root root) (takes_cell n at l h) (gives (λ _ _. tt))))
      (λ _ n _ _. takes_cells more n (at + 1) root)

  takes_object : (b : ℕ) (o : Option ℕ) → Does b (object_cells g.source o)
  takes_object b None = gives (λ _ _. tt)
  takes_object b (Some at) = chain (counts b) (λ n n1 _ _. takes_cells (n - at) n1 at at)

  takes_result : (b : ℕ) (x : Site) (k : ℕ) (o : Option ℕ) → Does b (result_bits g.source x k o)
  takes_result b x k o =
      either _ (chain (takes b _) (λ _ _ _ _. gives (λ _ _. tt)))
      (either _ (chain (takes b k) (λ _ n _ _. takes_object n o)) (gives (λ _ _. tt)))

  takes_spot : (b k : ℕ) → Does b (spot_of k)
  takes_spot b k = chain (takes b k) (λ bit n _ _. pushes_spot n bit None tt)

  takes_state : (b : ℕ) (x : Item) → Does b (state_spot g.source x)
  takes_state b (item.Lock p) = takes_spot b (1 + state_bits g.source)
  takes_state b item.Exit = gives (λ _ _. tt)
  takes_state b (item.Param n) = gives (λ _ _. tt)
  takes_state b (item.Out n) = gives (λ _ _. tt)

  takes_states : (b : ℕ) (xs : List ItemRows) → Does b (state_spots g.source xs)
  takes_states b [] = gives (λ _ _. tt)
  takes_states b (x ∷ xs) = chain (takes_state b x.item) (λ _ n _ _. takes_states n xs)

  takes_param : (b : ℕ) (x : Item) → Does b (param_spot x)
  takes_param b (item.Param n) = takes_spot b 2
  takes_param b item.Exit = gives (λ _ _. tt)
  takes_param b (item.Lock p) = gives (λ _ _. tt)
  takes_param b (item.Out n) = gives (λ _ _. tt)

  takes_params : (b : ℕ) (xs : List ItemRows) → Does b (param_spots xs)
  takes_params b [] = gives (λ _ _. tt)
  takes_params b (x ∷ xs) = chain (takes_param b x.item) (λ _ n _ _. takes_params n xs)

  lays_out_object : (b : ℕ) (f : Signature) (n k : ℕ) → Lays b There (out_object g f n k)
  lays_out_object b f n k =
      chain (lays_whole objects.Cells b (target_or_void (target_or_void (param_type f n))) (origin.Call k))
      (λ at n1 _ h. chain (counts n1)
      (λ end n2 le2 _. chain (follows_range n2 at end Stub)
      (λ _ n3 le3 _. gives {a = at} (λ m le4. omega (arith, h, le2, le3, le4)))))

  takes_out : (b : ℕ) (f : Signature) (k : ℕ) (x : Item) → Does b (out_spot g f k x)
  takes_out b f k (item.Out n) =
      chain (takes b 2) (λ bit n1 _ _. chain (lays_out_object n1 f n k) (λ at n2 _ h. pushes_spot n2 bit (Some at) h))
  takes_out b f k item.Exit = gives (λ _ _. tt)
  takes_out b f k (item.Lock p) = gives (λ _ _. tt)
  takes_out b f k (item.Param n) = gives (λ _ _. tt)

  takes_outs : (b : ℕ) (f : Signature) (k : ℕ) (xs : List ItemRows) → Does b (out_spots g f k xs)
  takes_outs b f k [] = gives (λ _ _. tt)
  takes_outs b f k (x ∷ xs) = chain (takes_out b f k x.item) (λ _ n _ _. takes_outs n f k xs)

  takes_pointer : (b k : ℕ) → Does b (pointer_spot k)
  takes_pointer b k =
      chain (stubs b (origin.Call k))
      (λ at n1 _ h. chain (takes n1 1) (λ bit n2 le2 _. pushes_spot n2 bit (Some at) (omega (arith, h, le2))))

  takes_write : (b : ℕ) (items : List ItemRows) (k : ℕ) (x : Write) → Does b (write_spot items k x)
  takes_write b items k x =
      either (is_out_path items x.path) (gives (λ _ _. tt)) (either (nat_eq x.width 0) (takes_pointer b k) (takes_spot b x.width))

  takes_writes : (b : ℕ) (items : List ItemRows) (k : ℕ) (xs : List Write) → Does b (write_spots items k xs)
  takes_writes b items k [] = gives (λ _ _. tt)
  takes_writes b items k (x ∷ xs) = chain (takes_write b items k x) (λ _ n _ _. takes_writes n items k xs)

  takes_known : (b k : ℕ) (f : Signature) (sum : Option Summary) → Does b (known_spots g k f sum)
  takes_known b k f None = gives (λ _ _. tt)
  takes_known b k f (Some sum) =
      chain (takes_states b sum.items)
      (λ _ n1 _ _. chain (takes_params n1 sum.items)
      (λ _ n2 _ _. chain (takes_outs n2 f k sum.items) (λ _ n3 _ _. takes_writes n3 sum.items k sum.writes)))

  takes_effect : (b k : ℕ) (x : Site) (o : Option ℕ) (e : Effect) → Does b (effect_bits g k x o e)
  takes_effect b k x o (Try m n) = chain (takes b 1) (λ _ _ _ _. gives (λ _ _. tt))
  takes_effect b k x o (Allocate true) = chain (takes b 1) (λ _ _ _ _. gives (λ _ _. tt))
  takes_effect b k x o (Allocate false) = chain (takes b 1) (λ _ n _ _. takes_object n o)
  takes_effect b k x o Unknown = takes_result b x 1 o
  takes_effect b k x o (Known m) =
      chain (takes_result b x 2 o) (λ _ n _ _. takes_known n k (known_callee g.source m) (sum_at g.source m))
  takes_effect b k x o (Operation m) = gives (λ _ _. tt)
  takes_effect b k x o Release = gives (λ _ _. tt)
  takes_effect b k x o Ends = gives (λ _ _. tt)
  takes_effect b k x o Expect = gives (λ _ _. tt)

  numbers_site : (b k : ℕ) (x : Site) → Does b (number_site g k x)
  numbers_site b k x =
      chain (looks_occurrence b k)
      (λ o n1 _ h. chain (takes n1 0)
      (λ bit n2 le2 _. chain (counts_spots n2)
      (λ spot n3 le3 _. chain (takes_effect n3 k x o.object x.effect)
      (λ _ n4 le4 _. puts_occurrence n4 k (record o { bit = bit; spot = spot })
      (below_more n1 n4 (omega (arith, le2, le3, le4)) o.object h)))))

  numbers_turns : (turns b k : ℕ) (x : Site) → Does b (number_turns turns g k x)
  numbers_turns zero b k x = gives (λ _ _. tt)
  numbers_turns (suc more) b k x = chain (numbers_site b k x) (λ _ n _ _. numbers_turns more n (k + 1) x)

  numbers_all : (b k : ℕ) (xs : List Site) → Does b (number_all k xs g)
  numbers_all b k [] = gives (λ _ _. tt)
  numbers_all b k (x ∷ xs) = chain (numbers_turns x.turns b k x) (λ _ n _ _. numbers_all n (k + x.turns) xs)

  lays : Does 0 (lay_out g)
  lays =
      chain (lays_params 0 0 g.source.params)
      (λ _ n1 _ _. chain (lays_globals n1 0 g.source.globals)
      (λ _ n2 _ _. chain (counts n2)
      (λ entered n3 _ _. chain (lays_locals n3 0 g.source.locals)
      (λ _ n4 _ _. chain (lays_literals n4 g.found.literals)
      (λ _ n5 _ _. chain (lays_levels g.source.reach n5 0 entered)
      (λ _ n6 _ _. chain (occurs_all n6 0 g.found.sites) (λ _ n7 _ _. numbers_all n7 0 g.found.sites)))))))

closed_laid : (r : Built Layout (Unit {0})) → After 0 Whatever r → IfOk (laid r) IsClosed
closed_laid (Ok (u, p)) h = closed_from p h.1
closed_laid (Err e) h = tt

laid_of : (s : Source) (r : Built Found (Unit {0})) → IfOk (places_of s r) IsClosed
laid_of s (Ok (u, f)) =
    closed_laid (lay_out (record { source = s; found = f }) (record no_layout { sites = f.sites }))
    ((lays (record { source = s; found = f })).by (record no_layout { sites = f.sites }) (omega arith)
    (record { targets = tt; objects = tt; spots = tt }))
laid_of s (Err e) = tt

pub layouts_closed : (s : Source) → IfOk (places s) IsClosed
layouts_closed s = laid_of s (gather_function s nothing_found)
