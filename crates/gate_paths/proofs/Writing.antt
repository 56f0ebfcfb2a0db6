-- The written cells of a summary, gathered one behind the other.
use Rattle.std.proofs.Common.{◌≡◌, ℕ, ◌+◌, ◌<◌, ◌≤◌, Bool, true, false, not, if◌then◌else◌, List, [], ◌∷◌, ◌++◌, length, take, get_or, Result, Ok, Err, refl, sym, ◌∙◌, ap, subst, arith}
use Rattle.std.specs.Prelude.{Option, Some, None}
use Rattle.std.proofs.lemmas.List.{take_more, take_all, append-nil}
use Rattle.std.proofs.lemmas.List.Elements.{All-nil, All-push, All-weaker}
use Rattle.bit_net.specs.declared.nodes.Node.{Node}
use Rattle.bit_net.specs.Runs.{Grown}
use Rattle.gl_sets.specs.Guards.{guards_top}
use Rattle.gl_store.specs.declared.stores.Location.{Location}
use Rattle.gl_store.specs.declared.values.Val.{Val}
use Rattle.run_store.specs.Concrete.{Cell}
use Rattle.sum_rows.specs.declared.row.ItemRows.{ItemRows}
use Rattle.sum_rows.specs.declared.row.Write.{Write}
use Rattle.sc_world.specs.Layout.{Layout, Spot, spot_at}
use Rattle.sc_world.specs.Occurrences.{is_out_path}
use Rattle.sc_world.specs.World.{World, Ended, Env, Run, ◌>>=◌, goes_on, done}
use Rattle.sc_world.specs.Known as known
use Rattle.sc_world.specs.Known.{follow_path, spot_behind, with_written, writes}
use Rattle.layout_base.specs.Seen.{spot_of}
use Rattle.gate_runs.specs.Stands.{Does}
use Rattle.gate_runs.proofs.Bind.{bind, does_done}
use Rattle.gate_steps.proofs.Known.{does_same}
use Rattle.gate_places.specs.Places.{env_of}
use Rattle.gate_paths.specs.declared.cells.Written.{Written}
use Rattle.gate_paths.specs.Paths.{FollowsPath, IsFound}
use Rattle.gate_paths.specs.Gathered.{Shows}
use Rattle.gate_paths.specs.Cells.{AddsWrite, AreCellsBelow, FindsWrites, put_written, spot_behind_cells, spot_of_cell, where_cell, write_more}
use Rattle.gate_paths.proofs.Gathering.{behind, gathered, gathered_push, more, next_found, shows_none, shows_push}

written_front : (width : ℕ) (s : Spot) (o : Option ℕ) (ws : List known.Written) → with_written width s o ws ≡ with_written width s o [] ++ ws
written_front width s None ws = refl
written_front width s (Some at) ws = refl

module _ (env : Env) (cs : List Cell) (items : List ItemRows) where
  abbrev cell_of : ℕ → Write → Run (Option ℕ)
  cell_of k x = if is_out_path items x.path then done None else follow_path env cs x.path

  abbrev next_cell : Write → ℕ → ℕ
  next_cell x k = spot_behind (not (is_out_path items x.path)) k

  abbrev put_cell : Write → ℕ → Option ℕ → List known.Written → List known.Written
  put_cell x k o ws = if is_out_path items x.path then ws else with_written x.width (spot_at env.layout k) o ws

  cell_front : (x : Write) (k : ℕ) (o : Option ℕ) (ws : List known.Written) → put_cell x k o ws ≡ put_cell x k o [] ++ ws
  cell_front x k o ws = by (is_out_path items x.path)
    where
      by : (b : Bool) → (if b then ws else with_written x.width (spot_at env.layout k) o ws) ≡
          (if b then [] else with_written x.width (spot_at env.layout k) o []) ++ ws
      by true = refl
      by false = written_front x.width (spot_at env.layout k) o ws

  rest_same : (r : Result (List known.Written) Ended × World) → r ≡ goes_on r (λ ws. done ws)
  rest_same (Ok ws, w) = refl
  rest_same (Err e, w) = refl

  writes_are : (xs : List Write) (k : ℕ) (w : World) → writes env cs items k xs w ≡ gathered cell_of next_cell put_cell cell_front k xs w
  writes_are [] k w = refl
  writes_are (x ∷ xs) k w = by (is_out_path items x.path) refl (λ j u. writes_are xs j u)
    where
      by : (b : Bool) → is_out_path items x.path ≡ b
          → ((j : ℕ) (u : World) → writes env cs items j xs u ≡ gathered cell_of next_cell put_cell cell_front j xs u)
          → writes env cs items k (x ∷ xs) w ≡ gathered cell_of next_cell put_cell cell_front k (x ∷ xs) w
      by true is rest = rw is (rest k w ∙ rest_same (gathered cell_of next_cell put_cell cell_front k xs w))
      by false is rest =
          rw is
          (next_found env cs (with_written x.width (spot_at env.layout k)) (follow_path env cs x.path w) (writes env cs items (k + 1) xs)
          (gathered cell_of next_cell put_cell cell_front (k + 1) xs) (λ u. rest (k + 1) u))

  cells_behind : (xs : List Write) (k : ℕ) → behind cell_of next_cell put_cell cell_front k xs ≡ spot_behind_cells items k xs
  cells_behind [] k = refl
  cells_behind (x ∷ xs) k = cells_behind xs (next_cell x k)

  more_is : (x : Write) (k : ℕ) (ws : List known.Written) (w : World)
      → more cell_of next_cell put_cell cell_front k x ws w ≡ write_more env cs (spot_of_cell (is_out_path items x.path) k) x ws w
  more_is x k ws w = by (is_out_path items x.path) refl
    where
      by : (b : Bool) → is_out_path items x.path ≡ b → more cell_of next_cell put_cell cell_front k x ws w ≡ write_more env cs
          (spot_of_cell (is_out_path items x.path) k) x ws w
      by true is = rw is (ap (λ l. (Ok l, w)) (append-nil ws))
      by false is = rw is refl

  goes_same : (r : Result (List known.Written) Ended × World) (f g : List known.Written → Run (List known.Written))
      → ((ws : List known.Written) (w : World) → f ws w ≡ g ws w)
      → goes_on r f ≡ goes_on r g
  goes_same (Ok ws, w) f g h = h ws w
  goes_same (Err e, w) f g h = refl

  writes_push : (xs : List Write) (x : Write) (k : ℕ) (w : World)
      → (writes env cs items k xs >>= write_more env cs (spot_of_cell (is_out_path items x.path) (spot_behind_cells items k xs)) x) w ≡ writes env cs items k
      (xs ++ x ∷ []) w
  writes_push xs x k w =
      let j : ℕ = behind cell_of next_cell put_cell cell_front k xs in
      sym (writes_are (xs ++ x ∷ []) k w ∙ gathered_push cell_of next_cell put_cell cell_front xs x k w
      ∙ ap (λ r. goes_on r (more cell_of next_cell put_cell cell_front j x)) (sym (writes_are xs k w))
      ∙ goes_same (writes env cs items k xs w) (more cell_of next_cell put_cell cell_front j x)
      (write_more env cs (spot_of_cell (is_out_path items x.path) j) x) (more_is x j)
      ∙ ap (λ i. goes_on (writes env cs items k xs w) (write_more env cs (spot_of_cell (is_out_path items x.path) i) x)) (cells_behind xs k))

pub behind_more : (items : List ItemRows) (k : ℕ) (xs : List Write) (x : Write)
    → spot_behind_cells items k (xs ++ x ∷ []) ≡ spot_behind (not (is_out_path items x.path)) (spot_behind_cells items k xs)
behind_more items k [] x = refl
behind_more items k (y ∷ xs) x = behind_more items (spot_behind (not (is_out_path items y.path)) k) xs x

cells_weaker : (old ns : List Node) (xs : List Written) → length old ≤ length ns → AreCellsBelow old xs → AreCellsBelow ns xs
cells_weaker old ns xs longer h =
    All-weaker (λ x. guards_top (where_cell x) ≤ length old) (λ x. guards_top (where_cell x) ≤ length ns) (λ x low. omega (arith, low, longer)) xs h

pub adds_write : (n0 ns : List Node) (p : Layout) (l : List Location) (args : List Val) (spot : Option ℕ) (k : ℕ) (x : Write) (old new : List Written)
    (f : Written)
    → spot ≡ Some k → Grown n0 ns → AreCellsBelow n0 old → new ≡ old ++ f ∷ [] → f.width ≡ x.width → spot_of f.spot ≡ spot_at p k
    → FollowsPath ns p l args x.path (where_cell f)
    → AddsWrite ns p l args spot x old new
adds_write n0 ns p l args spot k x old new f off grown below pushed wide there follows =
    record {
      below =
          subst (AreCellsBelow ns) (sym pushed)
          (All-push (λ g. guards_top (where_cell g) ≤ length ns) old f (cells_weaker n0 ns old grown.longer below) follows.below);
      does = λ choice v runs gates s bits temps turn cs met ws shows.
          let env = env_of s p bits temps turn in
          subst (λ o. Does v l gates (write_more env cs o x ws) l gates (Shows v where_cell put_written new)) (sym off)
          (bind v l l l gates gates gates (follow_path env cs x.path) (λ o. done (ws ++ with_written x.width (spot_at p k) o [])) (IsFound v (where_cell f))
          (Shows v where_cell put_written new)
          (follows.does choice v runs gates s bits temps turn cs met)
          (λ o found.
          does_done v l gates (ws ++ with_written x.width (spot_at p k) o []) (Shows v where_cell put_written new)
          (subst (λ fs. Shows v where_cell put_written fs (ws ++ with_written x.width (spot_at p k) o [])) (sym pushed)
          (shows_push v where_cell put_written (λ g q gs. written_front g.width (spot_of g.spot) q gs) old ws (with_written x.width (spot_at p k) o []) f o
          shows found
          (ap (λ n. with_written n (spot_at p k) o []) (sym wide) ∙ ap (λ t. with_written f.width t o []) (sym there))))));
    }

pub adds_no_write : (ns : List Node) (p : Layout) (l : List Location) (args : List Val) (spot : Option ℕ) (x : Write) (fs : List Written) → spot ≡ None
    → AreCellsBelow ns fs
    → AddsWrite ns p l args spot x fs fs
adds_no_write ns p l args spot x fs on below =
    record {
      below = below;
      does = λ choice v runs gates s bits temps turn cs met ws shows.
          let env = env_of s p bits temps turn in
          subst (λ o. Does v l gates (write_more env cs o x ws) l gates (Shows v where_cell put_written fs)) (sym on)
          (does_done v l gates ws (Shows v where_cell put_written fs) shows);
    }

pub writes_none : (ns : List Node) (p : Layout) (l : List Location) (args : List Val) (items : List ItemRows) (k : ℕ) (cells : List Write) (fs : List Written)
    → fs ≡ []
    → FindsWrites ns p l args items k (take 0 cells) fs
writes_none ns p l args items k cells fs e =
    subst (λ gs. FindsWrites ns p l args items k [] gs) (sym e)
    (record {
      below = All-nil (λ f. guards_top (where_cell f) ≤ length ns);
      does = λ choice v runs gates s bits temps turn cs met. does_done v l gates [] (Shows v where_cell put_written []) (shows_none v where_cell put_written);
    })

pub writes_step : (n1 n2 : List Node) (p : Layout) (l : List Location) (args : List Val) (items : List ItemRows) (spot k : ℕ) (cells : List Write) (i : ℕ)
    (x : Write) (told : Bool) (here : Option ℕ)
    (old new : List Written) → i < length cells → x ≡ get_or cells i x → k ≡ spot_behind_cells items spot (take i cells) → told ≡ is_out_path items x.path
    → here ≡ spot_of_cell told k
    → Grown n1 n2 → FindsWrites n1 p l args items spot (take i cells) old → AddsWrite n2 p l args here x old new
    → FindsWrites n2 p l args items spot (take (i + 1) cells) new
writes_step n1 n2 p l args items spot k cells i x told here old new low is at asked there grown before one =
    let whole : take (i + 1) cells ≡ take i cells ++ x ∷ [] = take_more cells i x low ∙ ap (λ y. take i cells ++ y ∷ []) (sym is) in
    record {
      below = one.below;
      does = λ choice v runs gates s bits temps turn cs met.
          let env = env_of s p bits temps turn in
          let j : ℕ = spot_behind_cells items spot (take i cells) in
          let b : Bool = is_out_path items x.path in
          let same : here ≡ spot_of_cell b j = there ∙ ap (λ c. spot_of_cell c k) asked ∙ ap (spot_of_cell b) at in
          subst (λ xs. Does v l gates (writes env cs items spot xs) l gates (Shows v where_cell put_written new)) (sym whole)
          (does_same v l l gates gates (writes env cs items spot (take i cells) >>= write_more env cs (spot_of_cell b j) x)
          (writes env cs items spot (take i cells ++ x ∷ []))
          (Shows v where_cell put_written new) (writes_push env cs items (take i cells) x spot)
          (bind v l l l gates gates gates (writes env cs items spot (take i cells)) (write_more env cs (spot_of_cell b j) x)
          (Shows v where_cell put_written old)
          (Shows v where_cell put_written new)
          (before.does choice v (grown.runs choice v runs) gates s bits temps turn cs met)
          (λ ws shows.
          subst (λ o. Does v l gates (write_more env cs o x ws) l gates (Shows v where_cell put_written new)) same
          (one.does choice v runs gates s bits temps turn cs met ws shows))));
    }

pub writes_all : (ns : List Node) (p : Layout) (l : List Location) (args : List Val) (items : List ItemRows) (spot : ℕ) (cells : List Write) (i : ℕ)
    (fs : List Written) → length cells ≤ i
    → FindsWrites ns p l args items spot (take i cells) fs → FindsWrites ns p l args items spot cells fs
writes_all ns p l args items spot cells i fs high h = subst (λ xs. FindsWrites ns p l args items spot xs fs) (take_all i cells high) h
