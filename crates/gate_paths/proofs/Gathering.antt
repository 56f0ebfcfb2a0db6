-- The items of a summary, gathered one behind the other.
use Rattle.std.proofs.Common.{◌≡◌, ℕ, ◌+◌, ◌<◌, ◌≤◌, Bool, false, List, [], ◌∷◌, ◌++◌, length, take, get_or, Result, Ok, Err, refl, sym, ◌∙◌, ap, subst, arith, append_assoc}
use Rattle.std.specs.Prelude.{Option, Some, None}
use Rattle.std.proofs.lemmas.List.{take_more, take_all, append-nil}
use Rattle.std.proofs.lemmas.List.Elements.{All-nil, All-push, All-weaker}
use Rattle.bit_net.specs.declared.nodes.Node.{Node}
use Rattle.bit_net.specs.Runs.{Grown}
use Rattle.gl_sets.specs.declared.pairs.Pair.{Pair}
use Rattle.gl_sets.specs.Guards.{guards_top}
use Rattle.gl_store.specs.declared.values.Val.{Val}
use Rattle.gl_store.specs.declared.stores.Location.{Location}
use Rattle.run_store.specs.Concrete.{Cell}
use Rattle.sum_rows.specs.declared.path.Path.{Path}
use Rattle.sum_rows.specs.declared.row.Item.{Item}
use Rattle.sum_rows.specs.declared.row.Item.TheVariants as item
use Rattle.sum_rows.specs.declared.row.ItemRows.{ItemRows}
use Rattle.sum_rows.specs.declared.row.Row.{Row}
use Rattle.sc_world.specs.Layout.{Layout, Spot, spot_at}
use Rattle.sc_world.specs.World.{World, Ended, Env, Run, ◌>>=◌, goes_on, done}
use Rattle.sc_world.specs.Known.{Locked, Outed, locks, locked_item, outs, out_item, follow_path, spot_behind, is_lock, is_out_item, with_locked, with_out}
use Rattle.layout_base.specs.Seen.{spot_of}
use Rattle.gate_runs.specs.Stands.{Does}
use Rattle.gate_runs.proofs.Bind.{bind, does_done}
use Rattle.gate_steps.proofs.Known.{does_same}
use Rattle.gate_places.specs.Places.{env_of}
use Rattle.gate_paths.specs.declared.gathered.Found.{Found}
use Rattle.gate_paths.specs.Paths.{FollowsPath, FollowsOut, IsFound}
use Rattle.gate_paths.specs.Gathered.{AreFound, AreItemsBelow, Shows, AddsLock, AddsOut, FindsLocks, FindsOuts, found_list, lock_more, out_more, put_locked, put_out, spot_after, where_item}

-- Lists that runs gather: one thing more behind them.

module _ {X Y : Type 0} (item : ℕ → X → Run (Option ℕ)) (next : X → ℕ → ℕ) (put : X → ℕ → Option ℕ → List Y → List Y)
    (front : (x : X) (k : ℕ) (o : Option ℕ) (ys : List Y) → put x k o ys ≡ put x k o [] ++ ys) where
  abbrev pub gathered : ℕ → List X → Run (List Y)
  gathered k [] = done []
  gathered k (x ∷ xs) = item k x >>= λ o. gathered (next x k) xs >>= λ ys. done (put x k o ys)

  abbrev pub behind : ℕ → List X → ℕ
  behind k [] = k
  behind k (x ∷ xs) = behind (next x k) xs

  abbrev pub more : ℕ → X → List Y → Run (List Y)
  more k x ys = item k x >>= λ o. done (ys ++ put x k o [])

  put_more : (x : X) (k : ℕ) (o : Option ℕ) (ys zs : List Y) → put x k o (ys ++ zs) ≡ put x k o ys ++ zs
  put_more x k o ys zs =
      front x k o (ys ++ zs) ∙ sym (append_assoc (put x k o []) ys zs) ∙ ap (λ l. l ++ zs) (sym (front x k o ys))

  last_found : (y x : X) (k j : ℕ) (o : Option ℕ) (zs : List Y) (r : Result (Option ℕ) Ended × World)
      → goes_on (goes_on r (λ q. done (zs ++ put x j q []))) (λ ys. done (put y k o ys)) ≡ goes_on r (λ q. done (put y k o zs ++ put x j q []))
  last_found y x k j o zs (Ok q, w) = ap (λ l. (Ok l, w)) (put_more y k o zs (put x j q []))
  last_found y x k j o zs (Err e, w) = refl

  rest_found : (y x : X) (k j : ℕ) (o : Option ℕ) (r : Result (List Y) Ended × World)
      → goes_on (goes_on r (more j x)) (λ ys. done (put y k o ys)) ≡ goes_on (goes_on r (λ zs. done (put y k o zs))) (more j x)
  rest_found y x k j o (Ok zs, w) = last_found y x k j o zs (item j x w)
  rest_found y x k j o (Err e, w) = refl

  first_found : (y x : X) (xs : List X) (k : ℕ) (r : Result (Option ℕ) Ended × World)
      → ((w : World) → gathered (next y k) (xs ++ x ∷ []) w ≡ goes_on (gathered (next y k) xs w) (more (behind (next y k) xs) x))
      → goes_on r (λ o. gathered (next y k) (xs ++ x ∷ []) >>= λ ys. done (put y k o ys))
      ≡ goes_on (goes_on r (λ o. gathered (next y k) xs >>= λ ys. done (put y k o ys))) (more (behind (next y k) xs) x)
  first_found y x xs k (Ok o, w) h =
      ap (λ r. goes_on r (λ ys. done (put y k o ys))) (h w) ∙ rest_found y x k (behind (next y k) xs) o (gathered (next y k) xs w)
  first_found y x xs k (Err e, w) h = refl

  none_found : (x : X) (k : ℕ) (r : Result (Option ℕ) Ended × World)
      → goes_on r (λ o. done [] >>= λ ys. done (put x k o ys)) ≡ goes_on r (λ o. done ([] ++ put x k o []))
  none_found x k (Ok o, w) = refl
  none_found x k (Err e, w) = refl

  pub gathered_push : (xs : List X) (x : X) (k : ℕ) (w : World) → gathered k (xs ++ x ∷ []) w ≡ goes_on (gathered k xs w) (more (behind k xs) x)
  gathered_push [] x k w = none_found x k (item k x w)
  gathered_push (y ∷ xs) x k w = first_found y x xs k (item k y w) (λ u. gathered_push xs x (next y k) u)

-- What is shown: one thing more behind it.

are_pushed : {F : Type 0} (v : ℕ → Bool) (at : F → List Pair) (fs : List F) (os : List (Option ℕ)) (f : F) (o : Option ℕ) → AreFound v at fs os
    → IsFound v (at f) o
    → AreFound v at (fs ++ f ∷ []) (os ++ o ∷ [])
are_pushed v at [] [] f o h is = (is, tt)
are_pushed v at (g ∷ fs) (q ∷ os) f o h is = (h.0, are_pushed v at fs os f o h.1 is)
are_pushed v at [] (q ∷ os) f o h is = absurd h
are_pushed v at (g ∷ fs) [] f o h is = absurd h

list_pushed : {F Y : Type 0} (v : ℕ → Bool) (at : F → List Pair) (put : F → Option ℕ → List Y → List Y)
    → ((f : F) (o : Option ℕ) (ys : List Y) → put f o ys ≡ put f o [] ++ ys) → (fs : List F) (os : List (Option ℕ)) (f : F) (o : Option ℕ) → AreFound v at fs os
    → found_list put (fs ++ f ∷ []) (os ++ o ∷ []) ≡ found_list put fs os ++ put f o []
list_pushed v at put front [] [] f o h = refl
list_pushed v at put front (g ∷ fs) (q ∷ os) f o h =
    ap (put g q) (list_pushed v at put front fs os f o h.1)
    ∙ front g q (found_list put fs os ++ put f o []) ∙ sym (append_assoc (put g q []) (found_list put fs os) (put f o []))
    ∙ ap (λ l. l ++ put f o []) (sym (front g q (found_list put fs os)))
list_pushed v at put front [] (q ∷ os) f o h = absurd h
list_pushed v at put front (g ∷ fs) [] f o h = absurd h

pub shows_push : {F Y : Type 0} (v : ℕ → Bool) (at : F → List Pair) (put : F → Option ℕ → List Y → List Y)
    → ((f : F) (o : Option ℕ) (ys : List Y) → put f o ys ≡ put f o [] ++ ys) → (fs : List F) (ys zs : List Y) (f : F) (o : Option ℕ) → Shows v at put fs ys
    → IsFound v (at f) o → zs ≡ put f o [] → Shows v at put (fs ++ f ∷ []) (ys ++ zs)
shows_push v at put front fs ys zs f o h is same =
    record {
      places = h.places ++ o ∷ [];
      found = are_pushed v at fs h.places f o h.found is;
      is = ap (λ l. l ++ zs) h.is ∙ ap (λ l. found_list put fs h.places ++ l) same ∙ sym (list_pushed v at put front fs h.places f o h.found);
    }

pub shows_none : {F Y : Type 0} (v : ℕ → Bool) (at : F → List Pair) (put : F → Option ℕ → List Y → List Y) → Shows v at put [] []
shows_none v at put = record { places = []; found = tt; is = refl }

-- Items of locations.

locked_front : (rows : List Row) (bit : ℕ) (o : Option ℕ) (ls : List Locked) → with_locked rows bit o ls ≡ with_locked rows bit o [] ++ ls
locked_front rows bit None ls = refl
locked_front rows bit (Some at) ls = refl

out_front : (rows : List Row) (s : Spot) (o : Option ℕ) (os : List Outed) → with_out rows s o os ≡ with_out rows s o [] ++ os
out_front rows s None os = refl
out_front rows s (Some at) os = refl

module _ (env : Env) (cs : List Cell) where
  abbrev next_lock : ItemRows → ℕ → ℕ
  next_lock x k = spot_behind (is_lock x.item) k

  abbrev next_out : ItemRows → ℕ → ℕ
  next_out x k = spot_behind (is_out_item x.item) k

  abbrev lock_of : ℕ → ItemRows → Run (Option ℕ)
  lock_of k x = locked_item env cs k x.item

  abbrev out_of : ℕ → ItemRows → Run (Option ℕ)
  out_of k x = out_item env cs x.item

  abbrev put_lock : ItemRows → ℕ → Option ℕ → List Locked → List Locked
  put_lock x k o ls = with_locked x.rows (spot_at env.layout k).bit o ls

  abbrev put_outed : ItemRows → ℕ → Option ℕ → List Outed → List Outed
  put_outed x k o os = with_out x.rows (spot_at env.layout k) o os

  lock_front : (x : ItemRows) (k : ℕ) (o : Option ℕ) (ls : List Locked) → put_lock x k o ls ≡ put_lock x k o [] ++ ls
  lock_front x k o ls = locked_front x.rows (spot_at env.layout k).bit o ls

  outed_front : (x : ItemRows) (k : ℕ) (o : Option ℕ) (os : List Outed) → put_outed x k o os ≡ put_outed x k o [] ++ os
  outed_front x k o os = out_front x.rows (spot_at env.layout k) o os

  pub next_found : {Y : Type 0} (f : Option ℕ → List Y → List Y) (r : Result (Option ℕ) Ended × World) (a b : Run (List Y)) → ((w : World) → a w ≡ b w)
      → goes_on r (λ o. a >>= λ ys. done (f o ys)) ≡ goes_on r (λ o. b >>= λ ys. done (f o ys))
  next_found f (Ok o, w) a b h = ap (λ q. goes_on q (λ ys. done (f o ys))) (h w)
  next_found f (Err e, w) a b h = refl

  locks_are : (xs : List ItemRows) (k : ℕ) (w : World) → locks env cs k xs w ≡ gathered lock_of next_lock put_lock lock_front k xs w
  locks_are [] k w = refl
  locks_are (x ∷ xs) k w =
      next_found (put_lock x k) (lock_of k x w) (locks env cs (next_lock x k) xs) (gathered lock_of next_lock put_lock lock_front (next_lock x k) xs)
      (λ u. locks_are xs (next_lock x k) u)

  outs_are : (xs : List ItemRows) (k : ℕ) (w : World) → outs env cs k xs w ≡ gathered out_of next_out put_outed outed_front k xs w
  outs_are [] k w = refl
  outs_are (x ∷ xs) k w =
      next_found (put_outed x k) (out_of k x w) (outs env cs (next_out x k) xs) (gathered out_of next_out put_outed outed_front (next_out x k) xs)
      (λ u. outs_are xs (next_out x k) u)

  locks_behind : (xs : List ItemRows) (k : ℕ) → behind lock_of next_lock put_lock lock_front k xs ≡ spot_after is_lock k xs
  locks_behind [] k = refl
  locks_behind (x ∷ xs) k = locks_behind xs (next_lock x k)

  outs_behind : (xs : List ItemRows) (k : ℕ) → behind out_of next_out put_outed outed_front k xs ≡ spot_after is_out_item k xs
  outs_behind [] k = refl
  outs_behind (x ∷ xs) k = outs_behind xs (next_out x k)

  locks_push : (xs : List ItemRows) (x : ItemRows) (k : ℕ) (w : World)
      → (locks env cs k xs >>= lock_more env cs (spot_after is_lock k xs) x) w ≡ locks env cs k (xs ++ x ∷ []) w
  locks_push xs x k w =
      sym (locks_are (xs ++ x ∷ []) k w ∙ gathered_push lock_of next_lock put_lock lock_front xs x k w
      ∙ ap (λ r. goes_on r (more lock_of next_lock put_lock lock_front (behind lock_of next_lock put_lock lock_front k xs) x)) (sym (locks_are xs k w))
      ∙ ap (λ j. goes_on (locks env cs k xs w) (lock_more env cs j x)) (locks_behind xs k))

  outs_push : (xs : List ItemRows) (x : ItemRows) (k : ℕ) (w : World)
      → (outs env cs k xs >>= out_more env cs (spot_after is_out_item k xs) x) w ≡ outs env cs k (xs ++ x ∷ []) w
  outs_push xs x k w =
      sym (outs_are (xs ++ x ∷ []) k w ∙ gathered_push out_of next_out put_outed outed_front xs x k w
      ∙ ap (λ r. goes_on r (more out_of next_out put_outed outed_front (behind out_of next_out put_outed outed_front k xs) x)) (sym (outs_are xs k w))
      ∙ ap (λ j. goes_on (outs env cs k xs w) (out_more env cs j x)) (outs_behind xs k))

pub after_more : (test : Item → Bool) (k : ℕ) (xs : List ItemRows) (x : ItemRows)
    → spot_after test k (xs ++ x ∷ []) ≡ spot_behind (test x.item) (spot_after test k xs)
after_more test k [] x = refl
after_more test k (y ∷ xs) x = after_more test (spot_behind (test y.item) k) xs x

-- One item more.

items_weaker : (old ns : List Node) (fs : List Found) → length old ≤ length ns → AreItemsBelow old fs → AreItemsBelow ns fs
items_weaker old ns fs longer h =
    All-weaker (λ f. guards_top (where_item f) ≤ length old) (λ f. guards_top (where_item f) ≤ length ns) (λ f low. omega (arith, low, longer)) fs h

module _ (n0 ns : List Node) (p : Layout) (l : List Location) (args : List Val) (k : ℕ) (x : ItemRows) (old new : List Found) (f : Found)
    (grown : Grown n0 ns) (below : AreItemsBelow n0 old) (pushed : new ≡ old ++ f ∷ []) (rows : f.rows.now ≡ x.rows) (there : spot_of f.spot ≡ spot_at p k)
  where
    below_pushed : guards_top (where_item f) ≤ length ns → AreItemsBelow ns new
    below_pushed low =
        subst (AreItemsBelow ns) (sym pushed)
        (All-push (λ g. guards_top (where_item g) ≤ length ns) old f (items_weaker n0 ns old grown.longer below) low)

    pub adds_lock : (path : Path) → x.item ≡ item.Lock path → FollowsPath ns p l args path (where_item f) → AddsLock ns p l args k x old new
    adds_lock path is follows =
        record {
          below = below_pushed follows.below;
          does = λ choice v runs gates s bits temps turn cs met ls shows.
              let env = env_of s p bits temps turn in
              subst (λ i. Does v l gates (locked_item env cs k i >>= λ o. done (ls ++ with_locked x.rows (spot_at p k).bit o [])) l gates
              (Shows v where_item put_locked new)) (sym is)
              (bind v l l l gates gates gates (follow_path env cs path) (λ o. done (ls ++ with_locked x.rows (spot_at p k).bit o [])) (IsFound v (where_item f))
              (Shows v where_item put_locked new)
              (follows.does choice v runs gates s bits temps turn cs met)
              (λ o found.
              does_done v l gates (ls ++ with_locked x.rows (spot_at p k).bit o []) (Shows v where_item put_locked new)
              (subst (λ fs. Shows v where_item put_locked fs (ls ++ with_locked x.rows (spot_at p k).bit o [])) (sym pushed)
              (shows_push v where_item put_locked (λ g q gs. locked_front g.rows.now (spot_of g.spot).bit q gs) old ls
              (with_locked x.rows (spot_at p k).bit o []) f o shows found
              (ap (λ r. with_locked r (spot_at p k).bit o []) (sym rows) ∙ ap (λ t. with_locked f.rows.now t.bit o []) (sym there))))));
        }

    pub adds_out : (n : ℕ) → x.item ≡ item.Out n → FollowsOut ns p l args n (where_item f) → AddsOut ns p l args k x old new
    adds_out n is follows =
        record {
          below = below_pushed follows.below;
          does = λ choice v runs gates s bits temps turn cs met os shows.
              let env = env_of s p bits temps turn in
              subst (λ i. Does v l gates (out_item env cs i >>= λ o. done (os ++ with_out x.rows (spot_at p k) o [])) l gates (Shows v where_item put_out new))
              (sym is)
              (bind v l l l gates gates gates (out_item env cs (item.Out n)) (λ o. done (os ++ with_out x.rows (spot_at p k) o [])) (IsFound v (where_item f))
              (Shows v where_item put_out new)
              (follows.does choice v runs gates s bits temps turn cs met)
              (λ o found.
              does_done v l gates (os ++ with_out x.rows (spot_at p k) o []) (Shows v where_item put_out new)
              (subst (λ fs. Shows v where_item put_out fs (os ++ with_out x.rows (spot_at p k) o [])) (sym pushed)
              (shows_push v where_item put_out (λ g q gs. out_front g.rows.now (spot_of g.spot) q gs) old os (with_out x.rows (spot_at p k) o []) f o shows found
              (ap (λ r. with_out r (spot_at p k) o []) (sym rows) ∙ ap (λ t. with_out f.rows.now t o []) (sym there))))));
        }

-- another item adds nothing

keeps_shown : {Y : Type 0} (v : ℕ → Bool) (put : Found → Option ℕ → List Y → List Y) (fs : List Found) (ys : List Y) → Shows v where_item put fs ys
    → Shows v where_item put fs (ys ++ [])
keeps_shown v put fs ys h = subst (Shows v where_item put fs) (sym (append-nil ys)) h

no_lock : (env : Env) (cs : List Cell) (k : ℕ) (i : Item) (w : World) → is_lock i ≡ false → done None w ≡ locked_item env cs k i w
no_lock env cs k (item.Lock path) w other = cc
no_lock env cs k item.Exit w other = refl
no_lock env cs k (item.Param n) w other = refl
no_lock env cs k (item.Out n) w other = refl

no_out : (env : Env) (cs : List Cell) (i : Item) (w : World) → is_out_item i ≡ false → done None w ≡ out_item env cs i w
no_out env cs (item.Out n) w other = cc
no_out env cs item.Exit w other = refl
no_out env cs (item.Param n) w other = refl
no_out env cs (item.Lock path) w other = refl

pub adds_no_lock : (ns : List Node) (p : Layout) (l : List Location) (args : List Val) (k : ℕ) (x : ItemRows) (fs : List Found) → is_lock x.item ≡ false
    → AreItemsBelow ns fs
    → AddsLock ns p l args k x fs fs
adds_no_lock ns p l args k x fs other below =
    record {
      below = below;
      does = λ choice v runs gates s bits temps turn cs met ls shows.
          let env = env_of s p bits temps turn in
          does_same v l l gates gates (done (ls ++ [])) (lock_more env cs k x ls) (Shows v where_item put_locked fs)
          (λ w. ap (λ r. goes_on r (λ o. done (ls ++ with_locked x.rows (spot_at p k).bit o []))) (no_lock env cs k x.item w other))
          (does_done v l gates (ls ++ []) (Shows v where_item put_locked fs) (keeps_shown v put_locked fs ls shows));
    }

pub adds_no_out : (ns : List Node) (p : Layout) (l : List Location) (args : List Val) (k : ℕ) (x : ItemRows) (fs : List Found) → is_out_item x.item ≡ false
    → AreItemsBelow ns fs
    → AddsOut ns p l args k x fs fs
adds_no_out ns p l args k x fs other below =
    record {
      below = below;
      does = λ choice v runs gates s bits temps turn cs met os shows.
          let env = env_of s p bits temps turn in
          does_same v l l gates gates (done (os ++ [])) (out_more env cs k x os) (Shows v where_item put_out fs)
          (λ w. ap (λ r. goes_on r (λ o. done (os ++ with_out x.rows (spot_at p k) o []))) (no_out env cs x.item w other))
          (does_done v l gates (os ++ []) (Shows v where_item put_out fs) (keeps_shown v put_out fs os shows));
    }

-- The items so far.

pub locks_none : (ns : List Node) (p : Layout) (l : List Location) (args : List Val) (k : ℕ) (items : List ItemRows) (fs : List Found) → fs ≡ []
    → FindsLocks ns p l args k (take 0 items) fs
locks_none ns p l args k items fs e =
    subst (λ gs. FindsLocks ns p l args k [] gs) (sym e)
    (record {
      below = All-nil (λ f. guards_top (where_item f) ≤ length ns);
      does = λ choice v runs gates s bits temps turn cs met. does_done v l gates [] (Shows v where_item put_locked []) (shows_none v where_item put_locked);
    })

pub locks_step : (n1 n2 : List Node) (p : Layout) (l : List Location) (args : List Val) (spot k : ℕ) (items : List ItemRows) (i : ℕ) (x : ItemRows)
    (old new : List Found)
    → i < length items → x ≡ get_or items i x → k ≡ spot_after is_lock spot (take i items) → Grown n1 n2 → FindsLocks n1 p l args spot (take i items) old
    → AddsLock n2 p l args k x old new → FindsLocks n2 p l args spot (take (i + 1) items) new
locks_step n1 n2 p l args spot k items i x old new low is here grown before one =
    let more : take (i + 1) items ≡ take i items ++ x ∷ [] = take_more items i x low ∙ ap (λ y. take i items ++ y ∷ []) (sym is) in
    record {
      below = one.below;
      does = λ choice v runs gates s bits temps turn cs met.
          let env = env_of s p bits temps turn in
          let k' : ℕ = spot_after is_lock spot (take i items) in
          subst (λ xs. Does v l gates (locks env cs spot xs) l gates (Shows v where_item put_locked new)) (sym more)
          (does_same v l l gates gates (locks env cs spot (take i items) >>= lock_more env cs k' x) (locks env cs spot (take i items ++ x ∷ []))
          (Shows v where_item put_locked new)
          (locks_push env cs (take i items) x spot)
          (bind v l l l gates gates gates (locks env cs spot (take i items)) (lock_more env cs k' x) (Shows v where_item put_locked old)
          (Shows v where_item put_locked new)
          (before.does choice v (grown.runs choice v runs) gates s bits temps turn cs met)
          (λ ls shows.
          subst (λ j. Does v l gates (lock_more env cs j x ls) l gates (Shows v where_item put_locked new)) here
          (one.does choice v runs gates s bits temps turn cs met ls shows))));
    }

pub locks_all : (ns : List Node) (p : Layout) (l : List Location) (args : List Val) (spot : ℕ) (items : List ItemRows) (i : ℕ) (fs : List Found)
    → length items ≤ i
    → FindsLocks ns p l args spot (take i items) fs → FindsLocks ns p l args spot items fs
locks_all ns p l args spot items i fs high h = subst (λ xs. FindsLocks ns p l args spot xs fs) (take_all i items high) h

pub outs_none : (ns : List Node) (p : Layout) (l : List Location) (args : List Val) (k : ℕ) (items : List ItemRows) (fs : List Found) → fs ≡ []
    → FindsOuts ns p l args k (take 0 items) fs
outs_none ns p l args k items fs e =
    subst (λ gs. FindsOuts ns p l args k [] gs) (sym e)
    (record {
      below = All-nil (λ f. guards_top (where_item f) ≤ length ns);
      does = λ choice v runs gates s bits temps turn cs met. does_done v l gates [] (Shows v where_item put_out []) (shows_none v where_item put_out);
    })

pub outs_step : (n1 n2 : List Node) (p : Layout) (l : List Location) (args : List Val) (spot k : ℕ) (items : List ItemRows) (i : ℕ) (x : ItemRows)
    (old new : List Found)
    → i < length items → x ≡ get_or items i x → k ≡ spot_after is_out_item spot (take i items) → Grown n1 n2 → FindsOuts n1 p l args spot (take i items) old
    → AddsOut n2 p l args k x old new → FindsOuts n2 p l args spot (take (i + 1) items) new
outs_step n1 n2 p l args spot k items i x old new low is here grown before one =
    let more : take (i + 1) items ≡ take i items ++ x ∷ [] = take_more items i x low ∙ ap (λ y. take i items ++ y ∷ []) (sym is) in
    record {
      below = one.below;
      does = λ choice v runs gates s bits temps turn cs met.
          let env = env_of s p bits temps turn in
          let k' : ℕ = spot_after is_out_item spot (take i items) in
          subst (λ xs. Does v l gates (outs env cs spot xs) l gates (Shows v where_item put_out new)) (sym more)
          (does_same v l l gates gates (outs env cs spot (take i items) >>= out_more env cs k' x) (outs env cs spot (take i items ++ x ∷ []))
          (Shows v where_item put_out new)
          (outs_push env cs (take i items) x spot)
          (bind v l l l gates gates gates (outs env cs spot (take i items)) (out_more env cs k' x) (Shows v where_item put_out old)
          (Shows v where_item put_out new)
          (before.does choice v (grown.runs choice v runs) gates s bits temps turn cs met)
          (λ os shows.
          subst (λ j. Does v l gates (out_more env cs j x os) l gates (Shows v where_item put_out new)) here
          (one.does choice v runs gates s bits temps turn cs met os shows))));
    }

pub outs_all : (ns : List Node) (p : Layout) (l : List Location) (args : List Val) (spot : ℕ) (items : List ItemRows) (i : ℕ) (fs : List Found)
    → length items ≤ i
    → FindsOuts ns p l args spot (take i items) fs → FindsOuts ns p l args spot items fs
outs_all ns p l args spot items i fs high h = subst (λ xs. FindsOuts ns p l args spot xs fs) (take_all i items high) h
