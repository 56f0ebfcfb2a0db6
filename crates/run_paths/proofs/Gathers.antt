-- What a run gathers in a list, as a loop sees it: one more behind those that it has.
use Rattle.std.proofs.Common.{◌≡◌, ℕ, ◌+◌, true, false, List, [], ◌∷◌, ◌++◌, Option, Some, None, Result, Ok, Err, refl, sym, ap, ◌∙◌, ◌<◌, length, get_or, drop, append_assoc}
use Rattle.std.proofs.lemmas.List.{at_drop_more}
use Rattle.sum_rows.specs.declared.row.ItemRows.{ItemRows}
use Rattle.sum_rows.specs.declared.row.Row.{Row}
use Rattle.sum_rows.specs.declared.row.Write.{Write}
use Rattle.run_store.specs.Concrete.{Cell}
use Rattle.sc_world.specs.Layout.{Spot, spot_at}
use Rattle.sc_world.specs.Occurrences.{is_out_path}
use Rattle.sc_world.specs.World.{World, Ended, Env, goes_on, done}
use Rattle.sc_world.specs.Known.{Locked, Outed, Written, with_locked, with_out, with_written, locked_item, out_item, follow_path, locks, outs, writes, spot_behind, is_lock, is_out_item}
use Rattle.run_paths.specs.Seen.{joined}

pub joined_none : {A : Type 0} (r : Result (List A) Ended × World) → joined [] r ≡ r
joined_none (Ok xs, w) = refl
joined_none (Err e, w) = refl

pub joined_more : {A : Type 0} (front more : List A) (f : List A → List A) (r : Result (List A) Ended × World)
    → ((xs : List A) → f xs ≡ more ++ xs) → joined front (goes_on r (λ xs. done (f xs))) ≡ joined (front ++ more) r
joined_more front more f (Ok xs, w) h = ap (λ ys. (Ok ys, w)) (ap (λ ys. front ++ ys) (h xs) ∙ sym (append_assoc front more xs))
joined_more front more f (Err e, w) h = refl

locked_front : (rows : List Row) (bit : ℕ) (at : Option ℕ) (ls : List Locked) → with_locked rows bit at ls ≡ with_locked rows bit at [] ++ ls
locked_front rows bit None ls = refl
locked_front rows bit (Some at) ls = refl

out_front : (rows : List Row) (s : Spot) (at : Option ℕ) (os : List Outed) → with_out rows s at os ≡ with_out rows s at [] ++ os
out_front rows s None os = refl
out_front rows s (Some at) os = refl

written_front : (width : ℕ) (s : Spot) (at : Option ℕ) (ws : List Written) → with_written width s at ws ≡ with_written width s at [] ++ ws
written_front width s None ws = refl
written_front width s (Some at) ws = refl

pub locks_more : (env : Env) (vs : List Cell) (k : ℕ) (x : ItemRows) (xs : List ItemRows) (w : World) (at : Option ℕ) (front : List Locked)
    → locked_item env vs k x.item w ≡ (Ok at, w)
    → joined front (locks env vs k (x ∷ xs) w)
    ≡ joined (front ++ with_locked x.rows (spot_at env.layout k).bit at []) (locks env vs (spot_behind (is_lock x.item) k) xs w)
locks_more env vs k x xs w at front h =
    ap (λ r. joined front (goes_on r (λ at. λ w. goes_on (locks env vs (spot_behind (is_lock x.item) k) xs w) (λ ls. done (with_locked x.rows (spot_at env.layout k).bit at ls))))) h
    ∙ joined_more front (with_locked x.rows (spot_at env.layout k).bit at []) (with_locked x.rows (spot_at env.layout k).bit at)
    (locks env vs (spot_behind (is_lock x.item) k) xs w) (locked_front x.rows (spot_at env.layout k).bit at)

pub outs_more : (env : Env) (vs : List Cell) (k : ℕ) (x : ItemRows) (xs : List ItemRows) (w : World) (at : Option ℕ) (front : List Outed)
    → out_item env vs x.item w ≡ (Ok at, w)
    → joined front (outs env vs k (x ∷ xs) w)
    ≡ joined (front ++ with_out x.rows (spot_at env.layout k) at []) (outs env vs (spot_behind (is_out_item x.item) k) xs w)
outs_more env vs k x xs w at front h =
    ap (λ r. joined front (goes_on r (λ at. λ w. goes_on (outs env vs (spot_behind (is_out_item x.item) k) xs w) (λ os. done (with_out x.rows (spot_at env.layout k) at os))))) h
    ∙ joined_more front (with_out x.rows (spot_at env.layout k) at []) (with_out x.rows (spot_at env.layout k) at)
    (outs env vs (spot_behind (is_out_item x.item) k) xs w) (out_front x.rows (spot_at env.layout k) at)

pub writes_more : (env : Env) (vs : List Cell) (items : List ItemRows) (k : ℕ) (x : Write) (xs : List Write) (w : World) (at : Option ℕ) (front : List Written)
    → is_out_path items x.path ≡ false → follow_path env vs x.path w ≡ (Ok at, w)
    → joined front (writes env vs items k (x ∷ xs) w)
    ≡ joined (front ++ with_written x.width (spot_at env.layout k) at []) (writes env vs items (k + 1) xs w)
writes_more env vs items k x xs w at front other h =
    rw other
    (ap (λ r. joined front (goes_on r (λ at. λ w. goes_on (writes env vs items (k + 1) xs w) (λ ws. done (with_written x.width (spot_at env.layout k) at ws))))) h
    ∙ joined_more front (with_written x.width (spot_at env.layout k) at []) (with_written x.width (spot_at env.layout k) at)
    (writes env vs items (k + 1) xs w) (written_front x.width (spot_at env.layout k) at))

pub writes_past : (env : Env) (vs : List Cell) (items : List ItemRows) (k : ℕ) (x : Write) (xs : List Write) (w : World) (front : List Written)
    → is_out_path items x.path ≡ true
    → joined front (writes env vs items k (x ∷ xs) w) ≡ joined front (writes env vs items k xs w)
writes_past env vs items k x xs w front is = rw is refl

-- one turn of the loop
pub locks_turn : (env : Env) (vs : List Cell) (k k' : ℕ) (items : List ItemRows) (i : ℕ) (w : World) (at : Option ℕ) (front front' : List Locked) (x : ItemRows) (bit : ℕ)
    → i < length items → x ≡ get_or items i x → locked_item env vs k x.item w ≡ (Ok at, w)
    → front' ≡ front ++ with_locked x.rows bit at [] → bit ≡ (spot_at env.layout k).bit → k' ≡ spot_behind (is_lock x.item) k
    → joined front' (locks env vs k' (drop (i + 1) items) w) ≡ joined front (locks env vs k (drop i items) w)
locks_turn env vs k k' items i w at front front' x bit low is item pushed there next =
    rw (pushed, there, next)
    (sym (at_drop_more (λ xs. joined front (locks env vs k xs w)) items i x low
    ∙ (ap (λ y. joined front (locks env vs k (y ∷ drop (i + 1) items) w)) (sym is)
    ∙ locks_more env vs k x (drop (i + 1) items) w at front item)))

pub outs_turn : (env : Env) (vs : List Cell) (k k' : ℕ) (items : List ItemRows) (i : ℕ) (w : World) (at : Option ℕ) (front front' : List Outed) (x : ItemRows) (s : Spot)
    → i < length items → x ≡ get_or items i x → out_item env vs x.item w ≡ (Ok at, w)
    → front' ≡ front ++ with_out x.rows s at [] → s ≡ spot_at env.layout k → k' ≡ spot_behind (is_out_item x.item) k
    → joined front' (outs env vs k' (drop (i + 1) items) w) ≡ joined front (outs env vs k (drop i items) w)
outs_turn env vs k k' items i w at front front' x s low is item pushed there next =
    rw (pushed, there, next)
    (sym (at_drop_more (λ xs. joined front (outs env vs k xs w)) items i x low
    ∙ (ap (λ y. joined front (outs env vs k (y ∷ drop (i + 1) items) w)) (sym is)
    ∙ outs_more env vs k x (drop (i + 1) items) w at front item)))

pub ruleset gathers = (joined_none, locks_more, outs_more)

pub ruleset written = (writes_more, writes_past)
