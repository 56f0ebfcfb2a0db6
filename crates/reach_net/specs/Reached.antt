-- What the calls on rows of gates promise, for every choice.
use Rattle.std.specs.Prelude.{◌≡◌, ℕ, ◌≤◌, Bool, true, ◌&&◌, ◌||◌, List, length}
use Rattle.bit_net.specs.declared.nodes.Gate.{Gate}
use Rattle.bit_net.specs.declared.nodes.Node.{Node}
use Rattle.bit_net.specs.Runs.{Runs}
use Rattle.reach_net.specs.Walks.{holds_at, pointed, Reached, EachWide, gates_top, rows_top}

-- for every choice the gate of an object holds exactly where a walk leads to the object from one of the roots
pub record IsReached (ns : List Node) (points : List (List Gate)) (roots gates : List Gate) : Type 0 where
  pub wide : length gates ≡ length roots
  pub below : gates_top gates ≤ length ns
  pub sound : (choice v : ℕ → Bool) → Runs ns choice v → (t : ℕ) → holds_at v gates t ≡ true → Reached (pointed v points) (holds_at v roots) t
  pub complete : (choice v : ℕ → Bool) → Runs ns choice v → (t : ℕ) → Reached (pointed v points) (holds_at v roots) t → holds_at v gates t ≡ true

-- a row with what object k adds to it, which has the row next
pub record IsWidened (ns : List Node) (k : ℕ) (row next wider : List Gate) : Type 0 where
  pub wide : length wider ≡ length row
  pub below : gates_top wider ≤ length ns
  pub value : (choice v : ℕ → Bool) → Runs ns choice v → (j : ℕ) → holds_at v wider j ≡ (holds_at v row j || (holds_at v row k && holds_at v next j))

-- the objects found with what object k adds to them, where object i points to what row i has gates for
pub record IsFoundThrough (ns : List Node) (k : ℕ) (rows : List (List Gate)) (found wider : List Gate) : Type 0 where
  pub wide : length wider ≡ length found
  pub below : gates_top wider ≤ length ns
  pub value : (choice v : ℕ → Bool) → Runs ns choice v → (j : ℕ) → holds_at v wider j ≡ (holds_at v found j || (holds_at v found k && pointed v rows k j))

-- each row with what object k adds to it
pub record IsThrough (ns : List Node) (k : ℕ) (rows wider : List (List Gate)) : Type 0 where
  pub count : length wider ≡ length rows
  pub wide : EachWide (length rows) wider
  pub below : rows_top wider ≤ length ns
  pub value : (choice v : ℕ → Bool) → Runs ns choice v → (i j : ℕ) → pointed v wider i j ≡ (pointed v rows i j || (pointed v rows i k && pointed v rows k j))
