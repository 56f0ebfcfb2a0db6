-- The rule that every step keeps. Each function has a stage, and from its claim on an owner, which
-- is the number of a seat. The words, the sets of each view and the content of each place follow.
use Rattle.std.specs.Prelude.{◌≡◌, ◌≢◌, ℕ, ◌+◌, ◌<◌, ◌≤◌, ◌==◌, Bool, true, false, ◌&&◌, List, length, slice_index}
use lib.ListN.{get_elem?}
use mathlib.Core.Option.{Option, some, none}
use Rattle.atomic_table.specs.Table.{State}
use Rattle.summary_db.specs.declared.knows.Knows.{Knows}
use Rattle.summary_db.specs.declared.place.Place.{Place}
use Rattle.summary_db.specs.Views.{member}
use Rattle.summary_db.specs.Places.{IsPlace, places_of}

-- how far a function has come: free, claimed, abandoned or published
pub data Stage : Type 0 where
  Free : Stage
  Held : Stage
  Lost : Stage
  Done : Stage

-- a function's word
abbrev pub word_of : Stage → ℕ
word_of Free = 0
word_of Held = 1
word_of Lost = 1
word_of Done = 2

abbrev pub is_held : Stage → Bool
is_held Free = false
is_held Held = true
is_held Lost = false
is_held Done = false

abbrev pub is_lost : Stage → Bool
is_lost Free = false
is_lost Held = false
is_lost Lost = true
is_lost Done = false

abbrev pub is_done : Stage → Bool
is_done Free = false
is_done Held = false
is_done Lost = false
is_done Done = true

-- what a place has: it is at home and empty, out with a seat, at home with its giver's output, or
-- at home with whatever is left in it
pub data Content : Type 0 where
  Empty : Content
  Out : Content
  Full : Content
  Used : Content

-- what a place has at the stages of its giver and its taker
abbrev pub given_to : Stage → Content
given_to Free = Full
given_to Held = Out
given_to Lost = Empty
given_to Done = Used

abbrev pub content : Stage → Stage → Content
content Free taker = Empty
content Held taker = Out
content Lost taker = Empty
content Done taker = given_to taker

module _ {S : Type 0} (empty : S) (good : S → Type 0) where
  abbrev pub Has : Content → Option (Option S) → Type 0
  Has Empty home = home ≡ some (some empty)
  Has Out home = home ≡ some none
  Has Full home = (y : S) × (home ≡ some (some y)) × good y
  Has Used home = (y : S) × (home ≡ some (some y))

-- whether the function is at such a stage and this seat is its owner
abbrev pub is_with : (Stage → Bool) → (ℕ → Stage) → (ℕ → ℕ) → ℕ → ℕ → Bool
is_with test stage owner seat f = test (stage f) && (owner f == seat)

-- the view of this seat is what the stages and the owners say
pub record Fits {T : Type 0} (stage : ℕ → Stage) (owner : ℕ → ℕ) (stop seat : ℕ) (v : Knows T) : Type 0 where
  pub claims : (f : ℕ) → member f v.claims ≡ is_with is_held stage owner seat f
  pub gone : (f : ℕ) → member f v.gone ≡ is_with is_lost stage owner seat f
  pub done : (f : ℕ) → member f v.done ≡ is_with is_done stage owner seat f
  pub seen : (f : ℕ) → member f v.seen ≡ true → stage f ≡ Done
  pub stopped : v.stopped ≡ true → stop ≡ 1

-- The rule of a database of these rows, in which `good g y` says that y holds g's output.
pub record IsRuled {S T : Type 0} (rows : List (List ℕ)) (empty : S) (good : ℕ → S → Type 0) (s : State S (Knows T)) : Type 0 where
  pub stage : ℕ → Stage
  pub owner : ℕ → ℕ
  pub many : length s.words ≡ length rows + 1
  pub shown : (f : ℕ) → f < length rows → slice_index s.words f ≡ word_of (stage f)
  pub outside : (f : ℕ) → length rows ≤ f → stage f ≡ Free
  pub seated : (f : ℕ) → stage f ≢ Free → owner f < length s.views
  pub sound : (i : ℕ) (p : Place) → IsPlace rows i p → stage p.taker ≢ Free → stage p.giver ≡ Done
  pub stop_low : slice_index s.words (length rows) < 2
  pub stop_cause : slice_index s.words (length rows) ≡ 1 → (f : ℕ) × (stage f ≡ Lost)
  pub stop_set : (f : ℕ) → stage f ≡ Lost → slice_index s.words (length rows) ≡ 1
  pub room : length s.homes ≡ length (places_of rows)
  pub filled : (i : ℕ) (p : Place) → IsPlace rows i p → Has empty (good p.giver) (content (stage p.giver) (stage p.taker)) (get_elem? s.homes i)
  pub fits : (seat : ℕ) (v : Knows T) → get_elem? s.views seat ≡ some v → Fits stage owner (slice_index s.words (length rows)) seat v
