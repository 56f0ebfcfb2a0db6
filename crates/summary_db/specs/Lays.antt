-- Lists of the numbers of places, as they are kept at run time.
use Rattle.std.specs.Prelude.{◌≡◌, ℕ, ◌+◌, ◌<◌, List, [], ◌++◌, length, map, slice_index_or, Vec, vec_len}
use Rattle.std.specs.declared.alloc.Global.{Global}
use Rattle.summary_db.specs.declared.place.Place.{Place}
use Rattle.summary_db.specs.declared.lay.Lay.{Lay}
use Rattle.summary_db.specs.Places.{numbers_where, is_taker, is_giver}

abbrev pub lists : Vec (Vec ℕ Global) Global → List (List ℕ)
lists rows = map (λ row. row.items) rows.items

abbrev pub list_of : Vec (Vec ℕ Global) Global → ℕ → List ℕ
list_of rows f = slice_index_or (lists rows) f []

-- the lists of these places, for n functions and the reader
pub record IsLay (n : ℕ) (places : List Place) (lay : Lay) : Type 0 where
  pub takes : (f : ℕ) → f < n + 1 → list_of lay.takes f ≡ numbers_where (is_taker f) 0 places
  pub gives : (f : ℕ) → f < n + 1 → list_of lay.gives f ≡ numbers_where (is_giver f) 0 places
  pub takers : vec_len lay.takes ≡ n + 1
  pub givers : vec_len lay.gives ≡ n + 1
  pub count : lay.count ≡ length places
