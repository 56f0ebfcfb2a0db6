-- What walks from object to object ask of a layout.
use Rattle.std.specs.Prelude.{◌≡◌, ℕ, ◌<◌, true, List, length}
use Rattle.sc_world.specs.Layout.{Layout, location}
use Rattle.sc_world.specs.Shows.{is_among}

-- each object that a location is of is a location
pub record HasObjects (p : Layout) : Type 0 where
  pub roots : (at : ℕ) → at < length p.locations → (location p at).root < length p.locations

-- each of some objects is a location, if there are any
abbrev pub AreLocations : Layout → List ℕ → Type 0
AreLocations p ns = 0 < length p.locations → (n : ℕ) → is_among ns n ≡ true → n < length p.locations
