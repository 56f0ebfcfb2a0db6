-- How a location is reached, as its text tells it: what the way begins at, and the steps from there.
use Rattle.std.specs.Prelude.{◌≡◌, ℕ, zero, suc, ◌<◌, ◌^◌, true, List, [], ◌∷◌, length, slice_index_or}
use Rattle.fsm_spec.specs.Words.{is_word_byte}
use Rattle.sc_base.specs.declared.pos.NameId.{NameId}
use Rattle.sum_rows.specs.declared.path.Step.{Step}
use Rattle.sum_rows.specs.declared.path.Step.TheVariants as step
use Rattle.sc_world.specs.declared.run.Origin.{Origin}
use Rattle.sc_world.specs.declared.run.Origin.TheVariants as origin
use Rattle.sc_world.specs.Layout.{location}
use Rattle.sc_world.specs.Paths.{Texts, name_text, site_of}

-- A way begins at a parameter, a global or a local, by its name, or at a call, by its line and column. Strings and
-- functions have no text.
pub data Start : Type 0 where
  Named : List ℕ → Start
  CallAt : (line col : ℕ) → Start

-- a member goes by its name
pub data Along : Type 0 where
  Target : Along
  Member : List ℕ → Along
  Element : ℕ → Along

-- the last step stands first
pub record Way : Type 0 where
  pub start : Start
  pub steps : List Along

abbrev pub begun : Start → Way
begun s = record { start = s; steps = [] }

abbrev pub further : Along → Way → Way
further a w = record { start = w.start; steps = a ∷ w.steps }

abbrev pub along : List (List ℕ) → Step → Along
along names step.Deref = Target
along names (step.Field n) = Member (name_text names n)
along names (step.Elem k) = Element k

abbrev pub name_at : Texts → List NameId → ℕ → List ℕ
name_at x ns k = name_text x.names (slice_index_or ns k (record { at = 0 }))

abbrev pub way_from : Texts → (ℕ → Way) → Origin → Way
way_from x up (origin.Param n) = begun (Named (name_at x x.params n))
way_from x up (origin.Global n) = begun (Named (name_at x x.globals n))
way_from x up (origin.Local n) = begun (Named (name_at x x.locals n))
way_from x up (origin.Call k) = begun (CallAt (site_of x.layout k).pos.line (site_of x.layout k).pos.col)
way_from x up (origin.Target at) = further Target (up at)
way_from x up (origin.Part at s) = further (along x.names s) (up at)
way_from x up _ = begun (Named [])

abbrev pub way_by : (fuel : ℕ) → Texts → ℕ → Way
way_by zero x at = begun (Named [])
way_by (suc more) x at = way_from x (way_by more x) (location x.layout at).origin

-- the way to a location
abbrev pub way_of : Texts → ℕ → Way
way_of x at = way_by (length x.layout.locations) x at

-- The names that the locations of a layout use are words of letters, digits and `_`, its numbers fit a machine word,
-- and each location is reached from another one of the layout.

abbrev pub IsWord : List ℕ → Type 0
IsWord [] = Unit {0}
IsWord (c ∷ cs) = (is_word_byte c ≡ true) × IsWord cs

abbrev pub FitsWord : ℕ → Type 0
FitsWord n = n < 2 ^ 64

abbrev pub IsPlainStep : List (List ℕ) → Step → Type 0
IsPlainStep names step.Deref = Unit {0}
IsPlainStep names (step.Field n) = IsWord (name_text names n)
IsPlainStep names (step.Elem k) = FitsWord k

abbrev pub IsPlain : Texts → Origin → Type 0
IsPlain x (origin.Param n) = IsWord (name_at x x.params n)
IsPlain x (origin.Global n) = IsWord (name_at x x.globals n)
IsPlain x (origin.Local n) = IsWord (name_at x x.locals n)
IsPlain x (origin.Call k) = FitsWord (site_of x.layout k).pos.line × FitsWord (site_of x.layout k).pos.col
IsPlain x (origin.Target at) = at < length x.layout.locations
IsPlain x (origin.Part at s) = (at < length x.layout.locations) × IsPlainStep x.names s
IsPlain x _ = Unit {0}

abbrev pub HasPlainNames : Texts → Type 0
HasPlainNames x = (at : ℕ) → at < length x.layout.locations → IsPlain x (location x.layout at).origin

-- The same of the names alone, and of the places of calls: the rest holds of the layout of every function.

abbrev pub HasPlainStep : List (List ℕ) → Step → Type 0
HasPlainStep names (step.Field n) = IsWord (name_text names n)
HasPlainStep names _ = Unit {0}

abbrev pub HasPlainName : Texts → Origin → Type 0
HasPlainName x (origin.Param n) = IsWord (name_at x x.params n)
HasPlainName x (origin.Global n) = IsWord (name_at x x.globals n)
HasPlainName x (origin.Local n) = IsWord (name_at x x.locals n)
HasPlainName x (origin.Call k) = FitsWord (site_of x.layout k).pos.line × FitsWord (site_of x.layout k).pos.col
HasPlainName x (origin.Part at s) = HasPlainStep x.names s
HasPlainName x _ = Unit {0}

abbrev pub NamesArePlain : Texts → Type 0
NamesArePlain x = (at : ℕ) → at < length x.layout.locations → HasPlainName x (location x.layout at).origin
