-- How a location is reached, and its text.
use Rattle.std.specs.Prelude.{ℕ, zero, suc, ◌+◌, nat_eq, Bool, true, false, not, ◌&&◌, ◌||◌, Option, Some, None, List, [], ◌∷◌, ◌++◌, length, slice_index_or, codes, if◌then◌else◌}
use Rattle.std.specs.Fmt.{decimal}
use Rattle.sc_base.specs.declared.pos.Pos.{Pos}
use Rattle.sc_base.specs.declared.pos.NameId.{NameId}
use Rattle.sum_rows.specs.declared.path.Path.{Path}
use Rattle.sum_rows.specs.declared.path.Root.{Root}
use Rattle.sum_rows.specs.declared.path.Root.TheVariants as root
use Rattle.sum_rows.specs.declared.path.Step.{Step}
use Rattle.sum_rows.specs.declared.path.Step.TheVariants as step
use Rattle.sc_world.specs.declared.run.Origin.{Origin}
use Rattle.sc_world.specs.declared.run.Origin.TheVariants as origin
use Rattle.sc_world.specs.Gather.{Site}
use Rattle.sc_world.specs.Layout.{Layout, Location, Occurrence, location, no_site, no_occurrence}

-- The text of a name.
abbrev pub name_text : List (List ℕ) → NameId → List ℕ
name_text names n = slice_index_or names n.at []

-- the call that gives an object
abbrev pub site_of : Layout → (occurrence : ℕ) → Site
site_of p k = slice_index_or p.sites (slice_index_or p.occurrences k no_occurrence).site no_site

-- The path of a location that is reached from parameters and globals. A location is laid out behind the one that it is
-- reached from, so the number of locations is enough of steps.
abbrev pub with_step : Step → Path → Path
with_step s p = record { root = p.root; steps = p.steps ++ s ∷ [] }

abbrev pub begun : Root → Path
begun r = record { root = r; steps = [] }

abbrev pub path_from : (ℕ → Path) → Origin → Path
path_from up (origin.Param n) = begun (root.Param n)
path_from up (origin.Global n) = begun (root.Global n)
path_from up (origin.Target at) = with_step step.Deref (up at)
path_from up (origin.Part at s) = with_step s (up at)
path_from up _ = begun (root.Param 0)

abbrev pub path_by : (fuel : ℕ) → Layout → ℕ → Path
path_by zero p at = begun (root.Param 0)
path_by (suc more) p at = path_from (path_by more p) (location p at).origin

abbrev pub path_of : Layout → ℕ → Path
path_of p at = path_by (length p.locations) p at

-- the pointer cells on the path of a location
abbrev pub cells_from : (ℕ → List ℕ) → Origin → List ℕ
cells_from up (origin.Target at) = at ∷ up at
cells_from up (origin.Part at s) = up at
cells_from up _ = []

abbrev pub cells_on : (fuel : ℕ) → Layout → ℕ → List ℕ
cells_on zero p at = []
cells_on (suc more) p at = cells_from (cells_on more p) (location p at).origin

abbrev pub cells_on_path : Layout → ℕ → List ℕ
cells_on_path p at = cells_on (length p.locations) p at

-- Texts. The target of e is `*e`, a field of the target of e is `e->f`, a field of another x is `x.f`, an element
-- `x[k]`; before `->`, `.` and `[` a text that begins with `*` stands in round brackets.

abbrev pub begins_with_star : List ℕ → Bool
begins_with_star [] = false
begins_with_star (c ∷ cs) = nat_eq c 42

abbrev pub bracketed : List ℕ → List ℕ
bracketed t = if begins_with_star t then codes "(" ++ (t ++ codes ")") else t

-- a text, and where it is that of the target of e also the text of e
pub record Spelled : Type 0 where
  pub text : List ℕ
  pub of_target : Option (List ℕ)

abbrev pub spelled : List ℕ → Spelled
spelled t = record { text = t; of_target = None }

abbrev pub field_text : Option (List ℕ) → List ℕ → List ℕ → List ℕ
field_text (Some e) t f = bracketed e ++ (codes "->" ++ f)
field_text None t f = bracketed t ++ (codes "." ++ f)

abbrev pub step_text : List (List ℕ) → Step → Spelled → Spelled
step_text names (step.Field n) s = spelled (field_text s.of_target s.text (name_text names n))
step_text names (step.Elem k) s = spelled (bracketed s.text ++ (codes "[" ++ (decimal k ++ codes "]")))
step_text names step.Deref s = record { text = codes "*" ++ s.text; of_target = Some s.text }

abbrev pub place_text : Pos → List ℕ
place_text p = decimal p.line ++ (codes ":" ++ decimal p.col)

-- what texts read: the names, those of parameters, globals and locals, and the layout
pub record Texts : Type 0 where
  pub names : List (List ℕ)
  pub params : List NameId
  pub globals : List NameId
  pub locals : List NameId
  pub layout : Layout

abbrev pub named_at : Texts → List NameId → ℕ → Spelled
named_at x ns k = spelled (name_text x.names (slice_index_or ns k (record { at = 0 })))

abbrev pub spelled_from : Texts → (ℕ → Spelled) → Origin → Spelled
spelled_from x up (origin.Param n) = named_at x x.params n
spelled_from x up (origin.Global n) = named_at x x.globals n
spelled_from x up (origin.Local n) = named_at x x.locals n
spelled_from x up (origin.Call k) = spelled (codes "call@" ++ place_text (site_of x.layout k).pos)
spelled_from x up (origin.Target at) = step_text x.names step.Deref (up at)
spelled_from x up (origin.Part at s) = step_text x.names s (up at)
spelled_from x up _ = spelled []

abbrev pub spelled_by : (fuel : ℕ) → Texts → ℕ → Spelled
spelled_by zero x at = spelled []
spelled_by (suc more) x at = spelled_from x (spelled_by more x) (location x.layout at).origin

-- the text of a location
abbrev pub text_at : Texts → ℕ → List ℕ
text_at x at = (spelled_by (length x.layout.locations) x at).text
