-- Paths: the text, where it begins, and its steps.
use Rattle.std.specs.Prelude.{ℕ, List, codes}
use Rattle.json.specs.Json.{Json, string, object, no_members}
use Rattle.json_text.specs.Values.{text_value, count_value, with}
use Rattle.sum_rows.specs.declared.path.Path.{Path}
use Rattle.sum_rows.specs.declared.path.Root.{Root}
use Rattle.sum_rows.specs.declared.path.Root.TheVariants as root
use Rattle.sum_rows.specs.declared.path.Step.{Step}
use Rattle.sum_rows.specs.declared.path.Step.TheVariants as step
use Rattle.sc_typed.specs.declared.program.Program.{Program}
use Rattle.sc_typed.specs.declared.program.Param.{Param}
use Rattle.report_text.specs.Names.{name_text, param_text, global_text}
use Rattle.report_text.specs.Paths.{path_text}
use Rattle.json_places.specs.Arrays.{array_by}

unfoldable pub rooted_value : (kind : List ℕ) → (number : ℕ) → (name : List ℕ) → Json
rooted_value kind number name =
    object (with (codes "kind") (string kind)
    (with (codes "number") (count_value number) (with (codes "name") (string name) no_members)))

unfoldable pub field_value : (name : List ℕ) → Json
field_value name = object (with (codes "field") (string name) no_members)

unfoldable pub element_value : ℕ → Json
element_value k = object (with (codes "element") (count_value k) no_members)

abbrev pub step_value : Program → Step → Json
step_value p step.Deref = string (codes "target")
step_value p (step.Field n) = field_value (name_text p n)
step_value p (step.Elem k) = element_value k

-- the parameters are those of the function that the path belongs to
module _ (p : Program) (params : List Param) where
  abbrev pub root_value : Root → Json
  root_value (root.Param n) = rooted_value (codes "parameter") n (param_text p params n)
  root_value (root.Global n) = rooted_value (codes "global") n (global_text p n)

  unfoldable pub path_value : Path → Json
  path_value x =
      object (with (codes "text") (text_value (path_text p params x))
      (with (codes "root") (root_value x.root) (with (codes "steps") (array_by (step_value p) x.steps) no_members)))
