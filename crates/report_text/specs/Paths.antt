-- The text of a path: the name of its root, and then its steps one after another. The target of e is `*e`, a field
-- of the target of e is `e->f`, a field of another x is `x.f`, an element is `x[k]`; before `->`, `.` and `[` a text
-- that begins with `*` stands in round brackets.
use Rattle.std.specs.Prelude.{ℕ, List, [], ◌∷◌}
use Rattle.sum_rows.specs.declared.path.Path.{Path}
use Rattle.sum_rows.specs.declared.path.Root.{Root}
use Rattle.sum_rows.specs.declared.path.Root.TheVariants as root
use Rattle.sum_rows.specs.declared.path.Step.{Step}
use Rattle.sc_typed.specs.declared.program.Program.{Program}
use Rattle.sc_typed.specs.declared.program.Param.{Param}
use Rattle.sc_world.specs.Paths.{Spelled, spelled, step_text}
use Rattle.report_text.specs.Names.{param_text, global_text}

abbrev pub root_text : Program → List Param → Root → List ℕ
root_text p params (root.Param n) = param_text p params n
root_text p params (root.Global n) = global_text p n

abbrev pub after_steps : List (List ℕ) → Spelled → List Step → Spelled
after_steps names s [] = s
after_steps names s (x ∷ xs) = after_steps names (step_text names x s) xs

-- the parameters are those of the function that the path belongs to
abbrev pub path_text : Program → List Param → Path → List ℕ
path_text p params x = (after_steps p.names (spelled (root_text p params x.root)) x.steps).text
