-- Evidence of which functions reach one another (the strongly connected components of a call graph).
--
-- Each function has the number of a component, and each component a root. Calls lead to components of the same or of
-- a greater number. From the root of its component a call chain leads to each function (`down`), and from each
-- function one leads back to the root (`up`), inside the component: each link goes to a function of a lower rank, and
-- only the root has rank 0.
use Rattle.std.specs.Prelude.{◌≡◌, ℕ, zero, suc, ◌<◌, ◌≤◌, nat_eq, nat_le, nat_lt, Bool, true, false, ◌&&◌, ◌+◌, List, [], ◌∷◌, length, Option, Some, None, slice_get, slice_index_or, if◌then◌else◌}
use Rattle.std.specs.List.{list_all}
use Rattle.plan_core.specs.Graph.{callees}
use Rattle.call_graph.specs.declared.evidence.Link.{Link}
use Rattle.call_graph.specs.declared.evidence.Evidence.{Evidence}

abbrev pub component : Evidence → ℕ → ℕ
component e f = slice_index_or e.components f 0

-- the root of a component; with the number of a function where there is no such component
abbrev pub root_or : Evidence → ℕ → ℕ → ℕ
root_or e c f = slice_index_or e.roots c f

abbrev pub no_link : Link
no_link = record { to = 0; at = 0; rank = 0 }

abbrev pub link : List Link → ℕ → Link
link links f = slice_index_or links f no_link

-- the call at that place of f's row is one of g
abbrev pub is_function : ℕ → Option ℕ → Bool
is_function g None = false
is_function g (Some h) = nat_eq h g

abbrev pub calls_at : List (List ℕ) → (f at g : ℕ) → Bool
calls_at rows f at g = is_function g (slice_get (callees rows f) at)

-- the calls of f, which stand in its row, lead to no lower component
abbrev pub leads_up : (row : List ℕ) → Evidence → ℕ → Bool
leads_up row e f = list_all (λ g. nat_le (component e f) (component e g)) row

-- f is the root of its component
abbrev pub is_root : Evidence → ℕ → Bool
is_root e f = is_function f (slice_get e.roots (component e f))

-- the link of f is good: f is the root, or the link is a call and goes to a function of its component with a lower
-- rank
abbrev pub is_link : Evidence → List Link → (f : ℕ) → (is_call : Bool) → Bool
is_link e links f is_call =
    if nat_eq (link links f).rank 0
    then is_root e f
    else is_call
    && (nat_eq (component e (link links f).to) (component e f)
    && nat_lt (link links (link links f).to).rank (link links f).rank)

-- what is tested of one function with its row
abbrev pub fits : List (List ℕ) → (row : List ℕ) → Evidence → ℕ → Bool
fits rows row e f =
    leads_up row e f
    && (is_link e e.down f (calls_at rows (link e.down f).to (link e.down f).at f)
    && is_link e e.up f (calls_at rows f (link e.up f).at (link e.up f).to))

-- the same of each function
abbrev pub fit_from : List (List ℕ) → Evidence → ℕ → List (List ℕ) → Bool
fit_from rows e f [] = true
fit_from rows e f (row ∷ more) = fits rows row e f && fit_from rows e (f + 1) more

abbrev pub is_evidence : List (List ℕ) → Evidence → Bool
is_evidence rows e = fit_from rows e 0 rows

-- by the evidence the callee of an edge reaches its caller: they have one component
abbrev pub is_back : Evidence → (f g : ℕ) → Bool
is_back e f g = nat_eq (component e f) (component e g)
