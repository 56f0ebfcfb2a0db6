-- The nodes of the code, which give no value where all that they give is nothing.
use Rattle.std.specs.Prelude.{None, if◌then◌else◌, List, map}
use Rattle.sc_world.specs.Source.{Struct}
use Rattle.sc_world.specs.Layout.{Layout}
use Rattle.sc_flow.specs.declared.node.Node.{Node}
use Rattle.sc_flow.specs.declared.node.Node.TheVariants as code
use Rattle.sc_flow.specs.Seen.{node}
use Rattle.flow_exits.specs.Exits.{is_given, all_give_nothing}

abbrev pub ends_without : Node → Node
ends_without (code.Exit from) = code.Exit None
ends_without n = n

abbrev pub ended : List Struct → Layout → List Node → List Node
ended structs p ns =
    if all_give_nothing p (is_given (map (node structs) ns)) (map (node structs) ns) then map (λ n. ends_without n) ns else ns
