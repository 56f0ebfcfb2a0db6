use Rattle.std.proofs.Common.{◌≡◌, ◌+◌, ◌-◌, List, length, map, take, drop, reverse, sym, ap, ◌∙◌, arith}
use Rattle.flow_graph.specs.Nodes.{Node}
use Rattle.flow_graph.specs.Unrolled.{Flow, turned}
use Rattle.sc_flow.specs.Seen.{structs_of, growing, node}
use Rattle.sc_flow.proofs.Nodes.{cut_is, front_of}
use Rattle.sc_flow.proofs.flow.finished.Goals as goal

pub returns : goal.returns
unfolding growing
returns c =
    let structs = structs_of c.args.here.now in
    let last : c.from_vec.result ≡ c.turn.new.nodes =
    c.from_vec.ensures
    ∙ front_of c.reverse.new.self.len c.turn.new.nodes (drop (length c.turn.new.nodes) c.reverse.new.self.items) (omega arith) in
    let first : c.deref_mut.result.now ≡ reverse (take (c.args.entry + 1) c.args.g.nodes.items) =
    cc (c.deref_mut.ensures.value, c.reverse.ensures.items, c.truncate.ensures.items) in
    let nodes : map (node structs) c.from_vec.result
    ≡ map (turned c.args.entry)
    (drop (length (reverse (map (node structs) c.args.g.nodes.items)) - (c.args.entry + 1)) (reverse (map (node structs) c.args.g.nodes.items))) =
    ap (map (node structs)) last
    ∙ (c.turn.ensures structs
    ∙ (ap (λ ys. map (turned c.args.entry) (map (node structs) ys)) first
    ∙ ap (map (turned c.args.entry)) (sym (cut_is (node structs) c.args.g.nodes.items (c.args.entry + 1))))) in
    let make : List Node → Flow = λ ns. record { nodes = ns; temps = c.args.g.temps; slots = c.args.g.slots } in
    ap make nodes
