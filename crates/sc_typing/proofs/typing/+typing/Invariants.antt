-- What a loop has made, with what the parts that are left give, is what all parts give.
use Rattle.std.proofs.Common.{◌≡◌, Some, [], map, drop}
use Rattle.sc_typing.specs.Tables.{here_of}
use Rattle.sc_typing.specs.Typing.{typing, heading, adding, adding_one, counting, values, parameters, members, parts, enumerators}
use Rattle.sc_typing.proofs.Joined.{joined}
use Rattle.sc_typing.proofs.typing.+typing.Given as goal

abbrev pub invariant-arguments-loop-e : goal.invariant-arguments-loop-e
invariant-arguments-loop-e l =
    joined l.values (values (map (typing (here_of l.here)) (drop l.e-index l.es)) l.walk)
    ≡ values (map (typing (here_of l.fn.here)) l.fn.es) l.fn.walk

abbrev pub invariant-parameters-loop-h : goal.invariant-parameters-loop-h
invariant-parameters-loop-h l =
    joined l.params (parameters l.number (map (heading (here_of l.here)) (drop l.h-index l.heads)) l.walk)
    ≡ parameters 0 (map (heading (here_of l.fn.here)) l.fn.heads) l.fn.walk

abbrev pub invariant-members-loop-m : goal.invariant-members-loop-m
invariant-members-loop-m l =
    members (map (adding (here_of l.here)) (drop l.m-index l.body)) l.fields l.walk
    ≡ members (map (adding (here_of l.fn.here)) l.fn.body) (Some []) l.fn.walk

abbrev pub invariant-parts-loop-p : goal.invariant-parts-loop-p
invariant-parts-loop-p l =
    parts (map (adding_one (here_of l.here)) (drop l.p-index l.line)) l.t l.fields l.walk
    ≡ parts (map (adding_one (here_of l.fn.here)) l.fn.line) l.fn.t l.fn.before l.fn.walk

abbrev pub invariant-enumerators-loop-e : goal.invariant-enumerators-loop-e
invariant-enumerators-loop-e l =
    enumerators (map (counting (here_of l.here)) (drop l.e-index l.body)) l.next l.walk
    ≡ enumerators (map (counting (here_of l.fn.here)) l.fn.body) 0 l.fn.walk
