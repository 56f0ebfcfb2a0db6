use Rattle.std.proofs.Common.{map, take, sym, ◌∙◌, ap}
use Rattle.std.proofs.lemmas.List.{take-map}
use Rattle.sc_declare.specs.Numbers.{key_of}
use Rattle.sc_files.proofs.notes.take_back.Goals as goal

pub returns-clause-tied : goal.returns-clause-tied
returns-clause-tied c =
    c.truncate-4.ensures ∙ ap (take c.args.before.globals) c.requires ∙ take-map key_of c.args.before.globals c.args.walk.now.globals
    ∙ ap (map key_of) (sym c.truncate.ensures)
