use Rattle.std.proofs.Common.{◌∙◌, ap, Some, codes, map}
use Rattle.clap.specs.Words.{found_of}
use Rattle.clap.proofs.WalkLemmas.{raw_values-rows}
use Rattle.saturn_words.proofs.asked.files_of.Goals as goal

pub returns-in-Ok : goal.returns-in-Ok
returns-in-Ok c =
    ap (λ names. Some (map (λ name. name.now) names)) (c.in-Ok.ensures.items_if_clones_equal (λ x y same. same))
    ∙ (c.in_ok-get_strs.ensures ∙ raw_values-rows (found_of c.args.matches.now) (codes "FILE"))
