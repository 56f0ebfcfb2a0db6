use Rattle.std.proofs.Common.{rules, ◌≡◌, ◌∙◌, ap}
use Rattle.std.specs.List.{list_all}
use Rattle.sc_gather.specs.declared.found.Site.{Site as Found}
use Rattle.sc_gather.specs.Seen.{meaning}
use Rattle.layout_base.specs.Seen.{layout_of}
use Rattle.run_world.specs.Seen.{env}
use Rattle.error_laws.specs.Errors.{does_of_params}
use Rattle.fn_questions.proofs.Ready.{each_call}
use Rattle.fn_questions.proofs.erring.all_of_params.Goals as goal

pub returns : goal.returns
unfolding env layout_of
returns c =
    let s = (env c.args.around.now.here).source in
    let sites = c.args.around.now.here.places.now.sites.items in
    let same : c.as_slice.result.now ≡ sites = search rules in
    c.each_of_params.ensures ∙ (ap (λ xs. list_all (λ (x : Found). does_of_params s (meaning x.effect)) xs) same ∙ each_call s sites)
