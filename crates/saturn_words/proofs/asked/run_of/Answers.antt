use Rattle.std.proofs.Common.{◌∙◌, ap, codes}
use Rattle.clap.specs.Words.{found_of}
use Rattle.clap.proofs.WalkLemmas.{first_value-rows}
use Rattle.saturn_words.specs.Words.{format_of}
use Rattle.saturn_words.proofs.asked.run_of.Goals as goal

pub returns : goal.returns
returns c = record {
  options = c.in_ok-options.ensures;
  format = c.format_of-format.ensures
      ∙ ap format_of (c.get_str-3.ensures ∙ first_value-rows (found_of c.args.matches.now) (codes "format"));
  function = c.in_ok-function.ensures ∙ first_value-rows (found_of c.args.matches.now) (codes "function");
  choice = c.in_ok-choice.ensures ∙ first_value-rows (found_of c.args.matches.now) (codes "choice");
}
