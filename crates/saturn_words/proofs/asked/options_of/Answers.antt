use Rattle.std.proofs.Common.{◌∙◌, ap, codes}
use Rattle.clap.specs.Words.{found_of}
use Rattle.clap.proofs.WalkLemmas.{first_value-rows}
use Rattle.saturn_words.specs.Words.{widths_of}
use Rattle.saturn_words.proofs.asked.options_of.Goals as goal

pub returns : goal.returns
returns c = record {
  depth = c.in_ok-depth.ensures.value;
  depth_fits = c.in_ok-depth.ensures.fits;
  reach = c.in_ok-reach.ensures.value;
  reach_fits = c.in_ok-reach.ensures.fits;
  widths = c.widths_of.ensures
      ∙ ap widths_of (c.get_str.ensures ∙ first_value-rows (found_of c.args.matches.now) (codes "model"));
  machine = c.get_str-2.ensures ∙ first_value-rows (found_of c.args.matches.now) (codes "machine");
  files = c.in_ok-files.ensures;
}
