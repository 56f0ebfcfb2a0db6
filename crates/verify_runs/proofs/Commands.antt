-- The command of the definition is one of which `clap` tells the matches and the faults.
use Rattle.std.proofs.Common.{◌≡◌, true, refl, codes, Some}
use Rattle.clap.specs.Words.{Rule, is_simple, is_simple_and_free, new_rule}
use Rattle.clap.specs.declared.builder.action.ArgAction.TheVariants.{Set}
use Rattle.clap.proofs.OnLiterals.{clap_on_literals}
use Rattle.verify_runs.specs.Words.{command}

abbrev pub file_rule : Rule
file_rule = record (new_rule (codes "FILE")) { required = true; action = Some Set }

pub is_free : is_simple_and_free command ≡ true
unfolding clap_on_literals
is_free = refl

pub is_plain : is_simple command ≡ true
unfolding clap_on_literals
is_plain = refl
