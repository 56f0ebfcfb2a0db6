-- The commands of the definitions are ones of which `clap` tells the matches and the faults.
use Rattle.std.proofs.Common.{◌≡◌, true, refl, List}
use Rattle.std.specs.Borrow.{Bor}
use Rattle.clap.specs.Words.{Text, is_simple, is_simple_and_free}
use Rattle.clap.proofs.OnLiterals.{clap_on_literals}
use Rattle.saturn_words.specs.Commands.{check_command, run_command, bench_command, AreModels, AreFormats, IsCheck, IsRun}

-- by these words of its options it is a command of `saturn_check`
pub is_check : (models formats : Bor (List (Bor Text))) → AreModels models → AreFormats formats → IsCheck (check_command models formats)
is_check models formats of_models of_formats = (models, of_models, formats, of_formats, refl)

pub check_is_free : (models formats : Bor (List (Bor Text))) → is_simple_and_free (check_command models formats) ≡ true
unfolding clap_on_literals check_command
check_is_free models formats = refl

pub check_is_plain : (models formats : Bor (List (Bor Text))) → is_simple (check_command models formats) ≡ true
unfolding clap_on_literals check_command
check_is_plain models formats = refl

-- the same of `saturn_run`
pub is_run : (models formats : Bor (List (Bor Text))) → AreModels models → AreFormats formats → IsRun (run_command models formats)
is_run models formats of_models of_formats = (models, of_models, formats, of_formats, refl)

pub run_is_free : (models formats : Bor (List (Bor Text))) → is_simple_and_free (run_command models formats) ≡ true
unfolding clap_on_literals run_command
run_is_free models formats = refl

pub run_is_plain : (models formats : Bor (List (Bor Text))) → is_simple (run_command models formats) ≡ true
unfolding clap_on_literals run_command
run_is_plain models formats = refl

pub bench_is_free : is_simple_and_free bench_command ≡ true
unfolding clap_on_literals bench_command
bench_is_free = refl

pub bench_is_plain : is_simple bench_command ≡ true
unfolding clap_on_literals bench_command
bench_is_plain = refl
