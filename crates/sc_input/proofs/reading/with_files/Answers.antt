use Rattle.std.proofs.Common.{◌≡◌, ◌∙◌, ap, refl, length, arith}
use Rattle.std.proofs.lemmas.Result.{err_from_is_err_and}
use Rattle.sc_input.specs.Input.{so_far, Outside, none}
use Rattle.sc_input.proofs.Growing.{all_read, one_more, one_more_tree, refused_at}
use Rattle.sc_input.proofs.reading.with_files.Goals as goal

pub loop-name-init : goal.loop-name-init
loop-name-init g c = record {
  room = c.requires.room;
  count = ap length c.requires.first;
  read = none;
  held = refl;
  firm = refl;
  later = omega arith;
}

pub returns-in_err-reading-clause-stops : goal.returns-in_err-reading-clause-stops
returns-in_err-reading-clause-stops g c =
    let p = err_from_is_err_and c.from_residual.result c.from_residual.ensures.1 in
    let step : Outside = record {
      held = g.F.Files.held c.loop-name.files;
      firm = g.F.Files.firm c.loop-name.files;
      faults_before = g.F.Files.faults c.loop-name.files;
      faults_after = g.F.Files.faults c.with_file.new.files;
    } in
    let all : Outside = record {
      held = g.F.Files.held c.args.files.now;
      firm = g.F.Files.firm c.args.files.now;
      faults_before = g.F.Files.faults c.args.files.now;
      faults_after = g.F.Files.faults c.with_file.new.files;
    } in
    let stops = refused_at step all _ (so_far c.loop-name.reading) c.args.named.now c.loop-name.name-index _ c.in_err-reading.field-0.0 c.loop-name.invariant.held
    c.loop-name.invariant.firm c.loop-name.invariant.later (omega arith) c.loop-name-test.true c.loop-name.invariant.read
    c.in_err-reading.ensures.refused in
    rw (p.1, p.2) stops

pub loop-name-preserved : goal.loop-name-preserved
loop-name-preserved g c = record {
  room = c.in_ok-reading.ensures.room;
  count = one_more_tree _ _ (so_far c.loop-name.reading) _ c.loop-name.name-index c.in_ok-reading.ensures.added c.loop-name.invariant.count;
  read = one_more _ _ _ (so_far c.loop-name.reading) _ c.args.named.now c.loop-name.name-index _ c.loop-name.invariant.held c.loop-name-test.true
      c.loop-name.invariant.read c.in_ok-reading.ensures.added;
  held = c.in_ok-reading.ensures.held ∙ c.loop-name.invariant.held;
  firm = c.in_ok-reading.ensures.firm ∙ c.loop-name.invariant.firm;
  later = omega (arith, c.loop-name.invariant.later, c.in_ok-reading.ensures.later);
}

pub returns-clause-read : goal.returns-clause-read
returns-clause-read g c = all_read _ _ _ c.args.named.now c.loop-name.name-index c.loop-name-test.false c.loop-name.invariant.read
