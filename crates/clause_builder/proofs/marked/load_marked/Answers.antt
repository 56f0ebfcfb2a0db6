-- One gate more.
use Rattle.std.proofs.Common.{refl, ◌∙◌, arith}
use Rattle.clause_builder.proofs.Marks.{operands_loaded, done_more}
use Rattle.clause_builder.proofs.marked.load_marked.Goals as goal

pub loop-at-init : goal.loop-at-init
loop-at-init g c = record {
  vars = omega arith;
  wide = refl;
  loaded = c.requires.loaded;
  kept = λ a q at. at;
  done = λ a less marked. absurd (omega (arith, less));
}

pub load_if_marked-requires-clause-operands : goal.load_if_marked-requires-clause-operands
load_if_marked-requires-clause-operands g c =
    let so_far = c.loop-at.invariant in
    operands_loaded c.args.net.now c.args.lits.now.items c.loop-at.lits.items c.args.marks.now c.loop-at.at c.sound.ensures
    (c.requires.closed c.loop-at.at c.loop-at-test.true) so_far.kept so_far.done

pub load_if_marked-requires-clause-room : goal.load_if_marked-requires-clause-room
load_if_marked-requires-clause-room g c =
    let wide = c.loop-at.invariant.wide in
    let room = c.requires.room in
    let inside = c.loop-at-test.true in omega (arith, wide, room, inside)

pub loop-at-preserved : goal.loop-at-preserved
loop-at-preserved g c =
    let so_far = c.loop-at.invariant in
    let more = c.load_if_marked.ensures in
    let now = c.in_ok-load_if_marked.ensures in
    let grown = so_far.vars in
    let step = now.vars in
    record {
      vars = omega (arith, grown, step);
      wide = more.length ∙ so_far.wide;
      loaded = now.loaded;
      kept = λ a q at. more.kept a q (so_far.kept a q at);
      done = done_more c.args.marks.now c.loop-at.lits.items c.load_if_marked.new.lits.items c.loop-at.at more.kept now.here so_far.done;
    }

pub returns-in_err-load_if_marked-clause-kept : goal.returns-in_err-load_if_marked-clause-kept
returns-in_err-load_if_marked-clause-kept g c a q at = c.load_if_marked.ensures.kept a q (c.loop-at.invariant.kept a q at)

pub returns-clause-all : goal.returns-clause-all
returns-clause-all g c a less marked =
    let over = c.loop-at-test.false in c.loop-at.invariant.done a (omega (arith, less, over)) marked
