use Rattle.std.proofs.Common.{◌≤◌, length, refl, sym, ◌∙◌, subst, arith}
use Rattle.std.proofs.lemmas.List.Elements.{All-get_or}
use Rattle.bit_net.proofs.Growth.{Grown-refl, Grown-trans}
use Rattle.gl_sets.specs.Guards.{guards_top}
use Rattle.gate_paths.specs.Gathered.{where_item}
use Rattle.gate_fails.proofs.Erring.{errs_whole, first_none, first_step}
use Rattle.gate_fails.proofs.errors.errs_each.Goals as goal

pub loop-item-init : goal.loop-item-init
loop-item-init c =
    record {
      grown = Grown-refl _;
      ready = c.requires.ends;
      bads = refl;
      so_far = first_none _ _ _ c.args.called.now.given.now c.args.called.now.locks.now _ c.args.ends.now c.requires.store;
    }

pub err-requires-clause-inputs : goal.err-requires-clause-inputs
err-requires-clause-inputs c = omega (arith, c.requires.inputs, c.loop-item.invariant.grown.inputs)

pub err-requires-clause-store : goal.err-requires-clause-store
err-requires-clause-store c = c.loop-item.invariant.so_far.top

pub err-requires-clause-given : goal.err-requires-clause-given
err-requires-clause-given c = omega (arith, c.requires.called.given.below, c.loop-item.invariant.grown.longer)

pub err-requires-clause-item : goal.err-requires-clause-item
err-requires-clause-item c =
    let items = c.args.called.now.locks.now in
    let there = All-get_or (λ f. guards_top (where_item f) ≤ length c.args.net.now) items c.loop-item.item-index c.item-item.result c.loop-item-test.true
    c.requires.called.locks in
    omega (
      arith,
      subst (λ f. guards_top (where_item f) ≤ length c.args.net.now) (sym c.item-item.is) there,
      c.loop-item.invariant.grown.longer,
    )

pub loop-item-preserved : goal.loop-item-preserved
loop-item-preserved c =
    let step = c.in_ok-err.ensures in
    record {
      grown = Grown-trans _ _ _ c.loop-item.invariant.grown step.grown;
      ready = step.ready;
      bads = step.locations ∙ c.loop-item.invariant.bads;
      so_far =
          first_step _ _ _ _ c.args.called.now.given.now c.loop-item.item-index c.args.called.now.locks.now c.item-item.result _ _ _ _ _ _
          c.loop-item-test.true c.item-item.is step.grown c.loop-item.invariant.so_far step.ok;
    }

pub returns-clause-ok : goal.returns-clause-ok
returns-clause-ok c =
    errs_whole _ _ _ c.args.called.now c.loop-item.item-index _ _ _ _ c.loop-item-test.false c.args.net.now c.loop-item.invariant.grown c.requires.called
    c.loop-item.invariant.so_far
