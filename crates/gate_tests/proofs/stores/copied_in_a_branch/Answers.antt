use Rattle.run_store.specs.Concrete.{Numbers, load}
use Rattle.gate_tests.proofs.stores.copied_in_a_branch.Goals as goal

-- the run of the last net is brought back by `grown.runs`, once a call, and the clauses are cited from the inside out
pub returns-clause-value : goal.returns-clause-value
returns-clause-value c = record {
  holds = λ choice v r3 ps qs t u meets meets_other from to.
      let r2 = c.in_ok-merged.ensures.grown.runs choice v r3 in
      let r1 = c.in_ok-store.ensures.grown.runs choice v r2 in
      let found = c.in_ok-found.ensures.ok.value choice v r1 ps t meets from in
      let written = c.in_ok-store.ensures.ok.value choice v r2 ps u (load ps (Numbers 8) t) meets to found in
      c.in_ok-merged.ensures.ok.value choice v r3 _ qs written meets_other;
}
