use Rattle.std.proofs.Common.{◌≡◌, ℕ, ◌≤◌, map, take, length, Some}
use Rattle.summary_db.specs.Ends.{outputs, output_at, closing_pass}
use Rattle.work_pool.proofs.parallel.taken.Given as goal

-- the outputs of the functions passed are in the list, and the others are left
abbrev pub invariant-loop-function : goal.invariant-loop-function
invariant-loop-function g l =
    record {
      many : length (outputs l.closed) ≡ length (outputs l.fn.closed);
      moved : map Some l.list.items ≡ take l.function (outputs l.fn.closed);
      left : (f : ℕ) → l.function ≤ f → output_at l.closed f ≡ output_at l.fn.closed f;
      pass : closing_pass l.closed ≡ closing_pass l.fn.closed;
    }
