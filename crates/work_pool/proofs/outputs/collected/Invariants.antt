use Rattle.std.proofs.Common.{◌≡◌, ℕ, ◌≤◌, map, take, length, Some}
use Rattle.work_pool.specs.Outputs.{made_at}
use Rattle.work_pool.proofs.outputs.collected.Given as goal

-- what the functions passed had is in the list, and the others have what they had
abbrev pub invariant-loop-function : goal.invariant-loop-function
invariant-loop-function g l =
    record {
      many : length l.made.items ≡ length l.fn.made.items;
      moved : map Some l.list.items ≡ take l.function l.fn.made.items;
      left : (f : ℕ) → l.function ≤ f → made_at l.made.items f ≡ made_at l.fn.made.items f;
    }
