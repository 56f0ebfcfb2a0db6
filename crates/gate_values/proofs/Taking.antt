-- Which numbers an operator takes.
use Rattle.std.proofs.Common.{◌≡◌, ℕ, ◌-◌, ◌<◌, ◌≤◌, ◌%◌, ◌^◌, Bool, true, false, not, nat_eq, nat_lt, List, length, ◌∙◌, ap, arith}
use Rattle.std.proofs.Math.Nat.{mod-eq_of_lt}
use Rattle.std.proofs.Math.Pow.{pow-lt, pow_mono}
use Rattle.bit_net.specs.declared.nodes.Gate.{Gate}
use Rattle.bit_net.specs.declared.nodes.Node.{Node}
use Rattle.bit_net.specs.Runs.{Grown, Gives}
use Rattle.bit_words.specs.Number.{number, converted}
use Rattle.bit_words.specs.Spells.{Spells}
use Rattle.bit_words.proofs.NumberLemmas.{number-below}
use Rattle.sc_tree.specs.declared.op.BinaryOp.TheVariants as op
use Rattle.sc_typed.specs.Arith.{divides}
use Rattle.gate_values.specs.Operators.{IsTaken}

pub least_word : (ns : List Node) (w : List Gate) (p width : ℕ) → 0 < width → p ≡ 2 ^ (width - 1) → Spells ns w width (λ v. p % 2 ^ width)
    → Spells ns w width (λ v. 2 ^ (width - 1))
least_word ns w p width some e is =
    let low : width - 1 < width = omega (arith, some) in
    record {
      wide = is.wide;
      below = is.below;
      value = λ choice v runs.
          is.value choice v runs ∙ ap (λ k. k % 2 ^ width) e ∙ mod-eq_of_lt (pow-lt low);
    }

-- a number of at most 64 bits stays as it is in 64 bits, and so does a width
same_in : (n k : ℕ) → n < 2 ^ k → k ≤ 64 → n % 2 ^ 64 ≡ n
same_in n k low small = let more = pow_mono small in mod-eq_of_lt (omega (arith, low, more))

pub count_gate : (ns mid : List Node) (b wide bound : List Gate) (width low : ℕ) → Grown mid ns
    → length b ≤ 64 → width ≤ 64
    → Spells mid wide 64 (λ v. converted false (length b) 64 (number v b)) → Spells mid bound 64 (λ v. width % 2 ^ 64)
    → Gives ns low (λ choice v. nat_lt (number v wide) (number v bound)) → Gives ns low (λ choice v. nat_lt (number v b) width)
count_gate ns mid b wide bound width low grown small few is_wide is_bound is =
    record {
      below = is.below;
      value = λ choice v runs.
          let earlier = grown.runs choice v runs in
          is.value choice v runs
          ∙ ap (λ k. nat_lt k (number v bound)) (is_wide.value choice v earlier ∙ same_in (number v b) (length b) (number-below v b) small)
          ∙ ap (λ k. nat_lt (number v b) k) (is_bound.value choice v earlier ∙ few_in few);
    }
  where
    few_in : width ≤ 64 → width % 2 ^ 64 ≡ width
    few_in small = mod-eq_of_lt (omega (arith, small))

-- Which operators take which numbers.

module _ (ns : List Node) (a b : List Gate) (g : ℕ) where
  pub div_u : Gives ns g (λ choice v. not (nat_eq (number v b) 0)) → IsTaken ns op.Div false a b g
  div_u is = record { below = is.below; value = is.value }

  pub rem_u : Gives ns g (λ choice v. not (nat_eq (number v b) 0)) → IsTaken ns op.Rem false a b g
  rem_u is = record { below = is.below; value = is.value }

  pub div_s : Gives ns g (λ choice v. divides (length a) true (number v a) (number v b)) → IsTaken ns op.Div true a b g
  div_s is = record { below = is.below; value = is.value }

  pub rem_s : Gives ns g (λ choice v. divides (length a) true (number v a) (number v b)) → IsTaken ns op.Rem true a b g
  rem_s is = record { below = is.below; value = is.value }

pub ruleset division_gate = (div_u, rem_u, div_s, rem_s)

pub left_taken : (ns : List Node) (s : Bool) (a b : List Gate) (g : ℕ) → Gives ns g (λ choice v. nat_lt (number v b) (length a)) → IsTaken ns op.ShiftLeft s a b g
left_taken ns s a b g is = record { below = is.below; value = is.value }

pub right_taken : (ns : List Node) (s : Bool) (a b : List Gate) (g : ℕ) → Gives ns g (λ choice v. nat_lt (number v b) (length a)) → IsTaken ns op.ShiftRight s a b g
right_taken ns s a b g is = record { below = is.below; value = is.value }

module _ (ns : List Node) (s : Bool) (a b : List Gate) (g : ℕ) (always : Gives ns g (λ choice v. true)) where
  pub takes_mul : IsTaken ns op.Mul s a b g
  takes_mul = record { below = always.below; value = always.value }

  pub takes_add : IsTaken ns op.Add s a b g
  takes_add = record { below = always.below; value = always.value }

  pub takes_sub : IsTaken ns op.Sub s a b g
  takes_sub = record { below = always.below; value = always.value }

  pub takes_less : IsTaken ns op.Less s a b g
  takes_less = record { below = always.below; value = always.value }

  pub takes_greater : IsTaken ns op.Greater s a b g
  takes_greater = record { below = always.below; value = always.value }

  pub takes_lessequal : IsTaken ns op.LessEqual s a b g
  takes_lessequal = record { below = always.below; value = always.value }

  pub takes_greaterequal : IsTaken ns op.GreaterEqual s a b g
  takes_greaterequal = record { below = always.below; value = always.value }

  pub takes_equal : IsTaken ns op.Equal s a b g
  takes_equal = record { below = always.below; value = always.value }

  pub takes_notequal : IsTaken ns op.NotEqual s a b g
  takes_notequal = record { below = always.below; value = always.value }

  pub takes_bitand : IsTaken ns op.BitAnd s a b g
  takes_bitand = record { below = always.below; value = always.value }

  pub takes_bitxor : IsTaken ns op.BitXor s a b g
  takes_bitxor = record { below = always.below; value = always.value }

  pub takes_bitor : IsTaken ns op.BitOr s a b g
  takes_bitor = record { below = always.below; value = always.value }

  pub takes_and : IsTaken ns op.And s a b g
  takes_and = record { below = always.below; value = always.value }

  pub takes_or : IsTaken ns op.Or s a b g
  takes_or = record { below = always.below; value = always.value }

pub ruleset taken_gate = (left_taken, right_taken, takes_mul, takes_add, takes_sub, takes_less, takes_greater, takes_lessequal, takes_greaterequal, takes_equal, takes_notequal, takes_bitand, takes_bitxor, takes_bitor, takes_and, takes_or)
