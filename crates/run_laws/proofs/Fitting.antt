-- The example fits its layout.
use Rattle.std.proofs.Common.{zero, suc, refl, sym, inl, inr, arith}
use Rattle.std.proofs.lemmas.Bool.{true≢false}
use Rattle.sc_tree.specs.declared.op.BinaryOp.TheVariants as binary
use Rattle.sc_world.specs.Tree.{Struct}
use Rattle.run_laws.specs.Fits.{MemberFits, TypesMeet}
use Rattle.run_laws.specs.Functions.{FunctionFits}
use Rattle.run_laws.specs.Example.{int, member_name, given, laid}

-- the member is there in the one location of the struct
member_there : MemberFits laid (Struct 0) member_name int
member_there zero (inl h) = absurd (true≢false (sym h))
member_there (suc zero) (inl h) = absurd (true≢false (sym h))
member_there (suc (suc zero)) (inl h) = (3, refl, refl)
member_there (suc (suc (suc zero))) (inl h) = absurd (true≢false (sym h))
member_there (suc (suc (suc (suc at)))) (inl h) = absurd (true≢false (sym h))
member_there at (inr h) = absurd (true≢false (sym h.1))

-- both sides of the sum are of type `int`, and so is the sum
numbers_meet : TypesMeet binary.Add int int int
numbers_meet = record { same = λ o i. refl; keeps = λ g. refl }

pub example_fits : FunctionFits given laid
example_fits = record {
  result = refl;
  body = (
    (((omega arith, refl), ((((omega arith, refl), refl), refl, member_there), refl)), tt),
    (
      ((((omega arith, refl), refl), refl), (((omega arith, refl), refl), (((omega arith, refl), refl), (tt, refl), tt, refl, refl, numbers_meet), refl, refl)),
      (((((omega arith, refl), refl), refl)), tt),
    ),
  );
}
