-- The function of the example is typed.
use Rattle.std.proofs.Common.{◌≡◌, inl, inr, refl, sym, ap}
use Rattle.std.specs.Prelude.{Some}
use Rattle.sc_tree.specs.declared.op.BinaryOp.TheVariants as binary
use Rattle.sc_world.specs.Source.{Member}
use Rattle.sc_world.specs.Objects.{members_of}
use Rattle.run_laws.specs.Fits.{TypesMeet}
use Rattle.run_laws.specs.Example.{int, member_name, given}
use Rattle.layout_laws.specs.Origins.{IsAmong}
use Rattle.fitting_laws.specs.Typed.{HasMember}
use Rattle.fitting_laws.specs.Statements.{FunctionTyped}

the_member : Member
the_member = record { name = Some member_name; type = int }

each : (x : Member) → IsAmong x (members_of given 0) → x.name ≡ Some member_name → x.type ≡ int
each x (inl e) name = ap (λ (y : Member). y.type) (sym e)
each x (inr h) name = absurd h

member : HasMember given 0 member_name int
unfolding the_member
member = record { one = (the_member, inl refl, refl); all = each }

-- both sides of the sum are of type `int`, and so is the sum
numbers_meet : TypesMeet binary.Add int int int
numbers_meet = record { same = λ o i. refl; keeps = λ g. refl }

pub example_typed : FunctionTyped given
example_typed = record {
  result = refl;
  body = (
    ((int, refl, ((refl, refl, (0, refl, member)), refl)), tt),
    (((refl, refl), (refl, (refl, (tt, refl), tt, refl, refl, numbers_meet), refl, refl)), ((refl, refl), tt)),
  );
}
