-- The row of the end.
use Rattle.std.proofs.Common.{◌≡◌, ℕ, ◌≤◌, Bool, false, List, length, refl, sym, ◌∙◌, ap, subst}
use Rattle.std.specs.Prelude.{Option, Some, None}
use Rattle.std.specs.List.{list_any}
use Rattle.bit_net.specs.declared.nodes.Gate.{Gate}
use Rattle.bit_net.specs.declared.nodes.Node.{Node}
use Rattle.bit_net.specs.Runs.{Runs, Gives}
use Rattle.bit_words.specs.declared.Word.{Word}
use Rattle.bit_words.specs.Number.{number, top}
use Rattle.sum_rows.specs.declared.row.Row.{Row}
use Rattle.sum_rows.specs.declared.row.State.{State}
use Rattle.sum_rows.specs.declared.row.State.TheVariants as state
use Rattle.sc_world.specs.Known.{same_state}
use Rattle.gate_rows.specs.declared.given.Given.{Given}
use Rattle.gate_rows.specs.declared.sought.Side.{Side}
use Rattle.gate_rows.specs.declared.sought.Side.TheVariants as side
use Rattle.gate_rows.specs.declared.sought.Sought.{Sought}
use Rattle.gate_rows.specs.Given.{IsKindBelow, is_kind}
use Rattle.gate_rows.specs.Sought.{IsOutcomeBelow, IsSideBelow, IsSoughtBelow, gives_of, is_side, is_sought, is_spelt, pointer_number}
use Rattle.gate_rows.proofs.Rows.{sought_if, sought_stands}
use Rattle.gate_stands.specs.Exits.{ExitStands, IsKindSide}

pub no_kind : (kind : Option Word) → kind ≡ None → IsKindSide kind (side.Named state.Nil)
no_kind None e = record { below = λ ns h. tt; value = λ v x. refl }
no_kind (Some w) e = absurd (cc)

pub is_exit : (ns : List Node) (q : Sought) (bits : List Gate) (r : Given) (rows : List Row) (gate : ℕ)
    → Gives ns gate (λ choice v. list_any (is_sought v q) rows) → q.given.now ≡ bits → q.result ≡ r.outcome
    → ((v : ℕ → Bool) (x : State) → is_side v q.before x ≡ same_state state.Nil x)
    → ((v : ℕ → Bool) (x : State) → is_side v q.after x ≡ is_kind v r.kind x)
    → ExitStands ns bits r rows gate
is_exit ns q bits r rows gate has same_given same_result from to =
    record {
      below = has.below;
      named = λ choice v runs after told.
          has.value choice v runs
          ∙ sought_stands v q (number v bits) (gives_of v r.outcome) (ap (number v) same_given) (ap (gives_of v) same_result) state.Nil after rows (from v)
          (λ x. to v x ∙ told x);
      nothing = λ choice v runs told.
          has.value choice v runs
          ∙ sought_if v q (number v bits) (gives_of v r.outcome) (ap (number v) same_given) (ap (gives_of v) same_result) state.Nil None rows (from v)
          (λ x. to v x ∙ told x) refl;
    }

pub pointer_kind : (kind : Option Word) (w : Word) (s : Side) → kind ≡ Some w → ((ns : List Node) → top w.bits.items ≤ length ns → IsSideBelow ns s)
    → ((v : ℕ → Bool) (x : State) → is_side v s x ≡ is_spelt (number v w.bits.items) (pointer_number x)) → IsKindSide kind s
pointer_kind kind w s e below value =
    record {
      below = λ ns low. below ns (subst (IsKindBelow ns) e low);
      value = λ v x. value v x ∙ ap (λ k. is_kind v k x) (sym e);
    }

pub sought_below : (ns : List Node) (q : Sought) (bits : List Gate) (r : Given) (to : Side) → q.given.now ≡ bits → q.before ≡ side.Named state.Nil
    → q.result ≡ r.outcome → q.after ≡ to → top bits ≤ length ns → IsOutcomeBelow ns r.outcome → IsSideBelow ns to → IsSoughtBelow ns q
sought_below ns q bits r to given before result after' low outcome_low to_low =
    record {
      given = subst (λ bs. top bs ≤ length ns) (sym given) low;
      before = subst (IsSideBelow ns) (sym before) tt;
      result = subst (IsOutcomeBelow ns) (sym result) outcome_low;
      after = subst (IsSideBelow ns) (sym after') to_low;
    }
