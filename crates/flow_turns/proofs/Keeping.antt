-- A temp is kept, for the first time or once more.
use Rattle.std.proofs.Common.{◌≡◌, ℕ, nat_eq, Bool, true, false, if◌then◌else◌, List, length, slice_index_or, refl, sym, ◌∙◌, ap, subst, arith}
use Rattle.std.proofs.lemmas.Bool.{eqb-true}
use Rattle.bit_net.specs.declared.nodes.Node.{Node}
use Rattle.bit_net.specs.Runs.{Runs, Grown}
use Rattle.gate_runs.specs.Stands.{told}
use Rattle.gl_store.specs.declared.values.Val.{Val}
use Rattle.gl_store.specs.Steps.{IsOverwritten}
use Rattle.flow_turns.specs.declared.temps.Temps.{Temps}
use Rattle.flow_turns.specs.Kept.{val_at, is_kept}
use Rattle.flow_turns.specs.Turns.{Keeps}

pub first_kept : (ns : List Node) (when m : ℕ) (val : Val) (sure : ℕ) (old new : Temps) → new.slots ≡ old.slots → length new.vals.items ≡ length old.vals.items
    → val_at new m ≡ val → ((j : ℕ) → nat_eq m j ≡ false → val_at new j ≡ val_at old j)
    → ((v : ℕ → Bool) (j : ℕ) → told v new.sure.items j ≡ (if nat_eq m j then v sure else told v old.sure.items j))
    → ((j : ℕ) → is_kept new j ≡ (if nat_eq m j then true else is_kept old j)) → is_kept old m ≡ false → Keeps ns when m val sure old new
first_kept ns when m val sure old new slots count there others told_is kept none = record {
  slots = slots;
  count = count;
  kept = kept;
  others = others;
  first = λ e. there;
  again = λ e. absurd (two e);
  sures = λ choice v r j.
      told_is v j
      ∙ ap (λ (b : Bool). if nat_eq m j then (if b then (if v when then v sure else told v old.sure.items m) else v sure) else told v old.sure.items j) (sym none);
}
  where
    two : is_kept old m ≡ true → ⊥
    two e = by (is_kept old m) none e
      where
        by : (b : Bool) → b ≡ false → b ≡ true → ⊥
        by true e f = cc
        by false e f = cc

pub kept_again : (ns : List Node) (when m : ℕ) (val : Val) (sure both : ℕ) (old new : Temps) → new.slots ≡ old.slots → new.kept ≡ old.kept → length new.vals.items ≡ length old.vals.items
    → IsOverwritten ns when (val_at old m) val (val_at new m) → ((j : ℕ) → nat_eq m j ≡ false → val_at new j ≡ val_at old j)
    → ((v : ℕ → Bool) (j : ℕ) → told v new.sure.items j ≡ (if nat_eq m j then v both else told v old.sure.items j))
    → ((choice v : ℕ → Bool) → Runs ns choice v → v both ≡ (if v when then v sure else told v old.sure.items m))
    → is_kept old m ≡ true → Keeps ns when m val sure old new
kept_again ns when m val sure both old new slots flags count there others told_is both_is some = record {
  slots = slots;
  count = count;
  kept = λ j. ap (λ fs. slice_index_or fs.items j false) flags ∙ by j (nat_eq m j) refl;
  others = others;
  first = λ e. absurd (two e);
  again = λ e. there;
  sures = λ choice v r j.
      told_is v j
      ∙ (ap (λ b. if nat_eq m j then b else told v old.sure.items j) (both_is choice v r)
      ∙ ap (λ (b : Bool). if nat_eq m j then (if b then (if v when then v sure else told v old.sure.items m) else v sure) else told v old.sure.items j) (sym some));
}
  where
    two : is_kept old m ≡ false → ⊥
    two e = by (is_kept old m) some e
      where
        by : (b : Bool) → b ≡ true → b ≡ false → ⊥
        by true e f = cc
        by false e f = cc

    by : (j : ℕ) (b : Bool) → nat_eq m j ≡ b → is_kept old j ≡ (if b then true else is_kept old j)
    by j true e = ap (is_kept old) (sym (eqb-true m j e)) ∙ some
    by j false e = refl

-- what is written over in an older net, between values that are others by another name
pub written_over : (ns ns' : List Node) (when : ℕ) (val a b x y : Val) → Grown ns ns' → a ≡ b → x ≡ y → IsOverwritten ns when a val y → IsOverwritten ns' when b val x
written_over ns ns' when val a b x y g e f h =
    subst (λ (z : Val). IsOverwritten ns' when z val x) e (subst (IsOverwritten ns' when a val) (sym f) (record {
      below = (let low = h.below in let more = g.longer in omega arith);
      kind = h.kind;
      value = λ choice v r. h.value choice v (g.runs choice v r);
    }))
