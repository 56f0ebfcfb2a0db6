-- What the calls that make values promise, for every choice.
use Rattle.std.specs.Prelude.{◌≡◌, ℕ, ◌<◌, ◌≤◌, Bool, List, length}
use Rattle.bit_net.specs.declared.nodes.Node.{Node}
use Rattle.bit_net.specs.Runs.{Runs}
use Rattle.bit_words.specs.declared.Word.{Word}
use Rattle.gl_store.specs.declared.values.Val.{Val}
use Rattle.gl_store.specs.declared.values.Val.TheVariants as val
use Rattle.gl_store.specs.Meets.{Meets, val_kind, val_top}
use Rattle.run_store.specs.Concrete.{Cell, Number, Pointer, Numbers, Pointers}
use Rattle.sc_tree.specs.declared.op.UnaryOp.{UnaryOp}
use Rattle.sc_typed.specs.Arith.{truth, resized, of_one}
use Rattle.sc_world.specs.World.{is_true}

-- the gate holds where the value is neither 0 nor null
pub record IsTruth (ns : List Node) (a : Val) (gate : ℕ) : Type 0 where
  pub below : gate < length ns
  pub value : (choice v : ℕ → Bool) → Runs ns choice v → (c : Cell) → Meets v a c → v gate ≡ is_true c

-- the value is the truth of the gate, as a number of that many bits
pub record IsTruthOf (ns : List Node) (gate bits : ℕ) (r : Val) : Type 0 where
  pub below : val_top r ≤ length ns
  pub kind : val_kind r ≡ Numbers bits
  pub value : (choice v : ℕ → Bool) → Runs ns choice v → Meets v r (Number bits (truth (v gate)))

-- the value is that number
pub record IsNumber (ns : List Node) (n bits : ℕ) (r : Val) : Type 0 where
  pub below : val_top r ≤ length ns
  pub kind : val_kind r ≡ Numbers bits
  pub value : (choice v : ℕ → Bool) → Runs ns choice v → Meets v r (Number bits n)

-- the value is the pointer to that target
pub record IsPointer (ns : List Node) (target : ℕ) (r : Val) : Type 0 where
  pub below : val_top r ≤ length ns
  pub kind : val_kind r ≡ Pointers
  pub value : (choice v : ℕ → Bool) → Runs ns choice v → Meets v r (Pointer target)

-- the value is what a conversion to that many bits makes of a number, which has a sign or not
pub record IsResized (ns : List Node) (sign : Bool) (bits : ℕ) (a : Word) (r : Val) : Type 0 where
  pub below : val_top r ≤ length ns
  pub kind : val_kind r ≡ Numbers bits
  pub value : (choice v : ℕ → Bool) → Runs ns choice v → (width n : ℕ) → Meets v (val.Word a) (Number width n)
      → Meets v r (Number bits (resized sign width bits n))

-- the value is what the operator makes of a number, in its width
pub record IsOfOne (ns : List Node) (op : UnaryOp) (a : Word) (r : Val) : Type 0 where
  pub below : val_top r ≤ length ns
  pub kind : val_kind r ≡ val_kind (val.Word a)
  pub value : (choice v : ℕ → Bool) → Runs ns choice v → (width n : ℕ) → Meets v (val.Word a) (Number width n)
      → Meets v r (Number width (of_one op width n))
