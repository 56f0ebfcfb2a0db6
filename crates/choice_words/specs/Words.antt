-- What a choice says of each thing that it speaks of.
use Rattle.std.specs.Prelude.{ℕ, zero, suc, ◌+◌, min, Bool, true, false, ℤ, pos, Option, Some, None, List, map, if◌then◌else◌}
use Rattle.fsm_spec.specs.Table.{bits_of_states, state_of_number}
use Rattle.sc_typed.specs.Arith.{signed}
use Rattle.sc_world.specs.World.{bit_at, number_at}
use Rattle.choice_words.specs.declared.subjects.Reading.{Reading}
use Rattle.choice_words.specs.declared.subjects.Reading.TheVariants as reading
use Rattle.choice_words.specs.declared.subjects.Thing.{Thing}
use Rattle.choice_words.specs.declared.sayings.Word.{Word}
use Rattle.choice_words.specs.declared.sayings.Word.TheVariants as word
use Rattle.choice_words.specs.declared.sayings.Said.{Said}

-- a number of so many bits, as C has it: with a sign in two's complement
abbrev pub as_integer : (sign : Bool) → (width n : ℕ) → ℤ
as_integer sign width n = if sign then signed width n else pos n

-- a pointer to an object; a null pointer where there is none
abbrev pub to_object : (ℕ → Word) → Option ℕ → Word
to_object leads None = word.Null
to_object leads (Some at) = leads at

-- the pointer that a known call gives, by the number of two bits; no row has the last one
abbrev pub given : Option ℕ → ℕ → Word
given object zero = word.Null
given object (suc zero) = to_object word.Fresh object
given object (suc (suc zero)) = to_object word.Other object
given object (suc (suc (suc n))) = word.NoRow

-- what becomes of a parameter's object
abbrev pub fate : ℕ → Word
fate zero = word.Held
fate (suc zero) = word.Escaped
fate (suc (suc zero)) = word.Freed
fate (suc (suc (suc n))) = word.NoRow

-- what the pointer that a parameter points to is then
abbrev pub pointed : Option ℕ → ℕ → Word
pointed object zero = word.Null
pointed object (suc zero) = to_object word.Fresh object
pointed object (suc (suc zero)) = to_object word.Other object
pointed object (suc (suc (suc n))) = word.Same

-- of a choice
module _ (c : List Bool) where
  -- The bits of a number stand high bit first. No cell has more than 64.
  abbrev pub number_word : (bit width : ℕ) → (sign : Bool) → Word
  number_word bit width sign = word.Number (as_integer sign (min width 64) (number_at c bit (min width 64)))

  abbrev pub pointer_word : (bit : ℕ) → Option ℕ → Word
  pointer_word bit object = if bit_at c bit then to_object word.Object object else word.Null

  abbrev pub success_word : (bit : ℕ) → Word
  success_word bit = if bit_at c bit then word.Succeeds else word.Fails

-- of a machine with so many states, and a choice
module _ (states : ℕ) (c : List Bool) where
  -- the state that so many bits name
  abbrev pub state_word : (bit width : ℕ) → Word
  state_word bit width = word.State (state_of_number states (number_at c bit width))

  -- The first bit says that the operation errs. Where it is clear it adds nothing to the number of the state.
  abbrev pub after_word : (bit : ℕ) → Word
  after_word bit = if bit_at c bit then word.Errs else state_word bit (1 + bits_of_states states)

  abbrev pub word_of : (bit : ℕ) → Reading → Word
  word_of bit (reading.Number width sign) = number_word c bit width sign
  word_of bit (reading.Pointer object) = pointer_word c bit object
  word_of bit reading.Success = success_word c bit
  word_of bit reading.State = state_word bit (bits_of_states states)
  word_of bit reading.StateAfter = after_word bit
  word_of bit (reading.Given object) = given object (number_at c bit 2)
  word_of bit reading.Fate = fate (number_at c bit 2)
  word_of bit (reading.Pointed object) = pointed object (number_at c bit 2)

  abbrev pub say : Thing → Said
  say t = record { of = t.of; word = word_of t.bit t.reading }

  -- what is said of some things
  unfoldable pub said : List Thing → List Said
  said ts = map say ts
