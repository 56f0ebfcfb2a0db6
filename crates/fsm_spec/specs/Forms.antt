-- The forms of the lines of a machine file, each by the words of the line.
--
--   machine NAME
--   states STATE STATE ..                  two to eight words, all different
--   op FUNCTION RESULT S>T S>T ..          RESULT is `void` or `zero`; one S>T for each state S, in the order
--                                          of line 2, where T is a state, or `!`
use Rattle.std.specs.Prelude.{ℕ, Bool, not, ◌&&◌, nat_le, List, [], ◌∷◌, length, take, drop, Option, Some, None, if◌then◌else◌, bytes_eq, codes, option_map, option_and_then}
use Rattle.std.specs.List.{list_all}
use Rattle.fsm_spec.specs.declared.table.Operation.{Operation}
use Rattle.fsm_spec.specs.declared.table.Returns.{Returns}
use Rattle.fsm_spec.specs.declared.table.Returns.TheVariants.{Nothing, Zero}
use Rattle.fsm_spec.specs.Words.{is_word, is_among, are_different, number_of}

-- ---- line 1

-- the name of the machine
unfoldable pub name_in : List (List ℕ) → Option (List ℕ)
name_in (key ∷ name ∷ []) = if bytes_eq key (codes "machine") && is_word name then Some name else None
name_in _ = None

-- ---- line 2

unfoldable pub are_states : List (List ℕ) → Bool
are_states names = nat_le 2 (length names) && (nat_le (length names) 8 && (list_all is_word names && are_different names))

-- the names of the states
unfoldable pub states_in : List (List ℕ) → Option (List (List ℕ))
states_in (key ∷ names) = if bytes_eq key (codes "states") && are_states names then Some names else None
states_in [] = None

-- ---- the other lines

-- functions whose meaning no machine changes: all built-in ones but those that lock, unlock and try to lock
abbrev pub built_in : List (List ℕ)
built_in =
    codes "malloc" ∷ codes "kmalloc" ∷ codes "calloc" ∷ codes "kzalloc" ∷ codes "free" ∷ codes "kfree" ∷ codes "exit"
    ∷ codes "_exit" ∷ codes "abort" ∷ codes "panic" ∷ codes "__assert_fail" ∷ codes "__builtin_expect" ∷ []

unfoldable pub is_function : List ℕ → Bool
is_function word = is_word word && not (is_among word built_in)

-- what the function returns
unfoldable pub returns_in : List ℕ → Option Returns
returns_in word = if bytes_eq word (codes "void") then Some Nothing else (if bytes_eq word (codes "zero") then Some Zero else None)

-- what follows a front, where the bytes begin with it
abbrev pub after : List ℕ → List ℕ → Option (List ℕ)
after front bytes = if bytes_eq (take (length front) bytes) front then Some (drop (length front) bytes) else None

-- the state with this name, none for `!`; nothing where it is neither
unfoldable pub goal_in : List (List ℕ) → List ℕ → Option (Option ℕ)
goal_in states goal = if bytes_eq goal (codes "!") then Some None else option_map Some (number_of goal states)

-- the target of a state S, of a word S>T
unfoldable pub target_in : List (List ℕ) → List ℕ → List ℕ → Option (Option ℕ)
target_in states state word = option_and_then (λ rest. option_and_then (goal_in states) (after (codes ">") rest)) (after state word)

abbrev pub both : Option (Option ℕ) → Option (List (Option ℕ)) → Option (List (Option ℕ))
both (Some target) (Some targets) = Some (target ∷ targets)
both (Some target) None = None
both None targets = None

-- the targets of the states, one word for each
abbrev pub targets_in : List (List ℕ) → List (List ℕ) → List (List ℕ) → Option (List (Option ℕ))
targets_in states [] [] = Some []
targets_in states [] (word ∷ words) = None
targets_in states (state ∷ more) [] = None
targets_in states (state ∷ more) (word ∷ words) = both (target_in states state word) (targets_in states more words)

-- what stands before the targets: the function, what it returns, and the words behind
unfoldable pub head_in : List (List ℕ) → Option (List ℕ × Returns × List (List ℕ))
head_in (key ∷ function ∷ returns ∷ words) =
    if bytes_eq key (codes "op") && is_function function then option_map (λ r. (function, r, words)) (returns_in returns) else None
head_in _ = None

abbrev pub operation_of : List ℕ → Returns → Option (List (Option ℕ)) → Option Operation
operation_of function returns None = None
operation_of function returns (Some targets) = Some (record { function = function; returns = returns; targets = targets })

abbrev pub with_targets : List (List ℕ) → Option (List ℕ × Returns × List (List ℕ)) → Option Operation
with_targets states None = None
with_targets states (Some (function, returns, words)) = operation_of function returns (targets_in states states words)

-- the operation that a line has
unfoldable pub operation_in : List (List ℕ) → List (List ℕ) → Option Operation
operation_in states words = with_targets states (head_in words)
