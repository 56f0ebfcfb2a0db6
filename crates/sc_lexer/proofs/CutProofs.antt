-- The ends of the segments ascend, and none is above the number of tokens.
use Rattle.std.proofs.Common.{◌≡◌, ℕ, ◌+◌, ◌≤◌, List, [], ◌∷◌, length, sym, arith, inl, inr, subst}
use Rattle.std.specs.Prelude.{◌==◌}
use Rattle.std.proofs.lemmas.Bool.{cond-false, cond-true, cases_Bool, eqb-false}
use Rattle.sc_tree.specs.declared.token.Token.{Token}
use Rattle.sc_tree.specs.declared.piece.Spot.{Spot}
use Rattle.sc_tree.specs.Roles.{role_of}
use Rattle.sc_tree.specs.Segments.{Cuts, ends_from, ends_of, first_spot, is_end, next_spot}

-- from a token on, where `count` is the number of all tokens
ends_cut_from : (start at count : ℕ) (spot : Spot) (tokens : List Token) → start ≤ at → at + length tokens ≡ count
    → Cuts start count (ends_from start at spot tokens)
ends_cut_from start at count spot [] le all =
    let P : List ℕ → Type 0 = λ ends. Cuts start count ends in
    elim (cases_Bool (start == at)) [
      | inl same ↦ subst P (sym (cond-true (start == at) [] (at ∷ []) same)) tt
      | inr other ↦
          let differ = eqb-false start at other in
          subst P (sym (cond-false (start == at) [] (at ∷ []) other)) (omega arith, omega arith, tt)
    ]
ends_cut_from start at count spot (t ∷ ts) le all =
    let P : List ℕ → Type 0 = λ ends. Cuts start count ends in
    let e = is_end spot (role_of t.kind) in
    let ended : List ℕ = (at + 1) ∷ ends_from (at + 1) (at + 1) first_spot ts in
    let further : List ℕ = ends_from start (at + 1) (next_spot spot (role_of t.kind)) ts in
    elim (cases_Bool e) [
      | inl ends ↦ subst P (sym (cond-true e ended further ends))
          (omega arith, omega arith, ends_cut_from (at + 1) (at + 1) count first_spot ts (omega arith) (omega arith))
      | inr goes ↦ subst P (sym (cond-false e ended further goes))
          (ends_cut_from start (at + 1) count (next_spot spot (role_of t.kind)) ts (omega arith) (omega arith))
    ]

pub ends_cut : (tokens : List Token) (ends : List ℕ) → ends ≡ ends_of tokens → Cuts 0 (length tokens) ends
unfolding ends_of
ends_cut tokens ends are = subst (λ (xs : List ℕ). Cuts 0 (length tokens) xs) (sym are)
    (ends_cut_from 0 0 (length tokens) first_spot tokens (omega arith) (omega arith))
