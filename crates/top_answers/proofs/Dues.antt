-- What is due, in an option and out of one.
use Rattle.std.proofs.Common.{◌≡◌, Option, Some, None, Result, IfOk, sym, ap}
use Rattle.std.proofs.lemmas.Result.{IfOk-weaker}
use Rattle.top_answers.specs.declared.answer.Answer.{Answer}
use Rattle.top_answers.specs.Answer.{Due}
use Rattle.top_answers.specs.Seen.{seen}

-- what stands in an option
unwrapped : Option Due → Due → Due
unwrapped (Some due) other = due
unwrapped None other = other

pub inside : (x y : Due) → Some x ≡ Some y → x ≡ y
unfolding unwrapped
inside x y is = ap (λ o. unwrapped o x) is

-- what is seen in an answer is what is due
pub as_due : {E : Type 0} (result : Result Answer E) (due : Due) → IfOk result (λ answer. seen answer ≡ due)
    → IfOk result (λ answer. Some due ≡ Some (seen answer))
as_due result due is = IfOk-weaker result (λ answer. seen answer ≡ due) (λ answer. Some due ≡ Some (seen answer)) (λ answer e. ap Some (sym e)) is
