-- One argument more of a command.
use Rattle.std.proofs.Common.{◌≡◌, ◌∙◌, false, List, [], ◌∷◌, ◌++◌, ap₂}
use Rattle.std.specs.Prelude.{Result, Ok, Err, IfOk}
use Rattle.std.specs.declared.alloc.AllocError.{AllocError}
use Rattle.clap.specs.Words.{AddsArg, Rule, Text, app_of, rule_of, with_rule}
use Rattle.clap.specs.declared.builder.arg.Arg.{Arg}
use Rattle.clap.specs.declared.builder.command.Command.{Command}
use Rattle.saturn_words.specs.Commands.{command}

pub adds : (name : Text) (rules : List Rule) (rule : Rule) (old : Command) (a : Arg) (new : Command)
    → app_of old ≡ command name rules → rule_of a ≡ rule → a.global ≡ false → AddsArg old a new
    → app_of new ≡ command name (rules ++ (rule ∷ []))
adds name rules rule old a new is rule_is local added = added.shape local ∙ ap₂ with_rule is rule_is

pub adds_last : (name : Text) (rules : List Rule) (rule : Rule) (old : Command) (a : Arg)
    (r : Result Command AllocError)
    → app_of old ≡ command name rules → rule_of a ≡ rule → a.global ≡ false → IfOk r (AddsArg old a)
    → IfOk r (λ new. app_of new ≡ command name (rules ++ (rule ∷ [])))
adds_last name rules rule old a (Ok new) is rule_is local added = adds name rules rule old a new is rule_is local added
adds_last name rules rule old a (Err e) is rule_is local added = tt
