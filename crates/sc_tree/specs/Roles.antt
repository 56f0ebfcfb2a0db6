-- What a token does to brackets and segments.
use Rattle.sc_tree.specs.declared.token.Kind.{Kind}
use Rattle.sc_tree.specs.declared.token.Kind.TheVariants as kind
use Rattle.sc_tree.specs.declared.token.Punct.{Punct}
use Rattle.sc_tree.specs.declared.token.Punct.TheVariants as punct
use Rattle.sc_tree.specs.declared.token.Reserved.{Reserved}
use Rattle.sc_tree.specs.declared.token.Reserved.TheVariants as word
use Rattle.sc_tree.specs.declared.piece.Bracket.TheVariants as bracket
use Rattle.sc_tree.specs.declared.piece.Role.{Role}
use Rattle.sc_tree.specs.declared.piece.Role.TheVariants as role

abbrev pub punct_role : Punct → Role
punct_role punct.LeftParen = role.Opens bracket.Round
punct_role punct.RightParen = role.Closes bracket.Round
punct_role punct.LeftBracket = role.Opens bracket.Square
punct_role punct.RightBracket = role.Closes bracket.Square
punct_role punct.LeftBrace = role.Opens bracket.Curly
punct_role punct.RightBrace = role.Closes bracket.Curly
punct_role punct.Semicolon = role.Semicolon
punct_role _ = role.Plain

-- qualifiers and the like mean nothing here, and attributes and alignments neither
abbrev pub word_role : Reserved → Role
word_role word.Const = role.Nothing
word_role word.Volatile = role.Nothing
word_role word.Restrict = role.Nothing
word_role word.Register = role.Nothing
word_role word.Auto = role.Nothing
word_role word.Noreturn = role.Nothing
word_role word.ThreadLocal = role.Nothing
word_role word.Extension = role.Nothing
word_role word.Attribute = role.Attribute
word_role word.Alignas = role.Attribute
word_role _ = role.Plain

abbrev pub role_of : Kind → Role
role_of (kind.Punct p) = punct_role p
role_of (kind.Reserved w) = word_role w
role_of _ = role.Plain
