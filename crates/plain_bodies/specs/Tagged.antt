-- Tags that stand (C11 6.7.2.3): a type that names such a tag, without a body, declares none.
use Rattle.std.specs.Prelude.{Bool, false, not, ◌&&◌, Option, Some, None}
use Rattle.sc_base.specs.declared.pos.NameId.{NameId}
use Rattle.scopes.specs.Frames.{Frames, meaning, here as declared_here}
use Rattle.sc_rules.specs.declared.walk.Tag.{Tag}
use Rattle.sc_rules.specs.declared.walk.TagKind.{TagKind}
use Rattle.sc_names.specs.Tags.{same_tag, clashes}

abbrev pub is_kind : TagKind → Option Tag → Bool
is_kind k None = false
is_kind k (Some t) = same_tag k t.kind

-- whether a name is a tag of that kind in these scopes, and none of another kind in the innermost
abbrev pub is_tagged : Frames Tag → TagKind → NameId → Bool
is_tagged tags k name = is_kind k (meaning name.at tags) && not (clashes k false (declared_here name.at tags))
