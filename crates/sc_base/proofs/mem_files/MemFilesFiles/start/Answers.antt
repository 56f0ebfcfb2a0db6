use Rattle.std.proofs.Common.{◌≡◌, ◌==◌, true, Some, None, sym, ◌∙◌}
use Rattle.std.specs.List.{list_any}
use Rattle.sc_base.specs.Held.{bytes_of}
use Rattle.sc_base.specs.Memory.{named_bytes, content_at}
use Rattle.sc_base.proofs.Named.{firm_where_found, not_firm_unless_found, not_firm_where_failing}
use Rattle.sc_base.proofs.mem_files.MemFilesFiles.start.Goals as goal
use Rattle.sc_base.proofs.mem_files.MemFilesFiles.start.Goals.{then-not-contains+in_default, else-not-contains}

pub returns-in-Some-clause-firmly : goal.returns-in-Some-clause-firmly
returns-in-Some-clause-firmly c =
    let found : bytes_of c.args.name.now (named_bytes c.self.inside.files.items) ≡ Some (content_at c.self.inside.files.items c.in-Some.file) =
    rw (← c.deref-then-not-contains.ensures.value) c.in-Some.ensures in
    rw (← c.self.view_is) (firm_where_found _ _ _ _ found)

pub returns-clause-sure : goal.returns-clause-sure
returns-clause-sure c firm =
    let firmly = rw (← c.self.view_is) at firm in
    elim c.if-not-contains.branch [
      | then-not-contains+in_default w ↦
          let missing : bytes_of c.args.name.now (named_bytes c.self.inside.files.items) ≡ None =
          rw (← w.deref-then-not-contains.ensures.value) (rw w.in_default.is at w.place_of.ensures) in
          sym (not_firm_unless_found c.args.name.now (named_bytes c.self.inside.files.items) c.self.inside.failing.items missing) ∙ firmly
      | else-not-contains w ↦
          let fails : list_any (λ call. call == c.saturating_add-self-inside.result) c.self.inside.failing.items ≡ true =
          rw (← c.deref.ensures.value) (sym c.contains.ensures.value ∙ w.if-not-contains.false) in
          sym (not_firm_where_failing c.args.name.now (named_bytes c.self.inside.files.items) c.self.inside.failing.items c.saturating_add-self-inside.result fails) ∙ firmly
    ]
