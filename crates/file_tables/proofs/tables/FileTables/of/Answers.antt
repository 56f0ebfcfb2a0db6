use Rattle.std.proofs.Common.{◌≡◌, ℕ, None, false, List, [], ◌++◌, ◌∙◌, subst}
use Rattle.sc_program.specs.Bodies.{body_named}
use Rattle.sc_program.specs.Globals.{is_local_global, type_over_all}
use Rattle.sc_program.specs.Tables.{body_in, local_in}
use Rattle.sc_program.specs.Types.{type_of}
use Rattle.file_tables.specs.Filled.{own_names, IsRewritten}
use Rattle.file_tables.specs.Own.{own_bodies, own_records, names_of_bodies, names_of_records}
use Rattle.file_tables.proofs.Entries.{first_filled}
use Rattle.file_tables.proofs.Names.{body_elsewhere, no_body, local_elsewhere, no_local, type_elsewhere, no_type, same_elsewhere}
use Rattle.file_tables.proofs.tables.FileTables.of.Goals as goal

pub returns-clause-tables : goal.returns-clause-tables
returns-clause-tables c =
    let bs = c.args.bodies.now in
    let rs = c.args.records in
    let own = c.in_ok-own.own.items in
    let owns : (f : ℕ) → own_names own f ≡ own_bodies f bs ++ own_records f rs = λ f. rw c.as_slice.ensures at (c.in_ok-own.ensures f) in
    let names : c.in_ok-names.names ≡ names_of_records rs = rw c.as_slice-2.ensures at c.in_ok-names.ensures in
    let bodies : (f n : ℕ) → body_in c.in_ok-numbers.numbers f n ≡ body_named bs f n = c.in_ok-numbers.ensures in
    let locals : (f n : ℕ) → local_in c.in_ok-local.local f n ≡ is_local_global rs f n = λ f n. rw c.as_slice-3.ensures at (c.in_ok-local.ensures f n) in
    let types : (f n : ℕ) → type_of c.in_ok-types.types f n ≡ type_over_all c.args.w c.args.structs.now rs f n = c.in_ok-types.ensures in
    let flags = subst (λ (ns : List ℕ). IsRewritten false (local_in c.in_ok-local.local) 0 ns [] c.in_ok-locals.locals.items) (c.as_slice-4.ensures ∙ names) c.in_ok-locals.ensures in
    let entries = subst (λ (ns : List ℕ). IsRewritten None (type_of c.in_ok-types.types) 0 ns [] c.in_ok-globals.globals.items) (c.as_slice-5.ensures ∙ names) c.in_ok-globals.ensures in
    record {
      of_bodies =
          record {
            filled = first_filled None (body_in c.in_ok-numbers.numbers) 0 (names_of_bodies bs) c.in_ok-body_table.body_table.items c.in_ok-body_table.ensures (λ n h. bodies 0 n ∙ no_body bs 0 n h);
            elsewhere = same_elsewhere own bs rs (body_in c.in_ok-numbers.numbers) (body_named bs) owns bodies (λ f g n a b d e. body_elsewhere bs f g n a d);
          };
      of_locals =
          record {
            filled = first_filled false (local_in c.in_ok-local.local) 0 (names_of_records rs) c.in_ok-locals.locals.items flags (λ n h. locals 0 n ∙ no_local rs 0 n h);
            elsewhere = same_elsewhere own bs rs (local_in c.in_ok-local.local) (is_local_global rs) owns locals (λ f g n a b d e. local_elsewhere rs f g n b e);
          };
      of_types =
          record {
            filled = first_filled None (type_of c.in_ok-types.types) 0 (names_of_records rs) c.in_ok-globals.globals.items entries (λ n h. types 0 n ∙ no_type c.args.w c.args.structs.now rs 0 n h);
            elsewhere = same_elsewhere own bs rs (type_of c.in_ok-types.types) (type_over_all c.args.w c.args.structs.now rs) owns types (λ f g n a b d e. type_elsewhere c.args.w c.args.structs.now rs f g n b e);
          };
    }
