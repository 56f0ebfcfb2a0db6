use Rattle.std.proofs.Common.{[], ◌∷◌, ◌++◌, set, sym, ap, ◌∙◌, arith}
use Rattle.std.proofs.lemmas.List.{map-set}
use Rattle.summary_db.specs.Lays.{lists}
use Rattle.summary_db.proofs.Laying.{read_map}
use Rattle.summary_db.proofs.lay.note.Goals as goal

pub returns-clause-noted : goal.returns-clause-noted
returns-clause-noted c =
    let rows = c.args.rows.now in let ok = rows.ok.0 in
    map-set (λ row. row.items) rows.items c.args.at c.push.new.self
    ∙ ap (set (lists rows) c.args.at) (c.in_ok-push.ensures.items
    ∙ ap (λ xs. xs ++ c.args.number ∷ []) (sym (read_map (λ row. row.items) rows.items c.args.at c.index_mut.result.now (let low = c.requires in omega arith) c.index_mut.ensures.value)))
