-- The laws of loading.
use Rattle.clause_builder.proofs.Extension.{nothing_loaded, loaded_grown, loaded_extended}
use Rattle.clause_builder.proofs.loader.what_is_loaded_stays.Goals as goal

pub returns-clause-nothing : goal.returns-clause-nothing
returns-clause-nothing c = nothing_loaded

pub returns-clause-grown : goal.returns-clause-grown
returns-clause-grown c = loaded_grown

pub returns-clause-extended : goal.returns-clause-extended
returns-clause-extended c = loaded_extended
