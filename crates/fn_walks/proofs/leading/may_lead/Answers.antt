use Rattle.std.proofs.Common.{◌≡◌, false, List, subst}
use Rattle.gl_store.specs.declared.stores.Location.{Location as Guarded}
use Rattle.fn_walks.specs.Walks.{IsNowhereAt}
use Rattle.fn_walks.proofs.leading.may_lead.Goals as goal

pub returns : goal.returns
returns c =
    subst (λ (ls : List Guarded). c.stored_may_lead.result ≡ false → IsNowhereAt ls c.args.at) c.as_slice.ensures.value c.stored_may_lead.ensures
