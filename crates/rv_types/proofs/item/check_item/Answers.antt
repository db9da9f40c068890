use Rattle.std.proofs.Common.{◌≡◌, ◌∙◌, false, sym, ap, subst}
use Rattle.std.specs.Prelude.{IfOk}
use Rattle.lang_model.specs.Checking.{item_faults, rank_of}
use Rattle.rv_types.specs.Found.{told, noted}
use Rattle.rv_types.specs.Scopes.{scope_behind}
use Rattle.rv_types.proofs.item.check_item.Goals as goal

pub check_in-requires : goal.check_in-requires
check_in-requires c = record {
  bare = c.new-scope.ensures ∙ ap (λ k. scope_behind false k.earlier) (sym c.new-scope.ensures);
  rank = c.requires ∙ ap (λ k. rank_of k.earlier c.args.item.now) (sym c.new-scope.ensures);
}

pub returns-clause-fault : goal.returns-clause-fault
returns-clause-fault c =
    subst (λ E. IfOk c.check_in.result (λ r. told r ≡ noted (told c.args.so_far) (item_faults E c.args.item.now)))
    (ap (λ k. k.earlier) c.new-scope.ensures) c.check_in.ensures.fault
