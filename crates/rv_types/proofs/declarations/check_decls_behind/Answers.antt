use Rattle.std.proofs.Common.{◌∙◌, ◌+◌, ◌||◌, drop, sym, ap}
use Rattle.lang_model.specs.Tokens.{same_text}
use Rattle.lang_model.specs.Checking.{among, decl_faults}
use Rattle.rv_types.specs.Found.{told, noted}
use Rattle.rv_types.proofs.Declaring.{noted-decl}
use Rattle.rv_types.proofs.declarations.check_decls_behind.Goals as goal

pub each-preserved : goal.each-preserved
each-preserved c =
    let P = c.args.parameters.now in
    let ds = c.args.decls.now in
    let k = c.each.decl-index in
    let d = c.decl-item.result in
    let old = c.each.before in
    let new = c.add.new.self in
    c.each.invariant
    ∙ noted-decl (told c.each.found) P old new ds k d c.each-test.true c.decl-item.is (λ n. c.in_ok-add.ensures.names n ∙ ap (λ q. same_text q n || among old n) (c.bytes.ensures ∙ c.name_of.ensures))
    ∙ ap (λ u. noted u (decl_faults P new (drop (k + 1) ds))) (sym c.check_decl-found.ensures)
