use Rattle.std.proofs.Common.{◌||◌, ◌∙◌, ℕ, List, Bor, ap, sym}
use Rattle.lang_model.specs.Checking.{among}
use Rattle.lang_model.specs.Tokens.{same_text}
use Rattle.rv_types.proofs.Naming.{at_error}
use Rattle.rv_types.proofs.Sets.{among-texts, or-cond}
use Rattle.rv_types.proofs.names.Names.add.Goals as goal

pub returns-clause-names : goal.returns-clause-names
returns-clause-names c n =
    let q : Bor (List ℕ) = record { ref_ptr = c.args.name.ref_ptr; now = n } in
    sym (among-texts c.insert.new.self.keys n) ∙ c.in_ok-insert.ensures.updates.0 q ∙ or-cond (same_text c.args.name.now n) _
    ∙ ap (λ b. same_text c.args.name.now n || b) (among-texts c.self.inside.names.keys n ∙ ap (λ v. among v n) c.self.view_is)

pub returns-in_err-insert-clause-memory : goal.returns-in_err-insert-clause-memory
returns-in_err-insert-clause-memory c =
    let n = c.args.name.now in
    at_error c.from_residual.result _ (sym (among-texts c.self.inside.names.keys n ∙ ap (λ v. among v n) c.self.view_is) ∙ c.in_err-insert.ensures.absent)
