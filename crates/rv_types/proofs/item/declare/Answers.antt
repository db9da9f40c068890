use Rattle.std.proofs.Common.{◌≡◌, ◌||◌, ◌∙◌, Bool, true, false, refl, ap}
use Rattle.lang_model.specs.Checking.{among, variables_of, domains_of}
use Rattle.rv_types.proofs.item.declare.Goals as goal

or-none : (b : Bool) → (b || false) ≡ b
or-none true = refl
or-none false = refl

pub returns : goal.returns
returns c =
    let h = c.requires in
    let ds = c.args.decls.now in
    record {
      kind = ap (λ k. k.is_command) h;
      parameters_kept = refl;
      earlier_kept = refl;
      variables_declared = λ n. c.in_ok-add_variables.ensures.names n ∙ ap (λ k. among (variables_of ds) n || among k.variables n) h ∙ or-none (among (variables_of ds) n);
      products_declared = λ n. c.in_ok-add_domains.ensures.names n ∙ ap (λ k. among (domains_of false ds) n || among k.products n) h ∙ or-none (among (domains_of false ds) n);
      sums_declared = λ n. c.in_ok-add_domains-2.ensures.names n ∙ ap (λ k. among (domains_of true ds) n || among k.sums n) h ∙ or-none (among (domains_of true ds) n);
    }
