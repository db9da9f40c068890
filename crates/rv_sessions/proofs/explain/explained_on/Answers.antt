use Rattle.std.proofs.Common.{◌∙◌, ap}
use Rattle.lang_model.specs.Trees.{tree_of}
use Rattle.lang_model.specs.Rewriting.{steps_of}
use Rattle.lang_model.specs.Eval.{early_fault}
use Rattle.run_model.specs.Page.{explanation}
use Rattle.rv_eval.specs.Names.{state_of}
use Rattle.rv_rewrite.specs.Steps.{steps_by_trees}
use Rattle.rv_sessions.proofs.Explaining.{refused_ahead}
use Rattle.rv_sessions.proofs.explain.explained_on.Goals as goal

pub returns-in-Ok-steps_text : goal.returns-in-Ok-steps_text
returns-in-Ok-steps_text c w sizes stand =
    let told = c.in-Ok.ensures.answer w sizes stand in
    (told.0, c.in-Ok-steps_text.ensures ∙ ap explanation (ap steps_by_trees c.as_slice.ensures.value ∙ told.1))

pub returns : goal.returns
returns c w sizes stand =
    refused_ahead (early_fault c.args.checked.now (state_of w c.args.names.now) c.args.expr.now) (steps_of (tree_of c.args.expr.now))
    c.in-Err.refused c.outcome_of.result c.outcome_of.ensures (c.in-Err.ensures.answer w sizes stand)
