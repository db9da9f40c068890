use Rattle.std.proofs.Common.{◌∙◌, ℕ, Some, ap, sym, subst, rules}
use Rattle.run_model.specs.Versions.{versions_after}
use Rattle.rv_workspace.specs.Committing.{IsCommitRefusal}
use Rattle.rv_workspace.proofs.Noting.{told_of}
use Rattle.rv_workspace.proofs.Changing.{change_of, none_changed, one_changed, place_within, versions_refused}
use Rattle.rv_workspace.proofs.committing.commit_all.Goals as goal

pub offset_bounds-reads-place : goal.offset_bounds-reads-place
offset_bounds-reads-place c =
    let within = place_within c.args.versions.now c.args.reads.now c.in-Some.place (sym c.first_changed.ensures ∙ c.in-Some.is) in
    search (rules, within)

pub bounds-reads-place : goal.bounds-reads-place
bounds-reads-place c = place_within c.args.versions.now c.args.reads.now c.in-Some.place (sym c.first_changed.ensures ∙ c.in-Some.is)

pub returns-in-Some-clause-answer : goal.returns-in-Some-clause-answer
returns-in-Some-clause-answer c first counted =
    let v = c.args.versions.now in
    let es = c.args.history.now.items in
    let read = c.index-reads-place.result in
    let change = one_changed v first es counted c.args.reads.now c.in-Some.place read (sym c.first_changed.ensures ∙ c.in-Some.is) in
    let told = change ∙ ap (λ x. Some (change_of first x es)) (sym c.index-reads-place.is) in
    let found = c.of-found.ensures ∙ told_of v first es read.0 counted in
    let whole = told ∙ ap (λ (n : ℕ). Some (record { name = read.0; seen = read.1; found = n })) (sym found) in
    subst (λ z. IsCommitRefusal z c.tell_change.result) (sym whole) c.tell_change.ensures.told

pub returns-in-Some-clause-versions : goal.returns-in-Some-clause-versions
returns-in-Some-clause-versions c first counted =
    let es = c.args.history.now.items in
    counted
    ∙ sym (ap (versions_after first) c.tell_change.ensures.entered ∙ versions_refused first c.args.session c.args.command c.tell_change.result es)

pub returns-in-Ok-clause-answer : goal.returns-in-Ok-clause-answer
returns-in-Ok-clause-answer c first counted = none_changed c.args.versions.now first c.args.history.now.items counted c.args.reads.now (sym c.first_changed.ensures ∙ c.in-None.is)
