use Rattle.std.proofs.Common.{◌∙◌, ℕ, List, sym, ap}
use Rattle.std.specs.Prelude.{is_some}
use Rattle.std.specs.List.{list_all}
use Rattle.std.specs.String.{string_bytes}
use Rattle.rv_io.specs.Sure.{kept_at}
use Rattle.rv_words.specs.Shown.{texts}
use Rattle.relview.proofs.Unfailing.{files_pass}
use Rattle.relview.proofs.surely.has_files.Goals as goal

pub returns-in-Ok : goal.returns-in-Ok
returns-in-Ok c =
    let kept = c.args.shelf.now.kept in
    let test = λ (name : List ℕ). is_some (kept_at kept.bytes.items kept.places.items name) in
    λ all. files_pass test (texts c.args.words.now) c.in-Ok.options c.in-Ok.ensures.taken
    (sym (ap (λ names. list_all (λ name. test (string_bytes name)) names) c.as_slice.ensures.value) ∙ sym c.has_all.ensures ∙ all)
