use Rattle.std.proofs.Common.{◌∙◌, ap}
use Rattle.rv_workspace.specs.Books.{versions_of}
use Rattle.rv_workspace.proofs.Noting.{told_of}
use Rattle.rv_workspace.proofs.book.Book.into_parts.Goals as goal

pub returns-clause-versions : goal.returns-clause-versions
returns-clause-versions g c n =
    told_of c.self.inside.versions c.self.inside.first_versions.value c.self.inside.history.items n c.self.invariant.0.versions_left
    ∙ ap (λ k. versions_of k n) c.self.view_is
