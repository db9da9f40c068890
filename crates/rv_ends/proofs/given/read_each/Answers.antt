use Rattle.std.proofs.Common.{refl, ◌∙◌, ◌++◌, ◌∷◌, [], ℕ, List, subst}
use Rattle.std.specs.Prelude.{IsTrue}
use Rattle.std.specs.String.{string_bytes}
use Rattle.std.proofs.lemmas.List.Elements.{All-rest}
use Rattle.rv_ends.specs.Given.{IsTaken, Adds}
use Rattle.rv_ends.proofs.Rest.{head_tail}
use Rattle.rv_ends.proofs.Taking.{gives_more, within_more, word_rest, leaves_then}
use Rattle.rv_ends.proofs.given.read_each.Goals as goal

pub names-preserved : goal.names-preserved
names-preserved g c =
    let start = g.S.Shelf.told c.args.shelf.now in
    let inv = c.names.invariant in
    let name = c.name-item.result in
    let word = string_bytes name in
    let added = subst (λ w. (bytes : List ℕ) × IsTaken (g.S.Shelf.told c.names.shelf).files w bytes × Adds w bytes c.names.given c.read_file.new.given) c.as_str.ensures.value c.in-Ok.ensures.added in
    let taken = subst (λ f. IsTaken f word added.0) inv.leaves.files added.1 in
    record {
      before = inv.before ++ word ∷ [];
      place = word_rest _ inv.before c.names.rest.now _ name (head_tail c.names.rest.now name _ c.in-len1-up.len_at_least c.name-item.is refl) inv.place;
      gives = gives_more start.files inv.before word added.0 _ _ _ _ inv.gives taken added.2.scripts added.2.files;
      within = within_more start.files inv.before word inv.within added.0 taken;
      kept = c.in-Ok.ensures.kept ∙ inv.kept;
      leaves = leaves_then _ _ _ inv.leaves c.read_file.ensures.leaves;
      may_pick = All-rest (λ n. IsTrue (start.may_pick (string_bytes n))) name _ c.names.rest.now (head_tail c.names.rest.now name _ c.in-len1-up.len_at_least c.name-item.is refl) inv.may_pick;
    }
