use Rattle.std.proofs.Common.{◌≡◌, ◌∙◌, ◌++◌, ◌∷◌, [], append_assoc, ap, sym, rules}
use Rattle.std.proofs.lemmas.List.{map-append}
use Rattle.std.specs.Vec.Iter.{into_iter_items}
use Rattle.rv_workspace.specs.Books.{versions_of}
use Rattle.rv_sessions.proofs.turns.with_versions.Goals as goal

pub names-preserved : goal.names-preserved
names-preserved g c =
    let i = c.names.invariant in
    let n = c.in-Some.name in
    let h = c.args.book.now in
    let items : c.args.names.items ≡ c.names.yielded ++ n ∷ into_iter_items c.next.new.self = search rules in (
      tt,
      tt,
      items ∙ sym (append_assoc c.names.yielded (n ∷ []) (into_iter_items c.next.new.self)),
      c.in_ok-push.ensures.items ∙ ap (λ k. c.names.versions.items ++ (n, k) ∷ []) c.version-number.ensures
          ∙ ap (λ vs. vs ++ (n, versions_of h n) ∷ []) i.3 ∙ sym (map-append (λ name. (name, versions_of h name)) c.names.yielded (n ∷ [])),
    )
