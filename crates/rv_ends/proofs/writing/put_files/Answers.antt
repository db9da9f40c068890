use Rattle.std.proofs.Common.{◌∙◌, ◌++◌, ◌∷◌, [], refl}
use Rattle.std.proofs.lemmas.List.Elements.{All-rest}
use Rattle.std.specs.Str.{IsUtf8}
use Rattle.run_model.specs.Filed.{saved_of}
use Rattle.rv_ends.proofs.Rest.{head_tail}
use Rattle.rv_ends.proofs.Putting.{put_more, place_rest}
use Rattle.rv_ends.proofs.writing.put_files.Goals as goal

pub saves-preserved : goal.saves-preserved
saves-preserved g c =
    let made = c.saves.invariant.made in
    let save = c.save-item.result in record {
      made = made ++ saved_of save ∷ [];
      place = place_rest _ made c.saves.rest.now _ save (head_tail c.saves.rest.now save _ c.in-len1-up.len_at_least c.save-item.is refl) c.saves.invariant.place;
      put = put_more _ _ _ made (saved_of save) c.saves.invariant.put c.in-Ok.ensures.file c.in-Ok.ensures.others;
      kept = c.in-Ok.ensures.kept ∙ c.saves.invariant.kept;
      texts = All-rest (λ s. IsUtf8 s.name) save _ c.saves.rest.now (head_tail c.saves.rest.now save _ c.in-len1-up.len_at_least c.save-item.is refl) c.saves.invariant.texts;
    }
