-- Files that are put one after another.
use Rattle.std.proofs.Common.{◌≡◌, ◌∙◌, ℕ, Bool, true, false, cond, List, [], ◌∷◌, ◌++◌, Option, Some, None, refl, sym, ap, subst, append_assoc}
use Rattle.std.proofs.lemmas.Bool.{false≢true}
use Rattle.std.proofs.lemmas.Slice.Eq.{bytes_eq-Decides}
use Rattle.lang_model.specs.Tokens.{same_text}
use Rattle.run_model.specs.Page.{SavedFile}
use Rattle.run_model.specs.declared.files.Save.{Save}
use Rattle.run_model.specs.Filed.{saved_of, saved_all}
use Rattle.rv_io.specs.Outside.{Files, IsFile, KeepsOthers}
use Rattle.rv_ends.specs.Writing.{with_file, with_files, HasPut, HasPutBut}

-- one more is put last
with_files-append : (before : Files) (made : List SavedFile) (save : SavedFile) (name : List ℕ) → with_files before (made ++ save ∷ []) name ≡ with_file (with_files before made) save name
with_files-append before [] save name = refl
with_files-append before (x ∷ xs) save name = with_files-append (with_file before x) xs save name

-- no file was put
pub put_none : (old : Option Files) → HasPut old old []
put_none None = tt
put_none (Some files) = λ name. refl

-- one more file was put
pub put_more : (old mid new : Option Files) (made : List SavedFile) (save : SavedFile) → HasPut old mid made → IsFile new save.name save.bytes → KeepsOthers mid new save.name → HasPut old new (made ++ save ∷ [])
put_more old mid None made save h f k = tt
put_more old None (Some now) made save h f k = absurd k
put_more None (Some m) (Some now) made save h f k = absurd h
put_more (Some before) (Some m) (Some now) made save h f k = λ name. by_name name (same_text save.name name) refl
  where
    by_name : (name : List ℕ) (b : Bool) → same_text save.name name ≡ b → now name ≡ with_files before (made ++ save ∷ []) name
    by_name name true e =
        let same : save.name ≡ name = (bytes_eq-Decides save.name name).0 e in
        subst (λ n. now n ≡ Some save.bytes) same f
        ∙ sym (with_files-append before made save name ∙ ap (λ b. cond b (Some save.bytes) (with_files before made name)) e)
    by_name name false e =
        k name (λ same. false≢true (sym e ∙ (bytes_eq-Decides save.name name).1 (sym same))) ∙ h name
        ∙ sym (with_files-append before made save name ∙ ap (λ b. cond b (Some save.bytes) (with_files before made name)) e)

-- a put was tried, and all files but its own stayed
pub put_but : (old mid new : Option Files) (made : List SavedFile) (lost : List ℕ) → HasPut old mid made → KeepsOthers mid new lost → HasPutBut old new made lost
put_but old mid None made lost h k = tt
put_but old None (Some now) made lost h k = absurd k
put_but None (Some m) (Some now) made lost h k = absurd h
put_but (Some before) (Some m) (Some now) made lost h k = λ name other. k name other ∙ h name

-- one file goes over from those to be put to those that were
pub place_rest : (all made : List SavedFile) (rest tail : List Save) (save : Save) → rest ≡ save ∷ tail → all ≡ made ++ saved_all rest → all ≡ (made ++ saved_of save ∷ []) ++ saved_all tail
place_rest all made rest tail save e place = place ∙ ap (λ r. made ++ saved_all r) e ∙ sym (append_assoc made (saved_of save ∷ []) (saved_all tail))
