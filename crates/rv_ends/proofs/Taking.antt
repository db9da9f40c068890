-- Files that are read one after another, and what is said of the FILE words behind them.
use Rattle.std.proofs.Common.{◌≡◌, ◌∙◌, ℕ, Bool, true, false, cond, List, [], ◌∷◌, ◌++◌, Option, refl, sym, ap, append_assoc, append-nil, arith}
use Rattle.std.specs.Prelude.{if◌then◌else◌, String}
use Rattle.std.specs.String.{string_bytes}
use Rattle.std.specs.declared.alloc.Global.{Global}
use Rattle.rv_words.specs.Shown.{texts}
use Rattle.run_model.specs.Inputs.{RelationFile}
use Rattle.rv_words.specs.Uses.{Word}
use Rattle.rv_words.specs.Said.{is_relation_word, scripts_in, relations_in}
use Rattle.rv_io.specs.Outside.{Files, Told, Leaves}
use Rattle.rv_ends.specs.Given.{IsTaken, AreTaken, AreWithin, Gives, names_of, bytes_of}

-- ---- one file more
scripts_in-append : (words : List Word) (word : Word) → scripts_in (words ++ word ∷ []) ≡ scripts_in words ++ cond (is_relation_word word) [] (word ∷ [])
scripts_in-append [] word = by_kind (is_relation_word word)
  where
    by_kind : (b : Bool) → (if b then [] else word ∷ []) ≡ cond b [] (word ∷ [])
    by_kind true = refl
    by_kind false = refl
scripts_in-append (x ∷ xs) word = by_kind (scripts_in-append xs word) (is_relation_word x)
  where
    by_kind : scripts_in (xs ++ word ∷ []) ≡ scripts_in xs ++ cond (is_relation_word word) [] (word ∷ []) → (b : Bool) → (if b then scripts_in (xs ++ word ∷ []) else x ∷ scripts_in (xs ++ word ∷ []))
        ≡ (if b then scripts_in xs else x ∷ scripts_in xs) ++ cond (is_relation_word word) [] (word ∷ [])
    by_kind h true = h
    by_kind h false = ap (λ ws. x ∷ ws) h

-- a relation word goes behind the other relation words, and a word of another kind adds nothing to them
relations_in-append : (words : List Word) (word : Word) → relations_in (words ++ word ∷ []) ≡ relations_in words ++ cond (is_relation_word word) (word ∷ []) []
relations_in-append [] word = by_kind (is_relation_word word)
  where
    by_kind : (b : Bool) → (if b then word ∷ [] else []) ≡ cond b (word ∷ []) []
    by_kind true = refl
    by_kind false = refl
relations_in-append (x ∷ xs) word = by_kind (relations_in-append xs word) (is_relation_word x)
  where
    by_kind : relations_in (xs ++ word ∷ []) ≡ relations_in xs ++ cond (is_relation_word word) (word ∷ []) [] → (b : Bool) → (if b then x ∷ relations_in (xs ++ word ∷ []) else relations_in (xs ++ word ∷ []))
        ≡ (if b then x ∷ relations_in xs else relations_in xs) ++ cond (is_relation_word word) (word ∷ []) []
    by_kind h true = ap (λ ws. x ∷ ws) h
    by_kind h false = h

-- files taken, and then others
taken-append : (files : Option Files) (xs ys : List Word) (bs cs : List (List ℕ)) → AreTaken files xs bs → AreTaken files ys cs → AreTaken files (xs ++ ys) (bs ++ cs)
taken-append files [] ys [] cs h k = k
taken-append files (x ∷ xs) ys (b ∷ bs) cs h k = (h.0, taken-append files xs ys bs cs h.1 k)
taken-append files [] ys (b ∷ bs) cs h k = absurd h
taken-append files (x ∷ xs) ys [] cs h k = absurd h

names_of-append : (fs gs : List RelationFile) → names_of (fs ++ gs) ≡ names_of fs ++ names_of gs
names_of-append [] gs = refl
names_of-append (f ∷ fs) gs = ap (λ ns. f.name ∷ ns) (names_of-append fs gs)

bytes_of-append : (fs gs : List RelationFile) → bytes_of (fs ++ gs) ≡ bytes_of fs ++ bytes_of gs
bytes_of-append [] gs = refl
bytes_of-append (f ∷ fs) gs = ap (λ bs. f.bytes ∷ bs) (bytes_of-append fs gs)

-- a script or a relation file more
pub gives_more : (files : Option Files) (words : List Word) (word : Word) (bytes : List ℕ) (scripts more : List (List ℕ)) (loaded others : List RelationFile)
    → Gives files words scripts loaded → IsTaken files word bytes → more ≡ scripts ++ cond (is_relation_word word) [] (bytes ∷ [])
    → others ≡ loaded ++ cond (is_relation_word word) (record { name = word; bytes = bytes } ∷ []) [] → Gives files (words ++ word ∷ []) more others
gives_more files words word bytes scripts more loaded others h t em eo = by_kind (is_relation_word word) refl
  where
    one : AreTaken files (word ∷ []) (bytes ∷ [])
    one = (t, tt)

    by_kind : (b : Bool) → is_relation_word word ≡ b → Gives files (words ++ word ∷ []) more others
    by_kind true e =
        let ws : scripts_in (words ++ word ∷ []) ≡ scripts_in words = scripts_in-append words word ∙ ap (λ b. scripts_in words ++ cond b [] (word ∷ [])) e ∙ append-nil (scripts_in words) in
        let rs : relations_in (words ++ word ∷ []) ≡ relations_in words ++ word ∷ [] = relations_in-append words word ∙ ap (λ b. relations_in words ++ cond b (word ∷ []) []) e in
        let ms : more ≡ scripts = em ∙ ap (λ b. scripts ++ cond b [] (bytes ∷ [])) e ∙ append-nil scripts in
        let os : others ≡ loaded ++ record { name = word; bytes = bytes } ∷ [] = eo ∙ ap (λ b. loaded ++ cond b (record { name = word; bytes = bytes } ∷ []) []) e in
        record {
          scripts_are = rw (ws, ms) h.scripts_are;
          named = rw (rs, os) (names_of-append loaded (record { name = word; bytes = bytes } ∷ []) ∙ ap (λ ns. ns ++ word ∷ []) h.named);
          loaded_are = rw (rs, os, bytes_of-append loaded (record { name = word; bytes = bytes } ∷ [])) (taken-append files (relations_in words) (word ∷ []) (bytes_of loaded) (bytes ∷ []) h.loaded_are one);
        }
    by_kind false e =
        let ws : scripts_in (words ++ word ∷ []) ≡ scripts_in words ++ word ∷ [] = scripts_in-append words word ∙ ap (λ b. scripts_in words ++ cond b [] (word ∷ [])) e in
        let rs : relations_in (words ++ word ∷ []) ≡ relations_in words = relations_in-append words word ∙ ap (λ b. relations_in words ++ cond b (word ∷ []) []) e ∙ append-nil (relations_in words) in
        let ms : more ≡ scripts ++ bytes ∷ [] = em ∙ ap (λ b. scripts ++ cond b [] (bytes ∷ [])) e in
        let os : others ≡ loaded = eo ∙ ap (λ b. loaded ++ cond b (record { name = word; bytes = bytes } ∷ []) []) e ∙ append-nil loaded in
        record {
          scripts_are = rw (ws, ms) (taken-append files (scripts_in words) (word ∷ []) scripts (bytes ∷ []) h.scripts_are one);
          named = rw (rs, os) h.named;
          loaded_are = rw (rs, os) h.loaded_are;
        }

-- one FILE word more is within its limit
pub within_more : (files : Option Files) (words : List Word) (word : Word) → AreWithin files words → (bytes : List ℕ) → IsTaken files word bytes → AreWithin files (words ++ word ∷ [])
within_more files [] word h bytes t = ((bytes, t), tt)
within_more files (x ∷ xs) word h bytes t = (h.0, within_more files xs word h.1 bytes t)

-- one word goes over from those to be read to those that were
pub word_rest : (all before : List Word) (rest tail : List (String Global)) (name : String Global) → rest ≡ name ∷ tail → all ≡ before ++ texts rest → all ≡ (before ++ string_bytes name ∷ []) ++ texts tail
word_rest all before rest tail name e place = place ∙ ap (λ r. before ++ texts r) e ∙ sym (append_assoc before (string_bytes name ∷ []) (texts tail))

-- what two calls leave, one after the other
pub leaves_then : (a b c : Told) → Leaves a b → Leaves b c → Leaves a c
leaves_then a b c h k = record {
  files = k.files ∙ h.files;
  put_faults = k.put_faults ∙ h.put_faults;
  may_pick = λ name t. k.may_pick name (h.may_pick name t);
  faults = omega (arith, h.faults, k.faults);
}

pub leaves_all : (a : Told) → Leaves a a
leaves_all a = record { files = refl; put_faults = refl; may_pick = λ name t. t; faults = omega arith }
