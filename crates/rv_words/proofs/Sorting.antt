-- A part more: its scripts and relation files behind those before it, and whether it is taken.
use Rattle.std.proofs.Common.{◌≡◌, ◌+◌, ◌++◌, ◌&&◌, ℕ, Bool, true, false, List, [], ◌∷◌, length, refl, sym, ap, ap₂, ◌∙◌, inl, inr, arith, Some, None, length-append, Option}
use Rattle.std.specs.Prelude.{if◌then◌else◌, nat_le, nat_lt, is_some, option_map}
use Rattle.std.specs.List.{list_all}
use Rattle.std.proofs.lemmas.Bool.{cases_Bool, false≢true}
use Rattle.std.proofs.lemmas.Bool.Decides.{nat_tests}
use Rattle.rv_words.specs.Uses.{Word}
use Rattle.rv_words.specs.Parts.{most_parts, parts_of, parts_behind, into_first, then_word, ends_word}
use Rattle.rv_words.specs.Said as said
use Rattle.rv_words.specs.Shown.{texts, IsSorted}
use Rattle.rv_words.specs.declared.files.FileList.{FileList}
use Rattle.std.specs.Str.{bytes_eq}

-- ---- scripts and relation files of two lists
pub scripts_in-append : (xs ys : List Word) → said.scripts_in (xs ++ ys) ≡ said.scripts_in xs ++ said.scripts_in ys
scripts_in-append [] ys = refl
scripts_in-append (x ∷ xs) ys = elim (cases_Bool (said.is_relation_word x)) [
  | inl is ↦ rw is (scripts_in-append xs ys)
  | inr other ↦ rw other (ap (λ zs. x ∷ zs) (scripts_in-append xs ys))
]

pub relations_in-append : (xs ys : List Word) → said.relations_in (xs ++ ys) ≡ said.relations_in xs ++ said.relations_in ys
relations_in-append [] ys = refl
relations_in-append (x ∷ xs) ys = elim (cases_Bool (said.is_relation_word x)) [
  | inl is ↦ rw is (ap (λ zs. x ∷ zs) (relations_in-append xs ys))
  | inr other ↦ rw other (relations_in-append xs ys)
]

-- one more FILE word leaves the list sorted
pub sorted_more : (old new : FileList) (file : Word) → texts new.files.items ≡ texts old.files.items ++ file ∷ []
    → texts new.scripts.items ≡ texts old.scripts.items ++ said.scripts_in (file ∷ [])
    → texts new.relations.items ≡ texts old.relations.items ++ said.relations_in (file ∷ []) → IsSorted old → IsSorted new
sorted_more old new file files scripts relations sorted = record {
  scripts = scripts ∙ ap (λ xs. xs ++ said.scripts_in (file ∷ [])) sorted.scripts
      ∙ sym (scripts_in-append (texts old.files.items) (file ∷ [])) ∙ ap said.scripts_in (sym files);
  relations = relations ∙ ap (λ xs. xs ++ said.relations_in (file ∷ [])) sorted.relations
      ∙ sym (relations_in-append (texts old.files.items) (file ∷ [])) ∙ ap said.relations_in (sym files);
}

-- ---- one part more
lt-plus : (a b : ℕ) → nat_lt a (a + b) ≡ nat_le 1 b
lt-plus a b = grind (arith, nat_tests)

-- there is room for one part more exactly if with it there are not too many
lt-more : (n m : ℕ) → nat_lt n m ≡ nat_le (n + 1) m
lt-more n m = grind (arith, nat_tests)

module _ (files words now : List Word) (ends ends_now : List ℕ) (before : ℕ) (joined : now ≡ files ++ words)
    (same : ends_now ≡ ends) (scripts : before ≡ length (said.scripts_in files)) where
  -- the test of the program
  abbrev pub is_taken : Bool
  is_taken = list_all said.is_file_word words
      && (nat_lt before (length (said.scripts_in now))
      && (nat_lt (length ends_now) most_parts
      && (nat_le (length (said.scripts_in now)) said.most_files
      && nat_le (length (said.relations_in now)) said.most_files)))

  abbrev pub before_it : said.Listed
  before_it = record { files = files; ends = ends }

  count : length (said.scripts_in now) ≡ length (said.scripts_in files) + length (said.scripts_in words)
  count = ap (λ xs. length (said.scripts_in xs)) joined ∙ ap length (scripts_in-append files words)
      ∙ length-append (said.scripts_in files) (said.scripts_in words)

  some : nat_lt before (length (said.scripts_in now)) ≡ nat_le 1 (length (said.scripts_in words))
  some = ap₂ nat_lt scripts count ∙ lt-plus (length (said.scripts_in files)) (length (said.scripts_in words))

  few : nat_lt (length ends_now) most_parts ≡ nat_le (length (ends ++ length (said.scripts_in (files ++ words)) ∷ [])) most_parts
  few = ap (λ xs. nat_lt (length xs) most_parts) same ∙ lt-more (length ends) most_parts
      ∙ ap (λ n. nat_le n most_parts) (sym (length-append ends (length (said.scripts_in (files ++ words)) ∷ [])))

  same_test : is_taken ≡ said.is_part_taken words (said.joined before_it words)
  same_test = ap (λ b. list_all said.is_file_word words && b) (ap₂ (λ a b. a && b) some (ap₂ (λ a b. a && b) few
      (ap (λ xs. nat_le (length (said.scripts_in xs)) said.most_files && nat_le (length (said.relations_in xs)) said.most_files) joined)))

  pub not_taken : is_taken ≡ false → said.with_part before_it words ≡ None
  not_taken fails = ap (λ b. if b then Some (said.joined before_it words) else None) (sym same_test ∙ fails)

  pub taken : (more : List ℕ) → is_taken ≡ true → more ≡ ends_now ++ length (said.scripts_in now) ∷ []
      → said.with_part before_it words ≡ Some (record { files = now; ends = more })
  taken more is pushed = ap (λ b. if b then Some (said.joined before_it words) else None) (sym same_test ∙ is)
      ∙ ap₂ (λ (fs : List Word) (es : List ℕ). Some (record { files = fs; ends = es })) (sym joined)
      (ap₂ (λ (es : List ℕ) (fs : List Word). es ++ length (said.scripts_in fs) ∷ []) (sym same) (sym joined) ∙ sym pushed)

-- ---- --gen
pub no_file : (values : List Word) (later : List (List Word)) → nat_le 1 (length values) ≡ true → said.generated_part values later ≡ None
no_file [] later h = absurd (false≢true h)
no_file (v ∷ vs) later h = refl

no_parts : (values : List Word) (part : List Word) (parts : List (List Word)) → said.generated_part values (part ∷ parts) ≡ None
no_parts [] part parts = refl
no_parts (v ∷ vs) part parts = refl

no_more : (values : List Word) (word : Word) (parts : List (List Word)) → said.generated_part values (into_first word parts) ≡ None
no_more values word [] = no_parts values (word ∷ []) []
no_more values word (part ∷ parts) = no_parts values (word ∷ part) parts

no_later : (values words : List Word) → said.generated_part values (parts_of words) ≡ None
no_later values [] = no_parts values [] []
no_later values (word ∷ rest) = elim (cases_Bool (bytes_eq word then_word)) [
  | inl is ↦ rw is (no_parts values [] (parts_of rest))
  | inr other ↦ elim (cases_Bool (bytes_eq word ends_word)) [
    | inl is ↦ rw (other, is) (no_parts values (word ∷ rest) [])
    | inr none ↦ rw (other, none) (no_more values word (parts_of rest))
  ]
]

pub no_behind : {X : Type 0} (values : List Word) (words_of : X → List Word) (later : Option X) → is_some later ≡ true
    → said.generated_part values (parts_behind (option_map words_of later)) ≡ None
no_behind values words_of None h = absurd (false≢true h)
no_behind values words_of (Some x) h = no_later values (words_of x)
