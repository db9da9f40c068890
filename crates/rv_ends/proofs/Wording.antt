-- What words in the set say of the FILE words, of the ends of the parts and of the size of the table.
use Rattle.std.proofs.Common.{◌≡◌, ◌≤◌, ◌<◌, ◌+◌, ◌∙◌, ◌++◌, ℕ, Bool, true, false, List, [], ◌∷◌, length, Option, Some, None, refl, sym, ap, subst, arith, length-append}
use Rattle.std.proofs.lemmas.Bool.{false≢true, and_parts, leb-true}
use Rattle.std.specs.Prelude.{if◌then◌else◌, cond, ◌&&◌, nat_le, is_some, unwrap_or, option_map, option_and_then}
use Rattle.std.specs.List.{list_all}
use Rattle.std.specs.Str.Parse.{digits_value}
use Rattle.rv_words.specs.Uses.{Word, uses_in, values_of, workers_name, nodes_name, turns_name, gen_name, history_name, file_name}
use Rattle.rv_words.specs.Parts.{most_parts, parts_of}
use Rattle.rv_words.specs.Said.{Said, Listed, said_by, said_of, said_from, with_files, with_parts, with_later, with_later_part, with_files_alone, with_part, no_part, joined, generated_part, is_part_taken, has_options}
use Rattle.rv_words.specs.Said.{is_file_word, is_number, number_or, gen_number, switched, scripts_in, relations_in, most_files}
use Rattle.rv_words.proofs.Sorting.{scripts_in-append}
use Rattle.run_model.specs.Inputs.{Rise}
use Rattle.rv_ends.specs.Given.{file_words, ends_of}

-- ---- options
none_some : {A : Type 0} (x : A) → ◌≡◌ {A = Option A} None (Some x) → ⊥
none_some x e = false≢true (ap is_some e)

-- what two steps give, the first gives too
and_then : {A B : Type 0} (f : A → Option B) (o : Option A) (b : B) → option_and_then f o ≡ Some b → (a : A) × (o ≡ Some a) × (f a ≡ Some b)
and_then f (Some a) b e = (a, refl, e)
and_then f None b e = absurd (none_some b e)

-- what stands behind a test, where something does
if_some : {A : Type 0} (t : Bool) (r s : A) → (if t then Some r else None) ≡ Some s → (t ≡ true) × (r ≡ s)
if_some true r s e = (refl, ap (λ o. unwrap_or o r) e)
if_some false r s e = absurd (none_some s e)

-- what stands behind another test
if_none : {A : Type 0} (t : Bool) (o : Option A) (s : A) → (if t then None else o) ≡ Some s → o ≡ Some s
if_none true o s e = absurd (none_some s e)
if_none false o s e = e

-- what a step makes of something
mapped : {A B : Type 0} (f : A → B) (o : Option A) (b : B) → option_map f o ≡ Some b → (a : A) × (o ≡ Some a) × (f a ≡ b)
mapped f (Some a) b e = (a, refl, ap (λ r. unwrap_or r b) e)
mapped f None b e = absurd (none_some b e)

-- ---- numbers
-- a number of an option lies within its range
number_in : (least most default n : ℕ) (values : List Word) → least ≤ default → default ≤ most → number_or least most default values ≡ Some n → (least ≤ n) × (n ≤ most)
number_in least most default n [] low high e = let same : default ≡ n = ap (λ o. unwrap_or o default) e in (omega (arith, low, same), omega (arith, high, same))
number_in least most default n (text ∷ []) low high e =
    let t = if_some (is_number text && (nat_le least (digits_value 10 text) && nat_le (digits_value 10 text) most)) (digits_value 10 text) n e in
    let parts = and_parts (nat_le least (digits_value 10 text)) (nat_le (digits_value 10 text) most) (and_parts (is_number text) (nat_le least (digits_value 10 text) && nat_le (digits_value 10 text) most) t.0).1 in
    (subst (λ m. least ≤ m) t.1 (leb-true least (digits_value 10 text) parts.0), subst (λ m. m ≤ most) t.1 (leb-true (digits_value 10 text) most parts.1))
number_in least most default n (first ∷ second ∷ rest) low high e = absurd (none_some n e)

-- ---- the parts
-- the ends rise to the number of scripts
abbrev IsRising : Listed → Type 0
IsRising listed = Rise 0 (length (scripts_in listed.files)) listed.ends

-- some parts have few scripts and more than none
record IsFull (listed : Listed) : Type 0 where
  rising : IsRising listed
  few : length (scripts_in listed.files) ≤ 64
  some : 1 ≤ length (scripts_in listed.files)

-- one end more
rise_more : (earlier count more : ℕ) (ends : List ℕ) → Rise earlier count ends → count < more → Rise earlier more (ends ++ more ∷ [])
rise_more earlier count more [] same above = (omega (arith, same, above), refl)
rise_more earlier count more (end ∷ ends) rises above = (rises.0, rise_more end count more ends rises.1 above)

-- one part more
part_full : (listed whole : Listed) (files : List Word) → IsRising listed → with_part listed files ≡ Some whole → IsFull whole
part_full listed whole files rising e =
    let most = nat_le (length (scripts_in (listed.files ++ files))) most_files in
    let others = nat_le (length (relations_in (listed.files ++ files))) most_files in
    let parts = nat_le (length (joined listed files).ends) most_parts in
    let t = if_some (is_part_taken files (joined listed files)) (joined listed files) whole e in
    let a = and_parts (list_all is_file_word files) (nat_le 1 (length (scripts_in files)) && (parts && (most && others))) t.0 in
    let b = and_parts (nat_le 1 (length (scripts_in files))) (parts && (most && others)) a.1 in
    let c = and_parts parts (most && others) b.1 in
    let d = and_parts most others c.1 in
    let own = leb-true 1 (length (scripts_in files)) b.0 in
    let count : length (scripts_in (listed.files ++ files)) ≡ length (scripts_in listed.files) + length (scripts_in files) =
    ap length (scripts_in-append listed.files files) ∙ length-append (scripts_in listed.files) (scripts_in files) in
    subst IsFull t.1 (record {
      rising = rise_more 0 (length (scripts_in listed.files)) (length (scripts_in (listed.files ++ files))) listed.ends rising (omega (arith, count, own));
      few = leb-true (length (scripts_in (listed.files ++ files))) most_files d.0;
      some = omega (arith, count, own);
    })

-- a part behind the first
later_part_full : (listed whole : Listed) (part : List Word) → IsRising listed → with_later_part listed part ≡ Some whole → IsFull whole
later_part_full listed whole part rising e =
    let uses = and_then (λ us. with_files_alone listed (values_of us)) (uses_in part) whole e in
    part_full listed whole (values_of uses.0 file_name) rising
    (if_none (has_options (values_of uses.0)) (with_part listed (values_of uses.0 file_name)) whole uses.2)

-- the parts behind the first
later_full : (later : List (List Word)) (listed whole : Listed) → IsFull listed → with_later later listed ≡ Some whole → IsFull whole
later_full [] listed whole full e = subst IsFull (ap (λ o. unwrap_or o listed) e) full
later_full (part ∷ later) listed whole full e =
    let next = and_then (with_later later) (with_later_part listed part) whole e in
    later_full later next.0 whole (later_part_full listed next.0 part full.rising next.1) next.2

-- what is known of the parts, with --gen or without it
record IsListed (number : Option ℕ) (listed : Listed) : Type 0 where
  full : number ≡ None → IsFull listed
  bare : is_some number ≡ true → listed.files ≡ []

bare_part : (files : List Word) (later : List (List Word)) (listed : Listed) → generated_part files later ≡ Some listed → listed.files ≡ []
bare_part [] [] listed e = sym (ap (λ (l : Listed). l.files) (ap (λ o. unwrap_or o listed) e))
bare_part [] (part ∷ later) listed e = absurd (none_some listed e)
bare_part (file ∷ files) later listed e = absurd (none_some listed e)

-- with --gen no file stands in the parts; without it the first part is full, and so are those behind it
listed_is : (number : Option ℕ) (files : List Word) (later : List (List Word)) (listed : Listed) → with_parts number files later ≡ Some listed → IsListed number listed
listed_is (Some number) files later listed e = record {
  full = λ none. absurd (none_some number (sym none));
  bare = λ some. bare_part files later listed e;
}
listed_is None files later listed e =
    let first = and_then (with_later later) (with_part no_part files) listed e in
    let full = later_full later first.0 listed (part_full no_part first.0 files refl first.1) first.2 in
    record { full = λ none. full; bare = λ some. absurd (false≢true some) }

-- ---- the words
-- what is said of these FILE words
pub record IsOf (said : Said) (files : List Word) : Type 0 where
  pub low : 10 ≤ said.nodes
  pub high : said.nodes ≤ 24
  pub manned : 1 ≤ said.workers
  pub crew : said.workers ≤ 64
  pub files_are : said.files ≡ files
  pub scripts_are : said.scripts ≡ scripts_in files
  pub relations_are : said.relations ≡ relations_in files
  pub few : length (scripts_in files) ≤ 64
  -- without --gen there is a script, and the ends of the parts rise to the number of scripts
  pub some : said.number ≡ None → 1 ≤ length (scripts_in files)
  pub batches : said.number ≡ None → Rise 0 (length said.scripts) said.ends
  -- with it there is no FILE word
  pub bare : is_some said.number ≡ true → files ≡ []

few_of : (number : Option ℕ) (listed : Listed) → IsListed number listed → length (scripts_in listed.files) ≤ 64
few_of None listed is = (is.full refl).few
few_of (Some number) listed is = let none : length (scripts_in listed.files) ≡ 0 = ap (λ fs. length (scripts_in fs)) (is.bare refl) in omega (arith, none)

-- the FILE words with their tests
of_parts : (workers nodes turns : ℕ) (history : Bool) (number : Option ℕ) (files : List Word) (later : List (List Word)) (said : Said) → 10 ≤ nodes → nodes ≤ 24 → 1 ≤ workers → workers ≤ 64
    → option_map (with_files workers nodes turns history number) (with_parts number files later) ≡ Some said → IsOf said said.files
of_parts workers nodes turns history number files later said low high manned crew e =
    let given = mapped (with_files workers nodes turns history number) (with_parts number files later) said e in
    let is = listed_is number files later given.0 given.1 in
    subst (λ s. IsOf s s.files) given.2 (record {
      low = low;
      high = high;
      manned = manned;
      crew = crew;
      files_are = refl;
      scripts_are = refl;
      relations_are = refl;
      few = few_of number given.0 is;
      some = λ none. (is.full none).some;
      batches = λ none. (is.full none).rising;
      bare = is.bare;
    })

-- what is said, step by step
module _ (values : Word → List Word) (later : List (List Word)) where
  abbrev with_number : ℕ → ℕ → ℕ → Bool → Option ℕ → Option Said
  with_number workers nodes turns history number = option_map (with_files workers nodes turns history number) (with_parts number (values file_name) later)

  abbrev with_history : ℕ → ℕ → ℕ → Bool → Option Said
  with_history workers nodes turns history = option_and_then (with_number workers nodes turns history) (gen_number (values gen_name))

  abbrev with_turns : ℕ → ℕ → ℕ → Option Said
  with_turns workers nodes turns = option_and_then (with_history workers nodes turns) (switched (values history_name))

  abbrev with_nodes : ℕ → ℕ → Option Said
  with_nodes workers nodes = option_and_then (with_turns workers nodes) (number_or 0 1000000000 1000000 (values turns_name))

  abbrev with_workers : ℕ → Option Said
  with_workers workers = option_and_then (with_nodes workers) (number_or 10 24 20 (values nodes_name))

  -- the values under all names
  of_values : (said : Said) → said_from values later ≡ Some said → IsOf said said.files
  of_values said e =
      let workers = and_then with_workers (number_or 1 64 1 (values workers_name)) said e in
      let nodes = and_then (with_nodes workers.0) (number_or 10 24 20 (values nodes_name)) said workers.2 in
      let turns = and_then (with_turns workers.0 nodes.0) (number_or 0 1000000000 1000000 (values turns_name)) said nodes.2 in
      let history = and_then (with_history workers.0 nodes.0 turns.0) (switched (values history_name)) said turns.2 in
      let number = and_then (with_number workers.0 nodes.0 turns.0 history.0) (gen_number (values gen_name)) said history.2 in
      let range = number_in 10 24 20 nodes.0 (values nodes_name) (omega arith) (omega arith) nodes.1 in
      let crew = number_in 1 64 1 workers.0 (values workers_name) (omega arith) (omega arith) workers.1 in
      of_parts workers.0 nodes.0 turns.0 history.0 number.0 (values file_name) later said range.0 range.1 crew.0 crew.1 number.2

-- the parts
of_said : (parts : List (List Word)) (said : Said) → said_of parts ≡ Some said → IsOf said said.files
of_said [] said e = absurd (none_some said e)
of_said (first ∷ later) said e =
    let uses = and_then (λ us. said_from (values_of us) later) (uses_in first) said e in
    of_values (values_of uses.0) later said uses.2

-- the FILE words of words in the set are those that are said
pub words_told : (words : List Word) (said : Said) → said_by words ≡ Some said → file_words words ≡ said.files
words_told words said e = ap (λ o. unwrap_or (option_map (λ s. s.files) o) []) e

-- words in the set
pub of_words : (words : List Word) (said : Said) → said_by words ≡ Some said → IsOf said (file_words words)
of_words words said e = subst (IsOf said) (sym (words_told words said e)) (of_said (parts_of words) said e)

rise_by : (number : Option ℕ) (ends : List ℕ) (count scripts : ℕ) → 1 ≤ count → (number ≡ None → count ≡ scripts) → (number ≡ None → Rise 0 scripts ends)
    → Rise 0 count (cond (is_some number) (count ∷ []) ends)
rise_by (Some number) ends count scripts some same rises = (some, refl)
rise_by None ends count scripts some same rises = subst (λ n. Rise 0 n ends) (sym (same refl)) (rises refl)

-- the ends of the batches rise to the number of scripts, where there are some
pub batches_rise : (words : List Word) (said : Said) (count : ℕ) → said_by words ≡ Some said → 1 ≤ count → (said.number ≡ None → count ≡ length said.scripts)
    → Rise 0 count (ends_of said count)
batches_rise words said count e some same = rise_by said.number said.ends count (length said.scripts) some same (of_words words said e).batches
