-- Why clap finds exactly the uses that stand in the words.
-- 1. `Rules` tells what the arguments of the command answer to a name, and `Lexing` what each kind of word is to clap.
-- 2. `Walking` has one word's turn: it passes, and the walk goes on behind it, or the turn fails.
-- 3. `both` goes over the words, by induction: from a walk on which no option waits, and from one on which an option waits for its value, clap has no fault exactly where the words have uses, and each name then has the values of these uses behind those that it had.
-- 4. `splits` is the same from the start, with what a parse does behind its walk: no argument has a default, and none is required.
use Rattle.std.proofs.Common.{◌≡◌, ◌∙◌, ◌||◌, ◌++◌, Bool, true, false, List, [], ◌∷◌, map, refl, sym, ap, ap₂, subst, Option, Some, None, inl, inr, append-nil, append_assoc}
use Rattle.std.specs.Prelude.{⊤, String, if◌then◌else◌, fold, is_some}
use Rattle.clap.specs.Lexer.{long_of}
use Rattle.clap.specs.declared.error.kind.ErrorKind.TheVariants as kind
use Rattle.std.specs.declared.alloc.Global.{Global}
use Rattle.std.specs.Str.{bytes_eq, IsUtf8}
use Rattle.std.proofs.lemmas.Bool.{cases_Bool}
use Rattle.std.proofs.lemmas.Str.{IsUtf8-string_bytes}
use Rattle.std.proofs.lemmas.Slice.Eq.{bytes_eq-Decides}
use Rattle.clap.specs.Kinds.{Kinds, or_else}
use Rattle.clap.specs.declared.parser.matches.ValueSource.TheVariants.{CommandLine}
use Rattle.clap.specs.Walk.{Held, Row, Rule, Text, Waiting, Walk, arg_by_long, default_rows, has_row, idle, is_empty, next, nothing_held, option, positional, reading_by, settled_rows, value, walk, walk_from, takes_values, with_default, with_values}
use Rattle.clap.specs.Simple.{Shape, built, matches_of}
use Rattle.clap.specs.Faults.{default_fault, defaults_fault, fault_of, given_default_fault, long_fault, option_fault, react_fault, settle_fault, walk_fault}
use Rattle.clap.proofs.FaultLemmas.{leaf_fault}
use Rattle.rv_words.specs.Uses.{Kind, Use, Word, plain, ends, long, foreign, file_name, file_use, free_uses, history_name, kind_of, long_uses, switch_uses, takes_value, used, uses_from, uses_in, value_uses, valued_uses, values_of}
use Rattle.rv_words.specs.Shown.{texts}
use Rattle.rv_words.specs.Simple.{app}
use Rattle.rv_words.proofs.Lexing.{Facts, facts}
use Rattle.rv_words.proofs.Rules.{Knows, file_rule, history_rule, top, top_knows, valued_rule}
use Rattle.rv_words.proofs.Walking.{IsIdle, Quiet, advance, behind_turn, behind_walked, end_fault, end_rows, ends_fault, ends_here, by_option, by_same, ends_met, file_fault, file_quiet, file_rows, first_empty, flag_step, foreign_fault, held, idle_is, long_is_fault, long_is_met}
use Rattle.rv_words.proofs.Walking.{no_value, not_empty, one_more, or_else_nil, plain_fault, plain_met, positional_is, row_values, stand, stops, to_file, turn_by, turn_faults, value_quiet, value_rows, walked_by}

-- the uses that are still to come stand in the rows at the end, and where there are none, clap has a fault
abbrev pub Ends : List Row → Option (List Use) → Kinds → List Row → Type 0
Ends rows None kinds final = kinds ≡ [] → ⊥
Ends rows (Some uses) kinds final = (kinds ≡ []) × ((name : Word) → row_values final name ≡ row_values rows name ++ values_of uses name)

-- the same of a walk over words
abbrev EndsFrom : Shape → List Row → Option (List Use) → Walk → List Text → Type 0
EndsFrom s rows uses w words = Ends rows uses (end_fault s w words) (end_rows s w words)

-- a turn that passed changes nothing of it
behind : (s : Shape) (rows : List Row) (uses : Option (List Use)) (w after : Walk) (word : Text) (rest : List Text)
    → (end_fault s w (word ∷ rest) ≡ end_fault s after rest) × (end_rows s w (word ∷ rest) ≡ end_rows s after rest)
    → EndsFrom s rows uses after rest → EndsFrom s rows uses w (word ∷ rest)
behind s rows uses w after word rest same h =
    subst (λ k. Ends rows uses k (end_rows s w (word ∷ rest))) (sym same.0) (subst (λ r. Ends rows uses (end_fault s after rest) r) (sym same.1) h)

joined : (xs : List Word) (b : Bool) (v : Word) (us : List Word) → (xs ++ (if b then v ∷ [] else [])) ++ us ≡ xs ++ (if b then v ∷ us else us)
joined xs true v us = append_assoc xs (v ∷ []) us
joined xs false v us = ap (λ l. l ++ us) (append-nil xs)

-- one use more, which has joined the rows
with_use : (rows more : List Row) (name v : Word) (uses : Option (List Use)) (kinds : Kinds) (final : List Row)
    → more ≡ with_values name (reading_by file_rule) CommandLine (v ∷ []) rows → Ends more uses kinds final → Ends rows (used name v uses) kinds final
with_use rows more name v None kinds final is h = h
with_use rows more name v (Some uses) kinds final is h = (
  h.0,
  λ n. h.1 n ∙ (ap (λ l. l ++ values_of uses n) (ap (λ r. row_values r n) is ∙ one_more n name (reading_by file_rule) v rows)
      ∙ joined (row_values rows n) (bytes_eq name n) v (values_of uses n)),
)

-- ---- behind --
file_words : (s : Shape) → Knows s.rules → (words : List Text) (rows : List Row) (pending : Option (Text × List Text)) (waiting : Waiting) → Quiet s rows pending
    → EndsFrom s (settled_rows s.rules pending rows) (Some (map file_use words)) (stand rows pending waiting true) words
file_words s k [] rows pending waiting quiet = (ends_here s (stand rows pending waiting true) ∙ quiet, λ name. sym (append-nil _))
file_words s k (word ∷ rest) rows pending waiting quiet =
    let settled_now = settled_rows s.rules pending rows in
    let later = file_words s k rest settled_now (Some (file_name, word ∷ [])) positional (file_quiet s.rules s.args_override_self word settled_now k) in
    behind s settled_now (Some (map file_use (word ∷ rest))) (stand rows pending waiting true) (stand settled_now (Some (file_name, word ∷ [])) positional true) word rest
    (advance s (stand rows pending waiting true) (stand settled_now (Some (file_name, word ∷ [])) positional true) word rest
    (behind_turn s rows pending waiting word k ∙ quiet) (behind_walked s rows pending waiting word k))
    (with_use settled_now _ file_name word (Some (map file_use rest)) _ _ (file_rows s.rules word settled_now k) later)

-- an option that waits there has no value
file_words_fail : (s : Shape) → Knows s.rules → (words : List Text) (rows : List Row) (name : Word) (waiting : Waiting) → takes_value name ≡ true
    → end_fault s (stand rows (Some (name, [])) waiting true) words ≡ [] → ⊥
file_words_fail s k [] rows name waiting takes e =
    not_empty (sym (no_value s.rules s.args_override_self name rows (k.value_id name takes)) ∙ (sym (ends_here s (stand rows (Some (name, [])) waiting true)) ∙ e))
file_words_fail s k (word ∷ rest) rows name waiting takes e = stops s (stand rows (Some (name, [])) waiting true) word rest
    (λ none. not_empty (sym (no_value s.rules s.args_override_self name rows (k.value_id name takes)) ∙ (sym (behind_turn s rows (Some (name, [])) waiting word k) ∙ none))) e

-- ---- from the left
-- what is said of the words: where no option waits, and where one does
abbrev Both : Shape → List Text → Type 0
Both s words = ((rows : List Row) (pending : Option (Text × List Text)) (waiting : Waiting) → IsIdle waiting → Quiet s rows pending
    → EndsFrom s (settled_rows s.rules pending rows) (uses_from words None) (stand rows pending waiting false) words)
    × ((rows : List Row) (name : Word) → takes_value name ≡ true
    → EndsFrom s rows (uses_from words (Some name)) (stand rows (Some (name, [])) (option name) false) words)

-- a word where no option waits, by its kind
module _ (s : Shape) (k : Knows s.rules) (word : Text) (rest : List Text) (later : Both s rest) (rows : List Row) (pending : Option (Text × List Text))
    (waiting : Waiting) (rests : IsIdle waiting) (quiet : Quiet s rows pending) where
  abbrev settled_now : List Row
  settled_now = settled_rows s.rules pending rows

  abbrev here : Walk
  here = stand rows pending waiting false

  free_plain : Facts word plain → EndsFrom s settled_now (used file_name word (uses_from rest None)) here (word ∷ rest)
  free_plain f =
      let none = rests.none word in
      let met = plain_met s.rules waiting word (held rows pending) none f.0 f.1 f.2 ∙ rests.plains s.rules word (held rows pending) in
      let after = stand settled_now (Some (file_name, word ∷ [])) positional false in
      behind s settled_now (used file_name word (uses_from rest None)) here after word rest
      (advance s here after word rest
      (turn_by s rows pending waiting word (held rows pending, value) met (plain_fault s waiting word (held rows pending) none f.0 f.1 f.2) (file_fault s rows pending k ∙ quiet))
      (walked_by s rows pending waiting word (held rows pending, value) met ∙ to_file s rows pending waiting word false k))
      (with_use settled_now _ file_name word (uses_from rest None) _ _ (file_rows s.rules word settled_now k)
      (later.0 settled_now (Some (file_name, word ∷ [])) positional positional_is (file_quiet s.rules s.args_override_self word settled_now k)))

  free_ends : Facts word ends → EndsFrom s settled_now (Some (map file_use rest)) here (word ∷ rest)
  free_ends two =
      let none = rests.none word in
      let met = ends_met s.rules waiting word (held rows pending) none two in
      let after = stand rows pending waiting true in
      behind s settled_now (Some (map file_use rest)) here after word rest
      (advance s here after word rest
      (turn_by s rows pending waiting word _ met (ends_fault s waiting word (held rows pending) none two) refl)
      (walked_by s rows pending waiting word _ met))
      (file_words s k rest rows pending waiting quiet)

  free_foreign : Facts word foreign → EndsFrom s settled_now None here (word ∷ rest)
  free_foreign f = stops s here word rest (turn_faults s rows pending waiting word
      (λ e. not_empty (sym (foreign_fault s waiting word (held rows pending) f.2 f.3 f.4 k (rests.none word) f.0 f.1 f.5 f.6 refl) ∙ e)))

  -- an argument whose value has joined the rows at once
  at_once : (o : Option Rule) (name : Word) (v : Option Text) (id text : Word) → bytes_eq word (45 ∷ 45 ∷ []) ≡ false → long_of word ≡ Some (name, v) → arg_by_long s.rules name ≡ o
      → flag_step s.rules waiting word (held rows pending) v o ≡ (held (with_values id (reading_by file_rule) CommandLine (text ∷ []) settled_now) None, next idle)
      → long_fault s.rules s.args_override_self o v (held rows pending) ≡ []
      → EndsFrom s settled_now (used id text (uses_from rest None)) here (word ∷ rest)
  at_once o name v id text two is found step passed =
      let none = rests.none word in
      let more = with_values id (reading_by file_rule) CommandLine (text ∷ []) settled_now in
      let met = long_is_met s.rules waiting word name v (held rows pending) o none two is found ∙ step in
      let after = stand more None idle false in
      behind s settled_now (used id text (uses_from rest None)) here after word rest
      (advance s here after word rest
      (turn_by s rows pending waiting word (held more None, next idle) met (long_is_fault s waiting word name v (held rows pending) o none two is found ∙ passed) refl)
      (walked_by s rows pending waiting word (held more None, next idle) met))
      (with_use settled_now more id text (uses_from rest None) _ _ refl (later.0 more None idle idle_is refl))

  -- an argument that clap refuses
  refuses : (o : Option Rule) (name : Word) (v : Option Text) → bytes_eq word (45 ∷ 45 ∷ []) ≡ false → long_of word ≡ Some (name, v) → arg_by_long s.rules name ≡ o
      → (long_fault s.rules s.args_override_self o v (held rows pending) ≡ [] → ⊥) → EndsFrom s settled_now None here (word ∷ rest)
  refuses o name v two is found fails = stops s here word rest (turn_faults s rows pending waiting word
      (λ e. fails (sym (long_is_fault s waiting word name v (held rows pending) o (rests.none word) two is found) ∙ e)))

  free_switch : (name : Word) (v : Option Text) → Facts word (long name v) → bytes_eq history_name name ≡ true → EndsFrom s settled_now (switch_uses v (uses_from rest)) here (word ∷ rest)
  free_switch name (Some text) f is = refuses (Some history_rule) name (Some text) f.0 f.1 (k.switch name is) (λ e. not_empty e)
  free_switch name None f is = at_once (Some history_rule) name None history_name [] f.0 f.1 (k.switch name is) refl (ap (λ a. or_else a []) quiet)

  -- an option that takes a value: one behind its '=' joins the rows at once, and without one the option waits for the
  -- next word
  free_valued : (name : Word) (v : Option Text) → Facts word (long name v) → takes_value name ≡ true → EndsFrom s settled_now (valued_uses name v (uses_from rest)) here (word ∷ rest)
  free_valued name (Some text) f takes = at_once (Some (valued_rule name)) name (Some text) name text f.0 f.1 (k.value_long name takes) refl (ap (λ a. or_else a []) quiet)
  free_valued name None f takes =
      let none = rests.none word in
      let found = k.value_long name takes in
      let met = long_is_met s.rules waiting word name None (held rows pending) (Some (valued_rule name)) none f.0 f.1 found in
      let after = stand settled_now (Some (name, [])) (option name) false in
      behind s settled_now (uses_from rest (Some name)) here after word rest
      (advance s here after word rest
      (turn_by s rows pending waiting word _ met (long_is_fault s waiting word name None (held rows pending) (Some (valued_rule name)) none f.0 f.1 found ∙ quiet) refl)
      (walked_by s rows pending waiting word _ met))
      (later.1 settled_now name takes)

  free_long : (name : Word) (v : Option Text) → Facts word (long name v) → EndsFrom s settled_now (long_uses name v (uses_from rest)) here (word ∷ rest)
  free_long name v f = elim (cases_Bool (bytes_eq history_name name)) [
    | inl is ↦ subst (λ b. EndsFrom s settled_now (if b then switch_uses v (uses_from rest) else (if takes_value name then valued_uses name v (uses_from rest) else None)) here (word ∷ rest))
        (sym is) (free_switch name v f is)
    | inr fails ↦ subst (λ b. EndsFrom s settled_now (if b then switch_uses v (uses_from rest) else (if takes_value name then valued_uses name v (uses_from rest) else None)) here (word ∷ rest))
        (sym fails) (elim (cases_Bool (takes_value name)) [
          | inl takes ↦ subst (λ b. EndsFrom s settled_now (if b then valued_uses name v (uses_from rest) else None) here (word ∷ rest)) (sym takes) (free_valued name v f takes)
          | inr none ↦ subst (λ b. EndsFrom s settled_now (if b then valued_uses name v (uses_from rest) else None) here (word ∷ rest)) (sym none)
              (refuses None name v f.0 f.1 (k.others name fails none) (λ e. not_empty e))
        ])
  ]

  -- so whatever the kind of a word, where no option waits it is met as its uses say
  free_word : (shape : Kind) → Facts word shape → EndsFrom s settled_now (free_uses shape word rest (uses_from rest)) here (word ∷ rest)
  free_word plain f = free_plain f
  free_word ends f = free_ends f
  free_word (long name v) f = free_long name v f
  free_word foreign f = free_foreign f

-- a word where an option waits for its value, by its kind
module _ (s : Shape) (k : Knows s.rules) (word : Text) (rest : List Text) (later : Both s rest) (rows : List Row) (name : Word) (takes : takes_value name ≡ true) where
  abbrev there : Walk
  there = stand rows (Some (name, [])) (option name) false

  abbrev open_held : Held
  open_held = held rows (Some (name, []))

  -- a plain word is the value of the option that waits: it is held with it, and no option waits behind it
  value_plain : Facts word plain → EndsFrom s rows (used name word (uses_from rest None)) there (word ∷ rest)
  value_plain f =
      let id = k.value_id name takes in
      let same : bytes_eq name name ≡ true = (bytes_eq-Decides name name).1 refl in
      let met = plain_met s.rules (option name) word open_held refl f.0 f.1 f.2
      ∙ (ap (by_option name word open_held) id
      ∙ ap (by_same rows name word) same) in
      let after = stand rows (Some (name, word ∷ [])) idle false in
      behind s rows (used name word (uses_from rest None)) there after word rest
      (advance s there after word rest
      (turn_by s rows (Some (name, [])) (option name) word (held rows (Some (name, word ∷ [])), next idle) met
      (plain_fault s (option name) word open_held refl f.0 f.1 f.2) refl)
      (walked_by s rows (Some (name, [])) (option name) word (held rows (Some (name, word ∷ [])), next idle) met))
      (with_use rows _ name word (uses_from rest None) _ _ (value_rows s.rules name word rows id)
      (later.0 rows (Some (name, word ∷ [])) idle idle_is (value_quiet s.rules s.args_override_self name word rows id)))

  value_ends : Facts word ends → EndsFrom s rows None there (word ∷ rest)
  value_ends two =
      let met = ends_met s.rules (option name) word open_held refl two in
      let after = stand rows (Some (name, [])) (option name) true in
      behind s rows None there after word rest
      (advance s there after word rest
      (turn_by s rows (Some (name, [])) (option name) word _ met (ends_fault s (option name) word open_held refl two) refl)
      (walked_by s rows (Some (name, [])) (option name) word _ met))
      (file_words_fail s k rest rows name (option name) takes)

  unmet : settle_fault s.rules s.args_override_self open_held ≡ [] → ⊥
  unmet h = not_empty (sym (no_value s.rules s.args_override_self name rows (k.value_id name takes)) ∙ h)

  known_fails : (a : Rule) (b : Bool) (t : Option Text) → (if b then option_fault s.rules s.args_override_self a t open_held
      else (if is_some t then kind.TooManyValues ∷ [] else react_fault s.rules s.args_override_self a [] open_held)) ≡ [] → ⊥
  known_fails a true (Some text) h = unmet (first_empty (settle_fault s.rules s.args_override_self open_held) _ h)
  known_fails a true None h = unmet h
  known_fails a false (Some text) h = not_empty h
  known_fails a false None h = unmet (first_empty (settle_fault s.rules s.args_override_self open_held) _ h)

  -- any option there finds the other without its value
  long_fails : (o : Option Rule) (v : Option Text) → long_fault s.rules s.args_override_self o v open_held ≡ [] → ⊥
  long_fails None v e = not_empty e
  long_fails (Some a) v e = known_fails a (takes_values a) v e

  -- where an option waits only a plain word goes on: before any other kind the option has no value, or the word itself
  -- is unknown
  value_word : (shape : Kind) → Facts word shape → EndsFrom s rows (value_uses shape name word (uses_from rest)) there (word ∷ rest)
  value_word plain f = value_plain f
  value_word ends f = value_ends f
  value_word (long other v) f = stops s there word rest (turn_faults s rows (Some (name, [])) (option name) word
      (λ e. long_fails (arg_by_long s.rules other) v (sym (long_is_fault s (option name) word other v open_held _ refl f.0 f.1 refl) ∙ e)))
  value_word foreign f = stops s there word rest (turn_faults s rows (Some (name, [])) (option name) word
      (λ e. not_empty (sym (foreign_fault s (option name) word open_held f.2 f.3 f.4 k refl f.0 f.1 f.5 f.6 refl) ∙ e)))

-- each word is text
abbrev pub AreTexts : List Word → Type 0
AreTexts [] = ⊤
AreTexts (word ∷ rest) = IsUtf8 word × AreTexts rest

pub are_texts : (words : List (String Global)) → AreTexts (texts words)
are_texts [] = tt
are_texts (word ∷ rest) = (IsUtf8-string_bytes word, are_texts rest)

both : (s : Shape) → Knows s.rules → (words : List Text) → AreTexts words → Both s words
both s k [] ok = (
  λ rows pending waiting rests quiet. (ends_here s (stand rows pending waiting false) ∙ quiet, λ name. sym (append-nil _)),
  λ rows name takes e. not_empty (sym (no_value s.rules s.args_override_self name rows (k.value_id name takes)) ∙ (sym (ends_here s (stand rows (Some (name, [])) (option name) false)) ∙ e)),
)
both s k (word ∷ rest) ok = (
  λ rows pending waiting rests quiet. free_word s k word rest (both s k rest ok.1) rows pending waiting rests quiet (kind_of word) (facts word ok.0),
  λ rows name takes. value_word s k word rest (both s k rest ok.1) rows name takes (kind_of word) (facts word ok.0),
)

-- ---- behind the walk
or_true : (b : Bool) (x y : Kinds) → (if b || true then x else y) ≡ x
or_true true x y = refl
or_true false x y = refl

same_rows : (b : Bool) (rows : List Row) → (if b then rows else rows) ≡ rows
same_rows true rows = refl
same_rows false rows = refl

-- arguments with no defaults change no rows and have no fault
abbrev HaveNone : List Rule → Type 0
HaveNone [] = ⊤
HaveNone (a ∷ rest) = (a.defaults ≡ []) × HaveNone rest

no_defaults : (c : List Rule) → HaveNone c → (rows : List Row) → (defaults_fault rows c ≡ []) × (fold with_default rows c ≡ rows)
unfolding defaults_fault
no_defaults [] none rows = (refl, refl)
no_defaults (a ∷ rest) none rows =
    let stay : with_default rows a ≡ rows = ap (λ ds. if has_row a.id rows then rows else default_rows a.id (reading_by a) ds rows) none.0 ∙ same_rows (has_row a.id rows) rows in
    let later = no_defaults rest none.1 rows in
    let first : default_fault rows a ≡ [] = ap (λ ds. if has_row a.id rows || is_empty ds then [] else given_default_fault a ds) none.0 ∙ or_true (has_row a.id rows) [] _ in (
      ap₂ (λ (f : Kinds) (r : List Row). or_else f (defaults_fault r rest)) first stay ∙ later.0,
      ap (λ r. fold with_default r rest) stay ∙ later.1,
    )

-- what clap makes of the words
pub splits : (words : List Word) → AreTexts words → Ends [] (uses_in words) (fault_of app words) (matches_of app words)
splits words ok =
    let end = (walk top.rules [] nothing_held words).held in
    let none = no_defaults top.rules (refl, (refl, (refl, (refl, (refl, (refl, tt)))))) (end_rows top (walk_from nothing_held) words) in
    let settle = settle_fault top.rules false end in
    let walks = walk_fault top [] (walk_from nothing_held) words in
    let level : fault_of app words ≡ end_fault top (walk_from nothing_held) words = leaf_fault (built app) nothing_held words refl
    ∙ (ap (λ d. or_else walks (or_else settle (or_else d []))) none.0 ∙ ap (λ x. or_else walks x) (or_else_nil settle)) in
    let rows : matches_of app words ≡ end_rows top (walk_from nothing_held) words = none.1 in
    subst (λ k. Ends [] (uses_in words) k (matches_of app words)) (sym level)
    (subst (λ r. Ends [] (uses_in words) (end_fault top (walk_from nothing_held) words) r) (sym rows)
    ((both top top_knows words ok).0 [] None idle idle_is refl))
