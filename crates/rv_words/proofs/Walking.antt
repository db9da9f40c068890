-- One word's turn in clap's walk: where it stands before, what it faults, and where it stands behind.
use Rattle.std.proofs.Common.{◌≡◌, ◌∙◌, ◌&&◌, ◌||◌, ◌++◌, ℕ, Bool, true, false, List, [], ◌∷◌, refl, sym, ap, ap₂, subst, slice_get, Option, Some, None, inl, inr, append-nil}
use Rattle.std.specs.Prelude.{if◌then◌else◌, fold, nat_lt, unwrap_or, length, drop, encode_utf8}
use Rattle.std.specs.Option.{option_map_or}
use Rattle.std.specs.Str.{bytes_eq, chars}
use Rattle.std.proofs.lemmas.Bool.{cases_Bool, true≢false, false≢true}
use Rattle.std.proofs.lemmas.Slice.Eq.{bytes_eq-Decides}
use Rattle.clap.specs.Lexer.{long_of, short_of}
use Rattle.clap.specs.Kinds.{Kinds, or_else}
use Rattle.clap.specs.declared.error.kind.ErrorKind.TheVariants as kind
use Rattle.clap.specs.declared.parser.matches.ValueSource.TheVariants.{CommandLine}
use Rattle.clap.specs.declared.builder.value_parser.Reading.{Reading}
use Rattle.clap.specs.Walk.{Held, Row, Rule, Step, Text, Waiting, Walk, after_flag, after_step, all_of, arg_by_id, arg_by_long, idle, is_pending, long_met, long_or_other, option_word, option}
use Rattle.clap.specs.Walk.{plain_word, positional, pushed, reading_by, settled, settled_rows, short_or_plain, subcommand_met, subcommand_or_other, to_positional, trailing, used_by_id, walked, with_values, word_met}
use Rattle.clap.specs.Walk.{next, value}
use Rattle.clap.specs.Simple.{Shape}
use Rattle.clap.specs.Faults.{bundle_fault, bundle_step_fault, flag_word_fault, flags_fault, long_fault, other_fault, positional_fault, settle_fault, short_fault, step_fault, stray_fault, turn_fault, use_fault, walk_fault, word_fault}
use Rattle.rv_words.specs.Uses.{Word, file_name}
use Rattle.rv_words.proofs.Rules.{Knows, file_rule, valued_rule}

-- ---- where the walk stands
abbrev pub held : List Row → Option (Text × List Text) → Held
held rows pending = record { rows = rows; pending = pending; skip = 0 }

abbrev pub stand : List Row → Option (Text × List Text) → Waiting → Bool → Walk
stand rows pending waiting behind = record {
  held = held rows pending;
  waiting = waiting;
  position = 1;
  is_trailing = behind;
  stopped = None;
}

-- the faults of the other words, with those of what is pending at the end
abbrev pub end_fault : Shape → Walk → List Text → Kinds
end_fault s w words = or_else (walk_fault s [] w words) (settle_fault s.rules s.args_override_self (fold (walked s.rules []) w words).held)

-- the rows at the end
abbrev pub end_rows : Shape → Walk → List Text → List Row
end_rows s w words = (settled s.rules (fold (walked s.rules []) w words).held).rows

-- what is pending passes
abbrev pub Quiet : Shape → List Row → Option (Text × List Text) → Type 0
Quiet s rows pending = settle_fault s.rules s.args_override_self (held rows pending) ≡ []

-- no option waits for its value
pub record IsIdle (waiting : Waiting) : Type 0 where
  pub none : (word : Text) → subcommand_met [] waiting word ≡ None
  pub plains : (c : List Rule) (word : Text) (h : Held) → plain_word c waiting word h ≡ (h, value)

pub idle_is : IsIdle idle
idle_is = record { none = λ word. refl; plains = λ c word h. refl }

pub positional_is : IsIdle positional
positional_is = record { none = λ word. refl; plains = λ c word h. refl }

-- ---- lists of kinds
pub first_empty : (a b : Kinds) → or_else a b ≡ [] → a ≡ []
first_empty [] b e = refl
first_empty (k ∷ ks) b e = e

pub or_else_nil : (a : Kinds) → or_else a [] ≡ a
or_else_nil [] = refl
or_else_nil (k ∷ ks) = refl

abbrev is_empty_list : {X : Type 0} → List X → Bool
is_empty_list [] = true
is_empty_list (x ∷ xs) = false

pub not_empty : {X : Type 0} {x : X} {xs : List X} → x ∷ xs ≡ [] → ⊥
not_empty e = false≢true (ap is_empty_list e)

-- ---- rows
-- the values of a name in the rows
abbrev pub row_values : List Row → Word → List Word
row_values rows name = unwrap_or (all_of name rows) []

-- one more value of an id
pub one_more : (name id : Word) (how : Reading) (v : Word) (rows : List Row)
    → row_values (with_values id how CommandLine (v ∷ []) rows) name ≡ row_values rows name ++ (if bytes_eq id name then v ∷ [] else [])
one_more name id how v [] = elim (cases_Bool (bytes_eq id name)) [
  | inl hit ↦ rw hit refl
  | inr miss ↦ rw miss refl
]
one_more name id how v (r ∷ rs) = elim (cases_Bool (bytes_eq r.id id)) [
  | inl same ↦
      let is : r.id ≡ id = (bytes_eq-Decides r.id id).0 same in
      elim (cases_Bool (bytes_eq r.id name)) [
        | inl hit ↦
            let id_hit : bytes_eq id name ≡ true = subst (λ x. bytes_eq x name ≡ true) is hit in
            rw (same, hit, id_hit) refl
        | inr miss ↦
            let id_miss : bytes_eq id name ≡ false = subst (λ x. bytes_eq x name ≡ false) is miss in
            rw (same, miss, id_miss) (sym (append-nil _))
      ]
  | inr other ↦ elim (cases_Bool (bytes_eq r.id name)) [
    | inl hit ↦
        let id_miss : bytes_eq id name ≡ false = elim (cases_Bool (bytes_eq id name)) [
          | inl both ↦
              let is : r.id ≡ id = (bytes_eq-Decides r.id name).0 hit ∙ sym ((bytes_eq-Decides id name).0 both) in
              absurd (true≢false (sym ((bytes_eq-Decides r.id id).1 is) ∙ other))
          | inr fails ↦ fails
        ] in
        rw (other, hit, id_miss) (sym (append-nil _))
    | inr miss ↦ rw (other, miss) (one_more name id how v rs)
  ]
]

-- ---- what is pending
-- an option with its value passes, and its value joins the rows
pub value_quiet : (c : List Rule) (again : Bool) (name v : Word) (rows : List Row) → arg_by_id c name ≡ Some (valued_rule name)
    → settle_fault c again (held rows (Some (name, v ∷ []))) ≡ []
value_quiet c again name v rows is = ap (λ o. option_map_or (λ (a : Rule). use_fault again a (v ∷ []) rows) o []) is

pub value_rows : (c : List Rule) (name v : Word) (rows : List Row) → arg_by_id c name ≡ Some (valued_rule name)
    → settled_rows c (Some (name, v ∷ [])) rows ≡ with_values name (reading_by file_rule) CommandLine (v ∷ []) rows
value_rows c name v rows is = ap (λ o. used_by_id o (v ∷ []) rows) is

-- and so does a FILE word
pub file_quiet : (c : List Rule) (again : Bool) (v : Word) (rows : List Row) → Knows c → settle_fault c again (held rows (Some (file_name, v ∷ []))) ≡ []
file_quiet c again v rows k = ap (λ o. option_map_or (λ (a : Rule). use_fault again a (v ∷ []) rows) o []) k.file_id

pub file_rows : (c : List Rule) (v : Word) (rows : List Row) → Knows c
    → settled_rows c (Some (file_name, v ∷ [])) rows ≡ with_values file_name (reading_by file_rule) CommandLine (v ∷ []) rows
file_rows c v rows k = ap (λ o. used_by_id o (v ∷ []) rows) k.file_id

-- an option without its value fails
pub no_value : (c : List Rule) (again : Bool) (name : Word) (rows : List Row) → arg_by_id c name ≡ Some (valued_rule name)
    → settle_fault c again (held rows (Some (name, []))) ≡ kind.InvalidValue ∷ []
no_value c again name rows is = ap (λ o. option_map_or (λ (a : Rule). use_fault again a [] rows) o []) is

-- ---- what a word is
abbrev Meets : List Rule → Waiting → Text → Held → Held × Step → Type 0
Meets c waiting word h m = word_met c [] false waiting 1 word h ≡ m

abbrev word_by : List Rule → Waiting → Text → Held → Bool → Held × Step
word_by c waiting word h two = if two then (h, trailing 1) else long_or_other c waiting word (long_of word) h

abbrev fault_by : Shape → Text → Held → Bool → Kinds
fault_by s word h two = if two then [] else flag_word_fault s.rules s.args_override_self (long_of word) word h

before_words : (c : List Rule) (waiting : Waiting) (word : Text) (h : Held) → subcommand_met [] waiting word ≡ None
    → Meets c waiting word h (word_by c waiting word h (bytes_eq word (45 ∷ 45 ∷ [])))
before_words c waiting word h none = ap (λ o. subcommand_or_other c o waiting 1 word h) none

before_fault : (s : Shape) (waiting : Waiting) (word : Text) (h : Held) → subcommand_met [] waiting word ≡ None
    → word_fault s [] false waiting word h ≡ fault_by s word h (bytes_eq word (45 ∷ 45 ∷ []))
before_fault s waiting word h none = ap (λ o. other_fault s o word h) none

pub plain_met : (c : List Rule) (waiting : Waiting) (word : Text) (h : Held) → subcommand_met [] waiting word ≡ None
    → bytes_eq word (45 ∷ 45 ∷ []) ≡ false → long_of word ≡ None → short_of word ≡ None → Meets c waiting word h (plain_word c waiting word h)
plain_met c waiting word h none two no_long no_short = before_words c waiting word h none
    ∙ (ap (word_by c waiting word h) two
    ∙ (ap (λ o. long_or_other c waiting word o h) no_long ∙ ap (λ o. short_or_plain c waiting word o h) no_short))

pub plain_fault : (s : Shape) (waiting : Waiting) (word : Text) (h : Held) → subcommand_met [] waiting word ≡ None
    → bytes_eq word (45 ∷ 45 ∷ []) ≡ false → long_of word ≡ None → short_of word ≡ None → word_fault s [] false waiting word h ≡ []
plain_fault s waiting word h none two no_long no_short = before_fault s waiting word h none
    ∙ (ap (fault_by s word h) two
    ∙ (ap (λ o. flag_word_fault s.rules s.args_override_self o word h) no_long
    ∙ ap (λ o. option_map_or (λ flags. bundle_fault s.rules s.args_override_self flags h) o []) no_short))

pub ends_met : (c : List Rule) (waiting : Waiting) (word : Text) (h : Held) → subcommand_met [] waiting word ≡ None
    → bytes_eq word (45 ∷ 45 ∷ []) ≡ true → Meets c waiting word h (h, trailing 1)
ends_met c waiting word h none two = before_words c waiting word h none
    ∙ ap (word_by c waiting word h) two

pub ends_fault : (s : Shape) (waiting : Waiting) (word : Text) (h : Held) → subcommand_met [] waiting word ≡ None
    → bytes_eq word (45 ∷ 45 ∷ []) ≡ true → word_fault s [] false waiting word h ≡ []
ends_fault s waiting word h none two = before_fault s waiting word h none
    ∙ ap (fault_by s word h) two

-- a long option, of which the argument is known
abbrev pub flag_step : List Rule → Waiting → Text → Held → Option Text → Option Rule → Held × Step
flag_step c waiting word h v o = after_flag c waiting word (long_met c o v h).0 (long_met c o v h).1

pub long_is_met : (c : List Rule) (waiting : Waiting) (word name : Text) (v : Option Text) (h : Held) (o : Option Rule) → subcommand_met [] waiting word ≡ None
    → bytes_eq word (45 ∷ 45 ∷ []) ≡ false → long_of word ≡ Some (name, v) → arg_by_long c name ≡ o → Meets c waiting word h (flag_step c waiting word h v o)
long_is_met c waiting word name v h o none two is found = before_words c waiting word h none
    ∙ (ap (word_by c waiting word h) two
    ∙ (ap (λ l. long_or_other c waiting word l h) is ∙ ap (flag_step c waiting word h v) found))

pub long_is_fault : (s : Shape) (waiting : Waiting) (word name : Text) (v : Option Text) (h : Held) (o : Option Rule) → subcommand_met [] waiting word ≡ None
    → bytes_eq word (45 ∷ 45 ∷ []) ≡ false → long_of word ≡ Some (name, v) → arg_by_long s.rules name ≡ o
    → word_fault s [] false waiting word h ≡ long_fault s.rules s.args_override_self o v h
long_is_fault s waiting word name v h o none two is found = before_fault s waiting word h none
    ∙ (ap (fault_by s word h) two
    ∙ (ap (λ l. flag_word_fault s.rules s.args_override_self l word h) is
    ∙ ap (λ a. long_fault s.rules s.args_override_self a v h) found))

-- a word with one hyphen names no argument
short_unknown : (c : List Rule) (again : Bool) (b : ℕ) (bs : List ℕ) (x : ℕ) (h : Held) → Knows c → slice_get (chars (b ∷ bs)) 0 ≡ Some x → h.skip ≡ 0
    → bundle_fault c again (b ∷ bs) h ≡ kind.UnknownArgument ∷ []
unfolding flags_fault
short_unknown c again b bs x h k char skip = ap (λ n. flags_fault c again (length (b ∷ bs)) (b ∷ bs) n (record h { skip = 0 })) skip
    ∙ (ap (λ o. bundle_step_fault c again o (b ∷ bs) 0 (record h { skip = 0 }) (flags_fault c again (length bs))) char
    ∙ ap (λ o. short_fault c again o (drop (length (encode_utf8 x)) (b ∷ bs)) (record h { skip = 0 }) (flags_fault c again (length bs) (drop (length (encode_utf8 x)) (b ∷ bs)) 0)) (k.shorts x))

-- a word with one hyphen is an unknown argument: neither "--" nor a long option, it is read as short ones, of which
-- there are none
pub foreign_fault : (s : Shape) (waiting : Waiting) (word : Text) (h : Held) (b : ℕ) (bs : List ℕ) (x : ℕ) → Knows s.rules → subcommand_met [] waiting word ≡ None
    → bytes_eq word (45 ∷ 45 ∷ []) ≡ false → long_of word ≡ None → short_of word ≡ Some (b ∷ bs) → slice_get (chars (b ∷ bs)) 0 ≡ Some x → h.skip ≡ 0
    → word_fault s [] false waiting word h ≡ kind.UnknownArgument ∷ []
foreign_fault s waiting word h b bs x k none two no_long short char skip = before_fault s waiting word h none
    ∙ (ap (fault_by s word h) two
    ∙ (ap (λ o. flag_word_fault s.rules s.args_override_self o word h) no_long
    ∙ (ap (λ o. option_map_or (λ flags. bundle_fault s.rules s.args_override_self flags h) o []) short
    ∙ short_unknown s.rules s.args_override_self b bs x h k char skip)))

-- what an option does with a word that is its value
abbrev pub by_option : Word → Text → Held → Option Rule → Held × Step
by_option name word h o = ((option_word o name word h).0, next (option_word o name word h).1)

abbrev pub by_same : List Row → Word → Text → Bool → Held × Step
by_same rows name word same = (held rows (Some (name, word ∷ [])), next (if nat_lt (if same then 1 else 0) 1 then option name else idle))

-- ---- turns
-- a word's turn by what it meets
pub turn_by : (s : Shape) (rows : List Row) (pending : Option (Text × List Text)) (waiting : Waiting) (word : Text) (m : Held × Step)
    → Meets s.rules waiting word (held rows pending) m → word_fault s [] false waiting word (held rows pending) ≡ [] → step_fault s 1 m.0 m.1 ≡ []
    → turn_fault s [] (stand rows pending waiting false) word ≡ []
turn_by s rows pending waiting word m met passed step =
    ap₂ (λ (f : Kinds) (n : Held × Step). or_else f (step_fault s 1 n.0 n.1)) passed met ∙ step

pub turn_faults : (s : Shape) (rows : List Row) (pending : Option (Text × List Text)) (waiting : Waiting) (word : Text)
    → (word_fault s [] false waiting word (held rows pending) ≡ [] → ⊥) → turn_fault s [] (stand rows pending waiting false) word ≡ [] → ⊥
turn_faults s rows pending waiting word fails e = fails (first_empty (word_fault s [] false waiting word (held rows pending)) _ e)

pub walked_by : (s : Shape) (rows : List Row) (pending : Option (Text × List Text)) (waiting : Waiting) (word : Text) (m : Held × Step)
    → Meets s.rules waiting word (held rows pending) m
    → walked s.rules [] (stand rows pending waiting false) word ≡ after_step s.rules word (stand rows pending waiting false) m.0 m.1
unfolding walked
walked_by s rows pending waiting word m met =
    ap (λ (n : Held × Step). after_step s.rules word (stand rows pending waiting false) n.0 n.1) met

-- behind a turn that passed, the walk goes on
pub advance : (s : Shape) (w after : Walk) (word : Text) (rest : List Text) → turn_fault s [] w word ≡ [] → walked s.rules [] w word ≡ after
    → (end_fault s w (word ∷ rest) ≡ end_fault s after rest) × (end_rows s w (word ∷ rest) ≡ end_rows s after rest)
unfolding walk_fault
advance s w after word rest passed is = (
  ap₂ (λ (t : Kinds) (v : Walk). or_else (or_else t (walk_fault s [] v rest)) (settle_fault s.rules s.args_override_self (fold (walked s.rules []) v rest).held)) passed is,
  ap (λ (v : Walk). end_rows s v rest) is,
)

-- a turn that fails is the end
pub stops : (s : Shape) (w : Walk) (word : Text) (rest : List Text) → (turn_fault s [] w word ≡ [] → ⊥) → end_fault s w (word ∷ rest) ≡ [] → ⊥
unfolding walk_fault
stops s w word rest fails e = fails (first_empty (turn_fault s [] w word) _ (first_empty (walk_fault s [] w (word ∷ rest)) _ e))

-- at the end, what is pending decides
pub ends_here : (s : Shape) (w : Walk) → end_fault s w [] ≡ settle_fault s.rules s.args_override_self w.held
unfolding walk_fault
ends_here s w = refl

-- ---- FILE words
file_held : (c : List Rule) (rows : List Row) (pending : Option (Text × List Text)) (waiting : Waiting) (word : Text) (b behind : Bool)
    → record (stand rows pending waiting behind) {
      held = pushed file_name word (if b && false then held rows pending else settled c (held rows pending));
      waiting = positional;
      is_trailing = behind || false;
    } ≡ stand (settled_rows c pending rows) (Some (file_name, word ∷ [])) positional behind
file_held c rows pending waiting word true true = refl
file_held c rows pending waiting word true false = refl
file_held c rows pending waiting word false true = refl
file_held c rows pending waiting word false false = refl

-- a FILE word settles what is pending, and is pending itself
pub to_file : (s : Shape) (rows : List Row) (pending : Option (Text × List Text)) (waiting : Waiting) (word : Text) (behind : Bool) → Knows s.rules
    → after_step s.rules word (stand rows pending waiting behind) (held rows pending) value ≡ stand (settled_rows s.rules pending rows) (Some (file_name, word ∷ [])) positional behind
to_file s rows pending waiting word behind k =
    ap (λ o. to_positional s.rules o word (stand rows pending waiting behind) (held rows pending)) k.files
    ∙ file_held s.rules rows pending waiting word (is_pending file_rule pending) behind

and_false : (b : Bool) (x y : Kinds) → (if b && false then x else y) ≡ y
and_false true x y = refl
and_false false x y = refl

pub file_fault : (s : Shape) (rows : List Row) (pending : Option (Text × List Text)) → Knows s.rules
    → step_fault s 1 (held rows pending) value ≡ settle_fault s.rules s.args_override_self (held rows pending)
file_fault s rows pending k =
    ap (λ o. option_map_or (λ (a : Rule). positional_fault s.rules s.args_override_self a (held rows pending)) o (stray_fault s)) k.files
    ∙ and_false (is_pending file_rule pending) [] _

-- behind --, each word is a FILE word
pub behind_turn : (s : Shape) (rows : List Row) (pending : Option (Text × List Text)) (waiting : Waiting) (word : Text) → Knows s.rules
    → turn_fault s [] (stand rows pending waiting true) word ≡ settle_fault s.rules s.args_override_self (held rows pending)
behind_turn s rows pending waiting word k = file_fault s rows pending k

pub behind_walked : (s : Shape) (rows : List Row) (pending : Option (Text × List Text)) (waiting : Waiting) (word : Text) → Knows s.rules
    → walked s.rules [] (stand rows pending waiting true) word ≡ stand (settled_rows s.rules pending rows) (Some (file_name, word ∷ [])) positional true
unfolding walked
behind_walked s rows pending waiting word k = to_file s rows pending waiting word true k
