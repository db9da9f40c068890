-- What the arguments of the command answer to a name.
use Rattle.std.proofs.Common.{◌≡◌, ◌||◌, ℕ, Bool, true, false, List, refl, subst, Some, None, inl, inr}
use Rattle.std.specs.Prelude.{◌⊎◌, cond}
use Rattle.std.proofs.lemmas.Bool.{true≢false}
use Rattle.std.specs.Str.{bytes_eq}
use Rattle.std.proofs.lemmas.Slice.Eq.{bytes_eq-Decides}
use Rattle.clap.specs.Words.{Rule}
use Rattle.clap.specs.Walk.{arg_by_id, arg_by_index, arg_by_long, arg_by_short}
use Rattle.clap.specs.Simple.{Shape, built, filled, with_index}
use Rattle.rv_words.specs.Uses.{Word, takes_value, workers_name, nodes_name, turns_name, gen_name, history_name, file_name}
use Rattle.rv_words.specs.Simple.{app, valued, history, file}

-- the arguments as building leaves them
abbrev pub valued_rule : Word → Rule
valued_rule name = filled (valued name)

abbrev pub history_rule : Rule
history_rule = filled history

abbrev pub file_rule : Rule
file_rule = with_index 1 (filled file)

-- the arguments have FILE words, the options that take a value, one that takes none, and no others
pub record Knows (c : List Rule) : Type 0 where
  pub files : arg_by_index c 1 ≡ Some file_rule
  pub file_id : arg_by_id c file_name ≡ Some file_rule
  pub shorts : (x : ℕ) → arg_by_short c x ≡ None
  pub switch : (name : Word) → bytes_eq history_name name ≡ true → arg_by_long c name ≡ Some history_rule
  pub value_long : (name : Word) → takes_value name ≡ true → arg_by_long c name ≡ Some (valued_rule name)
  pub value_id : (name : Word) → takes_value name ≡ true → arg_by_id c name ≡ Some (valued_rule name)
  pub others : (name : Word) → bytes_eq history_name name ≡ false → takes_value name ≡ false → arg_by_long c name ≡ None

-- the command as building leaves it
abbrev pub top : Shape
top = (built app).top

or_cases : (a b : Bool) → (a || b) ≡ true → (a ≡ true) ⊎ (b ≡ true)
or_cases true b h = inl refl
or_cases false b h = inr h

or_false : (a b : Bool) → (a || b) ≡ false → (a ≡ false) × (b ≡ false)
or_false true b h = absurd (true≢false h)
or_false false b h = (refl, h)

-- a name that takes a value is one of four
by_value : (P : Word → Type 0) → P workers_name → P nodes_name → P turns_name → P gen_name → (name : Word) → takes_value name ≡ true → P name
by_value P workers nodes turns gen name h = elim (or_cases (bytes_eq workers_name name) _ h) [
  | inl is ↦ subst P ((bytes_eq-Decides workers_name name).0 is) workers
  | inr h2 ↦ elim (or_cases (bytes_eq nodes_name name) _ h2) [
    | inl is ↦ subst P ((bytes_eq-Decides nodes_name name).0 is) nodes
    | inr h3 ↦ elim (or_cases (bytes_eq turns_name name) _ h3) [
      | inl is ↦ subst P ((bytes_eq-Decides turns_name name).0 is) turns
      | inr is ↦ subst P ((bytes_eq-Decides gen_name name).0 is) gen
    ]
  ]
]

no_rule : (name : Word) → bytes_eq history_name name ≡ false → takes_value name ≡ false → arg_by_long top.rules name ≡ None
no_rule name history_no none =
    let first = or_false (bytes_eq workers_name name) _ none in
    let second = or_false (bytes_eq nodes_name name) _ first.1 in
    let third = or_false (bytes_eq turns_name name) _ second.1 in
    λ i. cond (first.0 i || false) (Some (valued_rule workers_name))
    (cond (second.0 i || false) (Some (valued_rule nodes_name))
    (cond (third.0 i || false) (Some (valued_rule turns_name))
    (cond (third.1 i || false) (Some (valued_rule gen_name))
    (cond (history_no i || false) (Some history_rule) None))))

pub top_knows : Knows top.rules
top_knows = record {
  files = refl;
  file_id = refl;
  shorts = λ x. refl;
  switch = λ name is. subst (λ n. arg_by_long top.rules n ≡ Some history_rule) ((bytes_eq-Decides history_name name).0 is) refl;
  value_long = by_value (λ n. arg_by_long top.rules n ≡ Some (valued_rule n)) refl refl refl refl;
  value_id = by_value (λ n. arg_by_id top.rules n ≡ Some (valued_rule n)) refl refl refl refl;
  others = no_rule;
}
