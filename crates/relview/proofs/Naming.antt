-- What the words give a run: the files that they name, or the scripts that are generated.
use Rattle.std.proofs.Common.{◌≡◌, ◌≤◌, ◌∙◌, ℕ, Bool, cond, List, [], ◌∷◌, length, map, Some, None, refl, sym, ap, subst, arith}
use Rattle.std.proofs.lemmas.List.{length-map}
use Rattle.std.proofs.lemmas.List.Elements.{All-cons, All-nil, All-head, All-tail}
use Rattle.std.specs.Prelude.{All, IsTrue, String, is_some}
use Rattle.std.specs.String.{string_bytes}
use Rattle.std.specs.declared.vec.Vec.{Vec}
use Rattle.std.specs.declared.alloc.Global.{Global}
use Rattle.rv_words.specs.Uses.{Word}
use Rattle.rv_words.specs.Said.{said_by, scripts_in, relations_in}
use Rattle.rv_words.specs.Shown.{texts, shown}
use Rattle.rv_words.specs.declared.options.Options.{Options}
use Rattle.run_model.specs.Filed.{file_of}
use Rattle.run_model.specs.Inputs.{Rise}
use Rattle.rv_generate.specs.Generator.{generated}
use Rattle.rv_io.specs.Outside.{Told, Leaves}
use Rattle.rv_ends.specs.declared.given.Given.{Given}
use Rattle.rv_ends.specs.Given.{file_words, AreScripts, AreTaken, GivesFiles, bytes_of}
use Rattle.rv_ends.proofs.Wording.{IsOf, of_words, words_told}
use Rattle.rv_ends.proofs.Limits.{IsShort, taken_short, taken-length}
use Rattle.relview.proofs.Reporting.{GivesRun}

-- ---- FILE words in strings
-- what holds of the bytes of all names holds of the names
pub of_names : (P : Word → Type 0) (names : List (String Global)) → All P (texts names) → All (λ name. P (string_bytes name)) names
of_names P [] h = All-nil (λ name. P (string_bytes name))
of_names P (name ∷ names) h =
    All-cons (λ n. P (string_bytes n)) name names (All-head P (string_bytes name) (texts names) h) (of_names P names (All-tail P (string_bytes name) (texts names) h))

-- the FILE words of words in the set may be picked
pub may_pick_files : (may : Word → Bool) (words : List Word) (options : Options) → said_by words ≡ Some (shown options) → All (λ w. IsTrue (may w)) (file_words words)
    → All (λ w. IsTrue (may w)) (texts options.files.items)
may_pick_files may words options e h = subst (All (λ w. IsTrue (may w))) (words_told words (shown options) e) h

-- ---- sizes
pub nodes_low : (words : List Word) (options : Options) → said_by words ≡ Some (shown options) → 10 ≤ options.nodes
nodes_low words options e = (of_words words (shown options) e).low

pub nodes_high : (words : List Word) (options : Options) → said_by words ≡ Some (shown options) → options.nodes ≤ 24
nodes_high words options e = (of_words words (shown options) e).high

pub workers_some : (words : List Word) (options : Options) → said_by words ≡ Some (shown options) → 1 ≤ options.workers
workers_some words options e = (of_words words (shown options) e).manned

pub workers_few : (words : List Word) (options : Options) → said_by words ≡ Some (shown options) → options.workers ≤ 64
workers_few words options e = (of_words words (shown options) e).crew

-- ---- files that are named
-- what was read of the FILE words
pub record IsNamed (words : List Word) (options : Options) (so mid : Told) (given : Given) : Type 0 where
  pub taken : said_by words ≡ Some (shown options)
  pub number : options.number ≡ None
  pub gives : GivesFiles so.files (texts options.files.items) given
  pub leaves : Leaves so mid

module _ (words : List Word) (options : Options) (so mid : Told) (given : Given) (n : IsNamed words options so mid given) where
  abbrev names : List Word
  names = texts options.files.items

  said : IsOf (shown options) names
  said = subst (IsOf (shown options)) (words_told words (shown options) n.taken) (of_words words (shown options) n.taken)

  count : length given.scripts.items ≡ length (scripts_in names)
  count = sym (length-map given.scripts.items (λ v. v.items)) ∙ taken-length so.files (scripts_in names) (map (λ v. v.items) given.scripts.items) n.gives.scripts_are

  pub named_some : 1 ≤ length given.scripts.items
  named_some = let some = said.some n.number in omega (arith, count, some)

  pub named_few : length given.scripts.items ≤ 64
  named_few = omega (arith, count, said.few)

  pub named_short : All IsShort given.scripts.items
  named_short = taken_short so.files names given.scripts.items n.gives.scripts_are

  -- the batches end where the words say
  pub named_ends : Rise 0 (length given.scripts.items) options.ends.items
  named_ends = subst (λ m. Rise 0 m options.ends.items) (ap length said.scripts_are ∙ sym count) (said.batches n.number)

  pub named_gives : GivesRun words (shown options) so mid (map (λ v. v.items) given.scripts.items) given.files.items options.ends.items
  named_gives = record {
    taken = n.taken;
    scripts_are = subst (λ o. AreScripts o so.files (shown options).scripts (map (λ v. v.items) given.scripts.items)) (sym n.number)
        (subst (λ ws. AreTaken so.files ws (map (λ v. v.items) given.scripts.items)) (sym said.scripts_are) n.gives.scripts_are);
    named = n.gives.named ∙ sym said.relations_are;
    loaded = subst (λ ws. AreTaken so.files ws (bytes_of (map file_of given.files.items))) (sym said.relations_are) n.gives.loaded_are;
    no_put = record { files = n.leaves.files; put_faults = n.leaves.put_faults };
    batches = ap (λ o. cond (is_some o) (length (map (λ v. v.items) given.scripts.items) ∷ []) options.ends.items) (sym n.number);
  }

-- ---- scripts that are generated
no_names : (names : List (String Global)) → texts names ≡ [] → names ≡ []
no_names [] e = refl
no_names (name ∷ names) e = absurd (omega (arith, ap length e))

-- beside --gen no relation file is named
pub no_relations : (words : List Word) (options : Options) (number : ℕ) → said_by words ≡ Some (shown options) → options.number ≡ Some number → options.relations.items ≡ []
no_relations words options number e f =
    let said = of_words words (shown options) e in
    no_names options.relations.items (said.relations_are ∙ ap relations_in (said.bare (ap is_some f)))

pub gen_gives : (words : List Word) (options : Options) (number : ℕ) (so : Told) (scripts : List (Vec ℕ Global)) → said_by words ≡ Some (shown options) → options.number ≡ Some number
    → options.relations.items ≡ [] → map (λ v. v.items) scripts ≡ generated number → GivesRun words (shown options) so so (map (λ v. v.items) scripts) [] (length (map (λ v. v.items) scripts) ∷ [])
gen_gives words options number so scripts e f none g = record {
  taken = e;
  scripts_are = subst (λ o. AreScripts o so.files (shown options).scripts (map (λ v. v.items) scripts)) (sym f) g;
  named = sym (ap texts none);
  loaded = subst (λ rs. AreTaken so.files (texts rs) []) (sym none) tt;
  no_put = record { files = refl; put_faults = refl };
  batches = ap (λ o. cond (is_some o) (length (map (λ v. v.items) scripts) ∷ []) options.ends.items) (sym f);
}
