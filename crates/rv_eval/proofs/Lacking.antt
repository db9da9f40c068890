-- The leftmost name that has no relation: of calls and chains, read off the lists that the code walks, and on two
-- states that have the same names.
use Rattle.std.proofs.Common.{◌≡◌, ℕ, cond, List, Option, Some, None, refl, sym, ap, ap₂, rules}
use Rattle.std.specs.Prelude.{option_and_then, option_map, is_some}
use Rattle.rel_model.specs.declared.Rel.{Rel}
use Rattle.lang_model.specs.declared.syntax.Expr.{
  Expr,
  Ref,
  Call',
  Base',
  Inject,
  Pair',
  Minus',
  Turned',
  Chain',
  Row_of-Expr,
  end_of-Expr,
  more_of-Expr,
  items-the_row-Expr,
  Row_of-Link,
  end_of-Link,
  more_of-Link,
  items-the_row-Link,
  the_lemmas,
}
use Rattle.lang_model.specs.declared.syntax.Expr.TheVariants.{Call, Base, Chain}
use Rattle.rel_model.specs.Operators.{empty}
use Rattle.rel_model.specs.Worker.{Worker, Stands}
use Rattle.lang_model.specs.State.{State}
use Rattle.lang_model.specs.Missing.{first_of_both, missing, missing_in, missing_along}
use Rattle.rv_eval.specs.Names.{rel_of, state_of, sized, AllStand}
use Rattle.rv_eval.specs.Lacking.{missing_of_args, missing_of_links}

-- ---- lists
missing_in-items : (S : State) (n : _) (k : Row_of-Expr n) → missing_in S k ≡ missing_of_args S (items-the_row-Expr n k)
missing_in-items S _ end_of-Expr = refl
missing_in-items S _ (more_of-Expr e rest) = ap (first_of_both (missing S e)) (missing_in-items S _ rest)

missing_along-items : (S : State) (n : _) (k : Row_of-Link n) → missing_along S k ≡ missing_of_links S (items-the_row-Link n k)
missing_along-items S _ end_of-Link = refl
missing_along-items S _ (more_of-Link at op right rest) = ap (first_of_both (missing S right)) (missing_along-items S _ rest)

pub missing-call : (S : State) (at : _) (name : _) (args : _) → missing S (Call at name args) ≡ missing_of_args S args.items
missing-call S at name args = search (rules, the_lemmas, missing_in-items)

pub missing-base : (S : State) (at : _) (base : _) (args : _) → missing S (Base at base args) ≡ missing_of_args S args.items
missing-base S at base args = search (rules, the_lemmas, missing_in-items)

pub missing-chain : (S : State) (first : _) (rest : _)
    → missing S (Chain first rest) ≡ first_of_both (missing S first.value) (missing_of_links S rest.items)
missing-chain S first rest = search (rules, the_lemmas, missing_along-items)

-- ---- states
-- two states have the same names
abbrev pub HaveSameNames : State → State → Type 0
HaveSameNames S T = (n : List ℕ) → is_some (S n) ≡ is_some (T n)

mutual
  pub missing-agree : (S T : State) → HaveSameNames S T → (e : Expr) → missing S e ≡ missing T e
  missing-agree S T h (Ref at name) = ap (λ b. cond b None (Some (at, name))) (h name)
  missing-agree S T h (Call' at name shape args) = missing_in-agree S T h args
  missing-agree S T h (Base' at base shape args) = missing_in-agree S T h args
  missing-agree S T h (Inject at base domain) = refl
  missing-agree S T h (Pair' at p left q right) = ap₂ first_of_both (missing-agree S T h left) (missing-agree S T h right)
  missing-agree S T h (Minus' at p of) = missing-agree S T h of
  missing-agree S T h (Turned' at p of times) = missing-agree S T h of
  missing-agree S T h (Chain' p first shape rest) =
      ap₂ first_of_both (missing-agree S T h first) (missing_along-agree S T h rest)

  missing_in-agree : (S T : State) → HaveSameNames S T → {m : _} (k : Row_of-Expr m) → missing_in S k ≡ missing_in T k
  missing_in-agree S T h end_of-Expr = refl
  missing_in-agree S T h (more_of-Expr e rest) = ap₂ first_of_both (missing-agree S T h e) (missing_in-agree S T h rest)

  missing_along-agree : (S T : State) → HaveSameNames S T → {m : _} (k : Row_of-Link m)
      → missing_along S k ≡ missing_along T k
  missing_along-agree S T h end_of-Link = refl
  missing_along-agree S T h (more_of-Link at op right rest) =
      ap₂ first_of_both (missing-agree S T h right) (missing_along-agree S T h rest)

-- names whose relations stand are those of the state that they mean
pub sized-names : (w : Worker) (names : List (List ℕ × Rel)) → AllStand w names → HaveSameNames (sized names) (state_of w names)
sized-names w names s n = at (rel_of names n) (s n)
  where
    at : (o : Option Rel) → ((r : Rel) → o ≡ Some r → Stands w r)
        → is_some (option_map (λ (r : Rel). empty r.rows r.cols) o) ≡ is_some (option_and_then w.relation o)
    at None h = refl
    at (Some r) h = sym (h r refl)

pub same_missing : (w : Worker) (names : List (List ℕ × Rel)) (e : Expr) → AllStand w names
    → missing (state_of w names) e ≡ missing (sized names) e
same_missing w names e s = sym (missing-agree (sized names) (state_of w names) (sized-names w names s) e)
