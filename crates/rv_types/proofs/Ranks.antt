-- Ranks stay at most the number of items: no item's rank is more than 1 above those of the definitions before it.
use Rattle.std.proofs.Common.{◌≡◌, ◌≤◌, ◌+◌, ◌++◌, ℕ, Bool, true, false, max, cond, List, [], ◌∷◌, Option, Some, None, sym, subst, arith}
use Rattle.std.specs.Option.{option_map_or}
use Rattle.lang_model.specs.declared.syntax.Expr.{Expr, Ref, Call', Base', Inject, Pair', Minus', Turned', Chain', Row_of-Expr, end_of-Expr, more_of-Expr, Row_of-Link, end_of-Link, more_of-Link}
use Rattle.lang_model.specs.declared.syntax.Stmt.{Stmt, Set, While', If', Row_of-Stmt, end_of-Stmt, more_of-Stmt}
use Rattle.lang_model.specs.declared.syntax.Item.{Item}
use Rattle.lang_model.specs.declared.syntax.Item.TheVariants.{Function, Program, Command as COMMAND}
use Rattle.lang_model.specs.Tokens.{same_text}
use Rattle.lang_model.specs.Checking.{Known, definition_of, rank_named, called, called_in, called_along, called_by, called_within, called_by_all, rank_of, known_with}
use Rattle.rv_types.specs.Items.{RanksWithin, called_by_item}
use Rattle.rv_types.proofs.Naming.{or_known, definition_of-push}

-- the greater of two numbers within a bound is within it; so, by induction, a tree calls nothing of a higher rank than
-- the definitions have
max-within : (a b c : ℕ) → a ≤ c → b ≤ c → max a b ≤ c
max-within a b c h k = omega arith

module _ (E : List Known) (b : ℕ) (h : RanksWithin b E) where
  mutual
    called-within : (e : Expr) → called E e ≤ b
    called-within (Ref at n) = omega arith
    called-within (Call' at n shape args) = max-within (rank_named E n) (called_in E args) b (h n) (called_in-within args)
    called-within (Base' at base shape args) = called_in-within args
    called-within (Inject at base n) = omega arith
    called-within (Pair' at p left q right) = max-within (called E left) (called E right) b (called-within left) (called-within right)
    called-within (Minus' at p of) = called-within of
    called-within (Turned' at p of times) = called-within of
    called-within (Chain' p first shape rest) = max-within (called E first) (called_along E rest) b (called-within first) (called_along-within rest)

    called_in-within : {m : _} (k : Row_of-Expr m) → called_in E k ≤ b
    called_in-within end_of-Expr = omega arith
    called_in-within (more_of-Expr e rest) = max-within (called E e) (called_in E rest) b (called-within e) (called_in-within rest)

    called_along-within : {m : _} (k : Row_of-Link m) → called_along E k ≤ b
    called_along-within end_of-Link = omega arith
    called_along-within (more_of-Link at op right rest) = max-within (called E right) (called_along E rest) b (called-within right) (called_along-within rest)

  mutual
    called_by-within : (s : Stmt) → called_by E s ≤ b
    called_by-within (Set at n value) = called-within value
    called_by-within (While' at test s body) = max-within (called E test) (called_within E body) b (called-within test) (called_within-within body)
    called_by-within (If' at test s first t second) =
        max-within (called E test) (max (called_within E first) (called_within E second)) b (called-within test) (max-within (called_within E first) (called_within E second) b (called_within-within first) (called_within-within second))

    called_within-within : {m : _} (k : Row_of-Stmt m) → called_within E k ≤ b
    called_within-within end_of-Stmt = omega arith
    called_within-within (more_of-Stmt s rest) = max-within (called_by E s) (called_within E rest) b (called_by-within s) (called_within-within rest)

  called_by_all-within : (ss : List Stmt) → called_by_all E ss ≤ b
  called_by_all-within [] = omega arith
  called_by_all-within (s ∷ ss) = max-within (called_by E s) (called_by_all E ss) b (called_by-within s) (called_by_all-within ss)

  pub called_by_item-within : (item : Item) → called_by_item E item ≤ b
  called_by_item-within (Function at name params body) = called-within body
  called_by_item-within (Program at name params decls body result) = max-within (called_by_all E body.items) (called E result) b (called_by_all-within body.items) (called-within result)
  called_by_item-within (COMMAND command) = omega arith

  rank_of-within : (item : Item) → rank_of E item ≤ b + 1
  unfolding rank_of
  rank_of-within (Function at name params body) = let w = called-within body in omega arith
  rank_of-within (Program at name params decls body result) = let w = called_by_item-within (Program at name params decls body result) in omega arith
  rank_of-within (COMMAND command) = omega arith

  pushed-within : (d : Known) → d.rank ≤ b + 1 → RanksWithin (b + 1) (E ++ d ∷ [])
  pushed-within d r n = subst (λ o. option_map_or (λ k. k.rank) o 0 ≤ b + 1) (sym (definition_of-push E d n)) (by (definition_of E n) (h n) (same_text d.name n))
    where
      by : (o : Option Known) → option_map_or (λ k. k.rank) o 0 ≤ b → (c : Bool) → option_map_or (λ k. k.rank) (or_known o (cond c (Some d) None)) 0 ≤ b + 1
      by None g true = r
      by None g false = omega arith
      by (Some k) g c = omega arith

  known_with-within : (item : Item) → RanksWithin (b + 1) (known_with E item)
  unfolding known_with
  known_with-within (Function at name params body) = pushed-within _ (rank_of-within (Function at name params body))
  known_with-within (Program at name params decls body result) = pushed-within _ (rank_of-within (Program at name params decls body result))
  known_with-within (COMMAND command) = λ n. let w = h n in omega arith

-- one more item
pub RanksWithin-item : (D E : List Known) (b : ℕ) (item : Item) → RanksWithin b D → ((n : List ℕ) → definition_of E n ≡ definition_of (known_with D item) n) → RanksWithin (b + 1) E
RanksWithin-item D E b item h same n = subst (λ o. option_map_or (λ k. k.rank) o 0 ≤ b + 1) (sym (same n)) (known_with-within D b h item n)
