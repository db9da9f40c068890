-- By what a walk over the syntax falls: the rank first, and then how much text there is.
use Rattle.std.proofs.Common.{◌≡◌, ◌≢◌, ◌<◌, ◌≤◌, ◌+◌, ◌*◌, ◌-◌, ◌++◌, ℕ, zero, suc, List, [], ◌∷◌, length, get_or, refl, ap, arith, rules}
use Rattle.lang_model.specs.declared.syntax.Expr.{Expr, Ref, Call', Base', Inject, Pair', Minus', Turned', Chain', Row_of-Expr, end_of-Expr, more_of-Expr, items-the_row-Expr, Row_of-Link, end_of-Link, more_of-Link, items-the_row-Link, the_lemmas}
use Rattle.lang_model.specs.declared.syntax.Expr.TheVariants.{Call, Base, Chain}
use Rattle.lang_model.specs.declared.syntax.Link.{Link}
use Rattle.lang_model.specs.declared.syntax.Stmt.{Stmt, Set, While', If', Row_of-Stmt, end_of-Stmt, more_of-Stmt, items-the_row-Stmt, the_lemmas as stmt_lemmas}
use Rattle.lang_model.specs.declared.syntax.Stmt.TheVariants.{While, If}
use Rattle.lang_model.specs.declared.syntax.Item.{Item}
use Rattle.lang_model.specs.declared.syntax.Item.TheVariants.{Function, Program, Command as COMMAND}

-- how many parts an expression has
abbrev mutual
  pub weight : Expr → ℕ
  weight (Ref at name) = 1
  weight (Call' at name shape args) = weight_in args + 1
  weight (Base' at base shape args) = weight_in args + 1
  weight (Inject at base domain) = 1
  weight (Pair' at p left q right) = weight left + weight right + 1
  weight (Minus' at p of) = weight of + 1
  weight (Turned' at p of times) = weight of + 1
  weight (Chain' p first shape rest) = weight first + weight_along rest + 1

  pub weight_in : {m : _} → Row_of-Expr m → ℕ
  weight_in end_of-Expr = 0
  weight_in (more_of-Expr e rest) = weight e + weight_in rest

  pub weight_along : {m : _} → Row_of-Link m → ℕ
  weight_along end_of-Link = 0
  weight_along (more_of-Link at op right rest) = weight right + weight_along rest

abbrev pub weight_of_args : List Expr → ℕ
weight_of_args [] = 0
weight_of_args (e ∷ es) = weight e + weight_of_args es

abbrev pub weight_of_links : List Link → ℕ
weight_of_links [] = 0
weight_of_links (l ∷ ls) = weight l.right + weight_of_links ls

weight_in-items : (n : _) (k : Row_of-Expr n) → weight_in k ≡ weight_of_args (items-the_row-Expr n k)
weight_in-items _ end_of-Expr = refl
weight_in-items _ (more_of-Expr e rest) = ap (λ w. weight e + w) (weight_in-items _ rest)

weight_along-items : (n : _) (k : Row_of-Link n) → weight_along k ≡ weight_of_links (items-the_row-Link n k)
weight_along-items _ end_of-Link = refl
weight_along-items _ (more_of-Link at op right rest) = ap (λ w. weight right + w) (weight_along-items _ rest)

pub weight-call : (at : _) (name : _) (args : _) → weight (Call at name args) ≡ weight_of_args args.items + 1
weight-call at name args = search (rules, the_lemmas, weight_in-items)

pub weight-base : (at : _) (base : _) (args : _) → weight (Base at base args) ≡ weight_of_args args.items + 1
weight-base at base args = search (rules, the_lemmas, weight_in-items)

pub weight-chain : (first : _) (rest : _) → weight (Chain first rest) ≡ weight first.value + weight_of_links rest.items + 1
weight-chain first rest = search (rules, the_lemmas, weight_along-items)

pub weight_arg : (es : List Expr) (k : ℕ) (e d : Expr) → k < length es → e ≡ get_or es k d → weight e ≤ weight_of_args es
weight_arg [] k e d h is = absurd (omega arith)
weight_arg (x ∷ xs) zero e d h is = let same : weight e ≡ weight x = ap weight is in omega (arith, same)
weight_arg (x ∷ xs) (suc k) e d h is = let more : weight e ≤ weight_of_args xs = weight_arg xs k e d (omega (arith, h)) is in omega (arith, more)

pub weight_link : (ls : List Link) (k : ℕ) (l d : Link) → k < length ls → l ≡ get_or ls k d → weight l.right ≤ weight_of_links ls
weight_link [] k l d h is = absurd (omega arith)
weight_link (x ∷ xs) zero l d h is = let same : weight l.right ≡ weight x.right = ap (λ y. weight y.right) is in omega (arith, same)
weight_link (x ∷ xs) (suc k) l d h is = let more : weight l.right ≤ weight_of_links xs = weight_link xs k l d (omega (arith, h)) is in omega (arith, more)

-- how many parts a statement has
abbrev mutual
  pub weight_stmt : Stmt → ℕ
  weight_stmt (Set at name value) = weight value + 1
  weight_stmt (While' at test s body) = weight test + weight_within body + 1
  weight_stmt (If' at test s first t second) = weight test + (weight_within first + weight_within second) + 1

  pub weight_within : {m : _} → Row_of-Stmt m → ℕ
  weight_within end_of-Stmt = 0
  weight_within (more_of-Stmt s rest) = weight_stmt s + weight_within rest

abbrev pub weight_by : List Stmt → ℕ
weight_by [] = 0
weight_by (s ∷ ss) = weight_stmt s + weight_by ss

weight_within-items : (n : _) (k : Row_of-Stmt n) → weight_within k ≡ weight_by (items-the_row-Stmt n k)
weight_within-items _ end_of-Stmt = refl
weight_within-items _ (more_of-Stmt s rest) = ap (λ w. weight_stmt s + w) (weight_within-items _ rest)

pub weight-while : (at : _) (test : _) (body : _) → weight_stmt (While at test body) ≡ weight test + weight_by body.items + 1
weight-while at test body = search (rules, stmt_lemmas, weight_within-items)

pub weight-if : (at : _) (test : _) (first : _) (second : _) → weight_stmt (If at test first second) ≡ weight test + (weight_by first.items + weight_by second.items) + 1
weight-if at test first second = search (rules, stmt_lemmas, weight_within-items)

-- a statement weighs no more than its list, by induction to its place
pub weight_one : (ss : List Stmt) (k : ℕ) (s d : Stmt) → k < length ss → s ≡ get_or ss k d → weight_stmt s ≤ weight_by ss
weight_one [] k s d h is = absurd (omega arith)
weight_one (x ∷ xs) zero s d h is = let same : weight_stmt s ≡ weight_stmt x = ap weight_stmt is in omega (arith, same)
weight_one (x ∷ xs) (suc k) s d h is = let more : weight_stmt s ≤ weight_by xs = weight_one xs k s d (omega (arith, h)) is in omega (arith, more)

-- ---- definitions
-- how many parts the body of a definition has
abbrev pub weight_of_item : Item → ℕ
weight_of_item (Function at name params body) = weight body
weight_of_item (Program at name params decls body result) = weight_by body.items + weight result
weight_of_item (COMMAND command) = 0

-- those of all items together
abbrev pub weight_of_items : List Item → ℕ
weight_of_items [] = 0
weight_of_items (item ∷ items) = weight_of_item item + weight_of_items items

pub weight_of_one : (before behind : List Item) (item : Item) → weight_of_item item ≤ weight_of_items (before ++ item ∷ behind)
weight_of_one [] behind item = omega arith
weight_of_one (x ∷ xs) behind item = let more = weight_of_one xs behind item in omega (arith, more)

-- what one rank counts
abbrev pub scale : List Item → ℕ
scale items = 4 * weight_of_items items + 4

-- a definition weighs less than one rank
pub below_scale : (items before behind : List Item) (item : Item) → items ≡ before ++ item ∷ behind → 4 * weight_of_item item + 4 ≤ scale items
below_scale items before behind item e =
    let one = weight_of_one before behind item in
    let same : weight_of_items items ≡ weight_of_items (before ++ item ∷ behind) = ap weight_of_items e in
    omega (arith, one, same)

-- one rank less leaves room for that
pub rank_falls : (rank s w : ℕ) → rank ≢ 0 → w < s → (rank - 1) * s + w < rank * s
rank_falls zero s w h l = absurd (h refl)
rank_falls (suc r) s w h l = grind (arith, l)
