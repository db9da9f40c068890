-- The meaning of an expression or a statement as that of its first part and what follows.
-- Each part is what the code has in hand, which is equal to the part of the syntax: an operand behind its box, a list as
-- a slice, the names as a slice.
use Rattle.std.proofs.Common.{◌≡◌, ◌∙◌, ℕ, max, Bool, cond, [], List, Result, Ok, refl, sym, ap, arith}
use Rattle.lang_model.specs.declared.syntax.Place.{Place}
use Rattle.lang_model.specs.declared.syntax.Expr.{Expr}
use Rattle.lang_model.specs.declared.syntax.Expr.TheVariants.{Call, Base, Pair, Minus, Turned, Chain}
use Rattle.lang_model.specs.declared.syntax.Link.{Link}
use Rattle.lang_model.specs.declared.syntax.Stmt.{Stmt}
use Rattle.lang_model.specs.declared.syntax.Stmt.TheVariants.{Set, While, If}
use Rattle.rel_model.specs.Relation.{Relation}
use Rattle.rel_model.specs.Worker.{Worker}
use Rattle.rel_slices.specs.declared.thin.Value.{Value}
use Rattle.rel_slices.specs.Thin.{value_of}
use Rattle.rel_values.specs.Values.{Fits, owed}
use Rattle.lang_model.specs.State.{State, assigned}
use Rattle.lang_model.specs.Outcomes.{Came, Operation, got, and_then, with_turns}
use Rattle.lang_model.specs.Mean.{Around, mean, means_by, mean_by, mean_test, based, paired, complemented, turned, run, run_by, looped}
use Rattle.rv_eval.specs.Values.{state_by, AllFit, names_owe}
use Rattle.rv_eval.specs.declared.halt.Halt.{Halt}
use Rattle.rv_eval.specs.Ends.{Ends, EndsOnce}
use Rattle.rv_eval.proofs.Going.{Goes, goes_as, goes_on, goes_last, ends_operation, first_on}
use Rattle.rv_eval.proofs.Fitting.{value_kept, state_kept}
use Rattle.rv_eval.proofs.Unfolding.{mean-call, mean-base, mean-chain, run-while, run-if}

-- ---- expressions
module _ (a : Around) (s : State) (n : ℕ) (expr : Expr) where
  pub means-call : (at : _) (name : _) (args : _) (xs : List Expr) → expr ≡ Call at name args → xs ≡ args.items
      → mean a s expr n ≡ and_then (means_by a s [] xs n) (λ values m. a.calls at name values m)
  means-call at name args xs e l =
      ap (λ x. mean a s x n) e ∙ mean-call a s at name args n
      ∙ ap (λ es. and_then (means_by a s [] es n) (λ values m. a.calls at name values m)) (sym l)

  pub means-base : (at : _) (base : _) (args : _) (xs : List Expr) → expr ≡ Base at base args → xs ≡ args.items
      → mean a s expr n ≡ and_then (means_by a s [] xs n) (λ values m. with_turns (based at base values) m)
  means-base at base args xs e l =
      ap (λ x. mean a s x n) e ∙ mean-base a s at base args n
      ∙ ap (λ es. and_then (means_by a s [] es n) (λ values m. with_turns (based at base values) m)) (sym l)

  pub means-pair : (at : _) (left right : _) (x y : Expr) → expr ≡ Pair at left right → x ≡ left.value → y ≡ right.value
      → mean a s expr n ≡ and_then (mean a s x n) (λ r m. and_then (mean a s y m) (λ q k. with_turns (paired at r q) k))
  means-pair at left right x y e l r =
      ap (λ z. mean a s z n) e
      ∙ ap (λ z. and_then (mean a s z n) (λ r m. and_then (mean a s right.value m) (λ q k. with_turns (paired at r q) k))) (sym l)
      ∙ ap (λ z. and_then (mean a s x n) (λ r m. and_then (mean a s z m) (λ q k. with_turns (paired at r q) k))) (sym r)

  pub means-minus : (at : _) (of : _) (x : Expr) → expr ≡ Minus at of → x ≡ of.value
      → mean a s expr n ≡ and_then (mean a s x n) (λ r m. with_turns (complemented r) m)
  means-minus at of x e l = ap (λ z. mean a s z n) e ∙ ap (λ z. and_then (mean a s z n) (λ r m. with_turns (complemented r) m)) (sym l)

  pub means-turned : (at : _) (of : _) (times : ℕ) (x : Expr) → expr ≡ Turned at of times → x ≡ of.value
      → mean a s expr n ≡ and_then (mean a s x n) (λ r m. with_turns (turned times r) m)
  means-turned at of times x e l = ap (λ z. mean a s z n) e ∙ ap (λ z. and_then (mean a s z n) (λ r m. with_turns (turned times r) m)) (sym l)

  pub means-chain : (first : _) (rest : _) (x : Expr) (ls : List Link) → expr ≡ Chain first rest → x ≡ first.value → ls ≡ rest.items
      → mean a s expr n ≡ and_then (mean a s x n) (λ r m. mean_by a s r ls m)
  means-chain first rest x ls e l r =
      ap (λ z. mean a s z n) e ∙ mean-chain a s first rest n
      ∙ ap (λ ks. and_then (mean a s first.value n) (λ r m. mean_by a s r ks m)) (sym r)
      ∙ ap (λ z. and_then (mean a s z n) (λ r m. mean_by a s r ls m)) (sym l)

-- the right operand of an operation on two, where the names of a later worker mean what they meant at first
pub before_right : {leaf : ℕ} (a : Around) {old v : Worker} {n m : ℕ} (names : List (List ℕ × Value)) (o : Relation → Relation → Operation) (x y : Expr) (first : Value) {total : Came Relation}
    → AllFit old names
    → total ≡ and_then (mean a (state_by old names) x n) (λ r m. and_then (mean a (state_by old names) y m) (λ q k. with_turns (o r q) k))
    → Ends leaf old v n m (names_owe leaf names) (mean a (state_by old names) x n) (value_of v) (owed leaf) (Ok first)
    → Goes leaf old v n m (names_owe leaf names) (max (owed leaf first) (names_owe leaf names)) total
    (and_then (mean a (state_by v names) y m) (λ q k. with_turns (o (value_of v first) q) k))
before_right a {old = old} {v = v} {m = m} names o x y first stand e ends =
    let kept = sym (state_kept old v names ends.keeps stand) in
    goes_as _ _ _ _ _ _ _ (ap (λ z. and_then (mean a z y m) (λ q k. with_turns (o (value_of v first) q) k)) kept)
    (first_on _ _ _ _ _ _ _ _ _ _ e ends (omega arith))

-- an operation on two values, the first of which means what it meant in a later worker
pub both_end : {leaf : ℕ} (a : Around) {old v u w : Worker} {n m k : ℕ} (names : List (List ℕ × Value)) (o : Relation → Relation → Operation) (x y : Expr) (first second : Value) {total : Came Relation} (result : Result Value Halt)
    → AllFit old names
    → total ≡ and_then (mean a (state_by old names) x n) (λ r m. and_then (mean a (state_by old names) y m) (λ q k. with_turns (o r q) k))
    → Ends leaf old v n m (names_owe leaf names) (mean a (state_by old names) x n) (value_of v) (owed leaf) (Ok first) → Fits v first
    → Ends leaf v u m k (names_owe leaf names) (mean a (state_by v names) y m) (value_of u) (owed leaf) (Ok second)
    → EndsOnce leaf u w (o (value_of u first) (value_of u second)) result
    → Ends leaf old w n k (names_owe leaf names) total (value_of w) (owed leaf) result
both_end a {v = v} {u = u} {k = k} names o x y first second result stand e ends fits then once =
    let goes = goes_on _ _ _ _ _ _ _ _ _ _ _ _ (before_right a names o x y first stand e ends) then (omega arith) in
    let left = sym (value_kept v u first then.keeps fits) in
    goes_last _ _ _ _ _ _ _ _ _ _ result (goes_as _ _ _ _ _ _ _ (ap (λ r. with_turns (o r (value_of u second)) k) left) goes) (ends_operation _ _ _ _ _ _ result once) (omega arith)

-- the links of a chain, after its first value
pub links_end : {leaf : ℕ} (a : Around) {old v u : Worker} {n m k : ℕ} (names : List (List ℕ × Value)) (ls : List Link) (first : Value) {x : Came Relation} (result : Result Value Halt)
    → AllFit old names → Ends leaf old v n m (names_owe leaf names) x (value_of v) (owed leaf) (Ok first)
    → Ends leaf v u m k (max (owed leaf first) (names_owe leaf names)) (mean_by a (state_by v names) (value_of v first) ls m) (value_of u) (owed leaf) result
    → Ends leaf old u n k (names_owe leaf names) (and_then x (λ r m. mean_by a (state_by old names) r ls m)) (value_of u) (owed leaf) result
links_end a {old = old} {v = v} {m = m} names ls first result stand ends then =
    let kept = ap (λ y. mean_by a y (value_of v first) ls m) (sym (state_kept old v names ends.keeps stand)) in
    goes_last _ _ _ _ _ _ _ _ _ _ result (goes_as _ _ _ _ _ _ _ kept (first_on _ _ _ _ _ _ (λ r m. mean_by a (state_by old names) r ls m) _ _ _ refl ends (omega arith))) then (omega arith)

-- ---- statements
module _ (a : Around) (w : Worker) (names : List (List ℕ × Value)) (n : ℕ) (stmt : Stmt) where
  pub runs-set : (slice : List (List ℕ × Value)) (at : _) (name : _) (value : _) → stmt ≡ Set at name value → slice ≡ names
      → run a stmt (state_by w names) n ≡ and_then (mean a (state_by w slice) value n) (λ r m. got (assigned name r (state_by w names)) m)
  runs-set slice at name value e l =
      ap (λ x. run a x (state_by w names) n) e
      ∙ ap (λ xs. and_then (mean a (state_by w xs) value n) (λ r m. got (assigned name r (state_by w names)) m)) (sym l)

  pub runs-while : (at : _) (test : _) (body : _) (ss : List Stmt) → stmt ≡ While at test body → ss ≡ body.items
      → run a stmt (state_by w names) n ≡ looped at (mean_test a at test) (run_by a ss) (state_by w names) n
  runs-while at test body ss e l =
      ap (λ x. run a x (state_by w names) n) e ∙ run-while a at test body (state_by w names) n
      ∙ ap (λ ks. looped at (mean_test a at test) (run_by a ks) (state_by w names) n) (sym l)

  pub runs-if : (slice : List (List ℕ × Value)) (at : _) (test : _) (first second : _) (ys ns : List Stmt) → stmt ≡ If at test first second → slice ≡ names → ys ≡ first.items → ns ≡ second.items
      → run a stmt (state_by w names) n ≡ and_then (mean_test a at test (state_by w slice) n) (λ b m. cond b (run_by a ys (state_by w names) m) (run_by a ns (state_by w names) m))
  runs-if slice at test first second ys ns e l y z =
      ap (λ x. run a x (state_by w names) n) e ∙ run-if a at test first second (state_by w names) n
      ∙ ap (λ xs. and_then (mean_test a at test (state_by w xs) n) (λ b m. cond b (run_by a first.items (state_by w names) m) (run_by a second.items (state_by w names) m))) (sym l)
      ∙ ap (λ ks. and_then (mean_test a at test (state_by w slice) n) (λ b m. cond b (run_by a ks (state_by w names) m) (run_by a second.items (state_by w names) m))) (sym y)
      ∙ ap (λ ks. and_then (mean_test a at test (state_by w slice) n) (λ b m. cond b (run_by a ys (state_by w names) m) (run_by a ks (state_by w names) m))) (sym z)

-- what is run behind a test, in the state of a later worker
pub before_branch : {leaf : ℕ} (a : Around) {w v : Worker} {n m : ℕ} (names slice : List (List ℕ × Value)) (at : Place) (test : Expr) (ys ns : List Stmt) (b c : Bool) {total : Came State}
    → AllFit w names → slice ≡ names → b ≡ c
    → total ≡ and_then (mean_test a at test (state_by w slice) n) (λ b m. cond b (run_by a ys (state_by w names) m) (run_by a ns (state_by w names) m))
    → Ends leaf w v n m (names_owe leaf slice) (mean_test a at test (state_by w slice) n) (λ b. b) (λ b. 0) (Ok b)
    → Goes leaf w v n m (names_owe leaf names) (max 0 (names_owe leaf names)) total (cond c (run_by a ys (state_by v names) m) (run_by a ns (state_by v names) m))
before_branch {leaf = leaf} a {w = w} {v = v} {m = m} names slice at test ys ns b c stand l is e ends =
    let kept = sym (state_kept w v names ends.keeps stand) in
    let owe : names_owe leaf slice ≡ names_owe leaf names = ap (names_owe leaf) l in
    goes_as _ _ _ _ _ _ _ (ap (λ d. cond d (run_by a ys (state_by w names) m) (run_by a ns (state_by w names) m)) is ∙ ap (λ s. cond c (run_by a ys s m) (run_by a ns s m)) kept)
    (first_on _ _ _ _ _ _ _ _ _ _ e ends (omega (arith, owe)))
