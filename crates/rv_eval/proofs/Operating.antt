-- What single operations of a worker come to.
use Rattle.std.proofs.Common.{◌≡◌, ◌≢◌, ◌≤◌, ◌+◌, ◌∙◌, ◌==◌, ◌&&◌, ℕ, Bool, true, false, cond, [], ◌∷◌, Some, refl, sym, ap, subst, arith, Result, Ok, Err, IfOk}
use Rattle.std.proofs.lemmas.Bool.Decides.{nat_tests}
use Rattle.rel_model.specs.declared.Rel.{Rel}
use Rattle.lang_model.specs.declared.syntax.Place.{Place}
use Rattle.lang_model.specs.declared.syntax.Op2.{Op2}
use Rattle.lang_model.specs.declared.faults.TypeFault.TheVariants.{Mismatch, NotSquare, NotVector}
use Rattle.lang_model.specs.declared.syntax.Base.{Base}
use Rattle.lang_model.specs.declared.syntax.Base.TheVariants.{I, Trans, Refl, Less, Hasse, Quot, Epsi, Point, Init, Next, Inj}
use Rattle.lang_model.specs.declared.faults.StaticShape.{StaticShape}
use Rattle.rv_eval.specs.declared.bases.Demand.TheVariants.{Nothing, Square, OneColumn}
use Rattle.rv_eval.specs.Demands.{demanded}
use Rattle.rel_model.specs.Operators.{full, empty}
use Rattle.lang_model.specs.Types.{known, spelling}
use Rattle.lang_model.specs.Mean.{result_of_both}
use Rattle.rel_model.specs.declared.Lack.{Lack}
use Rattle.rel_model.specs.declared.Lack.TheVariants.{Full, NoMemory}
use Rattle.rel_model.specs.Algebra.{HasType}
use Rattle.rel_model.specs.Worker.{Worker, Stands, set_of, Gives, Keeps, HasCause}
use Rattle.rel_slices.specs.declared.thin.Value.{Value}
use Rattle.rel_slices.specs.declared.thin.Value.TheVariants.{Whole, Lines}
use Rattle.rel_slices.specs.Thin.{most_lines, ValueStands, value_of, value_rows, value_cols}
use Rattle.rel_slices.proofs.Valuing.{value_type, whole_value}
use Rattle.rel_values.specs.Values.{Fits as FitsIn, owed, Operates}
use Rattle.rel_model.specs.Relation.{Relation, IsRelation, relation_of, size_limit}
use Rattle.lang_model.specs.Rooms.{link_cost}
use Rattle.rv_eval.specs.declared.halt.Halt.{Halt}
use Rattle.rv_eval.specs.declared.halt.Halt.TheVariants.{Lack as LACK}
use Rattle.lang_model.specs.Outcomes.{Cost, Ill, Got, Came, Operation, Makes, Refuses, with_turns}
use Rattle.lang_model.specs.BaseNames.{base_text}
use Rattle.lang_model.specs.Types.{Fits, Misfit, sizes, type_of, takes, type_of_link, squared as squared_as, square, vector}
use Rattle.lang_model.specs.Mean.{fitting, linked, based, answer_of_test}
use Rattle.rv_eval.specs.Ends.{Ends, EndsOnce, wholly, lifted}

-- ---- values
-- what a value means has its sizes, and they are within the limit
pub type_of_fit : (w : Worker) (v : Value) → ((r : Rel) → Stands w r → IsRelation (set_of w r)) → ((r : Rel) → Stands w r → (set_of w r).rows ≡ r.rows) → ((r : Rel) → Stands w r → (set_of w r).cols ≡ r.cols)
    → FitsIn w v → HasType (value_rows v) (value_cols v) (value_of w v)
type_of_fit w v valid rows cols h = value_type w v (λ r s. record { valid = valid r s; row_size = rows r s; col_size = cols r s }) h.stands

few_within : (n : ℕ) → n ≤ most_lines → n ≤ size_limit
few_within n h = omega (arith, h)

limits_of_lines : (turned : Bool) (count other : ℕ) → count ≤ most_lines → other ≤ size_limit → (cond turned other count ≤ size_limit) × (cond turned count other ≤ size_limit)
limits_of_lines true count other c o = (o, few_within count c)
limits_of_lines false count other c o = (few_within count c, o)

pub limits_of_fit : (w : Worker) (v : Value) → ((r : Rel) → Stands w r → r.rows ≤ size_limit) → ((r : Rel) → Stands w r → r.cols ≤ size_limit) → ValueStands w v → (value_rows v ≤ size_limit) × (value_cols v ≤ size_limit)
limits_of_fit w (Whole r) f k s = (f r s, k r s)
limits_of_fit w (Lines t) f k s = limits_of_lines t.turned t.count t.other s.few s.limit

pub stands_of_whole : (w : Worker) (v : Value) (r : Rel) → v ≡ Whole r → FitsIn w v → Stands w r
stands_of_whole w v r e f = let h : FitsIn w (Whole r) = subst (FitsIn w) e f in h.stands

-- want of a node word or of memory
pub made_lack : {leaf start : ℕ} {T X Y : Type 0} (old new : Worker) (n : ℕ) (came : Came T) (is : X → T) (owing : X → ℕ) (lean : Bool) (lack : Lack) → HasCause {T = Y} lean old new (Err lack) → Keeps old new → new.made ≤ old.made + came.cost leaf
    → Ends leaf {X = X} old new n n start came is owing (Err (LACK lack))
made_lack old new n came is owing lean Full cause k m = record { value = tt; halted = cause.full refl; keeps = k; room = m; owes = tt; turns = omega arith }
made_lack old new n came is owing lean NoMemory cause k m = record { value = tt; halted = tt; keeps = k; room = m; owes = tt; turns = omega arith }

-- an operation on values, within its cost
value_ends : {leaf : ℕ} (old new : Worker) (lean : Bool) (m n room : ℕ) (value : Relation) (cost : Cost) (given : Result Value Lack) → room ≤ cost leaf → Operates leaf lean old new m n value room given
    → EndsOnce leaf old new (Makes value cost) (lifted given)
value_ends {leaf = leaf} old new lean m n room value cost (Ok v) l o =
    let made : new.made ≤ old.made + room = o.room in
    let owes : new.made + owed leaf v ≤ old.made + room = o.owes in
    record { value = ap (λ (x : Relation). Got x 0) (sym o.value.means); halted = tt; keeps = o.keeps; room = omega (arith, l, made); owes = omega (arith, l, owes); turns = omega arith }
value_ends {leaf = leaf} old new lean m n room value cost (Err lack) l o =
    let made : new.made ≤ old.made + room = o.room in
    made_lack old new 0 (with_turns (Makes value cost) 0) (value_of new) (owed leaf) lean lack o.cause o.keeps (omega (arith, l, made))

value_fits : {leaf : ℕ} (old new : Worker) (lean : Bool) (m n room : ℕ) (value : Relation) (given : Result Value Lack) → Operates leaf lean old new m n value room given → IfOk (lifted given) (FitsIn new)
value_fits old new lean m n room value (Ok v) o = record { stands = o.value.stands; long = o.long }
value_fits old new lean m n room value (Err lack) o = tt

-- the same, of an operation in other words
pub made_ends : {leaf : ℕ} (old new : Worker) (lean : Bool) (m n room : ℕ) (value : Relation) (cost : Cost) (o : Operation) (given : Result Value Lack) (result : Result Value Halt) → o ≡ Makes value cost → result ≡ lifted given
    → room ≤ cost leaf → Operates leaf lean old new m n value room given → EndsOnce leaf old new o result
made_ends {leaf = leaf} old new lean m n room value cost o given result e d l h =
    subst (λ x. EndsOnce leaf old new x result) (sym e) (subst (λ x. EndsOnce leaf old new (Makes value cost) x) (sym d) (value_ends old new lean m n room value cost given l h))

pub made_fits : {leaf : ℕ} (old new : Worker) (lean : Bool) (m n room : ℕ) (value : Relation) (given : Result Value Lack) (result : Result Value Halt) → result ≡ lifted given
    → Operates leaf lean old new m n value room given → IfOk result (FitsIn new)
made_fits old new lean m n room value given result d h = subst (λ x. IfOk x (FitsIn new)) (sym d) (value_fits old new lean m n room value given h)

-- an answer is no refusal, and a refusal is one of any kind of answer
pub no_refusal : {T E : Type 0} {x : T} {e : E} → Ok x ≡ Err e → ⊥
no_refusal h = cc

pub refused_for : {T E : Type 0} {a b : E} → ◌≡◌ {A = Result T E} (Err a) (Err b) → a ≡ b
refused_for h = cc

abbrev refusal_for : {U E : Type 0} → E → Result U E
refusal_for e = Err e

pub same_refusal : {T U E : Type 0} (a b : E) → ◌≡◌ {A = Result T E} (Err a) (Err b) → ◌≡◌ {A = Result U E} (Err a) (Err b)
same_refusal {U = U} a b h = ap (refusal_for {U = U}) (refused_for h)

-- an answer that stands whole owes nothing
pub whole_operates : {leaf : ℕ} (old new : Worker) (lean : Bool) (m n room : ℕ) (value : Relation) (given : Result Rel Lack) (whole : Result Value Lack) → whole ≡ wholly given → IfOk given (Gives new m n value)
    → Keeps old new → new.made ≤ old.made + room → HasCause lean old new given → Operates leaf lean old new m n value room whole
whole_operates {leaf = leaf} old new lean m n room value given whole e = by given e
  where
    by : (given : Result Rel Lack) → whole ≡ wholly given → IfOk given (Gives new m n value) → Keeps old new → new.made ≤ old.made + room → HasCause lean old new given → Operates leaf lean old new m n value room whole
    by (Ok r) e v k d c = subst (λ x. Operates leaf lean old new m n value room x) (sym e) (record {
      value = whole_value new m n value r v;
      long = tt;
      keeps = k;
      room = d;
      owes = omega (arith, d);
      cause = record { full = λ h. absurd (no_refusal h); no_memory = λ l h. absurd (no_refusal h); done = c.done; wanting = λ h. absurd (no_refusal h) };
    })
    by (Err lack) e v k d c = subst (λ x. Operates leaf lean old new m n value room x) (sym e) (record {
      value = tt;
      long = tt;
      keeps = k;
      room = d;
      owes = tt;
      cause = record { full = λ h. c.full (same_refusal lack Full h); no_memory = λ l h. c.no_memory l (same_refusal lack NoMemory h); done = tt; wanting = λ h. c.wanting (same_refusal lack NoMemory h) };
    })

-- ---- operators between two
pub same_type : (R : Relation) (m n : ℕ) → R.rows ≡ m → R.cols ≡ n → sizes R ≡ known m n
same_type R m n e f = ap (λ x. known x R.cols) e ∙ ap (known m) f

module _ (at : Place) (op : Op2) {R S : Relation} {m n p q : ℕ} (t : HasType m n R) (u : HasType p q S) where
  same_takes : (b : Bool) → takes op (known m n) (known p q) ≡ b → takes op (sizes R) (sizes S) ≡ b
  same_takes b e = ap (λ x. takes op x (sizes S)) (same_type R m n t.row_size t.col_size) ∙ ap (takes op (known m n)) (same_type S p q u.row_size u.col_size) ∙ e

  pub link_fits : takes op (known m n) (known p q) ≡ true → linked at op R S ≡ Makes (result_of_both op R S) (link_cost op R S)
  unfolding linked
  link_fits e = ap (λ b. fitting (cond b (Fits (type_of_link op (sizes R) (sizes S))) (Misfit (Mismatch at (spelling op) (sizes R) (sizes S)))) (Makes (result_of_both op R S) (link_cost op R S))) (same_takes true e)

  pub link_misfit : takes op (known m n) (known p q) ≡ false → linked at op R S ≡ Refuses (Ill (Mismatch at (spelling op) (known m n) (known p q)))
  unfolding linked
  link_misfit e = ap (λ b. fitting (cond b (Fits (type_of_link op (sizes R) (sizes S))) (Misfit (Mismatch at (spelling op) (sizes R) (sizes S)))) (Makes (result_of_both op R S) (link_cost op R S))) (same_takes false e)
      ∙ ap (λ x. Refuses (Ill (Mismatch at (spelling op) x (sizes S)))) (same_type R m n t.row_size t.col_size) ∙ ap (λ x. Refuses (Ill (Mismatch at (spelling op) (known m n) x))) (same_type S p q u.row_size u.col_size)

-- an operator that takes operands of these types makes what the operator that it is makes
pub linked_as : (at : Place) {op same : Op2} {R S : Relation} {m n p q : ℕ} → HasType m n R → HasType p q S
    → takes op (known m n) (known p q) ≡ true → op ≡ same
    → linked at op R S ≡ Makes (result_of_both same R S) (link_cost same R S)
linked_as at {op = op} {R = R} {S = S} t u taken is =
    link_fits at op t u taken
    ∙ ap (λ o. Makes (result_of_both o R S) (link_cost o R S)) is

pub both_fit : (m n p q : ℕ) → ((m == p) && (n == q)) ≡ true → (m ≡ p) × (n ≡ q)
both_fit m n p q e = (grind (arith, nat_tests, e), grind (arith, nat_tests, e))

pub one_fits : (m n : ℕ) → (m == n) ≡ true → m ≡ n
one_fits m n e = grind (arith, nat_tests, e)

pub equal_sizes : (m n : ℕ) → m ≡ n → (m == n) ≡ true
equal_sizes m n e = grind (arith, nat_tests, e)

pub unequal_sizes : (m n : ℕ) → m ≢ n → (m == n) ≡ false
unequal_sizes m n e = grind (arith, nat_tests, e)

-- ---- base calls of one operand
module _ (at : Place) {R : Relation} {m n : ℕ} (typed : HasType m n R) where
  -- an operation by the sizes of the set, by those of the relation
  pub by_sizes : (F : ℕ → ℕ → Operation) → F R.rows R.cols ≡ F m n
  by_sizes F = ap (λ k. F k R.cols) typed.row_size ∙ ap (F m) typed.col_size

  tested_square : (b : Bool) → (m == n) ≡ b → (R.rows == R.cols) ≡ b
  tested_square b e = ap (λ x. x == R.cols) typed.row_size ∙ ap (λ x. m == x) typed.col_size ∙ e

  squared : (base : Base) (b : Bool) (o : Operation) → (m == n) ≡ b → fitting (square at base (sizes R)) o ≡ fitting (cond b (Fits (type_of (Some R.rows) (Some R.rows))) (Misfit (NotSquare at (base_text base) (sizes R)))) o
  squared base b o e = ap (λ x. fitting (cond x (Fits (type_of (Some R.rows) (Some R.rows))) (Misfit (NotSquare at (base_text base) (sizes R)))) o) (tested_square b e)

  pub square_fits : (base : Base) (F : ℕ → ℕ → Operation) → m ≡ n → fitting (square at base (sizes R)) (F R.rows R.cols) ≡ F m n
  square_fits base F e = squared base true (F R.rows R.cols) (equal_sizes m n e) ∙ by_sizes F

  pub square_misfit : (base : Base) (o : Operation) → m ≢ n → fitting (square at base (sizes R)) o ≡ Refuses (Ill (NotSquare at (base_text base) (known m n)))
  square_misfit base o e = squared base false o (unequal_sizes m n e) ∙ ap (λ x. Refuses (Ill (NotSquare at (base_text base) x))) (same_type R m n typed.row_size typed.col_size)

  -- the same of a base call whose result has the side of the operand as rows alone
  sided : (base : Base) (t : StaticShape) (b : Bool) (o : Operation) → (m == n) ≡ b → fitting (squared_as at base (sizes R) (Fits t)) o ≡ fitting (cond b (Fits t) (Misfit (NotSquare at (base_text base) (sizes R)))) o
  sided base t b o e = ap (λ x. fitting (cond x (Fits t) (Misfit (NotSquare at (base_text base) (sizes R)))) o) (tested_square b e)

  pub side_fits : (base : Base) (t : StaticShape) (F : ℕ → ℕ → Operation) → m ≡ n → fitting (squared_as at base (sizes R) (Fits t)) (F R.rows R.cols) ≡ F m n
  side_fits base t F e = sided base t true (F R.rows R.cols) (equal_sizes m n e) ∙ by_sizes F

  side_misfit : (base : Base) (t : StaticShape) (o : Operation) → m ≢ n → fitting (squared_as at base (sizes R) (Fits t)) o ≡ Refuses (Ill (NotSquare at (base_text base) (known m n)))
  side_misfit base t o e = sided base t false o (unequal_sizes m n e) ∙ ap (λ x. Refuses (Ill (NotSquare at (base_text base) x))) (same_type R m n typed.row_size typed.col_size)

  vectored : (base : Base) (t : StaticShape) (b : Bool) (o : Operation) → (n == 1) ≡ b → fitting (vector at base (sizes R) t) o ≡ fitting (cond b (Fits t) (Misfit (NotVector at (base_text base) (sizes R)))) o
  vectored base t b o e = ap (λ x. fitting (cond x (Fits t) (Misfit (NotVector at (base_text base) (sizes R)))) o) (ap (λ x. x == 1) typed.col_size ∙ e)

  pub vector_fits : (base : Base) (t : StaticShape) (F : ℕ → ℕ → Operation) → n ≡ 1 → fitting (vector at base (sizes R) t) (F R.rows R.cols) ≡ F m n
  vector_fits base t F e = vectored base t true (F R.rows R.cols) (equal_sizes n 1 e) ∙ by_sizes F

  pub vector_misfit : (base : Base) (t : StaticShape) (o : Operation) → n ≢ 1 → fitting (vector at base (sizes R) t) o ≡ Refuses (Ill (NotVector at (base_text base) (known m n)))
  vector_misfit base t o e = vectored base t false o (unequal_sizes n 1 e) ∙ ap (λ x. Refuses (Ill (NotVector at (base_text base) x))) (same_type R m n typed.row_size typed.col_size)

  -- a base that demands a square operand refuses another
  pub no_square : (base : Base) → demanded base ≡ Square → m ≢ n → based at base (R ∷ []) ≡ Refuses (Ill (NotSquare at (base_text base) (known m n)))
  unfolding based
  no_square I d e = square_misfit I _ e
  no_square Trans d e = square_misfit Trans _ e
  no_square Refl d e = square_misfit Refl _ e
  no_square Less d e = square_misfit Less _ e
  no_square Hasse d e = square_misfit Hasse _ e
  no_square Quot d e = side_misfit Quot _ _ e
  no_square Epsi d e = absurd (let x : OneColumn ≡ Square = d in cc)
  no_square Point d e = absurd (let x : OneColumn ≡ Square = d in cc)
  no_square Init d e = absurd (let x : OneColumn ≡ Square = d in cc)
  no_square Next d e = absurd (let x : OneColumn ≡ Square = d in cc)
  no_square Inj d e = absurd (let x : OneColumn ≡ Square = d in cc)
  no_square base d e = absurd (let x : Nothing ≡ Square = d in cc)

  -- a base call that demands a vector is refused for an operand of other than one column
  pub no_vector : (base : Base) → demanded base ≡ OneColumn → n ≢ 1 → based at base (R ∷ []) ≡ Refuses (Ill (NotVector at (base_text base) (known m n)))
  unfolding based
  no_vector Epsi d e = vector_misfit Epsi _ _ e
  no_vector Point d e = vector_misfit Point _ _ e
  no_vector Init d e = vector_misfit Init _ _ e
  no_vector Next d e = vector_misfit Next _ _ e
  no_vector Inj d e = vector_misfit Inj _ _ e
  no_vector I d e = absurd (let x : Square ≡ OneColumn = d in cc)
  no_vector Trans d e = absurd (let x : Square ≡ OneColumn = d in cc)
  no_vector Refl d e = absurd (let x : Square ≡ OneColumn = d in cc)
  no_vector Less d e = absurd (let x : Square ≡ OneColumn = d in cc)
  no_vector Hasse d e = absurd (let x : Square ≡ OneColumn = d in cc)
  no_vector Quot d e = absurd (let x : Square ≡ OneColumn = d in cc)
  no_vector base d e = absurd (let x : Nothing ≡ OneColumn = d in cc)

-- the answer of a test
pub full_one : (b : Bool) → b ≡ true → answer_of_test b ≡ full 1 1
unfolding answer_of_test full
full_one b e = ap (λ x. relation_of 1 1 (λ i j. x)) e

pub empty_one : (b : Bool) → b ≡ false → answer_of_test b ≡ empty 1 1
unfolding answer_of_test empty
empty_one b e = ap (λ x. relation_of 1 1 (λ i j. x)) e
