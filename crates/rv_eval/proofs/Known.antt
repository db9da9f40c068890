-- Expressions, statements and calls are Ill only at a node that tests a static size that is unknown.
use Rattle.std.proofs.Common.{◌≡◌, ◌∙◌, ◌==◌, ◌&&◌, ◌++◌, ℕ, zero, suc, Bool, true, false, cond, List, [], ◌∷◌, length, codes, Option, Some, None, refl, sym, ap, subst}
use Rattle.std.specs.Cmp.Lexicographic.{same_text as text_of_test}
use Rattle.lang_model.specs.declared.syntax.Place.{Place}
use Rattle.lang_model.specs.declared.syntax.Expr.{Expr, Ref, Call', Base', Inject, Pair', Minus', Turned', Chain', Row_of-Expr, end_of-Expr, more_of-Expr, Row_of-Link, end_of-Link, more_of-Link}
use Rattle.lang_model.specs.declared.syntax.Stmt.{Stmt, Set, While', If', Row_of-Stmt, end_of-Stmt, more_of-Stmt}
use Rattle.lang_model.specs.declared.syntax.Decl.{Decl}
use Rattle.lang_model.specs.declared.syntax.Item.{Item}
use Rattle.lang_model.specs.declared.syntax.Item.TheVariants.{Function, Program, Command as COMMAND}
use Rattle.lang_model.specs.declared.faults.TypeFault.TheVariants.{Arity, Mismatch}
use Rattle.lang_model.specs.declared.faults.StaticShape.{StaticShape}
use Rattle.rel_model.specs.Relation.{Relation}
use Rattle.rel_model.specs.Operators.{empty}
use Rattle.lang_model.specs.Tokens.{same_text}
use Rattle.lang_model.specs.State.{State, nothing, assigned}
use Rattle.lang_model.specs.Outcomes.{Ill, Answer, Got, Not, Came, got, following, refused}
use Rattle.lang_model.specs.Types.{Fits, Misfit}
use Rattle.lang_model.specs.Mean.{Calls, around_with, domain_named, mean, means, mean_along, mean_test, one_turn, rounds, run, run_within, run_by, bound, item_named, takes_arguments, body_of, called, calls_within}
use Rattle.lang_model.specs.Shape.{Types, no_types, typed_as, passing, around_types, shape, shapes, shape_along, keeps_size, set_type, shape_test, typed_behind, typed_within, typed_by, types_bound, type_of_body, type_of_called, types_of_calls}
use Rattle.lang_model.specs.Sound.{IsSize, Describes, CoversAt, Covers}
use Rattle.lang_model.proofs.Sizes.{one_fits, equal_passes}
use Rattle.lang_model.proofs.Sounding.{TypeCalls, AreDescribed, Extends, extends_self, covers_more, by-grows}
use Rattle.lang_model.proofs.Bases.{none_given}
use Rattle.rv_eval.specs.Unknown.{OfPassed, CallsKnown, Known, KnownIn, KnownAlong, KnownTest, KnownBehind, KnownWithin, KnownBy, KnownBody, KnownCalled, known_calls}
use Rattle.rv_eval.proofs.Knowing.{AtRefusal, Sure, Tells, fits_same, misfit_fits, passes, of_fits, after, Weak, name-sure, injected-sure, based-sure, paired-sure, linked-sure, complemented-sure, turned-sure, tested-tells}

described_more : (ss : List StaticShape) (rs : List Relation) (s : StaticShape) (r : Relation) → AreDescribed ss rs → Describes s r → AreDescribed (ss ++ s ∷ []) (rs ++ r ∷ [])
described_more [] rs s r h d = subst (λ xs. AreDescribed (s ∷ []) (xs ++ r ∷ [])) (sym h) (d, refl)
described_more (x ∷ xs) [] s r h d = absurd h
described_more (x ∷ xs) (y ∷ ys) s r h d = (h.0, described_more xs ys s r h.1 d)

extends_trans : (T U V : Types) → Extends T U → Extends U V → Extends T V
extends_trans T U V x y name s e = y name s (x name s e)

-- a text is the same as itself, sign by sign
text_self : (xs : List ℕ) → same_text xs xs ≡ true
text_self [] = refl
text_self (x ∷ xs) = ap (λ b. b && same_text xs xs) (equal_passes x x refl) ∙ text_self xs

-- ---- expressions
module _ (p : Place → Bool) (K : CallsKnown) (CT : TypeCalls) (C : Calls) (ds : List Decl)
    (calls-sure : (at : Place) (name : List ℕ) (ss : List StaticShape) (rs : List Relation) (n : ℕ) (c : StaticShape) → AreDescribed ss rs → CT at name ss ≡ Fits c → K at name ss → Sure p Describes c (C at name rs n).answer) where
  mutual
    mean-sure : (T : Types) (S : State) → Weak p T S → (e : Expr) (c : StaticShape) → shape (around_types CT ds) T e ≡ Fits c → Known p K (around_types CT ds) T e → (n : ℕ) → Sure p Describes c (mean (around_with C ds) S e n).answer
    mean-sure T S w (Ref at name) c h k n = name-sure p at name (T name) (S name) n c (λ s r e f. w name s r e f) h
    mean-sure T S w (Call' at name sh args) c h k n =
        let t = passes (shapes (around_types CT ds) T [] args) (λ ts. CT at name ts) c h in
        after p AreDescribed Describes t.through c _ _ (means-sure T S w [] [] refl args t.through t.first k.0 n)
        (λ rs m d. calls-sure at name t.through rs m c d t.then (of_fits _ (λ ts. K at name ts) t.through t.first k.1))
    mean-sure T S w (Base' at base sh args) c h k n =
        let t = passes (shapes (around_types CT ds) T [] args) _ c h in
        after p AreDescribed Describes t.through c _ _ (means-sure T S w [] [] refl args t.through t.first k.0 n)
        (λ rs m d. based-sure p at base t.through rs m c d t.then (of_fits _ _ t.through t.first k.1))
    mean-sure T S w (Inject at base domain) c h k n = injected-sure p T S w at base (domain_named ds domain) n c h
    mean-sure T S w (Pair' at q left r right) c h k n =
        let a = passes (shape (around_types CT ds) T left) _ c h in
        let b = passes (shape (around_types CT ds) T right) _ c a.then in
        after p Describes Describes a.through c _ _ (mean-sure T S w left a.through a.first k.0 n)
        (λ x m d. after p Describes Describes b.through c _ _ (mean-sure T S w right b.through b.first k.1 m)
        (λ y j f. paired-sure p at a.through b.through x y d f j c b.then (of_fits _ _ b.through b.first (of_fits _ _ a.through a.first k.2))))
    mean-sure T S w (Minus' at q of) c h k n = after p Describes Describes c c _ _ (mean-sure T S w of c h k n) (λ r m d. complemented-sure p c r m d)
    mean-sure T S w (Turned' at q of times) c h k n =
        let a = passes (shape (around_types CT ds) T of) _ c h in
        after p Describes Describes a.through c _ _ (mean-sure T S w of a.through a.first k n) (λ r m d. turned-sure p times a.through r m c d a.then)
    mean-sure T S w (Chain' q first sh rest) c h k n =
        let a = passes (shape (around_types CT ds) T first) _ c h in
        after p Describes Describes a.through c _ _ (mean-sure T S w first a.through a.first k.0 n)
        (λ r m d. along-sure T S w a.through r d rest c a.then (of_fits _ _ a.through a.first k.1) m)

    means-sure : (T : Types) (S : State) → Weak p T S → (ss : List StaticShape) (rs : List Relation) → AreDescribed ss rs → {m : _} (row : Row_of-Expr m) (us : List StaticShape) → shapes (around_types CT ds) T ss row ≡ Fits us → KnownIn p K (around_types CT ds) T ss row → (n : ℕ) →
        Sure p AreDescribed us (means (around_with C ds) S rs row n).answer
    means-sure T S w ss rs d end_of-Expr us h k n = subst (λ x. AreDescribed x rs) (fits_same h) d
    means-sure T S w ss rs d (more_of-Expr e rest) us h k n =
        let a = passes (shape (around_types CT ds) T e) _ us h in
        after p Describes AreDescribed a.through us _ _ (mean-sure T S w e a.through a.first k.0 n)
        (λ r m f. means-sure T S w (ss ++ a.through ∷ []) (rs ++ r ∷ []) (described_more ss rs a.through r d f) rest us a.then (of_fits _ _ a.through a.first k.1) m)

    along-sure : (T : Types) (S : State) → Weak p T S → (s : StaticShape) (r : Relation) → Describes s r → {m : _} (row : Row_of-Link m) (c : StaticShape) → shape_along (around_types CT ds) T s row ≡ Fits c → KnownAlong p K (around_types CT ds) T s row → (n : ℕ) →
        Sure p Describes c (mean_along (around_with C ds) S r row n).answer
    along-sure T S w s r d end_of-Link c h k n = subst (λ x. Describes x r) (fits_same h) d
    along-sure T S w s r d (more_of-Link at op right rest) c h k n =
        let a = passes (shape (around_types CT ds) T right) _ c h in
        let b = passes _ _ c a.then in
        let l = of_fits _ _ a.through a.first k.1 in
        after p Describes Describes a.through c _ _ (mean-sure T S w right a.through a.first k.0 n)
        (λ q m f. after p Describes Describes b.through c _ _ (linked-sure p at s a.through r q d f m b.through op b.first l.0)
        (λ v j g. along-sure T S w b.through v g rest c b.then (of_fits _ _ b.through b.first l.1) j))

  -- ---- statements
  -- a state that is described by the last types, or a misfit where the property holds
  abbrev SureState : Types → Answer State → Type 0
  SureState U (Got S n) = Covers U S
  SureState U (Not why) = AtRefusal p why

  weak_of : (T U : Types) (S : State) → Extends T U → Covers U S → Weak p T S
  weak_of T U S x c name s r e f = by (U name) (S name) (x name s e) f (c name)
    where
      by : (t : Option StaticShape) (o : Option Relation) → t ≡ Some s → o ≡ Some r → CoversAt t o → Describes s r
      by t None e f h = absurd (let z : None ≡ Some r = f in cc)
      by None (Some q) e f h = absurd h
      by (Some t) (Some q) e f h = subst (λ y. Describes y r) (some_same e) (subst (λ y. Describes t y) (some_same f) h)
        where
          some_same : {A : Type 0} {x y : A} → Some x ≡ Some y → x ≡ y
          some_same e = cc

  grows : (s : Stmt) (T T1 : Types) → typed_behind (around_types CT ds) s T ≡ Fits T1 → Extends T T1
  grows s T T1 h = by-grows CT ds (s ∷ []) T T1 (ap (λ x. passing x (λ more. Fits more)) h)

  within-grows : {m : _} (row : Row_of-Stmt m) (T T1 : Types) → typed_within (around_types CT ds) row T ≡ Fits T1 → Extends T T1
  within-grows end_of-Stmt T T1 h = subst (Extends T) (fits_same h) (extends_self T)
  within-grows (more_of-Stmt s rest) T T1 h =
      let a = passes (typed_behind (around_types CT ds) s T) _ T1 h in
      extends_trans T a.through T1 (grows s T a.through a.first) (within-grows rest a.through T1 a.then)

  keeps-described : (a b : Option ℕ) (m : ℕ) → keeps_size a b ≡ true → IsSize b m → IsSize a m
  keeps-described None b m k h = tt
  keeps-described (Some x) None m k h = absurd (let z : false ≡ true = k in cc)
  keeps-described (Some x) (Some y) m k h = one_fits x y k ∙ h

  covers-assigned : (U : Types) (S : State) (name : List ℕ) (s : StaticShape) (r : Relation) → Covers U S → U name ≡ Some s → Describes s r → Covers U (assigned name r S)
  unfolding assigned
  covers-assigned U S name s r c e d n = at (same_text name n) refl
    where
      at : (b : Bool) → same_text name n ≡ b → CoversAt (U n) (cond b (Some r) (S n))
      at true f = subst (λ t. CoversAt t (Some r)) (sym (ap U (sym (text_of_test name n (sym f))) ∙ e)) d
      at false f = c n

  -- an assignment keeps names described by their types: a new name by the type of its value, an old one since both
  -- types agree in what they know
  set-sure : (U : Types) (at : Place) (name : List ℕ) (s : StaticShape) (T T1 : Types) (o : Option StaticShape) → T name ≡ o → set_type at name s T o ≡ Fits T1 → Extends T U → Extends T1 U → (S : State) → Covers U S → (a : Answer Relation) → Sure p Describes s a →
      SureState U (following a (λ r m. got (assigned name r S) m)).answer
  unfolding typed_as
  set-sure U at name s T T1 o e h x y S c (Not why) d = d
  set-sure U at name s T T1 None e h x y S c (Got r n) d =
      let own : typed_as name s T name ≡ Some s = ap (λ b. cond b (Some s) (T name)) (text_self name) in
      covers-assigned U S name s r c (y name s (ap (λ F. F name) (sym (fits_same h)) ∙ own)) d
  set-sure U at name s T T1 (Some t) e h x y S c (Got r n) d = kept (keeps_size t.rows s.rows) (keeps_size t.cols s.cols) refl refl h
    where
      kept : (a b : Bool) → keeps_size t.rows s.rows ≡ a → keeps_size t.cols s.cols ≡ b → cond (a && b) (Fits T) (Misfit (Mismatch at (codes "=") t s)) ≡ Fits T1 → Covers U (assigned name r S)
      kept true true q v g = covers-assigned U S name t r c (x name t e) (record { row_size = keeps-described t.rows s.rows r.rows q d.row_size; col_size = keeps-described t.cols s.cols r.cols v d.col_size })
      kept true false q v g = absurd (misfit_fits g)
      kept false b q v g = absurd (misfit_fits g)

  next-sure : (U : Types) (a : Answer State) (next : State → ℕ → Came State) → SureState U a → ((V : State) (m : ℕ) → Covers U V → SureState U (next V m).answer) → SureState U (following a next).answer
  next-sure U (Got S n) next h k = k S n h
  next-sure U (Not why) next h k = h

  branch-sure : (U : Types) (a : Answer Bool) (first second : ℕ → Came State) → Tells p a → ((m : ℕ) → SureState U (first m).answer) → ((m : ℕ) → SureState U (second m).answer) → SureState U (following a (λ b m. cond b (first m) (second m))).answer
  branch-sure U (Got true n) first second t h k = h n
  branch-sure U (Got false n) first second t h k = k n
  branch-sure U (Not why) first second t h k = t

  turn-sure : (U : Types) (at : Place) (body next : State → ℕ → Came State) → ((V : State) (m : ℕ) → Covers U V → SureState U (body V m).answer) → ((V : State) (m : ℕ) → Covers U V → SureState U (next V m).answer) → (S : State) (n : ℕ) → Covers U S → SureState U (one_turn at body next S n).answer
  turn-sure U at body next h k S zero c = tt
  turn-sure U at body next h k S (suc n) c = next-sure U (body S n).answer next (h S n c) k

  loop-sure : (U : Types) (at : Place) (test : State → ℕ → Came Bool) (body : State → ℕ → Came State) → ((V : State) (m : ℕ) → Covers U V → Tells p (test V m).answer) → ((V : State) (m : ℕ) → Covers U V → SureState U (body V m).answer) → (k : ℕ) (S : State) (n : ℕ) → Covers U S → SureState U (rounds at test body k S n).answer
  loop-sure U at test body t h zero S n c = tt
  loop-sure U at test body t h (suc k) S n c =
      branch-sure U (test S n).answer (λ m. one_turn at body (rounds at test body k) S m) (λ m. got S m) (t S n c)
      (λ m. turn-sure U at body (rounds at test body k) h (λ V j d. loop-sure U at test body t h k V j d) S m c) (λ m. c)

  tells-after : {A B E : Type 0} (D : A → B → Type 0) (s : A) (a : Answer B) (g : B → ℕ → Came E) → Sure p D s a → ((r : B) (n : ℕ) → D s r → Tells p (g r n).answer) → Tells p (following a g).answer
  tells-after D s (Got r n) g h k = k r n h
  tells-after D s (Not why) g h k = h

  -- a test in a loop or an IF tells as its expression does: its type is the one that the walk over types passed
  test-tells : (T U : Types) → Extends T U → (S : State) → Covers U S → (at : Place) (e : Expr) (c : StaticShape) → shape_test (around_types CT ds) at e T ≡ Fits c → KnownTest p K (around_types CT ds) at e T → (n : ℕ) → Tells p (mean_test (around_with C ds) at e S n).answer
  test-tells T U x S c at e s h k n =
      let a = passes (shape (around_types CT ds) T e) _ s h in
      tells-after Describes a.through _ _ (mean-sure T S (weak_of T U S x c) e a.through a.first k.0 n) (λ r m d. tested-tells p at a.through r m s d a.then (of_fits _ _ a.through a.first k.1))

  mutual
    run-sure : (U : Types) (s : Stmt) (T T1 : Types) → typed_behind (around_types CT ds) s T ≡ Fits T1 → KnownBehind p K (around_types CT ds) s T → Extends T U → Extends T1 U → (S : State) → Covers U S → (n : ℕ) → SureState U (run (around_with C ds) s S n).answer
    run-sure U (Set at name value) T T1 h k x y S c n =
        let a = passes (shape (around_types CT ds) T value) (λ t. set_type at name t T (T name)) T1 h in
        set-sure U at name a.through T T1 (T name) refl a.then x y S c (mean (around_with C ds) S value n).answer (mean-sure T S (weak_of T U S x c) value a.through a.first k n)
    run-sure U (While' at test sh body) T T1 h k x y S c n =
        let a = passes (shape_test (around_types CT ds) at test T) _ T1 h in
        loop-sure U at (mean_test (around_with C ds) at test) (run_within (around_with C ds) body)
        (λ V m d. test-tells T U x V d at test a.through a.first k.0 m) (λ V m d. within-sure U body T T1 a.then k.1 x y V d m) (suc n) S n c
    run-sure U (If' at test sh first th second) T T1 h k x y S c n =
        let a = passes (shape_test (around_types CT ds) at test T) _ T1 h in
        let b = passes (typed_within (around_types CT ds) first T) _ T1 a.then in
        let mid = extends_trans b.through T1 U (within-grows second b.through T1 b.then) y in
        branch-sure U (mean_test (around_with C ds) at test S n).answer _ _ (test-tells T U x S c at test a.through a.first k.0 n)
        (λ m. within-sure U first T b.through b.first k.1 x mid S c m) (λ m. within-sure U second b.through T1 b.then (of_fits _ _ b.through b.first k.2) mid y S c m)

    within-sure : (U : Types) {l : _} (row : Row_of-Stmt l) (T T1 : Types) → typed_within (around_types CT ds) row T ≡ Fits T1 → KnownWithin p K (around_types CT ds) row T → Extends T U → Extends T1 U → (S : State) → Covers U S → (n : ℕ) → SureState U (run_within (around_with C ds) row S n).answer
    within-sure U end_of-Stmt T T1 h k x y S c n = c
    within-sure U (more_of-Stmt s rest) T T1 h k x y S c n =
        let a = passes (typed_behind (around_types CT ds) s T) _ T1 h in
        let mid = extends_trans a.through T1 U (within-grows rest a.through T1 a.then) y in
        next-sure U (run (around_with C ds) s S n).answer _ (run-sure U s T a.through a.first k.0 x mid S c n) (λ V m d. within-sure U rest a.through T1 a.then (of_fits _ _ a.through a.first k.1) mid y V d m)

  by-sure : (U : Types) (ss : List Stmt) (T T1 : Types) → typed_by (around_types CT ds) ss T ≡ Fits T1 → KnownBy p K (around_types CT ds) ss T → Extends T U → Extends T1 U → (S : State) → Covers U S → (n : ℕ) → SureState U (run_by (around_with C ds) ss S n).answer
  by-sure U [] T T1 h k x y S c n = c
  by-sure U (s ∷ ss) T T1 h k x y S c n =
      let a = passes (typed_behind (around_types CT ds) s T) _ T1 h in
      let mid = extends_trans a.through T1 U (by-grows CT ds ss a.through T1 a.then) y in
      next-sure U (run (around_with C ds) s S n).answer _ (run-sure U s T a.through a.first k.0 x mid S c n) (λ V m d. by-sure U ss a.through T1 a.then (of_fits _ _ a.through a.first k.1) mid y V d m)

  -- a result behind statements
  result-sure : (U : Types) (e : Expr) (c : StaticShape) → shape (around_types CT ds) U e ≡ Fits c → Known p K (around_types CT ds) U e → (a : Answer State) → SureState U a → Sure p Describes c (following a (λ S m. mean (around_with C ds) S e m)).answer
  result-sure U e c h k (Got S n) v = mean-sure U S (weak_of U U S (extends_self U) v) e c h k n
  result-sure U e c h k (Not why) v = v

  -- an expression on a state that the types describe
  pub expression-sure : (T : Types) (S : State) → Covers T S → (e : Expr) (c : StaticShape) → shape (around_types CT ds) T e ≡ Fits c → Known p K (around_types CT ds) T e → (n : ℕ) → Sure p Describes c (mean (around_with C ds) S e n).answer
  expression-sure T S v e c h k n = mean-sure T S (weak_of T T S (extends_self T) v) e c h k n

  -- a program
  pub program-sure : (T : Types) (S : State) → Covers T S → (ss : List Stmt) (e : Expr) (c : StaticShape) → passing (typed_by (around_types CT ds) ss T) (λ U. shape (around_types CT ds) U e) ≡ Fits c → KnownBy p K (around_types CT ds) ss T → OfPassed (typed_by (around_types CT ds) ss T) (λ U. Known p K (around_types CT ds) U e) → (n : ℕ) →
      Sure p Describes c (following (run_by (around_with C ds) ss S n).answer (λ V m. mean (around_with C ds) V e m)).answer
  program-sure T S v ss e c h k l n =
      let a = passes (typed_by (around_types CT ds) ss T) _ c h in
      let x = by-grows CT ds ss T a.through a.first in
      result-sure a.through e c a.then (of_fits _ _ a.through a.first l) _ (by-sure a.through ss T a.through a.first k x (extends_self a.through) S (covers_more T a.through S x v) n)

-- ---- definitions
as_many : (ss : List StaticShape) (rs : List Relation) → AreDescribed ss rs → length ss ≡ length rs
as_many [] rs h = ap length (sym h)
as_many (s ∷ ss) [] h = absurd h
as_many (s ∷ ss) (r ∷ rs) h = ap suc (as_many ss rs h.1)

-- arguments described by types one by one make a state covered by the types of the parameters
covers-bound : (ps : List (List ℕ)) (ss : List StaticShape) (rs : List Relation) → AreDescribed ss rs → Covers (types_bound ps ss) (bound ps rs)
unfolding nothing assigned no_types typed_as
covers-bound [] ss rs h = λ name. tt
covers-bound (q ∷ qs) [] [] h = λ name. tt
covers-bound (q ∷ qs) [] (r ∷ rs) h = absurd (let e : r ∷ rs ≡ [] = h in cc)
covers-bound (q ∷ qs) (s ∷ ss) [] h = absurd h
covers-bound (q ∷ qs) (s ∷ ss) (r ∷ rs) h = λ name. at (covers-bound qs ss rs h.1) name (same_text q name)
  where
    at : Covers (types_bound qs ss) (bound qs rs) → (name : List ℕ) (b : Bool) → CoversAt (cond b (Some s) (types_bound qs ss name)) (cond b (Some r) (bound qs rs name))
    at c name true = h.0
    at c name false = c name

abbrev CallsSure : (Place → Bool) → CallsKnown → TypeCalls → Calls → Type 0
CallsSure p K CT C = (at : Place) (name : List ℕ) (ss : List StaticShape) (rs : List Relation) (n : ℕ) (c : StaticShape) → AreDescribed ss rs → CT at name ss ≡ Fits c → K at name ss → Sure p Describes c (C at name rs n).answer

module _ (p : Place → Bool) where
  body-sure : (K : CallsKnown) (CT : TypeCalls) (C : Calls) → CallsSure p K CT C → (item : Item) (ss : List StaticShape) (rs : List Relation) (n : ℕ) (c : StaticShape) → AreDescribed ss rs → type_of_body CT ss item ≡ Fits c → KnownBody p K CT ss item → Sure p Describes c (body_of C rs item n).answer
  body-sure K CT C calls (Function at name params body) ss rs n c d h k = expression-sure p K CT C [] calls (types_bound params.items ss) (bound params.items rs) (covers-bound params.items ss rs d) body c h k n
  body-sure K CT C calls (Program at name params decls body result) ss rs n c d h k = program-sure p K CT C decls.items calls (types_bound params.items ss) (bound params.items rs) (covers-bound params.items ss rs d) body.items result c h k.0 k.1 n
  body-sure K CT C calls (COMMAND command) ss rs n c d h k = subst (λ x. Describes x (empty 0 0)) (fits_same h) none_given

  called-sure : (K : CallsKnown) (CT : TypeCalls) (C : Calls) → CallsSure p K CT C → (at : Place) (name : List ℕ) (o : Option Item) (ss : List StaticShape) (rs : List Relation) (n : ℕ) (c : StaticShape) → AreDescribed ss rs → type_of_called CT at name o ss ≡ Fits c → KnownCalled p K CT o ss → Sure p Describes c (called C at name o rs n).answer
  called-sure K CT C calls at name None ss rs n c d h k = absurd (misfit_fits h)
  called-sure K CT C calls at name (Some item) ss rs n c d h k = by (takes_arguments item == length ss) (takes_arguments item == length rs) (ap (λ j. takes_arguments item == j) (as_many ss rs d)) h
    where
      by : (b e : Bool) → b ≡ e → cond b (type_of_body CT ss item) (Misfit (Arity at name (takes_arguments item) (length ss))) ≡ Fits c → Sure p Describes c (cond e (body_of C rs item n) (refused (Ill (Arity at name (takes_arguments item) (length rs))))).answer
      by true true e h = body-sure K CT C calls item ss rs n c d h k
      by false e x h = absurd (misfit_fits h)
      by true false e h = absurd (let z : true ≡ false = e in cc)

  pub calls-sure : (items : List Item) (rank : ℕ) → CallsSure p (known_calls p items rank) (types_of_calls items rank) (calls_within items rank)
  calls-sure items zero at name ss rs n c d h k = absurd (misfit_fits h)
  calls-sure items (suc rank) at name ss rs n c d h k = called-sure (known_calls p items rank) (types_of_calls items rank) (calls_within items rank) (calls-sure items rank) at name (item_named items name) ss rs n c d h k
