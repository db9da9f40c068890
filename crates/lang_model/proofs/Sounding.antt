-- A known static size is the size of the value.
-- 1. More types of names leave the type of an expression as it is, and statements only add types.
-- 2. Where types cover a state, the type of an expression describes its value: by induction on the expression.
-- 3. Each statement keeps the state covered by the types behind all statements: by induction on the statement, and in a loop on its rounds.
-- 4. So do calls, by induction on how deep they may stand in one another.
use Rattle.std.proofs.Common.{◌≡◌, ◌∙◌, ◌&&◌, ◌++◌, ℕ, zero, suc, Bool, true, false, cond, List, [], ◌∷◌, codes, Option, Some, None, refl, sym, ap, subst}
use Rattle.std.specs.Cmp.Lexicographic.{same_text as text_of_test}
use Rattle.lang_model.specs.declared.syntax.Place.{Place}
use Rattle.lang_model.specs.declared.syntax.Base.{Base}
use Rattle.lang_model.specs.declared.syntax.Op2.{Op2}
use Rattle.lang_model.specs.declared.syntax.Op2.TheVariants.{Or, And, Times, Under, Over}
use Rattle.lang_model.specs.declared.syntax.Expr.{Expr, Ref, Call', Base', Inject, Pair', Minus', Turned', Chain', Row_of-Expr, end_of-Expr, more_of-Expr, Row_of-Link, end_of-Link, more_of-Link}
use Rattle.lang_model.specs.declared.syntax.Stmt.{Stmt, Set, While', If', Row_of-Stmt, end_of-Stmt, more_of-Stmt}
use Rattle.lang_model.specs.declared.syntax.Decl.{Decl}
use Rattle.lang_model.specs.declared.faults.StaticShape.{StaticShape}
use Rattle.lang_model.specs.declared.faults.TypeFault.TheVariants.{Mismatch}
use Rattle.rel_model.specs.Relation.{Relation, relation_of}
use Rattle.rel_model.proofs.Relations.{rows-relation_of, cols-relation_of}
use Rattle.rel_model.specs.Operators.{union, inter, complement, transpose, transposed_by, compose, right_residual, left_residual}
use Rattle.lang_model.specs.Rooms.{link_cost}
use Rattle.lang_model.specs.State.{State, assigned}
use Rattle.lang_model.specs.Missing.{first_of_both}
use Rattle.lang_model.specs.Types.{spelling}
use Rattle.lang_model.specs.Mean.{result_of_both}
use Rattle.lang_model.specs.Tokens.{same_text}
use Rattle.lang_model.specs.Outcomes.{Refusal, Answer, Got, Not, Came, got, following, Makes, with_turns}
use Rattle.lang_model.specs.Types.{Passed, Fits, Misfit, Typed, sizes, type_of, takes, type_of_link, type_turned, typed_link, typed_pair, type_turned_by}
use Rattle.lang_model.specs.Mean.{Calls, around_with, fitting, linked, paired, based, complemented, turned, injected_by, domain_named, named, mean, means, mean_along, mean_test, one_turn, rounds, run, run_within, run_by}
use Rattle.lang_model.specs.Shape.{passing, Types, typed_as, around_types, typed_name, typed_based, typed_injected, typed_injected_of, shape, shapes, shape_along, keeps_size, set_type, shape_test, typed_behind, typed_within, typed_by}
use Rattle.lang_model.proofs.Sizes.{equal_passes}
use Rattle.lang_model.proofs.Sizes.{both_fit, one_fits}
use Rattle.lang_model.specs.Sound.{IsSize, Describes, Agree, CoversAt, Covers}

abbrev pub TypeCalls : Type 0
TypeCalls = Place → List ℕ → List StaticShape → Typed

-- ---- tests one after another
pub agree_not : {A B : Type 0} (D : A → B → Type 0) (p : Passed A) (why : Refusal) → Agree D p (Not why)
agree_not D (Fits s) why = tt
agree_not D (Misfit f) why = tt

then_agree : {A B C E : Type 0} (D : A → B → Type 0) (Q : C → E → Type 0) (x : Passed A) (a : Answer B) (f : A → Passed C) (g : B → ℕ → Came E) →
    Agree D x a → ((s : A) (r : B) (n : ℕ) → D s r → Agree Q (f s) (g r n).answer) → Agree Q (passing x f) (following a g).answer
then_agree D Q (Fits s) (Got r n) f g h k = k s r n h
then_agree D Q (Fits s) (Not why) f g h k = agree_not Q (f s) why
then_agree D Q (Misfit e) a f g h k = tt

pub record Passes {A B : Type 0} (x : Passed A) (f : A → Passed B) (y : B) : Type 0 where
  pub through : A
  pub first : x ≡ Fits through
  pub then : f through ≡ Fits y

pub passes : {A B : Type 0} (x : Passed A) (f : A → Passed B) (y : B) → passing x f ≡ Fits y → Passes x f y
passes (Fits s) f y e = record { through = s; first = refl; then = e }
passes (Misfit w) f y e = absurd (let d : Misfit w ≡ Fits y = e in cc)

-- ---- more types
abbrev pub Extends : Types → Types → Type 0
Extends T U = (name : List ℕ) (s : StaticShape) → T name ≡ Some s → U name ≡ Some s

pub covers_more : (T U : Types) (S : State) → Extends T U → Covers T S → Covers U S
covers_more T U S x c name = at (T name) (S name) refl (c name)
  where
    at : (t : Option StaticShape) (o : Option Relation) → T name ≡ t → CoversAt t o → CoversAt (U name) o
    at t None e h = tt
    at None (Some r) e h = absurd h
    at (Some s) (Some r) e h = subst (λ u. CoversAt u (Some r)) (sym (x name s e)) h

name_more : (T U : Types) → Extends T U → (at : Place) (name : List ℕ) (s : StaticShape) (o : Option StaticShape) → T name ≡ o → typed_name at name (T name) ≡ Fits s → typed_name at name (U name) ≡ Fits s
name_more T U x at name s None e h = absurd (let d : typed_name at name None ≡ Fits s = ap (typed_name at name) (sym e) ∙ h in let f : Misfit _ ≡ Fits s = d in cc)
name_more T U x at name s (Some t) e h = ap (typed_name at name) (x name t e) ∙ ap (typed_name at name) (sym e) ∙ h

-- more types of names leave the type of a domain operator: it fits only where both its names have types, and these stay
injected_more : (T U : Types) → Extends T U → (at : Place) (base : Base) (s : StaticShape) (o : Option (List ℕ × List ℕ)) → typed_injected T at base o ≡ Fits s → typed_injected U at base o ≡ Fits s
injected_more T U x at base s None h = h
injected_more T U x at base s (Some names) h = both (T names.0) (T names.1) refl refl h
  where
    both : (a b : Option StaticShape) → T names.0 ≡ a → T names.1 ≡ b → typed_injected_of at base (T names.0) (T names.1) ≡ Fits s → typed_injected_of at base (U names.0) (U names.1) ≡ Fits s
    both (Some a) (Some b) d e h = ap (λ y. typed_injected_of at base y (U names.1)) (x names.0 a d) ∙ ap (typed_injected_of at base (Some a)) (x names.1 b e) ∙ sym (ap (λ y. typed_injected_of at base y (T names.1)) d ∙ ap (typed_injected_of at base (Some a)) e) ∙ h
    both None b d e h = absurd (let f : Misfit _ ≡ Fits s = sym (ap (λ y. typed_injected_of at base y (T names.1)) d) ∙ h in cc)
    both (Some a) None d e h = absurd (let f : Misfit _ ≡ Fits s = sym (ap (λ y. typed_injected_of at base y (T names.1)) d ∙ ap (typed_injected_of at base (Some a)) e) ∙ h in cc)

-- the list of pairs of types and values
abbrev pub described_first : StaticShape → (List Relation → Type 0) → List Relation → Type 0
described_first s rest [] = ⊥
described_first s rest (r ∷ rs) = Describes s r × rest rs

abbrev pub AreDescribed : List StaticShape → List Relation → Type 0
AreDescribed [] = λ rs. rs ≡ []
AreDescribed (s ∷ ss) = described_first s (AreDescribed ss)

-- ---- expressions
module _ (CT : TypeCalls) (ds : List Decl) where
  mutual
    shape-more : (T U : Types) → Extends T U → (e : Expr) (s : StaticShape) → shape (around_types CT ds) T e ≡ Fits s → shape (around_types CT ds) U e ≡ Fits s
    shape-more T U x (Ref at name) s h = name_more T U x at name s (T name) refl h
    shape-more T U x (Call' at name sh args) s h = let p = passes _ _ s h in ap (λ y. passing y (λ ts. CT at name ts)) (shapes-more T U x [] args p.through p.first) ∙ p.then
    shape-more T U x (Base' at base sh args) s h = let p = passes _ _ s h in ap (λ y. passing y (λ ts. typed_based at base ts)) (shapes-more T U x [] args p.through p.first) ∙ p.then
    shape-more T U x (Inject at base domain) s h = injected_more T U x at base s (domain_named ds domain) h
    shape-more T U x (Pair' at p left q right) s h =
        let a = passes _ _ s h in
        let b = passes _ _ s a.then in
        ap (λ y. passing y (λ l. passing (shape (around_types CT ds) U right) (λ t. typed_pair at l t))) (shape-more T U x left a.through a.first) ∙ ap (λ y. passing y (λ t. typed_pair at a.through t)) (shape-more T U x right b.through b.first) ∙ b.then
    shape-more T U x (Minus' at p of) s h = shape-more T U x of s h
    shape-more T U x (Turned' at p of times) s h = let a = passes _ _ s h in ap (λ y. passing y (λ t. Fits (type_turned_by times t))) (shape-more T U x of a.through a.first) ∙ a.then
    shape-more T U x (Chain' p first sh rest) s h = let a = passes _ _ s h in ap (λ y. passing y (λ t. shape_along (around_types CT ds) U t rest)) (shape-more T U x first a.through a.first) ∙ shape_along-more T U x a.through rest s a.then

    shapes-more : (T U : Types) → Extends T U → (ss : List StaticShape) {m : _} (k : Row_of-Expr m) (ts : List StaticShape) → shapes (around_types CT ds) T ss k ≡ Fits ts → shapes (around_types CT ds) U ss k ≡ Fits ts
    shapes-more T U x ss end_of-Expr ts h = h
    shapes-more T U x ss (more_of-Expr e rest) ts h = let a = passes _ _ ts h in ap (λ y. passing y (λ s. shapes (around_types CT ds) U (ss ++ s ∷ []) rest)) (shape-more T U x e a.through a.first) ∙ shapes-more T U x (ss ++ a.through ∷ []) rest ts a.then

    shape_along-more : (T U : Types) → Extends T U → (t : StaticShape) {m : _} (k : Row_of-Link m) (s : StaticShape) → shape_along (around_types CT ds) T t k ≡ Fits s → shape_along (around_types CT ds) U t k ≡ Fits s
    shape_along-more T U x t end_of-Link s h = h
    shape_along-more T U x t (more_of-Link at op right rest) s h =
        let a = passes _ _ s h in
        let b = passes _ _ s a.then in
        ap (λ y. passing y (λ u. passing (typed_link at op t u) (λ v. shape_along (around_types CT ds) U v rest))) (shape-more T U x right a.through a.first)
        ∙ ap (λ y. passing y (λ v. shape_along (around_types CT ds) U v rest)) b.first ∙ shape_along-more T U x b.through rest s b.then

-- ---- single operations
pub known_of : (a b : Option ℕ) (m p : ℕ) → IsSize a m → IsSize b p → m ≡ p → IsSize (first_of_both a b) m
known_of None b m p h k e = subst (IsSize b) (sym e) k
known_of (Some x) b m p h k e = h

described_more : (ss : List StaticShape) (rs : List Relation) (s : StaticShape) (r : Relation) → AreDescribed ss rs → Describes s r → AreDescribed (ss ++ s ∷ []) (rs ++ r ∷ [])
described_more [] rs s r h d = subst (λ xs. AreDescribed (s ∷ []) (xs ++ r ∷ [])) (sym h) (d, refl)
described_more (x ∷ xs) [] s r h d = absurd h
described_more (x ∷ xs) (y ∷ ys) s r h d = (h.0, described_more xs ys s r h.1 d)

name-agree : (at : Place) (name : List ℕ) (t : Option StaticShape) (o : Option Relation) (n : ℕ) → CoversAt t o → Agree Describes (typed_name at name t) (with_turns (named at name o) n).answer
name-agree at name None None n h = tt
name-agree at name (Some s) None n h = tt
name-agree at name None (Some r) n h = absurd h
name-agree at name (Some s) (Some r) n h = h

-- a relation of a test has the sizes that were asked for
pub describes_test : (a b : Option ℕ) (m n : ℕ) (t : ℕ → ℕ → Bool) → IsSize a m → IsSize b n → Describes (type_of a b) (relation_of m n t)
describes_test a b m n t h k = record { row_size = subst (IsSize a) (sym (rows-relation_of m n t)) h; col_size = subst (IsSize b) (sym (cols-relation_of m n t)) k }

module _ (t u : StaticShape) (r q : Relation) (h : Describes t r) (k : Describes u q) where
  -- the result of an operator, where the sizes of its operands passed
  result_described : (op : Op2) → takes op (sizes r) (sizes q) ≡ true → Describes (type_of_link op t u) (result_of_both op r q)
  unfolding union inter compose right_residual left_residual
  result_described Or e = let same = both_fit r.rows r.cols q.rows q.cols e in describes_test _ _ r.rows r.cols _ (known_of t.rows u.rows r.rows q.rows h.row_size k.row_size same.0) (known_of t.cols u.cols r.cols q.cols h.col_size k.col_size same.1)
  result_described And e = let same = both_fit r.rows r.cols q.rows q.cols e in describes_test _ _ r.rows r.cols _ (known_of t.rows u.rows r.rows q.rows h.row_size k.row_size same.0) (known_of t.cols u.cols r.cols q.cols h.col_size k.col_size same.1)
  result_described Times e = describes_test _ _ r.rows q.cols _ h.row_size k.col_size
  result_described Under e = describes_test _ _ r.cols q.cols _ h.col_size k.col_size
  result_described Over e = describes_test _ _ r.rows q.rows _ h.row_size k.row_size

  linked-agree : (at : Place) (op : Op2) (n : ℕ) → Agree Describes (typed_link at op t u) (with_turns (linked at op r q) n).answer
  unfolding linked
  linked-agree at op n = cases (takes op t u) (takes op (sizes r) (sizes q)) refl
    where
      cases : (b c : Bool) → takes op (sizes r) (sizes q) ≡ c →
          Agree Describes (cond b (Fits (type_of_link op t u)) (Misfit (Mismatch at (spelling op) t u)))
          (with_turns (fitting (cond c (Fits (type_of_link op (sizes r) (sizes q))) (Misfit (Mismatch at (spelling op) (sizes r) (sizes q)))) (Makes (result_of_both op r q) (link_cost op r q))) n).answer
      cases false c e = tt
      cases true false e = tt
      cases true true e = result_described op e

complement-agree : (s : StaticShape) (r : Relation) (n : ℕ) → Describes s r → Agree Describes (Fits s) (with_turns (complemented r) n).answer
unfolding complemented complement
complement-agree s r n h = describes_test s.rows s.cols r.rows r.cols _ h.row_size h.col_size

turn_described : (t : StaticShape) (q : Relation) → Describes t q → Describes (type_turned t) (transpose q)
unfolding transpose
turn_described t q k = describes_test t.cols t.rows q.cols q.rows _ k.col_size k.row_size

turned_described : (n : ℕ) (s : StaticShape) (r : Relation) → Describes s r → Describes (type_turned_by n s) (transposed_by n r)
turned_described zero s r h = h
turned_described (suc n) s r h = turn_described (type_turned_by n s) (transposed_by n r) (turned_described n s r h)

turned-agree : (times : ℕ) (s : StaticShape) (r : Relation) (n : ℕ) → Describes s r → Agree Describes (Fits (type_turned_by times s)) (with_turns (turned times r) n).answer
unfolding turned
turned-agree times s r n h = turned_described times s r h

minus : (x : Typed) (a : Answer Relation) → Agree Describes x a → Agree Describes x (following a (λ r m. with_turns (complemented r) m)).answer
minus (Fits s) (Got r n) h = complement-agree s r n h
minus (Fits s) (Not why) h = tt
minus (Misfit f) a h = tt

text_self : (xs : List ℕ) → same_text xs xs ≡ true
text_self [] = refl
text_self (x ∷ xs) = ap (λ b. b && same_text xs xs) (equal_passes x x refl) ∙ text_self xs

-- ---- statements
-- a state that came is covered
abbrev pub CoveredBy : Types → Answer State → Type 0
CoveredBy U (Got S n) = Covers U S
CoveredBy U (Not why) = Unit {0}

pub extends_self : (T : Types) → Extends T T
extends_self T name s e = e

extends_trans : (T U V : Types) → Extends T U → Extends U V → Extends T V
extends_trans T U V x y name s e = y name s (x name s e)

pub fits_same : {A : Type 0} {x y : A} → Fits x ≡ Fits y → x ≡ y
fits_same e = cc

-- an assignment only adds types: a name without one gets that of the value, and a name that has one keeps it
set-grows : (at : Place) (name : List ℕ) (s : StaticShape) (T T1 : Types) (o : Option StaticShape) → T name ≡ o → set_type at name s T o ≡ Fits T1 → Extends T T1
unfolding typed_as
set-grows at name s T T1 None e h = subst (Extends T) (fits_same h) (λ n t g. at_name n t g (same_text name n) refl)
  where
    at_name : (n : List ℕ) (t : StaticShape) → T n ≡ Some t → (b : Bool) → same_text name n ≡ b → cond b (Some s) (T n) ≡ Some t
    at_name n t g true f = absurd (let z : None ≡ Some t = sym e ∙ ap T (text_of_test name n (sym f)) ∙ g in cc)
    at_name n t g false f = g
set-grows at name s T T1 (Some t) e h = kept (keeps_size t.rows s.rows && keeps_size t.cols s.cols) h
  where
    kept : (b : Bool) → cond b (Fits T) (Misfit (Mismatch at (codes "=") t s)) ≡ Fits T1 → Extends T T1
    kept true g = subst (Extends T) (fits_same g) (extends_self T)
    kept false g = absurd (let z : Misfit (Mismatch at (codes "=") t s) ≡ Fits T1 = g in cc)

module _ (CT : TypeCalls) (ds : List Decl) where
  mutual
    grows : (s : Stmt) (T T1 : Types) → typed_behind (around_types CT ds) s T ≡ Fits T1 → Extends T T1
    grows (Set at name value) T T1 h = let p = passes (shape (around_types CT ds) T value) (λ s. set_type at name s T (T name)) T1 h in set-grows at name p.through T T1 (T name) refl p.then
    grows (While' at test sh body) T T1 h = let p = passes (shape_test (around_types CT ds) at test T) _ T1 h in within-grows body T T1 p.then
    grows (If' at test sh first th second) T T1 h =
        let p = passes (shape_test (around_types CT ds) at test T) _ T1 h in
        let q = passes (typed_within (around_types CT ds) first T) _ T1 p.then in
        extends_trans T q.through T1 (within-grows first T q.through q.first) (within-grows second q.through T1 q.then)

    within-grows : {m : _} (k : Row_of-Stmt m) (T T1 : Types) → typed_within (around_types CT ds) k T ≡ Fits T1 → Extends T T1
    within-grows end_of-Stmt T T1 h = subst (Extends T) (fits_same h) (extends_self T)
    within-grows (more_of-Stmt s rest) T T1 h = let p = passes (typed_behind (around_types CT ds) s T) _ T1 h in extends_trans T p.through T1 (grows s T p.through p.first) (within-grows rest p.through T1 p.then)

  pub by-grows : (ss : List Stmt) (T T1 : Types) → typed_by (around_types CT ds) ss T ≡ Fits T1 → Extends T T1
  by-grows [] T T1 h = subst (Extends T) (fits_same h) (extends_self T)
  by-grows (s ∷ ss) T T1 h = let p = passes (typed_behind (around_types CT ds) s T) _ T1 h in extends_trans T p.through T1 (grows s T p.through p.first) (by-grows ss p.through T1 p.then)

next-kept : (U : Types) (a : Answer State) (next : State → ℕ → Came State) → CoveredBy U a → ((V : State) (m : ℕ) → Covers U V → CoveredBy U (next V m).answer) → CoveredBy U (following a next).answer
next-kept U (Got S n) next h k = k S n h
next-kept U (Not why) next h k = tt

branch-kept : (U : Types) (a : Answer Bool) (first second : ℕ → Came State) → ((m : ℕ) → CoveredBy U (first m).answer) → ((m : ℕ) → CoveredBy U (second m).answer) → CoveredBy U (following a (λ b m. cond b (first m) (second m))).answer
branch-kept U (Got true n) first second h k = h n
branch-kept U (Got false n) first second h k = k n
branch-kept U (Not why) first second h k = tt

turn-kept : (U : Types) (at : Place) (body next : State → ℕ → Came State) → ((V : State) (m : ℕ) → Covers U V → CoveredBy U (body V m).answer) → ((V : State) (m : ℕ) → Covers U V → CoveredBy U (next V m).answer) → (S : State) (n : ℕ) → Covers U S → CoveredBy U (one_turn at body next S n).answer
turn-kept U at body next h k S zero c = tt
turn-kept U at body next h k S (suc n) c = next-kept U (body S n).answer next (h S n c) k

-- a loop keeps what its body keeps, by induction on its rounds
loop-kept : (U : Types) (at : Place) (test : State → ℕ → Came Bool) (body : State → ℕ → Came State) → ((V : State) (m : ℕ) → Covers U V → CoveredBy U (body V m).answer) → (k : ℕ) (S : State) (n : ℕ) → Covers U S → CoveredBy U (rounds at test body k S n).answer
loop-kept U at test body h zero S n c = tt
loop-kept U at test body h (suc k) S n c = branch-kept U (test S n).answer (λ m. one_turn at body (rounds at test body k) S m) (λ m. got S m) (λ m. turn-kept U at body (rounds at test body k) h (λ V j d. loop-kept U at test body h k V j d) S m c) (λ m. c)

keeps-described : (a b : Option ℕ) (m : ℕ) → keeps_size a b ≡ true → IsSize b m → IsSize a m
keeps-described None b m k h = tt
keeps-described (Some x) None m k h = absurd (let z : false ≡ true = k in cc)
keeps-described (Some x) (Some y) m k h = one_fits x y k ∙ h

covers-assigned : (U : Types) (S : State) (name : List ℕ) (s : StaticShape) (r : Relation) → Covers U S → U name ≡ Some s → Describes s r → Covers U (assigned name r S)
unfolding assigned
covers-assigned U S name s r c e d n = at (same_text name n) refl
  where
    at : (b : Bool) → same_text name n ≡ b → CoversAt (U n) (cond b (Some r) (S n))
    at true f = subst (λ t. CoversAt t (Some r)) (sym (ap U (sym (text_of_test name n (sym f))) ∙ e)) d
    at false f = c n

-- an assignment keeps the state covered by the types behind all statements: the value is described by the name's type
-- there, be it the one set here or an earlier one that it fits
set-kept : (U : Types) (at : Place) (name : List ℕ) (s : StaticShape) (T T1 : Types) (o : Option StaticShape) → T name ≡ o → set_type at name s T o ≡ Fits T1 → Extends T U → Extends T1 U → (S : State) → Covers U S → (a : Answer Relation) → Agree Describes (Fits s) a →
    CoveredBy U (following a (λ r m. got (assigned name r S) m)).answer
unfolding typed_as
set-kept U at name s T T1 o e h x y S c (Not why) d = tt
set-kept U at name s T T1 None e h x y S c (Got r n) d =
    let own : typed_as name s T name ≡ Some s = ap (λ b. cond b (Some s) (T name)) (text_self name) in
    covers-assigned U S name s r c (y name s (ap (λ F. F name) (sym (fits_same h)) ∙ own)) d
set-kept U at name s T T1 (Some t) e h x y S c (Got r n) d = kept (keeps_size t.rows s.rows) (keeps_size t.cols s.cols) refl refl h
  where
    kept : (a b : Bool) → keeps_size t.rows s.rows ≡ a → keeps_size t.cols s.cols ≡ b → cond (a && b) (Fits T) (Misfit (Mismatch at (codes "=") t s)) ≡ Fits T1 → Covers U (assigned name r S)
    kept true true p q g = covers-assigned U S name t r c (x name t e) (record { row_size = keeps-described t.rows s.rows r.rows p d.row_size; col_size = keeps-described t.cols s.cols r.cols q d.col_size })
    kept true false p q g = absurd (let z : Misfit (Mismatch at (codes "=") t s) ≡ Fits T1 = g in cc)
    kept false b p q g = absurd (let z : Misfit (Mismatch at (codes "=") t s) ≡ Fits T1 = g in cc)

-- ---- expressions, where base calls, domain operators and pairings agree
module _ (CT : TypeCalls) (C : Calls) (ds : List Decl)
    (calls-agree : (at : Place) (name : List ℕ) (ss : List StaticShape) (rs : List Relation) (n : ℕ) → AreDescribed ss rs → Agree Describes (CT at name ss) (C at name rs n).answer)
    (based-agree : (at : Place) (base : Base) (ss : List StaticShape) (rs : List Relation) (n : ℕ) → AreDescribed ss rs → Agree Describes (typed_based at base ss) (with_turns (based at base rs) n).answer)
    (injected-agree : (T : Types) (S : State) → Covers T S → (at : Place) (base : Base) (o : Option (List ℕ × List ℕ)) (n : ℕ) → Agree Describes (typed_injected T at base o) (with_turns (injected_by S at base o) n).answer)
    (paired-agree : (at : Place) (t u : StaticShape) (r q : Relation) (n : ℕ) → Describes t r → Describes u q → Agree Describes (typed_pair at t u) (with_turns (paired at r q) n).answer) where
  mutual
    pub mean-agree : (T : Types) (S : State) → Covers T S → (e : Expr) (n : ℕ) → Agree Describes (shape (around_types CT ds) T e) (mean (around_with C ds) S e n).answer
    mean-agree T S c (Ref at name) n = name-agree at name (T name) (S name) n (c name)
    mean-agree T S c (Call' at name sh args) n = then_agree AreDescribed Describes _ _ _ _ (means-agree T S c [] [] refl args n) (λ ss rs m h. calls-agree at name ss rs m h)
    mean-agree T S c (Base' at base sh args) n = then_agree AreDescribed Describes _ _ _ _ (means-agree T S c [] [] refl args n) (λ ss rs m h. based-agree at base ss rs m h)
    mean-agree T S c (Inject at base domain) n = injected-agree T S c at base (domain_named ds domain) n
    mean-agree T S c (Pair' at p left q right) n =
        then_agree Describes Describes _ _ _ _ (mean-agree T S c left n) (λ t r m h. then_agree Describes Describes _ _ _ _ (mean-agree T S c right m) (λ u y k d. paired-agree at t u r y k h d))
    mean-agree T S c (Minus' at p of) n = minus (shape (around_types CT ds) T of) (mean (around_with C ds) S of n).answer (mean-agree T S c of n)
    mean-agree T S c (Turned' at p of times) n = then_agree Describes Describes _ _ _ _ (mean-agree T S c of n) (λ s r m h. turned-agree times s r m h)
    mean-agree T S c (Chain' p first sh rest) n = then_agree Describes Describes _ _ _ _ (mean-agree T S c first n) (λ s r m h. along-agree T S c s r h rest m)

    means-agree : (T : Types) (S : State) → Covers T S → (ss : List StaticShape) (rs : List Relation) → AreDescribed ss rs → {m : _} (k : Row_of-Expr m) (n : ℕ) → Agree AreDescribed (shapes (around_types CT ds) T ss k) (means (around_with C ds) S rs k n).answer
    means-agree T S c ss rs h end_of-Expr n = h
    means-agree T S c ss rs h (more_of-Expr e rest) n = then_agree Describes AreDescribed _ _ _ _ (mean-agree T S c e n) (λ s r m d. means-agree T S c (ss ++ s ∷ []) (rs ++ r ∷ []) (described_more ss rs s r h d) rest m)

    along-agree : (T : Types) (S : State) → Covers T S → (s : StaticShape) (r : Relation) → Describes s r → {m : _} (k : Row_of-Link m) (n : ℕ) → Agree Describes (shape_along (around_types CT ds) T s k) (mean_along (around_with C ds) S r k n).answer
    along-agree T S c s r h end_of-Link n = h
    along-agree T S c s r h (more_of-Link at op right rest) n =
        then_agree Describes Describes _ _ _ _ (mean-agree T S c right n) (λ u q m d. then_agree Describes Describes _ _ _ _ (linked-agree s u r q h d at op m) (λ v w j e. along-agree T S c v w e rest j))

  -- ---- statements
  mutual
    -- inside of statements, whose last types are U, each statement keeps the state covered by U
    run-kept : (U : Types) (s : Stmt) (T T1 : Types) → typed_behind (around_types CT ds) s T ≡ Fits T1 → Extends T U → Extends T1 U → (S : State) → Covers U S → (n : ℕ) → CoveredBy U (run (around_with C ds) s S n).answer
    run-kept U (Set at name value) T T1 h x y S c n =
        let p = passes (shape (around_types CT ds) T value) (λ t. set_type at name t T (T name)) T1 h in
        set-kept U at name p.through T T1 (T name) refl p.then x y S c (mean (around_with C ds) S value n).answer
        (subst (λ t. Agree Describes t (mean (around_with C ds) S value n).answer) (shape-more CT ds T U x value p.through p.first) (mean-agree U S c value n))
    run-kept U (While' at test sh body) T T1 h x y S c n =
        let p = passes (shape_test (around_types CT ds) at test T) _ T1 h in
        loop-kept U at (mean_test (around_with C ds) at test) (run_within (around_with C ds) body) (λ V k d. within-kept U body T T1 p.then x y V d k) (suc n) S n c
    run-kept U (If' at test sh first th second) T T1 h x y S c n =
        let p = passes (shape_test (around_types CT ds) at test T) _ T1 h in
        let q = passes (typed_within (around_types CT ds) first T) _ T1 p.then in
        let mid = extends_trans q.through T1 U (within-grows CT ds second q.through T1 q.then) y in
        branch-kept U (mean_test (around_with C ds) at test S n).answer _ _ (λ m. within-kept U first T q.through q.first x mid S c m) (λ m. within-kept U second q.through T1 q.then mid y S c m)

    within-kept : (U : Types) {m : _} (k : Row_of-Stmt m) (T T1 : Types) → typed_within (around_types CT ds) k T ≡ Fits T1 → Extends T U → Extends T1 U → (S : State) → Covers U S → (n : ℕ) → CoveredBy U (run_within (around_with C ds) k S n).answer
    within-kept U end_of-Stmt T T1 h x y S c n = c
    within-kept U (more_of-Stmt s rest) T T1 h x y S c n =
        let p = passes (typed_behind (around_types CT ds) s T) _ T1 h in
        let mid = extends_trans p.through T1 U (within-grows CT ds rest p.through T1 p.then) y in
        next-kept U (run (around_with C ds) s S n).answer _ (run-kept U s T p.through p.first x mid S c n) (λ V m d. within-kept U rest p.through T1 p.then mid y V d m)

  pub by-kept : (U : Types) (ss : List Stmt) (T T1 : Types) → typed_by (around_types CT ds) ss T ≡ Fits T1 → Extends T U → Extends T1 U → (S : State) → Covers U S → (n : ℕ) → CoveredBy U (run_by (around_with C ds) ss S n).answer
  by-kept U [] T T1 h x y S c n = c
  by-kept U (s ∷ ss) T T1 h x y S c n =
      let p = passes (typed_behind (around_types CT ds) s T) _ T1 h in
      let mid = extends_trans p.through T1 U (by-grows CT ds ss p.through T1 p.then) y in
      next-kept U (run (around_with C ds) s S n).answer _ (run-kept U s T p.through p.first x mid S c n) (λ V m d. by-kept U ss p.through T1 p.then mid y V d m)
