-- The meaning is Ill only at a node that tests a static size that is unknown.
-- 1. Sizes that are known are those of values, so a test of known sizes that passed passes again (`same_sizes`).
-- 2. A single operation whose static test passed is refused by sizes only where one of them was unknown.
-- 3. So is an expression: by induction on it, with the description of its value (`mean-sure`).
-- 4. Statements keep the state described by the last types: by induction on the statement, and in a loop on its rounds.
-- 5. So do calls, by induction on how deep they may stand in one another.
use Rattle.std.proofs.Common.{◌≡◌, ◌∙◌, ◌==◌, ◌&&◌, ◌||◌, ◌+◌, ◌*◌, ◌^◌, ◌-◌, ◌⊎◌, min, max, ℕ, zero, suc, Bool, true, false, cond, List, [], ◌∷◌, codes, Option, Some, None, is_some, nat_lt, refl, sym, subst, inl, inr, ⊎_elim}
use Rattle.lang_model.specs.declared.syntax.Place.{Place}
use Rattle.lang_model.specs.declared.syntax.Base.{Base}
use Rattle.lang_model.specs.declared.syntax.Base.TheVariants.{L, O, I, Ln1, On1, L1n, O1n, Dom, Ran, Trans, Refl, Epsi, Point, Atom, Init, Next, Inj, Empty, Unival}
use Rattle.lang_model.specs.declared.syntax.Base.TheVariants.{Less, Hasse, Quot, Syq, Eq, Incl, Ubd, Lbd, Least, Greatest, Sup, Inf, P1, P2, I1, I2}
use Rattle.lang_model.specs.declared.syntax.Op2.{Op2}
use Rattle.lang_model.specs.declared.syntax.Op2.TheVariants.{Or, And, Times, Under, Over}
use Rattle.lang_model.specs.declared.faults.TypeFault.{TypeFault}
use Rattle.lang_model.specs.declared.faults.TypeFault.TheVariants.{Mismatch, NotSquare, NotVector, NotTest}
use Rattle.lang_model.specs.declared.faults.StaticShape.{StaticShape}
use Rattle.rel_model.specs.Relation.{Relation, has, size_limit}
use Rattle.rel_model.specs.Operators.{union, inter, complement, transpose, transposed_by, compose, right_residual, left_residual}
use Rattle.rel_model.specs.Domains.{pairing, first_projection, second_projection, left_injection, right_injection}
use Rattle.lang_model.specs.Rooms.{wide_cost, link_cost}
use Rattle.lang_model.specs.State.{State}
use Rattle.lang_model.specs.Missing.{first_of_both}
use Rattle.lang_model.specs.Outcomes.{Refusal, Ill, Size, Turns, Answer, Got, Not, Came, following, Operation, Makes, Refuses, with_turns}
use Rattle.lang_model.specs.BaseNames.{base_text}
use Rattle.lang_model.specs.Types.{Passed, Fits, Misfit, Typed, sizes, type_of, agree, may_be, takes, type_of_link, type_turned, type_turned_by, spelling, side, square, bounding, vector, typed_link, typed_pair, typed_base, typed_base_of_two, typed_test}
use Rattle.lang_model.specs.Mean.{fitting, limited, result_of_both, named, base_made, base_wants, base_made_of_two, based, linked, complemented, turned, paired, domain_made, injected_of, injected_by, where_fitting, tested}
use Rattle.lang_model.specs.Shape.{Types, passing, typed_name, typed_based, typed_injected_of, typed_injected}
use Rattle.lang_model.specs.Sound.{IsSize, Describes, Agree, CoversAt, Covers}
use Rattle.lang_model.proofs.Sizes.{both_fit, one_fits, equal_passes}
use Rattle.lang_model.proofs.Sounding.{AreDescribed, known_of, describes_test}
use Rattle.lang_model.proofs.Bases.{based-agree, paired-agree, injected-agree}
use Rattle.rv_eval.specs.Unknown.{all_known, KnownOr, tested_by_link, tested_by_base, tested_by_base_of_two, tested_by_bases, OfPassed}

-- ---- answers
-- the place of a misfit has the property; of other faults nothing is said
abbrev pub AtFault : (Place → Bool) → TypeFault → Type 0
AtFault p (Mismatch at op left right) = p at ≡ true
AtFault p (NotSquare at op shape) = p at ≡ true
AtFault p (NotVector at op shape) = p at ≡ true
AtFault p (NotTest at shape) = p at ≡ true
AtFault p _ = Unit {0}

abbrev pub AtRefusal : (Place → Bool) → Refusal → Type 0
AtRefusal p (Ill fault) = AtFault p fault
AtRefusal p (Size at wanted) = Unit {0}
AtRefusal p (Turns at) = Unit {0}

-- a value is described, or a misfit is where the property holds
abbrev pub Sure : (Place → Bool) → {A B : Type 0} → (A → B → Type 0) → A → Answer B → Type 0
Sure p D s (Got r n) = D s r
Sure p D s (Not why) = AtRefusal p why

-- a misfit is where the property holds
abbrev pub Tells : (Place → Bool) → {B : Type 0} → Answer B → Type 0
Tells p (Got r n) = Unit {0}
Tells p (Not why) = AtRefusal p why

pub fits_same : {A : Type 0} {x y : A} → Fits x ≡ Fits y → x ≡ y
fits_same e = cc

pub misfit_fits : {A : Type 0} {f : TypeFault} {y : A} → Misfit f ≡ Fits y → ⊥
misfit_fits e = cc

-- what passes two tests
pub record Passes {A B : Type 0} (x : Passed A) (f : A → Passed B) (y : B) : Type 0 where
  pub through : A
  pub first : x ≡ Fits through
  pub then : f through ≡ Fits y

pub passes : {A B : Type 0} (x : Passed A) (f : A → Passed B) (y : B) → passing x f ≡ Fits y → Passes x f y
passes (Fits s) f y e = record { through = s; first = refl; then = e }
passes (Misfit w) f y e = absurd (misfit_fits e)

pub of_fits : {A : Type 0} (x : Passed A) (Q : A → Type 0) (s : A) → x ≡ Fits s → OfPassed x Q → Q s
of_fits x Q s e h = subst (λ y. OfPassed y Q) e h

module _ (p : Place → Bool) where
  pub sure_of : (c : StaticShape) (a : Answer Relation) (x : Typed) → x ≡ Fits c → Agree Describes x a → Tells p a → Sure p Describes c a
  sure_of c (Got r n) x e h t = subst (λ y. Agree Describes y (Got r n)) e h
  sure_of c (Not why) x e h t = t

  pub after : {A B C E : Type 0} (D : A → B → Type 0) (Q : C → E → Type 0) (s : A) (c : C) (a : Answer B) (g : B → ℕ → Came E) → Sure p D s a → ((r : B) (n : ℕ) → D s r → Sure p Q c (g r n).answer) → Sure p Q c (following a g).answer
  after D Q s c (Got r n) g h k = k r n h
  after D Q s c (Not why) g h k = h

  -- ---- tests
  same_sizes : (a b : Option ℕ) (m n : ℕ) → IsSize a m → IsSize b n → agree a b ≡ true → is_some a ≡ true → is_some b ≡ true → (m == n) ≡ true
  same_sizes None b m n h k t x y = absurd (let e : false ≡ true = x in cc)
  same_sizes (Some x) None m n h k t u y = absurd (let e : false ≡ true = y in cc)
  same_sizes (Some x) (Some y) m n h k t u v = equal_passes m n (sym h ∙ one_fits x y t ∙ k)

  and_left : (a b : Bool) → (a && b) ≡ true → a ≡ true
  and_left true b h = refl
  and_left false b h = h

  and_right : (a b : Bool) → (a && b) ≡ true → b ≡ true
  and_right true b h = h
  and_right false b h = absurd (let e : false ≡ true = h in cc)

  both : (a b : Bool) → a ≡ true → b ≡ true → (a && b) ≡ true
  both true b h k = k
  both false b h k = h

  decided : (at : Place) (ns : List (Option ℕ)) → KnownOr p at ns → (all_known ns ≡ true) ⊎ (p at ≡ true)
  decided at ns h = by (all_known ns) h
    where
      by : (b : Bool) → (b || p at) ≡ true → (b ≡ true) ⊎ (p at ≡ true)
      by true h = inl refl
      by false h = inr h

  -- two sizes
  test_of_two : (at : Place) (a b : Option ℕ) (m n : ℕ) → IsSize a m → IsSize b n → agree a b ≡ true → KnownOr p at (a ∷ b ∷ []) → ((m == n) ≡ true) ⊎ (p at ≡ true)
  test_of_two at a b m n h k t u = ⊎_elim (λ e. inl (same_sizes a b m n h k t (and_left _ _ e) (and_left _ _ (and_right (is_some a) _ e)))) (λ e. inr e) (decided at (a ∷ b ∷ []) u)

  -- two pairs of sizes
  test_of_four : (at : Place) (s t : StaticShape) (r q : Relation) → Describes s r → Describes t q → (agree s.rows t.rows && agree s.cols t.cols) ≡ true → KnownOr p at (s.rows ∷ t.rows ∷ s.cols ∷ t.cols ∷ []) →
      (((r.rows == q.rows) && (r.cols == q.cols)) ≡ true) ⊎ (p at ≡ true)
  test_of_four at s t r q h k e u =
      ⊎_elim
      (λ w.
      let w1 = and_right (is_some s.rows) _ w in
      let w2 = and_right (is_some t.rows) _ w1 in
      let w3 = and_right (is_some s.cols) _ w2 in
      inl (both _ _ (same_sizes s.rows t.rows r.rows q.rows h.row_size k.row_size (and_left _ _ e) (and_left _ _ w) (and_left _ _ w1)) (same_sizes s.cols t.cols r.cols q.cols h.col_size k.col_size (and_right (agree s.rows t.rows) _ e) (and_left _ _ w2) (and_left _ _ w3))))
      (λ w. inr w) (decided at (s.rows ∷ t.rows ∷ s.cols ∷ t.cols ∷ []) u)

  -- one size
  test_of_one : (at : Place) (a : Option ℕ) (m : ℕ) → IsSize a m → may_be 1 a ≡ true → KnownOr p at (a ∷ []) → (may_be 1 (Some m) ≡ true) ⊎ (p at ≡ true)
  test_of_one at a m h t u = ⊎_elim (λ e. inl (by a h t (and_left _ _ e))) (λ e. inr e) (decided at (a ∷ []) u)
    where
      by : (a : Option ℕ) → IsSize a m → may_be 1 a ≡ true → is_some a ≡ true → may_be 1 (Some m) ≡ true
      by None h t e = absurd (let z : false ≡ true = e in cc)
      by (Some x) h t e = subst (λ y. may_be 1 (Some y) ≡ true) h t

  -- a static test that passed
  passed_test : {A : Type 0} (b : Bool) (x : A) (f : TypeFault) (c : A) → cond b (Fits x) (Misfit f) ≡ Fits c → b ≡ true
  passed_test true x f c h = refl
  passed_test false x f c h = absurd (misfit_fits h)

  -- the same test of the sizes of values
  tells_fitting : (b : Bool) (f : StaticShape) (fault : TypeFault) (o : Operation) (n : ℕ) → (b ≡ true) ⊎ AtFault p fault → Tells p (with_turns o n).answer → Tells p (with_turns (fitting (cond b (Fits f) (Misfit fault)) o) n).answer
  tells_fitting true f fault o n h k = k
  tells_fitting false f fault o n h k = ⊎_elim (λ e. absurd (let z : false ≡ true = e in cc)) (λ e. e) h

  -- the same of two tests, one after the other
  tells_both : (b d : Bool) (f : StaticShape) (fault first : TypeFault) (o : Operation) (n : ℕ) → (b ≡ true) ⊎ AtFault p first → (b ≡ true → (d ≡ true) ⊎ AtFault p fault)
      → Tells p (with_turns o n).answer → Tells p (with_turns (fitting (cond b (cond d (Fits f) (Misfit fault)) (Misfit first)) o) n).answer
  tells_both true true f fault first o n h k t = t
  tells_both true false f fault first o n h k t = ⊎_elim (λ e. absurd (let z : false ≡ true = e in cc)) (λ e. e) (k refl)
  tells_both false d f fault first o n h k t = ⊎_elim (λ e. absurd (let z : false ≡ true = e in cc)) (λ e. e) h

  passed_both : {A : Type 0} (b d : Bool) (x : A) (f g : TypeFault) (c : A) → cond b (cond d (Fits x) (Misfit f)) (Misfit g) ≡ Fits c → (b ≡ true) × (d ≡ true)
  passed_both true true x f g c h = (refl, refl)
  passed_both true false x f g c h = absurd (misfit_fits h)
  passed_both false d x f g c h = absurd (misfit_fits h)

  known_front : (at : Place) (a b c : Option ℕ) → KnownOr p at (a ∷ b ∷ c ∷ []) → KnownOr p at (a ∷ b ∷ [])
  known_front at (Some x) (Some y) c h = refl
  known_front at (Some x) None c h = h
  known_front at None b c h = h

  known_side : (at : Place) (a b c : Option ℕ) → KnownOr p at (a ∷ b ∷ c ∷ []) → KnownOr p at (first_of_both a b ∷ c ∷ [])
  known_side at (Some x) (Some y) c h = h
  known_side at (Some x) None (Some z) h = refl
  known_side at (Some x) None None h = h
  known_side at None (Some y) (Some z) h = refl
  known_side at None (Some y) None h = h
  known_side at None None c h = h

  -- what is known of an operation is known of it under the limit, which only adds a refusal for size
  tells_limited : (at : Place) (wanted : ℕ) (o : Operation) (n : ℕ) → Tells p (with_turns o n).answer → Tells p (with_turns (limited at wanted o) n).answer
  tells_limited at wanted o n h = by (nat_lt size_limit wanted)
    where
      by : (b : Bool) → Tells p (with_turns (cond b (Refuses (Size at (min wanted (2 ^ 64 - 1)))) o) n).answer
      by true = tt
      by false = h

  -- what a base call makes, where its operand fits
  abbrev made : Place → Base → Relation → Operation
  made at base r = limited at (base_wants base r) (base_made base r)

  -- ---- single operations
  module _ (at : Place) (s : StaticShape) (r : Relation) (h : Describes s r) (n : ℕ) (c : StaticShape) where
    square-tells : (base : Base) (o : Operation) → square at base s ≡ Fits c → KnownOr p at (s.rows ∷ s.cols ∷ []) → Tells p (with_turns o n).answer → Tells p (with_turns (fitting (square at base (sizes r)) o) n).answer
    square-tells base o e k =
        tells_fitting (r.rows == r.cols) (type_of (Some r.rows) (Some r.rows)) (NotSquare at (base_text base) (sizes r)) o n (test_of_two at s.rows s.cols r.rows r.cols h.row_size h.col_size (passed_test (agree s.rows s.cols) (type_of (first_of_both s.rows s.cols) (first_of_both s.rows s.cols)) (NotSquare at (base_text base) s) c e) k)

    vector-tells : (base : Base) (t u : StaticShape) (o : Operation) → vector at base s t ≡ Fits c → KnownOr p at (s.cols ∷ []) → Tells p (with_turns o n).answer → Tells p (with_turns (fitting (vector at base (sizes r) u) o) n).answer
    vector-tells base t u o e k =
        tells_fitting (may_be 1 (Some r.cols)) u (NotVector at (base_text base) (sizes r)) o n (test_of_one at s.cols r.cols h.col_size (passed_test (may_be 1 s.cols) t (NotVector at (base_text base) s) c e) k)

    base-tells : (base : Base) → typed_base at base s ≡ Fits c → KnownOr p at (tested_by_base base s) → Tells p (with_turns (fitting (typed_base at base (sizes r)) (limited at (base_wants base r) (base_made base r))) n).answer
    base-tells L e k = tt
    base-tells O e k = tt
    base-tells I e k = square-tells I (made at I r) e k (tells_limited at (base_wants I r) (base_made I r) n tt)
    base-tells Ln1 e k = tt
    base-tells On1 e k = tt
    base-tells L1n e k = tt
    base-tells O1n e k = tt
    base-tells Dom e k = tt
    base-tells Ran e k = tt
    base-tells Trans e k = square-tells Trans (made at Trans r) e k (tells_limited at (base_wants Trans r) (base_made Trans r) n tt)
    base-tells Refl e k = square-tells Refl (made at Refl r) e k (tells_limited at (base_wants Refl r) (base_made Refl r) n tt)
    base-tells Epsi e k = vector-tells Epsi _ _ (made at Epsi r) e k (tells_limited at (base_wants Epsi r) (base_made Epsi r) n tt)
    base-tells Point e k = vector-tells Point _ _ (made at Point r) e k (tells_limited at (base_wants Point r) (base_made Point r) n tt)
    base-tells Atom e k = tt
    base-tells Init e k = vector-tells Init _ _ (made at Init r) e k (tells_limited at (base_wants Init r) (base_made Init r) n tt)
    base-tells Next e k = vector-tells Next _ _ (made at Next r) e k (tells_limited at (base_wants Next r) (base_made Next r) n tt)
    base-tells Inj e k = vector-tells Inj _ _ (made at Inj r) e k (tells_limited at (base_wants Inj r) (base_made Inj r) n tt)
    base-tells Empty e k = tt
    base-tells Unival e k = tt
    base-tells Less e k = square-tells Less (made at Less r) e k (tells_limited at (base_wants Less r) (base_made Less r) n tt)
    base-tells Hasse e k = square-tells Hasse (made at Hasse r) e k (tells_limited at (base_wants Hasse r) (base_made Hasse r) n tt)
    base-tells Quot e k =
        tells_fitting (r.rows == r.cols) (type_of (Some r.rows) None) (NotSquare at (base_text Quot) (sizes r)) (made at Quot r) n
        (test_of_two at s.rows s.cols r.rows r.cols h.row_size h.col_size (passed_test (agree s.rows s.cols) (type_of (side s) None) (NotSquare at (base_text Quot) s) c e) k)
        (tells_limited at (base_wants Quot r) (base_made Quot r) n tt)
    base-tells Syq e k = tt
    base-tells Eq e k = tt
    base-tells Incl e k = tt
    base-tells Ubd e k = tt
    base-tells Lbd e k = tt
    base-tells Least e k = tt
    base-tells Greatest e k = tt
    base-tells Sup e k = tt
    base-tells Inf e k = tt
    base-tells P1 e k = tt
    base-tells P2 e k = tt
    base-tells I1 e k = tt
    base-tells I2 e k = tt

  module _ (at : Place) (s t : StaticShape) (r q : Relation) (h : Describes s r) (k : Describes t q) (n : ℕ) (c : StaticShape) where
    bounds-tells : (base : Base) (o : Operation) → bounding at base s t ≡ Fits c → KnownOr p at (s.rows ∷ s.cols ∷ t.rows ∷ []) → Tells p (with_turns o n).answer → Tells p (with_turns (fitting (bounding at base (sizes r) (sizes q)) o) n).answer
    bounds-tells base o e u =
        let passed = passed_both (agree s.rows s.cols) (agree (side s) t.rows) _ _ _ c e in
        tells_both (r.rows == r.cols) (r.rows == q.rows) _ (Mismatch at (base_text base) (sizes r) (sizes q)) (NotSquare at (base_text base) (sizes r)) o n
        (test_of_two at s.rows s.cols r.rows r.cols h.row_size h.col_size passed.0 (known_front at s.rows s.cols t.rows u))
        (λ same. test_of_two at (side s) t.rows r.rows q.rows (known_of s.rows s.cols r.rows r.cols h.row_size h.col_size (one_fits r.rows r.cols same)) k.row_size passed.1 (known_side at s.rows s.cols t.rows u))

    base-tells-of_two : (base : Base) → typed_base_of_two at base s t ≡ Fits c → KnownOr p at (tested_by_base_of_two base s t) → Tells p (with_turns (fitting (typed_base_of_two at base (sizes r) (sizes q)) (base_made_of_two base r q)) n).answer
    base-tells-of_two Syq e u = tells_fitting (r.rows == q.rows) _ (Mismatch at (base_text Syq) (sizes r) (sizes q)) (base_made_of_two Syq r q) n (test_of_two at s.rows t.rows r.rows q.rows h.row_size k.row_size (passed_test (agree s.rows t.rows) _ _ c e) u) tt
    base-tells-of_two Eq e u = tells_fitting ((r.rows == q.rows) && (r.cols == q.cols)) _ (Mismatch at (base_text Eq) (sizes r) (sizes q)) (base_made_of_two Eq r q) n (test_of_four at s t r q h k (passed_test (agree s.rows t.rows && agree s.cols t.cols) _ _ c e) u) tt
    base-tells-of_two Incl e u = tells_fitting ((r.rows == q.rows) && (r.cols == q.cols)) _ (Mismatch at (base_text Incl) (sizes r) (sizes q)) (base_made_of_two Incl r q) n (test_of_four at s t r q h k (passed_test (agree s.rows t.rows && agree s.cols t.cols) _ _ c e) u) tt
    base-tells-of_two Ubd e u = bounds-tells Ubd (base_made_of_two Ubd r q) e u tt
    base-tells-of_two Lbd e u = bounds-tells Lbd (base_made_of_two Lbd r q) e u tt
    base-tells-of_two Least e u = bounds-tells Least (base_made_of_two Least r q) e u tt
    base-tells-of_two Greatest e u = bounds-tells Greatest (base_made_of_two Greatest r q) e u tt
    base-tells-of_two Sup e u = bounds-tells Sup (base_made_of_two Sup r q) e u tt
    base-tells-of_two Inf e u = bounds-tells Inf (base_made_of_two Inf r q) e u tt
    base-tells-of_two base e u = tt

    -- an operator that takes the types takes the sizes of values too
    link_test : (op : Op2) → takes op s t ≡ true → KnownOr p at (tested_by_link op s t) → (takes op (sizes r) (sizes q) ≡ true) ⊎ (p at ≡ true)
    link_test Or e u = test_of_four at s t r q h k e u
    link_test And e u = test_of_four at s t r q h k e u
    link_test Times e u = test_of_two at s.cols t.rows r.cols q.rows h.col_size k.row_size e u
    link_test Under e u = test_of_two at s.rows t.rows r.rows q.rows h.row_size k.row_size e u
    link_test Over e u = test_of_two at s.cols t.cols r.cols q.cols h.col_size k.col_size e u

    -- and its result is described
    result_described : (op : Op2) → takes op (sizes r) (sizes q) ≡ true → Describes (type_of_link op s t) (result_of_both op r q)
    unfolding union inter compose right_residual left_residual
    result_described Or e = let same = both_fit r.rows r.cols q.rows q.cols e in describes_test _ _ r.rows r.cols _ (known_of s.rows t.rows r.rows q.rows h.row_size k.row_size same.0) (known_of s.cols t.cols r.cols q.cols h.col_size k.col_size same.1)
    result_described And e = let same = both_fit r.rows r.cols q.rows q.cols e in describes_test _ _ r.rows r.cols _ (known_of s.rows t.rows r.rows q.rows h.row_size k.row_size same.0) (known_of s.cols t.cols r.cols q.cols h.col_size k.col_size same.1)
    result_described Times e = describes_test _ _ r.rows q.cols _ h.row_size k.col_size
    result_described Under e = describes_test _ _ r.cols q.cols _ h.col_size k.col_size
    result_described Over e = describes_test _ _ r.rows q.rows _ h.row_size k.row_size

    pub linked-sure : (op : Op2) → typed_link at op s t ≡ Fits c → KnownOr p at (tested_by_link op s t) → Sure p Describes c (with_turns (linked at op r q) n).answer
    unfolding linked
    linked-sure op e u = by (takes op s t) (takes op (sizes r) (sizes q)) refl refl e
      where
        by : (b d : Bool) → takes op s t ≡ b → takes op (sizes r) (sizes q) ≡ d → cond b (Fits (type_of_link op s t)) (Misfit (Mismatch at (spelling op) s t)) ≡ Fits c →
            Sure p Describes c (with_turns (fitting (cond d (Fits (type_of_link op (sizes r) (sizes q))) (Misfit (Mismatch at (spelling op) (sizes r) (sizes q)))) (Makes (result_of_both op r q) (link_cost op r q))) n).answer
        by false d x y e = absurd (misfit_fits e)
        by true true x y e = subst (λ z. Describes z (result_of_both op r q)) (fits_same e) (result_described op y)
        by true false x y e = ⊎_elim (λ z. absurd (let w : false ≡ true = sym y ∙ z in cc)) (λ z. z) (link_test op x u)

    pub paired-sure : typed_pair at s t ≡ Fits c → KnownOr p at (s.rows ∷ t.rows ∷ []) → Sure p Describes c (with_turns (paired at r q) n).answer
    unfolding paired
    paired-sure e u =
        sure_of c _ (typed_pair at s t) e (paired-agree at s t r q n h k)
        (tells_fitting (r.rows == q.rows) _ (Mismatch at (codes "[") (sizes r) (sizes q)) (limited at (r.cols * q.cols) (Makes (pairing r q) (wide_cost r.rows (max r.cols q.cols) (r.cols * q.cols)))) n (test_of_two at s.rows t.rows r.rows q.rows h.row_size k.row_size (passed_test (agree s.rows t.rows) _ _ c e) u) (tells_limited at (r.cols * q.cols) (Makes (pairing r q) (wide_cost r.rows (max r.cols q.cols) (r.cols * q.cols))) n tt))

  based-tells : (at : Place) (base : Base) (ss : List StaticShape) (rs : List Relation) (n : ℕ) (c : StaticShape) → AreDescribed ss rs → typed_based at base ss ≡ Fits c → KnownOr p at (tested_by_bases base ss) → Tells p (with_turns (based at base rs) n).answer
  unfolding based typed_based
  based-tells at base ss [] n c h e k = tt
  based-tells at base [] (r ∷ rs) n c h e k = absurd (let z : r ∷ rs ≡ [] = h in cc)
  based-tells at base (s ∷ []) (r ∷ []) n c h e k = base-tells at s r h.0 n c base e k
  based-tells at base (s ∷ t ∷ ss) (r ∷ []) n c h e k = absurd h.1
  based-tells at base (s ∷ []) (r ∷ q ∷ rs) n c h e k = absurd (let z : q ∷ rs ≡ [] = h.1 in cc)
  based-tells at base (s ∷ t ∷ []) (r ∷ q ∷ []) n c h e k = base-tells-of_two at s t r q h.0 (let d = h.1 in d.0) n c base e k
  based-tells at base (s ∷ t ∷ u ∷ ss) (r ∷ q ∷ []) n c h e k = absurd (let d = h.1 in d.1)
  based-tells at base (s ∷ t ∷ ss) (r ∷ q ∷ o ∷ rs) n c h e k = tt

  pub based-sure : (at : Place) (base : Base) (ss : List StaticShape) (rs : List Relation) (n : ℕ) (c : StaticShape) → AreDescribed ss rs → typed_based at base ss ≡ Fits c → KnownOr p at (tested_by_bases base ss) → Sure p Describes c (with_turns (based at base rs) n).answer
  based-sure at base ss rs n c h e k = sure_of c _ (typed_based at base ss) e (based-agree at base ss rs n h) (based-tells at base ss rs n c h e k)

  pub complemented-sure : (s : StaticShape) (r : Relation) (n : ℕ) → Describes s r → Sure p Describes s (with_turns (complemented r) n).answer
  unfolding complemented complement
  complemented-sure s r n h = describes_test s.rows s.cols r.rows r.cols _ h.row_size h.col_size

  turn_described : (t : StaticShape) (q : Relation) → Describes t q → Describes (type_turned t) (transpose q)
  unfolding transpose
  turn_described t q k = describes_test t.cols t.rows q.cols q.rows _ k.col_size k.row_size

  turned_described : (n : ℕ) (s : StaticShape) (r : Relation) → Describes s r → Describes (type_turned_by n s) (transposed_by n r)
  turned_described zero s r h = h
  turned_described (suc n) s r h = turn_described (type_turned_by n s) (transposed_by n r) (turned_described n s r h)

  pub turned-sure : (times : ℕ) (s : StaticShape) (r : Relation) (n : ℕ) (c : StaticShape) → Describes s r → Fits (type_turned_by times s) ≡ Fits c → Sure p Describes c (with_turns (turned times r) n).answer
  unfolding turned
  turned-sure times s r n c h e = subst (λ z. Describes z (transposed_by times r)) (fits_same e) (turned_described times s r h)

  -- a test whose static type fits is refused only where its sizes are not known: known sizes are the true ones
  pub tested-tells : (at : Place) (s : StaticShape) (r : Relation) (n : ℕ) (c : StaticShape) → Describes s r → typed_test at s ≡ Fits c → KnownOr p at (s.rows ∷ s.cols ∷ []) → Tells p (tested at r n).answer
  tested-tells at s r n c h e k =
      by (may_be 1 (Some r.rows) && may_be 1 (Some r.cols))
      (⊎_elim (λ w. inl (both _ _ (one s.rows r.rows h.row_size (and_left _ _ t) (and_left _ _ w)) (one s.cols r.cols h.col_size (and_right (may_be 1 s.rows) _ t) (and_left _ _ (and_right (is_some s.rows) _ w))))) (λ w. inr w) (decided at (s.rows ∷ s.cols ∷ []) k))
    where
      t : (may_be 1 s.rows && may_be 1 s.cols) ≡ true
      t = passed_test (may_be 1 s.rows && may_be 1 s.cols) s (NotTest at s) c e

      one : (a : Option ℕ) (m : ℕ) → IsSize a m → may_be 1 a ≡ true → is_some a ≡ true → may_be 1 (Some m) ≡ true
      one None m h t e = absurd (let z : false ≡ true = e in cc)
      one (Some x) m h t e = subst (λ y. may_be 1 (Some y) ≡ true) h t

      by : (b : Bool) → (b ≡ true) ⊎ (p at ≡ true) → Tells p (where_fitting (cond b (Fits (sizes r)) (Misfit (NotTest at (sizes r)))) (has r 0 0) n).answer
      by true h = tt
      by false h = ⊎_elim (λ e. absurd (let z : false ≡ true = e in cc)) (λ e. e) h

  -- names
  pub name-sure : (at : Place) (name : List ℕ) (t : Option StaticShape) (o : Option Relation) (n : ℕ) (c : StaticShape) → ((s : StaticShape) (r : Relation) → t ≡ Some s → o ≡ Some r → Describes s r) → typed_name at name t ≡ Fits c → Sure p Describes c (with_turns (named at name o) n).answer
  name-sure at name None o n c w e = absurd (misfit_fits e)
  name-sure at name (Some s) None n c w e = tt
  name-sure at name (Some s) (Some r) n c w e = subst (λ z. Describes z r) (fits_same e) (w s r refl refl)

  -- types that describe the relations of the names that they have
  abbrev pub Weak : Types → State → Type 0
  Weak T S = (name : List ℕ) (s : StaticShape) (r : Relation) → T name ≡ Some s → S name ≡ Some r → Describes s r

  -- domain operators
  domain-tells : (at : Place) (base : Base) (x y n : ℕ) → Tells p (with_turns (domain_made at base x y) n).answer
  domain-tells at P1 x y n = tells_limited at (x * y) (Makes (first_projection x y) (wide_cost x y (x * y))) n tt
  domain-tells at P2 x y n = tells_limited at (x * y) (Makes (second_projection x y) (wide_cost x y (x * y))) n tt
  domain-tells at I1 x y n = tells_limited at (x + y) (Makes (left_injection x y) (wide_cost x y (x + y))) n tt
  domain-tells at base x y n = tells_limited at (x + y) (Makes (right_injection x y) (wide_cost x y (x + y))) n tt

  -- a domain call tells as much as the call with both relations of its domain, and anything where one is missing
  injected-tells : (S : State) (at : Place) (base : Base) (o : Option (List ℕ × List ℕ)) (n : ℕ) → Tells p (with_turns (injected_by S at base o) n).answer
  injected-tells S at base None n = tt
  injected-tells S at base (Some names) n = by (S names.0) (S names.1)
    where
      by : (a b : Option Relation) → Tells p (with_turns (injected_of at base a b) n).answer
      by (Some a) (Some b) = domain-tells at base a.rows b.rows n
      by None b = tt
      by (Some a) None = tt

  -- the relations of the names that have types
  abbrev of_typed : Option StaticShape → Option Relation → Option Relation
  of_typed None o = None
  of_typed (Some s) o = o

  abbrev typed_part : Types → State → State
  typed_part T S name = of_typed (T name) (S name)

  covers-typed : (T : Types) (S : State) → Weak T S → Covers T (typed_part T S)
  covers-typed T S w name = by (T name) (S name) refl refl
    where
      by : (t : Option StaticShape) (o : Option Relation) → T name ≡ t → S name ≡ o → CoversAt t (of_typed t o)
      by None o e f = tt
      by (Some s) None e f = tt
      by (Some s) (Some r) e f = w name s r e f

  injected-same : (T : Types) (S : State) (at : Place) (base : Base) (o : Option (List ℕ × List ℕ)) (c : StaticShape) → typed_injected T at base o ≡ Fits c → injected_by (typed_part T S) at base o ≡ injected_by S at base o
  injected-same T S at base None c e = refl
  injected-same T S at base (Some names) c e = by (T names.0) (T names.1) e
    where
      by : (t u : Option StaticShape) → typed_injected_of at base t u ≡ Fits c → injected_of at base (of_typed t (S names.0)) (of_typed u (S names.1)) ≡ injected_of at base (S names.0) (S names.1)
      by (Some t) (Some u) e = refl
      by None u e = absurd (misfit_fits e)
      by (Some t) None e = absurd (misfit_fits e)

  pub injected-sure : (T : Types) (S : State) → Weak T S → (at : Place) (base : Base) (o : Option (List ℕ × List ℕ)) (n : ℕ) (c : StaticShape) → typed_injected T at base o ≡ Fits c → Sure p Describes c (with_turns (injected_by S at base o) n).answer
  injected-sure T S w at base o n c e =
      sure_of c _ (typed_injected T at base o) e
      (subst (λ x. Agree Describes (typed_injected T at base o) (with_turns x n).answer) (injected-same T S at base o c e) (injected-agree T (typed_part T S) (covers-typed T S w) at base o n))
      (injected-tells S at base o n)
