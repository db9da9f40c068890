-- A chain of | alone, or of & alone, has the same value without the operands that stand before.
use Rattle.std.proofs.Common.{◌≡◌, ◌∙◌, ◌&&◌, ℕ, Bool, true, false, cond, List, [], ◌∷◌, Some, None, refl, sym, ap, subst, inl, inr}
use Rattle.std.proofs.lemmas.Bool.{and_parts, or_cases, false≢true}
use Rattle.std.specs.List.{list_any, AllByRecursion}
use Rattle.lang_model.specs.declared.syntax.Op2.{Op2}
use Rattle.lang_model.specs.declared.syntax.Op2.TheVariants.{Or, And, Times, Under, Over}
use Rattle.rel_model.specs.Relation.{Relation}
use Rattle.rel_model.specs.Closures.{IsWithin}
use Rattle.rel_model.specs.Algebra.{HasType}
use Rattle.rel_model.proofs.RuleLaws.{repeat_laws}
use Rattle.rel_model.proofs.Members.{type-union, type-inter}
use Rattle.lang_model.specs.State.{State}
use Rattle.lang_model.specs.Trees.{Tree, NameTree, CallTree, BaseTree, InjectTree, PairTree, MinusTree, TurnedTree, ChainTree, Branches, NoBranch, MoreBranches}
use Rattle.lang_model.specs.Types.{sizes, takes}
use Rattle.lang_model.specs.Mean.{result_of_both}
use Rattle.lang_model.specs.Rewriting.{same_operator, same_tree, chain_of, is_lattice, all_links, is_of_one_sign, without_repeats, repeated_operands}
use Rattle.lang_model.proofs.Values.{value, value_along, HasValue, HaveValue, valid-value}
use Rattle.lang_model.proofs.Sameness.{passed, same_some, same_op, same_value}
use Rattle.lang_model.proofs.Ruling.{Means, lattice_agrees}

-- what | or & leaves as it is
abbrev Absorbs : Op2 → Relation → Relation → Type 0
Absorbs Or c r = IsWithin r c
Absorbs And c r = IsWithin c r
Absorbs op c r = ⊥

type_of_lattice : (op : Op2) → is_lattice op ≡ true → (m n : ℕ) (c r : Relation) → HasType m n c → HasType m n r
    → HasType m n (result_of_both op c r)
type_of_lattice Or l m n c r t u = type-union m n c r t
type_of_lattice And l m n c r t u = type-inter m n c r t
type_of_lattice op l m n c r t u = absurd (false≢true l)

absorbed : (op : Op2) → is_lattice op ≡ true → (m n : ℕ) (c r : Relation) → HasType m n c → HasType m n r
    → Absorbs op c r → result_of_both op c r ≡ c
absorbed Or l m n c r t u a = repeat_laws.of_union m n c r t u a
absorbed And l m n c r t u a = repeat_laws.of_inter m n c r t u a
absorbed op l m n c r t u a = absurd (false≢true l)

absorbs_last : (op : Op2) → is_lattice op ≡ true → (m n : ℕ) (c r : Relation) → HasType m n c → HasType m n r
    → Absorbs op (result_of_both op c r) r
absorbs_last Or l m n c r t u = repeat_laws.right_of_union m n c r t u
absorbs_last And l m n c r t u = repeat_laws.right_of_inter m n c r t u
absorbs_last op l m n c r t u = absurd (false≢true l)

absorbs_more : (op : Op2) → is_lattice op ≡ true → (m n : ℕ) (c r x : Relation) → HasType m n c → HasType m n r
    → Absorbs op c x → Absorbs op (result_of_both op c r) x
absorbs_more Or l m n c r x t u a = λ i j h. repeat_laws.left_of_union m n c r t u i j (a i j h)
absorbs_more And l m n c r x t u a = λ i j h. a i j (repeat_laws.left_of_inter m n c r t u i j h)
absorbs_more op l m n c r x t u a = absurd (false≢true l)

absorbs_itself : (op : Op2) → is_lattice op ≡ true → (c : Relation) → Absorbs op c c
absorbs_itself Or l c = λ i j h. h
absorbs_itself And l c = λ i j h. h
absorbs_itself op l c = absurd (false≢true l)

module _ (S : State) (op : Op2) (l : is_lattice op ≡ true) where
  -- the value so far absorbs those of these trees
  abbrev All : Relation → List Tree → Type 0
  All c before = AllByRecursion (λ t. Absorbs op c (value S t)) before

  more : (m n : ℕ) (c r : Relation) → HasType m n c → HasType m n r → (before : List Tree) → All c before
      → All (result_of_both op c r) before
  more m n c r t u [] a = tt
  more m n c r t u (x ∷ xs) a = (absorbs_more op l m n c r (value S x) t u a.0, more m n c r t u xs a.1)

  -- an operand that equals one of these is absorbed
  one_of : (c : Relation) (right : Tree) (before : List Tree) → All c before
      → list_any (λ t. same_tree t right) before ≡ true → Absorbs op c (value S right)
  one_of c right [] a h = absurd (false≢true h)
  one_of c right (x ∷ xs) a h = elim (or_cases (same_tree x right) (list_any (λ t. same_tree t right) xs) h) [
    | inl e ↦ subst (Absorbs op c) (same_value S x right e) a.0
    | inr e ↦ one_of c right xs a.1 e
  ]

  record Shorter (c : Relation) (links kept : Branches) : Type 0 where
    pub have : HaveValue S c kept
    pub same : value_along S c kept ≡ value_along S c links

  -- links without repeated operands come to the same value, by induction: the value so far absorbs an operand that
  -- stood before, and any other is kept and absorbed from then on
  shorter : (m n : ℕ) (c : Relation) (before : List Tree) (links : Branches) → HasType m n c → All c before
      → all_links op links ≡ true → HaveValue S c links → Shorter c links (without_repeats before links)
  shorter m n c before NoBranch t a o h = record { have = tt; same = refl }
  shorter m n c before (MoreBranches at own right links) t a o h =
      let p = and_parts _ _ o in
      let e = same_op own op p.0 in
      let k = h.1 in
      let R = value S right in
      let fits = subst (λ x. takes x (sizes c) (sizes R) ≡ true) e k.0 in
      let rest = subst (λ x. HaveValue S (result_of_both x c R) links) e k.1 in
      let sized = lattice_agrees S op l c R fits in
      let u : HasType m n R = record {
        valid = valid-value S right h.0;
        row_size = sym sized.0
            ∙ t.row_size;
        col_size = sym sized.1 ∙ t.col_size;
      } in
      at_link (λ d others. shorter m n d others links) (list_any (λ x. same_tree x right) before) refl e k.0 u rest p.1
    where
      at_link : ((d : Relation) (others : List Tree) → HasType m n d → All d others → all_links op links ≡ true
          → HaveValue S d links → Shorter d links (without_repeats others links)) →
          (b : Bool) → list_any (λ x. same_tree x right) before ≡ b → own ≡ op
          → takes own (sizes c) (sizes (value S right)) ≡ true → HasType m n (value S right)
          → HaveValue S (result_of_both op c (value S right)) links → all_links op links ≡ true →
          Shorter c (MoreBranches at own right links) (cond b (without_repeats before links)
          (MoreBranches at own right (without_repeats (right ∷ before) links)))
      at_link again true f e fits u rest q =
          let R = value S right in
          let same = absorbed op l m n c R t u (one_of c right before a f) in
          let i = again c before t a q (subst (λ x. HaveValue S x links) same rest) in
          record {
            have = i.have;
            same = i.same ∙ ap (λ x. value_along S x links) (sym same)
                ∙ ap (λ x. value_along S (result_of_both x c R) links) (sym e);
          }
      at_link again false f e fits u rest q =
          let R = value S right in
          let i = again (result_of_both op c R) (right ∷ before) (type_of_lattice op l m n c R t u)
          (absorbs_last op l m n c R t u, more m n c R t u before a) q rest in
          record {
            have = (
              h.0,
              (
                fits,
                subst (λ x. HaveValue S (result_of_both x c R) (without_repeats (right ∷ before) links))
                    (sym e) i.have,
              ),
            );
            same = ap (λ x. value_along S (result_of_both x c R) (without_repeats (right ∷ before) links)) e ∙ i.same
                ∙ ap (λ x. value_along S (result_of_both x c R) links) (sym e);
          }

  shorter_chain : (first : Tree) (links kept : Branches) → HasValue S first → Shorter (value S first) links kept
      → Means S (chain_of first kept) (value_along S (value S first) links)
  shorter_chain first links NoBranch v s = record { has = v; value = s.same }
  shorter_chain first links (MoreBranches at own right rest) v s = record { has = (v, s.have); value = s.same }

-- a chain of one sign has one operator
one_operator : (S : State) (first : Tree) (links : Branches) → HasValue S first → HaveValue S (value S first) links
    → is_of_one_sign links ≡ true →
    Means S (chain_of first (without_repeats (first ∷ []) links)) (value_along S (value S first) links)
one_operator S first NoBranch v h o = absurd (false≢true o)
one_operator S first (MoreBranches at op right links) v h o =
    let p = and_parts _ _ o in
    let c = value S first in
    shorter_chain S op p.0 first (MoreBranches at op right links) _ v
    (shorter S op p.0 c.rows c.cols c (first ∷ []) (MoreBranches at op right links)
    (record { valid = valid-value S first v; row_size = refl; col_size = refl }) (absorbs_itself op p.0 c, tt)
    (own_sign op p.1) h)
  where
    own_sign : (o : Op2) → all_links o links ≡ true → (same_operator o o && all_links o links) ≡ true
    own_sign Or q = q
    own_sign And q = q
    own_sign Times q = q
    own_sign Under q = q
    own_sign Over q = q

-- dropping repeated operands keeps the value: the rule applies to chains of one sign alone,
-- whose value so far absorbs them
pub repeats_rule : (S : State) (t u : Tree) → HasValue S t → repeated_operands t ≡ Some u → Means S u (value S t)
repeats_rule S (ChainTree first links) u v h =
    let p = passed _ _ u h in
    let k = and_parts _ _ p.0 in
    subst (λ x. Means S x (value_along S (value S first) links)) (same_some p.1)
    (one_operator S first links v.0 v.1 k.0)
repeats_rule S (NameTree at name) u v h = absurd (let z : None ≡ Some u = h in cc)
repeats_rule S (CallTree at name args) u v h = absurd v
repeats_rule S (BaseTree at base args) u v h = absurd (let z : None ≡ Some u = h in cc)
repeats_rule S (InjectTree at base domain) u v h = absurd v
repeats_rule S (PairTree at left right) u v h = absurd v
repeats_rule S (MinusTree at of) u v h = absurd (let z : None ≡ Some u = h in cc)
repeats_rule S (TurnedTree at of times) u v h = absurd (let z : None ≡ Some u = h in cc)
