-- The test of rewriting holds exactly of trees that are one without their places.
-- 1. Texts, signs and the texts of base names tell what they are of; so trees that pass the test are one without places,
--    by recursion on both.
-- 2. The test does not look at places, and each tree passes it with itself.
use Rattle.std.proofs.Common.{eqb, ◌≡◌, ◌&&◌, ◌∙◌, ℕ, Bool, true, false, cond, List, [], ◌∷◌, refl, sym, ap}
use Rattle.std.proofs.lemmas.Bool.{and_parts, false≢true, eqb-true, eq-eqb}
use Rattle.std.specs.Cmp.Lexicographic.{nat_list_eq_equiv, same_text as text_of_test}
use Rattle.lang_model.specs.declared.syntax.Op2.{Op2}
use Rattle.lang_model.specs.declared.syntax.Op2.TheVariants.{Or, And, Times, Under, Over}
use Rattle.lang_model.specs.declared.syntax.Base.{Base}
use Rattle.lang_model.specs.declared.syntax.Base.TheVariants.{L, O, I, Ln1, On1, L1n, O1n, Dom, Ran, Trans, Refl, Epsi}
use Rattle.lang_model.specs.declared.syntax.Base.TheVariants.{Point, Atom, Init, Next, Inj, Empty, Unival, Less, Hasse}
use Rattle.lang_model.specs.declared.syntax.Base.TheVariants.{Quot, Syq, Eq, Incl, Ubd, Lbd, Least, Greatest, Sup, Inf}
use Rattle.lang_model.specs.declared.syntax.Base.TheVariants.{P1, P2, I1, I2}
use Rattle.lang_model.specs.BaseNames.{base_text, base_names, domain_operator_names}
use Rattle.lang_model.specs.Tokens.{same_text}
use Rattle.lang_model.specs.Trees.{Tree, NameTree, CallTree, BaseTree, InjectTree, PairTree, MinusTree, TurnedTree, ChainTree, Trees, NoTree, MoreTrees}
use Rattle.lang_model.specs.Trees.{Branches, NoBranch, MoreBranches, nowhere, without_places, all_without_places, links_without_places, SameTrees}
use Rattle.lang_model.specs.Rewriting.{same_tree, same_trees, same_branches, same_base, same_operator}
use Rattle.rv_spell.specs.SameTrees.{SameExceptPlaces}

-- ---- names, signs and base names
text : (a b : List ℕ) → same_text a b ≡ true → a ≡ b
text a b h = text_of_test a b (sym h)

text_itself : (a : List ℕ) → same_text a a ≡ true
text_itself a = nat_list_eq_equiv.refl a

-- the first base of a list that has this text, or L
abbrev base_with : List ℕ → List Base → Base
base_with t [] = L
base_with t (b ∷ bs) = cond (same_text (base_text b) t) b (base_with t bs)

abbrev all_bases : List Base
all_bases = P1 ∷ P2 ∷ I1 ∷ I2 ∷ base_names

-- a base name is the one that has its text
by_text : (b : Base) → base_with (base_text b) all_bases ≡ b
by_text L = refl
by_text O = refl
by_text I = refl
by_text Ln1 = refl
by_text On1 = refl
by_text L1n = refl
by_text O1n = refl
by_text Dom = refl
by_text Ran = refl
by_text Trans = refl
by_text Refl = refl
by_text Epsi = refl
by_text Point = refl
by_text Atom = refl
by_text Init = refl
by_text Next = refl
by_text Inj = refl
by_text Empty = refl
by_text Unival = refl
by_text Less = refl
by_text Hasse = refl
by_text Quot = refl
by_text Syq = refl
by_text Eq = refl
by_text Incl = refl
by_text Ubd = refl
by_text Lbd = refl
by_text Least = refl
by_text Greatest = refl
by_text Sup = refl
by_text Inf = refl
by_text P1 = refl
by_text P2 = refl
by_text I1 = refl
by_text I2 = refl

one_base : (a b : Base) → same_base a b ≡ true → a ≡ b
one_base a b h = sym (by_text a) ∙ ap (λ t. base_with t all_bases) (text (base_text a) (base_text b) h) ∙ by_text b

one_operator : (a b : Op2) → same_operator a b ≡ true → a ≡ b
one_operator Or Or h = refl
one_operator And And h = refl
one_operator Times Times h = refl
one_operator Under Under h = refl
one_operator Over Over h = refl
one_operator a b h = absurd (false≢true h)

operator_itself : (op : Op2) → same_operator op op ≡ true
operator_itself Or = refl
operator_itself And = refl
operator_itself Times = refl
operator_itself Under = refl
operator_itself Over = refl

-- ---- what passes the test is one
mutual
  -- trees that pass the test are one without their places, by induction on both: they are of one kind, with one text or
  -- number and parts that pass
  one_tree : (t u : Tree) → same_tree t u ≡ true → without_places t ≡ without_places u
  one_tree (NameTree at name) (NameTree there other) h = ap (NameTree nowhere) (text name other h)
  one_tree (CallTree at name args) (CallTree there other others) h =
      let k = and_parts _ _ h in (λ i. CallTree nowhere (text name other k.0 i) (one_list args others k.1 i))
  one_tree (BaseTree at base args) (BaseTree there other others) h =
      let k = and_parts _ _ h in (λ i. BaseTree nowhere (one_base base other k.0 i) (one_list args others k.1 i))
  one_tree (InjectTree at base domain) (InjectTree there other another) h =
      let k = and_parts _ _ h in (λ i. InjectTree nowhere (one_base base other k.0 i) (text domain another k.1 i))
  one_tree (PairTree at left right) (PairTree there other another) h =
      let k = and_parts _ _ h in (λ i. PairTree nowhere (one_tree left other k.0 i) (one_tree right another k.1 i))
  one_tree (MinusTree at of) (MinusTree there other) h = ap (MinusTree nowhere) (one_tree of other h)
  one_tree (TurnedTree at of times) (TurnedTree there other signs) h =
      let k = and_parts _ _ h in (λ i. TurnedTree nowhere (one_tree of other k.1 i) (eqb-true times signs k.0 i))
  one_tree (ChainTree first links) (ChainTree other others) h =
      let k = and_parts _ _ h in (λ i. ChainTree (one_tree first other k.0 i) (one_chain links others k.1 i))
  one_tree t u h = absurd (false≢true h)

  one_list : (args others : Trees) → same_trees args others ≡ true → all_without_places args ≡ all_without_places others
  one_list NoTree NoTree h = refl
  one_list (MoreTrees t args) (MoreTrees u others) h =
      let k = and_parts _ _ h in (λ i. MoreTrees (one_tree t u k.0 i) (one_list args others k.1 i))
  one_list t u h = absurd (false≢true h)

  one_chain : (links others : Branches) → same_branches links others ≡ true → links_without_places links ≡ links_without_places others
  one_chain NoBranch NoBranch h = refl
  one_chain (MoreBranches at op right links) (MoreBranches there other another others) h =
      let k = and_parts _ _ h in
      let j = and_parts _ _ k.1 in
      (λ i. MoreBranches nowhere (one_operator op other k.0 i) (one_tree right another j.0 i) (one_chain links others j.1 i))
  one_chain t u h = absurd (false≢true h)

-- ---- the test looks at no place
mutual
  blind : (t u : Tree) → same_tree (without_places t) (without_places u) ≡ same_tree t u
  blind (NameTree at name) (NameTree there other) = refl
  blind (CallTree at name args) (CallTree there other others) = ap (λ b. same_text name other && b) (blind_list args others)
  blind (BaseTree at base args) (BaseTree there other others) = ap (λ b. same_base base other && b) (blind_list args others)
  blind (InjectTree at base domain) (InjectTree there other another) = refl
  blind (PairTree at left right) (PairTree there other another) = (λ i. blind left other i && blind right another i)
  blind (MinusTree at of) (MinusTree there other) = blind of other
  blind (TurnedTree at of times) (TurnedTree there other signs) = ap (λ b. eqb times signs && b) (blind of other)
  blind (ChainTree first links) (ChainTree other others) = (λ i. blind first other i && blind_chain links others i)
  blind t u = refl

  blind_list : (args others : Trees) → same_trees (all_without_places args) (all_without_places others) ≡ same_trees args others
  blind_list NoTree NoTree = refl
  blind_list (MoreTrees t args) (MoreTrees u others) = (λ i. blind t u i && blind_list args others i)
  blind_list t u = refl

  blind_chain : (links others : Branches) → same_branches (links_without_places links) (links_without_places others) ≡ same_branches links others
  blind_chain NoBranch NoBranch = refl
  blind_chain (MoreBranches at op right links) (MoreBranches there other another others) =
      (λ i. same_operator op other && (blind right another i && blind_chain links others i))
  blind_chain t u = refl

-- ---- each tree passes it with itself
both : (a b : Bool) → a ≡ true → b ≡ true → (a && b) ≡ true
both a b h k = (λ i. h i && k i)

mutual
  itself : (t : Tree) → same_tree t t ≡ true
  itself (NameTree at name) = text_itself name
  itself (CallTree at name args) = both _ _ (text_itself name) (list_itself args)
  itself (BaseTree at base args) = both _ _ (text_itself (base_text base)) (list_itself args)
  itself (InjectTree at base domain) = both _ _ (text_itself (base_text base)) (text_itself domain)
  itself (PairTree at left right) = both _ _ (itself left) (itself right)
  itself (MinusTree at of) = itself of
  itself (TurnedTree at of times) = both _ _ (eq-eqb times times refl) (itself of)
  itself (ChainTree first links) = both _ _ (itself first) (chain_itself links)

  list_itself : (args : Trees) → same_trees args args ≡ true
  list_itself NoTree = refl
  list_itself (MoreTrees t args) = both _ _ (itself t) (list_itself args)

  chain_itself : (links : Branches) → same_branches links links ≡ true
  chain_itself NoBranch = refl
  chain_itself (MoreBranches at op right links) = both _ _ (operator_itself op) (both _ _ (itself right) (chain_itself links))

-- ---- the law
pub same_except_places : SameExceptPlaces
same_except_places t u = (one_tree t u, λ h. sym (blind t u) ∙ ap (same_tree (without_places t)) (sym h) ∙ itself (without_places t))
