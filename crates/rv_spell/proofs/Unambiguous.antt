-- Tokens spell one expression alone, with its places.
-- 1. What stands behind an expression must not go on with it (`Ends`); then where it ends is determined too.
-- 2. By induction on how the first is spelled: at each level the second is taken apart in the same way (`Chained`, `Posted`, `Primed`), since the first token of an operand, and the operator behind it, decide.
use Rattle.std.proofs.Common.{◌≡◌, inl, inr, ℕ, false, List, [], refl, sym, ap, ◌∙◌, subst, zero, suc, arith}
use Rattle.std.proofs.lemmas.Bool.{false≢true}
use Rattle.lang_model.specs.declared.syntax.Place.{Place}
use Rattle.lang_model.specs.declared.syntax.Expr.{Expr, Minus}
use Rattle.lang_model.specs.declared.syntax.Link.{Link}
use Rattle.lang_model.specs.declared.token.Kind.TheVariants.{Base as BASE, Word, Sign}
use Rattle.lang_model.specs.declared.token.Token.{Token}
use Rattle.lang_model.specs.Taken.{TakesAt, Carets}
use Rattle.lang_model.specs.Spelling.{Level, OrLevel, AndLevel, ProdLevel, UnaryLevel, PostLevel, PrimLevel, tighter, IsOperatorOf, Spelled, named, called, based, based_twice, injected, paired, enclosed, turned, negated, chained, alone, Listed, no_more, one_more, Linked, no_link, one_link}
use Rattle.rv_parse.specs.Readers.{begins}
use Rattle.lang_model.specs.Trees.{CallTree, BaseTree, InjectTree, PairTree, MinusTree, TurnedTree, NoTree, MoreTrees, MoreBranches, tree_of}
use Rattle.rv_parse.proofs.Fitting.{no_minus}
use Rattle.rv_spell.proofs.Places.{trees_in, branches_in, tree_call, tree_base, tree_pair, tree_minus, tree_turned, tree_chain}
use Rattle.rv_spell.proofs.Apart.{ends_tighter, ends_comma, ends_close, ends_bracket, ends_operand, goes_on, one_operator, one_kind, one_place, one_rest, place_of_first, not_sign, one_word, linked_chains, chain_tree, chain_tree_of, as_chain, as_unary, post_tree, as_post, OneOf, TwoOf, DomainOf, BasedOn, prim_at, only_name, only_call, only_enclosed, only_pair}
use Rattle.rv_spell.specs.Again.{Ends}

-- ---- the induction
pub record Agrees (e f : Expr) (rest others : List Token) : Type 0 where
  pub same : tree_of e ≡ tree_of f
  pub left : rest ≡ others

record AgreesAll (es fs : List Expr) (rest others : List Token) : Type 0 where
  same : trees_in es ≡ trees_in fs
  left : rest ≡ others

record AgreesAlong (xs ys : List Link) (rest others : List Token) : Type 0 where
  same : branches_in xs ≡ branches_in ys
  left : rest ≡ others

ends_links : {l : Level} {d : ℕ} {xs : List Link} {tokens rest : List Token} → Linked l d xs tokens rest → Ends l rest → Ends (tighter l) tokens
ends_links (no_link l d tokens rest e) h = subst (Ends (tighter l)) e (ends_tighter l rest h)
ends_links (one_link l d x xs sign tokens mid after rest o t s ls) h = ends_operand l x.op sign x.at tokens mid o t

ends_args : {n d : ℕ} {es : List Expr} {at : Place} {tokens rest behind : List Token} → Listed n d es tokens rest → TakesAt at (Sign 41) rest behind → Ends OrLevel tokens
ends_args {at = at} {behind = behind} (no_more n d tokens rest e) t = subst (Ends OrLevel) e (ends_close at rest behind t)
ends_args (one_more n d x es tokens mid after rest comma s ls) t = ends_comma comma.0 tokens mid comma.1

ends_carets : (n : ℕ) (tokens rest : List Token) → Carets n tokens rest → begins 40 rest ≡ false → begins 40 tokens ≡ false
ends_carets zero tokens rest e h = subst (λ z. begins 40 z ≡ false) e h
ends_carets (suc n) tokens rest s h = ap (begins 40) s.1.1

-- no link there
no_links_agree : {l : Level} {d : ℕ} {ys : List Link} {tokens others rest : List Token} → Linked l d ys others rest → tokens ≡ others → Ends l tokens → AgreesAlong [] ys tokens rest
no_links_agree (no_link l d others rest e) q h = record { same = refl; left = q ∙ sym e }
no_links_agree (one_link l d y ys sign others mid after rest o t s ls) q h = absurd (goes_on l y.op sign y.at others mid o t (subst (Ends l) q h))

agree_carets : (n m : ℕ) (tokens others rest behind : List Token) → Carets n tokens rest → Carets m others behind → tokens ≡ others → begins 94 rest ≡ false → begins 94 behind ≡ false → (n ≡ m) × (rest ≡ behind)
agree_carets zero zero tokens others rest behind s u q h k = (refl, s ∙ q ∙ sym u)
agree_carets zero (suc m) tokens others rest behind s u q h k = absurd (false≢true (sym h ∙ ap (begins 94) (s ∙ q ∙ u.1.1)))
agree_carets (suc n) zero tokens others rest behind s u q h k = absurd (false≢true (sym k ∙ ap (begins 94) (u ∙ sym q ∙ s.1.1)))
agree_carets (suc n) (suc m) tokens others rest behind s u q h k =
    let r = agree_carets n m s.0 u.0 rest behind s.2 u.2 (one_rest s.1.1 u.1.1 q) h k in (ap suc r.0, r.1)

sign_differs : (s u : ℕ) {at at' : Place} {tokens others rest behind : List Token} → TakesAt at (Sign s) tokens rest → TakesAt at' (Sign u) others behind → tokens ≡ others → (s ≡ u → ⊥) → ⊥
sign_differs s u t t' q n = n (not_sign s u (one_kind t t' q))

mutual
  -- the same tokens spell one expression, by induction on how the first is spelled: the second is taken apart on the
  -- same level, and each of its parts ends where the other's does
  pub agree : {l : Level} {d : ℕ} {e : Expr} {tokens rest : List Token} → Spelled l d e tokens rest → {k : ℕ} {f : Expr} {others behind : List Token} → Spelled l k f others behind → tokens ≡ others → Ends l rest → Ends l behind → Agrees e f rest behind
  agree (named d at text tokens rest t) {k} {f} {others} {behind} u q h h' =
      let c = only_name k f at text rest behind (prim_at (Word text) t q u) h in
      record { same = sym c.0; left = sym c.1 }
  agree (called d at text args first more tokens t1 t2 t3 t4 rest l p t opened s ls close) {k} {f} {others} {behind} u q h h' =
      let c = only_call k f at text t1 behind (prim_at (Word text) t q u) (ap (begins 40) opened.1) h' in
      let a = agree s c.head (one_rest opened.1 c.opened.1 refl) (ends_args ls close.1) (ends_args c.tail c.close.1) in
      let b = agree_listed ls c.tail a.left close.0 c.close.0 rest behind close.1 c.close.1 in
      record { same = tree_call at text args ∙ ap (λ es. CallTree at text (trees_in es)) p ∙ (λ i. CallTree at text (MoreTrees (a.same i) (b.same i))) ∙ sym c.shape; left = one_rest close.1 c.close.1 b.left }
  agree (based d at base args e tokens t1 t2 t3 rest l form p t opened s close) {k} {f} {others} {behind} u q h h' =
      let c : OneOf k f at base t1 behind = subst (λ z. BasedOn z k f at base t1 behind) form (prim_at (BASE base) t q u) in
      let a = agree s c.head (one_rest opened.1 c.opened.1 refl) (ends_close close.0 t3 rest close.1) (ends_close c.close.0 c.t3 behind c.close.1) in
      record { same = tree_base at base args ∙ ap (λ es. BaseTree at base (trees_in es)) p ∙ (λ i. BaseTree at base (MoreTrees (a.same i) NoTree)) ∙ sym c.shape; left = one_rest close.1 c.close.1 a.left }
  agree (based_twice d at base args e x tokens t1 t2 t3 t4 t5 rest l form p t opened s comma s' close) {k} {f} {others} {behind} u q h h' =
      let c : TwoOf k f at base t1 behind = subst (λ z. BasedOn z k f at base t1 behind) form (prim_at (BASE base) t q u) in
      let a = agree s c.head (one_rest opened.1 c.opened.1 refl) (ends_comma comma.0 t3 t4 comma.1) (ends_comma c.comma.0 c.t3 c.t4 c.comma.1) in
      let b = agree s' c.tail (one_rest comma.1 c.comma.1 a.left) (ends_close close.0 t5 rest close.1) (ends_close c.close.0 c.t5 behind c.close.1) in
      record { same = tree_base at base args ∙ ap (λ es. BaseTree at base (trees_in es)) p ∙ (λ i. BaseTree at base (MoreTrees (a.same i) (MoreTrees (b.same i) NoTree))) ∙ sym c.shape; left = one_rest close.1 c.close.1 b.left }
  agree (injected d at base domain tokens t1 t2 t3 rest l form t opened name close) {k} {f} {others} {behind} u q h h' =
      let c : DomainOf k f at base t1 behind = subst (λ z. BasedOn z k f at base t1 behind) form (prim_at (BASE base) t q u) in
      let e2 = one_rest opened.1 c.opened.1 refl in
      record { same = ap (InjectTree at base) (one_word domain c.domain (one_kind name.1 c.name.1 e2)) ∙ sym c.shape; left = one_rest close.1 c.close.1 (one_rest name.1 c.name.1 e2) }
  agree (paired d at left right tokens t1 t2 t3 t4 rest l t s comma s' close) {k} {f} {others} {behind} u q h h' =
      let c = only_pair k f at t1 behind (prim_at (Sign 91) t q u) in
      let a = agree s c.head refl (ends_comma comma.0 t2 t3 comma.1) (ends_comma c.comma.0 c.t2 c.t3 c.comma.1) in
      let b = agree s' c.tail (one_rest comma.1 c.comma.1 a.left) (ends_bracket close.0 t4 rest close.1) (ends_bracket c.close.0 c.t4 behind c.close.1) in
      record { same = tree_pair at left right ∙ (λ i. PairTree at (a.same i) (b.same i)) ∙ sym c.shape; left = one_rest close.1 c.close.1 b.left }
  agree (enclosed d e tokens mid after rest l opened s close) {k} {f} {others} {behind} u q h h' =
      let c = only_enclosed k f opened.0 mid behind (prim_at (Sign 40) opened.1 q u) in
      let a = agree s c.head refl (ends_close close.0 after rest close.1) (ends_close c.close.0 c.t2 behind c.close.1) in
      record { same = a.same; left = one_rest close.1 c.close.1 a.left }
  agree (turned d at of n tokens mid after rest s t cs) {k} {f} {others} {behind} u q h h' =
      let c = as_post u tt in
      let a = agree s c.head q (ap (begins 40) t) (ends_carets c.times c.mid behind c.signs h'.1) in
      let b = agree_carets (suc n) c.times mid c.mid rest behind (after, (at, t), cs) c.signs a.left h.0 h'.0 in
      record { same = tree_turned at of (suc n) ∙ ap (λ p. TurnedTree p (tree_of of.value) (suc n)) (sym (ap place_of_first t)) ∙ (λ i. post_tree (place_of_first (a.left i)) (a.same i) (b.0 i)) ∙ sym c.shape; left = b.1 }
  agree (negated d at of tokens mid rest l t s) {k} {f} {others} {behind} u q h h' =
      elim (as_unary u tt) as (λ _. Agrees (Minus at of) f rest behind) [
        | inl c ↦ (let a = agree s c.inner (one_rest t c.takes q) h h' in record { same = tree_minus at of ∙ (λ i. MinusTree (one_place t c.takes q i) (a.same i)) ∙ sym c.shape; left = a.left })
        | inr c ↦ absurd (false≢true (sym (no_minus c tt) ∙ ap (begins 45) (sym q ∙ t)))
      ]
  agree (chained l d first links tokens mid rest s p ls) {k} {f} {others} {behind} u q h h' =
      let c = as_chain u (linked_chains ls p) in
      let a = agree s c.head q (ends_links ls h) (ends_links c.tail h') in
      let b = agree_links ls c.tail a.left h h' in
      record { same = tree_chain first links ∙ chain_tree_of (tree_of first.value) links.items p ∙ (λ i. chain_tree (a.same i) (b.same i)) ∙ sym c.shape; left = b.left }
  agree (alone OrLevel d e tokens rest s) u q h h' =
      let c = as_chain u tt in
      let a = agree s c.head q (ends_tighter OrLevel rest h) (ends_links c.tail h') in
      let b = no_links_agree c.tail a.left h in
      record { same = (λ i. chain_tree (a.same i) (b.same i)) ∙ sym c.shape; left = b.left }
  agree (alone AndLevel d e tokens rest s) u q h h' =
      let c = as_chain u tt in
      let a = agree s c.head q (ends_tighter AndLevel rest h) (ends_links c.tail h') in
      let b = no_links_agree c.tail a.left h in
      record { same = (λ i. chain_tree (a.same i) (b.same i)) ∙ sym c.shape; left = b.left }
  agree (alone ProdLevel d e tokens rest s) u q h h' =
      let c = as_chain u tt in
      let a = agree s c.head q (ends_tighter ProdLevel rest h) (ends_links c.tail h') in
      let b = no_links_agree c.tail a.left h in
      record { same = (λ i. chain_tree (a.same i) (b.same i)) ∙ sym c.shape; left = b.left }
  agree (alone UnaryLevel d e tokens rest s) {k} {f} {others} {behind} u q h h' =
      elim (as_unary u tt) as (λ _. Agrees e f rest behind) [
        | inl c ↦ absurd (false≢true (sym (no_minus s tt) ∙ ap (begins 45) (q ∙ c.takes)))
        | inr c ↦ agree s c q h h'
      ]
  agree (alone PostLevel d e tokens rest s) {k} {f} {others} {behind} u q h h' =
      let c = as_post u tt in
      let a = agree s c.head q h.1 (ends_carets c.times c.mid behind c.signs h'.1) in
      let b = agree_carets 0 c.times rest c.mid rest behind refl c.signs a.left h.0 h'.0 in
      record { same = (λ i. post_tree (place_of_first (a.left i)) (a.same i) (b.0 i)) ∙ sym c.shape; left = b.1 }
  agree (alone PrimLevel d e tokens rest s) u q h h' = agree s u q h h'

  agree_listed : {n d : ℕ} {es : List Expr} {tokens rest : List Token} → Listed n d es tokens rest → {m k : ℕ} {fs : List Expr} {others behind : List Token} → Listed m k fs others behind → tokens ≡ others
      → (at at' : Place) (x x' : List Token) → TakesAt at (Sign 41) rest x → TakesAt at' (Sign 41) behind x' → AgreesAll es fs rest behind
  agree_listed (no_more n d tokens rest e) (no_more m k others behind e') q at at' x x' t t' = record { same = refl; left = e ∙ q ∙ sym e' }
  agree_listed (no_more n d tokens rest e) (one_more m k y ys others mid after behind comma u us) q at at' x x' t t' = absurd (sign_differs 41 44 t comma.1 (e ∙ q) (λ z. absurd (omega (arith, z))))
  agree_listed (one_more n d y ys tokens mid after rest comma s ss) (no_more m k others behind e') q at at' x x' t t' = absurd (sign_differs 44 41 comma.1 t' (q ∙ sym e') (λ z. absurd (omega (arith, z))))
  agree_listed (one_more n d e es tokens mid after rest comma s ss) (one_more m k y ys others mid' after' behind comma' u us) q at at' x x' t t' =
      let a = agree s u (one_rest comma.1 comma'.1 q) (ends_args ss t) (ends_args us t') in
      let b = agree_listed ss us a.left at at' x x' t t' in
      record { same = (λ i. MoreTrees (a.same i) (b.same i)); left = b.left }

  agree_links : {l : Level} {d : ℕ} {xs : List Link} {tokens rest : List Token} → Linked l d xs tokens rest → {k : ℕ} {ys : List Link} {others behind : List Token} → Linked l k ys others behind → tokens ≡ others → Ends l rest → Ends l behind → AgreesAlong xs ys rest behind
  agree_links (no_link l d tokens rest e) us q h h' = no_links_agree us (e ∙ q) h
  agree_links (one_link l d x xs sign tokens mid after rest o t s ss) (no_link l' k others behind e) q h h' = absurd (goes_on l x.op sign x.at tokens mid o t (subst (Ends l) (e ∙ sym q) h'))
  agree_links (one_link l d x xs sign tokens mid after rest o t s ss) (one_link l' k y ys sign' others mid' after' behind o' t' u us) q h h' =
      let e = not_sign sign sign' (one_kind t t' q) in
      let a = agree s u (one_rest t t' q) (ends_links ss h) (ends_links us h') in
      let b = agree_links ss us a.left h h' in
      record { same = (λ i. MoreBranches (one_place t t' q i) (one_operator l x.op y.op sign o (subst (IsOperatorOf l y.op) (sym e) o') i) (a.same i) (b.same i)); left = b.left }
