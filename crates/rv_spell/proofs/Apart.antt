-- How an expression is taken apart by its first token, and what stands behind it: for each level one form that holds of all its expressions.
use Rattle.std.proofs.Common.{◌≡◌, ◌<◌, ◌⊎◌, inl, inr, ℕ, true, false, List, [], ◌∷◌, length, refl, sym, ap, ◌∙◌, subst, zero, suc, arith}
use Rattle.std.proofs.lemmas.Bool.{false≢true}
use Rattle.lang_model.specs.declared.syntax.Place.{Place}
use Rattle.lang_model.specs.declared.syntax.Op2.{Op2}
use Rattle.lang_model.specs.declared.syntax.Op2.TheVariants.{Or, And, Times, Under, Over}
use Rattle.lang_model.specs.declared.syntax.Base.{Base}
use Rattle.lang_model.specs.declared.syntax.Expr.{Expr, Base as BaseCall, Inject}
use Rattle.lang_model.specs.declared.syntax.Link.{Link}
use Rattle.lang_model.specs.declared.token.Kind.{Kind}
use Rattle.lang_model.specs.declared.token.Kind.TheVariants.{Base as BASE, Word, Sign}
use Rattle.lang_model.specs.declared.token.Token.{Token}
use Rattle.lang_model.specs.Taken.{TakesAt, Takes, Carets}
use Rattle.lang_model.specs.BaseNames.{Form, TakesOne, TakesTwo, TakesDomain, form_of}
use Rattle.lang_model.specs.Spelling.{Level, OrLevel, AndLevel, ProdLevel, UnaryLevel, PostLevel, PrimLevel, tighter, IsOperatorOf, Spelled, named, called, based, based_twice, injected, paired, enclosed, turned, negated, chained, alone, Listed, Linked, no_link, one_link}
use Rattle.rv_spell.specs.Again.{Ends}
use Rattle.rv_parse.specs.Readers.{begins}
use Rattle.lang_model.specs.Trees.{Tree, Branches, NameTree, CallTree, BaseTree, InjectTree, PairTree, MinusTree, TurnedTree, ChainTree, NoBranch, MoreBranches, tree_of, nowhere}
use Rattle.rv_parse.proofs.Fitting.{IsChains, is_chains}
use Rattle.rv_spell.proofs.Places.{trees_in, branches_in, tree_call, tree_base, tree_pair, tree_minus, tree_turned, tree_chain}

-- ---- what stands behind an expression
pub ends_tighter : (l : Level) (rest : List Token) → Ends l rest → Ends (tighter l) rest
ends_tighter OrLevel rest h = h.1
ends_tighter AndLevel rest h = h.1
ends_tighter ProdLevel rest h = h.1
ends_tighter UnaryLevel rest h = h
ends_tighter PostLevel rest h = h.1
ends_tighter PrimLevel rest h = h

pub ends_stop : (at : Place) (tokens rest : List Token) → TakesAt at (Sign 46) tokens rest → Ends OrLevel tokens
ends_stop at tokens rest t = subst (Ends OrLevel) (sym t) (refl, (refl, (refl, (refl, refl))))

pub ends_comma : (at : Place) (tokens rest : List Token) → TakesAt at (Sign 44) tokens rest → Ends OrLevel tokens
ends_comma at tokens rest t = subst (Ends OrLevel) (sym t) (refl, (refl, (refl, (refl, refl))))

pub ends_close : (at : Place) (tokens rest : List Token) → TakesAt at (Sign 41) tokens rest → Ends OrLevel tokens
ends_close at tokens rest t = subst (Ends OrLevel) (sym t) (refl, (refl, (refl, (refl, refl))))

pub ends_bracket : (at : Place) (tokens rest : List Token) → TakesAt at (Sign 93) tokens rest → Ends OrLevel tokens
ends_bracket at tokens rest t = subst (Ends OrLevel) (sym t) (refl, (refl, (refl, (refl, refl))))

-- an operator of a level does not go on with its operands
pub ends_operand : (l : Level) (op : Op2) (sign : ℕ) (at : Place) (tokens rest : List Token) → IsOperatorOf l op sign → TakesAt at (Sign sign) tokens rest → Ends (tighter l) tokens
ends_operand OrLevel Or sign at tokens rest o t = subst (Ends AndLevel) (sym t) (subst (λ s. Ends AndLevel (record { at = at; kind = Sign s } ∷ rest)) (sym o) (refl, (refl, (refl, refl))))
ends_operand AndLevel And sign at tokens rest o t = subst (Ends ProdLevel) (sym t) (subst (λ s. Ends ProdLevel (record { at = at; kind = Sign s } ∷ rest)) (sym o) (refl, (refl, refl)))
ends_operand ProdLevel Times sign at tokens rest o t = subst (Ends UnaryLevel) (sym t) (subst (λ s. Ends UnaryLevel (record { at = at; kind = Sign s } ∷ rest)) (sym o) (refl, refl))
ends_operand ProdLevel Under sign at tokens rest o t = subst (Ends UnaryLevel) (sym t) (subst (λ s. Ends UnaryLevel (record { at = at; kind = Sign s } ∷ rest)) (sym o) (refl, refl))
ends_operand ProdLevel Over sign at tokens rest o t = subst (Ends UnaryLevel) (sym t) (subst (λ s. Ends UnaryLevel (record { at = at; kind = Sign s } ∷ rest)) (sym o) (refl, refl))
ends_operand _ _ sign at tokens rest o t = absurd o

-- it goes on with a chain of its level
pub goes_on : (l : Level) (op : Op2) (sign : ℕ) (at : Place) (tokens rest : List Token) → IsOperatorOf l op sign → TakesAt at (Sign sign) tokens rest → Ends l tokens → ⊥
goes_on OrLevel Or sign at tokens rest o t h = false≢true (sym h.0 ∙ rw t (rw o refl))
goes_on AndLevel And sign at tokens rest o t h = false≢true (sym h.0 ∙ rw t (rw o refl))
goes_on ProdLevel Times sign at tokens rest o t h = false≢true (sym h.0 ∙ rw t (rw o refl))
goes_on ProdLevel Under sign at tokens rest o t h = false≢true (sym h.0 ∙ rw t (rw o refl))
goes_on ProdLevel Over sign at tokens rest o t h = false≢true (sym h.0 ∙ rw t (rw o refl))
goes_on _ _ sign at tokens rest o t h = o

-- a sign has one operator of a level
pub one_operator : (l : Level) (op other : Op2) (sign : ℕ) → IsOperatorOf l op sign → IsOperatorOf l other sign → op ≡ other
one_operator OrLevel Or Or sign h k = refl
one_operator AndLevel And And sign h k = refl
one_operator ProdLevel Times Times sign h k = refl
one_operator ProdLevel Times Under sign h k = absurd (omega (arith, h, k))
one_operator ProdLevel Times Over sign h k = absurd (omega (arith, h, k))
one_operator ProdLevel Under Times sign h k = absurd (omega (arith, h, k))
one_operator ProdLevel Under Under sign h k = refl
one_operator ProdLevel Under Over sign h k = absurd (omega (arith, h, k))
one_operator ProdLevel Over Times sign h k = absurd (omega (arith, h, k))
one_operator ProdLevel Over Under sign h k = absurd (omega (arith, h, k))
one_operator ProdLevel Over Over sign h k = refl
one_operator OrLevel Or And sign h k = absurd k
one_operator OrLevel Or Times sign h k = absurd k
one_operator OrLevel Or Under sign h k = absurd k
one_operator OrLevel Or Over sign h k = absurd k
one_operator AndLevel And Or sign h k = absurd k
one_operator AndLevel And Times sign h k = absurd k
one_operator AndLevel And Under sign h k = absurd k
one_operator AndLevel And Over sign h k = absurd k
one_operator ProdLevel Times Or sign h k = absurd k
one_operator ProdLevel Times And sign h k = absurd k
one_operator ProdLevel Under Or sign h k = absurd k
one_operator ProdLevel Under And sign h k = absurd k
one_operator ProdLevel Over Or sign h k = absurd k
one_operator ProdLevel Over And sign h k = absurd k
one_operator _ _ other sign h k = absurd h

-- ---- first tokens
abbrev pub kind_of_first : List Token → Kind → Kind
kind_of_first [] kind = kind
kind_of_first (t ∷ ts) kind = t.kind

abbrev pub place_of_first : List Token → Place
place_of_first [] = nowhere
place_of_first (t ∷ ts) = t.at

abbrev pub behind_first : List Token → List Token
behind_first [] = []
behind_first (t ∷ ts) = ts

-- the same tokens begin with the same one
pub one_kind : {at at' : Place} {kind kind' : Kind} {ts ts' rest rest' : List Token} → TakesAt at kind ts rest → TakesAt at' kind' ts' rest' → ts ≡ ts' → kind ≡ kind'
one_kind {at} {at'} {kind} {kind'} {ts} {ts'} {rest} {rest'} t t' e = ap (λ z. kind_of_first z kind) (sym t ∙ e ∙ t')

pub one_place : {at at' : Place} {kind kind' : Kind} {ts ts' rest rest' : List Token} → TakesAt at kind ts rest → TakesAt at' kind' ts' rest' → ts ≡ ts' → at ≡ at'
one_place {at} {at'} {kind} {kind'} {ts} {ts'} {rest} {rest'} t t' e = ap place_of_first (sym t ∙ e ∙ t')

pub one_rest : {at at' : Place} {kind kind' : Kind} {ts ts' rest rest' : List Token} → TakesAt at kind ts rest → TakesAt at' kind' ts' rest' → ts ≡ ts' → rest ≡ rest'
one_rest {at} {at'} {kind} {kind'} {ts} {ts'} {rest} {rest'} t t' e = ap behind_first (sym t ∙ e ∙ t')

pub opened_call : {at : Place} {ts rest : List Token} → TakesAt at (Sign 40) ts rest → begins 40 ts ≡ false → ⊥
opened_call t k = false≢true (sym k ∙ ap (begins 40) t)

pub not_sign : (s u : ℕ) → Sign s ≡ Sign u → s ≡ u
not_sign s u e = cc

-- a word has one text
pub one_word : (v w : List ℕ) → Word v ≡ Word w → v ≡ w
one_word v w e = cc

-- ---- how an expression of a level is taken apart
-- the levels of a prefix -, of signs ^, and of what is tightest
abbrev pub IsUnary : Level → Type 0
IsUnary UnaryLevel = Unit {0}
IsUnary _ = ⊥

abbrev pub IsPost : Level → Type 0
IsPost PostLevel = Unit {0}
IsPost _ = ⊥

abbrev pub IsPrim : Level → Type 0
IsPrim PrimLevel = Unit {0}
IsPrim _ = ⊥

pub prim_tighter : (l : Level) → IsPrim l → IsPrim (tighter l)
prim_tighter PrimLevel h = tt
prim_tighter _ h = absurd h

pub no_chains_unary : (l : Level) → IsChains l → IsUnary l → ⊥
no_chains_unary UnaryLevel c h = c
no_chains_unary _ c h = h

pub no_chains_post : (l : Level) → IsChains l → IsPost l → ⊥
no_chains_post PostLevel c h = c
no_chains_post _ c h = h

pub no_chains_prim : (l : Level) → IsChains l → IsPrim l → ⊥
no_chains_prim PrimLevel c h = c
no_chains_prim _ c h = h

pub linked_chains : {l : Level} {d : ℕ} {xs : List Link} {tokens rest : List Token} → Linked l d xs tokens rest → 0 < length xs → IsChains l
linked_chains (no_link l d tokens rest e) p = absurd (omega arith)
linked_chains (one_link l d x xs sign tokens mid after rest o t s ls) p = is_chains l x.op sign o

-- a first operand with links, if there are any
abbrev pub chain_tree : Tree → Branches → Tree
chain_tree t NoBranch = t
chain_tree t (MoreBranches at op right more) = ChainTree t (MoreBranches at op right more)

pub chain_tree_of : (t : Tree) (xs : List Link) → 0 < length xs → ChainTree t (branches_in xs) ≡ chain_tree t (branches_in xs)
chain_tree_of t [] p = absurd (omega arith)
chain_tree_of t (x ∷ xs) p = refl

pub record Chained (l : Level) (d : ℕ) (e : Expr) (tokens rest : List Token) : Type 0 where
  pub first : Expr
  pub links : List Link
  pub mid : List Token
  pub head : Spelled (tighter l) d first tokens mid
  pub tail : Linked l d links mid rest
  pub shape : tree_of e ≡ chain_tree (tree_of first) (branches_in links)

-- on a level of chains an expression is an operand with links behind it, or without any: by how it is spelled, as the
-- other lines of the grammar stand on other levels
pub as_chain : {l : Level} {d : ℕ} {e : Expr} {tokens rest : List Token} → Spelled l d e tokens rest → IsChains l → Chained l d e tokens rest
as_chain (named d at text tokens rest t) h = absurd h
as_chain (called d at text args first more tokens t1 t2 t3 t4 rest l q t _ _ _ _) h = absurd h
as_chain (based d at base args x tokens t1 t2 t3 rest l f q t _ _ _) h = absurd h
as_chain (based_twice d at base args x y tokens t1 t2 t3 t4 t5 rest l f q t _ _ _ _ _) h = absurd h
as_chain (injected d at base domain tokens t1 t2 t3 rest l f t _ _ _) h = absurd h
as_chain (paired d at left right tokens t1 t2 t3 t4 rest l t _ _ _ _) h = absurd h
as_chain (enclosed d x tokens mid after rest l _ _ _) h = absurd h
as_chain (turned d at of n tokens mid after rest s t cs) h = absurd h
as_chain (negated d at of tokens mid rest l t s) h = absurd h
as_chain (chained l d first links tokens mid rest s p ls) h = record { first = first.value; links = links.items; mid = mid; head = s; tail = ls; shape = tree_chain first links ∙ chain_tree_of (tree_of first.value) links.items p }
as_chain (alone l d x tokens rest s) h = record { first = x; links = []; mid = rest; head = s; tail = no_link l d rest rest refl; shape = refl }

pub record Negated (d : ℕ) (e : Expr) (tokens rest : List Token) : Type 0 where
  pub of : Expr
  pub at : Place
  pub mid : List Token
  pub takes : TakesAt at (Sign 45) tokens mid
  pub inner : Spelled UnaryLevel (suc d) of mid rest
  pub shape : tree_of e ≡ MinusTree at (tree_of of)

-- on the level of a prefix - an expression begins with that sign, or it is one of the next tighter level
pub as_unary : {l : Level} {d : ℕ} {e : Expr} {tokens rest : List Token} → Spelled l d e tokens rest → IsUnary l → Negated d e tokens rest ⊎ Spelled (tighter l) d e tokens rest
as_unary (named d at text tokens rest t) h = absurd h
as_unary (called d at text args first more tokens t1 t2 t3 t4 rest l q t _ _ _ _) h = absurd h
as_unary (based d at base args x tokens t1 t2 t3 rest l f q t _ _ _) h = absurd h
as_unary (based_twice d at base args x y tokens t1 t2 t3 t4 t5 rest l f q t _ _ _ _ _) h = absurd h
as_unary (injected d at base domain tokens t1 t2 t3 rest l f t _ _ _) h = absurd h
as_unary (paired d at left right tokens t1 t2 t3 t4 rest l t _ _ _ _) h = absurd h
as_unary (enclosed d x tokens mid after rest l _ _ _) h = absurd h
as_unary (turned d at of n tokens mid after rest s t cs) h = absurd h
as_unary (negated d at of tokens mid rest l t s) h = inl (record { of = of.value; at = at; mid = mid; takes = t; inner = s; shape = tree_minus at of })
as_unary (chained l d first links tokens mid rest s p ls) h = absurd (no_chains_unary l (linked_chains ls p) h)
as_unary (alone l d x tokens rest s) h = inr s

-- an expression with signs ^ behind it, if there are any, the first at this place
abbrev pub post_tree : Place → Tree → ℕ → Tree
post_tree at t zero = t
post_tree at t (suc n) = TurnedTree at t (suc n)

pub record Posted (l : Level) (d : ℕ) (e : Expr) (tokens rest : List Token) : Type 0 where
  pub of : Expr
  pub times : ℕ
  pub mid : List Token
  pub head : Spelled (tighter l) d of tokens mid
  pub signs : Carets times mid rest
  pub shape : tree_of e ≡ post_tree (place_of_first mid) (tree_of of) times

-- on the level of signs ^ it is an expression of the tightest level with signs behind it, or without any
pub as_post : {l : Level} {d : ℕ} {e : Expr} {tokens rest : List Token} → Spelled l d e tokens rest → IsPost l → Posted l d e tokens rest
as_post (named d at text tokens rest t) h = absurd h
as_post (called d at text args first more tokens t1 t2 t3 t4 rest l q t _ _ _ _) h = absurd h
as_post (based d at base args x tokens t1 t2 t3 rest l f q t _ _ _) h = absurd h
as_post (based_twice d at base args x y tokens t1 t2 t3 t4 t5 rest l f q t _ _ _ _ _) h = absurd h
as_post (injected d at base domain tokens t1 t2 t3 rest l f t _ _ _) h = absurd h
as_post (paired d at left right tokens t1 t2 t3 t4 rest l t _ _ _ _) h = absurd h
as_post (enclosed d x tokens mid after rest l _ _ _) h = absurd h
as_post (turned d at of n tokens mid after rest s t cs) h = record { of = of.value; times = suc n; mid = mid; head = s; signs = (after, (at, t), cs); shape = tree_turned at of (suc n) ∙ ap (λ p. TurnedTree p (tree_of of.value) (suc n)) (sym (ap place_of_first t)) }
as_post (negated d at of tokens mid rest l t s) h = absurd h
as_post (chained l d first links tokens mid rest s p ls) h = absurd (no_chains_post l (linked_chains ls p) h)
as_post (alone l d x tokens rest s) h = record { of = x; times = 0; mid = rest; head = s; signs = refl; shape = refl }

pub record CalledWith (d : ℕ) (e : Expr) (at : Place) (text : List ℕ) (t1 rest : List Token) : Type 0 where
  pub first : Expr
  pub more : List Expr
  pub t2 : List Token
  pub t3 : List Token
  pub t4 : List Token
  pub opened : Takes (Sign 40) t1 t2
  pub head : Spelled OrLevel (suc d) first t2 t3
  pub tail : Listed 15 (suc d) more t3 t4
  pub close : Takes (Sign 41) t4 rest
  pub shape : tree_of e ≡ CallTree at text (trees_in (first ∷ more))

pub record OneOf (d : ℕ) (e : Expr) (at : Place) (base : Base) (t1 rest : List Token) : Type 0 where
  pub first : Expr
  pub t2 : List Token
  pub t3 : List Token
  pub opened : Takes (Sign 40) t1 t2
  pub head : Spelled OrLevel (suc d) first t2 t3
  pub close : Takes (Sign 41) t3 rest
  pub shape : tree_of e ≡ BaseTree at base (trees_in (first ∷ []))

pub record TwoOf (d : ℕ) (e : Expr) (at : Place) (base : Base) (t1 rest : List Token) : Type 0 where
  pub first : Expr
  pub second : Expr
  pub t2 : List Token
  pub t3 : List Token
  pub t4 : List Token
  pub t5 : List Token
  pub opened : Takes (Sign 40) t1 t2
  pub head : Spelled OrLevel (suc d) first t2 t3
  pub comma : Takes (Sign 44) t3 t4
  pub tail : Spelled OrLevel (suc d) second t4 t5
  pub close : Takes (Sign 41) t5 rest
  pub shape : tree_of e ≡ BaseTree at base (trees_in (first ∷ second ∷ []))

pub record DomainOf (d : ℕ) (e : Expr) (at : Place) (base : Base) (t1 rest : List Token) : Type 0 where
  pub domain : List ℕ
  pub t2 : List Token
  pub t3 : List Token
  pub opened : Takes (Sign 40) t1 t2
  pub name : Takes (Word domain) t2 t3
  pub close : Takes (Sign 41) t3 rest
  pub shape : tree_of e ≡ InjectTree at base domain

pub record EnclosedIn (d : ℕ) (e : Expr) (t1 rest : List Token) : Type 0 where
  pub t2 : List Token
  pub head : Spelled OrLevel (suc d) e t1 t2
  pub close : Takes (Sign 41) t2 rest

pub record PairedIn (d : ℕ) (e : Expr) (at : Place) (t1 rest : List Token) : Type 0 where
  pub first : Expr
  pub second : Expr
  pub t2 : List Token
  pub t3 : List Token
  pub t4 : List Token
  pub head : Spelled OrLevel (suc d) first t1 t2
  pub comma : Takes (Sign 44) t2 t3
  pub tail : Spelled OrLevel (suc d) second t3 t4
  pub close : Takes (Sign 93) t4 rest
  -- its tree is the pair of their trees
  pub shape : tree_of e ≡ PairTree at (tree_of first) (tree_of second)

-- what stands behind a base name or a domain operator, by its form
abbrev pub BasedOn : Form → ℕ → Expr → Place → Base → List Token → List Token → Type 0
BasedOn TakesOne d e at base t1 rest = OneOf d e at base t1 rest
BasedOn TakesTwo d e at base t1 rest = TwoOf d e at base t1 rest
BasedOn TakesDomain d e at base t1 rest = DomainOf d e at base t1 rest

-- what stands behind the first token, by its place and kind
abbrev pub PrimShape : ℕ → Expr → Place → Kind → List Token → List Token → Type 0
PrimShape d e at (Word text) t1 rest = ((tree_of e ≡ NameTree at text) × (rest ≡ t1)) ⊎ CalledWith d e at text t1 rest
PrimShape d e at (BASE base) t1 rest = BasedOn (form_of base) d e at base t1 rest
PrimShape d e at (Sign s) t1 rest = ((s ≡ 40) × EnclosedIn d e t1 rest) ⊎ ((s ≡ 91) × PairedIn d e at t1 rest)
PrimShape d e at _ t1 rest = ⊥

pub record Primed (d : ℕ) (e : Expr) (tokens rest : List Token) : Type 0 where
  pub at : Place
  pub kind : Kind
  pub t1 : List Token
  pub takes : TakesAt at kind tokens t1
  pub shape : PrimShape d e at kind t1 rest

-- on the tightest level the first token tells the form: a name, alone or before arguments; a base name or domain
-- operator; a parenthesis; or a bracket
pub as_prim : {l : Level} {d : ℕ} {e : Expr} {tokens rest : List Token} → Spelled l d e tokens rest → IsPrim l → Primed d e tokens rest
as_prim (named d at text tokens rest t) h = record { at = at; kind = Word text; t1 = rest; takes = t; shape = inl (refl, refl) }
as_prim (called d at text args first more tokens t1 t2 t3 t4 rest l q t opened s ls close) h = record {
  at = at;
  kind = Word text;
  t1 = t1;
  takes = t;
  shape = inr (record { first = first; more = more; t2 = t2; t3 = t3; t4 = t4; opened = opened; head = s; tail = ls; close = close; shape = tree_call at text args ∙ ap (λ es. CallTree at text (trees_in es)) q });
}
as_prim (based d at base args x tokens t1 t2 t3 rest l f q t opened s close) h = record {
  at = at;
  kind = BASE base;
  t1 = t1;
  takes = t;
  shape = subst (λ z. BasedOn z d (BaseCall at base args) at base t1 rest) (sym f) (record { first = x; t2 = t2; t3 = t3; opened = opened; head = s; close = close; shape = tree_base at base args ∙ ap (λ es. BaseTree at base (trees_in es)) q });
}
as_prim (based_twice d at base args x y tokens t1 t2 t3 t4 t5 rest l f q t opened s comma u close) h = record {
  at = at;
  kind = BASE base;
  t1 = t1;
  takes = t;
  shape = subst (λ z. BasedOn z d (BaseCall at base args) at base t1 rest) (sym f) (record { first = x; second = y; t2 = t2; t3 = t3; t4 = t4; t5 = t5; opened = opened; head = s; comma = comma; tail = u; close = close; shape = tree_base at base args ∙ ap (λ es. BaseTree at base (trees_in es)) q });
}
as_prim (injected d at base domain tokens t1 t2 t3 rest l f t opened name close) h = record {
  at = at;
  kind = BASE base;
  t1 = t1;
  takes = t;
  shape = subst (λ z. BasedOn z d (Inject at base domain) at base t1 rest) (sym f) (record { domain = domain; t2 = t2; t3 = t3; opened = opened; name = name; close = close; shape = refl });
}
as_prim (paired d at left right tokens t1 t2 t3 t4 rest l t s comma u close) h = record {
  at = at;
  kind = Sign 91;
  t1 = t1;
  takes = t;
  shape = inr (refl, record { first = left.value; second = right.value; t2 = t2; t3 = t3; t4 = t4; head = s; comma = comma; tail = u; close = close; shape = tree_pair at left right });
}
as_prim (enclosed d x tokens mid after rest l opened s close) h = record { at = opened.0; kind = Sign 40; t1 = mid; takes = opened.1; shape = inl (refl, record { t2 = after; head = s; close = close }) }
as_prim (turned d at of n tokens mid after rest s t cs) h = absurd h
as_prim (negated d at of tokens mid rest l t s) h = absurd h
as_prim (chained l d first links tokens mid rest s p ls) h = absurd (no_chains_prim l (linked_chains ls p) h)
as_prim (alone l d x tokens rest s) h = as_prim s (prim_tighter l h)

-- the same by a first token that is known
pub prim_at : {at : Place} {d : ℕ} {e : Expr} {tokens others t1 rest : List Token} (kind : Kind) → TakesAt at kind tokens t1 → tokens ≡ others → Spelled PrimLevel d e others rest → PrimShape d e at kind t1 rest
prim_at {at} {d} {e} {tokens} {others} {t1} {rest} kind t q s =
    let v = as_prim s tt in
    subst (λ p. PrimShape d e p kind t1 rest) (sym (one_place t v.takes q)) (subst (λ k. PrimShape d e v.at k t1 rest) (sym (one_kind t v.takes q)) (subst (λ z. PrimShape d e v.at v.kind z rest) (sym (one_rest t v.takes q)) v.shape))

pub only_name : (d : ℕ) (e : Expr) (at : Place) (text : List ℕ) (t1 rest : List Token) → PrimShape d e at (Word text) t1 rest → begins 40 t1 ≡ false → (tree_of e ≡ NameTree at text) × (rest ≡ t1)
only_name d e at text t1 rest (inl x) h = x
only_name d e at text t1 rest (inr c) h = absurd (opened_call c.opened.1 h)

pub only_call : (d : ℕ) (e : Expr) (at : Place) (text : List ℕ) (t1 rest : List Token) → PrimShape d e at (Word text) t1 rest → begins 40 t1 ≡ true → begins 40 rest ≡ false → CalledWith d e at text t1 rest
only_call d e at text t1 rest (inl x) h k = absurd (false≢true (sym k ∙ ap (begins 40) x.1 ∙ h))
only_call d e at text t1 rest (inr c) h k = c

pub only_enclosed : (d : ℕ) (e : Expr) (at : Place) (t1 rest : List Token) → PrimShape d e at (Sign 40) t1 rest → EnclosedIn d e t1 rest
only_enclosed d e at t1 rest (inl x) = x.1
only_enclosed d e at t1 rest (inr x) = let h : 40 ≡ 91 = x.0 in absurd (omega (arith, h))

pub only_pair : (d : ℕ) (e : Expr) (at : Place) (t1 rest : List Token) → PrimShape d e at (Sign 91) t1 rest → PairedIn d e at t1 rest
only_pair d e at t1 rest (inl x) = let h : 91 ≡ 40 = x.0 in absurd (omega (arith, h))
only_pair d e at t1 rest (inr x) = x.1
