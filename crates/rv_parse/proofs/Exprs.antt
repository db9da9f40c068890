-- One step of the readers of expressions each: an expression goes on as its first operand.
use Rattle.std.proofs.Common.{◌≡◌, ◌<◌, ◌+◌, ◌-◌, ℕ, false, List, [], ◌∷◌, ◌++◌, length, Some, refl, sym, ap, ◌∙◌, subst, suc, append_assoc, add-one, arith, length-append, Result, Ok, Err, MatchResult, Bor}
use Rattle.std.proofs.lemmas.Bool.{lt-ltb}
use Rattle.std.proofs.lemmas.List.{append-nil}
use Rattle.std.specs.declared.boxed.Box.{Box}
use Rattle.std.specs.declared.alloc.Global.{Global}
use Rattle.lang_model.specs.declared.syntax.Place.{Place}
use Rattle.lang_model.specs.declared.syntax.Expr.{Expr, Minus, Turned}
use Rattle.lang_model.specs.declared.syntax.Link.{Link}
use Rattle.lang_model.specs.declared.faults.What.TheVariants.{Expression}
use Rattle.lang_model.specs.declared.token.Kind.TheVariants.{Sign}
use Rattle.lang_model.specs.declared.token.Token.{Token}
use Rattle.lang_model.specs.Taken.{TakesAt, Takes, Carets}
use Rattle.lang_model.specs.Limits.{nesting_limit}
use Rattle.lang_model.specs.Lexed.{Ending, EndsAt, Broken}
use Rattle.lang_model.specs.Spelling.{Level, OrLevel, AndLevel, ProdLevel, UnaryLevel, PostLevel, PrimLevel, tighter, Spelled, Listed, Linked, turned, negated, alone, no_more, one_more, no_link, one_link}
use Rattle.lang_model.specs.Stop.{Part, ExprPart, MoreLinks, MoreCarets, MoreArgs, Step, NotBegun, Instead, Deeper, Behind, followed, first_of, fault_at, expr_step, unary_step, prim_step, stop_of}
use Rattle.rv_parse.specs.Readers.{Reads, Refuses, begins, level_of, IsLink, IsRead}
use Rattle.rv_parse.specs.declared.halt.Halt.{Halt}
use Rattle.rv_parse.specs.declared.operators.Chains.{Chains}
use Rattle.rv_parse.specs.declared.operators.Chains.TheVariants.{Or, And, Prod}
use Rattle.rv_parse.proofs.Optional.{enter_args, last_args, drop_carets, enter_carets}

-- how far chains and their operands are from the tightest part of an expression
abbrev pub chain_rank : Chains → ℕ
chain_rank Or = 11
chain_rank And = 9
chain_rank Prod = 7

-- ---- the levels
-- what is entered and followed is entered before what follows
joined : (s : Step) (more behind : List Part) (o other : Step) → first_of (followed more s) (Some Expression) behind o ≡ first_of s (Some Expression) (more ++ behind) other
joined NotBegun more behind o other = refl
joined (Instead what) more behind o other = refl
joined Deeper more behind o other = refl
joined (Behind parts) more behind o other = ap Behind (append_assoc parts more behind)

pub or_enters : (d : ℕ) (tokens : List Token) (e : Ending) (behind : List Part) → stop_of (ExprPart OrLevel d ∷ behind) tokens e ≡ stop_of (ExprPart AndLevel d ∷ MoreLinks OrLevel d ∷ behind) tokens e
or_enters d [] (EndsAt place) behind = refl
or_enters d [] (Broken fault) behind = refl
or_enters d (t ∷ ts) e behind = ap (λ s. fault_at t.at Expression s (λ next. stop_of next ts e)) (joined (expr_step AndLevel d t.kind) (MoreLinks OrLevel d ∷ []) behind _ _)

pub and_enters : (d : ℕ) (tokens : List Token) (e : Ending) (behind : List Part) → stop_of (ExprPart AndLevel d ∷ behind) tokens e ≡ stop_of (ExprPart ProdLevel d ∷ MoreLinks AndLevel d ∷ behind) tokens e
and_enters d [] (EndsAt place) behind = refl
and_enters d [] (Broken fault) behind = refl
and_enters d (t ∷ ts) e behind = ap (λ s. fault_at t.at Expression s (λ next. stop_of next ts e)) (joined (expr_step ProdLevel d t.kind) (MoreLinks AndLevel d ∷ []) behind _ _)

pub prod_enters : (d : ℕ) (tokens : List Token) (e : Ending) (behind : List Part) → stop_of (ExprPart ProdLevel d ∷ behind) tokens e ≡ stop_of (ExprPart UnaryLevel d ∷ MoreLinks ProdLevel d ∷ behind) tokens e
prod_enters d [] (EndsAt place) behind = refl
prod_enters d [] (Broken fault) behind = refl
prod_enters d (t ∷ ts) e behind = ap (λ s. fault_at t.at Expression s (λ next. stop_of next ts e)) (joined (unary_step d t.kind) (MoreLinks ProdLevel d ∷ []) behind _ _)

pub post_enters : (d : ℕ) (tokens : List Token) (e : Ending) (behind : List Part) → stop_of (ExprPart PostLevel d ∷ behind) tokens e ≡ stop_of (ExprPart PrimLevel d ∷ MoreCarets ∷ behind) tokens e
post_enters d [] (EndsAt place) behind = refl
post_enters d [] (Broken fault) behind = refl
post_enters d (t ∷ ts) e behind = ap (λ s. fault_at t.at Expression s (λ next. stop_of next ts e)) (joined (prim_step d t.kind) (MoreCarets ∷ []) behind _ _)

pub unary_is_post : (d : ℕ) (tokens : List Token) (e : Ending) (behind : List Part) → begins 45 tokens ≡ false → stop_of (ExprPart UnaryLevel d ∷ behind) tokens e ≡ stop_of (ExprPart PostLevel d ∷ behind) tokens e
unary_is_post d [] (EndsAt place) behind h = refl
unary_is_post d [] (Broken fault) behind h = refl
unary_is_post d (t ∷ ts) e behind h = rw h refl

pub unary_negates : (d : ℕ) (at : Place) (tokens rest : List Token) (e : Ending) (behind : List Part) → TakesAt at (Sign 45) tokens rest → d < nesting_limit → stop_of (ExprPart UnaryLevel d ∷ behind) tokens e ≡ stop_of (ExprPart UnaryLevel (suc d) ∷ behind) rest e
unary_negates d at tokens rest e behind t l = rw t (rw (lt-ltb d 40 l) refl)

pub chain_enters : (v : Chains) (d : ℕ) (tokens : List Token) (e : Ending) (behind : List Part) → stop_of (ExprPart (level_of v) d ∷ behind) tokens e ≡ stop_of (ExprPart (tighter (level_of v)) d ∷ MoreLinks (level_of v) d ∷ behind) tokens e
chain_enters Or d tokens e behind = or_enters d tokens e behind
chain_enters And d tokens e behind = and_enters d tokens e behind
chain_enters Prod d tokens e behind = prod_enters d tokens e behind

-- ---- signs ^
pub post_plain : (e : Ending) (d : ℕ) (x : Expr) (tokens rest : List Token) → IsRead e PrimLevel d x tokens rest → begins 94 rest ≡ false → IsRead e PostLevel d x tokens rest
post_plain e d x tokens rest p h = record {
  spelled = alone PostLevel d x tokens rest p.spelled;
  shorter = p.shorter;
  read = λ behind. post_enters d tokens e behind ∙ p.read (MoreCarets ∷ behind) ∙ drop_carets rest e behind h;
}

pub post_turned : (e : Ending) (d n : ℕ) (at : Place) (b : Box Expr Global) (tokens mid after rest : List Token) → IsRead e PrimLevel d b.value tokens mid → TakesAt at (Sign 94) mid after → Carets n after rest → n + length rest ≡ length after → Reads e (MoreCarets ∷ []) after rest → IsRead e PostLevel d (Turned at b (n + 1)) tokens rest
post_turned e d n at b tokens mid after rest p sign s k r = record {
  spelled = subst (λ z. Spelled PostLevel d (Turned at b z) tokens rest) (sym (add-one n)) (turned d at b n tokens mid after rest p.spelled sign s);
  shorter = omega (arith, p.shorter, ap length sign, k);
  read = λ behind. post_enters d tokens e behind ∙ p.read (MoreCarets ∷ behind) ∙ enter_carets at mid after e behind sign ∙ r behind;
}

pub post_no_prim : (e : Ending) (d : ℕ) (tokens : List Token) (h : Halt) → Refuses e (ExprPart PrimLevel d ∷ []) tokens h → Refuses e (ExprPart PostLevel d ∷ []) tokens h
post_no_prim e d tokens h r = λ n behind. post_enters d tokens e behind ∙ r n (MoreCarets ∷ behind)

-- ---- a prefix -
pub unary_minus : (e : Ending) (d n : ℕ) (at : Place) (b : Box Expr Global) (tokens mid rest : List Token) → n ≡ suc d → d < nesting_limit → TakesAt at (Sign 45) tokens mid → IsRead e UnaryLevel n b.value mid rest → IsRead e UnaryLevel d (Minus at b) tokens rest
unary_minus e d n at b tokens mid rest eq l sign of = record {
  spelled = negated d at b tokens mid rest l sign (subst (λ k. Spelled UnaryLevel k b.value mid rest) eq of.spelled);
  shorter = omega (arith, ap length sign, of.shorter);
  read = λ behind. unary_negates d at tokens mid e behind sign l ∙ ap (λ k. stop_of (ExprPart UnaryLevel k ∷ behind) mid e) (sym eq) ∙ of.read behind;
}

pub unary_no_operand : (e : Ending) (d n : ℕ) (at : Place) (tokens mid : List Token) (h : Halt) → n ≡ suc d → d < nesting_limit → TakesAt at (Sign 45) tokens mid → Refuses e (ExprPart UnaryLevel n ∷ []) mid h → Refuses e (ExprPart UnaryLevel d ∷ []) tokens h
unary_no_operand e d n at tokens mid h eq l sign r = λ q behind. unary_negates d at tokens mid e behind sign l ∙ ap (λ k. stop_of (ExprPart UnaryLevel k ∷ behind) mid e) (sym eq) ∙ r q behind

unary_post : (e : Ending) (d : ℕ) (x : Expr) (tokens rest : List Token) → begins 45 tokens ≡ false → IsRead e PostLevel d x tokens rest → IsRead e UnaryLevel d x tokens rest
unary_post e d x tokens rest h p = record {
  spelled = alone UnaryLevel d x tokens rest p.spelled;
  shorter = p.shorter;
  read = λ behind. unary_is_post d tokens e behind h ∙ p.read behind;
}

pub unary_by_post : (e : Ending) (d : ℕ) (tokens : List Token) (r : Result (Expr × Bor (List Token)) Halt) → begins 45 tokens ≡ false → MatchResult r (λ x. IsRead e PostLevel d x.0 tokens x.1.now) (Refuses e (ExprPart PostLevel d ∷ []) tokens) → MatchResult r (λ x. IsRead e UnaryLevel d x.0 tokens x.1.now) (Refuses e (ExprPart UnaryLevel d ∷ []) tokens)
unary_by_post e d tokens (Ok x) h p = unary_post e d x.0 tokens x.1.now h p
unary_by_post e d tokens (Err halt) h p = λ n behind. unary_is_post d tokens e behind h ∙ p n behind

-- ---- chains
pub chain_no_first : (e : Ending) (v : Chains) (d : ℕ) (tokens : List Token) (h : Halt) → Refuses e (ExprPart (tighter (level_of v)) d ∷ []) tokens h → Refuses e (ExprPart (level_of v) d ∷ []) tokens h
chain_no_first e v d tokens h r = λ n behind. chain_enters v d tokens e behind ∙ r n (MoreLinks (level_of v) d ∷ behind)

-- one more link
pub linked_step : (l : Level) (d : ℕ) (x : Link) (items new xs : List Link) (start rest mid after end : List Token) → new ≡ items ++ x ∷ [] → IsLink l x.op x.at rest mid → Spelled (tighter l) d x.right mid after
    → ((ys : List Link) (z : List Token) → Linked l d ys rest z → Linked l d (items ++ ys) start z) → Linked l d xs after end → Linked l d (new ++ xs) start end
linked_step l d x items new xs start rest mid after end eq i s so_far more =
    subst (λ ys. Linked l d ys start end) (sym (ap (λ ys. ys ++ xs) eq ∙ append_assoc items (x ∷ []) xs))
    (so_far (x ∷ xs) end (one_link l d x xs i.sign rest mid after end i.operator i.takes s more))

-- the links that were read
pub linked_all : (l : Level) (d : ℕ) (items : List Link) (start rest : List Token) → ((ys : List Link) (z : List Token) → Linked l d ys rest z → Linked l d (items ++ ys) start z) → Linked l d items start rest
linked_all l d items start rest so_far = subst (λ ys. Linked l d ys start rest) (append-nil items) (so_far [] rest (no_link l d rest rest refl))

no_links_there : (l : Level) (d : ℕ) (xs : List Link) (start rest : List Token) → length xs ≡ 0 → Linked l d xs start rest → rest ≡ start
no_links_there l d [] start rest p (no_link _ _ _ _ eq) = eq
no_links_there l d (x ∷ xs) start rest p s = absurd (omega arith)

-- no link at all
pub chain_no_links : (l : Level) (d : ℕ) (x : Expr) (xs : List Link) (tokens mid rest : List Token) → length xs ≡ 0 → Spelled (tighter l) d x tokens mid → Linked l d xs mid rest → Spelled l d x tokens rest
chain_no_links l d x xs tokens mid rest p s links = alone l d x tokens rest (subst (λ z. Spelled (tighter l) d x tokens z) (sym (no_links_there l d xs mid rest p links)) s)

-- ---- arguments
pub listed_step : (d : ℕ) (x : Expr) (more es : List Expr) (start rest mid after end : List Token) → length more < 15 → Takes (Sign 44) rest mid → Spelled OrLevel d x mid after
    → ((ys : List Expr) (z : List Token) → Listed (15 - length more) d ys rest z → Listed 15 d (more ++ ys) start z) → Listed (15 - length (more ++ x ∷ [])) d es after end → Listed 15 d ((more ++ x ∷ []) ++ es) start end
listed_step d x more es start rest mid after end l comma s so_far tail =
    subst (λ ys. Listed 15 d ys start end) (sym (append_assoc more (x ∷ []) es))
    (so_far (x ∷ es) end (subst (λ n. Listed n d (x ∷ es) rest end) (left_over more x l) (one_more (15 - length (more ++ x ∷ [])) d x es rest mid after end comma s tail)))
  where
    left_over : (more : List Expr) (x : Expr) → length more < 15 → suc (15 - length (more ++ x ∷ [])) ≡ 15 - length more
    left_over more x l = omega (arith, length-append more (x ∷ []))

pub args_step : (d : ℕ) (x : Expr) (more : List Expr) (at : Place) (rest mid after : List Token) (e : Ending) (behind : List Part) → length more < 15 → TakesAt at (Sign 44) rest mid → IsRead e OrLevel d x mid after → stop_of (MoreArgs (15 - length more) d ∷ behind) rest e ≡ stop_of (MoreArgs (15 - length (more ++ x ∷ [])) d ∷ behind) after e
args_step d x more at rest mid after e behind l comma r =
    ap (λ n. stop_of (MoreArgs n d ∷ behind) rest e) (left_over more x l) ∙ enter_args (15 - length (more ++ x ∷ [])) d at rest mid e behind comma ∙ r.read (MoreArgs (15 - length (more ++ x ∷ [])) d ∷ behind)
  where
    left_over : (more : List Expr) (x : Expr) → length more < 15 → 15 - length more ≡ suc (15 - length (more ++ x ∷ []))
    left_over more x l = omega (arith, length-append more (x ∷ []))

pub listed_all : (d : ℕ) (more : List Expr) (start rest : List Token) → ((ys : List Expr) (z : List Token) → Listed (15 - length more) d ys rest z → Listed 15 d (more ++ ys) start z) → Listed 15 d more start rest
listed_all d more start rest so_far = subst (λ ys. Listed 15 d ys start rest) (append-nil more) (so_far [] rest (no_more _ d rest rest refl))

pub args_full : (d n : ℕ) (rest : List Token) (e : Ending) (behind : List Part) → n ≡ 0 → stop_of (MoreArgs n d ∷ behind) rest e ≡ stop_of behind rest e
args_full d n rest e behind eq = ap (λ k. stop_of (MoreArgs k d ∷ behind) rest e) eq ∙ last_args d rest e behind
