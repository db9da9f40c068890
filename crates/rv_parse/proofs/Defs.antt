-- One step of the readers of definitions each.
use Rattle.std.proofs.Common.{◌≡◌, ◌<◌, ◌-◌, ℕ, false, List, [], ◌∷◌, ◌++◌, length, refl, sym, ap, ◌∙◌, subst, append_assoc, arith, length-append, zero, suc, Some, Result, Ok, Err, MatchResult, Bor}
use Rattle.std.proofs.lemmas.Bool.{false≢true}
use Rattle.std.proofs.lemmas.List.{append-nil}
use Rattle.lang_model.specs.declared.syntax.Place.{Place}
use Rattle.lang_model.specs.declared.syntax.Decl.{Decl}
use Rattle.lang_model.specs.declared.syntax.Item.{Item}
use Rattle.lang_model.specs.declared.faults.What.TheVariants.{Token as TOKEN}
use Rattle.lang_model.specs.declared.token.Keyword.TheVariants.{Beg as BEG, Decl as DECL}
use Rattle.lang_model.specs.declared.token.Kind.{Kind}
use Rattle.lang_model.specs.declared.token.Kind.TheVariants.{Keyword as KEYWORD, Sign, Word}
use Rattle.lang_model.specs.declared.token.Token.{Token}
use Rattle.lang_model.specs.Taken.{TakesAt, Takes}
use Rattle.lang_model.specs.Lexed.{Ending}
use Rattle.lang_model.specs.Spelling.{SpellsMoreNames, SpellsDecl, SpellsMoreDecls, SpellsHead, SpellsItem}
use Rattle.lang_model.specs.Stop.{Part, NamePart, MoreParams, MeaningPart, DomainPart, MoreDecls, BodyPart, NotBegun, Behind, is_sign, is_word, entered, body_step, stop_of}
use Rattle.rv_parse.specs.Halts.{missing}
use Rattle.rv_parse.specs.Readers.{begins, begins_word, Reads, Refuses}
use Rattle.rv_parse.specs.Got.{Got}
use Rattle.rv_parse.specs.declared.halt.Halt.{Halt}
use Rattle.rv_parse.proofs.Leaves.{not_begun, at_end}
use Rattle.rv_parse.proofs.Optional.{dropped_end, drop_sign, enter_sign, begun_params, begun_meaning, begun_decls}

pub drop_meaning : (tokens : List Token) (e : Ending) (behind : List Part) → begins 61 tokens ≡ false → stop_of (MeaningPart ∷ behind) tokens e ≡ stop_of behind tokens e
drop_meaning = drop_sign MeaningPart 61 _ begun_meaning

pub enter_meaning : (at : Place) (tokens rest : List Token) (e : Ending) (behind : List Part) → TakesAt at (Sign 61) tokens rest → stop_of (MeaningPart ∷ behind) tokens e ≡ stop_of (DomainPart ∷ behind) rest e
enter_meaning = enter_sign MeaningPart 61 _ begun_meaning

pub drop_decls : (tokens : List Token) (e : Ending) (behind : List Part) → begins 44 tokens ≡ false → stop_of (MoreDecls ∷ behind) tokens e ≡ stop_of behind tokens e
drop_decls = drop_sign MoreDecls 44 _ begun_decls

pub enter_decls : (at : Place) (tokens rest : List Token) (e : Ending) (behind : List Part) → TakesAt at (Sign 44) tokens rest → stop_of (MoreDecls ∷ behind) tokens e ≡ stop_of (NamePart ∷ MeaningPart ∷ MoreDecls ∷ behind) rest e
enter_decls = enter_sign MoreDecls 44 _ begun_decls

pub enter_params : (n : ℕ) (at : Place) (tokens rest : List Token) (e : Ending) (behind : List Part) → TakesAt at (Sign 44) tokens rest → stop_of (MoreParams (suc n) ∷ behind) tokens e ≡ stop_of (NamePart ∷ MoreParams n ∷ behind) rest e
enter_params n = enter_sign (MoreParams (suc n)) 44 _ (begun_params n)

pub drop_params : (n : ℕ) (tokens : List Token) (e : Ending) (behind : List Part) → begins 44 tokens ≡ false → stop_of (MoreParams n ∷ behind) tokens e ≡ stop_of behind tokens e
drop_params zero [] e behind h = dropped_end (MoreParams zero) e behind refl
drop_params zero (t ∷ ts) e behind h = refl
drop_params (suc n) tokens e behind h = drop_sign (MoreParams (suc n)) 44 _ (begun_params n) tokens e behind h

-- no further parameter is taken behind the last
last_params : (tokens : List Token) (e : Ending) (behind : List Part) → stop_of (MoreParams zero ∷ behind) tokens e ≡ stop_of behind tokens e
last_params [] e behind = dropped_end (MoreParams zero) e behind refl
last_params (t ∷ ts) e behind = refl

pub params_full : (n : ℕ) (rest : List Token) (e : Ending) (behind : List Part) → n ≡ 0 → stop_of (MoreParams n ∷ behind) rest e ≡ stop_of behind rest e
params_full n rest e behind eq = ap (λ k. stop_of (MoreParams k ∷ behind) rest e) eq ∙ last_params rest e behind

-- one more parameter
pub names_step : (x : List ℕ) (more ns : List (List ℕ)) (start rest mid after end : List Token) → Takes (Sign 44) rest mid → Takes (Word x) mid after
    → ((ys : List (List ℕ)) (z : List Token) → SpellsMoreNames ys rest z → SpellsMoreNames (more ++ ys) start z) → SpellsMoreNames ns after end → SpellsMoreNames ((more ++ x ∷ []) ++ ns) start end
names_step x more ns start rest mid after end comma t so_far tail =
    subst (λ ys. SpellsMoreNames ys start end) (sym (append_assoc more (x ∷ []) ns)) (so_far (x ∷ ns) end (mid, after, comma, t, tail))

pub params_step : (x : List ℕ) (more : List (List ℕ)) (at : Place) (rest mid after : List Token) (e : Ending) (behind : List Part) → length more < 15 → TakesAt at (Sign 44) rest mid → Reads e (NamePart ∷ []) mid after → stop_of (MoreParams (15 - length more) ∷ behind) rest e ≡ stop_of (MoreParams (15 - length (more ++ x ∷ [])) ∷ behind) after e
params_step x more at rest mid after e behind l comma r =
    ap (λ n. stop_of (MoreParams n ∷ behind) rest e) (left_over more x l) ∙ enter_params (15 - length (more ++ x ∷ [])) at rest mid e behind comma ∙ r (MoreParams (15 - length (more ++ x ∷ [])) ∷ behind)
  where
    left_over : (more : List (List ℕ)) (x : List ℕ) → length more < 15 → 15 - length more ≡ suc (15 - length (more ++ x ∷ []))
    left_over more x l = omega (arith, length-append more (x ∷ []))

pub names_all : (more : List (List ℕ)) (start rest : List Token) → ((ys : List (List ℕ)) (z : List Token) → SpellsMoreNames ys rest z → SpellsMoreNames (more ++ ys) start z) → SpellsMoreNames more start rest
names_all more start rest so_far = subst (λ ys. SpellsMoreNames ys start rest) (append-nil more) (so_far [] rest refl)

-- one more declaration
pub decls_step : (x : Decl) (more ds : List Decl) (start rest mid after end : List Token) → Takes (Sign 44) rest mid → SpellsDecl x mid after
    → ((ys : List Decl) (z : List Token) → SpellsMoreDecls ys rest z → SpellsMoreDecls (more ++ ys) start z) → SpellsMoreDecls ds after end → SpellsMoreDecls ((more ++ x ∷ []) ++ ds) start end
decls_step x more ds start rest mid after end comma t so_far tail =
    subst (λ ys. SpellsMoreDecls ys start end) (sym (append_assoc more (x ∷ []) ds)) (so_far (x ∷ ds) end (mid, after, comma, t, tail))

pub decls_all : (more : List Decl) (start rest : List Token) → ((ys : List Decl) (z : List Token) → SpellsMoreDecls ys rest z → SpellsMoreDecls (more ++ ys) start z) → SpellsMoreDecls more start rest
decls_all more start rest so_far = subst (λ ys. SpellsMoreDecls ys start rest) (append-nil more) (so_far [] rest refl)

-- ---- what a definition means
enters : (e : Ending) (kind : Kind) (parts : List Part) (from : Place) (tokens rest : List Token) (behind : List Part) → body_step kind ≡ Behind parts → TakesAt from kind tokens rest → stop_of (BodyPart ∷ behind) tokens e ≡ stop_of (parts ++ behind) rest e
enters e kind parts from tokens rest behind s t = rw t (rw s refl)

pub no_body : (tokens : List Token) (e : Ending) (behind : List Part) → begins 61 tokens ≡ false → begins_word BEG tokens ≡ false → begins_word DECL tokens ≡ false → stop_of (BodyPart ∷ behind) tokens e ≡ Some (missing (TOKEN (61 ∷ [])) tokens e)
no_body [] e behind h k l = at_end BodyPart _ e behind refl
no_body (t ∷ ts) e behind h k l = not_begun BodyPart _ t ts e behind refl (at t.kind h k l)
  where
    at : (kind : Kind) → is_sign 61 kind ≡ false → is_word BEG kind ≡ false → is_word DECL kind ≡ false → entered BodyPart kind ≡ NotBegun
    at (Sign s) h k l = rw h refl
    at (KEYWORD BEG) h k l = absurd (false≢true (sym k))
    at (KEYWORD DECL) h k l = absurd (false≢true (sym l))
    at (KEYWORD _) h k l = refl
    at _ h k l = refl

-- the body that a first token begins
pub body_by : (e : Ending) (kind : Kind) (parts : List Part) (at from : Place) (name : List ℕ) (params : List (List ℕ)) (tokens rest : List Token) (r : Result (Item × Bor (List Token)) Halt) → body_step kind ≡ Behind parts → TakesAt from kind tokens rest
    → MatchResult r (λ x. Got e parts (λ t z. (before mid : List Token) → SpellsHead at name params before mid → Takes kind mid t → SpellsItem x.0 before z) rest x.1.now) (Refuses e parts rest)
    → MatchResult r (λ x. Got e (BodyPart ∷ []) (λ t z. (before : List Token) → SpellsHead at name params before t → SpellsItem x.0 before z) tokens x.1.now) (Refuses e (BodyPart ∷ []) tokens)
body_by e kind parts at from name params tokens rest (Ok x) s t got = record {
  spelled = λ before head. got.spelled before tokens head (from, t);
  shorter = omega (arith, got.shorter, ap length t);
  read = λ behind. enters e kind parts from tokens rest behind s t ∙ got.read behind;
}
body_by e kind parts at from name params tokens rest (Err halt) s t got = λ n behind. enters e kind parts from tokens rest behind s t ∙ got n behind
