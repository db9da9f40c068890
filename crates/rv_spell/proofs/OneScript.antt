-- Tokens spell one script alone.
-- 1. Each part of the grammar is read from the left: from two spellings of the same tokens follow the same tree and the same rest, where the token behind them decides whether they go on (a comma, a ';', a closing sign, a keyword, a full stop).
-- 2. The first token of a command is its keyword, and that of a definition a name, behind whose head '=' tells a function from a program.
-- 3. For expressions and statements that is `agree` and `agree_stmts`. The tokens of a text are one list, so its scripts have one tree.
use Rattle.std.proofs.Common.{◌≡◌, ℕ, Bool, true, false, List, [], ◌∷◌, map, Some, refl, sym, ap, ◌∙◌, subst, arith}
use Rattle.std.proofs.lemmas.Bool.{false≢true}
use Rattle.lang_model.specs.declared.syntax.Place.{Place}
use Rattle.lang_model.specs.declared.rows.Column.{Column}
use Rattle.lang_model.specs.declared.rows.Row.{Row}
use Rattle.lang_model.specs.declared.syntax.Expr.{Expr}
use Rattle.lang_model.specs.declared.syntax.Decl.{Decl}
use Rattle.lang_model.specs.declared.syntax.Decl.TheVariants.{Variable, Domain}
use Rattle.lang_model.specs.declared.syntax.Command.{Command}
use Rattle.lang_model.specs.declared.syntax.Command.TheVariants.{Relation, Let, Print, List as ListOf, Count, Typed, Remove, Snap, At, Load, Save, LoadAll, SaveAll, Atomic, Explain}
use Rattle.lang_model.specs.declared.syntax.Item.{Item}
use Rattle.lang_model.specs.declared.syntax.Item.TheVariants.{Function, Program, Command as COMMAND}
use Rattle.lang_model.specs.declared.token.Keyword.{Keyword}
use Rattle.lang_model.specs.declared.token.Keyword.TheVariants.{Rel as REL, Let as LET, Print as PRINT, List as LIST, Count as COUNT, «Type» as TYPE, Drop as DROP, Snap as SNAP, At as AT, Load as LOAD, Save as SAVE, All as ALL, Atomic as ATOMIC, Explain as EXPLAIN, Beg as BEG}
use Rattle.lang_model.specs.declared.token.Kind.{Kind}
use Rattle.lang_model.specs.declared.token.Kind.TheVariants.{Keyword as KEYWORD, Word, Number, File, Sign}
use Rattle.lang_model.specs.declared.token.Token.{Token}
use Rattle.lang_model.specs.Taken.{TakesAt}
use Rattle.lang_model.specs.Spelling.{OrLevel, SpellsMoreColumns, SpellsColumns, SpellsRow, SpellsMoreRows, SpellsRows, SpellsMoreNames, SpellsParams, domain_word, SpellsDecl, SpellsMoreDecls, SpellsDecls, SpellsHead, SpellsNamed, SpellsValued, SpellsCommand, SpellsItem, SpellsItems}
use Rattle.rv_spell.specs.Again.{Ends}
use Rattle.rv_parse.specs.Readers.{begins}
use Rattle.rv_parse.specs.Readers.{begins_word}
use Rattle.rv_parse.proofs.AllOrOne.{no_all}
use Rattle.rv_spell.specs.Plain.{row_tree, RelationTree, LetTree, PrintTree, ListTree, CountTree, TypedTree, RemoveTree, SnapTree, AtTree, LoadTree, SaveTree, LoadAllTree, SaveAllTree, AtomicTree, ExplainTree, command_tree, FunctionTree, ProgramTree, CommandItem, item_tree, OneScript}
use Rattle.rv_spell.proofs.Apart.{one_kind, one_place, one_rest, one_word, ends_stop}
use Rattle.rv_spell.proofs.Unambiguous.{Agrees, agree}
use Rattle.rv_spell.proofs.OneStmt.{code_of, differ, ends_keyword, closing, agree_stmts}
use Rattle.rv_spell.proofs.OneBlock.{agree_lets}

one_number : (v w : ℕ) → Number v ≡ Number w → v ≡ w
one_number v w e = cc

one_file : (v w : List ℕ) → File v ≡ File w → v ≡ w
one_file v w e = cc

-- a sign that begins the same tokens
not_there : (s : ℕ) {at : Place} {tokens others rest : List Token} → begins s tokens ≡ false → TakesAt at (Sign s) others rest → tokens ≡ others → begins s (record { at = at; kind = Sign s } ∷ rest) ≡ true → ⊥
not_there s h t q e = false≢true (sym h ∙ ap (begins s) (q ∙ t) ∙ e)

-- ---- listed relations
agree_more_columns : (cs ds : List Column) (tokens others rest behind : List Token) → SpellsMoreColumns cs tokens rest → SpellsMoreColumns ds others behind → tokens ≡ others → begins 44 rest ≡ false → begins 44 behind ≡ false → (cs ≡ ds) × (rest ≡ behind)
agree_more_columns [] [] tokens others rest behind s u q h h' = (refl, s ∙ q ∙ sym u)
agree_more_columns [] (d ∷ ds) tokens others rest behind s u q h h' = absurd (not_there 44 h u.2.1 (s ∙ q) refl)
agree_more_columns (c ∷ cs) [] tokens others rest behind s u q h h' = absurd (not_there 44 h' s.2.1 (u ∙ sym q) refl)
agree_more_columns (c ∷ cs) (d ∷ ds) tokens others rest behind s u q h h' =
    let e = one_rest s.2.1 u.2.1 q in
    let r = agree_more_columns cs ds s.1 u.1 rest behind s.5 u.5 (one_rest s.3 u.3 e) h h' in
    ((λ i. record { col = one_number c.col d.col (one_kind s.3 u.3 e) i; at = one_place s.3 u.3 e i } ∷ r.0 i), r.1)

agree_columns : (cs ds : List Column) (tokens others rest behind : List Token) → SpellsColumns cs tokens rest → SpellsColumns ds others behind → tokens ≡ others → begins 44 rest ≡ false → begins 44 behind ≡ false → (cs ≡ ds) × (rest ≡ behind)
agree_columns [] ds tokens others rest behind s u q h h' = absurd s
agree_columns (c ∷ cs) [] tokens others rest behind s u q h h' = absurd u
agree_columns (c ∷ cs) (d ∷ ds) tokens others rest behind s u q h h' =
    let r = agree_more_columns cs ds s.0 u.0 rest behind s.3 u.3 (one_rest s.1 u.1 q) h h' in
    ((λ i. record { col = one_number c.col d.col (one_kind s.1 u.1 q) i; at = one_place s.1 u.1 q i } ∷ r.0 i), r.1)

agree_row : (r v : Row) (tokens others rest behind : List Token) → SpellsRow r tokens rest → SpellsRow v others behind → tokens ≡ others → begins 44 rest ≡ false → begins 44 behind ≡ false → (row_tree r ≡ row_tree v) × (rest ≡ behind)
agree_row r v tokens others rest behind s u q h h' =
    let c = agree_columns r.cols.items v.cols.items s.1 u.1 rest behind s.5 u.5 (one_rest s.4.1 u.4.1 (one_rest s.2 u.2 q)) h h' in
    ((λ i. record { row = one_number r.row v.row (one_kind s.2 u.2 q) i; at = one_place s.2 u.2 q i; cols = c.0 i }), c.1)

-- behind the rows stands a closing brace, so behind one of them no comma
rows_end : {at : Place} (rs : List Row) (tokens rest x : List Token) → SpellsMoreRows rs tokens rest → TakesAt at (Sign 125) rest x → begins 44 tokens ≡ false
rows_end [] tokens rest x s t = subst (λ z. begins 44 z ≡ false) s (ap (begins 44) t)
rows_end (r ∷ rs) tokens rest x s t = ap (begins 44) s.2.1

agree_more_rows : {at at' : Place} {x x' : List Token} (rs vs : List Row) (tokens others rest behind : List Token) → SpellsMoreRows rs tokens rest → SpellsMoreRows vs others behind → tokens ≡ others → TakesAt at (Sign 125) rest x → TakesAt at' (Sign 125) behind x'
    → (map row_tree rs ≡ map row_tree vs) × (rest ≡ behind)
agree_more_rows [] [] tokens others rest behind s u q t t' = (refl, s ∙ q ∙ sym u)
agree_more_rows [] (v ∷ vs) tokens others rest behind s u q t t' = absurd (differ t u.2.1 (s ∙ q) refl)
agree_more_rows (r ∷ rs) [] tokens others rest behind s u q t t' = absurd (differ t' s.2.1 (u ∙ sym q) refl)
agree_more_rows {x = x} {x' = x'} (r ∷ rs) (v ∷ vs) tokens others rest behind s u q t t' =
    let a = agree_row r v s.0 u.0 s.1 u.1 s.3 u.3 (one_rest s.2.1 u.2.1 q) (rows_end rs s.1 rest x s.4 t) (rows_end vs u.1 behind x' u.4 t') in
    let b = agree_more_rows rs vs s.1 u.1 rest behind s.4 u.4 a.1 t t' in
    ((λ i. a.0 i ∷ b.0 i), b.1)

agree_rows : {at at' : Place} {x x' : List Token} (rs vs : List Row) (tokens others rest behind : List Token) → SpellsRows rs tokens rest → SpellsRows vs others behind → tokens ≡ others → TakesAt at (Sign 125) rest x → TakesAt at' (Sign 125) behind x'
    → (map row_tree rs ≡ map row_tree vs) × (rest ≡ behind)
agree_rows [] [] tokens others rest behind s u q t t' = (refl, s ∙ q ∙ sym u)
agree_rows [] (v ∷ vs) tokens others rest behind s u q t t' = absurd (differ t u.1.2 (s ∙ q) refl)
agree_rows (r ∷ rs) [] tokens others rest behind s u q t t' = absurd (differ t' s.1.2 (u ∙ sym q) refl)
agree_rows {x = x} {x' = x'} (r ∷ rs) (v ∷ vs) tokens others rest behind s u q t t' =
    let a = agree_row r v tokens others s.0 u.0 s.1 u.1 q (rows_end rs s.0 rest x s.2 t) (rows_end vs u.0 behind x' u.2 t') in
    let b = agree_more_rows rs vs s.0 u.0 rest behind s.2 u.2 a.1 t t' in
    ((λ i. a.0 i ∷ b.0 i), b.1)

-- ---- definitions
agree_more_names : {at at' : Place} {x x' : List Token} (ns ms : List (List ℕ)) (tokens others rest behind : List Token) → SpellsMoreNames ns tokens rest → SpellsMoreNames ms others behind → tokens ≡ others → TakesAt at (Sign 41) rest x → TakesAt at' (Sign 41) behind x'
    → (ns ≡ ms) × (rest ≡ behind)
agree_more_names [] [] tokens others rest behind s u q t t' = (refl, s ∙ q ∙ sym u)
agree_more_names [] (m ∷ ms) tokens others rest behind s u q t t' = absurd (differ t u.2.1 (s ∙ q) refl)
agree_more_names (n ∷ ns) [] tokens others rest behind s u q t t' = absurd (differ t' s.2.1 (u ∙ sym q) refl)
agree_more_names (n ∷ ns) (m ∷ ms) tokens others rest behind s u q t t' =
    let e = one_rest s.2.1 u.2.1 q in
    let r = agree_more_names ns ms s.1 u.1 rest behind s.4 u.4 (one_rest s.3.1 u.3.1 e) t t' in
    ((λ i. one_word n m (one_kind s.3.1 u.3.1 e) i ∷ r.0 i), r.1)

agree_params : {at at' : Place} {x x' : List Token} (ns ms : List (List ℕ)) (tokens others rest behind : List Token) → SpellsParams ns tokens rest → SpellsParams ms others behind → tokens ≡ others → TakesAt at (Sign 41) rest x → TakesAt at' (Sign 41) behind x'
    → (ns ≡ ms) × (rest ≡ behind)
agree_params [] ms tokens others rest behind s u q t t' = absurd s
agree_params (n ∷ ns) [] tokens others rest behind s u q t t' = absurd u
agree_params (n ∷ ns) (m ∷ ms) tokens others rest behind s u q t t' =
    let r = agree_more_names ns ms s.0 u.0 rest behind s.3 u.3 (one_rest s.1.1 u.1.1 q) t t' in
    ((λ i. one_word n m (one_kind s.1.1 u.1.1 q) i ∷ r.0 i), r.1)

-- a head's place, name and parameters
record AgreesHead (at at' : Place) (name name' : List ℕ) (params params' : List (List ℕ)) (rest others : List Token) : Type 0 where
  place : at ≡ at'
  word : name ≡ name'
  words : params ≡ params'
  left : rest ≡ others

agree_head : (at at' : Place) (name name' : List ℕ) (params params' : List (List ℕ)) (tokens others rest behind : List Token) → SpellsHead at name params tokens rest → SpellsHead at' name' params' others behind → tokens ≡ others → AgreesHead at at' name name' params params' rest behind
agree_head at at' name name' params params' tokens others rest behind s u q =
    let r = agree_params params params' s.1 u.1 s.2 u.2 s.5 u.5 (one_rest s.4.1 u.4.1 (one_rest s.3 u.3 q)) s.6.1 u.6.1 in
    record { place = one_place s.3 u.3 q; word = one_word name name' (one_kind s.3 u.3 q); words = r.0; left = one_rest s.6.1 u.6.1 r.1 }

one_domain : (b c : Bool) → domain_word b ≡ domain_word c → b ≡ c
one_domain true true e = refl
one_domain false false e = refl
one_domain true false e = let d : 13 ≡ 12 = ap code_of e in absurd (omega (arith, d))
one_domain false true e = let d : 12 ≡ 13 = ap code_of e in absurd (omega (arith, d))

agree_decl : (a b : Decl) (tokens others rest behind : List Token) → SpellsDecl a tokens rest → SpellsDecl b others behind → tokens ≡ others → begins 61 rest ≡ false → begins 61 behind ≡ false → (a ≡ b) × (rest ≡ behind)
agree_decl (Variable at name) (Variable at' name') tokens others rest behind s u q h h' = ((λ i. Variable (one_place s u q i) (one_word name name' (one_kind s u q) i)), one_rest s u q)
agree_decl (Variable at name) (Domain at' name' sum left right) tokens others rest behind s u q h h' = absurd (not_there 61 h u.8.1 (one_rest s u.7 q) refl)
agree_decl (Domain at name sum left right) (Variable at' name') tokens others rest behind s u q h h' = absurd (not_there 61 h' s.8.1 (one_rest u s.7 (sym q)) refl)
agree_decl (Domain at name sum left right) (Domain at' name' sum' left' right') tokens others rest behind s u q h h' =
    let e2 = one_rest s.8.1 u.8.1 (one_rest s.7 u.7 q) in
    let e4 = one_rest s.10.1 u.10.1 (one_rest s.9.1 u.9.1 e2) in
    let e6 = one_rest s.12.1 u.12.1 (one_rest s.11.1 u.11.1 e4) in (
      (λ i. Domain (one_place s.7 u.7 q i) (one_word name name' (one_kind s.7 u.7 q) i) (one_domain sum sum' (one_kind s.9.1 u.9.1 e2) i) (one_word left left' (one_kind s.11.1 u.11.1 e4) i) (one_word right right' (one_kind s.13.1 u.13.1 e6) i)),
      one_rest s.14.1 u.14.1 (one_rest s.13.1 u.13.1 e6),
    )

-- behind the declarations stands BEG, so behind one of them no '='
decls_end : {at : Place} (ds : List Decl) (tokens rest x : List Token) → SpellsMoreDecls ds tokens rest → TakesAt at (KEYWORD BEG) rest x → begins 61 tokens ≡ false
decls_end [] tokens rest x s t = subst (λ z. begins 61 z ≡ false) s (ap (begins 61) t)
decls_end (d ∷ ds) tokens rest x s t = ap (begins 61) s.2.1

agree_more_decls : {at at' : Place} {x x' : List Token} (ds es : List Decl) (tokens others rest behind : List Token) → SpellsMoreDecls ds tokens rest → SpellsMoreDecls es others behind → tokens ≡ others → TakesAt at (KEYWORD BEG) rest x → TakesAt at' (KEYWORD BEG) behind x'
    → (ds ≡ es) × (rest ≡ behind)
agree_more_decls [] [] tokens others rest behind s u q t t' = (refl, s ∙ q ∙ sym u)
agree_more_decls [] (b ∷ es) tokens others rest behind s u q t t' = absurd (differ t u.2.1 (s ∙ q) refl)
agree_more_decls (a ∷ ds) [] tokens others rest behind s u q t t' = absurd (differ t' s.2.1 (u ∙ sym q) refl)
agree_more_decls {x = x} {x' = x'} (a ∷ ds) (b ∷ es) tokens others rest behind s u q t t' =
    let d = agree_decl a b s.0 u.0 s.1 u.1 s.3 u.3 (one_rest s.2.1 u.2.1 q) (decls_end ds s.1 rest x s.4 t) (decls_end es u.1 behind x' u.4 t') in
    let r = agree_more_decls ds es s.1 u.1 rest behind s.4 u.4 d.1 t t' in
    ((λ i. d.0 i ∷ r.0 i), r.1)

agree_decls : {at at' : Place} {x x' : List Token} (ds es : List Decl) (tokens others rest behind : List Token) → SpellsDecls ds tokens rest → SpellsDecls es others behind → tokens ≡ others → TakesAt at (KEYWORD BEG) rest x → TakesAt at' (KEYWORD BEG) behind x'
    → (ds ≡ es) × (rest ≡ behind)
agree_decls [] [] tokens others rest behind s u q t t' = (refl, s ∙ q ∙ sym u)
agree_decls [] (b ∷ es) tokens others rest behind s u q t t' = absurd (differ t u.2.1 (s ∙ q) refl)
agree_decls (a ∷ ds) [] tokens others rest behind s u q t t' = absurd (differ t' s.2.1 (u ∙ sym q) refl)
agree_decls {x = x} {x' = x'} (a ∷ ds) (b ∷ es) tokens others rest behind s u q t t' =
    let d = agree_decl a b s.0 u.0 s.1 u.1 s.3 u.3 (one_rest s.2.1 u.2.1 q) (decls_end ds s.1 rest x s.4 t) (decls_end es u.1 behind x' u.4 t') in
    let r = agree_more_decls ds es s.1 u.1 rest behind s.4 u.4 d.1 t t' in
    ((λ i. d.0 i ∷ r.0 i), r.1)

-- behind the head of a program stands no '='
program_end : {at : Place} (ds : List Decl) (tokens rest x : List Token) → SpellsDecls ds tokens rest → TakesAt at (KEYWORD BEG) rest x → begins 61 tokens ≡ false
program_end [] tokens rest x s t = subst (λ z. begins 61 z ≡ false) s (ap (begins 61) t)
program_end (d ∷ ds) tokens rest x s t = ap (begins 61) s.2.1

-- ---- commands
agree_named : (kind kind' : Kind) (name name' : List ℕ) (tokens others rest behind : List Token) → SpellsNamed kind name tokens rest → SpellsNamed kind' name' others behind → tokens ≡ others → (name ≡ name') × (rest ≡ behind)
agree_named kind kind' name name' tokens others rest behind s u q =
    let e = one_rest s.1.1 u.1.1 q in
    (one_word name name' (one_kind s.2.1 u.2.1 e), one_rest s.2.1 u.2.1 e)

agree_valued : (kind kind' : Kind) (e f : Expr) (tokens others rest behind : List Token) → SpellsValued kind e tokens rest → SpellsValued kind' f others behind → tokens ≡ others → Ends OrLevel rest → Ends OrLevel behind → Agrees e f rest behind
agree_valued kind kind' e f tokens others rest behind s u q h h' = agree s.2 u.2 (one_rest s.1.1 u.1.1 q) h h'

-- behind an expression a file text does not go on with it
ends_file : {at : Place} {file : List ℕ} {tokens rest : List Token} → TakesAt at (File file) tokens rest → Ends OrLevel tokens
ends_file t = subst (Ends OrLevel) (sym t) (refl, (refl, (refl, (refl, refl))))

-- the keyword of a command
abbrev keyword_of : Command → Keyword
keyword_of (Relation name rows rows_at cols cols_at list) = REL
keyword_of (Let name value) = LET
keyword_of (Print value) = PRINT
keyword_of (ListOf value) = LIST
keyword_of (Count value) = COUNT
keyword_of (Typed value) = TYPE
keyword_of (Remove at name) = DROP
keyword_of (Snap name) = SNAP
keyword_of (At at name value) = AT
keyword_of (Load name file) = LOAD
keyword_of (Save value file) = SAVE
keyword_of (LoadAll file) = LOAD
keyword_of (SaveAll file) = SAVE
keyword_of (Atomic lets) = ATOMIC
keyword_of (Explain value) = EXPLAIN

-- it comes first
command_first : (c : Command) (tokens rest : List Token) → SpellsCommand c tokens rest → (at : Place) × (more : List Token) × TakesAt at (KEYWORD (keyword_of c)) tokens more
command_first (Relation name rows rows_at cols cols_at list) tokens rest s = (s.5.1.0, s.5.0, s.5.1.1)
command_first (Let name value) tokens rest s = (s.2.1.0, s.2.0, s.2.1.1)
command_first (Print value) tokens rest s = (s.1.0, s.0, s.1.1)
command_first (ListOf value) tokens rest s = (s.1.0, s.0, s.1.1)
command_first (Count value) tokens rest s = (s.1.0, s.0, s.1.1)
command_first (Typed value) tokens rest s = (s.1.0, s.0, s.1.1)
command_first (Remove at name) tokens rest s = (s.1.0, s.0, s.1.1)
command_first (Snap name) tokens rest s = (s.1.0, s.0, s.1.1)
command_first (At at name value) tokens rest s = (s.2.0, s.0, s.2.1)
command_first (Load name file) tokens rest s = (s.1.1.0, s.1.0, s.1.1.1)
command_first (Save value file) tokens rest s = (s.1.1.0, s.1.0, s.1.1.1)
command_first (LoadAll file) tokens rest s = (s.2.0, s.0, s.2.1)
command_first (SaveAll file) tokens rest s = (s.2.0, s.0, s.2.1)
command_first (Atomic lets) tokens rest s = (s.2.0, s.0, s.2.1)
command_first (Explain value) tokens rest s = (s.1.0, s.0, s.1.1)

-- the same tokens spell one command: its keyword tells which, ALL behind it tells a file of all relations, and
-- the parts agree from the left
agree_command : (c e : Command) (tokens others rest behind : List Token) → SpellsCommand c tokens rest → SpellsCommand e others behind → tokens ≡ others → Ends OrLevel rest → Ends OrLevel behind → (command_tree c ≡ command_tree e) × (rest ≡ behind)
agree_command (Relation name rows rows_at cols cols_at list) (Relation name' rows' rows_at' cols' cols_at' list') tokens others rest behind s u q h h' =
    let n = agree_named (KEYWORD REL) (KEYWORD REL) name name' tokens others s.0 u.0 s.5 u.5 q in
    let e2 = one_rest s.6 u.6 n.1 in
    let e3 = one_rest s.7 u.7 e2 in
    let r = agree_rows list.items list'.items s.3 u.3 s.4 u.4 s.9 u.9 (one_rest s.8.1 u.8.1 e3) s.10.1 u.10.1 in
    ((λ i. RelationTree (n.0 i) (one_number rows rows' (one_kind s.6 u.6 n.1) i) (one_place s.6 u.6 n.1 i) (one_number cols cols' (one_kind s.7 u.7 e2) i) (one_place s.7 u.7 e2 i) (r.0 i)), one_rest s.10.1 u.10.1 r.1)
agree_command (Let name value) (Let name' value') tokens others rest behind s u q h h' =
    let n = agree_named (KEYWORD LET) (KEYWORD LET) name name' tokens others s.0 u.0 s.2 u.2 q in
    let a = agree s.4 u.4 (one_rest s.3.1 u.3.1 n.1) h h' in
    ((λ i. LetTree (n.0 i) (a.same i)), a.left)
agree_command (Print value) (Print value') tokens others rest behind s u q h h' = let a = agree_valued (KEYWORD PRINT) (KEYWORD PRINT) value value' tokens others rest behind s u q h h' in (ap PrintTree a.same, a.left)
agree_command (ListOf value) (ListOf value') tokens others rest behind s u q h h' = let a = agree_valued (KEYWORD LIST) (KEYWORD LIST) value value' tokens others rest behind s u q h h' in (ap ListTree a.same, a.left)
agree_command (Count value) (Count value') tokens others rest behind s u q h h' = let a = agree_valued (KEYWORD COUNT) (KEYWORD COUNT) value value' tokens others rest behind s u q h h' in (ap CountTree a.same, a.left)
agree_command (Typed value) (Typed value') tokens others rest behind s u q h h' = let a = agree_valued (KEYWORD TYPE) (KEYWORD TYPE) value value' tokens others rest behind s u q h h' in (ap TypedTree a.same, a.left)
agree_command (Remove at name) (Remove at' name') tokens others rest behind s u q h h' =
    let e = one_rest s.1.1 u.1.1 q in
    ((λ i. RemoveTree (one_place s.2 u.2 e i) (one_word name name' (one_kind s.2 u.2 e) i)), one_rest s.2 u.2 e)
agree_command (Snap name) (Snap name') tokens others rest behind s u q h h' = let n = agree_named (KEYWORD SNAP) (KEYWORD SNAP) name name' tokens others rest behind s u q in (ap SnapTree n.0, n.1)
agree_command (At at name value) (At at' name' value') tokens others rest behind s u q h h' =
    let e = one_rest s.2.1 u.2.1 q in
    let a = agree_valued (KEYWORD PRINT) (KEYWORD PRINT) value value' s.1 u.1 rest behind s.4 u.4 (one_rest s.3 u.3 e) h h' in
    ((λ i. AtTree (one_place s.3 u.3 e i) (one_word name name' (one_kind s.3 u.3 e) i) (a.same i)), a.left)
agree_command (Load name file) (Load name' file') tokens others rest behind s u q h h' =
    let n = agree_named (KEYWORD LOAD) (KEYWORD LOAD) name name' tokens others s.0 u.0 s.1 u.1 q in
    ((λ i. LoadTree (n.0 i) (one_file file file' (one_kind s.2.1 u.2.1 n.1) i)), one_rest s.2.1 u.2.1 n.1)
agree_command (Save value file) (Save value' file') tokens others rest behind s u q h h' =
    let a = agree_valued (KEYWORD SAVE) (KEYWORD SAVE) value value' tokens others s.0 u.0 s.1 u.1 q (ends_file s.2.1) (ends_file u.2.1) in
    ((λ i. SaveTree (a.same i) (one_file file file' (one_kind s.2.1 u.2.1 a.left) i)), one_rest s.2.1 u.2.1 a.left)
agree_command (LoadAll file) (LoadAll file') tokens others rest behind s u q h h' =
    let e = one_rest s.3.1 u.3.1 (one_rest s.2.1 u.2.1 q) in
    (ap LoadAllTree (one_file file file' (one_kind s.4.1 u.4.1 e)), one_rest s.4.1 u.4.1 e)
agree_command (SaveAll file) (SaveAll file') tokens others rest behind s u q h h' =
    let e = one_rest s.3.1 u.3.1 (one_rest s.2.1 u.2.1 q) in
    (ap SaveAllTree (one_file file file' (one_kind s.4.1 u.4.1 e)), one_rest s.4.1 u.4.1 e)
agree_command (Load name file) (LoadAll file') tokens others rest behind s u q h h' =
    absurd (differ s.1.2.1 u.3.1 (one_rest s.1.1.1 u.2.1 q) refl)
agree_command (LoadAll file) (Load name' file') tokens others rest behind s u q h h' =
    absurd (differ s.3.1 u.1.2.1 (one_rest s.2.1 u.1.1.1 q) refl)
agree_command (Save value file) (SaveAll file') tokens others rest behind s u q h h' =
    absurd (false≢true (sym (no_all s.1.2) ∙ ap (begins_word ALL) (one_rest s.1.1.1 u.2.1 q ∙ u.3.1)))
agree_command (SaveAll file) (Save value' file') tokens others rest behind s u q h h' =
    absurd (false≢true (sym (no_all u.1.2) ∙ ap (begins_word ALL) (sym (one_rest s.2.1 u.1.1.1 q) ∙ s.3.1)))
agree_command (Atomic lets) (Atomic lets') tokens others rest behind s u q h h' =
    let a = agree_lets s.3 u.3 (one_rest s.2.1 u.2.1 q) s.4.1 u.4.1 in
    (ap AtomicTree a.same, one_rest s.4.1 u.4.1 a.left)
agree_command (Explain value) (Explain value') tokens others rest behind s u q h h' = let a = agree_valued (KEYWORD EXPLAIN) (KEYWORD EXPLAIN) value value' tokens others rest behind s u q h h' in (ap ExplainTree a.same, a.left)
agree_command c e tokens others rest behind s u q h h' = absurd (differ (command_first c tokens rest s).2 (command_first e others behind u).2 q refl)

-- ---- items
abbrev is_name : Kind → Bool
is_name (Word name) = true
is_name _ = false

-- no command begins with a name
no_command : {at : Place} {name : List ℕ} {tokens others rest : List Token} (c : Command) (behind : List Token) → TakesAt at (Word name) tokens rest → SpellsCommand c others behind → others ≡ tokens → ⊥
no_command {others = others} c behind t u q = let f = command_first c others behind u in false≢true (ap is_name (one_kind f.2 t q))

-- the same tokens spell one item: a definition begins with a name and a command does not, '=' behind the head tells a
-- function, and the parts agree from the left
agree_item : (a b : Item) (tokens others rest behind : List Token) → SpellsItem a tokens rest → SpellsItem b others behind → tokens ≡ others → Ends OrLevel rest → Ends OrLevel behind → (item_tree a ≡ item_tree b) × (rest ≡ behind)
agree_item (Function at name params body) (Function at' name' params' body') tokens others rest behind s u q h h' =
    let d = agree_head at at' name name' params.items params'.items tokens others s.0 u.0 s.2 u.2 q in
    let a = agree s.4 u.4 (one_rest s.3.1 u.3.1 d.left) h h' in
    ((λ i. FunctionTree (d.place i) (d.word i) (d.words i) (a.same i)), a.left)
agree_item (Program at name params decls body result) (Program at' name' params' decls' body' result') tokens others rest behind s u q h h' =
    let d = agree_head at at' name name' params.items params'.items tokens others s.0 u.0 s.6 u.6 q in
    let ds = agree_decls decls.items decls'.items s.0 u.0 s.1 u.1 s.7 u.7 d.left s.8.1 u.8.1 in
    let b = agree_stmts s.9 u.9 (one_rest s.8.1 u.8.1 ds.1) (closing s.10.1 refl) (closing u.10.1 refl) in
    let a = agree s.11 u.11 (one_rest s.10.1 u.10.1 b.left) (ends_keyword s.12.1) (ends_keyword u.12.1) in
    ((λ i. ProgramTree (d.place i) (d.word i) (d.words i) (ds.0 i) (b.same i) (a.same i)), one_rest s.12.1 u.12.1 a.left)
agree_item (COMMAND c) (COMMAND e) tokens others rest behind s u q h h' = let a = agree_command c e tokens others rest behind s u q h h' in (ap CommandItem a.0, a.1)
agree_item (Function at name params body) (Program at' name' params' decls' body' result') tokens others rest behind s u q h h' =
    let d = agree_head at at' name name' params.items params'.items tokens others s.0 u.0 s.2 u.6 q in
    absurd (not_there 61 (program_end decls'.items u.0 u.1 u.2 u.7 u.8.1) s.3.1 (sym d.left) refl)
agree_item (Program at name params decls body result) (Function at' name' params' body') tokens others rest behind s u q h h' =
    let d = agree_head at at' name name' params.items params'.items tokens others s.0 u.0 s.6 u.2 q in
    absurd (not_there 61 (program_end decls.items s.0 s.1 s.2 s.7 s.8.1) u.3.1 d.left refl)
agree_item (Function at name params body) (COMMAND c) tokens others rest behind s u q h h' = absurd (no_command c behind s.2.3 u (sym q))
agree_item (Program at name params decls body result) (COMMAND c) tokens others rest behind s u q h h' = absurd (no_command c behind s.6.3 u (sym q))
agree_item (COMMAND c) (Function at' name' params' body') tokens others rest behind s u q h h' = absurd (no_command c rest u.2.3 s q)
agree_item (COMMAND c) (Program at' name' params' decls' body' result') tokens others rest behind s u q h h' = absurd (no_command c rest u.6.3 s q)

-- an item has a token
abbrev has_tokens : List Token → Bool
has_tokens [] = false
has_tokens (t ∷ ts) = true

nothing_takes : {at : Place} {kind : Kind} {tokens rest : List Token} → TakesAt at kind tokens rest → [] ≡ tokens → ⊥
nothing_takes t q = false≢true (ap has_tokens (q ∙ t))

no_item : (a : Item) (tokens rest : List Token) → SpellsItem a tokens rest → [] ≡ tokens → ⊥
no_item (Function at name params body) tokens rest s q = nothing_takes s.2.3 q
no_item (Program at name params decls body result) tokens rest s q = nothing_takes s.6.3 q
no_item (COMMAND c) tokens rest s q = nothing_takes (command_first c tokens rest s).2 q

agree_items : (ds es : List Item) (tokens others : List Token) → SpellsItems ds tokens [] → SpellsItems es others [] → tokens ≡ others → map item_tree ds ≡ map item_tree es
agree_items [] [] tokens others s u q = refl
agree_items [] (b ∷ es) tokens others s u q = absurd (no_item b others u.0 u.2 (s ∙ q))
agree_items (a ∷ ds) [] tokens others s u q = absurd (no_item a tokens s.0 s.2 (u ∙ sym q))
agree_items (a ∷ ds) (b ∷ es) tokens others s u q =
    let e = agree_item a b tokens others s.0 u.0 s.2 u.2 q (ends_stop s.3.0 s.0 s.1 s.3.1) (ends_stop u.3.0 u.0 u.1 u.3.1) in
    λ i. e.0 i ∷ agree_items ds es s.1 u.1 s.4 u.4 (one_rest s.3.1 u.3.1 e.1) i

-- ---- the law
some_tokens : (xs ys : List Token) → Some xs ≡ Some ys → xs ≡ ys
some_tokens xs ys e = cc

pub one_script_law : OneScript
one_script_law bytes script other s u = agree_items script.items.items other.items.items s.0 u.0 s.2 u.2 (some_tokens s.0 u.0 (sym s.1 ∙ u.1))
