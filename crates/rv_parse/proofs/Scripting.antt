-- Items: how they begin, and that the tokens of any script fit.
use Rattle.std.proofs.Common.{◌≡◌, ◌<◌, ◌≤◌, ℕ, true, false, List, [], ◌∷◌, ◌++◌, length, Some, None, refl, sym, ap, ◌∙◌, subst, zero, suc, arith}
use Rattle.std.proofs.lemmas.Bool.{false≢true}
use Rattle.std.proofs.lemmas.List.{append-nil}
use Rattle.lang_model.specs.declared.syntax.Place.{Place}
use Rattle.lang_model.specs.declared.rows.Column.{Column}
use Rattle.lang_model.specs.declared.rows.Row.{Row}
use Rattle.lang_model.specs.declared.syntax.Decl.{Decl}
use Rattle.lang_model.specs.declared.syntax.Decl.TheVariants.{Variable, Domain}
use Rattle.lang_model.specs.declared.syntax.Expr.{Expr}
use Rattle.lang_model.specs.declared.syntax.Command.{Command}
use Rattle.lang_model.specs.declared.syntax.Command.TheVariants.{Relation, Let, Print, List as ListOf, Count, Typed, Remove, Snap, At, Load, Save, LoadAll, SaveAll, Atomic, Explain}
use Rattle.lang_model.specs.declared.syntax.Item.{Item}
use Rattle.lang_model.specs.declared.syntax.Item.TheVariants.{Function, Program, Command as COMMAND}
use Rattle.lang_model.specs.declared.syntax.Script.{Script}
use Rattle.lang_model.specs.declared.faults.What.TheVariants.{Item as AN_ITEM}
use Rattle.lang_model.specs.declared.token.Keyword.{Keyword}
use Rattle.lang_model.specs.declared.token.Keyword.TheVariants.{Rel as REL, Let as LET, Print as PRINT, List as LIST, Count as COUNT, «Type» as TYPE, Drop as DROP, Snap as SNAP, At as AT, Load as LOAD, Save as SAVE, Decl as DECL, Beg as BEG, End as END, Return as RETURN, All as ALL, Atomic as ATOMIC, Commit as COMMIT, Explain as EXPLAIN}
use Rattle.lang_model.specs.declared.token.Kind.{Kind}
use Rattle.lang_model.specs.declared.token.Kind.TheVariants.{Keyword as KEYWORD, Word, Number, File, Sign}
use Rattle.lang_model.specs.declared.token.Token.{Token}
use Rattle.lang_model.specs.Taken.{TakesAt, Takes}
use Rattle.lang_model.specs.Lexed.{Ending, EndsAt}
use Rattle.lang_model.specs.Spelling.{OrLevel, SpellsMoreColumns, SpellsColumns, SpellsRow, SpellsMoreRows, SpellsRows, SpellsMoreNames, SpellsParams, SpellsDecl, SpellsMoreDecls, SpellsDecls, SpellsHead, SpellsValued, SpellsCommand, SpellsItem, SpellsItems, Spells, domain_word}
use Rattle.lang_model.specs.Stop.{Part, NamePart, NumberPart, FromOne, FilePart, SignPart, WordPart, ExprPart, RowsPart, MoreRows, MoreColumns, MoreParams, BodyPart, MeaningPart, DomainPart, MoreDecls, ItemsPart, NotBegun, Behind, row_parts, program_parts, command_step, item_step, stop_of}
use Rattle.rv_parse.specs.Halts.{missing}
use Rattle.rv_parse.specs.Readers.{begins, begins_number}
use Rattle.rv_parse.specs.Openings.{opening_word, opening_parts}
use Rattle.rv_parse.specs.Items.{is_name, begins_name, keyword_step, NoCommand}
use Rattle.rv_parse.specs.declared.command.Opening.{Opening}
use Rattle.rv_parse.specs.declared.command.Opening.TheVariants.{Relation as OPENS_RELATION, Let as OPENS_LET, Print as OPENS_PRINT, List as OPENS_LIST, Count as OPENS_COUNT, «Type» as OPENS_TYPE, Drop as OPENS_DROP, Snap as OPENS_SNAP, At as OPENS_AT, Load as OPENS_LOAD, Save as OPENS_SAVE, Atomic as OPENS_ATOMIC, Explain as OPENS_EXPLAIN}
use Rattle.rv_parse.proofs.Leaves.{reads_sign, reads_word}
use Rattle.rv_parse.proofs.AllOrOne.{takes_all, one_name, one_value}
use Rattle.rv_parse.proofs.RowSteps.{drop_columns, enter_columns, drop_more_rows, enter_rows, rows_begin, drop_rows}
use Rattle.rv_parse.proofs.Defs.{drop_meaning, enter_meaning, drop_decls, enter_decls, enter_params, drop_params}
use Rattle.rv_parse.proofs.Fitting.{Closed, closed_file, closed_stop, closed_word, fits_whole, ends_return, fits_stmts}
use Rattle.rv_parse.proofs.Blocks.{fits_lets}

-- ---- how an item begins
pub item_begins : (kind : Kind) (parts : List Part) (at : Place) (tokens rest : List Token) (e : Ending) → item_step kind ≡ Behind parts → TakesAt at kind tokens rest → stop_of (ItemsPart ∷ []) tokens e ≡ stop_of (parts ++ SignPart 46 ∷ ItemsPart ∷ []) rest e
item_begins kind parts at tokens rest e s t = rw t (rw s (ap (λ ps. stop_of ps rest e) (append-nil (parts ++ SignPart 46 ∷ ItemsPart ∷ []))))

-- the word that opens a command leads to its parts, command by command
opening_step : (o : Opening) → command_step (opening_word o) ≡ Behind (opening_parts o)
opening_step OPENS_RELATION = refl
opening_step OPENS_LET = refl
opening_step OPENS_PRINT = refl
opening_step OPENS_LIST = refl
opening_step OPENS_COUNT = refl
opening_step OPENS_TYPE = refl
opening_step OPENS_DROP = refl
opening_step OPENS_SNAP = refl
opening_step OPENS_AT = refl
opening_step OPENS_LOAD = refl
opening_step OPENS_SAVE = refl
opening_step OPENS_ATOMIC = refl
opening_step OPENS_EXPLAIN = refl

pub command_begins : (o : Opening) (tokens rest : List Token) (e : Ending) → Takes (KEYWORD (opening_word o)) tokens rest → stop_of (ItemsPart ∷ []) tokens e ≡ stop_of (opening_parts o ++ SignPart 46 ∷ ItemsPart ∷ []) rest e
command_begins o tokens rest e t = item_begins (KEYWORD (opening_word o)) (opening_parts o) t.0 tokens rest e (opening_step o) t.1

pub no_item : (tokens : List Token) (e : Ending) → 0 < length tokens → begins_name tokens ≡ false → NoCommand tokens → stop_of (ItemsPart ∷ []) tokens e ≡ Some (missing AN_ITEM tokens e)
no_item [] e l n c = absurd (omega arith)
no_item (t ∷ ts) e l n c = rw (at t.kind n c) refl
  where
    at : (k : Kind) → is_name k ≡ false → keyword_step k ≡ NotBegun → item_step k ≡ NotBegun
    at (Word name) n c = absurd (false≢true (sym n))
    at (KEYWORD keyword) n c = c
    at _ n c = refl

-- ---- listed relations
reads_from_one : (at : Place) (k : ℕ) (tokens rest : List Token) (e : Ending) (behind : List Part) → TakesAt at (Number k) tokens rest → 1 ≤ k → stop_of (FromOne ∷ behind) tokens e ≡ stop_of behind rest e
reads_from_one at zero tokens rest e behind t p = absurd (omega arith)
reads_from_one at (suc k) tokens rest e behind t p = rw t refl

fits_more_columns : (cs : List Column) (tokens rest : List Token) → SpellsMoreColumns cs tokens rest → begins 44 rest ≡ false → (e : Ending) (behind : List Part) → stop_of (MoreColumns ∷ behind) tokens e ≡ stop_of behind rest e
fits_more_columns [] tokens rest s h e behind = subst (λ z. stop_of (MoreColumns ∷ behind) z e ≡ stop_of behind rest e) s (drop_columns rest e behind h)
fits_more_columns (c ∷ cs) tokens rest s h e behind =
    enter_columns s.2.0 tokens s.0 e behind s.2.1 ∙ reads_from_one c.at c.col s.0 s.1 e (MoreColumns ∷ behind) s.3 s.4 ∙ fits_more_columns cs s.1 rest s.5 h e behind

fits_columns : (cs : List Column) (tokens rest : List Token) → SpellsColumns cs tokens rest → begins 44 rest ≡ false → (e : Ending) (behind : List Part) → stop_of (FromOne ∷ MoreColumns ∷ behind) tokens e ≡ stop_of behind rest e
fits_columns [] tokens rest s h e behind = absurd s
fits_columns (c ∷ cs) tokens rest s h e behind = reads_from_one c.at c.col tokens s.0 e (MoreColumns ∷ behind) s.1 s.2 ∙ fits_more_columns cs s.0 rest s.3 h e behind

fits_row : (r : Row) (tokens rest : List Token) → SpellsRow r tokens rest → begins 44 rest ≡ false → (e : Ending) (behind : List Part) → stop_of (row_parts ++ behind) tokens e ≡ stop_of behind rest e
fits_row r tokens rest s h e behind =
    reads_from_one r.at r.row tokens s.0 e (SignPart 58 ∷ FromOne ∷ MoreColumns ∷ behind) s.2 s.3 ∙ reads_sign 58 s.4.0 s.0 s.1 e (FromOne ∷ MoreColumns ∷ behind) s.4.1 ∙ fits_columns r.cols.items s.1 rest s.5 h e behind

-- behind the rows stands the closing brace
no_comma_before : (rs : List Row) (at : Place) (tokens rest end : List Token) → SpellsMoreRows rs tokens rest → TakesAt at (Sign 125) rest end → begins 44 tokens ≡ false
no_comma_before [] at tokens rest end s t = subst (λ z. begins 44 z ≡ false) s (ap (begins 44) t)
no_comma_before (r ∷ rs) at tokens rest end s t = ap (begins 44) s.2.1

fits_more_rows : (rs : List Row) (at : Place) (tokens rest end : List Token) → SpellsMoreRows rs tokens rest → TakesAt at (Sign 125) rest end → (e : Ending) (behind : List Part) → stop_of (MoreRows ∷ behind) tokens e ≡ stop_of behind rest e
fits_more_rows [] at tokens rest end s t e behind = subst (λ z. stop_of (MoreRows ∷ behind) z e ≡ stop_of behind rest e) s (drop_more_rows rest e behind (ap (begins 59) t))
fits_more_rows (r ∷ rs) at tokens rest end s t e behind =
    enter_rows s.2.0 tokens s.0 e behind s.2.1 ∙ fits_row r s.0 s.1 s.3 (no_comma_before rs at s.1 rest end s.4 t) e (MoreRows ∷ behind) ∙ fits_more_rows rs at s.1 rest end s.4 t e behind

fits_rows : (rs : List Row) (at : Place) (tokens rest end : List Token) → SpellsRows rs tokens rest → TakesAt at (Sign 125) rest end → (e : Ending) (behind : List Part) → stop_of (RowsPart ∷ behind) tokens e ≡ stop_of behind rest e
fits_rows [] at tokens rest end s t e behind = subst (λ z. stop_of (RowsPart ∷ behind) z e ≡ stop_of behind rest e) s (drop_rows rest e behind (ap begins_number t))
fits_rows (r ∷ rs) at tokens rest end s t e behind =
    rows_begin tokens e behind (ap begins_number s.1.2) ∙ fits_row r tokens s.0 s.1 (no_comma_before rs at s.0 rest end s.2 t) e (MoreRows ∷ behind) ∙ fits_more_rows rs at s.0 rest end s.2 t e behind

-- ---- definitions
reads_name : (name : List ℕ) (at : Place) (tokens rest : List Token) (e : Ending) (behind : List Part) → TakesAt at (Word name) tokens rest → stop_of (NamePart ∷ behind) tokens e ≡ stop_of behind rest e
reads_name name at tokens rest e behind t = rw t refl

fits_more_names : (names : List (List ℕ)) (n : ℕ) (tokens rest : List Token) → length names ≤ n → SpellsMoreNames names tokens rest → begins 44 rest ≡ false → (e : Ending) (behind : List Part) → stop_of (MoreParams n ∷ behind) tokens e ≡ stop_of behind rest e
fits_more_names [] n tokens rest l s h e behind = subst (λ z. stop_of (MoreParams n ∷ behind) z e ≡ stop_of behind rest e) s (drop_params n rest e behind h)
fits_more_names (x ∷ xs) zero tokens rest l s h e behind = absurd (omega arith)
fits_more_names (x ∷ xs) (suc n) tokens rest l s h e behind =
    enter_params n s.2.0 tokens s.0 e behind s.2.1 ∙ reads_name x s.3.0 s.0 s.1 e (MoreParams n ∷ behind) s.3.1 ∙ fits_more_names xs n s.1 rest (omega arith) s.4 h e behind

fits_params : (names : List (List ℕ)) (tokens rest : List Token) → SpellsParams names tokens rest → begins 44 rest ≡ false → (e : Ending) (behind : List Part) → stop_of (NamePart ∷ MoreParams 15 ∷ behind) tokens e ≡ stop_of behind rest e
fits_params [] tokens rest s h e behind = absurd s
fits_params (x ∷ xs) tokens rest s h e behind = reads_name x s.1.0 tokens s.0 e (MoreParams 15 ∷ behind) s.1.1 ∙ fits_more_names xs 15 s.0 rest s.2 s.3 h e behind

begins_domain : (sum : _) (at : Place) (tokens rest : List Token) (e : Ending) (behind : List Part) → TakesAt at (domain_word sum) tokens rest → stop_of (DomainPart ∷ behind) tokens e ≡ stop_of (SignPart 40 ∷ NamePart ∷ SignPart 44 ∷ NamePart ∷ SignPart 41 ∷ behind) rest e
begins_domain true at tokens rest e behind t = rw t refl
begins_domain false at tokens rest e behind t = rw t refl

fits_decl : (d : Decl) (tokens rest : List Token) → SpellsDecl d tokens rest → begins 61 rest ≡ false → (e : Ending) (behind : List Part) → stop_of (NamePart ∷ MeaningPart ∷ behind) tokens e ≡ stop_of behind rest e
fits_decl (Variable at name) tokens rest s h e behind = reads_name name at tokens rest e (MeaningPart ∷ behind) s ∙ drop_meaning rest e behind h
fits_decl (Domain at name sum left right) tokens rest s h e behind =
    reads_name name at tokens s.0 e (MeaningPart ∷ behind) s.7 ∙ enter_meaning s.8.0 s.0 s.1 e behind s.8.1 ∙ begins_domain sum s.9.0 s.1 s.2 e behind s.9.1
    ∙ reads_sign 40 s.10.0 s.2 s.3 e (NamePart ∷ SignPart 44 ∷ NamePart ∷ SignPart 41 ∷ behind) s.10.1 ∙ reads_name left s.11.0 s.3 s.4 e (SignPart 44 ∷ NamePart ∷ SignPart 41 ∷ behind) s.11.1
    ∙ reads_sign 44 s.12.0 s.4 s.5 e (NamePart ∷ SignPart 41 ∷ behind) s.12.1 ∙ reads_name right s.13.0 s.5 s.6 e (SignPart 41 ∷ behind) s.13.1 ∙ reads_sign 41 s.14.0 s.6 rest e behind s.14.1

no_equals_before : (ds : List Decl) (at : Place) (tokens rest end : List Token) → SpellsMoreDecls ds tokens rest → TakesAt at (KEYWORD BEG) rest end → begins 61 tokens ≡ false
no_equals_before [] at tokens rest end s t = subst (λ z. begins 61 z ≡ false) s (ap (begins 61) t)
no_equals_before (d ∷ ds) at tokens rest end s t = ap (begins 61) s.2.1

fits_more_decls : (ds : List Decl) (at : Place) (tokens rest end : List Token) → SpellsMoreDecls ds tokens rest → TakesAt at (KEYWORD BEG) rest end → (e : Ending) (behind : List Part) → stop_of (MoreDecls ∷ behind) tokens e ≡ stop_of behind rest e
fits_more_decls [] at tokens rest end s t e behind = subst (λ z. stop_of (MoreDecls ∷ behind) z e ≡ stop_of behind rest e) s (drop_decls rest e behind (ap (begins 44) t))
fits_more_decls (d ∷ ds) at tokens rest end s t e behind =
    enter_decls s.2.0 tokens s.0 e behind s.2.1 ∙ fits_decl d s.0 s.1 s.3 (no_equals_before ds at s.1 rest end s.4 t) e (MoreDecls ∷ behind) ∙ fits_more_decls ds at s.1 rest end s.4 t e behind

begins_beg : (at : Place) (tokens rest : List Token) (e : Ending) (behind : List Part) → TakesAt at (KEYWORD BEG) tokens rest → stop_of (BodyPart ∷ behind) tokens e ≡ stop_of (program_parts ++ behind) rest e
begins_beg at tokens rest e behind t = rw t refl

begins_decl : (at : Place) (tokens rest : List Token) (e : Ending) (behind : List Part) → TakesAt at (KEYWORD DECL) tokens rest → stop_of (BodyPart ∷ behind) tokens e ≡ stop_of (NamePart ∷ MeaningPart ∷ MoreDecls ∷ WordPart BEG ∷ program_parts ++ behind) rest e
begins_decl at tokens rest e behind t = rw t refl

begins_equals : (at : Place) (tokens rest : List Token) (e : Ending) (behind : List Part) → TakesAt at (Sign 61) tokens rest → stop_of (BodyPart ∷ behind) tokens e ≡ stop_of (ExprPart OrLevel 0 ∷ behind) rest e
begins_equals at tokens rest e behind t = rw t refl

fits_decls : (ds : List Decl) (tokens mid rest : List Token) → SpellsDecls ds tokens mid → Takes (KEYWORD BEG) mid rest → (e : Ending) (behind : List Part) → stop_of (BodyPart ∷ behind) tokens e ≡ stop_of (program_parts ++ behind) rest e
fits_decls [] tokens mid rest s beg e behind = subst (λ z. stop_of (BodyPart ∷ behind) z e ≡ stop_of (program_parts ++ behind) rest e) s (begins_beg beg.0 mid rest e behind beg.1)
fits_decls (d ∷ ds) tokens mid rest s beg e behind =
    begins_decl s.2.0 tokens s.0 e behind s.2.1 ∙ fits_decl d s.0 s.1 s.3 (no_equals_before ds beg.0 s.1 mid rest s.4 beg.1) e (MoreDecls ∷ WordPart BEG ∷ program_parts ++ behind)
    ∙ fits_more_decls ds beg.0 s.1 mid rest s.4 beg.1 e (WordPart BEG ∷ program_parts ++ behind) ∙ reads_word BEG beg.0 mid rest e (program_parts ++ behind) beg.1

-- the name of a definition with its parameters
fits_head : (at : Place) (name : List ℕ) (params : List (List ℕ)) (tokens rest : List Token) → SpellsHead at name params tokens rest → (e : Ending) → stop_of (ItemsPart ∷ []) tokens e ≡ stop_of (BodyPart ∷ SignPart 46 ∷ ItemsPart ∷ []) rest e
fits_head at name params tokens rest s e =
    item_begins (Word name) _ at tokens s.0 e refl s.3 ∙ reads_sign 40 s.4.0 s.0 s.1 e (NamePart ∷ MoreParams 15 ∷ SignPart 41 ∷ BodyPart ∷ SignPart 46 ∷ ItemsPart ∷ []) s.4.1
    ∙ fits_params params s.1 s.2 s.5 (ap (begins 44) s.6.1) e (SignPart 41 ∷ BodyPart ∷ SignPart 46 ∷ ItemsPart ∷ []) ∙ reads_sign 41 s.6.0 s.2 rest e (BodyPart ∷ SignPart 46 ∷ ItemsPart ∷ []) s.6.1

-- ---- commands
reads_file : (text : List ℕ) (at : Place) (tokens rest : List Token) (e : Ending) (behind : List Part) → TakesAt at (File text) tokens rest → stop_of (FilePart ∷ behind) tokens e ≡ stop_of behind rest e
reads_file text at tokens rest e behind t = rw t refl

reads_number : (n : ℕ) (at : Place) (tokens rest : List Token) (e : Ending) (behind : List Part) → TakesAt at (Number n) tokens rest → stop_of (NumberPart ∷ behind) tokens e ≡ stop_of behind rest e
reads_number n at tokens rest e behind t = rw t refl

-- a keyword and an expression before a full stop
fits_valued : (w : Keyword) (value : Expr) (tokens rest end : List Token) → command_step w ≡ Behind (ExprPart OrLevel 0 ∷ []) → SpellsValued (KEYWORD w) value tokens rest → Closed rest → (e : Ending) → stop_of (ItemsPart ∷ []) tokens e ≡ stop_of (SignPart 46 ∷ ItemsPart ∷ []) rest e
fits_valued w value tokens rest end k s c e = item_begins (KEYWORD w) _ s.1.0 tokens s.0 e k s.1.1 ∙ fits_whole s.2 c e (SignPart 46 ∷ ItemsPart ∷ [])

-- a command before its full stop fits, by its kind: its keyword enters it, and its parts are read in order up to the
-- stop
fits_command : (c : Command) (tokens rest end : List Token) → SpellsCommand c tokens rest → Takes (Sign 46) rest end → (e : Ending) → stop_of (ItemsPart ∷ []) tokens e ≡ stop_of (SignPart 46 ∷ ItemsPart ∷ []) rest e
fits_command (Relation name rows rows_at cols cols_at list) tokens rest end s stop e =
    let more : List Part = SignPart 46 ∷ ItemsPart ∷ [] in
    item_begins (KEYWORD REL) _ s.5.1.0 tokens s.5.0 e refl s.5.1.1 ∙ reads_name name s.5.2.0 s.5.0 s.0 e (NumberPart ∷ NumberPart ∷ SignPart 123 ∷ RowsPart ∷ SignPart 125 ∷ more) s.5.2.1
    ∙ reads_number rows rows_at s.0 s.1 e (NumberPart ∷ SignPart 123 ∷ RowsPart ∷ SignPart 125 ∷ more) s.6 ∙ reads_number cols cols_at s.1 s.2 e (SignPart 123 ∷ RowsPart ∷ SignPart 125 ∷ more) s.7
    ∙ reads_sign 123 s.8.0 s.2 s.3 e (RowsPart ∷ SignPart 125 ∷ more) s.8.1 ∙ fits_rows list.items s.10.0 s.3 s.4 rest s.9 s.10.1 e (SignPart 125 ∷ more) ∙ reads_sign 125 s.10.0 s.4 rest e more s.10.1
fits_command (Let name value) tokens rest end s stop e =
    let more : List Part = SignPart 46 ∷ ItemsPart ∷ [] in
    item_begins (KEYWORD LET) _ s.2.1.0 tokens s.2.0 e refl s.2.1.1 ∙ reads_name name s.2.2.0 s.2.0 s.0 e (SignPart 61 ∷ ExprPart OrLevel 0 ∷ more) s.2.2.1
    ∙ reads_sign 61 s.3.0 s.0 s.1 e (ExprPart OrLevel 0 ∷ more) s.3.1 ∙ fits_whole s.4 (closed_stop stop.0 rest end stop.1) e more
fits_command (Print value) tokens rest end s stop e = fits_valued PRINT value tokens rest end refl s (closed_stop stop.0 rest end stop.1) e
fits_command (ListOf value) tokens rest end s stop e = fits_valued LIST value tokens rest end refl s (closed_stop stop.0 rest end stop.1) e
fits_command (Count value) tokens rest end s stop e = fits_valued COUNT value tokens rest end refl s (closed_stop stop.0 rest end stop.1) e
fits_command (Typed value) tokens rest end s stop e = fits_valued TYPE value tokens rest end refl s (closed_stop stop.0 rest end stop.1) e
fits_command (Remove at name) tokens rest end s stop e = item_begins (KEYWORD DROP) _ s.1.0 tokens s.0 e refl s.1.1 ∙ reads_name name at s.0 rest e (SignPart 46 ∷ ItemsPart ∷ []) s.2
fits_command (Snap name) tokens rest end s stop e = item_begins (KEYWORD SNAP) _ s.1.0 tokens s.0 e refl s.1.1 ∙ reads_name name s.2.0 s.0 rest e (SignPart 46 ∷ ItemsPart ∷ []) s.2.1
fits_command (At at name value) tokens rest end s stop e =
    let more : List Part = SignPart 46 ∷ ItemsPart ∷ [] in
    item_begins (KEYWORD AT) _ s.2.0 tokens s.0 e refl s.2.1 ∙ reads_name name at s.0 s.1 e (WordPart PRINT ∷ ExprPart OrLevel 0 ∷ more) s.3
    ∙ reads_word PRINT s.4.1.0 s.1 s.4.0 e (ExprPart OrLevel 0 ∷ more) s.4.1.1 ∙ fits_whole s.4.2 (closed_stop stop.0 rest end stop.1) e more
fits_command (Load name file) tokens rest end s stop e =
    let more : List Part = SignPart 46 ∷ ItemsPart ∷ [] in
    item_begins (KEYWORD LOAD) _ s.1.1.0 tokens s.1.0 e refl s.1.1.1
    ∙ (one_name name s.1.2.0 s.1.0 s.0 s.1.2.1).name e (FilePart ∷ more)
    ∙ reads_name name s.1.2.0 s.1.0 s.0 e (FilePart ∷ more) s.1.2.1 ∙ reads_file file s.2.0 s.0 rest e more s.2.1
fits_command (Save value file) tokens rest end s stop e =
    let more : List Part = SignPart 46 ∷ ItemsPart ∷ [] in
    item_begins (KEYWORD SAVE) _ s.1.1.0 tokens s.1.0 e refl s.1.1.1
    ∙ (one_value value s.1.0 s.0 s.1.2).value e (FilePart ∷ more)
    ∙ fits_whole s.1.2 (closed_file file s.2.0 s.0 rest s.2.1) e (FilePart ∷ more) ∙ reads_file file s.2.0 s.0 rest e more s.2.1
fits_command (LoadAll file) tokens rest end s stop e =
    let more : List Part = SignPart 46 ∷ ItemsPart ∷ [] in
    item_begins (KEYWORD LOAD) _ s.2.0 tokens s.0 e refl s.2.1
    ∙ (takes_all s.3.0 s.0 s.1 s.3.1).as_name e (FilePart ∷ more) ∙ reads_file file s.4.0 s.1 rest e more s.4.1
fits_command (SaveAll file) tokens rest end s stop e =
    let more : List Part = SignPart 46 ∷ ItemsPart ∷ [] in
    item_begins (KEYWORD SAVE) _ s.2.0 tokens s.0 e refl s.2.1
    ∙ (takes_all s.3.0 s.0 s.1 s.3.1).as_value e (FilePart ∷ more) ∙ reads_file file s.4.0 s.1 rest e more s.4.1
fits_command (Atomic lets) tokens rest end s stop e =
    let more : List Part = SignPart 46 ∷ ItemsPart ∷ [] in
    item_begins (KEYWORD ATOMIC) _ s.2.0 tokens s.0 e refl s.2.1 ∙ fits_lets s.3 s.4.0 rest s.4.1 e (WordPart COMMIT ∷ more) ∙ reads_word COMMIT s.4.0 s.1 rest e more s.4.1
fits_command (Explain value) tokens rest end s stop e = fits_valued EXPLAIN value tokens rest end refl s (closed_stop stop.0 rest end stop.1) e

-- ---- scripts
fits_item : (i : Item) (tokens rest end : List Token) → SpellsItem i tokens rest → Takes (Sign 46) rest end → (e : Ending) → stop_of (ItemsPart ∷ []) tokens e ≡ stop_of (SignPart 46 ∷ ItemsPart ∷ []) rest e
fits_item (Function at name params body) tokens rest end s stop e =
    fits_head at name params.items tokens s.0 s.2 e ∙ begins_equals s.3.0 s.0 s.1 e (SignPart 46 ∷ ItemsPart ∷ []) s.3.1 ∙ fits_whole s.4 (closed_stop stop.0 rest end stop.1) e (SignPart 46 ∷ ItemsPart ∷ [])
fits_item (Program at name params decls body result) tokens rest end s stop e =
    let more : List Part = SignPart 46 ∷ ItemsPart ∷ [] in
    fits_head at name params.items tokens s.0 s.6 e ∙ fits_decls decls.items s.0 s.1 s.2 s.7 s.8 e more ∙ fits_stmts s.9 (ends_return s.10.0 s.3 s.4 s.10.1) e (WordPart RETURN ∷ ExprPart OrLevel 0 ∷ WordPart END ∷ more)
    ∙ reads_word RETURN s.10.0 s.3 s.4 e (ExprPart OrLevel 0 ∷ WordPart END ∷ more) s.10.1 ∙ fits_whole s.11 (closed_word END s.12.0 s.5 rest s.12.1) e (WordPart END ∷ more) ∙ reads_word END s.12.0 s.5 rest e more s.12.1
fits_item (COMMAND command) tokens rest end s stop e = fits_command command tokens rest end s stop e

fits_items : (is : List Item) (tokens rest : List Token) → SpellsItems is tokens rest → (e : Ending) → stop_of (ItemsPart ∷ []) tokens e ≡ stop_of (ItemsPart ∷ []) rest e
fits_items [] tokens rest s e = ap (λ z. stop_of (ItemsPart ∷ []) z e) (sym s)
fits_items (i ∷ is) tokens rest s e = fits_item i tokens s.0 s.1 s.2 s.3 e ∙ reads_sign 46 s.3.0 s.0 s.1 e (ItemsPart ∷ []) s.3.1 ∙ fits_items is s.1 rest s.4 e

-- the tokens of a script fit up to the end
pub spelled_fits : (script : Script) (tokens : List Token) (place : Place) → Spells script tokens → stop_of (ItemsPart ∷ []) tokens (EndsAt place) ≡ None
spelled_fits script tokens place s = fits_items script.items.items tokens [] s (EndsAt place)
