-- Which tokens spell a tree of the whole language, one case for each line of the grammar. Each relation has as
-- arguments the tokens before and after.
use Rattle.std.specs.Prelude.{◌≡◌, ◌≤◌, ◌<◌, ℕ, Bool, cond, List, [], ◌∷◌, length, suc, Some}
use Rattle.lang_model.specs.declared.syntax.Place.{Place}
use Rattle.lang_model.specs.declared.rows.Column.{Column}
use Rattle.lang_model.specs.declared.rows.Row.{Row}
use Rattle.lang_model.specs.declared.syntax.Op2.{Op2}
use Rattle.lang_model.specs.declared.syntax.Op2.TheVariants.{Or, And, Times, Under, Over}
use Rattle.lang_model.specs.declared.syntax.Base.{Base}
use Rattle.std.specs.declared.boxed.Box.{Box}
use Rattle.std.specs.declared.vec.Vec.{Vec}
use Rattle.std.specs.declared.alloc.Global.{Global}
use Rattle.lang_model.specs.declared.syntax.Expr.{Expr, Ref, Call, Base as BaseCall, Inject, Pair, Minus, Turned, Chain}
use Rattle.lang_model.specs.declared.syntax.Link.{Link}
use Rattle.lang_model.specs.declared.syntax.Stmt.{Stmt, Set, While, If}
use Rattle.lang_model.specs.declared.syntax.Decl.{Decl}
use Rattle.lang_model.specs.declared.syntax.Decl.TheVariants.{Variable, Domain}
use Rattle.lang_model.specs.declared.syntax.Let.{Let as LetOf}
use Rattle.lang_model.specs.declared.syntax.Command.{Command}
use Rattle.lang_model.specs.declared.syntax.Command.TheVariants.{Relation, Let, Print, List as ListOf, Count, Typed}
use Rattle.lang_model.specs.declared.syntax.Command.TheVariants.{Remove, Snap, At, Load, Save, LoadAll, SaveAll, Atomic}
use Rattle.lang_model.specs.declared.syntax.Command.TheVariants.{Explain}
use Rattle.lang_model.specs.declared.syntax.Item.{Item}
use Rattle.lang_model.specs.declared.syntax.Item.TheVariants.{Function, Program, Command as COMMAND}
use Rattle.lang_model.specs.declared.syntax.Script.{Script}
use Rattle.lang_model.specs.declared.token.Keyword.TheVariants.{Rel as REL, Let as LET, Print as PRINT, List as LIST}
use Rattle.lang_model.specs.declared.token.Keyword.TheVariants.{Count as COUNT, «Type» as TYPE, Drop as DROP}
use Rattle.lang_model.specs.declared.token.Keyword.TheVariants.{Snap as SNAP, At as AT, Load as LOAD, Save as SAVE}
use Rattle.lang_model.specs.declared.token.Keyword.TheVariants.{Decl as DECL, Prod as PROD, Sum as SUM, Beg as BEG}
use Rattle.lang_model.specs.declared.token.Keyword.TheVariants.{End as END, Return as RETURN, While as WHILE, Do as DO}
use Rattle.lang_model.specs.declared.token.Keyword.TheVariants.{Od as OD, If as IF, Then as THEN, Else as ELSE}
use Rattle.lang_model.specs.declared.token.Keyword.TheVariants.{Fi as FI, All as ALL, Atomic as ATOMIC}
use Rattle.lang_model.specs.declared.token.Keyword.TheVariants.{Commit as COMMIT, Explain as EXPLAIN}
use Rattle.lang_model.specs.declared.token.Kind.{Kind}
use Rattle.lang_model.specs.declared.token.Kind.TheVariants.{Keyword, Base as BASE, Word, Number, File, Sign}
use Rattle.lang_model.specs.declared.token.Token.{Token}
use Rattle.lang_model.specs.BaseNames.{TakesOne, TakesTwo, TakesDomain, form_of}
use Rattle.lang_model.specs.Tokens.{tokens_of}
use Rattle.lang_model.specs.Taken.{TakesAt, Takes, Carets}
use Rattle.lang_model.specs.Limits.{nesting_limit, more_limit}

-- ---- listed relations
-- { "," NUMBER }, each at least 1
abbrev pub SpellsMoreColumns : List Column → List Token → List Token → Type 0
SpellsMoreColumns [] tokens rest = rest ≡ tokens
SpellsMoreColumns (c ∷ cs) tokens rest = (mid after : List Token) × Takes (Sign 44) tokens mid
    × TakesAt c.at (Number c.col) mid after × (1 ≤ c.col) × SpellsMoreColumns cs after rest

-- NUMBER { "," NUMBER }
abbrev pub SpellsColumns : List Column → List Token → List Token → Type 0
SpellsColumns [] tokens rest = ⊥
SpellsColumns (c ∷ cs) tokens rest = (mid : List Token) × TakesAt c.at (Number c.col) tokens mid × (1 ≤ c.col)
    × SpellsMoreColumns cs mid rest

-- row = NUMBER ":" NUMBER { "," NUMBER }
abbrev pub SpellsRow : Row → List Token → List Token → Type 0
SpellsRow row tokens rest = (mid after : List Token) × TakesAt row.at (Number row.row) tokens mid × (1 ≤ row.row)
    × Takes (Sign 58) mid after × SpellsColumns row.cols.items after rest

-- { ";" row }
abbrev pub SpellsMoreRows : List Row → List Token → List Token → Type 0
SpellsMoreRows [] tokens rest = rest ≡ tokens
SpellsMoreRows (row ∷ rows) tokens rest = (mid after : List Token) × Takes (Sign 59) tokens mid
    × SpellsRow row mid after × SpellsMoreRows rows after rest

-- [ row { ";" row } ]
abbrev pub SpellsRows : List Row → List Token → List Token → Type 0
SpellsRows [] tokens rest = rest ≡ tokens
SpellsRows (row ∷ rows) tokens rest = (mid : List Token) × SpellsRow row tokens mid × SpellsMoreRows rows mid rest

-- ---- expressions
-- the lines of the grammar of expressions, from the loosest to the tightest
pub data Level : Type 0 where
  OrLevel : Level
  AndLevel : Level
  ProdLevel : Level
  UnaryLevel : Level
  PostLevel : Level
  PrimLevel : Level

-- the level of a chain's operands
abbrev pub tighter : Level → Level
tighter OrLevel = AndLevel
tighter AndLevel = ProdLevel
tighter ProdLevel = UnaryLevel
tighter UnaryLevel = PostLevel
tighter PostLevel = PrimLevel
tighter PrimLevel = PrimLevel

-- the operators of a level of chains, and their signs
abbrev pub IsOperatorOf : Level → Op2 → ℕ → Type 0
IsOperatorOf OrLevel Or sign = sign ≡ 124
IsOperatorOf AndLevel And sign = sign ≡ 38
IsOperatorOf ProdLevel Times sign = sign ≡ 42
IsOperatorOf ProdLevel Under sign = sign ≡ 92
IsOperatorOf ProdLevel Over sign = sign ≡ 47
IsOperatorOf _ _ sign = ⊥

-- The tokens of an expression at a level of the grammar, given how many constructs are open around it; those of further
-- arguments, with a bound on their number; and those of the links of a chain.
mutual
  -- an expression
  pub data Spelled : Level → ℕ → Expr → List Token → List Token → Type 0 where
    named : (d : ℕ) (at : Place) (text : List ℕ) (tokens rest : List Token) → TakesAt at (Word text) tokens rest
        → Spelled PrimLevel d (Ref at text) tokens rest
    called : (d : ℕ) (at : Place) (text : List ℕ) (args : Vec Expr Global) (first : Expr) (more : List Expr)
        (tokens t1 t2 t3 t4 rest : List Token) → d < nesting_limit → args.items ≡ first ∷ more
        → TakesAt at (Word text) tokens t1 → Takes (Sign 40) t1 t2 → Spelled OrLevel (suc d) first t2 t3
        → Listed more_limit (suc d) more t3 t4 → Takes (Sign 41) t4 rest
        → Spelled PrimLevel d (Call at text args) tokens rest
    based : (d : ℕ) (at : Place) (base : Base) (args : Vec Expr Global) (e : Expr) (tokens t1 t2 t3 rest : List Token)
        → d < nesting_limit → form_of base ≡ TakesOne → args.items ≡ e ∷ []
        → TakesAt at (BASE base) tokens t1 → Takes (Sign 40) t1 t2 → Spelled OrLevel (suc d) e t2 t3
        → Takes (Sign 41) t3 rest → Spelled PrimLevel d (BaseCall at base args) tokens rest
    based_twice : (d : ℕ) (at : Place) (base : Base) (args : Vec Expr Global) (e f : Expr)
        (tokens t1 t2 t3 t4 t5 rest : List Token) → d < nesting_limit → form_of base ≡ TakesTwo
        → args.items ≡ e ∷ f ∷ []
        → TakesAt at (BASE base) tokens t1 → Takes (Sign 40) t1 t2 → Spelled OrLevel (suc d) e t2 t3
        → Takes (Sign 44) t3 t4 → Spelled OrLevel (suc d) f t4 t5 → Takes (Sign 41) t5 rest
        → Spelled PrimLevel d (BaseCall at base args) tokens rest
    injected : (d : ℕ) (at : Place) (base : Base) (domain : List ℕ) (tokens t1 t2 t3 rest : List Token)
        → d < nesting_limit → form_of base ≡ TakesDomain
        → TakesAt at (BASE base) tokens t1 → Takes (Sign 40) t1 t2 → Takes (Word domain) t2 t3
        → Takes (Sign 41) t3 rest → Spelled PrimLevel d (Inject at base domain) tokens rest
    paired : (d : ℕ) (at : Place) (left right : Box Expr Global) (tokens t1 t2 t3 t4 rest : List Token)
        → d < nesting_limit
        → TakesAt at (Sign 91) tokens t1 → Spelled OrLevel (suc d) left.value t1 t2 → Takes (Sign 44) t2 t3
        → Spelled OrLevel (suc d) right.value t3 t4 → Takes (Sign 93) t4 rest
        → Spelled PrimLevel d (Pair at left right) tokens rest
    enclosed : (d : ℕ) (e : Expr) (tokens mid after rest : List Token) → d < nesting_limit
        → Takes (Sign 40) tokens mid → Spelled OrLevel (suc d) e mid after → Takes (Sign 41) after rest
        → Spelled PrimLevel d e tokens rest
    turned : (d : ℕ) (at : Place) (of : Box Expr Global) (n : ℕ) (tokens mid after rest : List Token)
        → Spelled PrimLevel d of.value tokens mid → TakesAt at (Sign 94) mid after → Carets n after rest
        → Spelled PostLevel d (Turned at of (suc n)) tokens rest
    negated : (d : ℕ) (at : Place) (of : Box Expr Global) (tokens mid rest : List Token) → d < nesting_limit
        → TakesAt at (Sign 45) tokens mid → Spelled UnaryLevel (suc d) of.value mid rest
        → Spelled UnaryLevel d (Minus at of) tokens rest
    chained : (l : Level) (d : ℕ) (first : Box Expr Global) (links : Vec Link Global) (tokens mid rest : List Token)
        → Spelled (tighter l) d first.value tokens mid → 0 < length links.items → Linked l d links.items mid rest
        → Spelled l d (Chain first links) tokens rest
    alone : (l : Level) (d : ℕ) (e : Expr) (tokens rest : List Token) → Spelled (tighter l) d e tokens rest
        → Spelled l d e tokens rest

  -- { "," expr }
  pub data Listed : ℕ → ℕ → List Expr → List Token → List Token → Type 0 where
    no_more : (n d : ℕ) (tokens rest : List Token) → rest ≡ tokens → Listed n d [] tokens rest
    one_more : (n d : ℕ) (e : Expr) (es : List Expr) (tokens mid after rest : List Token) → Takes (Sign 44) tokens mid
        → Spelled OrLevel d e mid after → Listed n d es after rest → Listed (suc n) d (e ∷ es) tokens rest

  -- { operator operand }
  pub data Linked : Level → ℕ → List Link → List Token → List Token → Type 0 where
    no_link : (l : Level) (d : ℕ) (tokens rest : List Token) → rest ≡ tokens → Linked l d [] tokens rest
    one_link : (l : Level) (d : ℕ) (x : Link) (xs : List Link) (sign : ℕ) (tokens mid after rest : List Token)
        → IsOperatorOf l x.op sign → TakesAt x.at (Sign sign) tokens mid → Spelled (tighter l) d x.right mid after
        → Linked l d xs after rest → Linked l d (x ∷ xs) tokens rest

-- ---- statements
-- The tokens of a statement, given how many constructs are open around it, and those of a list of statements.
mutual
  -- a statement
  pub data SpelledStmt : ℕ → Stmt → List Token → List Token → Type 0 where
    assigned : (d : ℕ) (at : Place) (name : List ℕ) (value : Expr) (tokens t1 t2 rest : List Token)
        → TakesAt at (Word name) tokens t1 → Takes (Sign 61) t1 t2 → Spelled OrLevel d value t2 rest
        → SpelledStmt d (Set at name value) tokens rest
    looped : (d : ℕ) (at : Place) (test : Expr) (body : Vec Stmt Global) (tokens t1 t2 t3 t4 rest : List Token)
        → d < nesting_limit
        → TakesAt at (Keyword WHILE) tokens t1 → Spelled OrLevel (suc d) test t1 t2 → Takes (Keyword DO) t2 t3
        → SpelledStmts (suc d) body.items t3 t4 → Takes (Keyword OD) t4 rest
        → SpelledStmt d (While at test body) tokens rest
    branched : (d : ℕ) (at : Place) (test : Expr) (yes no : Vec Stmt Global) (tokens t1 t2 t3 t4 rest : List Token)
        → d < nesting_limit
        → TakesAt at (Keyword IF) tokens t1 → Spelled OrLevel (suc d) test t1 t2 → Takes (Keyword THEN) t2 t3
        → SpelledStmts (suc d) yes.items t3 t4 → no.items ≡ [] → Takes (Keyword FI) t4 rest
        → SpelledStmt d (If at test yes no) tokens rest
    branched_twice : (d : ℕ) (at : Place) (test : Expr) (yes no : Vec Stmt Global)
        (tokens t1 t2 t3 t4 t5 t6 rest : List Token) → d < nesting_limit
        → TakesAt at (Keyword IF) tokens t1 → Spelled OrLevel (suc d) test t1 t2 → Takes (Keyword THEN) t2 t3
        → SpelledStmts (suc d) yes.items t3 t4 → Takes (Keyword ELSE) t4 t5 → SpelledStmts (suc d) no.items t5 t6
        → Takes (Keyword FI) t6 rest → SpelledStmt d (If at test yes no) tokens rest

  -- stmts = [ stmt [ ";" stmts ] ]
  pub data SpelledStmts : ℕ → List Stmt → List Token → List Token → Type 0 where
    no_stmt : (d : ℕ) (tokens rest : List Token) → rest ≡ tokens → SpelledStmts d [] tokens rest
    one_stmt : (d : ℕ) (s : Stmt) (tokens rest : List Token) → SpelledStmt d s tokens rest
        → SpelledStmts d (s ∷ []) tokens rest
    more_stmts : (d : ℕ) (s : Stmt) (ss : List Stmt) (tokens mid after rest : List Token) → SpelledStmt d s tokens mid
        → Takes (Sign 59) mid after → SpelledStmts d ss after rest → SpelledStmts d (s ∷ ss) tokens rest

-- ---- definitions
-- { "," NAME }
abbrev pub SpellsMoreNames : List (List ℕ) → List Token → List Token → Type 0
SpellsMoreNames [] tokens rest = rest ≡ tokens
SpellsMoreNames (name ∷ names) tokens rest = (mid after : List Token) × Takes (Sign 44) tokens mid
    × Takes (Word name) mid after × SpellsMoreNames names after rest

-- NAME { "," NAME }, with a bound on the names after the first
abbrev pub SpellsParams : List (List ℕ) → List Token → List Token → Type 0
SpellsParams [] tokens rest = ⊥
SpellsParams (name ∷ names) tokens rest = (mid : List Token) × Takes (Word name) tokens mid
    × (length names ≤ more_limit)
    × SpellsMoreNames names mid rest

-- the keyword of a sum or a product
abbrev pub domain_word : Bool → Kind
domain_word sum = Keyword (cond sum SUM PROD)

-- decl = NAME [ "=" ( PROD | SUM ) "(" NAME "," NAME ")" ]
abbrev pub SpellsDecl : Decl → List Token → List Token → Type 0
SpellsDecl (Variable at name) tokens rest = TakesAt at (Word name) tokens rest
SpellsDecl (Domain at name sum left right) tokens rest =
    (t1 t2 t3 t4 t5 t6 t7 : List Token) × TakesAt at (Word name) tokens t1 × Takes (Sign 61) t1 t2
    × Takes (domain_word sum) t2 t3 × Takes (Sign 40) t3 t4
    × Takes (Word left) t4 t5 × Takes (Sign 44) t5 t6 × Takes (Word right) t6 t7 × Takes (Sign 41) t7 rest

-- { "," decl }
abbrev pub SpellsMoreDecls : List Decl → List Token → List Token → Type 0
SpellsMoreDecls [] tokens rest = rest ≡ tokens
SpellsMoreDecls (decl ∷ decls) tokens rest = (mid after : List Token) × Takes (Sign 44) tokens mid
    × SpellsDecl decl mid after × SpellsMoreDecls decls after rest

-- [ DECL decl { "," decl } ]
abbrev pub SpellsDecls : List Decl → List Token → List Token → Type 0
SpellsDecls [] tokens rest = rest ≡ tokens
SpellsDecls (decl ∷ decls) tokens rest = (mid after : List Token) × Takes (Keyword DECL) tokens mid
    × SpellsDecl decl mid after × SpellsMoreDecls decls after rest

-- NAME "(" NAME { "," NAME } ")"
abbrev pub SpellsHead : Place → List ℕ → List (List ℕ) → List Token → List Token → Type 0
SpellsHead at name params tokens rest = (t1 t2 t3 : List Token) × TakesAt at (Word name) tokens t1
    × Takes (Sign 40) t1 t2 × SpellsParams params t2 t3 × Takes (Sign 41) t3 rest

-- ---- scripts
-- a keyword and a name
abbrev pub SpellsNamed : Kind → List ℕ → List Token → List Token → Type 0
SpellsNamed kind name tokens rest = (mid : List Token) × Takes kind tokens mid × Takes (Word name) mid rest

-- a keyword and an expression
abbrev pub SpellsValued : Kind → Expr → List Token → List Token → Type 0
SpellsValued kind value tokens rest = (mid : List Token) × Takes kind tokens mid × Spelled OrLevel 0 value mid rest

-- LET NAME "=" expr, in a block
abbrev pub SpellsLet : LetOf → List Token → List Token → Type 0
SpellsLet l tokens rest = (t1 t2 t3 : List Token) × Takes (Keyword LET) tokens t1 × TakesAt l.at (Word l.name) t1 t2
    × Takes (Sign 61) t2 t3 × Spelled OrLevel 0 l.value t3 rest

-- lets = LET NAME "=" expr [ ";" [ lets ] ]
mutual
  -- one and what follows it
  pub data SpelledLets : List LetOf → List Token → List Token → Type 0 where
    one_let : (l : LetOf) (ls : List LetOf) (tokens mid rest : List Token) → SpellsLet l tokens mid
        → SpelledMoreLets ls mid rest → SpelledLets (l ∷ ls) tokens rest

  -- [ ";" [ lets ] ]
  pub data SpelledMoreLets : List LetOf → List Token → List Token → Type 0 where
    no_let : (tokens rest : List Token) → rest ≡ tokens → SpelledMoreLets [] tokens rest
    last_sign : (tokens rest : List Token) → Takes (Sign 59) tokens rest → SpelledMoreLets [] tokens rest
    more_lets : (ls : List LetOf) (tokens mid rest : List Token) → Takes (Sign 59) tokens mid → SpelledLets ls mid rest
        → SpelledMoreLets ls tokens rest

-- command, by the alternatives of its line
abbrev pub SpellsCommand : Command → List Token → List Token → Type 0
SpellsCommand (Relation name rows rows_at cols cols_at list) tokens rest =
    (t1 t2 t3 t4 t5 : List Token) × SpellsNamed (Keyword REL) name tokens t1 × TakesAt rows_at (Number rows) t1 t2
    × TakesAt cols_at (Number cols) t2 t3
    × Takes (Sign 123) t3 t4 × SpellsRows list.items t4 t5 × Takes (Sign 125) t5 rest
SpellsCommand (Let name value) tokens rest = (t1 t2 : List Token) × SpellsNamed (Keyword LET) name tokens t1
    × Takes (Sign 61) t1 t2 × Spelled OrLevel 0 value t2 rest
SpellsCommand (Print value) tokens rest = SpellsValued (Keyword PRINT) value tokens rest
SpellsCommand (ListOf value) tokens rest = SpellsValued (Keyword LIST) value tokens rest
SpellsCommand (Count value) tokens rest = SpellsValued (Keyword COUNT) value tokens rest
SpellsCommand (Typed value) tokens rest = SpellsValued (Keyword TYPE) value tokens rest
SpellsCommand (Remove at name) tokens rest = (mid : List Token) × Takes (Keyword DROP) tokens mid
    × TakesAt at (Word name) mid rest
SpellsCommand (Snap name) tokens rest = SpellsNamed (Keyword SNAP) name tokens rest
SpellsCommand (At at name value) tokens rest = (t1 t2 : List Token) × Takes (Keyword AT) tokens t1
    × TakesAt at (Word name) t1 t2 × SpellsValued (Keyword PRINT) value t2 rest
SpellsCommand (Load name file) tokens rest = (mid : List Token) × SpellsNamed (Keyword LOAD) name tokens mid
    × Takes (File file) mid rest
SpellsCommand (Save value file) tokens rest = (mid : List Token) × SpellsValued (Keyword SAVE) value tokens mid
    × Takes (File file) mid rest
SpellsCommand (LoadAll file) tokens rest = (t1 t2 : List Token) × Takes (Keyword LOAD) tokens t1
    × Takes (Keyword ALL) t1 t2 × Takes (File file) t2 rest
SpellsCommand (SaveAll file) tokens rest = (t1 t2 : List Token) × Takes (Keyword SAVE) tokens t1
    × Takes (Keyword ALL) t1 t2 × Takes (File file) t2 rest
SpellsCommand (Atomic lets) tokens rest = (t1 t2 : List Token) × Takes (Keyword ATOMIC) tokens t1
    × SpelledLets lets.items t1 t2 × Takes (Keyword COMMIT) t2 rest
SpellsCommand (Explain value) tokens rest = SpellsValued (Keyword EXPLAIN) value tokens rest

-- item = def | command, and def = NAME "(" NAME { "," NAME } ")" ( "=" expr | program )
abbrev pub SpellsItem : Item → List Token → List Token → Type 0
SpellsItem (Function at name params body) tokens rest = (t1 t2 : List Token)
    × SpellsHead at name params.items tokens t1 × Takes (Sign 61) t1 t2 × Spelled OrLevel 0 body t2 rest
SpellsItem (Program at name params decls body result) tokens rest =
    (t1 t2 t3 t4 t5 t6 : List Token) × SpellsHead at name params.items tokens t1 × SpellsDecls decls.items t1 t2
    × Takes (Keyword BEG) t2 t3
    × SpelledStmts 0 body.items t3 t4 × Takes (Keyword RETURN) t4 t5 × Spelled OrLevel 0 result t5 t6
    × Takes (Keyword END) t6 rest
SpellsItem (COMMAND command) tokens rest = SpellsCommand command tokens rest

-- script = { item "." }
abbrev pub SpellsItems : List Item → List Token → List Token → Type 0
SpellsItems [] tokens rest = rest ≡ tokens
SpellsItems (item ∷ items) tokens rest = (mid after : List Token) × SpellsItem item tokens mid
    × Takes (Sign 46) mid after × SpellsItems items after rest

-- the tokens spell the script
abbrev pub Spells : Script → List Token → Type 0
Spells script tokens = SpellsItems script.items.items tokens []

-- the bytes spell the script
abbrev pub SpelledBy : List ℕ → Script → Type 0
SpelledBy bytes script = (tokens : List Token) × (tokens_of bytes ≡ Some tokens) × Spells script tokens
