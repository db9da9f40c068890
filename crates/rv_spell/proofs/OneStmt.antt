-- Tokens spell one statement alone, and one list of statements.
-- 1. The first token of a statement is a name, WHILE or IF, so it decides which line of the grammar it is.
-- 2. Behind a list of statements stands OD, FI, ELSE or RETURN, with which no statement begins and which is no ';': so where it ends is decided too.
-- 3. By induction on how the first is spelled; for expressions by `agree`.
use Rattle.std.proofs.Common.{◌≡◌, ◌+◌, ◌==◌, ℕ, Bool, true, false, List, refl, sym, ap, ◌∙◌, subst}
use Rattle.std.proofs.lemmas.Bool.{false≢true, eq-eqb}
use Rattle.lang_model.specs.declared.syntax.Place.{Place}
use Rattle.lang_model.specs.declared.syntax.Stmt.{Stmt}
use Rattle.lang_model.specs.declared.token.Keyword.{Keyword}
use Rattle.lang_model.specs.declared.token.Keyword.TheVariants.{While as WHILE, If as IF}
use Rattle.lang_model.specs.declared.token.Kind.{Kind}
use Rattle.lang_model.specs.declared.token.Kind.TheVariants.{Keyword as KEYWORD, Base as BASE, Word, Number, File, Sign}
use Rattle.lang_model.specs.declared.token.Token.{Token}
use Rattle.lang_model.specs.Taken.{TakesAt}
use Rattle.lang_model.specs.Stop.{number_of}
use Rattle.lang_model.specs.Spelling.{OrLevel, SpelledStmt, assigned, looped, branched, branched_twice, SpelledStmts, no_stmt, one_stmt, more_stmts}
use Rattle.rv_spell.specs.Again.{Ends}
use Rattle.rv_parse.specs.Readers.{begins}
use Rattle.rv_spell.specs.Plain.{SetTree, WhileTree, IfTree, NoStmt, MoreStmts, stmt_tree, stmts_in}
use Rattle.rv_spell.proofs.Apart.{one_kind, one_place, one_rest, one_word}
use Rattle.rv_spell.proofs.Plain.{stmt_tree-while, stmt_tree-if}
use Rattle.rv_spell.proofs.Unambiguous.{agree}

-- ---- tokens
-- a number that tells the keywords and the other kinds of tokens apart, and the signs among themselves
abbrev pub code_of : Kind → ℕ
code_of (KEYWORD word) = number_of word
code_of (Word name) = 27
code_of (Number n) = 28
code_of (File text) = 29
code_of (BASE base) = 30
code_of (Sign s) = 31 + s

-- the same tokens word not begin with two kinds
pub differ : {at at' : Place} {kind kind' : Kind} {ts ts' rest rest' : List Token} → TakesAt at kind ts rest → TakesAt at' kind' ts' rest' → ts ≡ ts' → (code_of kind == code_of kind') ≡ false → ⊥
differ {at} {at'} {kind} {kind'} {ts} {ts'} {rest} {rest'} t t' q n = false≢true (sym n ∙ eq-eqb (code_of kind) (code_of kind') (ap code_of (one_kind t t' q)))

-- behind an expression a keyword or a ';' does not go on with it
pub ends_keyword : {at : Place} {word : Keyword} {tokens rest : List Token} → TakesAt at (KEYWORD word) tokens rest → Ends OrLevel tokens
ends_keyword t = subst (Ends OrLevel) (sym t) (refl, (refl, (refl, (refl, refl))))

-- nor does a ';'
pub ends_semicolon : {at : Place} {tokens rest : List Token} → TakesAt at (Sign 59) tokens rest → Ends OrLevel tokens
ends_semicolon t = subst (Ends OrLevel) (sym t) (refl, (refl, (refl, (refl, refl))))

-- ---- what stands behind a list of statements
-- the kinds with which a statement begins
abbrev pub opens : Kind → Bool
opens (Word name) = true
opens (KEYWORD WHILE) = true
opens (KEYWORD IF) = true
opens _ = false

-- a keyword with which no statement begins
pub record Closing (tokens : List Token) : Type 0 where
  pub at : Place
  pub word : Keyword
  pub rest : List Token
  pub takes : TakesAt at (KEYWORD word) tokens rest
  pub closes : opens (KEYWORD word) ≡ false

pub closing : {at : Place} {word : Keyword} {tokens rest : List Token} → TakesAt at (KEYWORD word) tokens rest → opens (KEYWORD word) ≡ false → Closing tokens
closing {at} {word} {tokens} {rest} t e = record { at = at; word = word; rest = rest; takes = t; closes = e }

no_stmt_there : {d : ℕ} {s : Stmt} {tokens rest others : List Token} → SpelledStmt d s tokens rest → Closing others → others ≡ tokens → ⊥
no_stmt_there (assigned d at name value tokens t1 t2 rest t _ _) c q = false≢true (sym c.closes ∙ ap opens (one_kind c.takes t q))
no_stmt_there (looped d at test body tokens t1 t2 t3 t4 rest l t _ _ _ _) c q = false≢true (sym c.closes ∙ ap opens (one_kind c.takes t q))
no_stmt_there (branched d at test first second tokens t1 t2 t3 t4 rest l t _ _ _ _ _) c q = false≢true (sym c.closes ∙ ap opens (one_kind c.takes t q))
no_stmt_there (branched_twice d at test first second tokens t1 t2 t3 t4 t5 t6 rest l t _ _ _ _ _ _) c q = false≢true (sym c.closes ∙ ap opens (one_kind c.takes t q))

no_semicolon : {at : Place} {tokens others rest : List Token} → Closing others → TakesAt at (Sign 59) tokens rest → others ≡ tokens → ⊥
no_semicolon c t q = false≢true (sym (ap (begins 59) c.takes) ∙ ap (begins 59) (q ∙ t))

-- ---- the induction
pub record AgreesStmt (s v : Stmt) (rest others : List Token) : Type 0 where
  pub same : stmt_tree s ≡ stmt_tree v
  pub left : rest ≡ others

pub record AgreesStmts (ss vs : List Stmt) (rest others : List Token) : Type 0 where
  pub same : stmts_in ss ≡ stmts_in vs
  pub left : rest ≡ others

mutual
  -- the same tokens spell one statement, by induction: its first token tells which, ELSE or FI behind the first branch
  -- whether there is a second, and the parts agree from the left
  pub agree_stmt : {d : ℕ} {s : Stmt} {tokens rest : List Token} → SpelledStmt d s tokens rest → {k : ℕ} {v : Stmt} {others behind : List Token} → SpelledStmt k v others behind → tokens ≡ others → Ends OrLevel rest → Ends OrLevel behind → AgreesStmt s v rest behind
  agree_stmt (assigned d at name value tokens t1 t2 rest t sign s) (assigned k at' name' value' others u1 u2 behind t' sign' u) q h h' =
      let a = agree s u (one_rest sign.1 sign'.1 (one_rest t t' q)) h h' in
      record { same = (λ i. SetTree (one_place t t' q i) (one_word name name' (one_kind t t' q) i) (a.same i)); left = a.left }
  agree_stmt (looped d at test body tokens t1 t2 t3 t4 rest l t s word ss od) (looped k at' test' body' others u1 u2 u3 u4 behind l' t' u word' us od') q h h' =
      let a = agree s u (one_rest t t' q) (ends_keyword word.1) (ends_keyword word'.1) in
      let b = agree_stmts ss us (one_rest word.1 word'.1 a.left) (closing od.1 refl) (closing od'.1 refl) in
      record { same = stmt_tree-while at test body ∙ (λ i. WhileTree (one_place t t' q i) (a.same i) (b.same i)) ∙ sym (stmt_tree-while at' test' body'); left = one_rest od.1 od'.1 b.left }
  agree_stmt (branched d at test first second tokens t1 t2 t3 t4 rest l t s then ss none fi) (branched k at' test' first' second' others u1 u2 u3 u4 behind l' t' u then' us none' fi') q h h' =
      let a = agree s u (one_rest t t' q) (ends_keyword then.1) (ends_keyword then'.1) in
      let b = agree_stmts ss us (one_rest then.1 then'.1 a.left) (closing fi.1 refl) (closing fi'.1 refl) in
      record { same = stmt_tree-if at test first second ∙ (λ i. IfTree (one_place t t' q i) (a.same i) (b.same i) (stmts_in ((none ∙ sym none') i))) ∙ sym (stmt_tree-if at' test' first' second'); left = one_rest fi.1 fi'.1 b.left }
  agree_stmt (branched d at test first second tokens t1 t2 t3 t4 rest l t s then ss none fi) (branched_twice k at' test' first' second' others u1 u2 u3 u4 u5 u6 behind l' t' u then' us else' vs fi') q h h' =
      let a = agree s u (one_rest t t' q) (ends_keyword then.1) (ends_keyword then'.1) in
      let b = agree_stmts ss us (one_rest then.1 then'.1 a.left) (closing fi.1 refl) (closing else'.1 refl) in
      absurd (differ fi.1 else'.1 b.left refl)
  agree_stmt (branched_twice d at test first second tokens t1 t2 t3 t4 t5 t6 rest l t s then ss other zs fi) (branched k at' test' first' second' others u1 u2 u3 u4 behind l' t' u then' us none' fi') q h h' =
      let a = agree s u (one_rest t t' q) (ends_keyword then.1) (ends_keyword then'.1) in
      let b = agree_stmts ss us (one_rest then.1 then'.1 a.left) (closing other.1 refl) (closing fi'.1 refl) in
      absurd (differ other.1 fi'.1 b.left refl)
  agree_stmt (branched_twice d at test first second tokens t1 t2 t3 t4 t5 t6 rest l t s then ss other zs fi) (branched_twice k at' test' first' second' others u1 u2 u3 u4 u5 u6 behind l' t' u then' us other' vs fi') q h h' =
      let a = agree s u (one_rest t t' q) (ends_keyword then.1) (ends_keyword then'.1) in
      let b = agree_stmts ss us (one_rest then.1 then'.1 a.left) (closing other.1 refl) (closing other'.1 refl) in
      let c = agree_stmts zs vs (one_rest other.1 other'.1 b.left) (closing fi.1 refl) (closing fi'.1 refl) in
      record { same = stmt_tree-if at test first second ∙ (λ i. IfTree (one_place t t' q i) (a.same i) (b.same i) (c.same i)) ∙ sym (stmt_tree-if at' test' first' second'); left = one_rest fi.1 fi'.1 c.left }
  agree_stmt (assigned d at name value tokens t1 t2 rest t _ _) (looped k at' test' body' others u1 u2 u3 u4 behind l' t' _ _ _ _) q h h' = absurd (differ t t' q refl)
  agree_stmt (assigned d at name value tokens t1 t2 rest t _ _) (branched k at' test' first' second' others u1 u2 u3 u4 behind l' t' _ _ _ _ _) q h h' = absurd (differ t t' q refl)
  agree_stmt (assigned d at name value tokens t1 t2 rest t _ _) (branched_twice k at' test' first' second' others u1 u2 u3 u4 u5 u6 behind l' t' _ _ _ _ _ _) q h h' = absurd (differ t t' q refl)
  agree_stmt (looped d at test body tokens t1 t2 t3 t4 rest l t _ _ _ _) (assigned k at' name' value' others u1 u2 behind t' _ _) q h h' = absurd (differ t t' q refl)
  agree_stmt (looped d at test body tokens t1 t2 t3 t4 rest l t _ _ _ _) (branched k at' test' first' second' others u1 u2 u3 u4 behind l' t' _ _ _ _ _) q h h' = absurd (differ t t' q refl)
  agree_stmt (looped d at test body tokens t1 t2 t3 t4 rest l t _ _ _ _) (branched_twice k at' test' first' second' others u1 u2 u3 u4 u5 u6 behind l' t' _ _ _ _ _ _) q h h' = absurd (differ t t' q refl)
  agree_stmt (branched d at test first second tokens t1 t2 t3 t4 rest l t _ _ _ _ _) (assigned k at' name' value' others u1 u2 behind t' _ _) q h h' = absurd (differ t t' q refl)
  agree_stmt (branched d at test first second tokens t1 t2 t3 t4 rest l t _ _ _ _ _) (looped k at' test' body' others u1 u2 u3 u4 behind l' t' _ _ _ _) q h h' = absurd (differ t t' q refl)
  agree_stmt (branched_twice d at test first second tokens t1 t2 t3 t4 t5 t6 rest l t _ _ _ _ _ _) (assigned k at' name' value' others u1 u2 behind t' _ _) q h h' = absurd (differ t t' q refl)
  agree_stmt (branched_twice d at test first second tokens t1 t2 t3 t4 t5 t6 rest l t _ _ _ _ _ _) (looped k at' test' body' others u1 u2 u3 u4 behind l' t' _ _ _ _) q h h' = absurd (differ t t' q refl)

  -- and one list of statements: behind each that agrees, a ';' or a closing keyword tells whether the list goes on
  pub agree_stmts : {d : ℕ} {ss : List Stmt} {tokens rest : List Token} → SpelledStmts d ss tokens rest → {k : ℕ} {vs : List Stmt} {others behind : List Token} → SpelledStmts k vs others behind → tokens ≡ others → Closing rest → Closing behind → AgreesStmts ss vs rest behind
  agree_stmts (no_stmt d tokens rest e) (no_stmt k others behind e') q c c' = record { same = refl; left = e ∙ q ∙ sym e' }
  agree_stmts (no_stmt d tokens rest e) (one_stmt k v others behind u) q c c' = absurd (no_stmt_there u c (e ∙ q))
  agree_stmts (no_stmt d tokens rest e) (more_stmts k v vs others mid' after' behind u sign' us) q c c' = absurd (no_stmt_there u c (e ∙ q))
  agree_stmts (one_stmt d s tokens rest t) (no_stmt k others behind e') q c c' = absurd (no_stmt_there t c' (e' ∙ sym q))
  agree_stmts (one_stmt d s tokens rest t) (one_stmt k v others behind u) q c c' =
      let a = agree_stmt t u q (ends_keyword c.takes) (ends_keyword c'.takes) in
      record { same = (λ i. MoreStmts (a.same i) NoStmt); left = a.left }
  agree_stmts (one_stmt d s tokens rest t) (more_stmts k v vs others mid' after' behind u sign' us) q c c' =
      let a = agree_stmt t u q (ends_keyword c.takes) (ends_semicolon sign'.1) in
      absurd (no_semicolon c sign'.1 a.left)
  agree_stmts (more_stmts d s ss tokens mid after rest t sign ts) (no_stmt k others behind e') q c c' = absurd (no_stmt_there t c' (e' ∙ sym q))
  agree_stmts (more_stmts d s ss tokens mid after rest t sign ts) (one_stmt k v others behind u) q c c' =
      let a = agree_stmt t u q (ends_semicolon sign.1) (ends_keyword c'.takes) in
      absurd (no_semicolon c' sign.1 (sym a.left))
  agree_stmts (more_stmts d s ss tokens mid after rest t sign ts) (more_stmts k v vs others mid' after' behind u sign' us) q c c' =
      let a = agree_stmt t u q (ends_semicolon sign.1) (ends_semicolon sign'.1) in
      let b = agree_stmts ts us (one_rest sign.1 sign'.1 a.left) c c' in
      record { same = (λ i. MoreStmts (a.same i) (b.same i)); left = b.left }
