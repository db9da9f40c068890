-- The trees of statements, read off the vectors that the code has.
use Rattle.std.proofs.Common.{◌≡◌, refl, ap, rules}
use Rattle.lang_model.specs.declared.syntax.Stmt.{Row_of-Stmt, end_of-Stmt, more_of-Stmt, items-the_row-Stmt, the_lemmas}
use Rattle.lang_model.specs.declared.syntax.Stmt.TheVariants.{While, If}
use Rattle.lang_model.specs.Trees.{tree_of}
use Rattle.rv_spell.specs.Plain.{WhileTree, IfTree, MoreStmts, stmt_tree, stmt_trees, stmts_in}

stmt_trees-items : (n : _) (k : Row_of-Stmt n) → stmt_trees k ≡ stmts_in (items-the_row-Stmt n k)
stmt_trees-items _ end_of-Stmt = refl
stmt_trees-items _ (more_of-Stmt s rest) = ap (MoreStmts (stmt_tree s)) (stmt_trees-items _ rest)

pub stmt_tree-while : (at : _) (test : _) (body : _) → stmt_tree (While at test body) ≡ WhileTree at (tree_of test) (stmts_in body.items)
stmt_tree-while at test body = search (rules, the_lemmas, stmt_trees-items)

pub stmt_tree-if : (at : _) (test : _) (first : _) (second : _) → stmt_tree (If at test first second) ≡ IfTree at (tree_of test) (stmts_in first.items) (stmts_in second.items)
stmt_tree-if at test first second = search (rules, the_lemmas, stmt_trees-items)
