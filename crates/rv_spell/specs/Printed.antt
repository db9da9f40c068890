-- The texts of arguments and links as lists.
use Rattle.std.specs.Prelude.{◌++◌, ℕ, nat_le, List, [], ◌∷◌}
use Rattle.lang_model.specs.declared.syntax.Expr.{Expr}
use Rattle.lang_model.specs.declared.syntax.Link.{Link}
use Rattle.lang_model.specs.Printing.{printed, rank, chain_rank, sign_of, within}

-- further arguments, each after a comma
abbrev pub printed_more_args : List Expr → List ℕ
printed_more_args [] = []
printed_more_args (e ∷ es) = 44 ∷ printed e ++ printed_more_args es

-- arguments, separated by commas
abbrev pub printed_all_args : List Expr → List ℕ
printed_all_args [] = []
printed_all_args (e ∷ es) = printed e ++ printed_more_args es

-- how tightly a chain with these links binds
abbrev pub rank_of_links : List Link → ℕ
rank_of_links [] = 2
rank_of_links (x ∷ xs) = chain_rank x.op

-- the links of a chain whose operators bind this tightly
abbrev pub printed_all_links : ℕ → List Link → List ℕ
printed_all_links n [] = []
printed_all_links n (x ∷ xs) = sign_of x.op ∷ within (nat_le (rank x.right) n) (printed x.right)
    ++ printed_all_links n xs
