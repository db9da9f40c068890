-- What the definition of printing says of a row of arguments or links, read off the vector that the code has. By induction on the row.
use Rattle.std.proofs.Common.{◌≡◌, ◌++◌, ◌∙◌, ℕ, nat_le, nat_lt, replicate, [], ◌∷◌, append_assoc, refl, ap, rules}
use Rattle.lang_model.specs.declared.syntax.Expr.{Row_of-Expr, end_of-Expr, more_of-Expr, items-the_row-Expr, Inject, Row_of-Link, end_of-Link, more_of-Link, items-the_row-Link, the_lemmas}
use Rattle.lang_model.specs.declared.syntax.Expr.TheVariants.{Call, Base, Pair, Minus, Turned, Chain}
use Rattle.lang_model.specs.BaseNames.{base_text}
use Rattle.lang_model.specs.Printing.{printed, printed_args, printed_more, printed_links, links_rank, rank, within, sign_of}
use Rattle.rv_spell.specs.Printed.{printed_more_args, printed_all_args, rank_of_links, printed_all_links}

printed_more-items : (n : _) (k : Row_of-Expr n) → printed_more k ≡ printed_more_args (items-the_row-Expr n k)
printed_more-items _ end_of-Expr = refl
printed_more-items _ (more_of-Expr e rest) = ap (λ t. 44 ∷ printed e ++ t) (printed_more-items _ rest)

printed_args-items : (n : _) (k : Row_of-Expr n) → printed_args k ≡ printed_all_args (items-the_row-Expr n k)
printed_args-items _ end_of-Expr = refl
printed_args-items _ (more_of-Expr e rest) = ap (λ t. printed e ++ t) (printed_more-items _ rest)

links_rank-items : (n : _) (k : Row_of-Link n) → links_rank k ≡ rank_of_links (items-the_row-Link n k)
links_rank-items _ end_of-Link = refl
links_rank-items _ (more_of-Link at op right rest) = refl

printed_links-items : (r : ℕ) (n : _) (k : Row_of-Link n) → printed_links r k ≡ printed_all_links r (items-the_row-Link n k)
printed_links-items r _ end_of-Link = refl
printed_links-items r _ (more_of-Link at op right rest) = ap (λ t. sign_of op ∷ within (nat_le (rank right) r) (printed right) ++ t) (printed_links-items r _ rest)

pub printed_call : (at : _) (name : _) (args : _) → printed (Call at name args) ≡ name ++ (40 ∷ printed_all_args args.items ++ 41 ∷ [])
printed_call at name args = by ∙ append_assoc name (40 ∷ printed_all_args args.items) (41 ∷ [])
  where
    by : printed (Call at name args) ≡ (name ++ 40 ∷ printed_all_args args.items) ++ 41 ∷ []
    by = search (rules, the_lemmas, printed_args-items)

pub printed_base : (at : _) (base : _) (args : _) → printed (Base at base args) ≡ base_text base ++ (40 ∷ printed_all_args args.items ++ 41 ∷ [])
printed_base at base args = by ∙ append_assoc (base_text base) (40 ∷ printed_all_args args.items) (41 ∷ [])
  where
    by : printed (Base at base args) ≡ (base_text base ++ 40 ∷ printed_all_args args.items) ++ 41 ∷ []
    by = search (rules, the_lemmas, printed_args-items)

pub rank_chain : (first : _) (rest : _) → rank (Chain first rest) ≡ rank_of_links rest.items
rank_chain first rest = search (rules, the_lemmas, links_rank-items)

pub printed_chain : (first : _) (rest : _) → printed (Chain first rest) ≡ within (nat_le (rank first.value) (rank_of_links rest.items)) (printed first.value) ++ printed_all_links (rank_of_links rest.items) rest.items
printed_chain first rest = search (rules, the_lemmas, links_rank-items, printed_links-items)

pub printed_pair : (at : _) (left : _) (right : _) → printed (Pair at left right) ≡ 91 ∷ (printed left.value ++ (44 ∷ printed right.value ++ 93 ∷ []))
printed_pair at left right = by ∙ ap (λ t. 91 ∷ t) (append_assoc (printed left.value) (44 ∷ printed right.value) (93 ∷ []))
  where
    by : printed (Pair at left right) ≡ 91 ∷ ((printed left.value ++ 44 ∷ printed right.value) ++ 93 ∷ [])
    by = search (rules, the_lemmas)

pub printed_inject : (at : _) (base : _) (domain : _) → printed (Inject at base domain) ≡ base_text base ++ (40 ∷ domain ++ 41 ∷ [])
printed_inject at base domain = append_assoc (base_text base) (40 ∷ domain) (41 ∷ [])

pub printed_minus : (at : _) (of : _) → printed (Minus at of) ≡ 45 ∷ within (nat_lt (rank of.value) 3) (printed of.value)
printed_minus at of = search (rules, the_lemmas)

pub printed_turned : (at : _) (of : _) (times : ℕ) → printed (Turned at of times) ≡ within (nat_lt (rank of.value) 5) (printed of.value) ++ replicate times 94
printed_turned at of times = search (rules, the_lemmas)

pub rank_call : (at : _) (name : _) (args : _) → rank (Call at name args) ≡ 5
rank_call at name args = search (rules, the_lemmas)

pub rank_base : (at : _) (base : _) (args : _) → rank (Base at base args) ≡ 5
rank_base at base args = search (rules, the_lemmas)

pub rank_pair : (at : _) (left : _) (right : _) → rank (Pair at left right) ≡ 5
rank_pair at left right = search (rules, the_lemmas)

pub rank_minus : (at : _) (of : _) → rank (Minus at of) ≡ 3
rank_minus at of = search (rules, the_lemmas)

pub rank_turned : (at : _) (of : _) (times : _) → rank (Turned at of times) ≡ 4
rank_turned at of times = search (rules, the_lemmas)
