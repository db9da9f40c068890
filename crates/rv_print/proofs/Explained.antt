-- The text of steps of rewriting with one step more, and the whole text.
use Rattle.std.proofs.Common.{◌≡◌, ◌<◌, ◌+◌, ◌∙◌, ℕ, suc, List, [], ◌∷◌, ◌++◌, length, take, get_or, codes, refl, sym, ap}
use Rattle.std.specs.Fmt.{decimal}
use Rattle.std.specs.List.{flat_map}
use Rattle.std.proofs.lemmas.List.{append-nil, take_more}
use Rattle.std.proofs.lemmas.List.Concat.{flat_map-append}
use Rattle.run_model.specs.Page.{line_feed, step_text, explanation}
use Rattle.rv_rewrite.specs.declared.step.Step.{Step}
use Rattle.rv_rewrite.specs.Steps.{step_of, steps_by_trees}

one_more : (xs : List Step) (x : Step) → steps_by_trees (xs ++ x ∷ []) ≡ steps_by_trees xs ++ step_of x ∷ []
one_more [] x = refl
one_more (y ∷ ys) x = ap (λ zs. step_of y ∷ zs) (one_more ys x)

as_many : (xs : List Step) → length (steps_by_trees xs) ≡ length xs
as_many [] = refl
as_many (x ∷ xs) = ap suc (as_many xs)

-- the lines of these steps
abbrev pub lines : List Step → List ℕ
lines xs = flat_map step_text (steps_by_trees xs)

pub lines_more : (xs : List Step) (k : ℕ) (x : Step) → k < length xs → x ≡ get_or xs k x
    → lines (take (k + 1) xs) ≡ lines (take k xs) ++ step_text (step_of x)
lines_more xs k x h is =
    ap lines (take_more xs k x h ∙ ap (λ y. take k xs ++ y ∷ []) (sym is)) ∙ ap (flat_map step_text) (one_more (take k xs) x)
    ∙ flat_map-append step_text (steps_by_trees (take k xs)) (step_of x ∷ [])
    ∙ ap (λ ys. lines (take k xs) ++ ys) (append-nil (step_text (step_of x)))

-- `K steps`, a line
abbrev pub first_line : ℕ → List ℕ
first_line n = decimal n ++ codes " steps" ++ line_feed

pub whole_text : (xs : List Step) → first_line (length xs) ++ lines xs ≡ explanation (steps_by_trees xs)
unfolding explanation
whole_text xs = ap (λ n. first_line n ++ lines xs) (sym (as_many xs))
