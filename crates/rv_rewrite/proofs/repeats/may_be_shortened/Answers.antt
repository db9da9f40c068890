use Rattle.std.proofs.Common.{◌∙◌, ◌&&◌, nat_lt, [], ◌∷◌, sym, ap}
use Rattle.lang_model.specs.Limits.{compared_limit}
use Rattle.lang_model.specs.Trees.{tree_of}
use Rattle.lang_model.specs.Rewriting.{is_of_one_sign, link_count}
use Rattle.rv_rewrite.specs.Items.{links_of}
use Rattle.rv_rewrite.specs.Repeated.{repeats}
use Rattle.rv_rewrite.proofs.Earlier.{short_enough, too_long, and_no}
use Rattle.rv_rewrite.proofs.repeats.may_be_shortened.Goals as goal

pub returns-then-links-ge-COMPARED_LIMIT : goal.returns-then-links-ge-COMPARED_LIMIT
returns-then-links-ge-COMPARED_LIMIT c =
    let links = c.args.links.now in
    sym (ap (λ b. is_of_one_sign (links_of links) && (b && repeats (tree_of c.args.first.now ∷ []) (links_of links))) (too_long links c.if-links-ge-COMPARED_LIMIT.true)
    ∙ and_no (is_of_one_sign (links_of links)))

pub returns : goal.returns
returns c =
    let links = c.args.links.now in
    let again = repeats (tree_of c.args.first.now ∷ []) (links_of links) in
    c.repeats.ensures ∙ sym (ap (λ b. b && (nat_lt (link_count (links_of links)) compared_limit && again)) (sym c.is_of_one_sign.ensures ∙ c.if-not-is_of_one_sign.false)
    ∙ ap (λ b. b && again) (short_enough links c.if-links-ge-COMPARED_LIMIT.false))
