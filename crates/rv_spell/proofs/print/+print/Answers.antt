use Rattle.std.proofs.Common.{◌≡◌, ◌++◌, ◌∷◌, [], ◌∙◌, nat_le, OnOk, append_assoc, sym, ap, subst}
use Rattle.lang_model.specs.Printing.{rank, within, printed}
use Rattle.rv_spell.specs.Printed.{rank_of_links, printed_all_args, printed_all_links}
use Rattle.rv_spell.proofs.Printed.{printed_call, printed_base, printed_chain}
use Rattle.rv_spell.proofs.print.+print.Goals as goal

pub write_expr-returns-in-Call : goal.write_expr-returns-in-Call
write_expr-returns-in-Call t c =
    let text = c.args.text.now.items in
    let same = (λ i. c.bytes-in-Call.ensures i ++ (40 ∷ printed_all_args (c.as_slice.ensures.value i) ++ 41 ∷ [])) ∙ sym (ap printed c.in-Call.is ∙ printed_call c.in-Call.at c.in-Call.name c.in-Call.args) in
    subst (λ bytes. OnOk c.write_call.result (c.write_call.new.text.items ≡ text ++ bytes)) same c.write_call.ensures

pub write_expr-returns-in-Base : goal.write_expr-returns-in-Base
write_expr-returns-in-Base t c =
    let text = c.args.text.now.items in
    let same = (λ i. c.text.ensures.text i ++ (40 ∷ printed_all_args (c.as_slice-in-Base.ensures.value i) ++ 41 ∷ [])) ∙ sym (ap printed c.in-Base.is ∙ printed_base c.in-Base.at c.in-Base.base c.in-Base.args) in
    subst (λ bytes. OnOk c.write_call-in-Base.result (c.write_call-in-Base.new.text.items ≡ text ++ bytes)) same c.write_call-in-Base.ensures

pub write_expr-returns-in_ok-write_operand-in-Chain : goal.write_expr-returns-in_ok-write_operand-in-Chain
write_expr-returns-in_ok-write_operand-in-Chain t c =
    let text = c.args.text.now.items in
    let first = c.in-Chain.first in
    let links = c.in-Chain.rest in
    let loose : c.links_rank-loose.result ≡ rank_of_links links.items = c.links_rank-loose.ensures ∙ ap rank_of_links c.as_slice-links.ensures.value in
    let tight : c.rank-in-Chain.result ≡ rank first.value = c.rank-in-Chain.ensures ∙ ap rank c.deref-in-Chain.ensures in
    let same =
    (λ i. c.in_ok-write_operand-in-Chain.ensures i ++ printed_all_links c.links_rank-loose.result c.as_slice-links.result.now)
    ∙ (λ i. (text ++ within (nat_le (tight i) (loose i)) (printed (c.deref-in-Chain-2.ensures i))) ++ printed_all_links (loose i) (c.as_slice-links.ensures.value i))
    ∙ append_assoc text (within (nat_le (rank first.value) (rank_of_links links.items)) (printed first.value)) (printed_all_links (rank_of_links links.items) links.items)
    ∙ ap (λ bytes. text ++ bytes) (sym (ap printed c.in-Chain.is ∙ printed_chain first links)) in
    subst (λ bytes. OnOk c.write_links.result (c.write_links.new.text.items ≡ bytes)) same c.write_links.ensures
