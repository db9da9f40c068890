use Rattle.std.proofs.Common.{◌<◌, ◌∙◌, ℕ, false, length, sym, arith, ap, subst}
use Rattle.rel_listing.proofs.Halves.{on_err}
use Rattle.rel_slices.specs.Thin.{line_of, line_set, laid}
use Rattle.rel_values.proofs.LineLists.{written_over, straight_list, turned_list, laid_valid, laid_as_many}
use Rattle.rel_values.proofs.listing.lines_pairs.Goals.{then-s, else-s}
use Rattle.rel_values.proofs.listing.lines_pairs.Goals as goal

pub returns-in_err-pairs-clause-some : goal.returns-in_err-pairs-clause-some
returns-in_err-pairs-clause-some g c =
    let laws = g.met.E.Core in
    let e = c.args.engine.now in
    let s = c.args.s.now in
    let w = g.E.Core.worker e in
    on_err _ (subst (λ (n : ℕ). 0 < n) (sym (laid_as_many s.turned s.count s.other (line_set w s)
    (λ k l. record { valid = laws.valid e (line_of s k) (c.requires.lines k l); row_size = laws.row_size e (line_of s k) (c.requires.lines k l); col_size = laws.col_size e (line_of s k) (c.requires.lines k l) }))) c.in_err-pairs.ensures.some)

pub returns-clause-value : goal.returns-clause-value
returns-clause-value g c =
    let s = c.args.s.now in
    let w = g.E.Core.worker c.args.engine.now in
    elim c.if-s.branch [
      | then-s b ↦ turned_list w s c.if-s.pairs.items b.if-s.true (ap (λ v. v.items) b.pairs-is
          ∙ written_over _ _ b.turn.new.pairs (b.turn.ensures.len ∙ ap (λ zs. length zs) b.deref_mut.ensures.value) (omega (arith, b.deref_mut.ensures.len, ap (λ zs. length zs) b.deref_mut.ensures.value))
          ∙ b.turn.ensures.pairs (laid false s.count s.other (line_set w s)) (laid_valid s.count s.other (line_set w s)) (b.deref_mut.ensures.value ∙ c.in_ok-pairs.ensures.value))
      | else-s b ↦ straight_list w s c.if-s.pairs.items b.if-s.false (ap (λ v. v.items) b.pairs-is ∙ c.in_ok-pairs.ensures.value)
    ]
