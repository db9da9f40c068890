use Rattle.std.proofs.Common.{◌≡◌, [], sym, ap, subst, ◌∙◌, arith, length, get_or}
use Rattle.std.proofs.lemmas.Option.{slice_get_within, get_or_from_slice_get}
use Rattle.std.specs.Prelude.{unwrap_or}
use Rattle.rel_model.specs.Relation.{has, relation_of}
use Rattle.rel_plain.specs.Kept.{IsKept}
use Rattle.rel_plain.specs.KeptLaws.{Standing, standing}
use Rattle.rel_plain.proofs.plain.Plain.pairs_of.Goals as goal

pub index-kept-requires : goal.index-kept-requires
index-kept-requires c =
    let s = standing c.args.self.now c.args.r c.requires in
    let h = slice_get_within c.args.self.now c.args.r.root s.kept s.at in
    let e : length c.self.inside.kept.items ≡ length c.args.self.now = ap length c.self.view_is in
    omega arith

-- the kept relation is the one that the root names
kept_is : (c : goal.After-pairs) → (s : Standing c.args.self.now c.args.r) → s.kept ≡ c.index-kept.result.now
kept_is c s =
    sym (get_or_from_slice_get c.args.self.now c.args.r.root s.kept c.index-kept.result.now s.at)
    ∙ ap (λ ks. get_or ks c.args.r.root c.index-kept.result.now) (sym c.self.view_is)
    ∙ sym c.index-kept.ensures

-- it has the sizes of the name, and the pairs that are handed out
named : (c : goal.After-pairs) → (s : Standing c.args.self.now c.args.r) → s.kept ≡ record { rows = c.args.r.rows; cols = c.args.r.cols; pairs = c.pairs.result.now }
named c s =
    ap (λ m. record { rows = m; cols = s.kept.cols; pairs = s.kept.pairs }) s.rows
    ∙ ap (λ n. record { rows = c.args.r.rows; cols = n; pairs = s.kept.pairs }) s.cols
    ∙ ap (λ ps. record { rows = c.args.r.rows; cols = c.args.r.cols; pairs = ps }) (ap (λ k. k.pairs) (kept_is c s) ∙ sym c.pairs.ensures.value)

pub returns-clause-kept : goal.returns-clause-kept
returns-clause-kept c =
    let s = standing c.args.self.now c.args.r c.requires in
    subst IsKept (sym (kept_is c s) ∙ named c s) c.pairs.ensures.valid

pub returns-clause-means : goal.returns-clause-means
returns-clause-means c =
    let s = standing c.args.self.now c.args.r c.requires in
    ap (λ o. unwrap_or o (record { rows = 0; cols = 0; pairs = [] })) s.means
    ∙ ap (λ k. relation_of c.args.r.rows c.args.r.cols (has k)) (named c s)
