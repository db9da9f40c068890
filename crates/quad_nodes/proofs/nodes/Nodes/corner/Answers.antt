use Rattle.std.proofs.Common.{◌≡◌, ◌∙◌, ℕ, true, suc, subst, sym, rules, ◌+◌, Ok, refl, ap, arith}
use Rattle.rel_model.proofs.TreeLaws.{kept_stands}
use Rattle.rel_model.specs.Trees.{top_height, stands}
use Rattle.rel_model.specs.Equations.{depth_of}
use Rattle.rel_model.proofs.QuadLaws.{known, known_after, keeps_on, keeps_most}
use Rattle.quad_nodes.proofs.Halving.{corner_is, pair_known}
use Rattle.quad_nodes.proofs.Finding.{FourStand, not_missed, corner_stood, corner_north, corner_south, corner_whole, corner_found, the_answer, counts_failed, no_answer}
use Rattle.quad_nodes.proofs.nodes.Nodes.corner.Goals.{After-pair}
use Rattle.quad_nodes.proofs.nodes.Nodes.corner.Goals as goal

pub pair-requires-2-clause-left_in : goal.pair-requires-2-clause-left_in
pair-requires-2-clause-left_in c = known_after 1 c.args.self.now c.pair.new.self (depth_of c.args.sw.height) c.args.sw.name c.pair.ensures.keeps c.requires.sw_stands.standing

pub pair-requires-2-clause-right_in : goal.pair-requires-2-clause-right_in
pair-requires-2-clause-right_in c = known_after 1 c.args.self.now c.pair.new.self (depth_of c.args.se.height) c.args.se.name c.pair.ensures.keeps c.requires.se_stands.standing

pub pair-requires-3-clause-left_in : goal.pair-requires-3-clause-left_in
pair-requires-3-clause-left_in c =
    let s = subst (λ (m : ℕ). stands c.args.self.now.view.words (depth_of m) c.args.ne.name ≡ true) c.requires.ne_height c.requires.ne_stands.standing in
    known_after 1 c.pair.new.self c.pair-2.new.self (suc (depth_of c.args.nw.height)) c.in_ok-north.north c.pair-2.ensures.keeps
    (pair_known c.args.self.now c.pair.new.self c.args.nw.name c.args.ne.name c.in_ok-north.north (depth_of c.args.nw.height) c.in_ok-north.ensures.value c.requires.nw_stands.standing s)

pub pair-requires-3-clause-right_in : goal.pair-requires-3-clause-right_in
pair-requires-3-clause-right_in c =
    let k : ℕ = depth_of c.args.sw.height in
    let s = subst (λ (m : ℕ). stands c.args.self.now.view.words (depth_of m) c.args.se.name ≡ true) (c.requires.se_height ∙ sym c.requires.sw_height) c.requires.se_stands.standing in
    known c.pair-2.new.self.view (suc k) c.in_ok-south.south
    (pair_known c.pair.new.self c.pair-2.new.self c.args.sw.name c.args.se.name c.in_ok-south.south k c.in_ok-south.ensures.value
    (kept_stands _ _ c.pair.ensures.keeps.seen k c.args.sw.name c.requires.sw_stands.standing) (kept_stands _ _ c.pair.ensures.keeps.seen k c.args.se.name s))

pub overflow_add-result : goal.overflow_add-result
unfolding top_height
overflow_add-result c = let b = c.requires.below in search (rules, b)

pub returns-clause-value : goal.returns-clause-value
returns-clause-value c =
    corner_is 1 1 1 c.args.self.now c.pair.new.self c.pair-2.new.self c.pair-3.new.self c.args.nw c.args.ne c.args.sw c.args.se c.in_ok-north.north c.in_ok-south.south c.in_ok-name.name
    c.requires.nw_stands c.requires.ne_stands c.requires.sw_stands c.requires.se_stands c.requires.ne_height c.requires.sw_height c.requires.se_height c.requires.below
    c.pair.ensures.keeps c.pair-2.ensures.keeps c.pair-3.ensures.keeps c.in_ok-north.ensures.value c.in_ok-south.ensures.value c.in_ok-name.ensures.value

four : (c : After-pair) → FourStand c.args.self.now c.args.nw c.args.ne c.args.sw c.args.se
four c = record { nw_stands = c.requires.nw_stands; ne_stands = c.requires.ne_stands; sw_stands = c.requires.sw_stands; se_stands = c.requires.se_stands; ne_height = c.requires.ne_height; sw_height = c.requires.sw_height; se_height = c.requires.se_height }

pub returns-in_err-north-clause-stood : goal.returns-in_err-north-clause-stood
returns-in_err-north-clause-stood c q s =
    let f = four (goal.at.returns-in_err-north-clause-stood c).After-pair in
    let d = corner_stood _ _ _ _ _ q c.pair.ensures.keeps.before f s in
    absurd (not_missed _ _ _ d.north (corner_north _ _ c.args.nw c.args.ne c.args.sw c.args.se q _ f d c.in_err-north.ensures.stood))

pub returns-in_err-south-clause-stood : goal.returns-in_err-south-clause-stood
returns-in_err-south-clause-stood c q s =
    let f = four (goal.at.returns-in_err-south-clause-stood c).After-pair in
    let d = corner_stood _ _ _ _ _ q c.pair.ensures.keeps.before f s in
    let x = corner_north _ _ c.args.nw c.args.ne c.args.sw c.args.se q _ f d c.in_ok-north.ensures.stood in
    absurd (not_missed _ _ _ d.south (corner_south _ _ _ c.args.nw c.args.ne c.args.sw c.args.se q _ f d x.reads c.in_err-south.ensures.stood))

pub returns-in_err-name-clause-stood : goal.returns-in_err-name-clause-stood
returns-in_err-name-clause-stood c q s =
    let f = four (goal.at.returns-in_err-name-clause-stood c).After-pair in
    let d = corner_stood _ _ _ _ _ q c.pair.ensures.keeps.before f s in
    let x = corner_north _ _ c.args.nw c.args.ne c.args.sw c.args.se q _ f d c.in_ok-north.ensures.stood in
    let y = corner_south _ _ _ c.args.nw c.args.ne c.args.sw c.args.se q _ f d x.reads c.in_ok-south.ensures.stood in
    absurd (not_missed _ _ _ q.name (corner_whole _ _ _ c.args.nw c.args.ne c.args.sw c.args.se q _ _ _ d y.reads (the_answer _ _ d.north _ x) (the_answer _ _ d.south _ y) c.in_err-name.ensures.stood))

pub returns-clause-stood : goal.returns-clause-stood
returns-clause-stood c q s =
    let f = four (goal.at.returns-clause-stood c).After-pair in
    let d = corner_stood _ _ _ _ _ q c.pair.ensures.keeps.before f s in
    let x = corner_north _ _ c.args.nw c.args.ne c.args.sw c.args.se q _ f d c.in_ok-north.ensures.stood in
    let y = corner_south _ _ _ c.args.nw c.args.ne c.args.sw c.args.se q _ f d x.reads c.in_ok-south.ensures.stood in
    corner_found _ _ c.args.nw.height q c.in_ok-name.name s.same_height (corner_whole _ _ _ c.args.nw c.args.ne c.args.sw c.args.se q _ _ _ d y.reads (the_answer _ _ d.north _ x) (the_answer _ _ d.south _ y) c.in_ok-name.ensures.stood)

pub returns-in_err-north-clause-keeps : goal.returns-in_err-north-clause-keeps
returns-in_err-north-clause-keeps c = keeps_most 1 3 c.args.self.now c.pair.new.self (omega arith) c.in_err-north.ensures.keeps

pub returns-in_err-south-clause-keeps : goal.returns-in_err-south-clause-keeps
returns-in_err-south-clause-keeps c = keeps_most (1 + 1) 3 c.args.self.now c.pair-2.new.self (omega arith) (keeps_on 1 1 c.args.self.now c.pair.new.self c.pair-2.new.self c.in_ok-north.ensures.keeps c.in_err-south.ensures.keeps)

pub returns-in_err-name-clause-keeps : goal.returns-in_err-name-clause-keeps
returns-in_err-name-clause-keeps c = keeps_on (1 + 1) 1 c.args.self.now c.pair-2.new.self c.pair-3.new.self (keeps_on 1 1 c.args.self.now c.pair.new.self c.pair-2.new.self c.in_ok-north.ensures.keeps c.in_ok-south.ensures.keeps) c.in_err-name.ensures.keeps

pub returns-clause-keeps : goal.returns-clause-keeps
returns-clause-keeps c = keeps_on (1 + 1) 1 c.args.self.now c.pair-2.new.self c.pair-3.new.self (keeps_on 1 1 c.args.self.now c.pair.new.self c.pair-2.new.self c.in_ok-north.ensures.keeps c.in_ok-south.ensures.keeps) c.in_ok-name.ensures.keeps

pub returns-in_err-south-clause-counts : goal.returns-in_err-south-clause-counts
returns-in_err-south-clause-counts c = counts_failed c.args.self.now c.pair.new.self c.pair-2.new.self c.from_residual-in_err-south.result c.in_ok-north.ensures.counts c.from_residual-in_err-south.ensures.0 c.in_err-south.ensures.counts

pub returns-in_err-name-clause-counts : goal.returns-in_err-name-clause-counts
returns-in_err-name-clause-counts c = counts_failed c.args.self.now c.pair-2.new.self c.pair-3.new.self c.from_residual-in_err-name.result (c.in_ok-south.ensures.counts ∙ c.in_ok-north.ensures.counts) c.from_residual-in_err-name.ensures.0 c.in_err-name.ensures.counts

pub returns-clause-counts : goal.returns-clause-counts
returns-clause-counts c = c.in_ok-name.ensures.counts ∙ c.in_ok-south.ensures.counts ∙ c.in_ok-north.ensures.counts

pub returns-in_err-north-clause-nothing : goal.returns-in_err-north-clause-nothing
returns-in_err-north-clause-nothing c = λ a b x y. absurd (no_answer _ 0 _ refl (c.in_err-north.ensures.nothing a b))

pub returns-in_err-south-clause-nothing : goal.returns-in_err-south-clause-nothing
returns-in_err-south-clause-nothing c = λ a b x y. absurd (no_answer _ 0 _ refl (c.in_err-south.ensures.nothing x y))

pub returns-in_err-name-clause-nothing : goal.returns-in_err-name-clause-nothing
returns-in_err-name-clause-nothing c = λ a b x y.
    let north = c.in_ok-north.ensures.nothing a b in
    let south = c.in_ok-south.ensures.nothing x y in
    let p : c.in_ok-north.north ≡ 0 = cc in
    let q : c.in_ok-south.south ≡ 0 = cc in
    absurd (no_answer _ 0 _ refl (c.in_err-name.ensures.nothing p q))

pub returns-clause-nothing : goal.returns-clause-nothing
returns-clause-nothing c = λ a b x y.
    let north = c.in_ok-north.ensures.nothing a b in
    let south = c.in_ok-south.ensures.nothing x y in
    let p : c.in_ok-north.north ≡ 0 = cc in
    let q : c.in_ok-south.south ≡ 0 = cc in
    let whole = c.in_ok-name.ensures.nothing p q in
    let z : c.in_ok-name.name ≡ 0 = cc in
    ap (λ (n : ℕ). Ok (record { height = c.args.nw.height + 1; name = n })) z
