-- What visits make of the listed squares, as the code makes them.
-- 1. What is listed stays listed over calls that keep what stood, and so do the numbers in the memory.
-- 2. A square that is in the memory was visited, so that a visit of it adds nothing.
-- 3. Four visits of quarters, and the numbers of these behind the others, are the visit of a square.
use Rattle.std.proofs.Common.{◌≡◌, ◌≤◌, ◌+◌, ◌^◌, ◌&&◌, eqb, cond, zero, suc, ℕ, Bool, true, false, List, [], ◌∷◌, ◌++◌, length, refl, sym, ap, subst, ◌∙◌, inl, inr, arith, Option, Some, None, append-nil, length-append}
use Rattle.std.specs.Prelude.{slice_get}
use Rattle.std.specs.List.{list_any}
use Rattle.std.specs.HashMap.{get}
use Rattle.std.proofs.lemmas.Bool.{cases_Bool, and_parts, eqb-true}
use Rattle.rel_model.specs.declared.Quad.{Quad}
use Rattle.rel_model.specs.Relation.{size_height}
use Rattle.rel_model.specs.Cells.{Cells}
use Rattle.rel_model.specs.Worker.{Worker, Keeps}
use Rattle.indexmap.specs.IndexSet.{insert_key}
use Rattle.run_model.specs.SharedBytes.{Square, same_square, with_square, where_pairs, visit, quarter, number_in}
use Rattle.run_model.proofs.SharedSquares.{square_of, Proper, proper_quarter, Known, Behind, AllBehind, NoneTwice, known_more, visit_grows}
use Rattle.k2_file.specs.declared.windows.Window.{Window}
use Rattle.k2_file.specs.declared.squares.Square.{Square as Shown}
use Rattle.k2_file.specs.declared.squares.Square.TheVariants.{Tree, Part}
use Rattle.k2_file.specs.Squares.{square_cells, IsSquare, ShowsFour}
use Rattle.k2_file.specs.Counts.{same_key, IsFull, IsFullPart}
use Rattle.k2_file.proofs.WriteSquares.{square-stays}
use Rattle.k2_write.specs.declared.visits.Quarters.{Quarters}
use Rattle.k2_write.specs.declared.visits.Visits.{Visits}
use Rattle.k2_write.specs.Visiting.{Pairs, square_pairs, part_pairs, whole_leaf, quad_at, leaf_at, same_quarters, quarters_in, AreNumbers, Lists, IsVisited, Visited, VisitedTwo}
use Rattle.k2_write.proofs.Quartering.{number_more, number_there, visit_known, put_alike}
use Rattle.k2_write.proofs.Showing.{proper_pairs, full_pairs, shown_pairs, shown_pairs_later, quarter_pairs, square_pairs_stay}

-- ---- over several calls
numbers_kept : (a b : Worker) (least : ℕ) (at : ℕ → ℕ → Shown) (squares : List Square) (found : ℕ × ℕ → Option ℕ) → Keeps a b → AreNumbers a least at squares found → AreNumbers b least at squares found
numbers_kept a b least at squares found k h = λ height name c e.
    let s = h height name c e in
    let same = square_pairs_stay a b least height (at height name) k s.0 in (
      square-stays a b least height (at height name) k s.0,
      subst (Known squares (length squares) height) (sym same) s.1,
      s.2 ∙ ap (number_in squares height) (sym same),
    )

pub lists_kept : (a b : Worker) (least : ℕ) (squares : List Square) (visits : Visits) → Keeps a b → Lists a least squares visits → Lists b least squares visits
lists_kept a b least squares visits k l = record {
  behind = l.behind;
  once = l.once;
  keys = l.keys;
  quads_noted = numbers_kept a b least quad_at squares (get same_key visits.quads) k l.quads_noted;
  leaves_noted = numbers_kept a b least leaf_at squares (get same_key visits.leaves) k l.leaves_noted;
}

-- the numbers in a memory stay with more squares
numbers_more : (w : Worker) (least : ℕ) (at : ℕ → ℕ → Shown) (old new more : List Square) (found : ℕ × ℕ → Option ℕ) → new ≡ old ++ more → AllBehind old → NoneTwice old → AllBehind new → NoneTwice new
    → AreNumbers w least at old found → AreNumbers w least at new found
numbers_more w least at old new more found e a o b p h =
    subst (λ z. AreNumbers w least at z found) (sym e)
    (λ height name c f.
    let s = h height name c f in
    let n = length-append old more in (
      s.0,
      known_more old more (length old) (length (old ++ more)) height (square_pairs w height (at height name)) (omega (arith, n)) s.1,
      s.2 ∙ sym (number_more old more a o (subst AllBehind e b) (subst NoneTwice e p) height (square_pairs w height (at height name)) s.1),
    ))

-- ---- no cell, one cell
visit_none : (h : ℕ) (squares : List Square) → visit h [] squares ≡ squares
visit_none zero squares = refl
visit_none (suc h) squares = refl

pub none_visited : (w : Worker) (least : ℕ) (visits : Visits) (h : ℕ) → Visited w w least visits visits h [] 0
none_visited w least visits h squares l = record { lists = subst (λ z. Lists w least z visits) (sym (visit_none h squares)) l; number = refl }

pub cell_visited : (w : Worker) (least h : ℕ) (s : Shown) (visits : Visits) → h ≡ 0 → IsFull w least h s → Visited w w least visits visits h (square_pairs w h s) 1
cell_visited w least h s visits e f squares l =
    let r = full_pairs w least h s f in
    subst (λ k. IsVisited w least squares visits k (square_pairs w h s) 1) (sym e)
    (subst (λ ps. IsVisited w least squares visits 0 ps 1) (sym r.2) (record { lists = l; number = refl }))

-- ---- the memory
-- what is noted was visited
noted : (w : Worker) (least : ℕ) (at : ℕ → ℕ → Shown) (h n c : ℕ) (visits : Visits) (found : ℕ × ℕ → Option ℕ) (squares : List Square) → found (h, n) ≡ Some c
    → AreNumbers w least at squares found → Lists w least squares visits → IsVisited w least squares visits h (square_pairs w h (at h n)) c
noted w least at h n c visits found squares e all l =
    let ps : Pairs = square_pairs w h (at h n) in
    let x = all h n c e in
    let none : visit h ps squares ≡ squares = visit_known h ps squares l.behind x.1 in
    record {
      lists = subst (λ z. Lists w least z visits) (sym none) l;
      number = x.2 ∙ ap (λ z. number_in z h ps) (sym none);
    }

quad_is : (h : ℕ) (q : Quad) → q.height ≡ h → q ≡ record { height = h; name = q.name }
quad_is h q e = let f : ℕ → Quad = λ x. record { height = x; name = q.name } in ap f e

pub quad_noted : (w : Worker) (least h : ℕ) (q : Quad) (c : ℕ) (visits : Visits) → IsSquare w least h (Tree q) → get same_key visits.quads (h, q.name) ≡ Some c → Visited w w least visits visits h (square_pairs w h (Tree q)) c
quad_noted w least h q c visits i e squares l =
    subst (λ z. IsVisited w least squares visits h (square_pairs w h (Tree z)) c) (sym (quad_is h q i.1))
    (noted w least quad_at h q.name c visits (get same_key visits.quads) squares e l.quads_noted l)

pub leaf_noted : (w : Worker) (least h : ℕ) (v : Window) (c : ℕ) (visits : Visits) → v ≡ whole_leaf h v.bits → get same_key visits.leaves (h, v.bits) ≡ Some c → Visited w w least visits visits h (square_pairs w h (Part v)) c
leaf_noted w least h v c visits i e squares l =
    subst (λ z. IsVisited w least squares visits h (square_pairs w h (Part z)) c) (sym i)
    (noted w least leaf_at h v.bits c visits (get same_key visits.leaves) squares e l.leaves_noted l)

-- a number that is put in
numbers_put : (w : Worker) (least : ℕ) (at : ℕ → ℕ → Shown) (squares : List Square) (h n c : ℕ) (old new : ℕ × ℕ → Option ℕ) → IsSquare w least h (at h n) → Known squares (length squares) h (square_pairs w h (at h n))
    → c ≡ number_in squares h (square_pairs w h (at h n)) → AreNumbers w least at squares old → ((k : ℕ × ℕ) → new k ≡ cond (eqb h k.0 && eqb n k.1) (Some c) (old k)) → AreNumbers w least at squares new
numbers_put w least at squares h n c old new s known e all u = λ height name x f.
    elim (cases_Bool (eqb h height && eqb n name)) [
      | inl t ↦ (
          let a = and_parts _ _ t in
          let same : Some c ≡ Some x = ap (λ b. cond b (Some c) (old (height, name))) (sym t) ∙ sym (u (height, name)) ∙ f in
          subst (λ z. IsSquare w least height (at height z) × Known squares (length squares) height (square_pairs w height (at height z)) × (x ≡ number_in squares height (square_pairs w height (at height z)))) (eqb-true _ _ a.1)
          (subst (λ z. IsSquare w least z (at z n) × Known squares (length squares) z (square_pairs w z (at z n)) × (x ≡ number_in squares z (square_pairs w z (at z n)))) (eqb-true _ _ a.0)
          (s, known, some_inj c x same ∙ e)))
      | inr t ↦ all height name x (ap (λ b. cond b (Some c) (old (height, name))) (sym t) ∙ sym (u (height, name)) ∙ f)
    ]
  where
    some_inj : (a b : ℕ) → Some a ≡ Some b → b ≡ a
    some_inj a b p = cc

-- the number of a square that was visited is put in
noting : (v w : Worker) (least : ℕ) (at : ℕ → ℕ → Shown) (h n c : ℕ) (old new : ℕ × ℕ → Option ℕ) (squares : List Square) (after : Visits) → h ≤ size_height → Keeps v w → IsSquare v least h (at h n) → AllBehind squares → NoneTwice squares
    → IsVisited w least squares after h (square_pairs v h (at h n)) c → AreNumbers w least at (visit h (square_pairs v h (at h n)) squares) old → ((k : ℕ × ℕ) → new k ≡ cond (eqb h k.0 && eqb n k.1) (Some c) (old k))
    → AreNumbers w least at (visit h (square_pairs v h (at h n)) squares) new
noting v w least at h n c old new squares after high k i all once r noted u =
    let ps : Pairs = square_pairs v h (at h n) in
    let made : List Square = visit h ps squares in
    let g = visit_grows h ps squares high (proper_pairs h (square_cells v (2 ^ h) (at h n))) all once in
    let now : ps ≡ square_pairs w h (at h n) = sym (square_pairs_stay v w least h (at h n) k i) in
    numbers_put w least at made h n c old new (square-stays v w least h (at h n) k i) (subst (Known made (length made) h) now g.known) (r.number ∙ ap (number_in made h) now) noted u

-- the number of a visited quad is put into the memory: squares and leaves stay as they were, and what is noted of the
-- quad is what its visit gave
pub quad_visited : (v w : Worker) (least h : ℕ) (q : Quad) (c : ℕ) (before after more : Visits) → h ≤ size_height → Keeps v w → IsSquare v least h (Tree q) → Visited v w least before after h (square_pairs v h (Tree q)) c
    → more.squares.keys ≡ after.squares.keys → more.leaves ≡ after.leaves → ((k : ℕ × ℕ) → get same_key more.quads k ≡ cond (eqb h k.0 && eqb q.name k.1) (Some c) (get same_key after.quads k))
    → Visited v w least before more h (square_pairs v h (Tree q)) c
quad_visited v w least h q c before after more high k i x same same_leaves u squares l =
    let is = quad_is h q i.1 in
    let r = subst (λ z. IsVisited w least squares after h (square_pairs v h (Tree z)) c) is (x squares l) in
    subst (λ z. IsVisited w least squares more h (square_pairs v h (Tree z)) c) (sym is)
    (record {
      lists = record {
        behind = r.lists.behind;
        once = r.lists.once;
        keys = same ∙ r.lists.keys;
        quads_noted = noting v w least quad_at h q.name c (get same_key after.quads) (get same_key more.quads) squares after high k (subst (λ z. IsSquare v least h (Tree z)) is i) l.behind l.once r r.lists.quads_noted u;
        leaves_noted = subst (λ z. AreNumbers w least leaf_at (visit h (square_pairs v h (quad_at h q.name)) squares) (get same_key z)) (sym same_leaves) r.lists.leaves_noted;
      };
      number = r.number;
    })

-- the same of a leaf, where squares and quads stay as they were
pub leaf_visited : (v w : Worker) (least h : ℕ) (p : Window) (c : ℕ) (before after more : Visits) → h ≤ size_height → Keeps v w → p ≡ whole_leaf h p.bits → IsSquare v least h (Part p) → Visited v w least before after h (square_pairs v h (Part p)) c
    → more.squares.keys ≡ after.squares.keys → more.quads ≡ after.quads → ((k : ℕ × ℕ) → get same_key more.leaves k ≡ cond (eqb h k.0 && eqb p.bits k.1) (Some c) (get same_key after.leaves k))
    → Visited v w least before more h (square_pairs v h (Part p)) c
leaf_visited v w least h p c before after more high k is i x same same_quads u squares l =
    let r = subst (λ z. IsVisited w least squares after h (square_pairs v h (Part z)) c) is (x squares l) in
    subst (λ z. IsVisited w least squares more h (square_pairs v h (Part z)) c) (sym is)
    (record {
      lists = record {
        behind = r.lists.behind;
        once = r.lists.once;
        keys = same ∙ r.lists.keys;
        quads_noted = subst (λ z. AreNumbers w least quad_at (visit h (square_pairs v h (leaf_at h p.bits)) squares) (get same_key z)) (sym same_quads) r.lists.quads_noted;
        leaves_noted = noting v w least leaf_at h p.bits c (get same_key after.leaves) (get same_key more.leaves) squares after high k (subst (λ z. IsSquare v least h (Part z)) is i) l.behind l.once r r.lists.leaves_noted u;
      };
      number = r.number;
    })

-- ---- two squares
full_part_pairs_stay : (a b : Worker) (least h : ℕ) (o : Option Shown) → Keeps a b → IsFullPart a least h o → part_pairs b h o ≡ part_pairs a h o
full_part_pairs_stay a b least h None k f = refl
full_part_pairs_stay a b least h (Some s) k f = square_pairs_stay a b least h s k f.square

proper_part : (w : Worker) (h : ℕ) (o : Option Shown) → Proper h (part_pairs w h o)
proper_part w h None = record { within = tt; increasing = tt }
proper_part w h (Some s) = proper_pairs h (square_cells w (2 ^ h) s)

-- two squares are visited one behind the other: the second visit only lists squares behind, so the number of the first
-- stays what it was
pub two_visited : (w0 w1 w2 : Worker) (least h : ℕ) (west east : Option Shown) (v0 v1 v2 : Visits) (m n : ℕ) → h ≤ size_height → Keeps w0 w1 → IsFullPart w0 least h east
    → Visited w0 w1 least v0 v1 h (part_pairs w0 h west) m → Visited w1 w2 least v1 v2 h (part_pairs w1 h east) n → VisitedTwo w0 w2 least v0 v2 h (part_pairs w0 h west) (part_pairs w0 h east) (m, n)
two_visited w0 w1 w2 least h west east v0 v1 v2 m n high k f x y squares l =
    let a : Pairs = part_pairs w0 h west in
    let b : Pairs = part_pairs w0 h east in
    let y2 : Visited w1 w2 least v1 v2 h b n = subst (λ ps. Visited w1 w2 least v1 v2 h ps n) (full_part_pairs_stay w0 w1 least h east k f) y in
    let r = x squares l in
    let s = y2 (visit h a squares) r.lists in
    let g = visit_grows h a squares high (proper_part w0 h west) l.behind l.once in
    let g2 = visit_grows h b (visit h a squares) high (proper_part w0 h east) g.behind g.once in
    record {
      lists = s.lists;
      west_number =
          r.number
          ∙ (sym (number_more (visit h a squares) g2.more g.behind g.once (subst AllBehind g2.is_more g2.behind) (subst NoneTwice g2.is_more g2.once) h a g.known)
          ∙ ap (λ z. number_in z h a) (sym g2.is_more));
      east_number = s.number;
    }

-- ---- a square by its quarters
there : (ps : Pairs) (p : ℕ × ℕ) (qs : Pairs) → ps ≡ p ∷ qs → (list made : List Square) → where_pairs ps list made ≡ made
there ps p qs e list made = ap (λ z. where_pairs z list made) e

pub known_later : (old new more : List Square) (h : ℕ) (ps : Pairs) → new ≡ old ++ more → Known old (length old) h ps → Known new (length new) h ps
known_later old new more h ps e k =
    subst (λ z. Known z (length z) h ps) (sym e) (known_more old more (length old) (length (old ++ more)) h ps (let n = length-append old more in omega (arith, n)) k)

pub number_later : (old new more : List Square) (h : ℕ) (ps : Pairs) → new ≡ old ++ more → AllBehind old → NoneTwice old → AllBehind new → NoneTwice new → Known old (length old) h ps → number_in new h ps ≡ number_in old h ps
number_later old new more h ps e a o b p k =
    ap (λ z. number_in z h ps) e ∙ number_more old more a o (subst AllBehind e b) (subst NoneTwice e p) h ps k

-- a square whose quarters are listed is visited when their four numbers are put in: later visits change no number, so
-- the four tell the square, which is listed where they are
four_listed : (w : Worker) (least k : ℕ) (whole : Pairs) (p : ℕ × ℕ) (ps : Pairs) (squares : List Square) (visits after : Visits) (q : Quarters) (j n : ℕ)
    → suc k ≤ size_height → whole ≡ p ∷ ps → Proper (suc k) whole → AllBehind squares → NoneTwice squares
    → Lists w least (visit k (quarter (2 ^ k) (2 ^ k) (2 ^ k) whole) (visit k (quarter (2 ^ k) (2 ^ k) 0 whole) (visit k (quarter (2 ^ k) 0 (2 ^ k) whole) (visit k (quarter (2 ^ k) 0 0 whole) squares)))) visits
    → q.nw ≡ number_in (visit k (quarter (2 ^ k) 0 (2 ^ k) whole) (visit k (quarter (2 ^ k) 0 0 whole) squares)) k (quarter (2 ^ k) 0 0 whole)
    → q.ne ≡ number_in (visit k (quarter (2 ^ k) 0 (2 ^ k) whole) (visit k (quarter (2 ^ k) 0 0 whole) squares)) k (quarter (2 ^ k) 0 (2 ^ k) whole)
    → q.sw ≡ number_in (visit k (quarter (2 ^ k) (2 ^ k) (2 ^ k) whole) (visit k (quarter (2 ^ k) (2 ^ k) 0 whole) (visit k (quarter (2 ^ k) 0 (2 ^ k) whole) (visit k (quarter (2 ^ k) 0 0 whole) squares)))) k (quarter (2 ^ k) (2 ^ k) 0 whole)
    → q.se ≡ number_in (visit k (quarter (2 ^ k) (2 ^ k) (2 ^ k) whole) (visit k (quarter (2 ^ k) (2 ^ k) 0 whole) (visit k (quarter (2 ^ k) 0 (2 ^ k) whole) (visit k (quarter (2 ^ k) 0 0 whole) squares)))) k (quarter (2 ^ k) (2 ^ k) (2 ^ k) whole)
    → after.squares.keys ≡ insert_key same_quarters visits.squares.keys q → after.quads ≡ visits.quads → after.leaves ≡ visits.leaves → slice_get after.squares.keys j ≡ Some q → n ≡ j + 2
    → IsVisited w least squares after (suc k) whole n
four_listed w least k whole p ps squares visits after q j n high is v all once l enw ene esw ese keys same_quads same_leaves at number =
    let m : ℕ = 2 ^ k in
    let a : Pairs = quarter m 0 0 whole in
    let b : Pairs = quarter m 0 m whole in
    let c : Pairs = quarter m m 0 whole in
    let d : Pairs = quarter m m m whole in
    let s1 : List Square = visit k a squares in
    let s2 : List Square = visit k b s1 in
    let s3 : List Square = visit k c s2 in
    let s4 : List Square = visit k d s3 in
    let s5 : List Square = visit (suc k) whole squares in
    let s : Square = square_of (suc k) whole in
    let g1 = visit_grows k a squares (omega (arith, high)) (proper_quarter k 0 0 whole) all once in
    let g2 = visit_grows k b s1 (omega (arith, high)) (proper_quarter k 0 m whole) g1.behind g1.once in
    let g3 = visit_grows k c s2 (omega (arith, high)) (proper_quarter k m 0 whole) g2.behind g2.once in
    let g4 = visit_grows k d s3 (omega (arith, high)) (proper_quarter k m m whole) g3.behind g3.once in
    let g5 = visit_grows (suc k) whole squares high v all once in
    let a2 = known_later s1 s2 g2.more k a g2.is_more g1.known in
    let a3 = known_later s2 s3 g3.more k a g3.is_more a2 in
    let a4 = known_later s3 s4 g4.more k a g4.is_more a3 in
    let b3 = known_later s2 s3 g3.more k b g3.is_more g2.known in
    let b4 = known_later s3 s4 g4.more k b g4.is_more b3 in
    let c4 = known_later s3 s4 g4.more k c g4.is_more g3.known in
    let nw : q.nw ≡ number_in s4 k a =
    enw ∙ sym (number_later s3 s4 g4.more k a g4.is_more g3.behind g3.once g4.behind g4.once a3 ∙ number_later s2 s3 g3.more k a g3.is_more g2.behind g2.once g3.behind g3.once a2) in
    let ne : q.ne ≡ number_in s4 k b =
    ene ∙ sym (number_later s3 s4 g4.more k b g4.is_more g3.behind g3.once g4.behind g4.once b3 ∙ number_later s2 s3 g3.more k b g3.is_more g2.behind g2.once g3.behind g3.once g2.known) in
    let here : Behind s4 (length s4) s = record {
      below = k;
      is_height = refl;
      low = high;
      proper = v;
      some = λ e. let none : length (p ∷ ps) ≡ 0 = ap length (sym is ∙ e) in omega (arith, none);
      nw = a4;
      ne = b4;
      sw = c4;
      se = g4.known;
    } in
    let row : q ≡ quarters_in s4 s = λ i. record { nw = nw i; ne = ne i; sw = esw i; se = ese i } in
    let grown : s5 ≡ with_square s s4 = there whole p ps is squares (with_square s s4) in
    let put = put_alike s4 s5 s visits.squares.keys after.squares.keys q j g4.behind g4.once g5.behind g5.once here grown l.keys row keys at in
    let place : slice_get s5 j ≡ Some (square_of (suc k) (p ∷ ps)) = put.1 ∙ ap (λ z. Some (square_of (suc k) z)) is in
    let more = with_more s4 s in
    record {
      lists = record {
        behind = g5.behind;
        once = g5.once;
        keys = put.0;
        quads_noted = numbers_more w least quad_at s4 s5 more.0 (get same_key after.quads) (grown ∙ more.1) g4.behind g4.once g5.behind g5.once
            (subst (λ z. AreNumbers w least quad_at s4 (get same_key z)) (sym same_quads) l.quads_noted);
        leaves_noted = numbers_more w least leaf_at s4 s5 more.0 (get same_key after.leaves) (grown ∙ more.1) g4.behind g4.once g5.behind g5.once
            (subst (λ z. AreNumbers w least leaf_at s4 (get same_key z)) (sym same_leaves) l.leaves_noted);
      };
      number = number ∙ sym (ap (number_in s5 (suc k)) is ∙ number_there s5 g5.once k p ps j place);
    }
  where
    with_more : (squares : List Square) (s : Square) → (more : List Square) × (with_square s squares ≡ squares ++ more)
    with_more squares s = picked (list_any (same_square s) squares)
      where
        picked : (t : Bool) → (more : List Square) × (cond t squares (squares ++ s ∷ []) ≡ squares ++ more)
        picked true = ([], sym (append-nil squares))
        picked false = (s ∷ [], refl)

-- two visits of two quarters, and their numbers put in, are the visit of a square: each quarter that is shown has the
-- pairs of the square that lie in it
pub quarters_visited : (w0 w1 w2 w3 : Worker) (least h k : ℕ) (s : Shown) (four : Option Shown × Option Shown × Option Shown × Option Shown) (v0 v1 v2 v3 : Visits) (nw ne sw se j n : ℕ)
    → h ≡ k + 1 → h ≤ size_height → IsFull w0 least h s → ShowsFour w1 least k (square_cells w0 (2 ^ (k + 1)) s) four → Keeps w0 w1 → Keeps w1 w2 → Keeps w2 w3
    → VisitedTwo w1 w2 least v0 v1 k (part_pairs w1 k four.0) (part_pairs w1 k four.1) (nw, ne) → VisitedTwo w2 w3 least v1 v2 k (part_pairs w2 k four.2) (part_pairs w2 k four.3) (sw, se)
    → v3.squares.keys ≡ insert_key same_quarters v2.squares.keys (record { nw = nw; ne = ne; sw = sw; se = se }) → v3.quads ≡ v2.quads → v3.leaves ≡ v2.leaves
    → slice_get v3.squares.keys j ≡ Some (record { nw = nw; ne = ne; sw = sw; se = se }) → n ≡ j + 2
    → Visited w0 w3 least v0 v3 h (square_pairs w0 h s) n
quarters_visited w0 w1 w2 w3 least h k s four v0 v1 v2 v3 nw ne sw se j n up high full shown k01 k12 k23 north south keys same_quads same_leaves at number squares l =
    let m : ℕ = 2 ^ k in
    let is : h ≡ suc k = omega (arith, up) in
    let next : k + 1 ≡ suc k = omega arith in
    let f : Cells = square_cells w0 (2 ^ suc k) s in
    let show : ShowsFour w1 least k f four = subst (λ x. ShowsFour w1 least k (square_cells w0 (2 ^ x) s) four) next shown in
    let whole : Pairs = square_pairs w0 (suc k) s in
    let first = full_pairs w0 least (suc k) s (subst (λ x. IsFull w0 least x s) is full) in
    let half = two_halves k in
    let ea : part_pairs w1 k four.0 ≡ quarter m 0 0 whole = shown_pairs w1 least k _ four.0 show.nw ∙ sym (quarter_pairs k 0 0 f (omega (arith, half)) (omega (arith, half))) in
    let eb : part_pairs w1 k four.1 ≡ quarter m 0 m whole = shown_pairs w1 least k _ four.1 show.ne ∙ sym (quarter_pairs k 0 m f (omega (arith, half)) (omega (arith, half))) in
    let ec : part_pairs w2 k four.2 ≡ quarter m m 0 whole = shown_pairs_later w1 w2 least k _ four.2 k12 show.sw ∙ sym (quarter_pairs k m 0 f (omega (arith, half)) (omega (arith, half))) in
    let ed : part_pairs w2 k four.3 ≡ quarter m m m whole = shown_pairs_later w1 w2 least k _ four.3 k12 show.se ∙ sym (quarter_pairs k m m f (omega (arith, half)) (omega (arith, half))) in
    let a = north squares (lists_kept w0 w1 least squares v0 k01 l) in
    let b = south (visit k (part_pairs w1 k four.1) (visit k (part_pairs w1 k four.0) squares)) a.lists in
    subst (λ x. IsVisited w3 least squares v3 x (square_pairs w0 x s) n) (sym is)
    (four_listed w3 least k whole first.0 first.1 squares v2 v3 (record { nw = nw; ne = ne; sw = sw; se = se }) j n (omega (arith, high, is)) first.2 (proper_pairs (suc k) f) l.behind l.once
    (subst (λ z. Lists w3 least z v2) (λ i. visit k (ed i) (visit k (ec i) (visit k (eb i) (visit k (ea i) squares)))) b.lists)
    (a.west_number ∙ (λ i. number_in (visit k (eb i) (visit k (ea i) squares)) k (ea i)))
    (a.east_number ∙ (λ i. number_in (visit k (eb i) (visit k (ea i) squares)) k (eb i)))
    (b.west_number ∙ (λ i. number_in (visit k (ed i) (visit k (ec i) (visit k (eb i) (visit k (ea i) squares)))) k (ec i)))
    (b.east_number ∙ (λ i. number_in (visit k (ed i) (visit k (ec i) (visit k (eb i) (visit k (ea i) squares)))) k (ed i)))
    keys same_quads same_leaves at number)
  where
    two_halves : (k : ℕ) → 2 ^ k + 2 ^ k ≡ 2 ^ suc k
    two_halves k = omega arith
