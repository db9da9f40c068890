-- An operator by its pieces: all of them, put together, and the room that they take.
use Rattle.std.proofs.Common.{◌≡◌, ◌≢◌, ◌<◌, ◌≤◌, ◌+◌, ◌-◌, ◌*◌, ◌^◌, zero, suc, ℕ, List, Result, Ok, Err, IfOk, refl, sym, ap, subst, ◌∙◌, arith}
use Rattle.std.specs.Prelude.{IsOk}
use Rattle.std.proofs.Math.Nat.{pow-suc, one-le-pow, pow-le-pow_left, mul_comm, mul_assoc, add-mul}
use Rattle.rel_model.specs.declared.Quad.{Quad}
use Rattle.rel_model.specs.Cells.{Cells}
use Rattle.rel_model.specs.Trees.{bottom_height}
use Rattle.rel_model.specs.Equations.{Operator, Union, Inter, Diff, Transpose, Compose, side_of, depth_of}
use Rattle.rel_model.specs.Quads.{Keeper, IsKeeper, quad_cells, QuadStands, IsQuad, KeepsQuads, ReadsQuads, Counts, quad_room, composed_words}
use Rattle.rel_model.specs.Worker.{Stands}
use Rattle.rel_model.proofs.TreeLaws.{Within, zero_stands}
use Rattle.rel_model.proofs.QuadLaws.{keeps_on, keeps_most, reads_on, is_quad-stays, rooms-next}
use Rattle.rel_model.proofs.Rooms.{composed_words-most}
use Rattle.row_quads.proofs.Placing.{quad_within}
use Rattle.memo_laws.specs.Looking.{operator_of}
use Rattle.quad_nodes.specs.Finding.{FindsQuad}
use Rattle.quad_nodes.specs.Making.{MakesQuad}
use Rattle.quad_nodes.proofs.Finding.{found_is, found_later}
use Rattle.rel_model.specs.declared.Rel.{Rel}
use Rattle.fork_quads.specs.Crew.{worker_of, root_quad}
use Rattle.fork_quads.proofs.Crewing.{stands_root}
use Rattle.fork_quads.specs.declared.pieces.Job.{Job}
use Rattle.fork_quads.specs.Middle.{whole_words}
use Rattle.fork_quads.specs.Forks.{work_room, product_words, piece_room, corner_words, fork_words, fork_room, TellsMisses, job_set, CanDo, DidJob, HavePieces, HadPieces, DidPieces, HoldPieces, tiled}
use Rattle.fork_quads.proofs.Parts.{result-within}
use Rattle.fork_quads.proofs.Tiling.{before-few, tiled-is, part_stood}
use Rattle.fork_quads.proofs.Forking.{can_seen, set_seen, keeps_sees}

-- ---- misses
pub counts_tells : {T E : Type 0} (old new : Keeper) (r : Result T E) → Counts old new r → TellsMisses old new r
counts_tells old new (Ok x) c = c
counts_tells old new (Err e) c = omega (arith, c)

-- after calls that missed nothing
pub tells_after : {T E : Type 0} (u v w : Keeper) (r : Result T E) → v.misses ≡ u.misses → TellsMisses v w r → TellsMisses u w r
tells_after u v w (Ok x) e t = t ∙ e
tells_after u v w (Err x) e t = omega (arith, t)

-- ---- all pieces
job_within : (w : Keeper) (job : Job) → CanDo w job → Within (side_of job.a.height) (side_of job.a.height) (job_set w job)
job_within w job c = result-within (operator_of job.op) (side_of job.a.height) _ _ (quad_within w job.a)
    (subst (λ (h : ℕ). Within (side_of h) (side_of h) (quad_cells w job.b)) c.one_height (quad_within w job.b))

pub all_hold : (w : Keeper) (job : Job) (f : Cells) (past : ℕ) (quads : List Quad) → past ≡ 4 ^ job.cuts → HavePieces w job f 0 past quads → HoldPieces w (job.a.height - job.cuts) job.cuts 0 quads
all_hold w job f past quads e have n b d =
    let l = before-few job.cuts n b in
    let s = have n (omega arith) (omega (arith, l)) d in
    record { same_height = s.same_height; stands = s.stands; means = refl }

pub all_tiled : (v w : Keeper) (job : Job) (past : ℕ) (quads : List Quad) → CanDo v job → past ≡ 4 ^ job.cuts → HavePieces w job (job_set v job) 0 past quads → tiled w job.a.height job.cuts 0 quads ≡ job_set v job
all_tiled v w job past quads c e have = tiled-is w job.a.height job.cuts 0 (job_set v job) quads c.deep (job_within v job c)
    (λ n b d. let l = before-few job.cuts n b in (have n (omega arith) (omega (arith, l)) d).means)

pub all_value : {E : Type 0} (v w z : Keeper) (job : Job) (past : ℕ) (quads : List Quad) (r : Result Quad E) → CanDo v job → past ≡ 4 ^ job.cuts → HavePieces w job (job_set v job) 0 past quads
    → IfOk r (IsQuad z job.a.height (tiled w job.a.height job.cuts 0 quads)) → IfOk r (IsQuad z job.a.height (job_set v job))
all_value v w z job past quads r c e have s = subst (λ (f : Cells). IfOk r (IsQuad z job.a.height f)) (all_tiled v w job past quads c e have) s

-- where the result stood, so did all pieces
pub all_stood : (w : Keeper) (job : Job) (past : ℕ) (q : Quad) → IsKeeper w → CanDo w job → IsQuad w job.a.height (job_set w job) q → HadPieces w job 0 past
all_stood w job past q i c s n l m = part_stood w job.a.height job.cuts n (job_set w job) i c.deep (job_within w job c) (record { quad = q; is = s })

pub all_found : {D E : Type 0} (v w z : Keeper) (job : Job) (past : ℕ) (quads : List Quad) (r : Result Quad E) → IsKeeper v → CanDo v job → past ≡ 4 ^ job.cuts → operator_of job.op ≢ Compose → DidPieces {E = D} v w job 0 past (Ok quads)
    → FindsQuad w z job.a.height (tiled w job.a.height job.cuts 0 quads) r → FindsQuad v z job.a.height (job_set v job) r
all_found v w z job past quads r i c e other did find q s =
    let quiet = did.stood other (all_stood v job past q i c s) in
    let t = is_quad-stays 0 v w job.a.height (job_set v job) q quiet.reads.keeps s in
    let g = find q (subst (λ (f : Cells). IsQuad w job.a.height f q) (sym (all_tiled v w job past quads c e did.value)) t) in
    record { answer = g.answer; reads = reads_on v w z quiet.reads g.reads }

pub all_missed : {D E : Type 0} (v w : Keeper) (job : Job) (past : ℕ) (e : D) (r : Result Quad E) → IsKeeper v → CanDo v job → operator_of job.op ≢ Compose → DidPieces {E = D} v w job 0 past (Err e) → FindsQuad v w job.a.height (job_set v job) r
all_missed v w job past e r i c other did q s = absurd (let quiet = did.stood other (all_stood v job past q i c s) in refused quiet.answered)
  where
    refused : IsOk {T = List Quad} (Err e) → ⊥
    refused h = cc

-- ---- rooms
pub work_room-square : (op : Operator) (t h c : ℕ) → op ≢ Compose → c ≡ 0 → work_room op t h ≡ quad_room (h - c)
work_room-square Union t h c other e = ap (λ (x : ℕ). quad_room x) (let g : h ≡ h - c = omega arith in g)
work_room-square Inter t h c other e = ap (λ (x : ℕ). quad_room x) (let g : h ≡ h - c = omega arith in g)
work_room-square Diff t h c other e = ap (λ (x : ℕ). quad_room x) (let g : h ≡ h - c = omega arith in g)
work_room-square Transpose t h c other e = ap (λ (x : ℕ). quad_room x) (let g : h ≡ h - c = omega arith in g)
work_room-square Compose t h c other e = absurd (other refl)

pub product_words-next : (t h c : ℕ) → c ≢ 0 → product_words t h c ≡ product_words t (h - 1) (c - 1) + product_words t (h - 1) (c - 1) + quad_room (h - 1 - (c - 1))
product_words-next t h zero s = absurd (s refl)
product_words-next t h (suc c) s = let e : suc c - 1 ≡ c = omega arith in rw e refl

-- a composition alone has room
whole_words-fork : (t d : ℕ) → whole_words t d ≤ fork_words t d
whole_words-fork zero d = omega arith
whole_words-fork (suc t) zero = omega arith
whole_words-fork (suc t) (suc d) =
    let a = composed_words-most (suc d) in
    let p = pow-le-pow_left {n = 4} {m = 8} (omega arith) (suc d) in
    omega (arith, a, p)

pub work_room-fork : (op : Operator) (t h : ℕ) → work_room op t h ≤ fork_room op t h
work_room-fork Union t h = omega arith
work_room-fork Inter t h = omega arith
work_room-fork Diff t h = omega arith
work_room-fork Transpose t h = omega arith
work_room-fork Compose t h = whole_words-fork t (h - bottom_height)

-- ---- rooms of all pieces
whole_words-most : (t d : ℕ) → whole_words (suc t) d ≤ 3840 * 8 ^ d
whole_words-most t zero = omega arith
whole_words-most t (suc d) =
    let a = composed_words-most (suc d) in
    let p = pow-le-pow_left {n = 4} {m = 8} (omega arith) (suc d) in
    omega (arith, a, p)

-- one cut more makes four times as many pieces
four_times : (c x : ℕ) → 4 ^ suc c * x ≡ 4 * (4 ^ c * x)
four_times c x = ap (λ (y : ℕ). y * x) (pow-suc 4 c ∙ mul_comm (4 ^ c) 4) ∙ mul_assoc 4 (4 ^ c) x

two_and_one : (p x q : ℕ) → p * (x + x + q) ≡ p * x + p * x + p * q
two_and_one p x q =
    mul_comm p (x + x + q) ∙ add-mul (x + x) q p ∙ ap (λ (y : ℕ). y + q * p) (add-mul x x p)
    ∙ ap (λ (y : ℕ). y + y + q * p) (mul_comm x p) ∙ ap (λ (y : ℕ). p * x + p * x + y) (mul_comm q p)

four_sums : (c x q : ℕ) → 4 ^ suc c * (x + x + q) ≡ 4 * (4 ^ c * x + 4 ^ c * x + 4 ^ c * q)
four_sums c x q = four_times c (x + x + q) ∙ ap (λ (y : ℕ). 4 * y) (two_and_one (4 ^ c) x q)

height_next : (h c : ℕ) → bottom_height + suc c ≤ h → h - bottom_height ≡ suc (h - 1 - bottom_height)
height_next h c d = omega arith

-- squares of one height have the room of the whole, with their corners
squares_fit : (c h : ℕ) → bottom_height + c ≤ h → 4 ^ c * quad_room (h - c) + corner_words c ≤ quad_room h
squares_fit zero h d = let q : quad_room (h - 0) ≡ quad_room h = ap (λ (x : ℕ). quad_room x) (let g : h - 0 ≡ h = omega arith in g) in omega (arith, q)
squares_fit (suc c) h d =
    let e : quad_room (h - suc c) ≡ quad_room (h - 1 - c) = ap (λ (x : ℕ). quad_room x) (let g : h - suc c ≡ h - 1 - c = omega arith in g) in
    subst (λ (y : ℕ). y + corner_words (suc c) ≤ quad_room h) (sym (ap (λ (x : ℕ). 4 ^ suc c * x) e ∙ four_times c (quad_room (h - 1 - c))))
    (next (4 ^ c * quad_room (h - 1 - c)) (corner_words c) (quad_room (h - 1)) (quad_room h) (squares_fit c (h - 1) (omega arith)) (rooms-next h (omega arith)))
  where
    next : (x w m n : ℕ) → x + w ≤ m → m + m + m + m + 3 ≡ n → 4 * x + (w + w + (w + w) + 3) ≤ n
    next x w m n a b = omega (arith, a, b)

-- pieces of a composition whose middle is not halved place no more than the recursion
lines_fit : (c h : ℕ) → bottom_height + c ≤ h → 4 ^ c * product_words 0 h c + corner_words c ≤ composed_words (h - bottom_height)
lines_fit zero h d = omega arith
lines_fit (suc c) h d =
    subst (λ (y : ℕ). y + corner_words (suc c) ≤ composed_words (h - bottom_height)) (sym (four_sums c (product_words 0 (h - 1) c) (quad_room (h - 1 - c))))
    (next (4 ^ c * product_words 0 (h - 1) c) (4 ^ c * quad_room (h - 1 - c)) (corner_words c) (composed_words (h - 1 - bottom_height)) (quad_room (h - 1)) (composed_words (h - bottom_height))
    (lines_fit c (h - 1) (omega arith)) (squares_fit c (h - 1) (omega arith)) (ap composed_words (height_next h c d)))
  where
    next : (x q w m n z : ℕ) → x + w ≤ m → q + w ≤ n → z ≡ 8 * m + 4 * n + 3 → 4 * (x + x + q) + (w + w + (w + w) + 3) ≤ z
    next x q w m n z a b e = omega (arith, a, b, e)

-- those of one whose middle may be halved place a little more than the whole
products_fit : (n c h : ℕ) → bottom_height + c ≤ h → 4 ^ c * product_words (suc n) h c + corner_words c + 2 * 4 ^ (h - bottom_height) ≤ 3842 * 8 ^ (h - bottom_height)
products_fit n zero h d =
    let w = whole_words-most n (h - bottom_height) in
    let p = pow-le-pow_left {n = 4} {m = 8} (omega arith) (h - bottom_height) in
    omega (arith, w, p)
products_fit n (suc c) h d =
    let k : ℕ = h - 1 - bottom_height in
    let e : h - bottom_height ≡ suc k = height_next h c d in
    let four : 4 ^ (h - bottom_height) ≡ 4 ^ k * 4 = ap (λ (x : ℕ). 4 ^ x) e ∙ pow-suc 4 k in
    let eight : 8 ^ (h - bottom_height) ≡ 8 ^ k * 8 = ap (λ (x : ℕ). 8 ^ x) e ∙ pow-suc 8 k in
    subst (λ (y : ℕ). y + corner_words (suc c) + 2 * 4 ^ (h - bottom_height) ≤ 3842 * 8 ^ (h - bottom_height)) (sym (four_sums c (product_words (suc n) (h - 1) c) (quad_room (h - 1 - c))))
    (next (4 ^ c * product_words (suc n) (h - 1) c) (4 ^ c * quad_room (h - 1 - c)) (corner_words c) (4 ^ k) (8 ^ k) (4 ^ (h - bottom_height)) (8 ^ (h - bottom_height))
    (products_fit n c (h - 1) (omega arith)) (squares_fit c (h - 1) (omega arith)) (one-le-pow k 4 (omega arith)) four eight)
  where
    next : (x q w f g f4 g8 : ℕ) → x + w + 2 * f ≤ 3842 * g → q + w ≤ 2 * f - 1 → 1 ≤ f → f4 ≡ f * 4 → g8 ≡ g * 8 → 4 * (x + x + q) + (w + w + (w + w) + 3) + 2 * f4 ≤ 3842 * g8
    next x q w f g f4 g8 a b o e s = omega (arith, a, b, o, e, s)

fork_words-some : (n d : ℕ) → 0 < d → fork_words (suc n) d ≡ 4096 * 8 ^ d
fork_words-some n zero l = absurd (omega (arith, l))
fork_words-some n (suc d) l = refl

pub pieces_fit : (op : Operator) (t c h : ℕ) → 0 < c → bottom_height + c ≤ h → 4 ^ c * piece_room op t h c + corner_words c ≤ fork_room op t h
pieces_fit Union t c h s d = squares_fit c h d
pieces_fit Inter t c h s d = squares_fit c h d
pieces_fit Diff t c h s d = squares_fit c h d
pieces_fit Transpose t c h s d = squares_fit c h d
pieces_fit Compose zero c h s d = lines_fit c h d
pieces_fit Compose (suc n) c h s d = most (4 ^ c * product_words (suc n) h c) (corner_words c) (4 ^ (h - bottom_height)) (8 ^ (h - bottom_height)) (fork_words (suc n) (h - bottom_height))
    (products_fit n c h d) (fork_words-some n (h - bottom_height) (omega (arith, s, d)))
  where
    most : (x w f g z : ℕ) → x + w + 2 * f ≤ 3842 * g → z ≡ 4096 * g → x + w ≤ z
    most x w f g z a e = omega (arith, a, e)

-- what all pieces place, and their corners
all_room : (op : Operator) (t c h past : ℕ) → 0 < c → bottom_height + c ≤ h → past ≡ 4 ^ c → (past - 0) * piece_room op t h c + corner_words c ≤ fork_room op t h
all_room op t c h past s d e =
    let r : (past - 0) * piece_room op t h c ≡ 4 ^ c * piece_room op t h c = ap (λ (x : ℕ). x * piece_room op t h c) (let g : past - 0 ≡ 4 ^ c = omega arith in g) in
    let f = pieces_fit op t c h s d in
    omega (arith, r, f)

-- what the two products of a square place
pub product_keeps : (u v w : Keeper) (t h k c : ℕ) → c ≢ 0 → k + 1 ≡ h → ReadsQuads u v → KeepsQuads (product_words t k (c - 1) + product_words t k (c - 1) + quad_room (k - (c - 1))) v w → KeepsQuads (product_words t h c) u w
product_keeps u v w t h k c s e r l =
    let g : h - 1 ≡ k = omega arith in
    let n = product_words-next t h c s ∙ ap (λ (x : ℕ). product_words t x (c - 1) + product_words t x (c - 1) + quad_room (x - (c - 1))) g in
    let m : ℕ = product_words t k (c - 1) + product_words t k (c - 1) + quad_room (k - (c - 1)) in
    subst (λ (x : ℕ). KeepsQuads x u w) (sym n) (keeps_most (0 + m) m u w (omega arith) (keeps_on 0 m u v w r.keeps l))

-- ---- how many pieces
pub pieces_some : (c past : ℕ) → past ≡ 4 ^ c → 0 < past
pieces_some c past e = let a = one-le-pow c 4 (omega arith) in omega arith

pub pieces_few : (c past : ℕ) → c ≤ 3 → past ≡ 4 ^ c → past ≤ 64
pieces_few zero past l e = omega arith
pieces_few (suc zero) past l e = omega arith
pieces_few (suc (suc zero)) past l e = omega arith
pieces_few (suc (suc (suc zero))) past l e = omega arith
pieces_few (suc (suc (suc (suc c)))) past l e = absurd (omega (arith, l))

-- ---- jobs
-- a job can be done after calls that keep its operands
pub can_kept : {m : ℕ} {v w : Keeper} {job : Job} → KeepsQuads m v w → CanDo v job → CanDo w job
can_kept {m} {v} {w} {job} k c = can_seen v w job (keeps_sees m v w k) c

-- and computes the same set
pub set_kept : {m : ℕ} {v w : Keeper} {job : Job} → KeepsQuads m v w → CanDo v job → job_set w job ≡ job_set v job
set_kept {m} {v} {w} {job} k c = set_seen v w job (keeps_sees m v w k) c

-- by one worker
pub job_sequential : {E : Type 0} {v w : Keeper} (job : Job) (r : Result Quad E) → IfOk r (IsQuad w job.a.height (job_set v job)) → (operator_of job.op ≢ Compose → FindsQuad v w job.a.height (job_set v job) r)
    → KeepsQuads (work_room (operator_of job.op) job.halving.times job.a.height) v w → Counts v w r → DidJob v w job r
job_sequential {E} {v} {w} job r i f k c = record {
  value = i;
  stood = f;
  keeps = keeps_most _ _ v w (work_room-fork (operator_of job.op) job.halving.times job.a.height) k;
  misses = counts_tells v w r c;
}

-- by a quad that was noted
pub job_found : {E : Type 0} {v w : Keeper} (job : Job) {q : Quad} → ReadsQuads v w → IsQuad w job.a.height (job_set v job) q → DidJob {E = E} v w job (Ok q)
job_found {E} {v} {w} job {q} r s = record {
  value = s;
  stood = λ other. found_is {E = E} v w job.a.height (job_set v job) q r s;
  keeps = keeps_most 0 _ v w (omega arith) r.keeps;
  misses = r.misses;
}

-- after a call that reads
pub job_after : {E : Type 0} {u v w : Keeper} {job : Job} {r : Result Quad E} → ReadsQuads u v → CanDo u job → DidJob v w job r → DidJob u w job r
job_after {E} {u} {v} {w} {job} {r} a c s =
    let m : ℕ = fork_room (operator_of job.op) job.halving.times job.a.height in
    let e : job_set v job ≡ job_set u job = set_kept a.keeps c in
    record {
      value = subst (λ (f : Cells). IfOk r (IsQuad w job.a.height f)) e s.value;
      stood = λ other. found_later u v w job.a.height job.a.height _ _ r a refl e (s.stood other);
      keeps = keeps_most (0 + m) m u w (omega arith) (keeps_on 0 m u v w a.keeps s.keeps);
      misses = tells_after u v w r a.misses s.misses;
    }

-- and before one
pub job_before : {E : Type 0} {u v w : Keeper} {job : Job} {q : Quad} → DidJob {E = E} u v job (Ok q) → ReadsQuads v w → DidJob {E = E} u w job (Ok q)
job_before {E} {u} {v} {w} {job} {q} s a =
    let m : ℕ = fork_room (operator_of job.op) job.halving.times job.a.height in
    record {
      value = is_quad-stays 0 v w job.a.height (job_set u job) q a.keeps s.value;
      stood = λ other p i. let g = s.stood other p i in record { answer = g.answer; reads = reads_on u v w g.reads a };
      keeps = keeps_most (m + 0) m u w (omega arith) (keeps_on m 0 u v w s.keeps a.keeps);
      misses = a.misses ∙ s.misses;
    }

-- by all its pieces, put together
pub job_pieces : {D E : Type 0} {v w z : Keeper} {job : Job} {past : ℕ} {quads : List Quad} {r : Result Quad E} → IsKeeper v → CanDo v job → 0 < job.cuts → past ≡ 4 ^ job.cuts
    → DidPieces {E = D} v w job 0 past (Ok quads) → MakesQuad (corner_words job.cuts) job.a.height (tiled w job.a.height job.cuts 0 quads) w z r → DidJob v z job r
job_pieces {D} {E} {v} {w} {z} {job} {past} {quads} {r} i c over e did s = record {
  value = all_value v w z job past quads r c e did.value s.value;
  stood = λ other. all_found {D = D} {E = E} v w z job past quads r i c e other did s.stood;
  keeps = keeps_most _ _ v z (all_room (operator_of job.op) job.halving.times job.cuts job.a.height past over c.deep e) (keeps_on _ _ v w z did.keeps s.keeps);
  misses = tells_after v w z r did.misses (counts_tells w z r s.counts);
}

-- or not, where a piece was missed
pub job_missed : {D E : Type 0} {v w : Keeper} {job : Job} {past : ℕ} {x : D} {y : E} → IsKeeper v → CanDo v job → 0 < job.cuts → past ≡ 4 ^ job.cuts → DidPieces {E = D} v w job 0 past (Err x) → DidJob {E = E} v w job (Err y)
job_missed {D} {E} {v} {w} {job} {past} {x} {y} i c over e did = record {
  value = tt;
  stood = λ other. all_missed {D = D} {E = E} v w job past x (Err y) i c other did;
  keeps = (let l = all_room (operator_of job.op) job.halving.times job.cuts job.a.height past over c.deep e in keeps_most _ (fork_room (operator_of job.op) job.halving.times job.a.height) v w (omega (arith, l)) did.keeps);
  misses = did.misses;
}

-- ---- operators that are no composition
pub union_other : Union ≢ Compose
union_other e = cc

pub inter_other : Inter ≢ Compose
inter_other e = cc

pub diff_other : Diff ≢ Compose
diff_other e = cc

pub transpose_other : Transpose ≢ Compose
transpose_other e = cc

-- the quad with no cell stands beside a root
pub none_stands : (w inside : Keeper) (r : Rel) (q : Quad) → inside ≡ w → Stands (worker_of w) r → q ≡ root_quad r → QuadStands inside (record { height = q.height; name = 0 })
none_stands w inside r q v h e = let s = stands_root w inside r q v h e in record { low = s.low; high = s.high; standing = zero_stands inside.view.words (depth_of q.height) }
