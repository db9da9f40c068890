-- Work on nodes that are split and joined again.
-- 1. What stood before a split stands in both, and what stood in either stands after they are joined (`Sees`).
-- 2. What two do on a split adds up after the join: words placed, and misses (`joined_keeps`, `joined_misses`).
-- 3. So two groups of pieces, at once or one after the other, are one group (`both_did`, `then_did`).
use Rattle.std.proofs.Common.{◌≡◌, ◌≢◌, ◌<◌, ◌≤◌, ◌+◌, ◌-◌, ◌*◌, ℕ, List, get_or, Result, Ok, Err, IfOk, refl, sym, ap, subst, ◌∙◌, inl, inr, arith}
use Rattle.std.specs.Prelude.{IsOk, IsErr}
use Rattle.std.proofs.lemmas.Bool.{cases_lt}
use Rattle.std.proofs.Math.Nat.{add-mul}
use Rattle.rel_model.specs.declared.Quad.{Quad}
use Rattle.rel_model.specs.Cells.{Cells}
use Rattle.rel_model.specs.Words.{Extends}
use Rattle.rel_model.specs.Equations.{Compose, result_of, depth_of, side_of}
use Rattle.rel_model.specs.Quads.{Keeper, IsKeeper, quad_cells, QuadStands, IsQuad, KeepsQuads, ReadsQuads, Counts, SplitsKeeper, JoinsKeeper}
use Rattle.rel_model.proofs.TreeLaws.{kept_stands, kept_cells}
use Rattle.rel_model.proofs.NamesStand.{extends_on}
use Rattle.rel_model.proofs.QuadLaws.{keeps_on, keeps_most, keeps_itself, reads_itself, reads_on}
use Rattle.memo_laws.specs.Looking.{operator_of}
use Rattle.quad_nodes.specs.Finding.{FindsQuad}
use Rattle.fork_quads.specs.declared.pieces.Job.{Job}
use Rattle.fork_quads.specs.Forks.{part, piece_room, TellsMisses, job_set, CanDo, CanGroup, HavePieces, HadPieces, DidPieces, AreAll, AreMerged, AreBoth}

-- ---- what one keeper has seen of another
-- all that the one has seen the other has
pub record Sees (v w : Keeper) : Type 0 where
  pub before : IsKeeper v
  pub after : IsKeeper w
  pub seen : Extends v.view.words w.view.words

pub keeps_sees : (m : ℕ) (v w : Keeper) → KeepsQuads m v w → Sees v w
keeps_sees m v w k = record { before = k.before; after = k.after; seen = k.seen }

pub split_first : (s : ℕ) (old own other : Keeper) → IsKeeper old → SplitsKeeper s old own other → Sees old own
split_first s old own other i p = record { before = i; after = p.after; seen = p.views.seen }

pub split_second : (s : ℕ) (old own other : Keeper) → IsKeeper old → SplitsKeeper s old own other → Sees old other
split_second s old own other i p = record { before = i; after = p.second_after; seen = subst (λ ws. Extends old.view.words ws) (sym p.views.words) p.views.seen }

pub join_first : (mine theirs new : Keeper) → IsKeeper mine → JoinsKeeper mine theirs new → Sees mine new
join_first mine theirs new i j = record { before = i; after = j.after; seen = j.views.seen }

pub join_second : (mine theirs new : Keeper) → IsKeeper theirs → JoinsKeeper mine theirs new → Sees theirs new
join_second mine theirs new i j = record { before = i; after = j.after; seen = j.views.also_seen }

pub seen_stands : (v w : Keeper) (q : Quad) → Sees v w → QuadStands v q → QuadStands w q
seen_stands v w q x s = record { low = s.low; high = s.high; standing = kept_stands v.view.words w.view.words x.seen (depth_of q.height) q.name s.standing }

pub seen_cells : (v w : Keeper) (q : Quad) → Sees v w → QuadStands v q → quad_cells w q ≡ quad_cells v q
seen_cells v w q x s = kept_cells v.view.words w.view.words x.seen x.before.of.canonical.none_at_0 x.after.of.canonical.none_at_0 (depth_of q.height) q.name s.standing

pub seen_is : (v w : Keeper) (h : ℕ) (f : Cells) (q : Quad) → Sees v w → IsQuad v h f q → IsQuad w h f q
seen_is v w h f q x s = record { same_height = s.same_height; stands = seen_stands v w q x s.stands; means = seen_cells v w q x s.stands ∙ s.means }

-- ---- jobs
pub can_seen : (v w : Keeper) (job : Job) → Sees v w → CanDo v job → CanDo w job
can_seen v w job x c = record { a_stands = seen_stands v w job.a x c.a_stands; b_stands = seen_stands v w job.b x c.b_stands; one_height = c.one_height; deep = c.deep; few = c.few }

pub set_seen : (v w : Keeper) (job : Job) → Sees v w → CanDo v job → job_set w job ≡ job_set v job
set_seen v w job x c =
    ap (λ (f : Cells). result_of (operator_of job.op) (side_of job.a.height) f (quad_cells w job.b)) (seen_cells v w job.a x c.a_stands)
    ∙ ap (λ (f : Cells). result_of (operator_of job.op) (side_of job.a.height) (quad_cells v job.a) f) (seen_cells v w job.b x c.b_stands)

pub had_seen : (v w : Keeper) (job : Job) (from past : ℕ) → Sees v w → CanDo v job → HadPieces v job from past → HadPieces w job from past
had_seen v w job from past x c h n l m =
    let p = h n l m in
    record {
      quad = p.quad;
      is = subst (λ (f : Cells). IsQuad w (job.a.height - job.cuts) (part job.a.height job.cuts n f) p.quad) (sym (set_seen v w job x c)) (seen_is v w _ _ p.quad x p.is);
    }

pub have_seen : (v w : Keeper) (job : Job) (f g : Cells) (from past : ℕ) (quads : List Quad) → Sees v w → f ≡ g → HavePieces v job f from past quads → HavePieces w job g from past quads
have_seen v w job f g from past quads x e h n l m d = subst (λ (c : Cells). IsQuad w (job.a.height - job.cuts) (part job.a.height job.cuts n c) (get_or quads n d)) e (seen_is v w _ _ _ x (h n l m d))

pub had_before : (w : Keeper) (job : Job) (from middle past : ℕ) → middle ≤ past → HadPieces w job from past → HadPieces w job from middle
had_before w job from middle past l h n a b = h n a (omega arith)

pub had_after : (w : Keeper) (job : Job) (from middle past : ℕ) → from ≤ middle → HadPieces w job from past → HadPieces w job middle past
had_after w job from middle past l h n a b = h n (omega arith) b

-- the pieces of two groups as those of one
pub merged_have : (w : Keeper) (job : Job) (f : Cells) (from middle past : ℕ) (p q all : List Quad) → past ≤ 64 → AreMerged p q middle all → HavePieces w job f from middle p → HavePieces w job f middle past q → HavePieces w job f from past all
merged_have w job f from middle past p q all top m hp hq n l k d = elim (cases_lt n middle) [
  | inl x ↦ subst (λ (z : Quad). IsQuad w (job.a.height - job.cuts) (part job.a.height job.cuts n f) z) (sym (m.before n d x (omega arith))) (hp n l x d)
  | inr x ↦ subst (λ (z : Quad). IsQuad w (job.a.height - job.cuts) (part job.a.height job.cuts n f) z) (sym (m.after n d x (omega arith))) (hq n x k d)
]

-- rooms of two groups
pub rooms_both : (from middle past r : ℕ) → from ≤ middle → middle ≤ past → (middle - from) * r + (past - middle) * r ≡ (past - from) * r
rooms_both from middle past r l m = sym (add-mul (middle - from) (past - middle) r) ∙ ap (λ (n : ℕ). n * r) (let e : (middle - from) + (past - middle) ≡ past - from = omega arith in e)

pub keeps_as : (m n : ℕ) (u v : Keeper) → m ≡ n → KeepsQuads m u v → KeepsQuads n u v
keeps_as m n u v e k = subst (λ (x : ℕ). KeepsQuads x u v) e k

-- ---- what two do on a split
pub joined_keeps : (s m n : ℕ) (old own other mine theirs new : Keeper) → IsKeeper old → SplitsKeeper s old own other → KeepsQuads m own mine → KeepsQuads n other theirs → JoinsKeeper mine theirs new → KeepsQuads (m + n) old new
joined_keeps s m n old own other mine theirs new i p k l j = record {
  before = i;
  after = j.after;
  table = j.table ∙ k.table ∙ p.table;
  seen = extends_on _ _ _ p.views.seen (extends_on _ _ _ k.seen j.views.seen);
  house = j.views.house ∙ k.house ∙ p.views.house;
  spare = (let a = j.views.spares in let b = k.spare in let c = l.spare in let d = p.views.spares in let e = p.views.second_spare in omega arith);
  grows = (let a = j.views.made in let b = k.grows in let c = p.views.made in omega arith);
  room = (let a = j.views.made in let b = k.room in let c = l.room in let d = p.views.made in let e = p.views.second_made in omega arith);
}

joined_quiet : (s : ℕ) (old own other mine theirs new : Keeper) → IsKeeper old → SplitsKeeper s old own other → ReadsQuads own mine → ReadsQuads other theirs → JoinsKeeper mine theirs new → ReadsQuads old new
joined_quiet s old own other mine theirs new i p k l j = record {
  keeps = joined_keeps s 0 0 old own other mine theirs new i p k.keeps l.keeps j;
  misses = (let a = j.misses in let b = k.misses in let c = l.misses in let d = p.misses in let e = p.second_misses in let f = i.counted in omega arith);
}

-- misses of both, by their answers
joined_misses : {E : Type 0} (s : ℕ) (old own other mine theirs new : Keeper) (first second answer : Result (List Quad) E) (middle : ℕ) → IsKeeper old → SplitsKeeper s old own other → TellsMisses own mine first → TellsMisses other theirs second → JoinsKeeper mine theirs new
    → AreBoth first second middle answer → TellsMisses old new answer
joined_misses s old own other mine theirs new (Ok p) (Ok q) (Ok x) middle i sp a b j e =
    let c = j.misses in let d = sp.misses in let g = sp.second_misses in let f = i.counted in omega (arith, a, b)
joined_misses s old own other mine theirs new (Ok p) (Ok q) (Err x) middle i sp a b j e = absurd (cc)
joined_misses s old own other mine theirs new (Ok p) (Err q) (Ok x) middle i sp a b j e = absurd (cc)
joined_misses s old own other mine theirs new (Ok p) (Err q) (Err x) middle i sp a b j e =
    let c = j.misses in let d = sp.misses in let g = sp.second_misses in let f = i.counted in omega (arith, a, b)
joined_misses s old own other mine theirs new (Err p) second (Ok x) middle i sp a b j e = absurd (cc)
joined_misses s old own other mine theirs new (Err p) second (Err x) middle i sp a b j e =
    let c = j.misses in let d = sp.misses in let f = i.counted in omega (arith, a)

-- ---- two groups at once
both_value : {E : Type 0} (new : Keeper) (job : Job) (f : Cells) (from middle past : ℕ) (first second answer : Result (List Quad) E) → past ≤ 64 → AreBoth first second middle answer
    → IfOk first (HavePieces new job f from middle) → IfOk second (HavePieces new job f middle past) → IfOk answer (HavePieces new job f from past)
both_value new job f from middle past (Ok p) (Ok q) (Ok x) top e a b = merged_have new job f from middle past p q x top e.0 a b
both_value new job f from middle past (Ok p) (Ok q) (Err x) top e a b = tt
both_value new job f from middle past (Ok p) (Err q) (Ok x) top e a b = absurd (cc)
both_value new job f from middle past (Ok p) (Err q) (Err x) top e a b = tt
both_value new job f from middle past (Err p) second (Ok x) top e a b = absurd (cc)
both_value new job f from middle past (Err p) second (Err x) top e a b = tt

both_answered : {E : Type 0} (first second answer : Result (List Quad) E) (middle : ℕ) → AreBoth first second middle answer → IsOk first → IsOk second → IsOk answer
both_answered (Ok p) (Ok q) answer middle e a b = e.1
both_answered (Ok p) (Err q) answer middle e a b = absurd (cc)
both_answered (Err p) second answer middle e a b = absurd (cc)

value_seen : {E : Type 0} (v w : Keeper) (job : Job) (f g : Cells) (from past : ℕ) (answer : Result (List Quad) E) → Sees v w → f ≡ g → IfOk answer (HavePieces v job f from past) → IfOk answer (HavePieces w job g from past)
value_seen v w job f g from past (Ok p) x e h = have_seen v w job f g from past p x e h
value_seen v w job f g from past (Err p) x e h = tt

-- two groups that were computed at once, each on its part of a split, are one group: what stood before the split stands
-- in both parts, and the join adds up their words and misses
pub both_did : {E : Type 0} (s : ℕ) (old own other mine theirs new : Keeper) (job : Job) (from middle past : ℕ) (first second answer : Result (List Quad) E) → CanDo old job → from ≤ middle → middle ≤ past → past ≤ 64 → IsKeeper old
    → SplitsKeeper s old own other → DidPieces own mine job from middle first → DidPieces other theirs job middle past second → JoinsKeeper mine theirs new → AreBoth first second middle answer → DidPieces old new job from past answer
both_did s old own other mine theirs new job from middle past first second answer c l m top i p a b j e =
    let x = split_first s old own other i p in
    let y = split_second s old own other i p in
    let u = join_first mine theirs new a.keeps.after j in
    let v = join_second mine theirs new b.keeps.after j in
    record {
      value = both_value new job (job_set old job) from middle past first second answer top e
          (value_seen mine new job _ _ from middle first u (set_seen old own job x c) a.value)
          (value_seen theirs new job _ _ middle past second v (set_seen old other job y c) b.value);
      keeps = keeps_as _ _ old new (rooms_both from middle past _ l m) (joined_keeps s _ _ old own other mine theirs new i p a.keeps b.keeps j);
      misses = joined_misses s old own other mine theirs new first second answer middle i p a.misses b.misses j e;
      stood = λ o h.
          let q = a.stood o (had_seen old own job from middle x c (had_before old job from middle past m h)) in
          let r = b.stood o (had_seen old other job middle past y c (had_after old job from middle past l h)) in
          record { answered = both_answered first second answer middle e q.answered r.answered; reads = joined_quiet s old own other mine theirs new i p q.reads r.reads j };
    }

-- ---- one group on a split
none_more : (n : ℕ) → 0 + n ≡ n
none_more n = omega arith

split_misses : {E : Type 0} (s : ℕ) (old own other theirs new : Keeper) (answer : Result (List Quad) E) → IsKeeper old → SplitsKeeper s old own other → TellsMisses other theirs answer → JoinsKeeper own theirs new → TellsMisses old new answer
split_misses s old own other theirs new (Ok p) i sp a j = let c = j.misses in let d = sp.misses in let g = sp.second_misses in let f = i.counted in omega (arith, a)
split_misses s old own other theirs new (Err p) i sp a j = let c = j.misses in let d = sp.misses in let g = sp.second_misses in let f = i.counted in omega (arith, a)

-- a group that was computed on the part that was split off, while the other part did nothing, was computed on the whole
pub split_did : {E : Type 0} (s : ℕ) (old own other theirs new : Keeper) (job : Job) (from past : ℕ) (answer : Result (List Quad) E) → CanDo old job → IsKeeper old → SplitsKeeper s old own other → DidPieces other theirs job from past answer
    → JoinsKeeper own theirs new → DidPieces old new job from past answer
split_did s old own other theirs new job from past answer c i p b j =
    let y = split_second s old own other i p in
    let v = join_second own theirs new b.keeps.after j in
    record {
      value = value_seen theirs new job _ _ from past answer v (set_seen old other job y c) b.value;
      keeps = keeps_as (0 + (past - from) * piece_room (operator_of job.op) job.halving.times job.a.height job.cuts) ((past - from) * piece_room (operator_of job.op) job.halving.times job.a.height job.cuts) old new (none_more ((past - from) * piece_room (operator_of job.op) job.halving.times job.a.height job.cuts))
          (joined_keeps s 0 _ old own other own theirs new i p (keeps_itself own 0 p.after) b.keeps j);
      misses = split_misses s old own other theirs new answer i p b.misses j;
      stood = λ o h.
          let r = b.stood o (had_seen old other job from past y c h) in
          record { answered = r.answered; reads = joined_quiet s old own other own theirs new i p (reads_itself own p.after) r.reads j };
    }

-- ---- one group after another
then_misses : {E : Type 0} (old mid new : Keeper) (p q : List Quad) (answer second : Result (List Quad) E) (middle : ℕ) → TellsMisses {E = E} old mid (Ok p) → TellsMisses mid new second → AreBoth (Ok p) second middle answer → TellsMisses old new answer
then_misses old mid new p q (Ok x) (Ok y) middle a b e = b ∙ a
then_misses old mid new p q (Ok x) (Err y) middle a b e = absurd (cc)
then_misses old mid new p q (Err x) (Ok y) middle a b e = absurd (cc)
then_misses old mid new p q (Err x) (Err y) middle a b e = omega (arith, a, b)

-- two groups one after the other are one group: the second saw all that the first had made
pub then_did : {E : Type 0} (old mid new : Keeper) (job : Job) (from middle past : ℕ) (p : List Quad) (second answer : Result (List Quad) E) → CanDo old job → from ≤ middle → middle ≤ past → past ≤ 64
    → DidPieces {E = E} old mid job from middle (Ok p) → DidPieces mid new job middle past second → AreBoth (Ok p) second middle answer → DidPieces old new job from past answer
then_did {E} old mid new job from middle past p second answer c l m top a b e =
    let x = keeps_sees _ old mid a.keeps in
    let y = keeps_sees _ mid new b.keeps in
    record {
      value = both_value new job (job_set old job) from middle past (Ok p) second answer top e
          (value_seen {E = E} mid new job _ _ from middle (Ok p) y refl a.value)
          (value_seen new new job _ _ middle past second (keeps_sees 0 new new (keeps_itself new 0 b.keeps.after)) (set_seen old mid job x c) b.value);
      keeps = keeps_as _ _ old new (rooms_both from middle past _ l m) (keeps_on _ _ old mid new a.keeps b.keeps);
      misses = then_misses old mid new p p answer second middle a.misses b.misses e;
      stood = λ o h.
          let q = a.stood o (had_before old job from middle past m h) in
          let r = b.stood o (had_seen old mid job middle past x c (had_after old job from middle past l h)) in
          record { answered = both_answered (Ok p) second answer middle e q.answered r.answered; reads = reads_on old mid new q.reads r.reads };
    }

-- ---- one piece
pub one_did : {D E : Type 0} (old new : Keeper) (job : Job) (n : ℕ) (q : Quad) (quads : List Quad) (r : Result Quad D) → n < 64 → AreAll q quads → r ≡ Ok q → CanDo old job
    → IfOk r (IsQuad new (job.a.height - job.cuts) (part job.a.height job.cuts n (job_set old job)))
    → (operator_of job.op ≢ Compose → FindsQuad old new (job.a.height - job.cuts) (part job.a.height job.cuts n (job_set old job)) r)
    → KeepsQuads (piece_room (operator_of job.op) job.halving.times job.a.height job.cuts) old new → Counts old new r → DidPieces {E = E} old new job n (n + 1) (Ok quads)
one_did {D} {E} old new job n q quads r l all e c v s k m =
    let is : IsQuad new (job.a.height - job.cuts) (part job.a.height job.cuts n (job_set old job)) q = subst (λ (x : Result Quad D). IfOk x (IsQuad new (job.a.height - job.cuts) (part job.a.height job.cuts n (job_set old job)))) e v in
    let none : Counts {T = Quad} {E = D} old new (Ok q) = subst (λ (x : Result Quad D). Counts old new x) e m in
    record {
      value = λ i a b d. let g : i ≡ n = omega arith in
          subst (λ (z : Quad). IsQuad new (job.a.height - job.cuts) (part job.a.height job.cuts i (job_set old job)) z) (sym (all i d (omega arith)))
          (subst (λ (j : ℕ). IsQuad new (job.a.height - job.cuts) (part job.a.height job.cuts j (job_set old job)) q) (sym g) is);
      keeps = keeps_as (piece_room (operator_of job.op) job.halving.times job.a.height job.cuts) _ old new (one_more n (piece_room (operator_of job.op) job.halving.times job.a.height job.cuts)) k;
      misses = none;
      stood = λ o h. let p = h n (omega arith) (omega arith) in record { answered = refl; reads = (s o p.quad p.is).reads };
    }
  where
    one_more : (n r : ℕ) → r ≡ (n + 1 - n) * r
    one_more n r = let g : n + 1 - n ≡ 1 = omega arith in rw g (omega arith)

-- ---- the last of a group, and the others
pub group_rest : (old own other : Keeper) (job : Job) (from count : ℕ) → IsKeeper old → SplitsKeeper 0 old own other → count ≢ 1 → CanGroup old job from count → CanGroup own job from (count - 1)
group_rest old own other job from count i p n c =
    let a = c.some in
    let b = c.seats in
    let d = c.within in
    let v = p.views.spares in
    record { can = can_seen old own job (split_first 0 old own other i p) c.can; some = omega arith; seats = omega arith; within = omega arith }

pub group_last : (old own other : Keeper) (job : Job) (from count : ℕ) → IsKeeper old → SplitsKeeper 0 old own other → CanGroup old job from count → CanDo other job
group_last old own other job from count i p c = can_seen old other job (split_second 0 old own other i p) c.can

-- ---- groups one after another
-- a group that was refused counts for all
pub did_longer : {E : Type 0} (old new : Keeper) (job : Job) (from middle past : ℕ) (r : Result (List Quad) E) → IsErr r → from ≤ middle → middle ≤ past → DidPieces old new job from middle r → DidPieces old new job from past r
did_longer old new job from middle past (Ok p) e l m a = absurd (cc)
did_longer old new job from middle past (Err x) e l m a = record {
  value = tt;
  keeps = (let b = rooms_both from middle past (piece_room (operator_of job.op) job.halving.times job.a.height job.cuts) l m in keeps_most _ _ old new (omega (arith, b)) a.keeps);
  misses = a.misses;
  stood = λ o h. a.stood o (had_before old job from middle past m h);
}

pub did_all : {E : Type 0} (old new : Keeper) (job : Job) (from middle past : ℕ) (r : Result (List Quad) E) → middle ≡ past → DidPieces old new job from middle r → DidPieces old new job from past r
did_all old new job from middle past r e a = subst (λ (n : ℕ). DidPieces old new job from n r) e a

-- a group on a split, and those after it
pub groups_did : {E : Type 0} (old mid new : Keeper) (job : Job) (from middle past : ℕ) (first second answer : Result (List Quad) E) → IsOk first → CanDo old job → from ≤ middle → middle ≤ past → past ≤ 64
    → DidPieces old mid job from middle first → DidPieces mid new job middle past second → AreBoth first second middle answer → DidPieces old new job from past answer
groups_did old mid new job from middle past (Ok p) second answer ok c l m top a b e = then_did old mid new job from middle past p second answer c l m top a b e
groups_did old mid new job from middle past (Err x) second answer ok c l m top a b e = absurd (cc)

-- a seat for a group
pub seat_can : (s : ℕ) (old own other : Keeper) (job : Job) (from count past : ℕ) → IsKeeper old → SplitsKeeper s old own other → s ≡ count - 1 → 1 ≤ count → from + count ≤ past → past ≤ 64 → CanDo old job → CanGroup other job from count
seat_can s old own other job from count past i p e o l t c =
    let v = p.views.second_spare in
    record { can = can_seen old other job (split_second s old own other i p) c; some = o; seats = omega arith; within = omega arith }
