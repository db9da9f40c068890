-- Operators computed piece by piece: the squares of a result, their numbers, and what a group of pieces does.
use Rattle.std.specs.Prelude.{◌≡◌, ◌≢◌, ◌<◌, ◌≤◌, ◌+◌, ◌-◌, ◌*◌, ◌/◌, ◌%◌, ◌^◌, ◌&&◌, nat_lt, ℕ, zero, suc, List, slice_index_or, Result, IfOk, Ok, Err, IsOk, IsErr}
use Rattle.rel_model.specs.declared.Quad.{Quad}
use Rattle.rel_model.specs.Cells.{Cells, cells_compose}
use Rattle.rel_model.specs.Trees.{bottom_height, quartered}
use Rattle.rel_model.specs.Equations.{Operator, Transpose, Compose, result_of, side_of}
use Rattle.rel_model.specs.Quads.{Keeper, quad_cells, QuadStands, IsQuad, KeepsQuads, ReadsQuads, quad_room, composed_words}
use Rattle.rel_model.specs.Worker.{Rose}
use Rattle.memo_laws.specs.Looking.{operator_of}
use Rattle.quad_nodes.specs.Finding.{FindsQuad}
use Rattle.fork_quads.specs.declared.pieces.Job.{Job}
use Rattle.fork_quads.specs.Middle.{whole_room, most_halvings}

-- ---- squares and their numbers
-- one of four by its number: north-west, north-east, south-west and south-east
abbrev pub nth : {A : Type 0} → ℕ → A → A → A → A → A
nth zero a b c d = a
nth (suc zero) a b c d = b
nth (suc (suc zero)) a b c d = c
nth (suc (suc (suc k))) a b c d = d

-- the cells of one of the four squares of side m
abbrev pub quarter : ℕ → ℕ → Cells → Cells
quarter m zero f i j = nat_lt i m && (nat_lt j m && f i j)
quarter m (suc zero) f i j = nat_lt i m && (nat_lt j m && f i (m + j))
quarter m (suc (suc zero)) f i j = nat_lt i m && (nat_lt j m && f (m + i) j)
quarter m (suc (suc (suc k))) f i j = nat_lt i m && (nat_lt j m && f (m + i) (m + j))

-- the number of the square, c cuts earlier, in which a square lies
abbrev pub number_before : ℕ → ℕ → ℕ
number_before zero n = n
number_before (suc c) n = number_before c (n / 4)

-- in which of four squares it lies at the cut that c cuts follow
abbrev pub place_at_cut : ℕ → ℕ → ℕ
place_at_cut c n = number_before c n % 4

-- the square with this number, after a set in the square of a height was cut in four this many times
abbrev pub part : ℕ → ℕ → ℕ → Cells → Cells
part height zero n f = f
part height (suc c) n f = part (height - 1) c n (quarter (side_of (height - 1)) (place_at_cut c n) f)

-- how many rows down a quarter begins in a square of twice the side m, by its place
abbrev pub south : ℕ → ℕ → ℕ
south k m = nth k 0 0 m m

-- how many columns across it begins there
abbrev pub east : ℕ → ℕ → ℕ
east k m = nth k 0 m 0 m

-- the first row of the square with this number (for `south`), or its first column (for `east`)
abbrev pub first_at : (ℕ → ℕ → ℕ) → ℕ → ℕ → ℕ → ℕ
first_at by height zero n = 0
first_at by height (suc c) n = by (place_at_cut c n) (side_of (height - 1)) + first_at by (height - 1) c n

-- the square of the composition of two quads with this number
abbrev pub product_of : Keeper → Quad → Quad → ℕ → ℕ → Cells
product_of w a b cuts number = part a.height cuts number
    (cells_compose (side_of a.height) (quad_cells w a) (quad_cells w b))

-- the place of the square of the first operand from which a square of the result is computed, by its place
abbrev pub source : Operator → ℕ → ℕ
source Transpose (suc zero) = 2
source Transpose (suc (suc zero)) = 1
source op k = k

-- ---- rooms
-- how many words an operator on squares of a height places at most, if the middle of a composition may be halved this
-- many times
abbrev pub work_room : Operator → ℕ → ℕ → ℕ
work_room Compose times height = whole_room times height
work_room op times height = quad_room height

-- how many words a square of a composition places at most, after c cuts: two products for each cut, and their unions
abbrev pub product_words : ℕ → ℕ → ℕ → ℕ
product_words times height zero = whole_room times height
product_words times height (suc c) = product_words times (height - 1) c + product_words times (height - 1) c
    + quad_room (height - 1 - c)

-- how many words a piece places at most
abbrev pub piece_room : Operator → ℕ → ℕ → ℕ → ℕ
piece_room Compose times height cuts = product_words times height cuts
piece_room op times height cuts = quad_room (height - cuts)

-- how many words the corners above all pieces place at most
abbrev pub corner_words : ℕ → ℕ
corner_words zero = 0
corner_words (suc c) = corner_words c + corner_words c + (corner_words c + corner_words c) + 3

-- how many words a composition that may be forked places at most, d heights above the blocks: as many as the recursion
-- if its middle is not halved
abbrev pub fork_words : ℕ → ℕ → ℕ
fork_words zero d = composed_words d
fork_words (suc n) zero = 1
fork_words (suc n) (suc d) = 4096 * 8 ^ suc d

-- how many words an operator on squares of a height places at most
abbrev pub fork_room : Operator → ℕ → ℕ → ℕ
fork_room Compose times height = fork_words times (height - bottom_height)
fork_room op times height = quad_room height

-- ---- answers
-- a call that failed has raised the misses, and one that succeeded has not changed them
abbrev pub TellsMisses : {T E : Type 0} → Keeper → Keeper → Result T E → Type 0
TellsMisses old new (Ok x) = new.misses ≡ old.misses
TellsMisses old new (Err e) = Rose old.misses new.misses

-- a quad of this height and set stands
pub record HasSet (w : Keeper) (height : ℕ) (f : Cells) : Type 0 where
  pub quad : Quad
  pub is : IsQuad w height f quad

-- a call succeeds, places no word and counts no miss
pub record IsQuiet {T E : Type 0} (old new : Keeper) (answer : Result T E) : Type 0 where
  pub answered : IsOk answer
  pub reads : ReadsQuads old new

-- ---- groups of pieces
-- the set that a job computes
abbrev pub job_set : Keeper → Job → Cells
job_set w job = result_of (operator_of job.op) (side_of job.a.height) (quad_cells w job.a) (quad_cells w job.b)

-- both operands stand at one height, and the squares of the last cut are no lower than the leaves
pub record CanDo (w : Keeper) (job : Job) : Type 0 where
  pub a_stands : QuadStands w job.a
  pub b_stands : QuadStands w job.b
  pub one_height : job.b.height ≡ job.a.height
  pub deep : bottom_height + job.cuts ≤ job.a.height
  pub few : job.halving.times ≤ most_halvings

-- a job was done: its set is answered, or misses are counted; all that stood is kept, and except for a composition
-- a quad of the set is found if one stood
pub record DidJob {E : Type 0} (old new : Keeper) (job : Job) (result : Result Quad E) : Type 0 where
  pub value : IfOk result (IsQuad new job.a.height (job_set old job))
  pub stood : operator_of job.op ≢ Compose → FindsQuad old new job.a.height (job_set old job) result
  pub keeps : KeepsQuads (fork_room (operator_of job.op) job.halving.times job.a.height) old new
  pub misses : TellsMisses old new result

-- the quads from one number up to another are the squares of a set with these numbers
abbrev pub HavePieces : Keeper → Job → Cells → ℕ → ℕ → List Quad → Type 0
HavePieces w job f from past quads = (n : ℕ) → from ≤ n → n < past → (d : Quad)
    → IsQuad w (job.a.height - job.cuts) (part job.a.height job.cuts n f) (slice_index_or quads n d)

-- quads of these squares stood already
abbrev pub HadPieces : Keeper → Job → ℕ → ℕ → Type 0
HadPieces w job from past = (n : ℕ) → from ≤ n → n < past
    → HasSet w (job.a.height - job.cuts) (part job.a.height job.cuts n (job_set w job))

-- the pieces from one number up to another were computed
pub record DidPieces {E : Type 0} (old new : Keeper) (job : Job) (from past : ℕ) (answer : Result (List Quad) E)
    : Type 0 where
  pub value : IfOk answer (HavePieces new job (job_set old job) from past)
  pub keeps : KeepsQuads ((past - from) * piece_room (operator_of job.op) job.halving.times job.a.height job.cuts)
      old new
  pub misses : TellsMisses old new answer
  pub stood : operator_of job.op ≢ Compose → HadPieces old job from past → IsQuiet old new answer

-- a group of pieces can be computed: they are in the array, and there is a seat for each
pub record CanGroup (w : Keeper) (job : Job) (from count : ℕ) : Type 0 where
  pub can : CanDo w job
  pub some : 1 ≤ count
  pub seats : count ≤ w.view.spare + 1
  pub within : from + count ≤ 64

-- ---- squares put together
-- the number of the last of the pieces of a square
abbrev pub last_piece : ℕ → ℕ → ℕ
last_piece zero n = n
last_piece (suc c) n = last_piece c (4 * n + 2 + 1)

-- the quads of the pieces of a square stand at one height
abbrev pub HoldPieces : Keeper → ℕ → ℕ → ℕ → List Quad → Type 0
HoldPieces w height cuts number quads = (n : ℕ) → number_before cuts n ≡ number → (d : Quad)
    → IsQuad w height (quad_cells w (slice_index_or quads n d)) (slice_index_or quads n d)

-- the set of a square, put together from the quads of its pieces
abbrev pub tiled : Keeper → ℕ → ℕ → ℕ → List Quad → Cells
tiled w height zero number quads = quad_cells w (slice_index_or quads number (record { height = 0; name = 0 }))
tiled w height (suc c) number quads = quartered (side_of (height - 1)) (tiled w (height - 1) c (4 * number) quads)
    (tiled w (height - 1) c (4 * number + 1) quads) (tiled w (height - 1) c (4 * number + 2) quads)
    (tiled w (height - 1) c (4 * number + 2 + 1) quads)

-- a quad is at the place of each of 64 pieces
abbrev pub AreAll : Quad → List Quad → Type 0
AreAll quad quads = (n : ℕ) (d : Quad) → n < 64 → slice_index_or quads n d ≡ quad

-- two lists of quads merged: the first up to a number, and the second from there on
pub record AreMerged (first second : List Quad) (from : ℕ) (all : List Quad) : Type 0 where
  pub before : (n : ℕ) (d : Quad) → n < from → n < 64 → slice_index_or all n d ≡ slice_index_or first n d
  pub after : (n : ℕ) (d : Quad) → from ≤ n → n < 64 → slice_index_or all n d ≡ slice_index_or second n d

-- the quads of two groups as those of one group, if both succeeded
abbrev pub AreBoth : {E : Type 0} → Result (List Quad) E → Result (List Quad) E → ℕ → Result (List Quad) E → Type 0
AreBoth (Ok p) (Ok q) from answer = IfOk answer (AreMerged p q from) × IsOk answer
AreBoth (Ok p) (Err e) from answer = IsErr answer
AreBoth (Err e) second from answer = IsErr answer
