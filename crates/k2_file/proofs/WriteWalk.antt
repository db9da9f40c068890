-- The walk over the levels: what the squares of a level add, one square more, and one level more (Brisaboa, Ladra and Navarro, for the order of the bits).
-- 1. A quarter is shown by a square or by none, so whether there is one is its bit.
-- 2. A level's bits and next squares are those of its squares, one behind another.
-- 3. At each level the bits so far and those still to come are all the bits.
use Rattle.std.proofs.Common.{◌≡◌, ◌<◌, ◌≤◌, ◌+◌, ◌-◌, ◌^◌, cond, zero, suc, ℕ, Bool, List, [], ◌∷◌, ◌++◌, length, get_or, take, map, filter, refl, sym, ap, subst, ◌∙◌, arith, append_assoc, Option, Some, None, Result, Ok, Err}
use Rattle.std.specs.Prelude.{is_some, OnOk}
use Rattle.std.specs.List.{flat_map, AllByRecursion}
use Rattle.std.proofs.Math.Seq.{take-suc}
use Rattle.std.proofs.lemmas.List.{append-nil}
use Rattle.std.proofs.lemmas.List.Concat.{flat_map-append}
use Rattle.std.proofs.lemmas.List.Elements.{filter-append}
use Rattle.rel_model.specs.Cells.{Cells}
use Rattle.rel_model.specs.Relation.{Relation}
use Rattle.rel_model.specs.Worker.{Worker, Keeps}
use Rattle.run_model.specs.Files.{file_height, tree_part, cell_part}
use Rattle.k2_file.specs.declared.squares.Square.{Square}
use Rattle.k2_file.specs.Squares.{piece, some_cell, square_cells, IsSquare, Shows, ShowsFour}
use Rattle.k2_file.specs.Levels.{quarter_bits, quarters_met, level_bits, next_level, upper_bits, lowest_bits, first_level, AreSquares, Adds, list_of}
use Rattle.k2_file.proofs.WriteLevels.{map-append, tree-levels, cell-levels}
use Rattle.k2_file.proofs.WriteSquares.{square-stays, square_cells-stay}

-- ---- lists of squares
all-append : (P : Square → Type 0) (xs ys : List Square) → AllByRecursion P xs → AllByRecursion P ys → AllByRecursion P (xs ++ ys)
all-append P [] ys a b = b
all-append P (x ∷ xs) ys a b = (a.0, all-append P xs ys a.1 b)

pub all-at : (P : Square → Type 0) (xs : List Square) (i : ℕ) (d : Square) → AllByRecursion P xs → i < length xs → P (get_or xs i d)
all-at P [] i d a l = absurd (omega (arith, l))
all-at P (x ∷ xs) zero d a l = a.0
all-at P (x ∷ xs) (suc i) d a l = all-at P xs i d a.1 (omega (arith, l))

pub all-stay : (a b : Worker) (least h : ℕ) (xs : List Square) → Keeps a b → AllByRecursion (IsSquare a least h) xs → AllByRecursion (IsSquare b least h) xs
all-stay a b least h [] k s = s
all-stay a b least h (x ∷ xs) k s = (square-stays a b least h x k s.0, all-stay a b least h xs k s.1)

pub cells-stay : (a b : Worker) (least h m : ℕ) (xs : List Square) → Keeps a b → AllByRecursion (IsSquare a least h) xs → map (square_cells b m) xs ≡ map (square_cells a m) xs
cells-stay a b least h m [] k s = refl
cells-stay a b least h m (x ∷ xs) k s =
    ap (λ (f : Cells). f ∷ map (square_cells b m) xs) (square_cells-stay a b least h m x k s.0) ∙ ap (λ fs. square_cells a m x ∷ fs) (cells-stay a b least h m xs k s.1)

-- ---- the quarters of a square
pub shown-bit : (w : Worker) (least h : ℕ) (f : Cells) (o : Option Square) → Shows w least h f o → is_some o ≡ some_cell (2 ^ h) f
shown-bit w least h f None s = sym s
shown-bit w least h f (Some x) s = sym s.some

shown-sound : (w : Worker) (least h : ℕ) (f : Cells) (o : Option Square) → Shows w least h f o → AllByRecursion (IsSquare w least h) (list_of o)
shown-sound w least h f None s = tt
shown-sound w least h f (Some x) s = (s.square, tt)

shown-cells : (w : Worker) (least h : ℕ) (f : Cells) (o : Option Square) → Shows w least h f o → map (square_cells w (2 ^ h)) (list_of o) ≡ filter (some_cell (2 ^ h)) (f ∷ [])
shown-cells w least h f None s = sym (ap (λ b. cond b (f ∷ []) []) s)
shown-cells w least h f (Some x) s = ap (λ g. g ∷ []) s.means ∙ sym (ap (λ b. cond b (f ∷ []) []) s.some)

four_bits : (a b c d e f g h : Bool) → a ≡ e → b ≡ f → c ≡ g → d ≡ h → a ∷ b ∷ c ∷ d ∷ [] ≡ e ∷ f ∷ g ∷ h ∷ []
four_bits a b c d e f g h p q r s = cc

pub four-bits : (w : Worker) (least h : ℕ) (f : Cells) (four : Option Square × Option Square × Option Square × Option Square) → ShowsFour w least h f four
    → is_some four.0 ∷ is_some four.1 ∷ is_some four.2 ∷ is_some four.3 ∷ [] ≡ quarter_bits (2 ^ h) f
four-bits w least h f four s =
    four_bits _ _ _ _ _ _ _ _ (shown-bit w least h _ four.0 s.nw) (shown-bit w least h _ four.1 s.ne) (shown-bit w least h _ four.2 s.sw) (shown-bit w least h _ four.3 s.se)

-- the squares of four quarters
abbrev four_list : Option Square × Option Square × Option Square × Option Square → List Square
four_list four = list_of four.0 ++ (list_of four.1 ++ (list_of four.2 ++ list_of four.3))

four-sound : (w : Worker) (least h : ℕ) (f : Cells) (four : Option Square × Option Square × Option Square × Option Square) → ShowsFour w least h f four → AllByRecursion (IsSquare w least h) (four_list four)
four-sound w least h f four s =
    let P : Square → Type 0 = IsSquare w least h in
    all-append P (list_of four.0) _ (shown-sound w least h _ four.0 s.nw)
    (all-append P (list_of four.1) _ (shown-sound w least h _ four.1 s.ne)
    (all-append P (list_of four.2) _ (shown-sound w least h _ four.2 s.sw) (shown-sound w least h _ four.3 s.se)))

joined : (a b c d x y z v : List Cells) → a ≡ x → b ≡ y → c ≡ z → d ≡ v → a ++ (b ++ (c ++ d)) ≡ x ++ (y ++ (z ++ v))
joined a b c d x y z v p q r s = cc

-- the squares that show four quarters have the sets of those quarters that have a cell, in their order
four-cells : (w : Worker) (least h : ℕ) (f : Cells) (four : Option Square × Option Square × Option Square × Option Square) → ShowsFour w least h f four → map (square_cells w (2 ^ h)) (four_list four) ≡ quarters_met (2 ^ h) f
four-cells w least h f four s =
    let m : ℕ = 2 ^ h in
    let F : Square → Cells = square_cells w m in
    let t : Cells → Bool = some_cell m in
    let A : Cells = piece m 0 0 f in
    let B : Cells = piece m 0 m f in
    let C : Cells = piece m m 0 f in
    let D : Cells = piece m m m f in
    map-append F (list_of four.0) (list_of four.1 ++ (list_of four.2 ++ list_of four.3))
    ∙ ap (λ zs. map F (list_of four.0) ++ zs) (map-append F (list_of four.1) (list_of four.2 ++ list_of four.3))
    ∙ ap (λ zs. map F (list_of four.0) ++ (map F (list_of four.1) ++ zs)) (map-append F (list_of four.2) (list_of four.3))
    ∙ joined _ _ _ _ (filter t (A ∷ [])) (filter t (B ∷ [])) (filter t (C ∷ [])) (filter t (D ∷ []))
    (shown-cells w least h A four.0 s.nw) (shown-cells w least h B four.1 s.ne) (shown-cells w least h C four.2 s.sw) (shown-cells w least h D four.3 s.se)
    ∙ sym (filter-append t (A ∷ []) (B ∷ C ∷ D ∷ [])
    ∙ ap (λ zs. filter t (A ∷ []) ++ zs) (filter-append t (B ∷ []) (C ∷ D ∷ []) ∙ ap (λ zs. filter t (B ∷ []) ++ zs) (filter-append t (C ∷ []) (D ∷ []))))

-- four squares, two behind two others
squares-added : (old n1 n2 a b c d : List Square) → n1 ≡ old ++ (a ++ b) → n2 ≡ n1 ++ (c ++ d) → n2 ≡ old ++ (a ++ (b ++ (c ++ d)))
squares-added old n1 n2 a b c d p q = q ∙ ap (λ zs. zs ++ (c ++ d)) p ∙ append_assoc old (a ++ b) (c ++ d) ∙ ap (λ zs. old ++ zs) (append_assoc a b (c ++ d))

-- the squares that show four quarters, two behind two, add the quarters that have a cell: the squares before them keep
-- their sets
four-added : (old new : Worker) (least h : ℕ) (f : Cells) (four : Option Square × Option Square × Option Square × Option Square) (l n1 n2 : List Square)
    → Keeps old new → AllByRecursion (IsSquare old least h) l → ShowsFour new least h f four
    → n1 ≡ l ++ (list_of four.0 ++ list_of four.1) → n2 ≡ n1 ++ (list_of four.2 ++ list_of four.3)
    → Adds old new least h l n2 (quarters_met (2 ^ h) f)
four-added old new least h f four l n1 n2 k a s p q =
    let e = squares-added l n1 n2 (list_of four.0) (list_of four.1) (list_of four.2) (list_of four.3) p q in
    let m : ℕ = 2 ^ h in
    record {
      sound = subst (AllByRecursion (IsSquare new least h)) (sym e) (all-append (IsSquare new least h) l (four_list four) (all-stay old new least h l k a) (four-sound new least h f four s));
      means = ap (map (square_cells new m)) e ∙ map-append (square_cells new m) l (four_list four)
          ∙ ap (λ zs. zs ++ map (square_cells new m) (four_list four)) (cells-stay old new least h m l k a)
          ∙ ap (λ zs. map (square_cells old m) l ++ zs) (four-cells new least h f four s);
    }

-- the last two of them, where they are added
pub four-added-where : {T E : Type 0} (r : Result T E) (old new : Worker) (least h : ℕ) (f : Cells) (four : Option Square × Option Square × Option Square × Option Square) (l n1 n2 : List Square)
    → Keeps old new → AllByRecursion (IsSquare old least h) l → ShowsFour new least h f four
    → n1 ≡ l ++ (list_of four.0 ++ list_of four.1) → OnOk r (n2 ≡ n1 ++ (list_of four.2 ++ list_of four.3))
    → OnOk r (Adds old new least h l n2 (quarters_met (2 ^ h) f))
four-added-where (Ok x) old new least h f four l n1 n2 k a s p q = four-added old new least h f four l n1 n2 k a s p q
four-added-where (Err e) old new least h f four l n1 n2 k a s p q = tt

-- ---- one square more of a level
flat-more : {X : Type 0} (g : Cells → List X) (F : Square → Cells) (xs : List Square) (i : ℕ) (d : Square) → i < length xs → flat_map g (map F (take (i + 1) xs)) ≡ flat_map g (map F (take i xs)) ++ g (F (get_or xs i d))
flat-more g F xs i d l =
    let e : i + 1 ≡ suc i = omega arith in
    ap (λ (n : ℕ). flat_map g (map F (take n xs))) e ∙ ap (λ ys. flat_map g (map F ys)) (take-suc xs i d l)
    ∙ ap (flat_map g) (map-append F (take i xs) (get_or xs i d ∷ [])) ∙ flat_map-append g (map F (take i xs)) (F (get_or xs i d) ∷ [])
    ∙ ap (λ ys. flat_map g (map F (take i xs)) ++ ys) (append-nil (g (F (get_or xs i d))))

-- before the first square
pub none-yet : (w : Worker) (least h : ℕ) (now : List Square) → now ≡ [] → AreSquares w least h now []
none-yet w least h now e = subst (λ zs. AreSquares w least h zs []) (sym e) (record { sound = tt; means = refl })

-- what stands at a place, whatever stands for it where there is none
pub same-at : (xs ys : List Square) (i : ℕ) (d : Square) → ys ≡ xs → i < length xs → get_or ys i d ≡ get_or xs i (get_or ys i d)
same-at xs ys i d e l = ap (λ zs. get_or zs i d) e ∙ any-default xs i d (get_or ys i d) l
  where
    any-default : (zs : List Square) (k : ℕ) (a b : Square) → k < length zs → get_or zs k a ≡ get_or zs k b
    any-default [] k a b h = absurd (omega (arith, h))
    any-default (z ∷ zs) zero a b h = refl
    any-default (z ∷ zs) (suc k) a b h = any-default zs k a b (omega (arith, h))

-- its bits
pub level-more : (a b : Worker) (least h m : ℕ) (xs : List Square) (i : ℕ) (s : Square) (old now new : List Bool) → Keeps a b → AllByRecursion (IsSquare a least (h + 1)) xs → i < length xs → s ≡ get_or xs i s
    → now ≡ old ++ level_bits m (map (square_cells a (2 ^ (h + 1))) (take i xs)) → new ≡ now ++ quarter_bits m (square_cells b (2 ^ (h + 1)) s)
    → new ≡ old ++ level_bits m (map (square_cells a (2 ^ (h + 1))) (take (i + 1) xs))
level-more a b least h m xs i s old now new k all l e x y =
    let F : Square → Cells = square_cells a (2 ^ (h + 1)) in
    let sound : IsSquare a least (h + 1) s = subst (IsSquare a least (h + 1)) (sym e) (all-at (IsSquare a least (h + 1)) xs i s all l) in
    let same : square_cells b (2 ^ (h + 1)) s ≡ F (get_or xs i s) = square_cells-stay a b least (h + 1) (2 ^ (h + 1)) s k sound ∙ ap F e in
    y ∙ ap (λ zs. zs ++ quarter_bits m (square_cells b (2 ^ (h + 1)) s)) x ∙ append_assoc old (level_bits m (map F (take i xs))) (quarter_bits m (square_cells b (2 ^ (h + 1)) s))
    ∙ ap (λ zs. old ++ zs) (ap (λ (f : Cells). level_bits m (map F (take i xs)) ++ quarter_bits m f) same ∙ sym (flat-more (quarter_bits m) F xs i s l))

-- it stands when its turn comes
pub square-now : (a b : Worker) (least h : ℕ) (xs : List Square) (i : ℕ) (s : Square) → Keeps a b → AllByRecursion (IsSquare a least h) xs → i < length xs → s ≡ get_or xs i s → IsSquare b least h s
square-now a b least h xs i s k all l e = square-stays a b least h s k (subst (IsSquare a least h) (sym e) (all-at (IsSquare a least h) xs i s all l))

-- its quarters
pub next-more : (a b c : Worker) (least h : ℕ) (xs : List Square) (i : ℕ) (s : Square) (now new : List Square) → Keeps a b → AllByRecursion (IsSquare a least (h + 1)) xs → i < length xs → s ≡ get_or xs i s
    → AreSquares b least h now (next_level (2 ^ h) (map (square_cells a (2 ^ (h + 1))) (take i xs))) → Adds b c least h now new (quarters_met (2 ^ h) (square_cells b (2 ^ (h + 1)) s))
    → AreSquares c least h new (next_level (2 ^ h) (map (square_cells a (2 ^ (h + 1))) (take (i + 1) xs)))
next-more a b c least h xs i s now new k all l e x y =
    let F : Square → Cells = square_cells a (2 ^ (h + 1)) in
    let m : ℕ = 2 ^ h in
    let sound : IsSquare a least (h + 1) s = subst (IsSquare a least (h + 1)) (sym e) (all-at (IsSquare a least (h + 1)) xs i s all l) in
    let same : square_cells b (2 ^ (h + 1)) s ≡ F (get_or xs i s) = square_cells-stay a b least (h + 1) (2 ^ (h + 1)) s k sound ∙ ap F e in
    record {
      sound = y.sound;
      means = y.means ∙ ap (λ zs. zs ++ quarters_met m (square_cells b (2 ^ (h + 1)) s)) x.means
          ∙ ap (λ (f : Cells). next_level m (map F (take i xs)) ++ quarters_met m f) same ∙ sym (flat-more (quarters_met m) F xs i s l);
    }

-- ---- one level more
-- the walk has come to a level: its squares stand, the bits of the levels above it and those still to come are all bits above the cells, and the cells are still to come
pub record Walk (w : Worker) (least level : ℕ) (r : Relation) (squares : List Square) (bits : List Bool) : Type 0 where
  pub sound : AllByRecursion (IsSquare w least (level + 1)) squares
  pub tree : bits ++ upper_bits level (map (square_cells w (2 ^ (level + 1))) squares) ≡ tree_part r
  pub cells : lowest_bits level (map (square_cells w (2 ^ (level + 1))) squares) ≡ cell_part r

pub walk-start : (w : Worker) (least h : ℕ) (r : Relation) (squares : List Square) → h ≡ file_height r.rows r.cols → 1 ≤ h → AreSquares w least h squares (first_level h r) → Walk w least (h - 1) r squares []
walk-start w least h r squares e l s =
    let same : h - 1 + 1 ≡ h = omega arith in
    let means : map (square_cells w (2 ^ (h - 1 + 1))) squares ≡ first_level h r = ap (λ (n : ℕ). map (square_cells w (2 ^ n)) squares) same ∙ s.means in
    record {
      sound = subst (λ (n : ℕ). AllByRecursion (IsSquare w least n) squares) (sym same) s.sound;
      tree = ap (upper_bits (h - 1)) means ∙ sym (tree-levels r h e l);
      cells = ap (lowest_bits (h - 1)) means ∙ sym (cell-levels r h e l);
    }

upper-next : (l k : ℕ) (fs : List Cells) → l ≡ suc k → upper_bits l fs ≡ level_bits (2 ^ l) fs ++ upper_bits k (next_level (2 ^ l) fs)
upper-next l k fs e = ap (λ (n : ℕ). upper_bits n fs) e ∙ ap (λ (n : ℕ). level_bits (2 ^ n) fs ++ upper_bits k (next_level (2 ^ n) fs)) (sym e)

lowest-next : (l k : ℕ) (fs : List Cells) → l ≡ suc k → lowest_bits l fs ≡ lowest_bits k (next_level (2 ^ l) fs)
lowest-next l k fs e = ap (λ (n : ℕ). lowest_bits n fs) e ∙ ap (λ (n : ℕ). lowest_bits k (next_level (2 ^ n) fs)) (sym e)

-- one level more: its bits come behind those so far, and those to come are the bits below its quarters with a cell
pub walk-next : (old new : Worker) (least l : ℕ) (r : Relation) (before after : List Square) (bits more : List Bool) → 0 < l → Walk old least l r before bits
    → AreSquares new least l after (next_level (2 ^ l) (map (square_cells old (2 ^ (l + 1))) before)) → more ≡ bits ++ level_bits (2 ^ l) (map (square_cells old (2 ^ (l + 1))) before)
    → Walk new least (l - 1) r after more
walk-next old new least l r before after bits more p w s e =
    let fs : List Cells = map (square_cells old (2 ^ (l + 1))) before in
    let k : ℕ = l - 1 in
    let up : l ≡ suc k = omega arith in
    let same : l - 1 + 1 ≡ l = omega arith in
    let means : map (square_cells new (2 ^ (l - 1 + 1))) after ≡ next_level (2 ^ l) fs = ap (λ (n : ℕ). map (square_cells new (2 ^ n)) after) same ∙ s.means in
    record {
      sound = subst (λ (n : ℕ). AllByRecursion (IsSquare new least n) after) (sym same) s.sound;
      tree = ap (λ zs. more ++ upper_bits k zs) means ∙ ap (λ zs. zs ++ upper_bits k (next_level (2 ^ l) fs)) e
          ∙ append_assoc bits (level_bits (2 ^ l) fs) (upper_bits k (next_level (2 ^ l) fs)) ∙ ap (λ zs. bits ++ zs) (sym (upper-next l k fs up)) ∙ w.tree;
      cells = ap (lowest_bits k) means ∙ sym (lowest-next l k fs up) ∙ w.cells;
    }

pub walk-sound : (w : Worker) (least l : ℕ) (r : Relation) (squares : List Square) (bits : List Bool) → l ≡ 0 → Walk w least l r squares bits → AllByRecursion (IsSquare w least 1) squares
walk-sound w least l r squares bits e x = let same : l + 1 ≡ 1 = omega (arith, e) in subst (λ (n : ℕ). AllByRecursion (IsSquare w least n) squares) same x.sound

pub walk-tree : (w : Worker) (least l : ℕ) (r : Relation) (squares : List Square) (bits : List Bool) → l ≡ 0 → Walk w least l r squares bits → bits ≡ tree_part r
walk-tree w least l r squares bits e x =
    sym (append-nil bits) ∙ ap (λ (n : ℕ). bits ++ upper_bits n (map (square_cells w (2 ^ (l + 1))) squares)) (sym e) ∙ x.tree

pub walk-cells : (w : Worker) (least l : ℕ) (r : Relation) (squares : List Square) (bits more : List Bool) → l ≡ 0 → Walk w least l r squares bits → more ≡ [] ++ level_bits 1 (map (square_cells w 2) squares) → more ≡ cell_part r
walk-cells w least l r squares bits more e x y =
    let same : l + 1 ≡ 1 = omega (arith, e) in
    y ∙ ap (λ (n : ℕ). level_bits 1 (map (square_cells w (2 ^ n)) squares)) (sym same) ∙ ap (λ (n : ℕ). lowest_bits n (map (square_cells w (2 ^ (l + 1))) squares)) (sym e) ∙ x.cells
