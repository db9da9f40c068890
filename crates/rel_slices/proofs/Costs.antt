-- What a composition of values makes is within the language's cost of a composition, over leaves of 8 by 8.
-- 1. At a height h whose side is at least all sizes, so many lines, each of a tree or of a product of a line, come to
--    small multiples of 4 ^ h and 8 ^ h (`trees_fit`, `trees_in_cube`, `products_fit`).
-- 2. The rooms of the calls on lines are sums of these.
-- 3. Where an operand or the answer is thin the sum is at most 15 * 8 ^ h at the least such height; the cost is
--    16 * 8 ^ h.
use Rattle.std.proofs.Common.{◌≡◌, ◌≤◌, ◌+◌, ◌-◌, ◌*◌, ◌^◌, ◌∙◌, ◌&&◌, max, cond, ltb, leb, zero, suc, ℕ, Bool, true, false, refl, sym, ap, subst, arith, inl, inr}
use Rattle.std.proofs.Math.Nat.{pow-suc, pow-le-pow_right, pow-le-pow_left, mul-le-mul, one-le-pow}
use Rattle.std.proofs.lemmas.Bool.{cases_lt, le-ltb, and_parts, leb-true}
use Rattle.rel_model.specs.Relation.{size_limit}
use Rattle.rel_model.specs.Roots.{relation_room, line_product_room}
use Rattle.rel_model.specs.declared.Rel.{Rel}
use Rattle.rel_model.specs.Worker.{Worker, Stands, height_of, height_of_three, product_room, plain_room}
use Rattle.rel_model.proofs.Rooms.{product_room-most}
use Rattle.rel_model.proofs.Heights.{height_of-least, height_of-covers, power_up}
use Rattle.rel_slices.specs.declared.thin.Value.{Value}
use Rattle.rel_slices.specs.declared.thin.Value.TheVariants.{Whole, Lines}
use Rattle.rel_slices.specs.Thin.{most_lines, ValueStands, value_rows, value_cols, IsLong}
use Rattle.rel_rows.specs.Rooms.{strip_room}
use Rattle.rel_slices.specs.ValueRooms.{assembly_room, pieces_room, complement_room, transpose_room, formed_room, thin_room, residual_room}
use Rattle.rel_slices.specs.Rooms.{line_tree_room, outer_room, coimage_room, meet_room, whole_room, cut_room, meeting_room, settled_room}
use Rattle.rel_slices.proofs.Rooming.{tree_fits, trees_fit, trees_in_cube, products_fit, pieces_fit, complement_fits, strip_fits, strips_fit, few_strips_fit, tree_in_part}

-- ---- at a height
pub some_side : (h : ℕ) → 1 ≤ 2 ^ h
some_side h = one-le-pow h 2 (omega arith)

pub squares_in_cubes : (h : ℕ) → 4 ^ h ≤ 8 ^ h
squares_in_cubes h = pow-le-pow_left {n = 4} {m = 8} (omega arith) h

cubes : (h : ℕ) → 8 ^ h ≡ 2 ^ h * 4 ^ h
cubes zero = refl
cubes (suc h) =
    let p : 8 ^ suc h ≡ 8 ^ h * 8 = pow-suc 8 h in
    let q : 2 ^ suc h ≡ 2 ^ h * 2 = pow-suc 2 h in
    let r : 4 ^ suc h ≡ 4 ^ h * 4 = pow-suc 4 h in
    p ∙ ap (λ (x : ℕ). x * 8) (cubes h) ∙ (let e : 2 ^ h * 4 ^ h * 8 ≡ 2 ^ h * 2 * (4 ^ h * 4) = omega arith in e) ∙ ap (λ (x : ℕ). x * (4 ^ h * 4)) (sym q) ∙ ap (λ (x : ℕ). 2 ^ suc h * x) (sym r)

-- the product of a line
line_product_fits : (k m n h : ℕ) → k ≤ 2 ^ h → m ≤ 2 ^ h → n ≤ 2 ^ h → line_product_room 3 k m n ≤ 3 * 8 ^ (h - 3)
line_product_fits k m n h a b c =
    let u = height_of-least k h a in
    let v = height_of-least m h b in
    let w = height_of-least n h c in
    let p = pow-le-pow_right {n = 8} (omega arith) {i = max 3 (height_of_three k m n) - 3} {j = h - 3} (omega (arith, u, v, w)) in
    omega (arith, p)

-- so many of them
line_products_fit : (count x h : ℕ) → count ≤ most_lines → count ≤ 2 ^ h → x ≤ 3 * 8 ^ (h - 3) → count * x ≤ 3 * 8 ^ h
line_products_fit count x h few a b =
    let m = mul-le-mul {n₁ = count} {n₂ = count} (omega arith) b in
    let p = products_fit count h few a in
    omega (arith, m, p)

pub tree_in_square : (m n h : ℕ) → m ≤ 2 ^ h → n ≤ 2 ^ h → relation_room 3 m n ≤ 2 * 4 ^ h
tree_in_square m n h a b =
    let t = tree_fits m n h a b in
    let p = pow-le-pow_right {n = 4} (omega arith) {i = h - 3} {j = h} (omega arith) in
    omega (arith, t, p)

tree_in_cube : (m n h : ℕ) → m ≤ 2 ^ h → n ≤ 2 ^ h → relation_room 3 m n ≤ 2 * 8 ^ h
tree_in_cube m n h a b = let t = tree_in_square m n h a b in let p = squares_in_cubes h in omega (arith, t, p)

-- so many trees
lines_fit : (count m n h : ℕ) → count ≤ most_lines → count ≤ 2 ^ h → m ≤ 2 ^ h → n ≤ 2 ^ h → count * relation_room 3 m n ≤ 2 * 8 ^ h
lines_fit count m n h few a b c = trees_in_cube count (relation_room 3 m n) h few a (tree_fits m n h b c)

outers_within : (count m n h : ℕ) → count ≤ most_lines → count ≤ 2 ^ h → m ≤ 2 ^ h → n ≤ 2 ^ h → count * outer_room 3 m n ≤ 7 * 8 ^ h
unfolding outer_room
outers_within count m n h few a b c =
    let x = lines_fit count 1 m h few a (some_side h) b in
    let y = line_products_fit count (line_product_room 3 m 1 n) h few a (line_product_fits m 1 n h b (some_side h) c) in
    let z = lines_fit count m n h few a b c in
    let e : count * (relation_room 3 1 m + line_product_room 3 m 1 n + relation_room 3 m n) ≡ count * relation_room 3 1 m + count * line_product_room 3 m 1 n + count * relation_room 3 m n = omega arith in
    omega (arith, x, y, z, e)

coimages_within : (count m n h : ℕ) → count ≤ most_lines → count ≤ 2 ^ h → m ≤ 2 ^ h → n ≤ 2 ^ h → count * coimage_room 3 m n ≤ 7 * 8 ^ h
unfolding coimage_room
coimages_within count m n h few a b c =
    let x = lines_fit count 1 n h few a (some_side h) c in
    let y = line_products_fit count (line_product_room 3 m n 1) h few a (line_product_fits m n 1 h b c (some_side h)) in
    let z = lines_fit count m 1 h few a b (some_side h) in
    let e : count * (relation_room 3 1 n + line_product_room 3 m n 1 + relation_room 3 m 1) ≡ count * relation_room 3 1 n + count * line_product_room 3 m n 1 + count * relation_room 3 m 1 = omega arith in
    omega (arith, x, y, z, e)

images_within : (count m n h : ℕ) → count ≤ most_lines → count ≤ 2 ^ h → m ≤ 2 ^ h → n ≤ 2 ^ h → count * line_product_room 3 1 m n ≤ 3 * 8 ^ h
images_within count m n h few a b c = line_products_fit count (line_product_room 3 1 m n) h few a (line_product_fits 1 m n h (some_side h) b c)

pub cuts_within : (rows cols h : ℕ) → rows ≤ 2 ^ h → cols ≤ 2 ^ h → cut_room 3 rows cols ≤ 4 * 8 ^ h
unfolding cut_room
cuts_within rows cols h a b =
    let x = strips_fit rows (strip_room 3 rows cols) h a (strip_fits rows cols h a b) in
    let p = squares_in_cubes h in
    omega (arith, x, p)

cond_most : (b : Bool) (x y : ℕ) → x ≤ y → cond b x 0 ≤ y
cond_most true x y l = l
cond_most false x y l = omega arith

wholes_within : (turned : Bool) (count other h : ℕ) → count ≤ 2 ^ h → other ≤ 2 ^ h → whole_room 3 turned count other ≤ 6 * 8 ^ h
unfolding whole_room
wholes_within turned count other h a b =
    let x = strips_fit count (strip_room 3 count other) h a (strip_fits count other h a b) in
    let y = cond_most turned (relation_room 3 count other) (2 * 8 ^ h) (tree_in_cube count other h a b) in
    let p = squares_in_cubes h in
    omega (arith, x, y, p)

settled_within : (turned : Bool) (count other h : ℕ) → count ≤ 2 ^ h → other ≤ 2 ^ h → settled_room 3 turned count other ≤ 6 * 8 ^ h
unfolding settled_room
settled_within turned count other h a b = cond_most (ltb other 257) (whole_room 3 turned count other) (6 * 8 ^ h) (wholes_within turned count other h a b)

-- long lines stay as they are
settled_long : (turned : Bool) (count other : ℕ) → 257 ≤ other → settled_room 3 turned count other ≡ 0
unfolding settled_room
settled_long turned count other l = ap (λ (b : Bool). cond b (whole_room 3 turned count other) 0) (le-ltb other 257 l)

-- so many times so many lines
many_lines_within : (k count other h : ℕ) → k ≤ 2 ^ h → count ≤ most_lines → count ≤ 2 ^ h → other ≤ 2 ^ h → 2 * (k * (count * relation_room 3 1 other)) ≤ 7 * 8 ^ h
many_lines_within k count other h a few b c =
    let x = trees_fit count (relation_room 3 1 other) h few b (tree_fits 1 other h (some_side h) c) in
    let m = mul-le-mul {n₁ = k} {n₂ = 2 ^ h} a x in
    let e = cubes h in
    let d : k * (2 * (count * relation_room 3 1 other)) ≡ 2 * (k * (count * relation_room 3 1 other)) = omega arith in
    omega (arith, m, e, d)

picks_within : (k count other h : ℕ) → k ≤ 2 ^ h → count ≤ most_lines → count ≤ 2 ^ h → other ≤ 2 ^ h → k * (count * line_tree_room 3 other) ≤ 4 * 8 ^ h
picks_within k count other h a few b c = let x = many_lines_within k count other h a few b c in omega (arith, x)

meetings_within : (k n h : ℕ) → k ≤ most_lines → n ≤ most_lines → k ≤ 2 ^ h → n ≤ 2 ^ h → meeting_room 3 k n ≤ 13 * 8 ^ h
unfolding meeting_room meet_room
meetings_within k n h few less a b =
    let x = many_lines_within k n n h a less b b in
    let e : k * (n * (relation_room 3 1 n + relation_room 3 1 n)) ≡ 2 * (k * (n * relation_room 3 1 n)) = omega arith in
    let w = wholes_within false k n h a b in
    omega (arith, x, e, w)

-- ---- at the height of three sizes
at_most_thin : (k m n x : ℕ) → k ≤ size_limit → m ≤ size_limit → n ≤ size_limit → ((h : ℕ) → k ≤ 2 ^ h → m ≤ 2 ^ h → n ≤ 2 ^ h → x ≤ 15 * 8 ^ h) → x ≤ thin_room k m n
at_most_thin k m n x a b c f =
    let h : ℕ = height_of_three k m n in
    let u = height_of-covers k a in
    let v = height_of-covers m b in
    let w = height_of-covers n c in
    let p = power_up (height_of k) h (omega arith) in
    let q = power_up (height_of m) h (omega arith) in
    let r = power_up (height_of n) h (omega arith) in
    f h (omega (arith, u, p)) (omega (arith, v, q)) (omega (arith, w, r))

-- which is within the language's cost of a composition
pub thin_product : (k m n : ℕ) → thin_room k m n ≤ product_room k m n
unfolding product_room
thin_product k m n = omega arith

-- lines through a relation, in the form of their sizes
pub images_cost : (least count m n : ℕ) → least ≡ 3 → count ≤ most_lines → count ≤ size_limit → m ≤ size_limit → n ≤ size_limit → count * line_product_room least 1 m n + settled_room least false count n ≤ thin_room count m n
images_cost least count m n e few k l o = subst (λ (x : ℕ). count * line_product_room x 1 m n + settled_room x false count n ≤ thin_room count m n) (sym e)
    (at_most_thin count m n _ k l o (λ h a b c. let x = images_within count m n h few a b c in let y = settled_within false count n h a c in omega (arith, x, y)))

pub coimages_cost : (least m n count : ℕ) → least ≡ 3 → count ≤ most_lines → m ≤ size_limit → n ≤ size_limit → count ≤ size_limit → count * coimage_room least m n + settled_room least true count m ≤ thin_room m n count
coimages_cost least m n count e few k l o = subst (λ (x : ℕ). count * coimage_room x m n + settled_room x true count m ≤ thin_room m n count) (sym e)
    (at_most_thin m n count _ k l o (λ h a b c. let x = coimages_within count m n h few c a b in let y = settled_within true count m h c a in omega (arith, x, y)))

-- few rows times rows, columns times few columns
pub few_cost : (least k m n : ℕ) → least ≡ 3 → m ≤ most_lines → k ≤ size_limit → m ≤ size_limit → n ≤ size_limit → k * (m * line_tree_room least n) ≤ thin_room k m n
few_cost least k m n e few a b c = subst (λ (x : ℕ). k * (m * line_tree_room x n) ≤ thin_room k m n) (sym e)
    (at_most_thin k m n _ a b c (λ h i j l. let x = picks_within k m n h i few j l in omega (arith, x)))

pub turned_few_cost : (least k m n : ℕ) → least ≡ 3 → m ≤ most_lines → k ≤ size_limit → m ≤ size_limit → n ≤ size_limit → relation_room least m n + n * (m * line_tree_room least k) ≤ thin_room k m n
turned_few_cost least k m n e few a b c = subst (λ (x : ℕ). relation_room x m n + n * (m * line_tree_room x k) ≤ thin_room k m n) (sym e)
    (at_most_thin k m n _ a b c (λ h i j l. let x = picks_within n m k h l few j i in let y = tree_in_cube m n h j l in omega (arith, x, y)))

-- more rows times rows, columns times more columns
pub many_cost : (least k m n : ℕ) → least ≡ 3 → m ≤ most_lines → k ≤ size_limit → m ≤ size_limit → n ≤ size_limit → relation_room least k m + cut_room least m k + m * outer_room least k n ≤ thin_room k m n
many_cost least k m n e few a b c = subst (λ (x : ℕ). relation_room x k m + cut_room x m k + m * outer_room x k n ≤ thin_room k m n) (sym e)
    (at_most_thin k m n _ a b c (λ h i j l. let x = tree_in_cube k m h i j in let y = cuts_within m k h j i in let z = outers_within m k n h few j i l in omega (arith, x, y, z)))

pub turned_many_cost : (least k m n : ℕ) → least ≡ 3 → m ≤ most_lines → k ≤ size_limit → m ≤ size_limit → n ≤ size_limit → cut_room least m n + m * outer_room least k n ≤ thin_room k m n
turned_many_cost least k m n e few a b c = subst (λ (x : ℕ). cut_room x m n + m * outer_room x k n ≤ thin_room k m n) (sym e)
    (at_most_thin k m n _ a b c (λ h i j l. let y = cuts_within m n h j l in let z = outers_within m k n h few j i l in omega (arith, y, z)))

-- lines with lines
pub outers_cost : (least k m n : ℕ) → least ≡ 3 → m ≤ most_lines → k ≤ size_limit → m ≤ size_limit → n ≤ size_limit → m * outer_room least k n ≤ thin_room k m n
outers_cost least k m n e few a b c = subst (λ (x : ℕ). m * outer_room x k n ≤ thin_room k m n) (sym e)
    (at_most_thin k m n _ a b c (λ h i j l. let z = outers_within m k n h few j i l in omega (arith, z)))

pub meetings_cost : (least k m n : ℕ) → least ≡ 3 → k ≤ most_lines → n ≤ most_lines → k ≤ size_limit → m ≤ size_limit → n ≤ size_limit → meeting_room least k n ≤ thin_room k m n
meetings_cost least k m n e few less a b c = subst (λ (x : ℕ). meeting_room x k n ≤ thin_room k m n) (sym e)
    (at_most_thin k m n _ a b c (λ h i j l. let z = meetings_within k n h few less i l in omega (arith, z)))

-- two relations that stand whole, of which one is cut
pub cut_cost : (least k m n : ℕ) → least ≡ 3 → k ≤ most_lines → k ≤ size_limit → m ≤ size_limit → n ≤ size_limit → cut_room least k m ≤ thin_room k m n
cut_cost least k m n e few a b c = subst (λ (x : ℕ). cut_room x k m ≤ thin_room k m n) (sym e)
    (at_most_thin k m n _ a b c (λ h i j l. let z = cuts_within k m h i j in omega (arith, z)))

pub cut_images_cost : (least k m n : ℕ) → least ≡ 3 → k ≤ most_lines → 257 ≤ n → k ≤ size_limit → m ≤ size_limit → n ≤ size_limit
    → cut_room least k m + (k * line_product_room least 1 m n + settled_room least false k n) ≤ thin_room k m n
cut_images_cost least k m n e few long a b c = subst (λ (x : ℕ). cut_room x k m + (k * line_product_room x 1 m n + settled_room x false k n) ≤ thin_room k m n) (sym e)
    (at_most_thin k m n _ a b c (λ h i j l. let z = cuts_within k m h i j in let y = images_within k m n h few i j l in let s = settled_long false k n long in omega (arith, z, y, s)))

pub turned_cut_cost : (least k m n : ℕ) → least ≡ 3 → n ≤ most_lines → k ≤ size_limit → m ≤ size_limit → n ≤ size_limit → relation_room least m n + cut_room least n m ≤ thin_room k m n
turned_cut_cost least k m n e few a b c = subst (λ (x : ℕ). relation_room x m n + cut_room x n m ≤ thin_room k m n) (sym e)
    (at_most_thin k m n _ a b c (λ h i j l. let x = tree_in_cube m n h j l in let z = cuts_within n m h l j in omega (arith, x, z)))

pub cut_coimages_cost : (least k m n : ℕ) → least ≡ 3 → n ≤ most_lines → 257 ≤ k → k ≤ size_limit → m ≤ size_limit → n ≤ size_limit
    → relation_room least m n + cut_room least n m + (n * coimage_room least k m + settled_room least true n k) ≤ thin_room k m n
cut_coimages_cost least k m n e few long a b c = subst (λ (x : ℕ). relation_room x m n + cut_room x n m + (n * coimage_room x k m + settled_room x true n k) ≤ thin_room k m n) (sym e)
    (at_most_thin k m n _ a b c (λ h i j l. let x = tree_in_cube m n h j l in let z = cuts_within n m h l j in let y = coimages_within n k m h few l i j in let s = settled_long true n k long in omega (arith, x, z, y, s)))

-- ---- the sizes of a value
pub value_row_limit : (w : Worker) (v : Value) → ((r : Rel) → Stands w r → r.rows ≤ size_limit) → ValueStands w v → value_rows v ≤ size_limit
value_row_limit w (Whole r) f s = f r s
value_row_limit w (Lines t) f s = by t.turned t.count t.other s.few s.limit
  where
    by : (b : Bool) (c o : ℕ) → c ≤ most_lines → o ≤ size_limit → cond b o c ≤ size_limit
    by true c o h l = l
    by false c o h l = omega (arith, h)

pub value_col_limit : (w : Worker) (v : Value) → ((r : Rel) → Stands w r → r.cols ≤ size_limit) → ValueStands w v → value_cols v ≤ size_limit
value_col_limit w (Whole r) f s = f r s
value_col_limit w (Lines t) f s = by t.turned t.count t.other s.few s.limit
  where
    by : (b : Bool) (c o : ℕ) → c ≤ most_lines → o ≤ size_limit → cond b c o ≤ size_limit
    by true c o h l = omega (arith, h)
    by false c o h l = l

-- each of three sizes is within the square of their height
pub first_covered : (k m n : ℕ) → k ≤ size_limit → k ≤ 2 ^ height_of_three k m n
first_covered k m n a = let u = height_of-covers k a in let p = power_up (height_of k) (height_of_three k m n) (omega arith) in omega (arith, u, p)

pub middle_covered : (k m n : ℕ) → m ≤ size_limit → m ≤ 2 ^ height_of_three k m n
middle_covered k m n a = let u = height_of-covers m a in let p = power_up (height_of m) (height_of_three k m n) (omega arith) in omega (arith, u, p)

pub last_covered : (k m n : ℕ) → n ≤ size_limit → n ≤ 2 ^ height_of_three k m n
last_covered k m n a = let u = height_of-covers n a in let p = power_up (height_of n) (height_of_three k m n) (omega arith) in omega (arith, u, p)

-- ---- the parts of a derivation, at a height whose side is at least both sizes
pub pieces_part : (least h : ℕ) (w : Worker) (v : Value) → least ≡ 3 → ValueStands w v → value_rows v ≤ 2 ^ h → value_cols v ≤ 2 ^ h → pieces_room least v ≤ 4 * 8 ^ h
pieces_part least h w v e s a b = subst (λ (x : ℕ). pieces_room x v ≤ 4 * 8 ^ h) (sym e) (let p = pieces_fit w v h s a b in let q = squares_in_cubes h in omega (arith, p, q))

pub complement_part : (least h : ℕ) (w : Worker) (v : Value) → least ≡ 3 → ValueStands w v → value_rows v ≤ 2 ^ h → value_cols v ≤ 2 ^ h → complement_room least v ≤ 4 * 8 ^ h
complement_part least h w v e s a b = subst (λ (x : ℕ). complement_room x v ≤ 4 * 8 ^ h) (sym e) (let p = complement_fits w v h s a b in let q = squares_in_cubes h in omega (arith, p, q))

pub transpose_part : (least h : ℕ) (v : Value) → least ≡ 3 → value_rows v ≤ 2 ^ h → value_cols v ≤ 2 ^ h → transpose_room least v ≤ 2 * 8 ^ h
transpose_part least h (Whole r) e a b = subst (λ (x : ℕ). relation_room x r.rows r.cols ≤ 2 * 8 ^ h) (sym e) (tree_in_cube r.rows r.cols h a b)
transpose_part least h (Lines s) e a b = omega arith

pub tree_part : (least h m n : ℕ) → least ≡ 3 → m ≤ 2 ^ h → n ≤ 2 ^ h → relation_room least m n ≤ 2 * 8 ^ h
tree_part least h m n e a b = subst (λ (x : ℕ). relation_room x m n ≤ 2 * 8 ^ h) (sym e) (tree_in_cube m n h a b)

pub product_part : (h k m n : ℕ) → k ≤ 2 ^ h → m ≤ 2 ^ h → n ≤ 2 ^ h → product_room k m n ≤ 16 * 8 ^ h
product_part h k m n a b c = product_room-most k m n h (height_of-least k h a) (height_of-least m h b) (height_of-least n h c)

pub residual_room-most : (k m n h : ℕ) → height_of k ≤ h → height_of m ≤ h → height_of n ≤ h → residual_room k m n ≤ 26 * 8 ^ h
residual_room-most k m n h a b c =
    let p = pow-le-pow_right {n = 8} (omega arith) {i = height_of_three k m n} {j = h} (omega (arith, a, b, c)) in
    omega (arith, p)

-- ---- from one form to the other, within a quarter of the cells of the least square
-- more than 256 elements want a square of at least that height
height_long : (n : ℕ) → n ≤ size_limit → 257 ≤ n → 9 ≤ height_of n
height_long n l long = elim (cases_lt (height_of n) 9) [
  | inl k ↦ (let c = height_of-covers n l in let p = power_up (height_of n) 8 (omega (arith, k)) in absurd (omega (arith, c, p, long)))
  | inr k ↦ k
]

-- both sizes are within the square of the larger height
both_covered : (m n : ℕ) → m ≤ size_limit → m ≤ 2 ^ max (height_of m) (height_of n)
both_covered m n a = let u = height_of-covers m a in let p = power_up (height_of m) (max (height_of m) (height_of n)) (omega arith) in omega (arith, u, p)

other_covered : (m n : ℕ) → n ≤ size_limit → n ≤ 2 ^ max (height_of m) (height_of n)
other_covered m n a = let u = height_of-covers n a in let p = power_up (height_of n) (max (height_of m) (height_of n)) (omega arith) in omega (arith, u, p)

-- few rows, at a height
few_cut : (m n h : ℕ) → m ≤ most_lines → 9 ≤ h → m ≤ 2 ^ h → n ≤ 2 ^ h → 8 * cut_room 3 m n ≤ 4 ^ h
unfolding cut_room
few_cut m n h few high a b = few_strips_fit m (strip_room 3 m n) h few high (strip_fits m n h a b)

of_three : (a b : Bool) (x y z : ℕ) → (a ≡ true → 4 * x ≤ z) → (b ≡ true → 4 * y ≤ z) → 4 * cond a x (cond b y 0) ≤ z
of_three true b x y z f g = f refl
of_three false true x y z f g = g refl
of_three false false x y z f g = omega arith

pub formed_room-square : (m n : ℕ) → m ≤ size_limit → n ≤ size_limit → 4 * formed_room 3 m n ≤ 4 ^ max (height_of m) (height_of n)
formed_room-square m n a b =
    let h : ℕ = max (height_of m) (height_of n) in
    let c = both_covered m n a in
    let d = other_covered m n b in
    of_three (leb m most_lines && leb 257 n) (leb n most_lines && leb 257 m) (cut_room 3 m n) (relation_room 3 m n + cut_room 3 n m) (4 ^ h)
    (λ z. let f = and_parts (leb m most_lines) (leb 257 n) z in let g = height_long n b (leb-true 257 n f.1) in let q = few_cut m n h (leb-true m most_lines f.0) (omega (arith, g)) c d in omega (arith, q))
    (λ z. let f = and_parts (leb n most_lines) (leb 257 m) z in let g = height_long m a (leb-true 257 m f.1) in let q = few_cut n m h (leb-true n most_lines f.0) (omega (arith, g)) d c in let t = tree_in_part m n h (omega (arith, g)) c d in omega (arith, q, t))

-- long lines made whole
whole_fits : (turned : Bool) (count other h : ℕ) → count ≤ most_lines → 9 ≤ h → count ≤ 2 ^ h → other ≤ 2 ^ h → 4 * whole_room 3 turned count other ≤ 4 ^ h
unfolding whole_room
whole_fits turned count other h few high a b =
    let x = few_strips_fit count (strip_room 3 count other) h few high (strip_fits count other h a b) in
    let t = tree_in_part count other h (omega (arith, high)) a b in
    let y = cond_most turned (relation_room 3 count other) (relation_room 3 count other) (omega arith) in
    omega (arith, x, t, y)

pub whole_room-square : (turned : Bool) (count other : ℕ) → count ≤ most_lines → 257 ≤ other → other ≤ size_limit
    → 4 * whole_room 3 turned count other ≤ 4 ^ max (height_of (cond turned other count)) (height_of (cond turned count other))
whole_room-square true count other few long l =
    let g = height_long other l long in
    whole_fits true count other (max (height_of other) (height_of count)) few (omega (arith, g)) (other_covered other count (omega (arith, few))) (both_covered other count l)
whole_room-square false count other few long l =
    let g = height_long other l long in
    whole_fits false count other (max (height_of count) (height_of other)) few (omega (arith, g)) (both_covered count other (omega (arith, few))) (other_covered count other l)

pub assembly_room-square : (w : Worker) (v : Value) → ValueStands w v → IsLong v → 4 * assembly_room 3 v ≤ 4 ^ max (height_of (value_rows v)) (height_of (value_cols v))
assembly_room-square w (Whole r) s l = omega arith
assembly_room-square w (Lines t) s l = whole_room-square t.turned t.count t.other s.few l s.limit

-- ---- operators, at the height of two sizes
at_most_plain : (m n x : ℕ) → m ≤ size_limit → n ≤ size_limit → ((h : ℕ) → m ≤ 2 ^ h → n ≤ 2 ^ h → x ≤ 4 * 4 ^ h) → x ≤ plain_room m n
unfolding plain_room
at_most_plain m n x a b f =
    let h : ℕ = max (height_of m) (height_of n) in
    let u = height_of-covers m a in
    let v = height_of-covers n b in
    let p = power_up (height_of m) h (omega arith) in
    let q = power_up (height_of n) h (omega arith) in
    let r = f h (omega (arith, u, p)) (omega (arith, v, q)) in
    omega (arith, r)

pub pieces_within : (w : Worker) (v : Value) → ValueStands w v → value_rows v ≤ size_limit → value_cols v ≤ size_limit → pieces_room 3 v ≤ plain_room (value_rows v) (value_cols v)
pieces_within w v s a b = at_most_plain (value_rows v) (value_cols v) (pieces_room 3 v) a b (λ h i j. let p = pieces_fit w v h s i j in omega (arith, p))

pub complement_within : (w : Worker) (v : Value) → ValueStands w v → value_rows v ≤ size_limit → value_cols v ≤ size_limit → complement_room 3 v ≤ plain_room (value_rows v) (value_cols v)
complement_within w v s a b = at_most_plain (value_rows v) (value_cols v) (complement_room 3 v) a b (λ h i j. complement_fits w v h s i j)

pub transpose_within : (w : Worker) (v : Value) → ValueStands w v → value_rows v ≤ size_limit → value_cols v ≤ size_limit → transpose_room 3 v ≤ plain_room (value_rows v) (value_cols v)
transpose_within w (Whole r) s a b = at_most_plain r.rows r.cols (relation_room 3 r.rows r.cols) a b (λ h i j. let t = tree_in_square r.rows r.cols h i j in omega (arith, t))
transpose_within w (Lines t) s a b = omega arith
