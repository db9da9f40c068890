-- A square relation as large as its tree stands where its root does, since no cell of its tree lies outside.
use Rattle.std.proofs.Common.{◌≡◌, ℕ, true, List, Result, Ok, Err, IfOk, sym, subst, arith, ◌-◌, ◌^◌, ◌∙◌, length, take, ap}
use Rattle.std.proofs.lemmas.Bool.{le-leb, and_from}
use Rattle.rel_model.specs.declared.Rel.{Rel}
use Rattle.rel_model.specs.Relation.{size_limit}
use Rattle.rel_model.specs.Cells.{Cells}
use Rattle.rel_model.specs.Trees.{cells, stands}
use Rattle.rel_model.specs.Equations.{IsSoundTable, depth_of, side_of, memo_slots, node_words}
use Rattle.rel_model.specs.Quarters.{LiesWithin}
use Rattle.rel_model.specs.Roots.{tree_height, stands_in}
use Rattle.rel_model.proofs.TreeLaws.{Within}
use Rattle.rel_model.proofs.Rooting.{lies_within-from, square_within}
use Rattle.rel_model.specs.Views.{View}
use Rattle.rv_compact.specs.Compacted.{IsTable, AllStand, nodes_of}
use Rattle.test_compact.specs.Sides.{IsSide}

square_stands : (words : List ℕ) (n root depth : ℕ) → IsSide n depth → stands words depth root ≡ true → stands_in words (record { rows = n; cols = n; root = root }) ≡ true
unfolding stands_in
square_stands words n root depth i s =
    let h : ℕ = tree_height n n in
    let f : Cells = cells words (depth_of h) root in
    let w : Within (side_of h) (side_of h) f = square_within words h root in
    let inside : LiesWithin n n f = subst (λ (m : ℕ). LiesWithin m m f) i.whole (record { row = w.row; col = w.col }) in
    and_from _ _ (and_from _ _ (le-leb n size_limit i.limit) (le-leb n size_limit i.limit))
    (and_from _ _ (subst (λ (k : ℕ). stands words k root ≡ true) (sym i.deep) s) (lies_within-from (side_of h) n n f inside))

-- a relation whose rows are as many as its columns
pub stands_where_root : (words : List ℕ) (rel : Rel) (depth : ℕ) → rel.rows ≡ rel.cols → IsSide rel.rows depth → stands words depth rel.root ≡ true → stands_in words rel ≡ true
stands_where_root words rel depth e i s =
    subst (λ (m : ℕ). stands_in words (record { rows = rel.rows; cols = m; root = rel.root }) ≡ true) e (square_stands words rel.rows rel.root depth i s)

-- words of ten bits are those of a table
pub of_ten : (words : List ℕ) → IsSoundTable 10 words → IsTable words
of_ten words s = record { bits = 10; low = omega arith; high = omega arith; sound = s }

-- what follows from a fact of an answer follows where it is given
pub where_given : {T E : Type 0} (r : Result T E) (P Q : T → Type 0) → ((x : T) → P x → Q x) → IfOk r P → IfOk r Q
where_given (Ok x) P Q f h = f x h
where_given (Err e) P Q f h = tt

-- what stands in words of ten bits stands in a view that has seen their node words
pub in_view : (words : List ℕ) (rels : List Rel) (seat : View) → IsSoundTable 10 words → seat.words ≡ node_words 10 words → AllStand (nodes_of words) rels → AllStand seat.words rels
in_view words rels seat t e s =
    let count : length words - memo_slots ≡ 2 ^ 10 = (let l = t.size in omega arith) in
    subst (λ (ws : List ℕ). AllStand ws rels) (ap (λ (n : ℕ). take n words) count ∙ sym e) s
