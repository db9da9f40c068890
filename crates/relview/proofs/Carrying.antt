-- Names that live on: with other relations, in other words, in the same order and with the same values.
use Rattle.std.proofs.Common.{◌≡◌, ◌<◌, ◌≤◌, ◌+◌, ◌-◌, ◌^◌, ◌&&◌, ◌∙◌, ℕ, zero, suc, Bool, true, false, cond, eqb, List, [], ◌∷◌, length, take, drop, map, get_or, Some, None, refl, sym, ap, subst, arith, length-take}
use Rattle.std.specs.Prelude.{T, IsSome, slice_index, slice_index_or}
use Rattle.std.specs.FinMap.Entries.{by_order, put, below_all, is_sorted}
use Rattle.std.specs.declared.cmp.Ordering.{Ordering}
use Rattle.std.specs.declared.cmp.Ordering.TheVariants.{Less, Equal, Greater}
use Rattle.std.specs.Ordering.{is_lt}
use Rattle.rel_model.specs.declared.Rel.{Rel}
use Rattle.rel_model.specs.Relation.{Relation}
use Rattle.rel_model.specs.Roots.{relation_in, stands_in}
use Rattle.rel_model.specs.Words.{IsDistinct, stored_count}
use Rattle.rel_model.specs.Equations.{IsSoundTable, memo_slots, node_words}
use Rattle.run_model.specs.Names.{compare, set, IsIncreasing}
use Rattle.run_model.specs.Carried.{Carried, valued}
use Rattle.run_model.specs.Due.{Workspace}
use Rattle.run_model.specs.Stored.{LiveIn, uses_of_live}
use Rattle.rel_model.specs.Uses.{uses_count}
use Rattle.rv_compact.specs.Compacted.{IsTable, AllStand, IsMoved, IsCompacted, nodes_of, node_count, node_room}
use Rattle.relview.specs.declared.between.CarriedOn.{CarriedOn}
use Rattle.relview.specs.OverTable.{AllNamed}
use Rattle.relview.specs.Between.{renamed, AreAlike, IsCarriedOn}

-- ---- the order of names
parts : (a b : Bool) → T (a && b) → T a × T b
parts true b h = (tt, h)
parts false b h = absurd h

both : (a b : Bool) → T a → T b → T (a && b)
both true b h k = k
both false b h k = h

less : (o : Ordering) → T (is_lt o) → o ≡ Less
less Less h = refl
less Equal h = absurd h
less Greater h = absurd h

-- a name below all others gets the first place
set_first : (name : List ℕ) (rel : Rel) (names : Carried) → T (below_all compare name names) → set name rel names ≡ (name, rel) ∷ names
set_first name rel [] h = refl
set_first name rel (e ∷ es) h =
    ap (λ o. by_order o ((name, rel) ∷ e ∷ es) ((e.0, rel) ∷ es) (e ∷ put compare name rel es)) (less (compare name e.0) (parts (is_lt (compare name e.0)) (below_all compare name es) h).0)

below_renamed : (name : List ℕ) (live : Carried) (rels : List Rel) → T (below_all compare name live) → T (below_all compare name (renamed live rels))
below_renamed name [] rels h = tt
below_renamed name (e ∷ es) [] h = tt
below_renamed name (e ∷ es) (rel ∷ rels) h =
    let p = parts (is_lt (compare name e.0)) (below_all compare name es) h in
    both (is_lt (compare name e.0)) (below_all compare name (renamed es rels)) p.0 (below_renamed name es rels p.1)

-- the name of a place is put before all behind it
pub put_before : (live : Carried) (rels : List Rel) (k : ℕ) (d : List ℕ × Rel) (r : Rel) → k < length live → length rels ≡ length live → IsIncreasing live →
    set (get_or live k d).0 (get_or rels k r) (renamed (drop (suc k) live) (drop (suc k) rels)) ≡ renamed (drop k live) (drop k rels)
put_before [] rels k d r l e order = absurd (omega (arith, l))
put_before (x ∷ xs) [] k d r l e order = absurd (omega (arith, e))
put_before (x ∷ xs) (y ∷ ys) zero d r l e order =
    set_first x.0 y (renamed xs ys) (below_renamed x.0 xs ys (parts (below_all compare x.0 xs) (is_sorted compare xs) order).0)
put_before (x ∷ xs) (y ∷ ys) (suc k) d r l e order =
    put_before xs ys k d r (omega (arith, l)) (omega (arith, e)) (parts (below_all compare x.0 xs) (is_sorted compare xs) order).1

-- behind the last name there is none
pub none_behind : (live : Carried) (rels : List Rel) (k : ℕ) → k ≡ length live → renamed (drop k live) (drop k rels) ≡ []
none_behind [] rels zero e = refl
none_behind [] rels (suc k) e = absurd (omega (arith, e))
none_behind (x ∷ xs) rels zero e = absurd (omega (arith, e))
none_behind (x ∷ xs) [] (suc k) e = without (drop k xs)
  where
    without : (names : Carried) → renamed names [] ≡ []
    without [] = refl
    without (y ∷ ys) = refl
none_behind (x ∷ xs) (y ∷ ys) (suc k) e = none_behind xs ys k (omega (arith, e))

-- ---- words
nodes_same : (bits : ℕ) (words : List ℕ) → length words ≡ 2 ^ bits + memo_slots → node_count words ≡ 2 ^ bits
nodes_same bits words size = omega (arith, size)

-- the node words of a table
pub nodes_are : (bits : ℕ) (words : List ℕ) → length words ≡ 2 ^ bits + memo_slots → nodes_of words ≡ node_words bits words
nodes_are bits words size = ap (λ n. take n words) (nodes_same bits words size)

stands_if : (words : List ℕ) (rel : Rel) → IsSome (relation_in words rel) → stands_in words rel ≡ true
unfolding relation_in
stands_if words rel h = at (stands_in words rel) _ h
  where
    at : (b : Bool) (r : Relation) → IsSome (cond b (Some r) None) → b ≡ true
    at true r h = refl
    at false r h = absurd (subst T (sym h) tt)

-- relations of names that stand
pub all_stand : (words : List ℕ) (live : Carried) (rels : List Rel) → rels ≡ map (λ entry. entry.1) live → AllNamed words live → AllStand words rels
all_stand words live rels e h = subst (AllStand words) (sym e) (those live h)
  where
    those : (live : Carried) → AllNamed words live → AllStand words (map (λ entry. entry.1) live)
    those [] h k d l = absurd (omega (arith, l))
    those (x ∷ xs) h zero d l = stands_if words x.1 h.0
    those (x ∷ xs) h (suc k) d l = those xs h.1 k d (omega (arith, l))

-- ---- moved relations
moved_alike : (old new : List ℕ) (live : Carried) (moved : List Rel) → length moved ≡ length live →
    ((k : ℕ) (d : Rel) → k < length live → IsMoved old new (slice_index_or (map (λ entry. entry.1) live) k d) (slice_index_or moved k d)) →
    AreAlike old new live (renamed live moved)
moved_alike old new [] moved e h = tt
moved_alike old new (x ∷ xs) [] e h = absurd (omega (arith, e))
moved_alike old new (x ∷ xs) (y ∷ ys) e h =
    (refl, (h 0 y (omega arith)).same_set, moved_alike old new xs ys (omega (arith, e)) (λ k d l. h (suc k) d (omega (arith, l))))

same_alike : (words : List ℕ) (live : Carried) → AreAlike words words live (renamed live (map (λ entry. entry.1) live))
same_alike words [] = tt
same_alike words (x ∷ xs) = (refl, refl, same_alike words xs)

-- fewer places are taken than there are
stored_few : (words : List ℕ) → stored_count words ≤ length words
stored_few [] = omega arith
stored_few (w ∷ ws) = let rest = stored_few ws in one (eqb w 0) rest
  where
    one : (b : Bool) → stored_count ws ≤ length ws → cond b 0 1 + stored_count ws ≤ suc (length ws)
    one true r = omega (arith, r)
    one false r = omega (arith, r)

-- and two of these are vacant where places 0 and 1 are
stored_room : (words : List ℕ) → slice_index words 0 ≡ 0 → slice_index words 1 ≡ 0 → stored_count words ≤ length words - 2
stored_room [] a b = omega arith
stored_room (v ∷ []) a b = rw a (omega arith)
stored_room (v ∷ w ∷ ws) a b = let rest = stored_few ws in rw (a, b) (omega (arith, rest))

-- names whose relations were moved to compacted words are carried on, since each relation keeps its value there
pub carried_moved : (words : List ℕ) (live : Carried) (rels moved : List Rel) (next : CarriedOn) → rels ≡ map (λ entry. entry.1) live →
    IsCompacted words rels next.words.items moved → next.names ≡ renamed live moved → IsCarriedOn words live next
carried_moved words live rels moved next e compacted names =
    let c = subst (λ rs. IsCompacted words rs next.words.items moved) e compacted in
    let many = c.as_many in
    record {
      sound = λ bits sound. c.sound bits sound.size;
      alike = subst (AreAlike (nodes_of words) (nodes_of next.words.items) live) (sym names)
          (moved_alike (nodes_of words) (nodes_of next.words.items) live moved (many ∙ as_long live) (λ k d l. c.each k d (long k l)));
      few = c.few;
    }
  where
    as_long : (live : Carried) → length (map (λ entry. entry.1) live) ≡ length live
    as_long [] = refl
    as_long (x ∷ xs) = ap suc (as_long xs)

    long : (k : ℕ) → k < length live → k < length (map (λ entry. entry.1) live)
    long k l = subst (λ n. k < n) (sym (as_long live)) l

-- names are carried on in the same words where these have less room than their uses of nodes would need: so at most as
-- many nodes are stored there as are used
pub carried_same : (words : List ℕ) (live : Carried) (rels : List Rel) (next : CarriedOn) → rels ≡ map (λ entry. entry.1) live → IsTable words →
    node_room words < uses_count (nodes_of words) rels → next.words.items ≡ words → next.names ≡ renamed live rels → IsCarriedOn words live next
carried_same words live rels next e table full same names =
    let all = subst (λ rs. node_room words < uses_count (nodes_of words) rs) e full in
    let named = names ∙ ap (renamed live) e in
    record {
      sound = λ bits sound. subst (IsSoundTable bits) (sym same) sound;
      alike = subst (λ ws. AreAlike (nodes_of words) (nodes_of ws) live next.names) (sym same) (subst (AreAlike (nodes_of words) (nodes_of words) live) (sym named) (same_alike (nodes_of words) live));
      few = subst (λ ws. stored_count (nodes_of ws) ≤ uses_of_live (nodes_of words) live) (sym same) (room all);
    }
  where
    room : node_room words < uses_count (nodes_of words) (map (λ entry. entry.1) live) → stored_count (nodes_of words) ≤ uses_of_live (nodes_of words) live
    room all =
        let size = table.sound.size in
        let nodes = nodes_are table.bits words size in
        let distinct : IsDistinct (nodes_of words) = subst IsDistinct (sym nodes) table.sound.nodes.distinct in
        let few = stored_room (nodes_of words) distinct.none_at_0 distinct.none_at_1 in
        let long = length-take (node_count words) words in
        omega (arith, few, long, all)

-- ---- values
-- names that stand in words with values are those whose relations stand
pub live_named : (words : List ℕ) (names : Carried) (state : Workspace) → LiveIn words names state → AllNamed words names
live_named words [] state h = tt
live_named words (x ∷ xs) [] h = absurd h
live_named words (x ∷ xs) (v ∷ vs) h = (subst IsSome (sym h.1) refl, live_named words xs vs h.2)

-- they stand so in other words in which they are alike
pub live_alike : (old new : List ℕ) (live others : Carried) (state : Workspace) → AreAlike old new live others → LiveIn old live state → LiveIn new others state
live_alike old new [] [] state a h = h
live_alike old new [] (y ∷ ys) state a h = absurd a
live_alike old new (x ∷ xs) [] state a h = absurd a
live_alike old new (x ∷ xs) (y ∷ ys) [] a h = absurd h
live_alike old new (x ∷ xs) (y ∷ ys) (v ∷ vs) a h = (a.0 ∙ h.0, a.1 ∙ h.1, live_alike old new xs ys vs a.2 h.2)

-- and have these values where what stands in the words means what it does there
pub live_values : (words : List ℕ) (means : Rel → Relation) (names : Carried) (state : Workspace) →
    ((rel : Rel) (r : Relation) → relation_in words rel ≡ Some r → means rel ≡ r) → LiveIn words names state → valued means names ≡ state
live_values words means [] [] kept h = refl
live_values words means [] (v ∷ vs) kept h = absurd h
live_values words means (x ∷ xs) [] kept h = absurd h
live_values words means (x ∷ xs) (v ∷ vs) kept h =
    let name : x.0 ≡ v.0 = h.0 in
    let value : means x.1 ≡ v.1 = kept x.1 v.1 h.1 in
    let rest = live_values words means xs vs kept h.2 in
    λ i. (name i, value i) ∷ rest i
