-- The words of the copies and vacant memo words are compacted words.
use Rattle.std.proofs.Common.{◌≡◌, ◌≢◌, ◌<◌, ◌≤◌, ◌+◌, ◌-◌, ◌^◌, ℕ, true, List, ◌++◌, length, take, drop, replicate, get_or, refl, inl, inr, sym, ap, subst, ◌∙◌, arith, length-append}
use Rattle.std.specs.Prelude.{IsSome}
use Rattle.std.proofs.Math.Pow.{pow_mono}
use Rattle.std.proofs.lemmas.Bool.{false≢true, cases_Bool}
use Rattle.std.proofs.Math.Seq.{take-append_seam}
use Rattle.std.proofs.lemmas.List.{get_or-append-add, get_or-drop, length-take-le, take-replicate}
use Rattle.std.proofs.Math.ListN.{length-replicate}
use Rattle.pair_table.proofs.Placing.{vacant_at}
use Rattle.std.specs.List.{IsDistinct as KeysDiffer}
use Rattle.rel_model.specs.declared.Rel.{Rel}
use Rattle.rel_model.specs.Words.{IsSound, stored_count}
use Rattle.rel_model.specs.Equations.{memo_slots, node_words}
use Rattle.rel_model.specs.Roots.{stands_in, relation_in}
use Rattle.rel_model.specs.Uses.{uses_count, is_reached}
use Rattle.rv_compact.specs.Compacted.{node_count, node_room, nodes_of, IsTable, AllStand, IsMoved, IsCompacted}
use Rattle.rv_compact.specs.Walks.{same_key, WalkedSome}
use Rattle.rv_compact.specs.Copies.{AreCopies, AreNamed}
use Rattle.rv_compact.proofs.Counting.{walked_count}
use Rattle.rv_compact.proofs.Moving.{root_copy, root_moved, reached_stored, stored_reached}

-- ---- the words that are given
pub record TableSize (words : List ℕ) (bits : ℕ) : Type 0 where
  pub count : node_count words ≡ 2 ^ bits
  pub whole : length words ≡ node_count words + memo_slots
  pub large : 1024 ≤ node_count words
  pub nodes : IsSound (nodes_of words)
  pub as_many : length (nodes_of words) ≡ node_count words

-- the words of a table are node words, a power of two and at least 1024 of them, and the memo words behind those
pub table_size : (words : List ℕ) → (t : IsTable words) → TableSize words t.bits
table_size words t =
    let e : node_count words ≡ 2 ^ t.bits = (let s = t.sound.size in omega arith) in
    let low : 2 ^ 10 ≤ 2 ^ t.bits = pow_mono t.low in
    record {
      count = e;
      whole = (let s = t.sound.size in omega arith);
      large = omega arith;
      nodes = subst (λ (n : ℕ). IsSound (take n words)) (sym e) t.sound.nodes;
      as_many = length-take-le (node_count words) words (let s = t.sound.size in omega arith);
    }

-- ---- the words that are made
-- node words, and vacant memo words behind them
pub record IsTail (rest : List ℕ) : Type 0 where
  pub size : length rest ≡ memo_slots
  pub vacant : (slot : ℕ) → get_or rest slot 0 ≡ 0

-- copies and vacant memo words behind them are compacted words: each moved relation has a copy as its root, so it has
-- its set, and together they reach exactly the copies
pub compacted_from : (words : List ℕ) (rels : List Rel) (new : List ℕ) (moved : List Rel) (keys : List (ℕ × ℕ)) (names fresh rest : List ℕ) → IsTable words → AllStand (nodes_of words) rels → WalkedSome (nodes_of words) rels (length rels) keys
    → KeysDiffer same_key keys → AreCopies (nodes_of words) keys fresh names → length names ≡ length keys → length fresh ≡ node_count words → IsTail rest → new ≡ fresh ++ rest → length moved ≡ length rels → AreNamed keys names rels moved (length rels) → IsCompacted words rels new moved
compacted_from words rels new moved keys names fresh rest t s w u a f l r e m n =
    let z = table_size words t in
    let all : length new ≡ length fresh + memo_slots = ap length e ∙ length-append fresh rest ∙ ap (λ (x : ℕ). length fresh + x) r.size in
    let whole : length new ≡ length words = (let g = z.whole in omega arith) in
    let front : take (length fresh) new ≡ fresh = ap (take (length fresh)) e ∙ take-append_seam fresh rest in
    let back : (slot : ℕ) → get_or new (length fresh + slot) 0 ≡ 0 = λ slot. ap (λ (ws : List ℕ). get_or ws (length fresh + slot) 0) e ∙ get_or-append-add fresh rest slot 0 ∙ r.vacant slot in
    let nodes : nodes_of new ≡ fresh = ap (λ (x : ℕ). take x new) (let g : node_count new ≡ length fresh = omega arith in g) ∙ front in
    let x = z.nodes.distinct.none_at_0 in
    let y = a.sound.distinct.none_at_0 in
    let roots = root_copy (nodes_of words) keys fresh names rels moved s a n in
    record {
      same_length = whole;
      sound = λ bits g.
          let c : 2 ^ bits ≡ length fresh = omega arith in
          let same : node_words bits new ≡ fresh = ap (λ (i : ℕ). take i new) c ∙ front in
          record {
            size = whole ∙ g;
            nodes = subst IsSound (sym same) a.sound;
            memo = λ slot h q. absurd (q (ap (λ (i : ℕ). get_or new (i + slot) 0) c ∙ back slot));
          };
      no_memo = λ slot. ap (λ (i : ℕ). get_or new (i + slot) 0) (sym l) ∙ back slot;
      as_many = m;
      each = λ k d h. subst (λ (ws : List ℕ). IsMoved (nodes_of words) ws (get_or rels k d) (get_or moved k d)) (sym nodes) (root_moved (nodes_of words) fresh _ _ x y (roots k d h));
      reached = λ i. subst (λ (ws : List ℕ). (get_or ws i 0 ≢ 0 → is_reached ws moved i ≡ true) × (is_reached ws moved i ≡ true → get_or ws i 0 ≢ 0)) (sym nodes)
          (stored_reached (nodes_of words) keys fresh names rels moved x a f w m roots i, reached_stored (nodes_of words) fresh rels moved x y m roots i);
      few = subst (λ (ws : List ℕ). stored_count ws ≤ uses_count (nodes_of words) rels) (sym nodes)
          (let c = a.few in let k = walked_count (nodes_of words) rels keys w u in omega arith);
    }

-- a relation that stands has a set, and what has a set stands
has_set : (words : List ℕ) (rel : Rel) → stands_in words rel ≡ true → IsSome (relation_in words rel)
unfolding relation_in
has_set words rel e = rw e refl

set_stands : (words : List ℕ) (rel : Rel) → IsSome (relation_in words rel) → stands_in words rel ≡ true
unfolding relation_in
set_stands words rel h = elim (cases_Bool (stands_in words rel)) [
  | inl e ↦ e
  | inr e ↦ absurd (false≢true (rw e at h))
]

-- so moved relations stand
pub moved_stand : (words : List ℕ) (rels : List Rel) (new : List ℕ) (moved : List Rel) → AllStand (nodes_of words) rels → IsCompacted words rels new moved → AllStand (nodes_of new) moved
moved_stand words rels new moved s c k d l =
    let within : k < length rels = (let m = c.as_many in omega arith) in
    set_stands (nodes_of new) (get_or moved k d) (subst IsSome (sym (c.each k d within).same_set) (has_set (nodes_of words) (get_or rels k d) (s k d within)))

-- what stands behind the node words of vacant words is a tail
pub tail_from : (words items rest : List ℕ) → IsTable words → items ≡ replicate (length words) 0 → rest ≡ drop (node_count words) items → length rest + node_count words ≡ length items → IsTail rest
tail_from words items rest t e d l =
    let z = table_size words t in
    let n : length items ≡ length words = ap length e ∙ length-replicate (length words) 0 in
    record {
      size = (let w = z.whole in omega arith);
      vacant = λ slot. ap (λ (ws : List ℕ). get_or ws slot 0) d ∙ get_or-drop (node_count words) items slot 0 ∙ ap (λ (ws : List ℕ). get_or ws (node_count words + slot) 0) e ∙ vacant_at (length words) (node_count words + slot);
    }

-- the node words of vacant words are vacant
pub front_vacant : (words items front : List ℕ) (n : ℕ) → IsTable words → items ≡ replicate (length words) 0 → front ≡ take (node_count words) items → n ≡ node_count words → front ≡ replicate n 0
front_vacant words items front n t e d b =
    let z = table_size words t in
    d ∙ ap (take (node_count words)) e ∙ take-replicate (node_count words) (length words) 0 (let w = z.whole in omega arith) ∙ ap (λ (i : ℕ). replicate i 0) (sym b)

-- as many of the words that stand first as there are
pub take-front : (xs ys : List ℕ) (n : ℕ) → n ≡ length xs → take n (xs ++ ys) ≡ xs
take-front xs ys n e = ap (λ (i : ℕ). take i (xs ++ ys)) e ∙ take-append_seam xs ys

-- ---- how many uses there are
-- the list is as long as there are uses, where they fit
pub uses_fit : (words : List ℕ) (rels : List Rel) (keys : List (ℕ × ℕ)) (count : ℕ) → IsTable words → WalkedSome (nodes_of words) rels (length rels) keys → KeysDiffer same_key keys → count ≡ length keys → count ≤ node_count words - 2
    → uses_count (nodes_of words) rels ≤ node_room words
uses_fit words rels keys count t w d e l = let u = walked_count (nodes_of words) rels keys w d in omega arith

-- and where they do not fit
pub uses_pass : (words : List ℕ) (rels : List Rel) (keys : List (ℕ × ℕ)) (count : ℕ) → IsTable words → WalkedSome (nodes_of words) rels (length rels) keys → KeysDiffer same_key keys → count ≡ length keys → node_count words - 2 < count
    → (count ≡ uses_count (nodes_of words) rels) × (node_room words < count)
uses_pass words rels keys count t w d e l = (e ∙ sym (walked_count (nodes_of words) rels keys w d), l)
