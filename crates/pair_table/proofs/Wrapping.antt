-- From what the steps tell to what callers see.
use Rattle.std.proofs.Common.{◌≡◌, ◌≤◌, ◌≢◌, ◌+◌, ◌-◌, ◌^◌, ℕ, List, [], replicate, ◌∷◌, ◌++◌, take, zero, suc, length, refl, sym, ap, subst, ◌∙◌, arith, get_or, Result, Ok, Err, IfOk}
use Rattle.std.proofs.Math.Pow.{pow_mono}
use mathlib.Core.Option.{some, some-injective, some-ne-none}
use lib.ListN.{get_elem?}
use Rattle.atomic_table.specs.Table.{Me, Final, Seen}
use Rattle.atomic_table.specs.Seated.{TableId, table_id_coded}
use Rattle.rel_model.specs.Words.{IsDistinct, stored_count}
use Rattle.rel_model.specs.Equations.{IsSoundTable, memo_slots, node_words}
use Rattle.rel_model.specs.Views.{Table, View, IsFresh, IsClosed}
use Rattle.pair_table.specs.declared.rule.Known.{Known}
use Rattle.pair_table.specs.declared.rule.Start.{Start}
use Rattle.pair_table.specs.Rule.{Holds, first_view}
use Rattle.pair_table.specs.Tells.{Steps}
use Rattle.pair_table.specs.Opened.{IsOpened}
use Rattle.pair_table.specs.Held.{house_of, IsSeat, IsTable, view_of}
use Rattle.pair_table.proofs.Placing.{vacant_at, vacant_count}
use Rattle.pair_table.proofs.Memoing.{ended_all, nodes_length, vacant_nodes}

-- tables of one house are one
pub one_table : (a b : TableId) → house_of a ≡ house_of b → a ≡ b
one_table a b e = table_id_coded.inj a b e

-- a seat stays one over a step
pub still_seat : {S : Type 0} (me after : Me S Known) (spare : ℕ) → IsSeat me spare → Steps me.0 after.0 → after.1 ≡ me.1 → IsSeat after spare
still_seat me after spare s t h = record { parts = t.parts ∙ s.parts; none_held = h ∙ s.none_held; canonical = t.canonical }

-- the words in the end, as callers see them
pub closed_from : {S : Type 0} (id : TableId) (me : Me S Known) (spare refused : ℕ) (start : Start) (place : ℕ) (words : List ℕ) (xs : List S) → Final (Seen (Holds start) place me.0) words xs → IsSeat me spare → spare + 1 ≡ start.seats
    → IsClosed start.bits (view_of id me spare refused) words
closed_from id me spare refused start place words xs f s e =
    let p : me.0.parts ≡ start.seats = s.parts ∙ e in
    let l : me.0.parts ≢ 0 = (λ z. let a = s.parts in omega arith) in
    let d = ended_all start words xs place me.0 f p l in
    record { sound = d.sound; holds = d.nodes.seen; counted = d.nodes.counted }

-- one more word of a list
pub take_at : (xs : List ℕ) (i x : ℕ) → get_elem? xs i ≡ some x → take (i + 1) xs ≡ take i xs ++ x ∷ []
take_at [] i x e = absurd (some-ne-none x (sym e))
take_at (y ∷ ys) zero x e = ap (λ (z : ℕ). z ∷ []) (some-injective y x e)
take_at (y ∷ ys) (suc i) x e = let h : suc i + 1 ≡ suc (i + 1) = omega arith in rw h (ap (λ (zs : List ℕ). y ∷ zs) (take_at ys i x e))

-- ---- a table that is opened, and a new one
pub table_from : (id : TableId) (key : Start) (bits seats count : ℕ) → 10 ≤ bits → bits ≤ 24 → count ≡ 2 ^ bits - 2 → id.words ≡ 2 ^ bits + memo_slots → id.slots ≡ 0 → key.bits ≡ bits → key.seats ≡ seats → IsTable id key count bits seats
table_from id key bits seats count a b e w z k s =
    let low : 2 ^ 10 ≤ 2 ^ bits = pow_mono a in
    let high : 2 ^ bits ≤ 2 ^ 24 = pow_mono b in
    record { words = w; slots = z; bits_are = k; seats_are = s; count_is = omega arith; few_bits = b; small = omega arith; not_none = omega arith }

-- what a caller sees of a table that is opened: the first view has all its words, and a sound table stores none twice
pub opened_from : {S : Type 0} (id seat : TableId) (me : Me S Known) (start : Start) → 10 ≤ start.bits → start.bits ≤ 24 → 1 ≤ start.seats → IsSoundTable start.bits start.words.items → seat ≡ id → me ≡ (first_view start, [])
    → IsOpened start.bits start.words.items start.seats (record { house = house_of id; bits = start.bits; seats = start.seats }, view_of seat me (start.seats - 1) 0)
opened_from id seat me start a b h t e m =
    let w : me.0.words ≡ node_words start.bits start.words.items = ap (λ p. p.0.words) m in
    record {
      bits_are = refl;
      seats_are = refl;
      of = record {
        one_house = ap house_of e;
        size = ap length w ∙ nodes_length start.bits start.words.items t.size;
        low = a;
        high = b;
        canonical = subst (λ (ws : List ℕ). IsDistinct ws) (sym w) t.nodes.distinct;
        counted = omega arith;
        full = λ z. absurd (z refl);
      };
      words_are = w;
      all_made = ap (λ p. p.0.made) m;
      spare_is = omega arith;
      no_load = ap (λ p. p.0.last) m;
      none_refused = refl;
    }

-- a table over vacant words is new
fresh_from : (bits seats : ℕ) (words : List ℕ) (made : Table × View) → words ≡ replicate (2 ^ bits + memo_slots) zero → IsOpened bits words seats made → IsFresh bits seats made
fresh_from bits seats words made e o =
    let w : made.1.words ≡ replicate (2 ^ bits) zero = o.words_are ∙ ap (node_words bits) e ∙ vacant_nodes bits in
    record {
      bits_are = o.bits_are;
      seats_are = o.seats_are;
      of = o.of;
      vacant = λ n. ap (λ (ws : List ℕ). get_or ws n 0) w ∙ vacant_at (2 ^ bits) n;
      none_made = o.all_made ∙ ap (λ (ws : List ℕ). stored_count (node_words bits ws)) e ∙ ap stored_count (vacant_nodes bits) ∙ vacant_count (2 ^ bits);
      spare_is = o.spare_is;
      no_load = o.no_load;
      none_refused = o.none_refused;
    }

pub fresh_where_opened : {E : Type 0} (bits seats : ℕ) (words : List ℕ) (r : Result (Table × View) E) → words ≡ replicate (2 ^ bits + memo_slots) zero → IfOk r (IsOpened bits words seats) → IfOk r (IsFresh bits seats)
fresh_where_opened bits seats words (Ok made) e o = fresh_from bits seats words made e o
fresh_where_opened bits seats words (Err x) e o = tt
