-- Passes are joined one after another: what is known after some of them is known after one more.
use Rattle.std.proofs.Common.{◌≡◌, ◌+◌, List, [], ◌∷◌, ◌++◌, refl, sym, ap, ◌∙◌, arith, append_assoc, All}
use Rattle.std.proofs.lemmas.List.{append-nil}
use Rattle.std.proofs.lemmas.List.Elements.{All-append, All-cons, All-nil}
use Rattle.turn_book.specs.Entries.{Entry}
use Rattle.turn_book.specs.Logs.{Begins}
use Rattle.turn_book.specs.Views.{View, lists_of, with_other}
use Rattle.turn_book.specs.Joined.{all_lists, places, JoinsAll}
use Rattle.turn_book.proofs.Listing.{begins_itself}
use Rattle.turn_book.proofs.Turning.{begins_on}

all_lists_more : (ps : List View) (p : View) → all_lists (ps ++ p ∷ []) ≡ all_lists ps ++ lists_of p
all_lists_more [] p = append-nil (lists_of p)
all_lists_more (q ∷ ps) p = ap (λ (l : List (List Entry)). lists_of q ++ l) (all_lists_more ps p) ∙ sym (append_assoc (lists_of q) (all_lists ps) (lists_of p))

places_more : (ps : List View) (p : View) → places (ps ++ p ∷ []) ≡ places ps + p.spare + 1
places_more [] p = omega arith
places_more (q ∷ ps) p = let i = places_more ps p in omega arith

-- what each has seen begins a longer log
each_on : (ps : List View) (p : View) (xs ys : List Entry) → All (λ q. Begins q.seen xs) ps → Begins xs ys → Begins p.seen ys → All (λ q. Begins q.seen ys) (ps ++ p ∷ [])
each_on ps p xs ys h b e =
    let begins : View → Type 0 = λ q. Begins q.seen ys in
    All-append begins ps (p ∷ []) (λ k d l. begins_on _ xs ys (h k d l) b) (All-cons begins p [] e (All-nil begins))

-- no pass was joined yet
pub joins_none : (old : View) → JoinsAll [] old old
joins_none old = record {
  book = refl;
  house = refl;
  start = refl;
  turn = refl;
  mine = refl;
  joined = sym (append-nil old.joined);
  spare = omega arith;
  own_seen = begins_itself old.seen;
  each_seen = All-nil (λ q. Begins q.seen old.seen);
}

-- the lists and places of one more pass come behind those of the passes before it, and what was seen so far begins the
-- log that is seen now
pub joins_one_more : (ps : List View) (p old mid new : View) → JoinsAll ps old mid → new ≡ with_other mid p → Begins mid.seen new.seen → Begins p.seen new.seen → JoinsAll (ps ++ p ∷ []) old new
joins_one_more ps p old mid new j is mine other = record {
  book = ap (λ (v : View). v.book) is ∙ j.book;
  house = ap (λ (v : View). v.house) is ∙ j.house;
  start = ap (λ (v : View). v.start) is ∙ j.start;
  turn = ap (λ (v : View). v.turn) is ∙ j.turn;
  mine = ap (λ (v : View). v.mine) is ∙ j.mine;
  joined = ap (λ (v : View). v.joined) is ∙ (ap (λ (l : List (List Entry)). l ++ lists_of p) j.joined ∙ (append_assoc old.joined (all_lists ps) (lists_of p) ∙ ap (λ (l : List (List Entry)). old.joined ++ l) (sym (all_lists_more ps p))));
  spare = ap (λ (v : View). v.spare) is ∙ (let s = j.spare in let l = places_more ps p in let e : mid.spare + p.spare + 1 ≡ old.spare + places (ps ++ p ∷ []) = omega arith in e);
  own_seen = begins_on old.seen mid.seen new.seen j.own_seen mine;
  each_seen = each_on ps p mid.seen new.seen j.each_seen mine other;
}
