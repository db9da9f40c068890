-- Works are joined one after another: what is known after some of them is known after one more.
-- 1. A worker that takes in another holds all that stood in either, and has missed something where either has.
-- 2. So it does after each piece of work, with what all of them made and had to spare.
-- 3. The passes of works hold one list of events each, and stand for one place each.
use Rattle.std.proofs.Common.{◌≡◌, ◌<◌, ◌+◌, ◌-◌, ◌*◌, ◌^◌, suc, ℕ, List, [], ◌∷◌, ◌++◌, map, length, refl, sym, ap, subst, ◌∙◌, arith, All, Some, get_or}
use Rattle.std.specs.Prelude.{IsSome, min}
use Rattle.std.proofs.lemmas.List.Elements.{All-append, All-cons, All-nil, All-weaker}
use Rattle.rel_model.specs.Worker.{Worker}
use Rattle.rel_model.specs.Seats.{Holds, JoinsWorker}
use Rattle.turn_book.specs.Logs.{Begins}
use Rattle.turn_book.specs.Views.{View, with_other}
use Rattle.turn_book.specs.Joined.{places, all_lists, JoinsAll}
use Rattle.turn_book.proofs.Joining.{joins_one_more}
use Rattle.run_model.specs.Carried.{First}
use Rattle.rv_workspace.specs.Starts.{first_of}
use Rattle.turn_book.specs.Views.{Book, House, Start}
use Rattle.rv_sessions.specs.declared.transcript.Transcript.{Transcript}
use Rattle.rv_runs.specs.declared.work.Work.{Work}
use Rattle.rv_runs.specs.Works.{IsAbsorbed, CanJoin, TakesAll, HaveHouse, HaveStart, made_by, pass_of, told_of}

-- what is true of all is true of each
pub there : {X : Type 0} (P : X → Type 0) (ys zs : List X) (w : X) → All P (ys ++ w ∷ zs) → P w
there P [] zs w all = all 0 w (omega arith)
there P (y ∷ ys) zs w all = there P ys zs w (λ k d l. all (suc k) d (omega arith))

map_append : {X Y : Type 0} (f : X → Y) (xs ys : List X) → map f (xs ++ ys) ≡ map f xs ++ map f ys
map_append f [] ys = refl
map_append f (x ∷ xs) ys = ap (λ (l : List _). f x ∷ l) (map_append f xs ys)

pub length_more : {X : Type 0} (ys : List X) (w : X) → length (ys ++ w ∷ []) ≡ length ys + 1
length_more [] w = omega arith
length_more (y ∷ ys) w = let i = length_more ys w in omega arith

-- ---- workers
holds_itself : (a : Worker) → Holds a a
holds_itself a = record { same = λ r s. refl; same_quads = λ q s. refl }

pub holds_on : (a b c : Worker) → Holds a b → Holds b c → Holds a c
holds_on a b c h k = record {
  same = λ r s. k.same r (subst IsSome (sym (h.same r s)) s) ∙ h.same r s;
  same_quads = λ q s. k.same_quads q (subst IsSome (sym (h.same_quads q s)) s) ∙ h.same_quads q s;
}

pub absorbed_itself : (a : Worker) → IsAbsorbed a a
absorbed_itself a = record { holds = holds_itself a; missed = λ l. l }

pub absorbed_on : (a b c : Worker) → IsAbsorbed a b → IsAbsorbed b c → IsAbsorbed a c
absorbed_on a b c h k = record { holds = holds_on a b c h.holds k.holds; missed = λ l. k.missed (h.missed l) }

some_missed : (a b n : ℕ) → n ≡ min (a + b) (2 ^ 64 - 1) → 0 < a + b → 0 < n
some_missed a b n e l = omega arith

pub joins_first : (a b c : Worker) → JoinsWorker a b c → IsAbsorbed a c
joins_first a b c j = record { holds = j.holds; missed = λ l. some_missed a.misses b.misses c.misses j.misses (omega arith) }

pub joins_second : (a b c : Worker) → JoinsWorker a b c → IsAbsorbed b c
joins_second a b c j = record { holds = j.other_holds; missed = λ l. some_missed a.misses b.misses c.misses j.misses (omega arith) }

module _ {E : Type 0} (worker : E → Worker) where
  made_more : (ys : List (Work E)) (w : Work E) → made_by worker (ys ++ w ∷ []) ≡ made_by worker ys + (worker w.seat.engine).made
  made_more [] w = omega arith
  made_more (y ∷ ys) w = let i = made_more ys w in omega arith

  pub takes_none : (old : Worker) → TakesAll worker [] old old
  takes_none old = record {
    own = absorbed_itself old;
    each = All-nil (λ work. IsAbsorbed (worker work.seat.engine) old);
    made = omega arith;
    spare = omega arith;
    house = refl;
  }

  -- a worker that took in works takes in one more: what was held or missed stays so, and what was made and is spare
  -- adds up
  pub takes_more : (ys : List (Work E)) (w : Work E) (old mid new : Worker) → TakesAll worker ys old mid → JoinsWorker mid (worker w.seat.engine) new → (worker w.seat.engine).spare ≡ 64
      → TakesAll worker (ys ++ w ∷ []) old new
  takes_more ys w old mid new t j seats =
      let P : Work E → Type 0 = λ work. IsAbsorbed (worker work.seat.engine) new in
      let later = joins_first mid (worker w.seat.engine) new j in
      record {
        own = absorbed_on old mid new t.own later;
        each = All-append P ys (w ∷ []) (All-weaker (λ work. IsAbsorbed (worker work.seat.engine) mid) P (λ work a. absorbed_on (worker work.seat.engine) mid new a later) ys t.each)
            (All-cons P w [] (joins_second mid (worker w.seat.engine) new j) (All-nil P));
        made = (let a = t.made in let b = j.made in let m = made_more ys w in let e : new.made ≡ old.made + made_by worker (ys ++ w ∷ []) = omega arith in e);
        spare = (let a = t.spare in let b = j.spares in let m = length_more ys w in let e : new.spare ≡ old.spare + 65 * length (ys ++ w ∷ []) = omega arith in e);
        house = j.house ∙ t.house;
      }

-- ---- passes
module _ {E : Type 0} where
  pub joins_more : (ys : List (Work E)) (w : Work E) (old mid new : View) → JoinsAll (map pass_of ys) old mid → new ≡ with_other mid w.seat.pass → Begins mid.seen new.seen → Begins w.seat.pass.seen new.seen
      → JoinsAll (map pass_of (ys ++ w ∷ [])) old new
  joins_more ys w old mid new j is mine other =
      subst (λ (l : List View). JoinsAll l old new) (sym (map_append pass_of ys (w ∷ []))) (joins_one_more (map pass_of ys) w.seat.pass old mid new j is mine other)

  -- works told a list of transcripts, and one work more tells one transcript more
  pub told_more : (told : List Transcript) (t : Transcript) (ys : List (Work E)) (w : Work E) → w.told ≡ Some t → map (λ u. Some u) told ≡ map told_of ys
      → map (λ u. Some u) (told ++ t ∷ []) ≡ map told_of (ys ++ w ∷ [])
  told_more told t ys w is h = map_append (λ u. Some u) told (t ∷ []) ∙ ((λ i. h i ++ sym is i ∷ []) ∙ sym (map_append told_of ys (w ∷ [])))

  module _ (worker : E → Worker) (book : Book) where
    -- passes to which none was joined hold one list each
    pub one_list_each : (works : List (Work E)) → All (CanJoin worker book) works → all_lists (map pass_of works) ≡ map (λ work. work.seat.pass.mine) works
    one_list_each [] h = refl
    one_list_each (w ∷ ws) h = (λ i. w.seat.pass.mine ∷ ((h 0 w (omega arith)).no_joined i ++ one_list_each ws (λ k d l. h (suc k) d (omega arith)) i))

    -- and stand for themselves alone
    pub one_place_each : (works : List (Work E)) → All (CanJoin worker book) works → places (map pass_of works) ≡ length works
    one_place_each [] h = refl
    one_place_each (w ∷ ws) h = let s = (h 0 w (omega arith)).no_spare in let i = one_place_each ws (λ k d l. h (suc k) d (omega arith)) in omega arith

    -- the piece of work that comes next can be joined
    pub next_joins : (works yielded rest later : List (Work E)) (w : Work E) → All (CanJoin worker book) works → works ≡ yielded ++ rest → rest ≡ w ∷ later → CanJoin worker book w
    next_joins works yielded rest later w all is next =
        there (CanJoin worker book) yielded later w (subst (λ (l : List (Work E)). All (CanJoin worker book) l) (is ∙ ap (λ (l : List (Work E)). yielded ++ l) next) all)

  -- what the passes of all began with is that of each
  pub all_began : (start : Start) (first : First) (works : List (Work E)) → first_of start ≡ first → HaveStart start works → All (λ work. first_of work.seat.pass.start ≡ first) works
  all_began start first works is h = All-weaker (λ work. work.seat.pass.start ≡ start) (λ work. first_of work.seat.pass.start ≡ first) (λ work e. ap first_of e ∙ is) works h

  -- works that keep theirs
  pub starts_stay : (start : Start) (old new : List (Work E)) → HaveStart start old → length new ≡ length old
      → ((k : ℕ) (d : Work E) → k < length old → (get_or new k d).seat.pass.start ≡ (get_or old k d).seat.pass.start) → HaveStart start new
  starts_stay start old new h l s k d b = s k d (omega (arith, b, l)) ∙ h k d (omega (arith, b, l))

  -- its pass is of the house of all
  pub next_house : (house : House) (works yielded rest later : List (Work E)) (w : Work E) → HaveHouse house works → works ≡ yielded ++ rest → rest ≡ w ∷ later → w.seat.pass.house ≡ house
  next_house house works yielded rest later w all is next =
      there (λ work. work.seat.pass.house ≡ house) yielded later w (subst (λ (l : List (Work E)). HaveHouse house l) (is ∙ ap (λ (l : List (Work E)). yielded ++ l) next) all)
