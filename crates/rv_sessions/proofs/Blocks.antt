-- The assignments of a block, one after another.
-- 1. What is due behind some values is due behind one more, where the next expression has a value.
-- 2. Where it has none, that is due of the block, behind whatever came; and it is late behind a value.
-- 3. So what is known of the first assignments grows by one, and tells of the whole block at its end.
use Rattle.std.proofs.Common.{◌≡◌, ◌∙◌, ◌≤◌, ◌<◌, ◌+◌, ◌^◌, ◌-◌, inl, inr, arith, zero, suc, ℕ, cond, List, [], ◌∷◌, ◌++◌, drop, length, get_or, Some, Ok, Err, refl, sym, ap, subst}
use Rattle.std.specs.Prelude.{min, All, Result}
use Rattle.std.specs.declared.alloc.Global.{Global}
use Rattle.std.specs.declared.vec.Vec.{Vec}
use Rattle.std.proofs.lemmas.List.Elements.{All-nil, All-cons}
use Rattle.run_model.specs.declared.outcome.Outcome.TheVariants.{Done, Nodes as NODES, NoMemory as NO_MEMORY}
use Rattle.std.proofs.lemmas.List.{drop_more, map-append}
use Rattle.rel_model.specs.declared.Rel.{Rel}
use Rattle.rel_model.specs.Relation.{Relation}
use Rattle.rel_model.specs.Worker.{Worker, Stands, set_of, Keeps, MakesAtMost}
use Rattle.rel_model.proofs.Workers.{keeps_itself, keeps_trans, keeps_set, keeps_stands}
use Rattle.lang_model.specs.declared.syntax.Let.{Let as BlockLet}
use Rattle.lang_model.specs.declared.syntax.Script.{Script}
use Rattle.lang_model.specs.Blocks.{after_value, evaluated_block, cost_of_block}
use Rattle.lang_model.specs.Eval.{Evaluated, Ahead, Comes, IsCompound, evaluated, cost_of_value}
use Rattle.lang_model.specs.Outcomes.{Answer, Got, Not}
use Rattle.lang_model.specs.State.{State, assigned}
use Rattle.lang_model.specs.Tokens.{same_text}
use Rattle.run_model.specs.declared.outcome.Outcome.{Outcome}
use Rattle.run_model.specs.Blocks.{AnyCompound}
use Rattle.run_model.specs.Due.{When, Late, Gifts, Due, Nothing, Value, Values, Bytes, Explained, Refused, late, with_gift, behind_let, due_of_answer, due_of_lets}
use Rattle.run_model.specs.Outcomes.{IsNotEarly}
use Rattle.run_model.proofs.Assigning.{goes_on, stops, costs_on}
use Rattle.rv_eval.specs.Names.{rel_of, state_of, AllStand}
use Rattle.rv_eval.proofs.States.{state_kept, all_stand_kept, state_assigned, all_stand_assigned}
use Rattle.rv_sessions.specs.Valuing.{IsRefusal, IsNotAhead, Stopped, CameTo, CameOver}
use Rattle.rv_sessions.specs.Blocking.{gifts_in, GiftsStand, BlockStopped, BlockCameOver, due_behind, ValuedSoFar}
use Rattle.rv_sessions.proofs.FoldingTurns.{all_append, all_weaker}

-- ---- 1
behind_push : (gifts : Gifts) (gift : List ℕ × Relation) (d : Due) → due_behind gifts (with_gift gift (late d)) ≡ due_behind (gifts ++ gift ∷ []) d
behind_push [] gift d = refl
behind_push (g ∷ gs) gift d = ap (λ x. with_gift g (late x)) (behind_push gs gift d)

behind_values : (gifts : Gifts) → due_behind gifts (Values []) ≡ Values gifts
behind_values [] = refl
behind_values (g ∷ gs) = ap (λ x. with_gift g (late x)) (behind_values gs)

-- ---- 2
behind_refused : (gifts : Gifts) (when : When) (o : Outcome) → (later : When) × (due_behind gifts (Refused when o) ≡ Refused later o)
behind_refused [] when o = (when, refl)
behind_refused (g ∷ gs) when o =
    let r = behind_refused gs when o in (Late, ap (λ x. with_gift g (late x)) r.1)

late_not_early : (d : Due) → IsNotEarly (late d)
late_not_early Nothing = tt
late_not_early (Value r) = tt
late_not_early (Values gifts) = tt
late_not_early (Bytes bytes) = tt
late_not_early (Explained steps) = tt
late_not_early (Refused when o) = tt

gift_not_early : (gift : List ℕ × Relation) (d : Due) → IsNotEarly d → IsNotEarly (with_gift gift d)
gift_not_early gift Nothing h = tt
gift_not_early gift (Value r) h = tt
gift_not_early gift (Values gifts) h = tt
gift_not_early gift (Bytes bytes) h = tt
gift_not_early gift (Explained steps) h = tt
gift_not_early gift (Refused when o) h = h

behind_not_early : (gifts : Gifts) (d : Due) → IsNotEarly d → IsNotEarly (due_behind gifts d)
behind_not_early [] d h = h
behind_not_early (g ∷ gs) d h = gift_not_early g (late (due_behind gs d)) (late_not_early (due_behind gs d))

module _ (turns : ℕ) (l : BlockLet) (ls : List BlockLet) (more : Relation → List Evaluated) where
  answer_not_early : (rest : Due) (a : Answer Relation) → IsNotEarly (behind_let l.name rest (due_of_answer Value turns a))
  answer_not_early rest (Got r left) = gift_not_early (l.name, r) (late rest) (late_not_early rest)
  answer_not_early rest (Not why) = tt

  -- a block of which something was computed is not refused early
  block_not_early : (v : Evaluated) → IsNotAhead v → IsNotEarly (due_of_lets turns (l ∷ ls) (after_value v more))
  block_not_early (Ahead fault) h = absurd h
  block_not_early (Comes came) h = answer_not_early _ came.answer

-- ---- costs
first_within : (leaf : ℕ) (v : Evaluated) (more : Relation → List Evaluated) → cost_of_value leaf v ≤ cost_of_block leaf (after_value v more)
first_within leaf (Ahead fault) more = omega arith
first_within leaf (Comes came) more = omega arith

-- ---- expressions that are more than a name
compound_at : (lets : List BlockLet) (i : ℕ) (l : BlockLet) → i < length lets → l ≡ get_or lets i l → IsCompound l.value → AnyCompound lets
compound_at [] i l h e c = absurd (omega (arith, h))
compound_at (x ∷ xs) zero l h e c = inl (subst (λ (y : BlockLet). IsCompound y.value) e c)
compound_at (x ∷ xs) (suc i) l h e c = inr (compound_at xs i l (omega (arith, h)) e c)

rose_before : (a b c : ℕ) → a ≤ b → min (b + 1) (2 ^ 64 - 1) ≤ c → min (a + 1) (2 ^ 64 - 1) ≤ c
rose_before a b c h k = let top : ℕ = 2 ^ 64 - 1 in least a b c top h k
  where
    least : (a b c top : ℕ) → a ≤ b → min (b + 1) top ≤ c → min (a + 1) top ≤ c
    least a b c top h k = omega (arith, h, k)

-- ---- values in a worker that keeps them
pub gifts_kept : (v w : Worker) (gifts : List (List ℕ × Rel)) → Keeps v w → GiftsStand v gifts → gifts_in w gifts ≡ gifts_in v gifts
gifts_kept v w [] k h = refl
gifts_kept v w (g ∷ gs) k h = let e = keeps_set v w g.1 k h.0 in let i = gifts_kept v w gs k h.1 in λ j. (g.0, e j) ∷ i j

pub gifts_stand_kept : (v w : Worker) (gifts : List (List ℕ × Rel)) → Keeps v w → GiftsStand v gifts → GiftsStand w gifts
gifts_stand_kept v w gifts k h = all_weaker (λ g. Stands v g.1) (λ g. Stands w g.1) (λ g s. keeps_stands v w g.1 k s) gifts h

-- ---- 3
module _ (leaf : ℕ) (script : Script) (turns : ℕ) (lets : List BlockLet) where
  -- nothing yet
  pub none_valued : (w : Worker) (names gifts : List (List ℕ × Rel)) → gifts ≡ [] → AllStand w names →
      ValuedSoFar leaf script turns lets (state_of w names) w w names gifts 0
  none_valued w names gifts e s =
      subst (λ gs. ValuedSoFar leaf script turns lets (state_of w names) w w names gs 0) (sym e)
      (record { keeps = keeps_itself w; names_stand = s; gifts_stand = tt; total = refl; room = omega arith })

  module _ (state : State) (first w : Worker) (names gifts : List (List ℕ × Rel)) (i : ℕ) (l : BlockLet)
      (h : ValuedSoFar leaf script turns lets state first w names gifts i) (less : i < length lets) (at : l ≡ get_or lets i l) where
    abbrev rest : List BlockLet
    rest = drop (i + 1) lets

    abbrev more : Relation → List Evaluated
    more r = evaluated_block script (assigned l.name r (state_of w names)) rest turns

    abbrev value : Evaluated
    value = evaluated script (state_of w names) l.value turns

    opened : drop i lets ≡ l ∷ rest
    opened = drop_more lets i l less ∙ ap (λ x. x ∷ rest) (sym at)

    total : due_of_lets turns lets (evaluated_block script state lets turns) ≡ due_behind (gifts_in w gifts) (due_of_lets turns (l ∷ rest) (after_value value more))
    total = h.total ∙ ap (λ ls. due_behind (gifts_in w gifts) (due_of_lets turns ls (evaluated_block script (state_of w names) ls turns))) opened

    spent : w.made + cost_of_block leaf (after_value value more) ≤ first.made + cost_of_block leaf (evaluated_block script state lets turns)
    spent = subst (λ ls. w.made + cost_of_block leaf (evaluated_block script (state_of w names) ls turns) ≤ first.made + cost_of_block leaf (evaluated_block script state lets turns)) opened h.room

    module _ (new : Worker) (k : Keeps w new) (room : MakesAtMost (cost_of_value leaf value) w new) where
      valued_keeps : Keeps first new
      valued_keeps = keeps_trans first w new h.keeps k

      -- what was made, whatever comes next
      valued_room : MakesAtMost (cost_of_block leaf (evaluated_block script state lets turns)) first new
      valued_room = let a = spent in let b = first_within leaf value more in omega (arith, a, b, room)

      -- the next expression has no value
      valued_stops : (o : Outcome) → Stopped w new l.value turns value Value o →
          BlockStopped first new lets (due_of_lets turns lets (evaluated_block script state lets turns)) o
      valued_stops o (inl s) =
          let r = behind_refused (gifts_in w gifts) s.0 o in
          inl (r.0, total ∙ ap (due_behind (gifts_in w gifts)) (stops turns l rest more value s.0 o s.1) ∙ r.1, s.2)
      valued_stops o (inr (inl s)) = inr (inl (
        s.0,
        compound_at lets i l less at s.1.compound,
        subst IsNotEarly (sym total) (behind_not_early (gifts_in w gifts) _ (block_not_early turns l rest more value s.1.not_ahead)),
        rose_before first.misses w.misses new.misses h.keeps.misses s.1.rose,
      ))
      valued_stops o (inr (inr e)) = inr (inr e)

      -- it has one, and the names have it from here on
      one_valued : (rel : Rel) (own : List ℕ) (later given : List (List ℕ × Rel)) →
          CameTo w new l.value turns value (Ok rel) → own ≡ l.name →
          ((n : List ℕ) → rel_of later n ≡ cond (same_text l.name n) (Some rel) (rel_of names n)) → given ≡ gifts ++ (own, rel) ∷ [] →
          ValuedSoFar leaf script turns lets state first new later given (i + 1)
      one_valued rel own later given came n named pushed =
          subst (λ gs. ValuedSoFar leaf script turns lets state first new later gs (i + 1)) (sym (pushed ∙ ap (λ x. gifts ++ (x, rel) ∷ []) n))
          (record {
            keeps = valued_keeps;
            names_stand = all_stand_assigned new names later l.name rel came.0 (all_stand_kept w new names k h.names_stand) named;
            gifts_stand = all_append (λ g. Stands new g.1) gifts ((l.name, rel) ∷ []) (gifts_stand_kept w new gifts k h.gifts_stand) (came.0, tt);
            total =
                total ∙ ap (due_behind (gifts_in w gifts)) (goes_on turns l rest more value (set_of new rel) (came.1 Value))
                ∙ behind_push (gifts_in w gifts) (l.name, set_of new rel) (due_of_lets turns rest (more (set_of new rel)))
                ∙ ap (λ gs. due_behind (gs ++ (l.name, set_of new rel) ∷ []) (due_of_lets turns rest (more (set_of new rel)))) (sym (gifts_kept w new gifts k h.gifts_stand))
                ∙ ap (λ gs. due_behind gs (due_of_lets turns rest (more (set_of new rel)))) (sym (map-append (λ g. (g.0, set_of new g.1)) gifts ((l.name, rel) ∷ [])))
                ∙ ap (λ st. due_behind (gifts_in new (gifts ++ (l.name, rel) ∷ [])) (due_of_lets turns rest (evaluated_block script st rest turns))) state_is;
            room = let a = spent in let b = costs_on turns l rest more leaf value (set_of new rel) (came.1 Value) in moved_room a b;
          })
        where
          state_is : assigned l.name (set_of new rel) (state_of w names) ≡ state_of new later
          state_is =
              ap (assigned l.name (set_of new rel)) (sym (state_kept w new names k h.names_stand))
              ∙ sym (state_assigned new names later l.name rel came.0 named)

          moved_room : w.made + cost_of_block leaf (after_value value more) ≤ first.made + cost_of_block leaf (evaluated_block script state lets turns) →
              cost_of_block leaf (after_value value more) ≡ cost_of_value leaf value + cost_of_block leaf (more (set_of new rel)) →
              new.made + cost_of_block leaf (evaluated_block script (state_of new later) rest turns) ≤ first.made + cost_of_block leaf (evaluated_block script state lets turns)
          moved_room a b =
              subst (λ st. new.made + cost_of_block leaf (evaluated_block script st rest turns) ≤ first.made + cost_of_block leaf (evaluated_block script state lets turns)) state_is
              (omega (arith, a, b, room))

-- ---- the same with names as the code hands them on
dropped_all : (lets : List BlockLet) (i : ℕ) → length lets ≤ i → drop i lets ≡ []
dropped_all [] zero h = refl
dropped_all [] (suc i) h = refl
dropped_all (l ∷ ls) zero h = absurd (omega (arith, h))
dropped_all (l ∷ ls) (suc i) h = dropped_all ls i (omega (arith, h))

-- at the end of the block all its values are due
pub all_valued : {leaf : ℕ} {script : Script} {turns : ℕ} {lets : List BlockLet} {state : State} {first w : Worker}
    {names : List (List ℕ × Rel)} {i : ℕ} (gifts : Vec (List ℕ × Rel) Global) →
    ValuedSoFar leaf script turns lets state first w names gifts.items i → length lets ≤ i →
    BlockCameOver leaf script state lets turns first w (Ok gifts)
all_valued {leaf} {script} {turns} {lets} {state} {first} {w} {names} {i} gifts h all =
    let over = dropped_all lets i all in
    let r = h.room in
    record {
      came = (
        h.gifts_stand,
        h.total ∙ ap (λ ls. due_behind (gifts_in w gifts.items)
            (due_of_lets turns ls (evaluated_block script (state_of w names) ls turns))) over
            ∙ behind_values (gifts_in w gifts.items),
      );
      keeps = h.keeps;
      room = omega (arith, r);
    }

-- the next expression was computed
module _ {leaf : ℕ} {script : Script} {turns : ℕ} {lets : List BlockLet} {state : State} {first w new : Worker}
    {names gifts given : List (List ℕ × Rel)} {i : ℕ} {result : Result Rel Outcome}
    (l : BlockLet) (h : ValuedSoFar leaf script turns lets state first w names gifts i) (less : i < length lets)
    (at : l ≡ get_or lets i l) (same : given ≡ names)
    (v : CameOver CameTo leaf script given l.value turns w new result) where
  there : CameOver CameTo leaf script names l.value turns w new result
  there = subst (λ ns. CameOver CameTo leaf script ns l.value turns w new result) same v

  step_room : MakesAtMost (cost_of_block leaf (evaluated_block script state lets turns)) first new
  step_room = valued_room leaf script turns lets state first w names gifts i l h less at new there.keeps there.room

  -- it has no value
  pub step_stops : (o : Outcome) → result ≡ Err o → BlockCameOver leaf script state lets turns first new (Err o)
  step_stops o e = record {
    came = valued_stops leaf script turns lets state first w names gifts i l h less at new there.keeps there.room o
        (subst (CameTo w new l.value turns (evaluated script (state_of w names) l.value turns)) e there.came Value);
    keeps = valued_keeps leaf script turns lets state first w names gifts i l h less at new there.keeps there.room;
    room = step_room;
  }

  -- memory ran out after it
  pub step_lacks : BlockCameOver leaf script state lets turns first new (Err NO_MEMORY)
  step_lacks = record {
    came = inr (inr refl);
    keeps = valued_keeps leaf script turns lets state first w names gifts i l h less at new there.keeps there.room;
    room = step_room;
  }

  -- it has a value, which its name now has
  pub step_more : (rel : Rel) (own : List ℕ) (later pushed : List (List ℕ × Rel)) → result ≡ Ok rel → own ≡ l.name →
      ((n : List ℕ) → rel_of later n ≡ cond (same_text l.name n) (Some rel) (rel_of names n)) →
      pushed ≡ gifts ++ (own, rel) ∷ [] →
      ValuedSoFar leaf script turns lets state first new later pushed (i + 1)
  step_more rel own later pushed e =
      one_valued leaf script turns lets state first w names gifts i l h less at new there.keeps there.room rel own
      later pushed
      (subst (CameTo w new l.value turns (evaluated script (state_of w names) l.value turns)) e there.came)

-- a block that stopped is not done
pub block_not_done : (old new : Worker) (lets : List BlockLet) (d : Due) (o : Outcome) → BlockStopped old new lets d o → o ≡ Done → ⊥
block_not_done old new lets d o (inl h) e = subst IsRefusal e h.2
block_not_done old new lets d o (inr (inl h)) e = no_nodes (sym h.0 ∙ e)
  where
    no_nodes : NODES ≡ Done → ⊥
    no_nodes x = cc
block_not_done old new lets d o (inr (inr h)) e = no_memory (sym h ∙ e)
  where
    no_memory : NO_MEMORY ≡ Done → ⊥
    no_memory x = cc

-- gifts that stand, as callers say it
pub all_stand : (w : Worker) (gifts : List (List ℕ × Rel)) → GiftsStand w gifts → All (λ g. Stands w g.1) gifts
all_stand w [] h = All-nil (λ g. Stands w g.1)
all_stand w (g ∷ gs) h = All-cons (λ g. Stands w g.1) g gs h.0 (all_stand w gs h.1)
