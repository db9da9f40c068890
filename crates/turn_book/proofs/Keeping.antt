-- What a step does to the four parts of the rule: the passes, the queue, the log, and the place of the value.
-- 1. A total over all views changes by what one view changes (`total_set`), and grows by one that is added (`total_more`).
-- 2. A ticket that is drawn is the next number behind those of the passes that wait, so it is another one (`drawn_queued`). One that is given back is the first, so those that stay move up by one (`served_queued`).
-- 3. Entries that are put behind the log and behind one list let the log and all lists grow alike (`logged_next`). A pass that is joined to another leaves it its lists (`logged_both`).
-- 4. A step of a pass that has no turn leaves the value where it is (`placed_same`, `placed_more`).
use Rattle.std.proofs.Common.{◌≡◌, ◌<◌, ◌≤◌, ◌≢◌, ◌⊎◌, ◌+◌, ◌-◌, ◌%◌, ◌^◌, eqb, zero, suc, ℕ, Bool, true, false, List, [], ◌∷◌, ◌++◌, set, refl, sym, ap, subst, ◌∙◌, inl, inr, arith, Option, Some, None}
use Rattle.std.proofs.lemmas.Bool.{cases_Bool, eqb-true, eqb-false, true≢false}
use mathlib.Core.Option.{some, some-injective, some-ne-none}
use mathlib.Core.Option as maybe
use lib.ListN.{get_elem?}
use Rattle.atomic_table.proofs.Lists.{at_set, at_snoc, at_longer, set_else, one_turn}
use Rattle.turn_book.specs.Entries.{Entry}
use Rattle.turn_book.specs.declared.rule.Known.{Known}
use Rattle.turn_book.specs.Logs.{Begins, Within, EachWithin, weigh, weigh_all}
use Rattle.turn_book.specs.Origins.{Origin}
use Rattle.turn_book.specs.Rule.{waiting_for, waiting, total, lists, Counted, Queued, Logged, Placed, both_of, spent}
use Rattle.turn_book.proofs.Listing.{next_number, begins_itself, begins_more, longer_whole, longer_one, shorter_one, none_within, within_added, each_within_more, each_within_both, weigh_append, weigh_all_append, set_at, same_at}

-- two numbers are equal or not
pub cases_eq : (m n : ℕ) → (m ≡ n) ⊎ (m ≢ n)
cases_eq m n = elim (cases_Bool (eqb m n)) [ inl e ↦ inl (eqb-true m n e) | inr e ↦ inr (eqb-false m n e) ]

pub some_is : {A : Type 0} {a b : A} → Some a ≡ Some b → a ≡ b
some_is {A} {a} {b} e = ap (λ (o : Option A). value_or a o) e
  where
    value_or : A → Option A → A
    value_or d None = d
    value_or d (Some x) = x

pub none_some : {A : Type 0} {a : A} {X : Type 0} → None ≡ Some a → X
none_some {A} {a} e = absurd (true≢false (ap (λ (o : Option A). none_is o) e))
  where
    none_is : Option A → Bool
    none_is None = true
    none_is (Some x) = false

-- a slot that is held has one value
pub slot_is : {A : Type 0} {a b : A} → ◌≡◌ {A = List (ℕ × Option A)} ((0, Some a) ∷ []) ((0, Some b) ∷ []) → a ≡ b
slot_is {A} {a} {b} e = some_is (ap (λ (l : List (ℕ × Option A)). held l) e)
  where
    held : List (ℕ × Option A) → Option A
    held [] = None
    held (x ∷ xs) = x.1

-- ---- totals
module _ {S : Type 0} where
  -- the total when one view changes
  pub total_set : (f : Known S → ℕ) (views : List (Known S)) (id : ℕ) (v w : Known S) → get_elem? views id ≡ some v → total f (set views id w) + f v ≡ total f views + f w
  total_set f [] id v w e = absurd (some-ne-none v (sym e))
  total_set f (x ∷ xs) zero v w e = let h : f x ≡ f v = ap f (some-injective x v e) in omega arith
  total_set f (x ∷ xs) (suc id) v w e = let h = total_set f xs id v w e in omega arith

  -- the total when one view is added
  pub total_more : (f : Known S → ℕ) (views : List (Known S)) (w : Known S) → total f (views ++ w ∷ []) ≡ total f views + f w
  total_more f [] w = omega arith
  total_more f (v ∷ vs) w = let h = total_more f vs w in omega arith

  -- one view's number is at most the total
  pub total_one : (f : Known S → ℕ) (views : List (Known S)) (id : ℕ) (v : Known S) → get_elem? views id ≡ some v → f v ≤ total f views
  total_one f [] id v e = absurd (some-ne-none v (sym e))
  total_one f (x ∷ xs) zero v e = let h : f x ≡ f v = ap f (some-injective x v e) in omega arith
  total_one f (x ∷ xs) (suc id) v e = let h = total_one f xs id v e in omega arith

  -- so are those of two views together
  pub total_two : (f : Known S → ℕ) (views : List (Known S)) (i j : ℕ) (v w : Known S) → get_elem? views i ≡ some v → get_elem? views j ≡ some w → i ≢ j → f v + f w ≤ total f views
  total_two f [] i j v w e o n = absurd (some-ne-none v (sym e))
  total_two f (x ∷ xs) zero zero v w e o n = absurd (n refl)
  total_two f (x ∷ xs) zero (suc j) v w e o n = let h : f x ≡ f v = ap f (some-injective x v e) in let k = total_one f xs j w o in omega arith
  total_two f (x ∷ xs) (suc i) zero v w e o n = let h : f x ≡ f w = ap f (some-injective x w o) in let k = total_one f xs i v e in omega arith
  total_two f (x ∷ xs) (suc i) (suc j) v w e o n = let k = total_two f xs i j v w e o (λ s. n (ap suc s)) in omega arith

  -- each view's number is at most another one of it
  pub total_under : (f g : Known S → ℕ) (views : List (Known S)) → ((id : ℕ) (v : Known S) → get_elem? views id ≡ some v → f v ≤ g v) → total f views ≤ total g views
  total_under f g [] h = omega arith
  total_under f g (x ∷ xs) h = let a = h 0 x refl in let b = total_under f g xs (λ id v e. h (suc id) v e) in omega arith

  -- ---- the passes
  pub counted_set : (passes : ℕ) (views : List (Known S)) (id : ℕ) (v w : Known S) → Counted passes views → get_elem? views id ≡ some v → w.parts ≡ v.parts → v.parts ≢ 0 → Counted passes (set views id w)
  counted_set passes views id v w c e p live = record {
    in_all = (let t = total_set (λ u. u.parts) views id v w e in let a = c.in_all in omega arith);
    few = c.few;
    idle = λ i u h z. elim (at_set views id i w u h) [
      | inl t ↦ absurd (live (sym p ∙ (ap (λ (k : Known S). k.parts) t.1 ∙ z)))
      | inr t ↦ c.idle i u t.1 z
    ];
  }

  -- each pass that waits stands for one pass at least
  pub waiting_parts : (passes : ℕ) (views : List (Known S)) → Counted passes views → (id : ℕ) (v : Known S) → get_elem? views id ≡ some v → waiting v ≤ v.parts
  waiting_parts passes views c id v e = by v.ticket refl
    where
      by : (t : Option ℕ) → v.ticket ≡ t → waiting v ≤ v.parts
      by None t = rw t (omega arith)
      by (Some k) t = elim (cases_eq v.parts 0) [
        | inl z ↦ none_some (sym (c.idle id v e z).no_ticket ∙ t)
        | inr z ↦ rw t (omega arith)
      ]

  pub few_wait : (passes : ℕ) (views : List (Known S)) → Counted passes views → total waiting views < 2 ^ 32
  few_wait passes views c = let u = total_under waiting (λ v. v.parts) views (waiting_parts passes views c) in let a = c.in_all in let f = c.few in omega arith

  -- ---- the queue
  -- a step that keeps its pass's ticket
  pub queued_same : (ticket serving : ℕ) (views : List (Known S)) (id : ℕ) (v w : Known S) → Queued ticket serving views → get_elem? views id ≡ some v → w.ticket ≡ v.ticket → Queued ticket serving (set views id w)
  queued_same ticket serving views id v w q e same =
      let a : total waiting (set views id w) ≡ total waiting views = (let t = total_set waiting views id v w e in let s : waiting w ≡ waiting v = ap waiting_for same in omega arith) in
      record {
        served = q.served;
        serving_is = q.serving_is;
        ticket_is = q.ticket_is ∙ ap (λ (k : ℕ). (q.served + k) % 2 ^ 64) (sym a);
        in_line = λ i u t h k. elim (at_set views id i w u h) [
          | inl s ↦ (let r = q.in_line id v t e (sym same ∙ (ap (λ (x : Known S). x.ticket) s.1 ∙ k)) in (r.0, (let l = r.1 in omega arith), r.2))
          | inr s ↦ (let r = q.in_line i u t s.1 k in (r.0, (let l = r.1 in omega arith), r.2))
        ];
        apart = λ i j x y t hx hy kx ky. elim (at_set views id i w x hx) [
          | inl s ↦ elim (at_set views id j w y hy) [
            | inl r ↦ s.0 ∙ sym r.0
            | inr r ↦ s.0 ∙ q.apart id j v y t e r.1 (sym same ∙ (ap (λ (x : Known S). x.ticket) s.1 ∙ kx)) ky
          ]
          | inr s ↦ elim (at_set views id j w y hy) [
            | inl r ↦ q.apart i id x v t s.1 e kx (sym same ∙ (ap (λ (x : Known S). x.ticket) r.1 ∙ ky)) ∙ sym r.0
            | inr r ↦ q.apart i j x y t s.1 r.1 kx ky
          ]
        ];
      }

  -- a ticket is drawn: it is none of those that others have
  pub drawn_queued : (ticket serving : ℕ) (views : List (Known S)) (id : ℕ) (v w : Known S) → Queued ticket serving views → total waiting views < 2 ^ 32 → get_elem? views id ≡ some v → v.ticket ≡ None → w.ticket ≡ Some ticket
      → Queued ((ticket + 1) % 2 ^ 64) serving (set views id w)
  drawn_queued ticket serving views id v w q few e none is =
      let n : ℕ = total waiting views in
      let a : total waiting (set views id w) ≡ n + 1 = (let t = total_set waiting views id v w e in let s : waiting w ≡ 1 = ap waiting_for is in let r : waiting v ≡ 0 = ap waiting_for none in omega arith) in
      let new : (j : ℕ) (u : Known S) → get_elem? views j ≡ some u → u.ticket ≡ Some ticket → ⊥ =
      (λ j u h k. let r = q.in_line j u ticket h k in let l = r.1 in
      let s : q.served + r.0 ≡ q.served + n = one_turn (q.served + r.0) (q.served + n) (2 ^ 64) (omega arith) (omega arith) (sym r.2 ∙ q.ticket_is) in omega arith) in
      record {
        served = q.served;
        serving_is = q.serving_is;
        ticket_is = ap (λ (k : ℕ). (k + 1) % 2 ^ 64) q.ticket_is ∙ (next_number (q.served + n) (2 ^ 64) ∙ ap (λ (k : ℕ). k % 2 ^ 64) (let b : q.served + n + 1 ≡ q.served + total waiting (set views id w) = omega arith in b));
        in_line = λ i u t h k. elim (at_set views id i w u h) [
          | inl s ↦ (n, (omega arith), some_is (sym k ∙ (ap (λ (x : Known S). x.ticket) (sym s.1) ∙ is)) ∙ q.ticket_is)
          | inr s ↦ (let r = q.in_line i u t s.1 k in (r.0, (let l = r.1 in omega arith), r.2))
        ];
        apart = λ i j x y t hx hy kx ky. elim (at_set views id i w x hx) [
          | inl s ↦ elim (at_set views id j w y hy) [
            | inl r ↦ s.0 ∙ sym r.0
            | inr r ↦ absurd (new j y r.1 (ky ∙ (sym kx ∙ (ap (λ (x : Known S). x.ticket) (sym s.1) ∙ is))))
          ]
          | inr s ↦ elim (at_set views id j w y hy) [
            | inl r ↦ absurd (new i x s.1 (kx ∙ (sym ky ∙ (ap (λ (x : Known S). x.ticket) (sym r.1) ∙ is))))
            | inr r ↦ q.apart i j x y t s.1 r.1 kx ky
          ]
        ];
      }

  -- the turn is given back: the next number is served
  pub served_queued : (ticket serving : ℕ) (views : List (Known S)) (id : ℕ) (v w : Known S) → Queued ticket serving views → serving < 2 ^ 64 → get_elem? views id ≡ some v → v.ticket ≡ Some serving → w.ticket ≡ None
      → Queued ticket ((serving + 1) % 2 ^ 64) (set views id w)
  served_queued ticket serving views id v w q small e is none =
      let n : ℕ = total waiting views in
      let a : total waiting (set views id w) + 1 ≡ n = (let t = total_set waiting views id v w e in let s : waiting w ≡ 0 = ap waiting_for none in let r : waiting v ≡ 1 = ap waiting_for is in omega arith) in
      let no : (u : Known S) (t : ℕ) → w ≡ u → u.ticket ≡ Some t → ⊥ =
      (λ u t s k. none_some (sym none ∙ (ap (λ (x : Known S). x.ticket) s ∙ k))) in
      record {
        served = q.served + 1;
        serving_is = ap (λ (k : ℕ). (k + 1) % 2 ^ 64) q.serving_is ∙ next_number q.served (2 ^ 64);
        ticket_is = q.ticket_is ∙ ap (λ (k : ℕ). k % 2 ^ 64) (let b : q.served + n ≡ q.served + 1 + total waiting (set views id w) = omega arith in b);
        in_line = λ i u t h k. elim (at_set views id i w u h) [
          | inl s ↦ absurd (no u t s.1 k)
          | inr s ↦ (let r = q.in_line i u t s.1 k in elim (cases_eq r.0 0) [
            | inl z ↦
                (let f : t ≡ serving = r.2 ∙ (ap (λ (k : ℕ). k % 2 ^ 64) (let b : q.served + r.0 ≡ q.served = omega arith in b) ∙ sym q.serving_is) in
                absurd (s.0 (q.apart i id u v t s.1 e k (is ∙ ap (λ (k : ℕ). Some k) (sym f)))))
            | inr z ↦ (r.0 - 1, (let l = r.1 in omega arith), r.2 ∙ ap (λ (k : ℕ). k % 2 ^ 64) (let b : q.served + r.0 ≡ q.served + 1 + (r.0 - 1) = omega arith in b))
          ])
        ];
        apart = λ i j x y t hx hy kx ky. elim (at_set views id i w x hx) [
          | inl s ↦ absurd (no x t s.1 kx)
          | inr s ↦ elim (at_set views id j w y hy) [
            | inl r ↦ absurd (no y t r.1 ky)
            | inr r ↦ q.apart i j x y t s.1 r.1 kx ky
          ]
        ];
      }

  -- ---- the log
  abbrev pub Longest : List Entry → List (Known S) → Type 0
  Longest present views = (id : ℕ) × (v : Known S) × (get_elem? views id ≡ some v) × (v.seen ≡ present)

  pub longest_kept : (present : List Entry) (views : List (Known S)) (id : ℕ) (v w : Known S) → get_elem? views id ≡ some v → w.seen ≡ v.seen → Longest present views → Longest present (set views id w)
  longest_kept present views id v w e s l = elim (cases_eq l.0 id) [
    | inl h ↦ (id, w, set_at views id v w e, s ∙ (ap (λ (x : Known S). x.seen) (same_at views id l.0 v l.1 e l.2 (sym h)) ∙ l.3))
    | inr h ↦ (l.0, l.1, set_else views id l.0 w h ∙ l.2, l.3)
  ]

  -- a pass adds entries to the log and to its own list
  pub logged_next : (present new log : List Entry) (views : List (Known S)) (id : ℕ) (v w : Known S) → log ≡ present ++ new → Logged present views → get_elem? views id ≡ some v → w.seen ≡ log → w.told ≡ v.told → w.mine ≡ v.mine ++ new → w.joined ≡ v.joined
      → Logged log (set views id w)
  logged_next present new log views id v w is r e seen told mine joined =
      subst (λ (l : List Entry). Logged l (set views id w)) (sym is) (record {
        seen = λ i u h. elim (at_set views id i w u h) [
          | inl t ↦ subst (λ (k : Known S). Begins k.seen (present ++ new)) t.1 (subst (λ (l : List Entry). Begins l (present ++ new)) (sym (seen ∙ is)) (begins_itself (present ++ new)))
          | inr t ↦ begins_more u.seen present new (r.seen i u t.1)
        ];
        told = λ i u h. elim (at_set views id i w u h) [
          | inl t ↦ subst (λ (k : Known S). Begins k.told (present ++ new)) t.1 (subst (λ (l : List Entry). Begins l (present ++ new)) (sym told) (begins_more v.told present new (r.told id v e)))
          | inr t ↦ begins_more u.told present new (r.told i u t.1)
        ];
        longest = (id, w, set_at views id v w e, seen ∙ is);
        in_order = λ i u h. elim (at_set views id i w u h) [
          | inl t ↦ (let o = r.in_order id v e in subst (λ (k : Known S). EachWithin (lists k) (present ++ new)) t.1
              (subst (λ (l : List Entry). Within l (present ++ new)) (sym mine) (within_added v.mine present new o.0), subst (λ (l : List (List Entry)). EachWithin l (present ++ new)) (sym joined) (each_within_more v.joined present new o.1)))
          | inr t ↦ each_within_more (lists u) present new (r.in_order i u t.1)
        ];
        exactly = λ h.
            let t = total_set (λ u. weigh_all h (lists u)) views id v w e in
            let x = r.exactly h in
            let m : weigh h w.mine ≡ weigh h v.mine + weigh h new = ap (weigh h) mine ∙ weigh_append h v.mine new in
            let j : weigh_all h w.joined ≡ weigh_all h v.joined = ap (weigh_all h) joined in
            let p = weigh_append h present new in
            omega arith;
      })

  -- a step that keeps what its pass has seen and added
  pub logged_same : (present : List Entry) (views : List (Known S)) (id : ℕ) (v w : Known S) → Logged present views → get_elem? views id ≡ some v → w.seen ≡ v.seen → Begins w.told present → w.mine ≡ v.mine → w.joined ≡ v.joined → Logged present (set views id w)
  logged_same present views id v w r e seen told mine joined = record {
    seen = λ i u h. elim (at_set views id i w u h) [
      | inl t ↦ subst (λ (k : Known S). Begins k.seen present) t.1 (subst (λ (l : List Entry). Begins l present) (sym seen) (r.seen id v e))
      | inr t ↦ r.seen i u t.1
    ];
    told = λ i u h. elim (at_set views id i w u h) [
      | inl t ↦ subst (λ (k : Known S). Begins k.told present) t.1 told
      | inr t ↦ r.told i u t.1
    ];
    longest = longest_kept present views id v w e seen r.longest;
    in_order = λ i u h. elim (at_set views id i w u h) [
      | inl t ↦ (let o = r.in_order id v e in subst (λ (k : Known S). EachWithin (lists k) present) t.1 (subst (λ (l : List Entry). Within l present) (sym mine) o.0, subst (λ (l : List (List Entry)). EachWithin l present) (sym joined) o.1))
      | inr t ↦ r.in_order i u t.1
    ];
    exactly = λ h.
        let t = total_set (λ u. weigh_all h (lists u)) views id v w e in
        let x = r.exactly h in
        let m : weigh h w.mine ≡ weigh h v.mine = ap (weigh h) mine in
        let j : weigh_all h w.joined ≡ weigh_all h v.joined = ap (weigh_all h) joined in
        omega arith;
  }

  -- ---- a pass that was split off
  pub queued_more : (ticket serving : ℕ) (views : List (Known S)) (w : Known S) → Queued ticket serving views → w.ticket ≡ None → Queued ticket serving (views ++ w ∷ [])
  queued_more ticket serving views w q none =
      let a : total waiting (views ++ w ∷ []) ≡ total waiting views = (let t = total_more waiting views w in let z : waiting w ≡ 0 = ap waiting_for none in omega arith) in
      let no : (u : Known S) (t : ℕ) → w ≡ u → u.ticket ≡ Some t → ⊥ =
      (λ u t s k. none_some (sym none ∙ (ap (λ (x : Known S). x.ticket) s ∙ k))) in
      record {
        served = q.served;
        serving_is = q.serving_is;
        ticket_is = q.ticket_is ∙ ap (λ (k : ℕ). (q.served + k) % 2 ^ 64) (sym a);
        in_line = λ i u t h k. elim (at_snoc views w u i h) [
          | inl s ↦ (let r = q.in_line i u t s k in (r.0, (let l = r.1 in omega arith), r.2))
          | inr s ↦ absurd (no u t s k)
        ];
        apart = λ i j x y t hx hy kx ky. elim (at_snoc views w x i hx) [
          | inl s ↦ elim (at_snoc views w y j hy) [ inl r ↦ q.apart i j x y t s r kx ky | inr r ↦ absurd (no y t r ky) ]
          | inr s ↦ absurd (no x t s kx)
        ];
      }

  -- a pass that was split off brings no entries, so the log is made up of the lists as before; each view is one of the
  -- others or the new one, which has seen a beginning of the log
  pub logged_more : (present : List Entry) (views : List (Known S)) (w : Known S) → Logged present views → Begins w.seen present → w.told ≡ [] → w.mine ≡ [] → w.joined ≡ [] → Logged present (views ++ w ∷ [])
  logged_more present views w r seen told mine joined = record {
    seen = λ i u h. elim (at_snoc views w u i h) [ inl t ↦ r.seen i u t | inr t ↦ subst (λ (k : Known S). Begins k.seen present) t seen ];
    told = λ i u h. elim (at_snoc views w u i h) [ inl t ↦ r.told i u t | inr t ↦ subst (λ (k : Known S). Begins k.told present) t (subst (λ (l : List Entry). Begins l present) (sym told) (present, refl)) ];
    longest = (let l = r.longest in (l.0, l.1, at_longer views (w ∷ []) l.0 l.1 l.2, l.3));
    in_order = λ i u h. elim (at_snoc views w u i h) [
      | inl t ↦ r.in_order i u t
      | inr t ↦ subst (λ (k : Known S). EachWithin (lists k) present) t (subst (λ (l : List Entry). Within l present) (sym mine) (none_within present), subst (λ (l : List (List Entry)). EachWithin l present) (sym joined) tt)
    ];
    exactly = λ h.
        let t = total_more (λ u. weigh_all h (lists u)) views w in
        let x = r.exactly h in
        let m : weigh h w.mine ≡ 0 = ap (weigh h) mine in
        let j : weigh_all h w.joined ≡ 0 = ap (weigh_all h) joined in
        omega arith;
  }

  -- ---- a pass that is joined to another
  pub logged_both : (present : List Entry) (views : List (Known S)) (id other : ℕ) (v w : Known S) → Logged present views → get_elem? views id ≡ some v → get_elem? views other ≡ some w → other ≢ id → Logged present (set (set views id (both_of v w)) other spent)
  logged_both present views id other v w r at ow apart =
      let both = both_of v w in
      let mid = set views id both in
      let v_begins = r.seen id v at in
      let w_begins = r.seen other w ow in
      let here : get_elem? (set mid other spent) id ≡ some both = set_else mid other id spent (λ s. apart (sym s)) ∙ set_at views id v both at in
      record {
        seen = λ i u h. elim (at_set mid other i spent u h) [
          | inl t ↦ subst (λ (k : Known S). Begins k.seen present) t.1 (present, refl)
          | inr t ↦ elim (at_set views id i both u t.1) [ inl t ↦ subst (λ (k : Known S). Begins k.seen present) t.1 (longer_one v.seen w.seen present v_begins w_begins) | inr t ↦ r.seen i u t.1 ]
        ];
        told = λ i u h. elim (at_set mid other i spent u h) [
          | inl t ↦ subst (λ (k : Known S). Begins k.told present) t.1 (present, refl)
          | inr t ↦ elim (at_set views id i both u t.1) [ inl t ↦ subst (λ (k : Known S). Begins k.told present) t.1 (shorter_one v.seen w.seen present v_begins w_begins) | inr t ↦ r.told i u t.1 ]
        ];
        longest = (let l = r.longest in elim (cases_eq l.0 id) [
          | inl s ↦ (id, both, here, longer_whole v.seen w.seen present v_begins w_begins (inl (ap (λ (x : Known S). x.seen) (same_at views id l.0 v l.1 at l.2 (sym s)) ∙ l.3)))
          | inr s ↦ elim (cases_eq l.0 other) [
            | inl o ↦ (id, both, here, longer_whole v.seen w.seen present v_begins w_begins (inr (ap (λ (x : Known S). x.seen) (same_at views other l.0 w l.1 ow l.2 (sym o)) ∙ l.3)))
            | inr o ↦ (l.0, l.1, set_else mid other l.0 spent o ∙ (set_else views id l.0 both s ∙ l.2), l.3)
          ]
        ]);
        in_order = λ i u h. elim (at_set mid other i spent u h) [
          | inl t ↦ subst (λ (k : Known S). EachWithin (lists k) present) t.1 (none_within present, tt)
          | inr t ↦ elim (at_set views id i both u t.1) [
            | inl t ↦ (let o = r.in_order id v at in subst (λ (k : Known S). EachWithin (lists k) present) t.1 (o.0, each_within_both v.joined (lists w) present o.1 (r.in_order other w ow)))
            | inr t ↦ r.in_order i u t.1
          ]
        ];
        exactly = λ h.
            let f : Known S → ℕ = λ u. weigh_all h (lists u) in
            let a = total_set f views id v both at in
            let b = total_set f mid other w spent (set_else views id other both apart ∙ ow) in
            let x = r.exactly h in
            let j = weigh_all_append h v.joined (lists w) in
            omega arith;
      }

  module _ (log : S → List Entry) (origin : S → Origin) (first : S) where
    -- ---- the place of the value
    pub placed_more : (serving : ℕ) (present : List Entry) (homes : List (maybe.Option (Option S))) (views : List (Known S)) (w : Known S) → Placed log origin first serving present homes views → w.turn ≡ false → w.origin ≡ Some first
        → Placed log origin first serving present homes (views ++ w ∷ [])
    placed_more serving present homes views w p still same = record {
      one_slot = p.one_slot;
      place = elim p.place [
        | inl x ↦ inl (
          x.0,
          x.1,
          record {
            value = x.2.value;
            there = x.2.there;
            log_is = x.2.log_is;
            origin_is = x.2.origin_is;
            none_out = λ i u h. elim (at_snoc views w u i h) [ inl t ↦ x.2.none_out i u t | inr t ↦ ap (λ (k : Known S). k.turn) (sym t) ∙ still ];
          },
        )
        | inr x ↦ inr (record { holder = x.holder; view = x.view; at = at_longer views (w ∷ []) x.holder x.view x.at; holds = x.holds })
      ];
      turn_is = λ i u h k. elim (at_snoc views w u i h) [ inl t ↦ p.turn_is i u t k | inr t ↦ absurd (true≢false (sym k ∙ (ap (λ (x : Known S). x.turn) (sym t) ∙ still))) ];
      one_origin = λ i u h l. elim (at_snoc views w u i h) [ inl t ↦ p.one_origin i u t l | inr t ↦ ap (λ (x : Known S). x.origin) (sym t) ∙ same ];
    }

    -- a step of a pass that has no turn before and after it
    pub placed_same : (serving : ℕ) (present : List Entry) (homes : List (maybe.Option (Option S))) (views : List (Known S)) (id : ℕ) (v w : Known S) → Placed log origin first serving present homes views → get_elem? views id ≡ some v → v.turn ≡ false
        → w.turn ≡ false → (w.parts ≢ 0 → w.origin ≡ Some first) → Placed log origin first serving present homes (set views id w)
    placed_same serving present homes views id v w p e idle still same = record {
      one_slot = p.one_slot;
      place = elim p.place [
        | inl x ↦ inl (
          x.0,
          x.1,
          record {
            value = x.2.value;
            there = x.2.there;
            log_is = x.2.log_is;
            origin_is = x.2.origin_is;
            none_out = λ i u h. elim (at_set views id i w u h) [ inl t ↦ ap (λ (k : Known S). k.turn) (sym t.1) ∙ still | inr t ↦ x.2.none_out i u t.1 ];
          },
        )
        | inr x ↦ inr (record {
          holder = x.holder;
          view = x.view;
          at = set_else views id x.holder w (λ s. true≢false (sym x.holds ∙ (ap (λ (k : Known S). k.turn) (sym (same_at views id x.holder v x.view e x.at (sym s))) ∙ idle))) ∙ x.at;
          holds = x.holds;
        })
      ];
      turn_is = λ i u h k. elim (at_set views id i w u h) [
        | inl t ↦ absurd (true≢false (sym k ∙ (ap (λ (x : Known S). x.turn) (sym t.1) ∙ still)))
        | inr t ↦ p.turn_is i u t.1 k
      ];
      one_origin = λ i u h l. elim (at_set views id i w u h) [
        | inl t ↦ ap (λ (x : Known S). x.origin) (sym t.1) ∙ same (λ z. l (ap (λ (x : Known S). x.parts) (sym t.1) ∙ z))
        | inr t ↦ p.one_origin i u t.1 l
      ];
    }
