-- Each step keeps the rule.
-- 1. A ticket that is drawn is another one than those of the passes that wait, also where it is drawn only if it is a number that was named (`draw_allowed`, `draw_where_allowed`).
-- 2. Where the own ticket is served, no other pass has the turn, since no other has that ticket. So the value is at home, and its log is the present one (`look_own`).
-- 3. While a pass holds the turn the present log is the one that it took. With its new entries behind it, its own list and the log grow alike (`serve_goes`).
-- 4. A split cuts the number of passes in two, and a join adds the numbers and keeps the longer log (`split_allowed`, `join_allowed`). After it a load shows that the shorter log begins the longer (`settle_allowed`).
use Rattle.std.proofs.Common.{◌≡◌, ◌<◌, ◌≤◌, ◌≢◌, ◌⊎◌, ◌+◌, ◌-◌, ◌%◌, ◌^◌, eqb, ℕ, true, false, List, [], ◌∷◌, ◌++◌, length, drop, set, refl, sym, ap, subst, ◌∙◌, inl, inr, arith, get_or, Option, Some, None}
use Rattle.std.proofs.Math.ListN.{length-set}
use Rattle.std.proofs.lemmas.List.{append-nil}
use Rattle.std.proofs.lemmas.Bool.{cases_Bool, eq-eqb, ne_eqb, true≢false}
use mathlib.Core.Option.{some, some-injective, some-ne-none}
use mathlib.Core.Option as maybe
use lib.ListN.{get_elem?}
use prog.Atomic.{either}
use Rattle.atomic_table.specs.Table.{State, Me, Act, step, stepped, keeps, takes, gives, Valid, carried_after, Allows, Splits, Joins}
use Rattle.atomic_table.proofs.Lists.{at_set, at_snoc, set_here, set_again}
use Rattle.turn_book.specs.Entries.{Entry}
use Rattle.turn_book.specs.declared.rule.Known.{Known}
use Rattle.turn_book.specs.Logs.{Begins}
use Rattle.turn_book.specs.Origins.{Origin}
use Rattle.turn_book.specs.Rule.{IsSpent, Counted, Queued, Logged, IsOut, Placed, HoldsAt, left_of, right_of, both_of, spent}
use Rattle.turn_book.specs.Tells.{drawn, holding, given, settled, draw_tells, draw_where_tells, look_tells, serve_tells, settle_tells}
use Rattle.turn_book.proofs.Listing.{begins_both, behind, set_at, same_at}
use Rattle.turn_book.proofs.Keeping.{cases_eq, some_is, none_some, slot_is, total_set, total_more, total_one, counted_set, few_wait, queued_same, drawn_queued, served_queued, logged_next, logged_same, queued_more, logged_more, logged_both, placed_more, placed_same}

module _ {S : Type 0} where
  module _ (log : S → List Entry) (origin : S → Origin) (first : S) where
    module _ (passes : ℕ) where
      abbrev pub Rule : State (Option S) (Known S) → Type 0
      Rule s = HoldsAt log origin first passes s

      -- what a step owes in one state
      abbrev Goes : ℕ → Me (Option S) (Known S) → ℕ → (ℕ → ℕ) → (ℕ → Me (Option S) (Known S) → Type 0) → List ℕ → List (maybe.Option (Option S)) → List (Known S) → Type 0
      Goes id m i f then words homes views = (w : Known S) × (a : Act (Option S)) × Valid homes m.1 a
          × Rule (stepped (record { words = words; homes = homes; views = views }) i (f (get_or words i 0)) id m.1 w a) × then (get_or words i 0) (w, carried_after m.1 a)

      -- ---- a ticket is drawn
      pub draw_allowed : (slots id : ℕ) (m : Me (Option S) (Known S)) → m.0.parts ≢ 0 → m.0.ticket ≡ None → m.0.turn ≡ false
          → Allows Rule slots id m 0 (λ n. (n + 1) % 2 ^ 64) (draw_tells (step slots 0 1 0 maybe.none) m)
      draw_allowed slots id m live none idle s r homes at fits =
          subst (λ (ws : List ℕ). Goes id m 0 (λ n. (n + 1) % 2 ^ 64) (draw_tells (step slots 0 1 0 maybe.none) m) ws s.homes s.views) (sym r.words) (
            drawn r.ticket m.0,
            keeps,
            tt,
            record {
              ticket = (r.ticket + 1) % 2 ^ 64;
              serving = r.serving;
              present = r.present;
              words = refl;
              counted = counted_set passes s.views id m.0 (drawn r.ticket m.0) r.counted at refl live;
              queued = drawn_queued r.ticket r.serving s.views id m.0 (drawn r.ticket m.0) r.queued (few_wait passes s.views r.counted) at none refl;
              logged = logged_same r.present s.views id m.0 (drawn r.ticket m.0) r.logged at refl (r.logged.told id m.0 at) refl refl;
              placed = placed_same log origin first r.serving r.present s.homes s.views id m.0 (drawn r.ticket m.0) r.placed at idle refl (λ _. r.placed.one_origin id m.0 at live);
            },
            refl,
          )

      -- the same where it is the number that was named
      pub draw_where_allowed : (slots id number next : ℕ) (m : Me (Option S) (Known S)) → next ≡ (number + 1) % 2 ^ 64 → m.0.parts ≢ 0 → m.0.ticket ≡ None → m.0.turn ≡ false
          → Allows Rule slots id m 0 (λ n. either (eqb n number) next n) (draw_where_tells (step slots 0 number next maybe.none) m)
      draw_where_allowed slots id number next m is live none idle s r homes at fits =
          subst (λ (ws : List ℕ). Goes id m 0 (λ n. either (eqb n number) next n) (draw_where_tells (step slots 0 number next maybe.none) m) ws s.homes s.views) (sym r.words) (elim (cases_eq r.ticket number) [
            | inl e ↦
                (let w = drawn r.ticket m.0 in
                let found : either (eqb r.ticket number) next r.ticket ≡ (r.ticket + 1) % 2 ^ 64 = ap (λ b. either b next r.ticket) (eq-eqb r.ticket number e) ∙ (is ∙ ap (λ (k : ℕ). (k + 1) % 2 ^ 64) (sym e)) in (
                  w,
                  keeps,
                  tt,
                  record {
                    ticket = (r.ticket + 1) % 2 ^ 64;
                    serving = r.serving;
                    present = r.present;
                    words = ap (λ (k : ℕ). k ∷ r.serving ∷ []) found;
                    counted = counted_set passes s.views id m.0 w r.counted at refl live;
                    queued = drawn_queued r.ticket r.serving s.views id m.0 w r.queued (few_wait passes s.views r.counted) at none refl;
                    logged = logged_same r.present s.views id m.0 w r.logged at refl (r.logged.told id m.0 at) refl refl;
                    placed = placed_same log origin first r.serving r.present s.homes s.views id m.0 w r.placed at idle refl (λ _. r.placed.one_origin id m.0 at live);
                  },
                  record { there = λ _. ap (λ (k : ℕ). (drawn k m.0, m.1)) e; gone = λ n. absurd (n e) },
                ))
            | inr other ↦
                (let same : s.views ≡ set s.views id m.0 = sym (set_again s.views id m.0 at) in
                let found : either (eqb r.ticket number) next r.ticket ≡ r.ticket = ap (λ b. either b next r.ticket) (ne_eqb r.ticket number other) in (
                  m.0,
                  keeps,
                  tt,
                  record {
                    ticket = r.ticket;
                    serving = r.serving;
                    present = r.present;
                    words = ap (λ (k : ℕ). k ∷ r.serving ∷ []) found;
                    counted = subst (Counted passes) same r.counted;
                    queued = subst (Queued r.ticket r.serving) same r.queued;
                    logged = subst (Logged r.present) same r.logged;
                    placed = subst (Placed log origin first r.serving r.present s.homes) same r.placed;
                  },
                  record { there = λ e. absurd (other e); gone = λ _. refl },
                ))
          ])

      -- ---- a look at the number that is served
      -- where it is the own ticket, no other pass has the turn
      none_other : (ticket serving : ℕ) (present : List Entry) (homes : List (maybe.Option (Option S))) (views : List (Known S)) (id : ℕ) (v : Known S) → Queued ticket serving views → Placed log origin first serving present homes views
          → get_elem? views id ≡ some v → v.ticket ≡ Some serving → v.turn ≡ false → IsOut log origin first views → ⊥
      none_other ticket serving present homes views id v q p e own idle x =
          let t = p.turn_is x.holder x.view x.at x.holds in
          let s : id ≡ x.holder = q.apart id x.holder v x.view serving e x.at own t.0 in
          true≢false (sym x.holds ∙ (ap (λ (k : Known S). k.turn) (sym (same_at views id x.holder v x.view e x.at s)) ∙ idle))

      look_own : (slots id : ℕ) (m : Me (Option S) (Known S)) (ticket serving : ℕ) (present : List Entry) (homes : List (maybe.Option (Option S))) (views : List (Known S))
          → Counted passes views → Queued ticket serving views → Logged present views → Placed log origin first serving present homes views → get_elem? views id ≡ some m.0 → m.0.parts ≢ 0 → m.0.turn ≡ false → m.0.ticket ≡ Some serving
          → Goes id m 1 (λ n. n) (look_tells log origin (step slots 1 0 0 maybe.none) m) (ticket ∷ serving ∷ []) homes views
      look_own slots id m ticket serving present homes views c q r p at live idle own = elim p.place [
        | inr x ↦ absurd (none_other ticket serving present homes views id m.0 q p at own idle x)
        | inl x ↦
            let y = x.2.value in
            let w = holding (log y) m.0 in
            let slot : get_elem? homes 0 ≡ some (some (Some y)) = x.1 ∙ ap some x.2.there in (
              w,
              takes 0 (Some y),
              slot,
              record {
                ticket = ticket;
                serving = serving;
                present = present;
                words = refl;
                counted = counted_set passes views id m.0 w c at refl live;
                queued = queued_same ticket serving views id m.0 w q at refl;
                logged = logged_next present [] present views id m.0 w (sym (append-nil present)) r at x.2.log_is refl (sym (append-nil m.0.mine)) refl;
                placed = record {
                  one_slot = length-set homes 0 maybe.none ∙ p.one_slot;
                  place = inr (record { holder = id; view = w; at = set_at views id m.0 w at; holds = refl });
                  turn_is = λ i u h k. elim (at_set views id i w u h) [
                    | inl t ↦ subst (λ (z : Known S). (z.ticket ≡ Some serving) × (z.seen ≡ present)) t.1 (own, x.2.log_is)
                    | inr t ↦ absurd (true≢false (sym k ∙ x.2.none_out i u t.1))
                  ];
                  one_origin = λ i u h l. elim (at_set views id i w u h) [
                    | inl t ↦ ap (λ (z : Known S). z.origin) (sym t.1) ∙ p.one_origin id m.0 at live
                    | inr t ↦ p.one_origin i u t.1 l
                  ];
                };
              },
              record {
                own = λ _. (
                  y,
                  refl,
                  subst (λ (l : List Entry). Begins m.0.seen l) (sym x.2.log_is) (r.seen id m.0 at),
                  (λ o h. x.2.origin_is ∙ ap origin (some_is (sym (p.one_origin id m.0 at live) ∙ h))),
                );
                other = λ n. absurd (n own);
              },
            )
      ]

      look_other : (slots id : ℕ) (m : Me (Option S) (Known S)) (ticket serving : ℕ) (present : List Entry) (homes : List (maybe.Option (Option S))) (views : List (Known S))
          → Counted passes views → Queued ticket serving views → Logged present views → Placed log origin first serving present homes views → get_elem? views id ≡ some m.0 → m.0.ticket ≢ Some serving
          → Goes id m 1 (λ n. n) (look_tells log origin (step slots 1 0 0 maybe.none) m) (ticket ∷ serving ∷ []) homes views
      look_other slots id m ticket serving present homes views c q r p at other =
          let same : views ≡ set views id m.0 = sym (set_again views id m.0 at) in (
            m.0,
            keeps,
            tt,
            record {
              ticket = ticket;
              serving = serving;
              present = present;
              words = refl;
              counted = subst (Counted passes) same c;
              queued = subst (Queued ticket serving) same q;
              logged = subst (Logged present) same r;
              placed = subst (Placed log origin first serving present homes) same p;
            },
            record { own = λ e. absurd (other e); other = λ _. refl },
          )

      own_or_other : (t : Option ℕ) (n : ℕ) → (t ≡ Some n) ⊎ (t ≢ Some n)
      own_or_other None n = inr (λ e. none_some e)
      own_or_other (Some t) n = elim (cases_eq t n) [ inl e ↦ inl (ap (λ (k : ℕ). Some k) e) | inr e ↦ inr (λ s. e (some_is s)) ]

      pub look_allowed : (slots id : ℕ) (m : Me (Option S) (Known S)) → m.0.parts ≢ 0 → m.0.turn ≡ false → Allows Rule slots id m 1 (λ n. n) (look_tells log origin (step slots 1 0 0 maybe.none) m)
      look_allowed slots id m live idle s r homes at fits =
          subst (λ (ws : List ℕ). Goes id m 1 (λ n. n) (look_tells log origin (step slots 1 0 0 maybe.none) m) ws s.homes s.views) (sym r.words) (elim (own_or_other m.0.ticket r.serving) [
            | inl own ↦ look_own slots id m r.ticket r.serving r.present s.homes s.views r.counted r.queued r.logged r.placed at live idle own
            | inr other ↦ look_other slots id m r.ticket r.serving r.present s.homes s.views r.counted r.queued r.logged r.placed at other
          ])

      -- ---- the next number is served
      serve_goes : (slots id : ℕ) (m : Me (Option S) (Known S)) (y : S) (ticket serving : ℕ) (present : List Entry) (homes : List (maybe.Option (Option S))) (views : List (Known S))
          → Counted passes views → Queued ticket serving views → Logged present views → Placed log origin first serving present homes views → get_elem? views id ≡ some m.0 → serving < 2 ^ 64 → m.0.parts ≢ 0 → m.0.turn ≡ true
          → Begins m.0.seen (log y) → ((x : S) → m.0.origin ≡ Some x → origin y ≡ origin x)
          → Goes id (m.0, (0, Some y) ∷ []) 1 (λ n. (n + 1) % 2 ^ 64) (serve_tells log (step slots 1 1 0 maybe.none) (m.0, (0, Some y) ∷ [])) (ticket ∷ serving ∷ []) homes views
      serve_goes slots id m y ticket serving present homes views c q r p at small live turn begins same =
          let v = m.0 in
          let w = given (log y) v in
          let mine = p.turn_is id v at turn in
          let new : List Entry = drop (length v.seen) (log y) in
          let grown : log y ≡ present ++ new = behind v.seen (log y) begins ∙ ap (λ (l : List Entry). l ++ new) mine.1 in (
            w,
            gives,
            tt,
            record {
              ticket = ticket;
              serving = (serving + 1) % 2 ^ 64;
              present = log y;
              words = refl;
              counted = counted_set passes views id v w c at refl live;
              queued = served_queued ticket serving views id v w q small at mine.0 refl;
              logged = logged_next present new (log y) views id v w grown r at refl refl refl refl;
              placed = record {
                one_slot = length-set homes 0 (some (Some y)) ∙ p.one_slot;
                place = inl (
                  some (Some y),
                  set_here homes 0 (some (Some y)) (let o = p.one_slot in omega arith),
                  record {
                    value = y;
                    there = refl;
                    log_is = refl;
                    origin_is = same first (p.one_origin id v at live);
                    none_out = λ i u h. elim (at_set views id i w u h) [
                      | inl t ↦ ap (λ (z : Known S). z.turn) (sym t.1)
                      | inr t ↦ elim (cases_Bool u.turn) [
                        | inl k ↦ (let o = p.turn_is i u t.1 k in absurd (t.0 (q.apart i id u v serving t.1 at o.0 mine.0)))
                        | inr k ↦ k
                      ]
                    ];
                  },
                );
                turn_is = λ i u h k. elim (at_set views id i w u h) [
                  | inl t ↦ absurd (true≢false (sym k ∙ ap (λ (z : Known S). z.turn) (sym t.1)))
                  | inr t ↦ (let o = p.turn_is i u t.1 k in absurd (t.0 (q.apart i id u v serving t.1 at o.0 mine.0)))
                ];
                one_origin = λ i u h l. elim (at_set views id i w u h) [
                  | inl t ↦ ap (λ (z : Known S). z.origin) (sym t.1) ∙ p.one_origin id v at live
                  | inr t ↦ p.one_origin i u t.1 l
                ];
              };
            },
            (λ z e. ap (λ (x : S). (given (log x) v, [])) (slot_is e)),
          )

      serve_held : (slots id : ℕ) (v : Known S) (c : List (ℕ × Option S)) (y : S) → c ≡ (0, Some y) ∷ [] → v.parts ≢ 0 → v.turn ≡ true → Begins v.seen (log y) → ((x : S) → v.origin ≡ Some x → origin y ≡ origin x)
          → (s : State (Option S) (Known S)) → Rule s → get_elem? s.views id ≡ some v → get_or s.words 1 0 < 2 ^ 64
          → Goes id (v, c) 1 (λ n. (n + 1) % 2 ^ 64) (serve_tells log (step slots 1 1 0 maybe.none) (v, c)) s.words s.homes s.views
      serve_held slots id v c y has live turn begins same s r at fits =
          subst (λ (c : List (ℕ × Option S)). Goes id (v, c) 1 (λ n. (n + 1) % 2 ^ 64) (serve_tells log (step slots 1 1 0 maybe.none) (v, c)) s.words s.homes s.views) (sym has)
          (subst (λ (ws : List ℕ). Goes id (v, (0, Some y) ∷ []) 1 (λ n. (n + 1) % 2 ^ 64) (serve_tells log (step slots 1 1 0 maybe.none) (v, (0, Some y) ∷ [])) ws s.homes s.views) (sym r.words)
          (serve_goes slots id (v, []) y r.ticket r.serving r.present s.homes s.views r.counted r.queued r.logged r.placed at (subst (λ (ws : List ℕ). get_or ws 1 0 < 2 ^ 64) r.words fits) live turn begins same))

      pub serve_allowed : (slots id : ℕ) (m : Me (Option S) (Known S)) (y : S) → m.1 ≡ (0, Some y) ∷ [] → m.0.parts ≢ 0 → m.0.turn ≡ true → Begins m.0.seen (log y) → ((x : S) → m.0.origin ≡ Some x → origin y ≡ origin x)
          → Allows Rule slots id m 1 (λ n. (n + 1) % 2 ^ 64) (serve_tells log (step slots 1 1 0 maybe.none) m)
      serve_allowed slots id m y has live turn begins same s r homes at fits = serve_held slots id m.0 m.1 y has live turn begins same s r at fits

      -- ---- splitting and joining
      pub split_allowed : (id : ℕ) (v : Known S) → 1 < v.parts → v.turn ≡ false → Splits Rule id v (left_of v) (right_of v)
      split_allowed id v some_left idle s r at =
          let live : v.parts ≢ 0 = omega arith in
          let left = left_of v in
          let right = right_of v in
          let mid = set s.views id left in
          record {
            ticket = r.ticket;
            serving = r.serving;
            present = r.present;
            words = r.words;
            counted = record {
              in_all = (let a = total_set (λ u. u.parts) s.views id v left at in let b = total_more (λ u. u.parts) mid right in let c = r.counted.in_all in omega arith);
              few = r.counted.few;
              idle = λ i u h z. elim (at_snoc mid right u i h) [
                | inl t ↦ elim (at_set s.views id i left u t) [
                  | inl t ↦ (let p : v.parts - 1 ≡ 0 = ap (λ (k : Known S). k.parts) t.1 ∙ z in absurd (omega arith))
                  | inr t ↦ r.counted.idle i u t.1 z
                ]
                | inr t ↦ (let p : 1 ≡ 0 = ap (λ (k : Known S). k.parts) t ∙ z in absurd (omega arith))
              ];
            };
            queued = queued_more r.ticket r.serving mid right (queued_same r.ticket r.serving s.views id v left r.queued at refl) refl;
            logged = logged_more r.present mid right (logged_same r.present s.views id v left r.logged at refl (r.logged.told id v at) refl refl) (r.logged.seen id v at) refl refl refl;
            placed = placed_more log origin first r.serving r.present s.homes mid right (placed_same log origin first r.serving r.present s.homes s.views id v left r.placed at idle idle (λ _. r.placed.one_origin id v at live)) refl (r.placed.one_origin id v at live);
          }

      pub join_allowed : (id other : ℕ) (v w : Known S) → v.parts ≢ 0 → w.parts ≢ 0 → v.turn ≡ false → w.turn ≡ false → w.ticket ≡ None → Joins Rule id v other w (both_of v w) spent
      join_allowed id other v w live also idle still none s r at apart o =
          let both = both_of v w in
          let mid = set s.views id both in
          let ow : get_elem? s.views other ≡ some w = elim (at_set s.views id other both w o) [ inl t ↦ absurd (apart t.0) | inr t ↦ t.1 ] in
          record {
            ticket = r.ticket;
            serving = r.serving;
            present = r.present;
            words = r.words;
            counted = record {
              in_all = (let a = total_set (λ u. u.parts) s.views id v both at in let b = total_set (λ u. u.parts) mid other w spent o in let c = r.counted.in_all in omega arith);
              few = r.counted.few;
              idle = λ i u h z. elim (at_set mid other i spent u h) [
                | inl t ↦ subst IsSpent t.1 (record { no_ticket = refl; no_turn = refl; no_seen = refl; no_mine = refl; no_joined = refl })
                | inr t ↦ elim (at_set s.views id i both u t.1) [
                  | inl t ↦ (let p : v.parts + w.parts ≡ 0 = ap (λ (k : Known S). k.parts) t.1 ∙ z in absurd (live (omega arith)))
                  | inr t ↦ r.counted.idle i u t.1 z
                ]
              ];
            };
            queued = queued_same r.ticket r.serving mid other w spent (queued_same r.ticket r.serving s.views id v both r.queued at refl) o (sym none);
            logged = logged_both r.present s.views id other v w r.logged at ow apart;
            placed = placed_same log origin first r.serving r.present s.homes mid other w spent (placed_same log origin first r.serving r.present s.homes s.views id v both r.placed at idle idle (λ _. r.placed.one_origin id v at live)) o still refl (λ l. absurd (l refl));
          }

      -- ---- a load after a join
      pub settle_allowed : (slots id : ℕ) (m : Me (Option S) (Known S)) → m.0.parts ≢ 0 → m.0.turn ≡ false → length m.0.told ≤ length m.0.seen → Allows Rule slots id m 0 (λ n. n) (settle_tells (step slots 0 0 0 maybe.none) m)
      settle_allowed slots id m live idle short s r homes at fits =
          let v = m.0 in
          let w = settled v in
          subst (λ (ws : List ℕ). Goes id m 0 (λ n. n) (settle_tells (step slots 0 0 0 maybe.none) m) ws s.homes s.views) (sym r.words) (
            w,
            keeps,
            tt,
            record {
              ticket = r.ticket;
              serving = r.serving;
              present = r.present;
              words = refl;
              counted = counted_set passes s.views id v w r.counted at refl live;
              queued = queued_same r.ticket r.serving s.views id v w r.queued at refl;
              logged = logged_same r.present s.views id v w r.logged at refl (r.present, refl) refl refl;
              placed = placed_same log origin first r.serving r.present s.homes s.views id v w r.placed at idle idle (λ _. r.placed.one_origin id v at live);
            },
            (
              refl,
              begins_both v.told v.seen r.present (r.logged.told id v at) (r.logged.seen id v at) short,
              (let a = total_one (λ u. u.parts) s.views id v at in let b = r.counted.in_all in let f = r.counted.few in omega arith),
            ),
          )
