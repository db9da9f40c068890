-- Each entry of a session in the closed log is that of a turn: a turn that took less took all before another entry, and one that took more has an entry too many.
use Rattle.std.proofs.Common.{◌≡◌, ◌<◌, ◌≤◌, Bool, true, cond, List, [], ◌∷◌, ◌++◌, map, length, drop, refl, sym, ap, ◌∙◌, inl, inr, arith, append_assoc, length-append}
use Rattle.std.proofs.Math.Seq.{drop-append_seam}
use Rattle.std.proofs.lemmas.Bool.{cases_lt}
use Rattle.turn_book.specs.Entries.{Entry}
use Rattle.turn_book.specs.Logs.{pick}
use Rattle.turn_book.proofs.Listing.{begins_both, begins_whole}
use Rattle.turn_book.proofs.Sharing.{passes}
use Rattle.turn_book.specs.Turns.{Turn, entry_of, Stand, IsTurnOf}
use Rattle.turn_book.proofs.Turning.{pick_append}

-- two places in one log
same_entry : (xs ys xs' ys' : List Entry) (x y : Entry) → xs ≡ ys → xs ++ x ∷ xs' ≡ ys ++ y ∷ ys' → x ≡ y
same_entry xs ys xs' ys' x y s e =
    let t : x ∷ xs' ≡ y ∷ ys' = sym (drop-append_seam xs (x ∷ xs')) ∙ ((λ i. drop (length (s i)) (e i)) ∙ drop-append_seam ys (y ∷ ys')) in
    ap (λ (l : List Entry). first x l) t
  where
    first : Entry → List Entry → Entry
    first d [] = d
    first d (z ∷ zs) = z

-- the place that comes first stands before the other
comes_first : (xs ys xs' ys' : List Entry) (x y : Entry) → xs ++ x ∷ xs' ≡ ys ++ y ∷ ys' → length xs < length ys → (q : List Entry) × (ys ≡ xs ++ x ∷ q)
comes_first xs ys xs' ys' x y e l =
    let b = begins_both (xs ++ x ∷ []) ys (xs ++ x ∷ xs') (xs', sym (append_assoc xs (x ∷ []) xs')) (y ∷ ys', e) (omega (arith, length-append xs (x ∷ []))) in
    (b.0, b.1 ∙ append_assoc xs (x ∷ []) b.0)

module _ (is : Entry → Bool) where
  own_mid : (xs ys : List Entry) (x : Entry) → is x ≡ true → pick is (xs ++ x ∷ ys) ≡ pick is xs ++ x ∷ pick is ys
  own_mid xs ys x t = pick_append is xs (x ∷ ys) ∙ ap (λ (b : Bool). pick is xs ++ cond b (x ∷ pick is ys) (pick is ys)) t

  -- an entry of the session behind those done is a turn's, by induction on the turns: what the next turn took has only
  -- those done, so the entry is that turn's own or stands behind it
  pub found : (ts : List Turn) (done log before after : List Entry) (e : Entry) → Stand is done ts log → pick is (map entry_of ts) ≡ map entry_of ts → pick is log ≡ done ++ map entry_of ts → log ≡ before ++ e ∷ after → is e ≡ true → length done ≤ length (pick is before) → IsTurnOf ts before e
  found [] done log before after e h m all at own more =
      let a : length (pick is log) ≡ length (done ++ []) = ap length all in
      let b : length (pick is log) ≡ length (pick is before ++ e ∷ pick is after) = ap length (ap (pick is) at ∙ own_mid before after e own) in
      absurd (omega (arith, length-append done [], length-append (pick is before) (e ∷ pick is after)))
  found (t ∷ ts) done log before after e h m all at own more =
      let own_all = passes is t.1 (map entry_of ts) m in
      let took = t.0 in
      let place : took ++ t.1 ∷ h.0.0 ≡ before ++ e ∷ after = sym h.0.1 ∙ at in
      elim (cases_lt (length before) (length took)) [
        | inl l ↦
            (let q = comes_first before took after h.0.0 e t.1 (sym place) l in
            let a : length (pick is took) ≡ length (pick is before ++ e ∷ pick is q.0) = ap length (ap (pick is) q.1 ∙ own_mid before q.0 e own) in
            let b : length (pick is took) ≡ length done = ap length h.1 in
            absurd (omega (arith, length-append (pick is before) (e ∷ pick is q.0))))
        | inr g ↦ elim (cases_lt (length took) (length before)) [
          | inl l ↦
              (let q = comes_first took before h.0.0 after t.1 e place l in
              let a : length (pick is before) ≡ length (pick is (took ++ t.1 ∷ q.0)) = ap length (ap (pick is) q.1) in
              let b : length (pick is (took ++ t.1 ∷ q.0)) ≡ length (pick is took ++ t.1 ∷ pick is q.0) = ap length (own_mid took q.0 t.1 own_all.0) in
              let d : length (pick is took) ≡ length done = ap length h.1 in
              let f = found ts (done ++ t.1 ∷ []) log before after e h.2 own_all.1 (all ∙ sym (append_assoc done (t.1 ∷ []) (map entry_of ts))) at own (omega (arith, length-append done (t.1 ∷ []), length-append (pick is took) (t.1 ∷ pick is q.0))) in
              (t ∷ f.0, f.1, f.2, ap (λ (l : List Turn). t ∷ l) f.3, f.4, f.5))
          | inr k ↦
              (let s : took ≡ before = begins_whole took before (begins_both took before log (t.1 ∷ h.0.0, h.0.1) (e ∷ after, at) (omega arith)) (omega arith) in
              ([], ts, t, refl, s, same_entry took before h.0.0 after t.1 e s place))
        ]
      ]
