-- When a turn took its log, the session's entries in it were those of its earlier turns: there is no place for more in the closed log.
use Rattle.std.proofs.Common.{◌≡◌, ◌≤◌, ◌+◌, Bool, true, cond, List, [], ◌∷◌, ◌++◌, map, length, refl, sym, ap, ◌∙◌, inl, inr, arith, append_assoc, length-append}
use Rattle.std.proofs.lemmas.Bool.{cases_Bool}
use Rattle.std.proofs.lemmas.List.{append-nil}
use Rattle.turn_book.specs.Entries.{Entry}
use Rattle.turn_book.specs.Logs.{Begins, pick}
use Rattle.turn_book.proofs.Sharing.{passes}
use Rattle.turn_book.specs.Turns.{Turn, entry_of, Turns, Stand}

pub begins_on : (xs ys zs : List Entry) → Begins xs ys → Begins ys zs → Begins xs zs
begins_on xs ys zs b c = (b.0 ++ c.0, c.1 ∙ (ap (λ (l : List Entry). l ++ c.0) b.1 ∙ append_assoc xs b.0 c.0))

empty_is : (xs : List Entry) → length xs ≡ 0 → xs ≡ []
empty_is [] z = refl
empty_is (x ∷ xs) z = absurd (omega arith)

turns_begin : (ts : List Turn) (old new : List Entry) → Turns ts old new → Begins old new
turns_begin [] old new h = h
turns_begin (t ∷ ts) old new h = begins_on old t.0 new h.0 (begins_on t.0 (t.0 ++ t.1 ∷ []) new (t.1 ∷ [], refl) (turns_begin ts (t.0 ++ t.1 ∷ []) new h.1))

module _ (is : Entry → Bool) where
  pub pick_append : (xs ys : List Entry) → pick is (xs ++ ys) ≡ pick is xs ++ pick is ys
  pick_append [] ys = refl
  pick_append (x ∷ xs) ys = let i = pick_append xs ys in elim (cases_Bool (is x)) [
    | inl t ↦ rw t (ap (λ (l : List Entry). x ∷ l) i)
    | inr f ↦ rw f i
  ]

  own_length : (xs ys : List Entry) → Begins xs ys → length (pick is xs) ≤ length (pick is ys)
  own_length xs ys b = let e : length (pick is ys) ≡ length (pick is xs ++ pick is b.0) = ap length (ap (pick is) b.1 ∙ pick_append xs b.0) in omega (arith, length-append (pick is xs) (pick is b.0))

  pub mid_own : (e : Entry) (xs : List Entry) → is e ≡ true → pick is (xs ++ e ∷ []) ≡ pick is xs ++ e ∷ []
  mid_own e xs t = pick_append xs (e ∷ []) ∙ ap (λ (b : Bool). pick is xs ++ cond b (e ∷ []) []) t

  turns_length : (ts : List Turn) (old new : List Entry) → Turns ts old new → pick is (map entry_of ts) ≡ map entry_of ts → length (pick is old) + length ts ≤ length (pick is new)
  turns_length [] old new h own = let l = own_length old new h in omega arith
  turns_length (t ∷ ts) old new h own =
      let p = passes is t.1 (map entry_of ts) own in
      let mid : List Entry = t.0 ++ t.1 ∷ [] in
      let l = turns_length ts mid new h.1 p.1 in
      let k = own_length old t.0 h.0 in
      let m : length (pick is mid) ≡ length (pick is t.0 ++ t.1 ∷ []) = ap length (mid_own t.1 t.0 p.0) in
      omega (arith, length-append (pick is t.0) (t.1 ∷ []))

  length_entries : (ts : List Turn) → length (map entry_of ts) ≡ length ts
  length_entries [] = refl
  length_entries (t ∷ ts) = let i = length_entries ts in omega arith

  -- each turn's log held of the session's entries just those done before it, by induction: the closed log has those and
  -- one for each turn, so any further one would be one too many
  pub turns_stand : (ts : List Turn) (old new log done : List Entry) → pick is old ≡ done → Turns ts old new → Begins new log → pick is (map entry_of ts) ≡ map entry_of ts → pick is log ≡ done ++ map entry_of ts → Stand is done ts log
  turns_stand [] old new log done own h b mine all = tt
  turns_stand (t ∷ ts) old new log done own h b mine all =
      let p = passes is t.1 (map entry_of ts) mine in
      let took = t.0 in
      let e = t.1 in
      let mid : List Entry = took ++ e ∷ [] in
      let r1 = h.0.0 in
      let took_own : pick is took ≡ done ++ pick is r1 = ap (pick is) h.0.1 ∙ (pick_append old r1 ∙ ap (λ (q : List Entry). q ++ pick is r1) own) in
      let i1 : length (pick is took) ≡ length (done ++ pick is r1) = ap length took_own in
      let i2 : length (pick is mid) ≡ length (pick is took ++ e ∷ []) = ap length (mid_own e took p.0) in
      let i3 = turns_length ts mid new h.1 p.1 in
      let i4 = own_length new log b in
      let i5 : length (pick is log) ≡ length (done ++ e ∷ map entry_of ts) = ap length all in
      let i6 = length_entries ts in
      let none : length (pick is r1) ≡ 0 = omega (arith, length-append done (pick is r1), length-append (pick is took) (e ∷ []), length-append done (e ∷ map entry_of ts)) in
      let took_done : pick is took ≡ done = took_own ∙ (ap (λ (q : List Entry). done ++ q) (empty_is (pick is r1) none) ∙ append-nil done) in
      let mid_done : pick is mid ≡ done ++ e ∷ [] = mid_own e took p.0 ∙ ap (λ (q : List Entry). q ++ e ∷ []) took_done in
      let m = begins_on mid new log (turns_begin ts mid new h.1) b in (
        (m.0, m.1 ∙ append_assoc took (e ∷ []) m.0),
        took_done,
        turns_stand ts mid new log (done ++ e ∷ []) mid_done h.1 b p.1 (all ∙ sym (append_assoc done (e ∷ []) (map entry_of ts))),
      )
