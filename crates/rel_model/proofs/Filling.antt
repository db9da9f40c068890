-- Full words: they stay full, and as many words are stored as there are places from 2 on.
use Rattle.std.proofs.Common.{◌≡◌, ◌<◌, ◌≤◌, ◌≢◌, ◌+◌, eqb, false, suc, ℕ, List, [], ◌∷◌, length, sym, subst, ◌∙◌, arith, get_or}
use Rattle.std.proofs.lemmas.Bool.{ne_eqb}
use Rattle.rel_model.specs.Words.{Extends, IsFull, IsFullOfOthers, stored_count}

-- where every place holds another word, every place is taken
pub full_of_others-full : (words : List ℕ) (word : ℕ) → IsFullOfOthers words word → IsFull words
full_of_others-full words word f n l h = (f n l h).0

-- full words stay full
pub full_stays : (old new : List ℕ) → Extends old new → IsFull old → IsFull new
full_stays old new x f n l h e =
    let taken = f n l (subst (λ (m : ℕ). n < m) x.same_length h) in
    taken (sym (x.kept n taken) ∙ e)

-- where every place is taken, as many words are stored
all_stored : (words : List ℕ) → ((n : ℕ) → n < length words → get_or words n 0 ≢ 0) → stored_count words ≡ length words
all_stored [] f = omega arith
all_stored (w ∷ ws) f =
    let taken : eqb w 0 ≡ false = ne_eqb w 0 (f 0 (omega arith)) in
    let rest = all_stored ws (λ n h. f (suc n) (omega arith)) in
    rw taken (omega arith)

-- full words have at least as many as there are places from 2 on
pub stored_count-full : (words : List ℕ) → IsFull words → length words ≤ stored_count words + 2
stored_count-full [] f = omega arith
stored_count-full (w ∷ []) f = omega arith
stored_count-full (v ∷ w ∷ ws) f =
    let rest = all_stored ws (λ n h. f (suc (suc n)) (omega arith) (omega arith)) in
    omega arith
