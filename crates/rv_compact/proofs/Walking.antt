-- The walk lists exactly the uses that are reached, each behind those of the names of its word.
-- 1. A name that stands is stored, and so do its names (`stored_at`, `kids_stand`).
-- 2. One more use at the end of a list leaves each use behind those of its names (`closed_more`).
-- 3. So a walk that finds its use, or lists it behind its names, keeps the list closed (`walked_still`, `kids_block`, `kids_pair`, `walked_more`).
use Rattle.std.proofs.Common.{◌≡◌, ◌≢◌, ◌-◌, ◌⊎◌, ◌||◌, eqb, zero, suc, ℕ, Bool, true, false, List, [], ◌∷◌, ◌++◌, length, take, get_or, refl, sym, ap, subst, ◌∙◌, inl, inr, arith, length-append}
use Rattle.std.specs.Prelude.{if◌then◌else◌}
use Rattle.std.specs.List.{list_any}
use Rattle.std.proofs.lemmas.Bool.{false≢true, cases_Bool, cases_lt, eqb-true, eq-eqb, ne_eqb, and_parts, and_from, or_cases, or_left, or_right}
use Rattle.std.proofs.lemmas.List.{get_or_append_left, take-append-le}
use Rattle.std.proofs.lemmas.List.Folds.{list_any-append}
use Rattle.std.proofs.Math.Seq.{get_or-append_seam, take-append_seam}
use Rattle.indexmap.specs.IndexSet.{insert_key}
use Rattle.rel_model.specs.Trees.{first_of, second_of, stands}
use Rattle.rel_model.specs.Uses.{Use, uses_from, same_use}
use Rattle.rel_model.proofs.TreeLaws.{standing, stored_not_0}
use Rattle.rv_compact.specs.Walks.{same_key, has_key, has_use, IsListed, HasKids, IsClosed, KeepsKeys, Walked, WalkedKids}

-- ---- names that stand
-- a name that stands is stored
pub stored_at : (words : List ℕ) (depth n : ℕ) → n ≢ 0 → stands words depth n ≡ true → get_or words n 0 ≢ 0
stored_at words zero n h s = elim (or_cases _ _ s) [ inl e ↦ absurd (h (eqb-true n 0 e)) | inr e ↦ stored_not_0 words n e ]
stored_at words (suc k) n h s = (standing words k n h s).stored

-- both names of its word stand at the depth below
pub kids_stand : (words : List ℕ) (depth n : ℕ) → depth ≢ 0 → n ≢ 0 → stands words depth n ≡ true
    → (stands words (depth - 1) (first_of (get_or words n 0)) ≡ true) × (stands words (depth - 1) (second_of (get_or words n 0)) ≡ true)
kids_stand words zero n d h s = absurd (d refl)
kids_stand words (suc k) n d h s =
    let p = standing words k n h s in
    let e : k ≡ suc k - 1 = omega arith in
    (subst (λ (x : ℕ). stands words x (first_of (get_or words n 0)) ≡ true) e p.first, subst (λ (x : ℕ). stands words x (second_of (get_or words n 0)) ≡ true) e p.second)

-- ---- uses that are reached from a name
pub same_self : (k n : ℕ) → same_key (k, n) (k, n) ≡ true
same_self k n = and_from _ _ (eq-eqb k k refl) (eq-eqb n n refl)

-- the two uses are one
pub same_both : (i m k n : ℕ) → same_key (i, m) (k, n) ≡ true → (i ≡ k) × (m ≡ n)
same_both i m k n e = let p = and_parts _ _ e in (eqb-true i k p.0, eqb-true m n p.1)

-- its own
pub use-self : (words : List ℕ) (k n : ℕ) → n ≢ 0 → has_use (uses_from words k n) k n ≡ true
use-self words zero n h = rw (ne_eqb n 0 h) (or_left _ _ (and_from _ _ (eq-eqb 0 0 refl) (eq-eqb n n refl)))
use-self words (suc k) n h = rw (ne_eqb n 0 h) (or_left _ _ (and_from _ _ (eq-eqb (suc k) (suc k) refl) (eq-eqb n n refl)))

-- those of the first name of its word
pub use-first : (words : List ℕ) (k n i m : ℕ) → n ≢ 0 → has_use (uses_from words k (first_of (get_or words n 0))) i m ≡ true → has_use (uses_from words (suc k) n) i m ≡ true
use-first words k n i m h e =
    let t : Use → Bool = same_use (record { depth = i; name = m }) in
    rw (ne_eqb n 0 h) (or_right _ _ (list_any-append t (uses_from words k (first_of (get_or words n 0))) (uses_from words k (second_of (get_or words n 0))) ∙ or_left _ _ e))

-- those of the second name
pub use-second : (words : List ℕ) (k n i m : ℕ) → n ≢ 0 → has_use (uses_from words k (second_of (get_or words n 0))) i m ≡ true → has_use (uses_from words (suc k) n) i m ≡ true
use-second words k n i m h e =
    let t : Use → Bool = same_use (record { depth = i; name = m }) in
    rw (ne_eqb n 0 h) (or_right _ _ (list_any-append t (uses_from words k (first_of (get_or words n 0))) (uses_from words k (second_of (get_or words n 0))) ∙ or_right _ _ e))

-- a use that is reached at depth 0 is the block's own
pub from-block : (words : List ℕ) (n i m : ℕ) → has_use (uses_from words 0 n) i m ≡ true → (n ≢ 0) × (same_key (i, m) (0, n) ≡ true)
from-block words n i m e = elim (cases_Bool (eqb n 0)) [
  | inl z ↦ absurd (false≢true (rw z at e))
  | inr z ↦ ((λ q. false≢true (sym z ∙ eq-eqb n 0 q)), (let f : (same_key (i, m) (0, n) || false) ≡ true = rw z at e in elim (or_cases (same_key (i, m) (0, n)) false f) [ inl a ↦ a | inr a ↦ absurd (false≢true a) ]))
]

-- a use that is reached at a depth over 0 is the name's own, or reached from a name of its word
pub from-pair : (words : List ℕ) (k n i m : ℕ) → has_use (uses_from words (suc k) n) i m ≡ true → (n ≢ 0) × ((same_key (i, m) (suc k, n) ≡ true)
    ⊎ ((has_use (uses_from words k (first_of (get_or words n 0))) i m ≡ true) ⊎ (has_use (uses_from words k (second_of (get_or words n 0))) i m ≡ true)))
from-pair words k n i m e = elim (cases_Bool (eqb n 0)) [
  | inl z ↦ absurd (false≢true (rw z at e))
  | inr z ↦
      let t : Use → Bool = same_use (record { depth = i; name = m }) in
      let us : List Use = uses_from words k (first_of (get_or words n 0)) in
      let vs : List Use = uses_from words k (second_of (get_or words n 0)) in
      let f : (same_key (i, m) (suc k, n) || list_any t (us ++ vs)) ≡ true = rw z at e in (
        (λ q. false≢true (sym z ∙ eq-eqb n 0 q)),
        elim (or_cases (same_key (i, m) (suc k, n)) (list_any t (us ++ vs)) f) [
          | inl a ↦ inl a
          | inr a ↦ inr (or_cases (list_any t us) (list_any t vs) (sym (list_any-append t us vs) ∙ a))
        ],
      )
]

-- ---- one more use in a list
pub key_more : (keys : List (ℕ × ℕ)) (k n i m : ℕ) → has_key (keys ++ (k, n) ∷ []) i m ≡ (has_key keys i m || (same_key (i, m) (k, n) || false))
key_more keys k n i m = list_any-append (same_key (i, m)) keys ((k, n) ∷ [])

-- names that were listed are listed
pub listed_on : (old new : List (ℕ × ℕ)) (k n : ℕ) → KeepsKeys old new → IsListed old k n → IsListed new k n
listed_on old new k n h l = elim l [ inl e ↦ inl e | inr e ↦ inr (h k n e) ]

pub kids_on : (words : List ℕ) (old new : List (ℕ × ℕ)) (k n : ℕ) → KeepsKeys old new → HasKids words old k n → HasKids words new k n
kids_on words old new zero n h l = tt
kids_on words old new (suc k) n h l = (listed_on old new k _ h l.0, listed_on old new k _ h l.1)

-- a use is put behind those of its names, and the list stays closed: before each of the others stand the same uses, and
-- before the new one all of them
pub closed_more : (words : List ℕ) (keys : List (ℕ × ℕ)) (k n : ℕ) → IsClosed words keys → get_or words n 0 ≢ 0 → HasKids words keys k n → IsClosed words (keys ++ (k, n) ∷ [])
closed_more words keys k n c s h i d l =
    let P : (ℕ × ℕ) → List (ℕ × ℕ) → Type 0 = λ e ks. (get_or words e.1 0 ≢ 0) × HasKids words ks e.0 e.1 in
    elim (cases_lt i (length keys)) [
      | inl a ↦
          let x = get_or_append_left keys ((k, n) ∷ []) d i a in
          let y : take i (keys ++ (k, n) ∷ []) ≡ take i keys = take-append-le i keys ((k, n) ∷ []) (omega arith) in
          subst (λ e. P e (take i (keys ++ (k, n) ∷ []))) (sym x) (subst (P (get_or keys i d)) (sym y) (c i d a))
      | inr a ↦
          let j : i ≡ length keys = (let z = length-append keys ((k, n) ∷ []) in omega arith) in
          let x : get_or (keys ++ (k, n) ∷ []) i d ≡ (k, n) = ap (λ (z : ℕ). get_or (keys ++ (k, n) ∷ []) z d) j ∙ get_or-append_seam keys (k, n) [] d in
          let y : take i (keys ++ (k, n) ∷ []) ≡ keys = ap (λ (z : ℕ). take z (keys ++ (k, n) ∷ [])) j ∙ take-append_seam keys ((k, n) ∷ []) in
          subst (λ e. P e (take i (keys ++ (k, n) ∷ []))) (sym x) (subst (P (k, n)) (sym y) (s, h))
    ]

-- ---- the walk
-- the list stays where the name is 0 or listed
pub walked_still : (words : List ℕ) (keys : List (ℕ × ℕ)) (k n : ℕ) → IsClosed words keys → IsListed keys k n → Walked words k n keys keys
walked_still words keys k n c l = record { closed = c; kept = λ i m h. h; adds = λ i m h. inl h; listed = l }

-- a block has no names
pub kids_block : (words : List ℕ) (keys : List (ℕ × ℕ)) (depth n : ℕ) → depth ≡ 0 → IsClosed words keys → WalkedKids words depth n keys keys
kids_block words keys zero n e c = record { closed = c; kept = λ i m h. h; adds = λ i m h. inl h; kids = tt }
kids_block words keys (suc k) n e c = absurd (omega arith)

-- the walks from both names of a word
pub kids_pair : (words : List ℕ) (old mid new : List (ℕ × ℕ)) (depth n a b : ℕ) → depth ≢ 0 → n ≢ 0 → a ≡ first_of (get_or words n 0) → b ≡ second_of (get_or words n 0)
    → Walked words (depth - 1) a old mid → Walked words (depth - 1) b mid new → WalkedKids words depth n old new
kids_pair words old mid new zero n a b d h p q v w = absurd (d refl)
kids_pair words old mid new (suc k) n a b d h p q v w =
    let e : suc k - 1 ≡ k = omega arith in
    let x : Walked words k (first_of (get_or words n 0)) old mid = subst (λ (y : ℕ). Walked words k y old mid) p (subst (λ (y : ℕ). Walked words y a old mid) e v) in
    let z : Walked words k (second_of (get_or words n 0)) mid new = subst (λ (y : ℕ). Walked words k y mid new) q (subst (λ (y : ℕ). Walked words y b mid new) e w) in
    record {
      closed = z.closed;
      kept = λ i m g. z.kept i m (x.kept i m g);
      adds = λ i m g. elim (z.adds i m g) [
        | inl f ↦ elim (x.adds i m f) [ inl o ↦ inl o | inr u ↦ inr (use-first words k n i m h u) ]
        | inr u ↦ inr (use-second words k n i m h u)
      ];
      kids = (listed_on mid new k _ z.kept x.listed, z.listed);
    }

-- a use that is listed behind those of its names
pub walked_more : (words : List ℕ) (old mid new : List (ℕ × ℕ)) (k n : ℕ) → n ≢ 0 → get_or words n 0 ≢ 0 → WalkedKids words k n old mid → new ≡ insert_key same_key mid (k, n) → Walked words k n old new
walked_more words old mid new k n h s w e = elim (cases_Bool (has_key mid k n)) [
  | inl t ↦ subst (Walked words k n old) (sym (let f : new ≡ mid = e ∙ if_true _ mid (mid ++ (k, n) ∷ []) t in f))
      (record { closed = w.closed; kept = w.kept; adds = w.adds; listed = inr t })
  | inr t ↦ subst (Walked words k n old) (sym (let f : new ≡ mid ++ (k, n) ∷ [] = e ∙ if_false _ mid (mid ++ (k, n) ∷ []) t in f))
      (record {
        closed = closed_more words mid k n w.closed s w.kids;
        kept = λ i m g. key_more mid k n i m ∙ or_left _ _ (w.kept i m g);
        adds = λ i m g. elim (or_cases _ _ (sym (key_more mid k n i m) ∙ g)) [
          | inl f ↦ w.adds i m f
          | inr f ↦ elim (or_cases _ _ f) [
            | inl u ↦ let p = same_both i m k n u in
                inr (subst (λ (x : ℕ). has_use (uses_from words k n) x m ≡ true) (sym p.0) (subst (λ (x : ℕ). has_use (uses_from words k n) k x ≡ true) (sym p.1) (use-self words k n h)))
            | inr u ↦ absurd (false≢true u)
          ]
        ];
        listed = inr (key_more mid k n k n ∙ or_right _ _ (or_left _ _ (same_self k n)));
      })
]
  where
    if_true : (b : Bool) (x y : List (ℕ × ℕ)) → b ≡ true → (if b then x else y) ≡ x
    if_true b x y t = rw t refl

    if_false : (b : Bool) (x y : List (ℕ × ℕ)) → b ≡ false → (if b then x else y) ≡ y
    if_false b x y t = rw t refl
