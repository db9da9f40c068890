-- Copies, use by use.
-- 1. A copy stays one in words that keep what stood (`copy_on`), and that of a name other than 0 is stored (`copy_stored`).
-- 2. The word of a copy is made of new names of copies, so it is not 0, and its place is a copy (`word_some`, `word_copy`).
-- 3. So the words have the copies of one more use (`copies_begun`, `copies_more`).
use Rattle.std.proofs.Common.{◌≡◌, ◌≢◌, ◌<◌, ◌+◌, ◌-◌, ◌*◌, ◌^◌, ◌%◌, zero, suc, ℕ, List, [], ◌∷◌, ◌++◌, length, replicate, get_or, refl, sym, ap, subst, ◌∙◌, inl, inr, arith, length-append}
use Rattle.std.proofs.Math.Nat.{mod-eq_of_lt}
use Rattle.std.proofs.Math.Seq.{get_or-append_seam}
use Rattle.std.proofs.lemmas.Bool.{cases_lt}
use Rattle.std.proofs.lemmas.List.{get_or_append_left, get_or_default}
use Rattle.rel_model.specs.Trees.{first_of, second_of}
use Rattle.rel_model.specs.Words.{Extends}
use Rattle.rel_model.proofs.NamesStand.{first_of-pair, second_of-pair}
use Rattle.pair_table.proofs.Placing.{cases_eq, vacant_at, vacant_count, vacant_sound}
use Rattle.rel_model.specs.declared.Rel.{Rel}
use Rattle.rv_compact.specs.Walks.{IsClosed, root_depth}
use Rattle.rv_compact.specs.Copies.{IsCopy, IsNamed, IsNewWord, AreCopies, AreNamed, Places}

-- ---- one copy
-- 0 is a copy of 0
pub copy_none : (old new : List ℕ) (k n m : ℕ) → n ≡ 0 → m ≡ 0 → IsCopy old new k n m
copy_none old new zero n m a b = inl (a, b)
copy_none old new (suc k) n m a b = inl (a, b)

pub copy_stored : (old new : List ℕ) (k n m : ℕ) → n ≢ 0 → IsCopy old new k n m → get_or new m 0 ≢ 0
copy_stored old new zero n m h c z = elim c [ inl a ↦ h a.0 | inr a ↦ a.0 (sym a.1 ∙ z) ]
copy_stored old new (suc k) n m h c z = elim c [ inl a ↦ h a.0 | inr a ↦ a.1 z ]

-- a copy stays one where all that stood is kept, by induction on its depth: its word is kept, and so are the copies
-- that it names
pub copy_on : (old new later : List ℕ) → Extends new later → (k n m : ℕ) → IsCopy old new k n m → IsCopy old later k n m
copy_on old new later x zero n m c = elim c [
  | inl a ↦ inl a
  | inr a ↦ inr (a.0, x.kept m (λ z. a.0 (sym a.1 ∙ z)) ∙ a.1)
]
copy_on old new later x (suc k) n m c = elim c [
  | inl a ↦ inl a
  | inr a ↦
      let e : get_or new m 0 ≡ get_or later m 0 = sym (x.kept m a.1) in
      inr (
        a.0,
        (λ z. a.1 (e ∙ z)),
        subst (λ (w : ℕ). IsCopy old later k (first_of (get_or old n 0)) (first_of w)) e (copy_on old new later x k _ _ a.2),
        subst (λ (w : ℕ). IsCopy old later k (second_of (get_or old n 0)) (second_of w)) e (copy_on old new later x k _ _ a.3),
      )
]

-- ---- new names
-- each new name is a copy
abbrev pub NamesCopies : List ℕ → List (ℕ × ℕ) → List ℕ → List ℕ → Type 0
NamesCopies old keys new names = (i : ℕ) (d : ℕ × ℕ) → i < length names → IsCopy old new (get_or keys i d).0 (get_or keys i d).1 (get_or names i 0)

pub named_copy : (old : List ℕ) (keys : List (ℕ × ℕ)) (new names : List ℕ) (k n m : ℕ) → NamesCopies old keys new names → IsNamed keys names k n m → IsCopy old new k n m
named_copy old keys new names k n m c h = elim h [
  | inl a ↦ copy_none old new k n m a.0 a.1
  | inr a ↦
      let d : ℕ × ℕ = (0, 0) in
      let at = a.3 d in
      subst (λ (x : ℕ). IsCopy old new k n x) a.4
      (subst (λ (x : ℕ). IsCopy old new k x (get_or names a.0 0)) at.1 (subst (λ (x : ℕ). IsCopy old new x (get_or keys a.0 d).1 (get_or names a.0 0)) at.0 (c a.0 d a.1)))
]

-- ---- the word of a copy
-- a pair of new names of both names of a word
pub pair_word : (old : List ℕ) (keys : List (ℕ × ℕ)) (names : List ℕ) (depth n a b w : ℕ) → depth ≢ 0 → a < 2 ^ 32 → b < 2 ^ 32 → w ≡ a * 2 ^ 32 % 2 ^ 64 + b
    → IsNamed keys names (depth - 1) (first_of (get_or old n 0)) a → IsNamed keys names (depth - 1) (second_of (get_or old n 0)) b → IsNewWord old keys names depth n w
pair_word old keys names zero n a b w h p q e u v = absurd (h refl)
pair_word old keys names (suc k) n a b w h p q e u v =
    let s : suc k - 1 ≡ k = omega arith in
    let f : w ≡ a * 2 ^ 32 + b = e ∙ ap (λ (x : ℕ). x + b) (mod-eq_of_lt (let l : a * 2 ^ 32 < 2 ^ 64 = omega arith in l)) in
    let x : a ≡ first_of w = sym (ap first_of f ∙ first_of-pair a b q) in
    let y : b ≡ second_of w = sym (ap second_of f ∙ second_of-pair a b q) in (
      subst (λ (z : ℕ). IsNamed keys names k (first_of (get_or old n 0)) z) x (subst (λ (z : ℕ). IsNamed keys names z (first_of (get_or old n 0)) a) s u),
      subst (λ (z : ℕ). IsNamed keys names k (second_of (get_or old n 0)) z) y (subst (λ (z : ℕ). IsNamed keys names z (second_of (get_or old n 0)) b) s v),
    )

pub block_word : (old : List ℕ) (keys : List (ℕ × ℕ)) (names : List ℕ) (depth n w : ℕ) → depth ≡ 0 → w ≡ get_or old n 0 → IsNewWord old keys names depth n w
block_word old keys names zero n w h e = e
block_word old keys names (suc k) n w h e = absurd (omega arith)

-- a word other than 0 has a name other than 0, whose copy is stored; so the word of its copy is not 0
pub word_some : (old : List ℕ) (keys : List (ℕ × ℕ)) (new names : List ℕ) (k n w : ℕ) → NamesCopies old keys new names → get_or new 0 0 ≡ 0 → get_or old n 0 ≢ 0 → IsNewWord old keys names k n w → w ≢ 0
word_some old keys new names zero n w c z h i e = h (sym i ∙ e)
word_some old keys new names (suc k) n w c z h i e =
    let w1 : first_of w ≡ 0 = ap first_of e in
    let w2 : second_of w ≡ 0 = ap second_of e in
    elim (cases_eq (first_of (get_or old n 0)) 0) [
      | inr a ↦ copy_stored old new k _ _ a (named_copy old keys new names k _ _ c i.0) (ap (λ (x : ℕ). get_or new x 0) w1 ∙ z)
      | inl a ↦ elim (cases_eq (second_of (get_or old n 0)) 0) [
        | inr b ↦ copy_stored old new k _ _ b (named_copy old keys new names k _ _ c i.1) (ap (λ (x : ℕ). get_or new x 0) w2 ∙ z)
        | inl b ↦ h (omega arith)
      ]
    ]

pub word_copy : (old : List ℕ) (keys : List (ℕ × ℕ)) (new names later : List ℕ) (k n w m : ℕ) → NamesCopies old keys new names → Extends new later → get_or old n 0 ≢ 0 → w ≢ 0 → IsNewWord old keys names k n w → get_or later m 0 ≡ w
    → IsCopy old later k n m
word_copy old keys new names later zero n w m c x h s i e = inr (h, e ∙ i)
word_copy old keys new names later (suc k) n w m c x h s i e =
    inr (
      h,
      (λ z. s (sym e ∙ z)),
      subst (λ (v : ℕ). IsCopy old later k (first_of (get_or old n 0)) (first_of v)) (sym e) (copy_on old new later x k _ _ (named_copy old keys new names k _ _ c i.0)),
      subst (λ (v : ℕ). IsCopy old later k (second_of (get_or old n 0)) (second_of v)) (sym e) (copy_on old new later x k _ _ (named_copy old keys new names k _ _ c i.1)),
    )

-- ---- all copies
-- vacant words have none
pub copies_begun : (old : List ℕ) (keys : List (ℕ × ℕ)) (new : List ℕ) (n : ℕ) → new ≡ replicate n 0 → AreCopies old keys new []
copies_begun old keys new n e = subst (λ (ws : List ℕ). AreCopies old keys ws []) (sym e) (record {
  sound = vacant_sound n;
  few = (let c = vacant_count n in omega arith);
  copies = λ i d l. absurd (omega arith);
  named = λ m t. absurd (t (vacant_at n m));
})

-- one more use has its copy: the others stay copies, the new word is made of copies, and whatever is stored is one of
-- those before or the new one
pub copies_more : (old : List ℕ) (keys : List (ℕ × ℕ)) (new later names : List ℕ) (w m j : ℕ) (x : ℕ × ℕ) → j ≡ length names → j < length keys → AreCopies old keys new names → get_or old (get_or keys j x).1 0 ≢ 0 → w ≢ 0
    → IsNewWord old keys names (get_or keys j x).0 (get_or keys j x).1 w → Places new later w m → AreCopies old keys later (names ++ m ∷ [])
copies_more old keys new later names w m j x f g a h s i p =
    let more : length (names ++ m ∷ []) ≡ length names + 1 = length-append names (m ∷ []) in
    record {
      sound = p.sound;
      few = (let u = a.few in let v = p.few in omega arith);
      copies = λ k d l. elim (cases_lt k (length names)) [
        | inl b ↦ subst (IsCopy old later (get_or keys k d).0 (get_or keys k d).1) (sym (get_or_append_left names (m ∷ []) 0 k b)) (copy_on old new later p.seen _ _ _ (a.copies k d b))
        | inr b ↦
            let q : k ≡ length names = omega arith in
            let y : get_or (names ++ m ∷ []) k 0 ≡ m = ap (λ (z : ℕ). get_or (names ++ m ∷ []) z 0) q ∙ get_or-append_seam names m [] 0 in
            let o : get_or keys j x ≡ get_or keys k d = get_or_default keys j x d g ∙ ap (λ (z : ℕ). get_or keys z d) (f ∙ sym q) in
            let P : ℕ × ℕ → Type 0 = λ e. IsCopy old later e.0 e.1 (get_or (names ++ m ∷ []) k 0) in
            subst P o (subst (IsCopy old later (get_or keys j x).0 (get_or keys j x).1) (sym y) (word_copy old keys new names later _ _ w m a.copies p.seen h s i p.there))
      ];
      named = λ n t. elim (p.only n t) [
        | inl b ↦ let r = a.named n b in (r.0, (let l = r.1 in omega arith), get_or_append_left names (m ∷ []) 0 r.0 r.1 ∙ r.2)
        | inr b ↦ (length names, omega arith, get_or-append_seam names m [] 0 ∙ sym b)
      ];
    }

-- ---- a step of the loop over uses
-- the use of a step is stored, and its new word is that of a copy
pub record StepWord (old : List ℕ) (keys : List (ℕ × ℕ)) (names : List ℕ) (j : ℕ) (x : ℕ × ℕ) (w : ℕ) : Type 0 where
  pub short : j < length keys
  pub stored : get_or old (get_or keys j x).1 0 ≢ 0
  pub some : w ≢ 0
  pub word : IsNewWord old keys names (get_or keys j x).0 (get_or keys j x).1 w

pub step_word : (old : List ℕ) (keys listed : List (ℕ × ℕ)) (new names seen : List ℕ) (j : ℕ) (x : ℕ × ℕ) (w : ℕ) → listed ≡ keys → seen ≡ names → j < length listed → IsClosed old keys → AreCopies old keys new names
    → IsNewWord old keys seen (get_or listed j x).0 (get_or listed j x).1 w → StepWord old keys names j x w
step_word old keys listed new names seen j x w e f l c a i =
    let g : j < length keys = subst (λ (ks : List (ℕ × ℕ)). j < length ks) e l in
    let h : IsNewWord old keys names (get_or keys j x).0 (get_or keys j x).1 w =
    subst (λ (ks : List (ℕ × ℕ)). IsNewWord old keys names (get_or ks j x).0 (get_or ks j x).1 w) e (subst (λ (ns : List ℕ). IsNewWord old keys ns (get_or listed j x).0 (get_or listed j x).1 w) f i) in
    let s = (c j x g).0 in
    record { short = g; stored = s; some = word_some old keys new names _ _ w a.copies a.sound.distinct.none_at_0 s h; word = h }

pub step_copies : (old : List ℕ) (keys : List (ℕ × ℕ)) (new later names more : List ℕ) (j : ℕ) (x : ℕ × ℕ) (w m n : ℕ) → AreCopies old keys new names → length names ≡ j → length new ≡ n → StepWord old keys names j x w → Places new later w m → more ≡ names ++ m ∷ []
    → AreCopies old keys later more × (length more ≡ j + 1) × (length later ≡ n)
step_copies old keys new later names more j x w m n a l k s p e = (
  subst (AreCopies old keys later) (sym e) (copies_more old keys new later names w m j x (sym l) s.short a s.stored s.some s.word p),
  ap length e ∙ (let z = length-append names (m ∷ []) in omega arith),
  p.seen.same_length ∙ k,
)

-- ---- relations
pub named_more : (keys : List (ℕ × ℕ)) (names : List ℕ) (rels moved more : List Rel) (j : ℕ) (x to : Rel) → AreNamed keys names rels moved j → length moved ≡ j → j < length rels → more ≡ moved ++ to ∷ []
    → to.rows ≡ (get_or rels j x).rows → to.cols ≡ (get_or rels j x).cols → IsNamed keys names (root_depth (get_or rels j x)) (get_or rels j x).root to.root → AreNamed keys names rels more (j + 1) × (length more ≡ j + 1)
named_more keys names rels moved more j x to a l b e r s i =
    let P : Rel → Rel → Type 0 = λ from after. (after.rows ≡ from.rows) × (after.cols ≡ from.cols) × IsNamed keys names (root_depth from) from.root after.root in (
      subst (λ (ms : List Rel). AreNamed keys names rels ms (j + 1)) (sym e) (λ k d h. elim (cases_lt k j) [
        | inl f ↦ subst (P (get_or rels k d)) (sym (get_or_append_left moved (to ∷ []) d k (omega arith))) (a k d f)
        | inr f ↦
            let q : k ≡ length moved = omega arith in
            let y : get_or (moved ++ to ∷ []) k d ≡ to = ap (λ (z : ℕ). get_or (moved ++ to ∷ []) z d) q ∙ get_or-append_seam moved to [] d in
            let o : get_or rels j x ≡ get_or rels k d = get_or_default rels j x d b ∙ ap (λ (z : ℕ). get_or rels z d) (sym l ∙ sym q) in
            subst (P (get_or rels k d)) (sym y) (subst (λ (z : Rel). P z to) o (r, s, i))
      ]),
      ap length e ∙ (let z = length-append moved (to ∷ []) in omega arith),
    )
