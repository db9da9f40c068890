-- Two arrays of quads as one: the first up to a number, and the second from there on.
use Rattle.std.proofs.Common.{◌≡◌, ◌<◌, ◌≤◌, ◌+◌, min, ℕ, List, length, get_or, replicate, set, refl, sym, ap, ◌∙◌, inl, inr, arith}
use Rattle.std.proofs.lemmas.Bool.{cases_eq}
use Rattle.std.proofs.lemmas.List.{length-set, get_or-set_same, get_or-set_other, get_or-replicate}
use Rattle.rel_model.specs.declared.Quad.{Quad}
use Rattle.fork_quads.specs.Forks.{AreAll, AreMerged}

-- the first so many are copied
pub record AreCopied (first second both : List Quad) (k : ℕ) : Type 0 where
  pub size : length both ≡ 64
  pub before : (n : ℕ) (d : Quad) → n < k → n < 64 → get_or both n d ≡ get_or first n d
  pub after : (n : ℕ) (d : Quad) → k ≤ n → n < 64 → get_or both n d ≡ get_or second n d

pub copied_none : (first second : List Quad) → length second ≡ 64 → AreCopied first second second 0
copied_none first second e = record { size = e; before = λ n d l t. absurd (omega (arith, l)); after = λ n d l t. refl }

pub copied_one : (first second both : List Quad) (k : ℕ) (x : Quad) → k < 64 → length first ≡ 64 → AreCopied first second both k → ((d : Quad) → x ≡ get_or first k d) → AreCopied first second (set both k x) (k + 1)
copied_one first second both k x l e s h =
    let z = s.size in record {
      size = length-set both k x ∙ s.size;
      before = λ n d b t. elim (cases_eq n k) [
        | inl g ↦ ap (λ (m : ℕ). get_or (set both k x) m d) g ∙ get_or-set_same both k x d (omega arith) ∙ h d ∙ ap (λ (m : ℕ). get_or first m d) (sym g)
        | inr g ↦ get_or-set_other both k n x d g ∙ s.before n d (omega arith) t
      ];
      after = λ n d b t. get_or-set_other both k n x d (λ g. omega arith) ∙ s.after n d (omega arith) t;
    }

pub copied_all : (first second both : List Quad) (from k : ℕ) → k ≡ min from 64 → AreCopied first second both k → AreMerged first second from both
copied_all first second both from k e s = record {
  before = λ n d l t. s.before n d (omega arith) t;
  after = λ n d l t. s.after n d (omega arith) t;
}

-- ---- one quad in every place
pub filled_all : (q : Quad) → AreAll q (replicate 64 q)
filled_all q n d l = get_or-replicate 64 n q d l
