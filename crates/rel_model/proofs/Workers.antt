-- What a worker keeps over several calls.
use Rattle.std.proofs.Common.{◌≡◌, ◌∙◌, ℕ, [], refl, sym, ap, subst, arith, Option, Some, None}
use Rattle.std.specs.Prelude.{IsSome, unwrap_or}
use Rattle.std.proofs.lemmas.Bool.{false≢true}
use Rattle.rel_model.specs.declared.Rel.{Rel}
use Rattle.rel_model.specs.Relation.{Relation}
use Rattle.rel_model.specs.Worker.{Worker, Stands, set_of, Gives, Keeps}

-- what stands has its set
pub stands_some : (w : Worker) (r : Rel) → Stands w r → w.relation r ≡ Some (set_of w r)
stands_some w r h = at (w.relation r) h
  where
    at : (o : Option Relation) → IsSome o → o ≡ Some (unwrap_or o (record { rows = 0; cols = 0; pairs = [] }))
    at None h = absurd (false≢true h)
    at (Some x) h = refl

-- what is given stands
pub gives_stands : (w : Worker) (m n : ℕ) (value : Relation) (r : Rel) → Gives w m n value r → Stands w r
gives_stands w m n value r g = subst IsSome (sym g.means) refl

-- and has its value
pub gives_set : (w : Worker) (m n : ℕ) (value : Relation) (r : Rel) → Gives w m n value r → set_of w r ≡ value
gives_set w m n value r g = ap (λ o. unwrap_or o (record { rows = 0; cols = 0; pairs = [] })) g.means

pub keeps_itself : (a : Worker) → Keeps a a
keeps_itself a = record { same = λ r s. refl; same_quads = λ q s. refl; house = refl; spare = refl; misses = omega arith; made = omega arith }

pub keeps_trans : (a b c : Worker) → Keeps a b → Keeps b c → Keeps a c
keeps_trans a b c h k = record {
  same = λ r s. k.same r (subst IsSome (sym (h.same r s)) s) ∙ h.same r s;
  same_quads = λ q s. k.same_quads q (subst IsSome (sym (h.same_quads q s)) s) ∙ h.same_quads q s;
  house = k.house ∙ h.house;
  spare = k.spare ∙ h.spare;
  misses = omega (arith, h.misses, k.misses);
  made = omega (arith, h.made, k.made);
}

-- a kept relation keeps its set
pub keeps_set : (a b : Worker) (r : Rel) → Keeps a b → Stands a r → set_of b r ≡ set_of a r
keeps_set a b r k s = ap (λ o. unwrap_or o (record { rows = 0; cols = 0; pairs = [] })) (k.same r s)

-- and stands
pub keeps_stands : (a b : Worker) (r : Rel) → Keeps a b → Stands a r → Stands b r
keeps_stands a b r k s = subst IsSome (sym (k.same r s)) s

-- what is given is given later too
pub keeps_gives : (a b : Worker) (m n : ℕ) (value : Relation) (r : Rel) → Keeps a b → Gives a m n value r → Gives b m n value r
keeps_gives a b m n value r k g = record {
  means = k.same r (gives_stands a m n value r g) ∙ g.means;
  row_size = g.row_size;
  col_size = g.col_size;
}
