-- For callers: the set of an answer, and an equation from three sets.
use Rattle.std.proofs.Common.{◌≡◌, ◌≤◌, ℕ, Some, sym, ap, ◌∙◌}
use Rattle.rel_model.specs.Cells.{Cells}
use Rattle.rel_model.specs.Trees.{bottom_height, top_height}
use Rattle.rel_model.specs.Words.{IsDistinct}
use Rattle.rel_model.specs.Equations.{Operator, Transpose, IsTrueIn, depth_of, side_of, result_of}
use Rattle.rel_model.specs.Views.{View, IsSet}
use Rattle.rel_model.proofs.NamesStand.{set_stays}
use Rattle.memo_laws.specs.Looking.{Looks}

-- the operator's result on two sets that are known by their names
result_of-same : (op : Operator) (m : ℕ) (c d f g : Cells) → c ≡ f → d ≡ g → result_of op m c d ≡ result_of op m f g
result_of-same op m c d f g x y = ap (λ (e : Cells). result_of op m e d) x ∙ ap (λ (e : Cells). result_of op m f e) y

-- the answer of `look` has the operator's result on the sets of the operands
pub answer_set : (old new : View) (op : Operator) (height a b r : ℕ) (f g : Cells) → IsDistinct old.words → IsDistinct new.words → Looks op height a b old new (Some r) → IsSet old (depth_of height) a f → IsSet old (depth_of height) b g
    → IsSet new (depth_of height) r (result_of op (side_of height) f g)
answer_set old new op height a b r f g d e l x y =
    let p = set_stays old new l.keeps.seen d e (depth_of height) a f x in
    let q = set_stays old new l.keeps.seen d e (depth_of height) b g y in
    record { standing = l.holds.r_stands; means = l.holds.means ∙ result_of-same op (side_of height) _ _ f g p.means q.means }

-- an equation is true where the third set is the operator's result on the others
pub true_from : (v : View) (op : Operator) (height a b r : ℕ) (f g : Cells) → bottom_height ≤ height → height ≤ top_height → (op ≡ Transpose → b ≡ 0) → IsSet v (depth_of height) a f → IsSet v (depth_of height) b g
    → IsSet v (depth_of height) r (result_of op (side_of height) f g) → IsTrueIn v.words (record { op = op; height = height; a = a; b = b; r = r })
true_from v op height a b r f g l h o x y z = record {
  low = l;
  high = h;
  a_stands = x.standing;
  b_stands = y.standing;
  r_stands = z.standing;
  one_operand = o;
  means = z.means ∙ sym (result_of-same op (side_of height) _ _ f g x.means y.means);
}
