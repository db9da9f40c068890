-- What is remembered stays true where all that stood stands: a worker with the relations of the new one and the counts
-- of the old one keeps what stood in the old one, and lines mean the same in workers with the same relations.
use Rattle.std.proofs.Common.{◌∙◌, refl, sym, ap, subst, arith, Option, None, Some}
use Rattle.std.specs.Prelude.{IfSome}
use Rattle.rel_model.specs.declared.Rel.{Rel}
use Rattle.rel_model.specs.Relation.{Relation}
use Rattle.rel_model.specs.Operators.{transpose}
use Rattle.rel_model.specs.Worker.{Worker, Stands, Gives, Keeps}
use Rattle.rel_model.specs.Seats.{Holds}
use Rattle.rel_model.proofs.Workers.{keeps_stands, keeps_set, keeps_gives}
use Rattle.rel_slices.specs.declared.thin.Thin.{Thin}
use Rattle.rel_slices.specs.declared.thin.Value.TheVariants.{Lines}
use Rattle.rel_slices.specs.declared.recall.Remembered.{Remembered}
use Rattle.rel_slices.specs.declared.recall.Entry.{Entry}
use Rattle.rel_slices.specs.declared.listings.Listing.{Listing}
use Rattle.rel_slices.specs.declared.turnings.Turning.{Turning}
use Rattle.rel_slices.specs.Remembering.{AreLinesOf, IsTrue, IsListed, IsTurned, AllTrue}
use Rattle.rel_slices.proofs.Valuing.{value_same}
use Rattle.rel_slices.proofs.Putting.{thin_later}

-- lines of a relation later on
lines_keep : (u v : Worker) (r : Rel) (s : Thin) → Keeps u v → Stands u r → AreLinesOf u r s → AreLinesOf v r s
lines_keep u v r s k h a = record {
  gives = record {
    stands = thin_later u v s k a.gives.stands;
    means = value_same u v (Lines s) k a.gives.stands ∙ a.gives.means ∙ sym (keeps_set u v r k h);
    row_size = a.gives.row_size;
    col_size = a.gives.col_size;
  };
  long = a.long;
}

true_keeps : (u v : Worker) (e : Entry) → Keeps u v → IsTrue u e → IsTrue v e
true_keeps u v e k t = record { stands = keeps_stands u v e.rel k t.stands; lines = lines_keep u v e.rel e.lines k t.stands t.lines }

some_keeps : (u v : Worker) (o : Option Entry) → Keeps u v → IfSome o (IsTrue u) → IfSome o (IsTrue v)
some_keeps u v None k t = t
some_keeps u v (Some e) k t = true_keeps u v e k t

-- pairs of a relation later on
listing_keeps : (u v : Worker) (o : Option Listing) → Keeps u v → IfSome o (IsListed u) → IfSome o (IsListed v)
listing_keeps u v None k t = t
listing_keeps u v (Some e) k t = record { stands = keeps_stands u v e.rel k t.stands; pairs = t.pairs ∙ sym (ap (λ (r : Relation). r.pairs) (keeps_set u v e.rel k t.stands)) }

-- a transposition later on
turning_keeps : (u v : Worker) (o : Option Turning) → Keeps u v → IfSome o (IsTurned u) → IfSome o (IsTurned v)
turning_keeps u v None k t = t
turning_keeps u v (Some e) k t = record {
  stands = keeps_stands u v e.rel k t.stands;
  turned = subst (λ (r : Relation). Gives v e.rel.cols e.rel.rows (transpose r) e.transposed) (sym (keeps_set u v e.rel k t.stands)) (keeps_gives u v _ _ _ e.transposed k t.turned);
}

pub all_keep : (u v : Worker) (m : Remembered) → Keeps u v → AllTrue u m → AllTrue v m
all_keep u v m k h = record { lines = λ i d l. some_keeps u v _ k (h.lines i d l); listings = λ i d l. listing_keeps u v _ k (h.listings i d l); turnings = λ i d l. turning_keeps u v _ k (h.turnings i d l) }

-- the relations of one worker with the counts of another
abbrev counted_as : Worker → Worker → Worker
counted_as u v = record { relation = v.relation; quad = v.quad; misses = u.misses; made = u.made; house = u.house; spare = u.spare }

keeps_counted : (u v : Worker) → Holds u v → Keeps u (counted_as u v)
keeps_counted u v h = record { same = h.same; same_quads = h.same_quads; house = refl; spare = refl; misses = omega arith; made = omega arith }

-- the counts play no part
recounted : (u v : Worker) (e : Entry) → IsTrue (counted_as u v) e → IsTrue v e
recounted u v e t = record {
  stands = t.stands;
  lines = record {
    gives = record {
      stands = record { few = t.lines.gives.stands.few; limit = t.lines.gives.stands.limit; lines = t.lines.gives.stands.lines };
      means = t.lines.gives.means;
      row_size = t.lines.gives.row_size;
      col_size = t.lines.gives.col_size;
    };
    long = t.lines.long;
  };
}

some_hold : (u v : Worker) (o : Option Entry) → Holds u v → IfSome o (IsTrue u) → IfSome o (IsTrue v)
some_hold u v None h t = t
some_hold u v (Some e) h t = recounted u v e (true_keeps u (counted_as u v) e (keeps_counted u v h) t)

listing_holds : (u v : Worker) (o : Option Listing) → Holds u v → IfSome o (IsListed u) → IfSome o (IsListed v)
listing_holds u v None h t = t
listing_holds u v (Some e) h t = let k = listing_keeps u (counted_as u v) (Some e) (keeps_counted u v h) t in record { stands = k.stands; pairs = k.pairs }

turning_holds : (u v : Worker) (o : Option Turning) → Holds u v → IfSome o (IsTurned u) → IfSome o (IsTurned v)
turning_holds u v None h t = t
turning_holds u v (Some e) h t =
    let k = turning_keeps u (counted_as u v) (Some e) (keeps_counted u v h) t in
    record { stands = k.stands; turned = record { means = k.turned.means; row_size = k.turned.row_size; col_size = k.turned.col_size } }

pub all_hold : (u v : Worker) (m : Remembered) → Holds u v → AllTrue u m → AllTrue v m
all_hold u v m h t = record { lines = λ i d l. some_hold u v _ h (t.lines i d l); listings = λ i d l. listing_holds u v _ h (t.listings i d l); turnings = λ i d l. turning_holds u v _ h (t.turnings i d l) }
