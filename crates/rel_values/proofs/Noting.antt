-- A value that is made whole, beside the lines it was.
use Rattle.std.proofs.Common.{◌≡◌, ◌∙◌, sym, subst}
use Rattle.rel_model.specs.declared.Rel.{Rel}
use Rattle.rel_model.specs.Worker.{Worker, Gives, Keeps}
use Rattle.rel_model.proofs.Workers.{gives_set}
use Rattle.rel_slices.specs.declared.thin.Thin.{Thin}
use Rattle.rel_slices.specs.declared.thin.Value.{Value}
use Rattle.rel_slices.specs.declared.thin.Value.TheVariants.{Lines}
use Rattle.rel_slices.specs.Thin.{value_of, value_rows, value_cols}
use Rattle.rel_slices.specs.Remembering.{AreLinesOf}
use Rattle.rel_slices.proofs.Valuing.{value_same, value_stays}
use Rattle.rel_values.specs.Values.{Fits}

own : (u v : Worker) (r : Rel) (s : Thin) → Keeps u v → Fits u (Lines s) → Gives v (value_rows (Lines s)) (value_cols (Lines s)) (value_of u (Lines s)) r → AreLinesOf v r s
own u v r s k f g = record {
  gives = record {
    stands = value_stays u v (Lines s) k f.stands;
    means = value_same u v (Lines s) k f.stands ∙ sym (gives_set v _ _ _ r g);
    row_size = sym g.row_size;
    col_size = sym g.col_size;
  };
  long = f.long;
}

-- the lines of a value are those of the relation that it is made into
pub own_lines : (u v : Worker) (x : Value) (r : Rel) (s : Thin) → x ≡ Lines s → Keeps u v → Fits u x → Gives v (value_rows x) (value_cols x) (value_of u x) r → AreLinesOf v r s
own_lines u v x r s e k f g = own u v r s k (subst (λ y. Fits u y) e f) (subst (λ y. Gives v (value_rows y) (value_cols y) (value_of u y) r) e g)
