-- Operations whose result may be too large.
use Rattle.std.proofs.Common.{◌≡◌, ◌≢◌, ◌≤◌, ◌<◌, ◌+◌, ◌*◌, ◌-◌, ◌^◌, ◌∙◌, ◌==◌, ℕ, min, max, Bool, true, false, cond, nat_lt, refl, sym, ap, subst, arith, ◌∷◌, [], Some, Result, Ok, Err, IfOk, codes}
use Rattle.std.proofs.lemmas.Bool.Decides.{nat_tests}
use Rattle.rel_model.specs.declared.Rel.{Rel}
use Rattle.lang_model.specs.declared.syntax.Place.{Place}
use Rattle.rel_model.specs.declared.faults.DomainError.{DomainError}
use Rattle.rel_model.specs.declared.faults.DomainError.TheVariants.{Size as DOMAIN_SIZE, Full as DOMAIN_FULL, NoMemory as DOMAIN_NO_MEMORY}
use Rattle.lang_model.specs.declared.faults.TypeFault.TheVariants.{Mismatch}
use Rattle.rel_model.specs.Algebra.{HasType}
use Rattle.rel_model.specs.Relation.{Relation, size_limit}
use Rattle.rel_model.specs.Worker.{Worker, Stands, Gives, Keeps}
use Rattle.rel_slices.specs.declared.thin.Value.{Value}
use Rattle.rel_values.specs.Values.{Fits as FitsIn, owed, OperatesWithin}
use Rattle.rel_slices.proofs.Valuing.{whole_value}
use Rattle.rel_model.specs.Domains.{HasDomainCause, pairing, right_injection}
use Rattle.lang_model.specs.declared.syntax.Base.{Base}
use Rattle.lang_model.specs.declared.syntax.Base.TheVariants.{Syq, P1, P2, I1}
use Rattle.rel_model.specs.Operators.{symmetric_quotient}
use Rattle.lang_model.specs.Rooms.{wide_cost}
use Rattle.lang_model.specs.Types.{known}
use Rattle.rv_eval.specs.declared.halt.Halt.{Halt}
use Rattle.lang_model.specs.Outcomes.{Cost, Ill, Size, Got, Not, Operation, Makes, Refuses}
use Rattle.lang_model.specs.BaseNames.{base_text}
use Rattle.lang_model.specs.Types.{Fits, Misfit, sizes, type_of, computed_of_two}
use Rattle.lang_model.specs.Mean.{fitting, limited, paired, based, domain_made}
use Rattle.rv_eval.specs.Ends.{EndsOnce, wholly, domain_lifted}
use Rattle.rv_eval.proofs.Operating.{limits_of_fit, no_refusal, same_refusal, same_type, equal_sizes, unequal_sizes}

within_passes : (n m : ℕ) → m ≤ n → nat_lt n m ≡ false
within_passes n m h = grind (arith, nat_tests, h)

over_passes : (n m : ℕ) → n < m → nat_lt n m ≡ true
over_passes n m h = grind (arith, nat_tests, h)

limited_within : (at : Place) (wanted : ℕ) (o : Operation) → wanted ≤ size_limit → limited at wanted o ≡ o
limited_within at wanted o h = ap (λ b. cond b (Refuses (Size at (min wanted (2 ^ 64 - 1)))) o) (within_passes size_limit wanted h)

limited_over : (at : Place) (wanted : ℕ) (o : Operation) → size_limit < wanted → limited at wanted o ≡ Refuses (Size at (min wanted (2 ^ 64 - 1)))
limited_over at wanted o h = ap (λ b. cond b (Refuses (Size at (min wanted (2 ^ 64 - 1)))) o) (over_passes size_limit wanted h)

-- an answer of values within the limit has a wanted size within it
module _ (old new : Worker) (lean : Bool) (at : Place) {leaf : ℕ} (m n wanted room : ℕ) (cost : Cost) (value : Relation) (less : room ≤ cost leaf)
    (row_limit : (r : Rel) → Stands new r → r.rows ≤ size_limit) (col_limit : (r : Rel) → Stands new r → r.cols ≤ size_limit) (reach : m ≤ size_limit → n ≤ size_limit → wanted ≤ size_limit) where
  at_within : (r : Result Value Halt) → wanted ≤ size_limit → EndsOnce leaf old new (Makes value cost) r → EndsOnce leaf old new (limited at wanted (Makes value cost)) r
  at_within r h e = subst (λ o. EndsOnce leaf old new o r) (sym (limited_within at wanted (Makes value cost) h)) e

  -- an operation that may be too large ends as its limited form does: within the limit as it answers, over it
  -- with the size that was wanted, and nothing made
  pub domain_ends : (given : Result Value DomainError) → OperatesWithin leaf lean old new m n value room wanted given → EndsOnce leaf old new (limited at wanted (Makes value cost)) (domain_lifted at given)
  domain_ends (Ok v) o =
      let l = limits_of_fit new v row_limit col_limit o.value.stands in
      let made : new.made ≤ old.made + room = o.room in
      let owes : new.made + owed leaf v ≤ old.made + room = o.owes in
      at_within (Ok v) (reach (subst (λ k. k ≤ size_limit) o.value.row_size l.0) (subst (λ k. k ≤ size_limit) o.value.col_size l.1))
      (record { value = ap (λ (x : Relation). Got x 0) (sym o.value.means); halted = tt; keeps = o.keeps; room = omega (arith, made, less); owes = omega (arith, owes, less); turns = omega arith })
  domain_ends (Err (DOMAIN_SIZE w limit)) o =
      let none : new.made ≤ old.made + 0 = o.nothing o.cause.size.0 in
      subst (λ x. EndsOnce leaf old new x (domain_lifted at (Err (DOMAIN_SIZE w limit)))) (sym (limited_over at wanted (Makes value cost) o.cause.size.0))
      (record { value = tt; halted = ap (λ k. Not (Size at k)) (sym o.cause.size.1); keeps = o.keeps; room = none; owes = tt; turns = omega arith })
  domain_ends (Err DOMAIN_FULL) o =
      let made : new.made ≤ old.made + room = o.room in
      at_within (domain_lifted at (Err DOMAIN_FULL)) o.cause.size (record { value = tt; halted = o.cause.full refl; keeps = o.keeps; room = omega (arith, made, less); owes = tt; turns = omega arith })
  domain_ends (Err DOMAIN_NO_MEMORY) o =
      let made : new.made ≤ old.made + room = o.room in
      at_within (domain_lifted at (Err DOMAIN_NO_MEMORY)) o.cause.size (record { value = tt; halted = tt; keeps = o.keeps; room = omega (arith, made, less); owes = tt; turns = omega arith })

  -- the same in other words
  pub limited_ends : (o : Operation) (given : Result Value DomainError) (result : Result Value Halt) → o ≡ limited at wanted (Makes value cost) → result ≡ domain_lifted at given
      → OperatesWithin leaf lean old new m n value room wanted given → EndsOnce leaf old new o result
  limited_ends o given result e d h = subst (λ x. EndsOnce leaf old new x result) (sym e) (subst (λ x. EndsOnce leaf old new (limited at wanted (Makes value cost)) x) (sym d) (domain_ends given h))

domain_fits : {leaf : ℕ} (old new : Worker) (lean : Bool) (at : Place) (m n room wanted : ℕ) (value : Relation) (given : Result Value DomainError) → OperatesWithin leaf lean old new m n value room wanted given → IfOk (domain_lifted at given) (FitsIn new)
domain_fits old new lean at m n room wanted value (Ok v) o = record { stands = o.value.stands; long = o.long }
domain_fits old new lean at m n room wanted value (Err (DOMAIN_SIZE w l)) o = tt
domain_fits old new lean at m n room wanted value (Err DOMAIN_FULL) o = tt
domain_fits old new lean at m n room wanted value (Err DOMAIN_NO_MEMORY) o = tt

pub limited_fits : {leaf : ℕ} (old new : Worker) (lean : Bool) (at : Place) (m n room wanted : ℕ) (value : Relation) (given : Result Value DomainError) (result : Result Value Halt) → result ≡ domain_lifted at given
    → OperatesWithin leaf lean old new m n value room wanted given → IfOk result (FitsIn new)
limited_fits old new lean at m n room wanted value given result d h = subst (λ x. IfOk x (FitsIn new)) (sym d) (domain_fits old new lean at m n room wanted value given h)

-- an answer that stands whole owes nothing
pub whole_within : {leaf : ℕ} (old new : Worker) (lean : Bool) (m n room wanted : ℕ) (value : Relation) (given : Result Rel DomainError) (whole : Result Value DomainError) → whole ≡ wholly given → IfOk given (Gives new m n value)
    → Keeps old new → new.made ≤ old.made + room → (size_limit < wanted → new.made ≤ old.made + 0) → HasDomainCause lean wanted old new given → OperatesWithin leaf lean old new m n value room wanted whole
whole_within {leaf = leaf} old new lean m n room wanted value given whole e = by given e
  where
    by : (given : Result Rel DomainError) → whole ≡ wholly given → IfOk given (Gives new m n value) → Keeps old new → new.made ≤ old.made + room → (size_limit < wanted → new.made ≤ old.made + 0)
        → HasDomainCause lean wanted old new given → OperatesWithin leaf lean old new m n value room wanted whole
    by (Ok r) e v k d z c = subst (λ x. OperatesWithin leaf lean old new m n value room wanted x) (sym e) (record {
      value = whole_value new m n value r v;
      long = tt;
      keeps = k;
      room = d;
      owes = omega (arith, d);
      nothing = z;
      cause = record { size = tt; full = λ h. absurd (no_refusal h); no_memory = λ l h. absurd (no_refusal h); done = c.done; wanting = λ h. absurd (no_refusal h); over = c.over };
    })
    by (Err x) e v k d z c = subst (λ x. OperatesWithin leaf lean old new m n value room wanted x) (sym e) (record {
      value = tt;
      long = tt;
      keeps = k;
      room = d;
      owes = tt;
      nothing = z;
      cause = record { size = c.size; full = λ h. c.full (same_refusal x DOMAIN_FULL h); no_memory = λ l h. c.no_memory l (same_refusal x DOMAIN_NO_MEMORY h); done = tt; wanting = λ h. c.wanting (same_refusal x DOMAIN_NO_MEMORY h); over = c.over };
    })

module _ (at : Place) {R S : Relation} {m n p q : ℕ} (t : HasType m n R) (u : HasType p q S) where
  tested_rows : (b : Bool) → (m == p) ≡ b → (R.rows == S.rows) ≡ b
  tested_rows b e = ap (λ x. x == S.rows) t.row_size ∙ ap (λ x. m == x) u.row_size ∙ e

  pub pair_fits : m ≡ p → paired at R S ≡ limited at (n * q) (Makes (pairing R S) (wide_cost m (max n q) (n * q)))
  unfolding paired
  pair_fits e =
      ap (λ b. fitting (cond b (Fits (type_of (Some R.rows) (computed_of_two (λ m p. m * p) (Some R.cols) (Some S.cols)))) (Misfit (Mismatch at (codes "[") (sizes R) (sizes S)))) (limited at (R.cols * S.cols) (Makes (pairing R S) (wide_cost R.rows (max R.cols S.cols) (R.cols * S.cols))))) (tested_rows true (equal_sizes m p e))
      ∙ ap (λ k. limited at (k * S.cols) (Makes (pairing R S) (wide_cost R.rows (max k S.cols) (k * S.cols)))) t.col_size ∙ ap (λ k. limited at (n * k) (Makes (pairing R S) (wide_cost R.rows (max n k) (n * k)))) u.col_size
      ∙ ap (λ k. limited at (n * q) (Makes (pairing R S) (wide_cost k (max n q) (n * q)))) t.row_size

  pub pair_misfit : (m == p) ≡ false → paired at R S ≡ Refuses (Ill (Mismatch at (codes "[") (known m n) (known p q)))
  unfolding paired
  pair_misfit e =
      ap (λ b. fitting (cond b (Fits (type_of (Some R.rows) (computed_of_two (λ m p. m * p) (Some R.cols) (Some S.cols)))) (Misfit (Mismatch at (codes "[") (sizes R) (sizes S)))) (limited at (R.cols * S.cols) (Makes (pairing R S) (wide_cost R.rows (max R.cols S.cols) (R.cols * S.cols))))) (tested_rows false e)
      ∙ ap (λ x. Refuses (Ill (Mismatch at (codes "[") x (sizes S)))) (same_type R m n t.row_size t.col_size) ∙ ap (λ x. Refuses (Ill (Mismatch at (codes "[") (known m n) x))) (same_type S p q u.row_size u.col_size)

  pub syq_fits : m ≡ p → based at Syq (R ∷ S ∷ []) ≡ Makes (symmetric_quotient R S) (wide_cost m n q)
  unfolding based
  syq_fits e =
      ap (λ b. fitting (cond b (Fits (type_of (Some R.cols) (Some S.cols))) (Misfit (Mismatch at (base_text Syq) (sizes R) (sizes S)))) (Makes (symmetric_quotient R S) (wide_cost R.rows R.cols S.cols))) (tested_rows true (equal_sizes m p e))
      ∙ ap (λ k. Makes (symmetric_quotient R S) (wide_cost k R.cols S.cols)) t.row_size ∙ ap (λ k. Makes (symmetric_quotient R S) (wide_cost m k S.cols)) t.col_size ∙ ap (λ k. Makes (symmetric_quotient R S) (wide_cost m n k)) u.col_size

  pub syq_misfit : m ≢ p → based at Syq (R ∷ S ∷ []) ≡ Refuses (Ill (Mismatch at (base_text Syq) (known m n) (known p q)))
  unfolding based
  syq_misfit e =
      ap (λ b. fitting (cond b (Fits (type_of (Some R.cols) (Some S.cols))) (Misfit (Mismatch at (base_text Syq) (sizes R) (sizes S)))) (Makes (symmetric_quotient R S) (wide_cost R.rows R.cols S.cols))) (tested_rows false (unequal_sizes m p e))
      ∙ ap (λ x. Refuses (Ill (Mismatch at (base_text Syq) x (sizes S)))) (same_type R m n t.row_size t.col_size) ∙ ap (λ x. Refuses (Ill (Mismatch at (base_text Syq) (known m n) x))) (same_type S p q u.row_size u.col_size)

pub other_domain : (at : Place) (base : Base) (x y : ℕ) → base ≢ P1 → base ≢ P2 → base ≢ I1 → domain_made at base x y ≡ limited at (x + y) (Makes (right_injection x y) (wide_cost x y (x + y)))
other_domain at P1 x y a b c = absurd (a refl)
other_domain at P2 x y a b c = absurd (b refl)
other_domain at I1 x y a b c = absurd (c refl)
other_domain at base x y a b c = refl
