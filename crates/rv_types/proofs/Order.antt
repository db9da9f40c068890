-- The order of faults: it is by three numbers, so the first of a list is the same whether the list is folded from the left or from the right.
use Rattle.std.proofs.Common.{◌≡◌, ◌∙◌, ◌==◌, ◌&&◌, ◌||◌, ℕ, Bool, true, false, cond, nat_lt, List, [], ◌∷◌, Option, Some, None, refl, sym, ap, arith}
use Rattle.std.proofs.lemmas.Bool.Decides.{nat_tests}
use Rattle.lang_model.specs.declared.syntax.Place.{Place}
use Rattle.lang_model.specs.declared.faults.TypeFault.{TypeFault}
use Rattle.lang_model.specs.Checking.{place_of, number_of, precedes, first_of_two, first_fault}
use Rattle.rv_types.specs.declared.found.Cause.{Cause}
use Rattle.rv_types.specs.declared.found.Cause.TheVariants.{Unknown, Arity, Unassigned, Rank, Twice}
use Rattle.rv_types.specs.declared.found.Found.{Found}
use Rattle.rv_types.specs.Found.{number_as, fault_as, spelled, fault, noting, noted}

place_of-fault_as : (cause : Cause) (at : Place) (name : List ℕ) → place_of (fault_as cause at name) ≡ at
place_of-fault_as Unknown at name = refl
place_of-fault_as (Arity takes given) at name = refl
place_of-fault_as Unassigned at name = refl
place_of-fault_as Rank at name = refl
place_of-fault_as Twice at name = refl

number_of-fault_as : (cause : Cause) (at : Place) (name : List ℕ) → number_of (fault_as cause at name) ≡ number_as cause
number_of-fault_as Unknown at name = refl
number_of-fault_as (Arity takes given) at name = refl
number_of-fault_as Unassigned at name = refl
number_of-fault_as Rank at name = refl
number_of-fault_as Twice at name = refl

-- less by the first of three numbers in which two differ
abbrev before : Place → ℕ → Place → ℕ → Bool
before p m q n = nat_lt p.line q.line || ((p.line == q.line) && (nat_lt p.column q.column || ((p.column == q.column) && nat_lt m n)))

precedes-before : (f g : TypeFault) → precedes f g ≡ before (place_of f) (number_of f) (place_of g) (number_of g)
unfolding precedes
precedes-before f g = refl

pub precedes_of_fault : (f g : Found) → precedes (fault f) (fault g) ≡ (nat_lt f.at.line g.at.line || ((f.at.line == g.at.line) && (nat_lt f.at.column g.at.column || ((f.at.column == g.at.column) && nat_lt (number_as f.cause) (number_as g.cause)))))
precedes_of_fault f g = precedes-before (fault f) (fault g)
    ∙ (λ i. before (place_of-fault_as f.cause f.at (spelled f.name) i) (number_of-fault_as f.cause f.at (spelled f.name) i) (place_of-fault_as g.cause g.at (spelled g.name) i) (number_of-fault_as g.cause g.at (spelled g.name) i))

-- ---- one number after another
-- less by a number, or equal and less by the rest
abbrev lex : ℕ → ℕ → Bool → Bool
lex m n rest = nat_lt m n || ((m == n) && rest)

less-trans : (a b c : ℕ) → nat_lt a b ≡ true → nat_lt b c ≡ true → nat_lt a c ≡ true
less-trans a b c p q = grind (arith, nat_tests)

not_less-trans : (a b c : ℕ) → nat_lt a b ≡ false → nat_lt b c ≡ false → nat_lt a c ≡ false
not_less-trans a b c p q = grind (arith, nat_tests)

lex-trans : (a b c : ℕ) (r s t : Bool) → (r ≡ true → s ≡ true → t ≡ true) → lex a b r ≡ true → lex b c s ≡ true → lex a c t ≡ true
lex-trans a b c r s t h p q = grind (arith, nat_tests)

lex-not_trans : (a b c : ℕ) (r s t : Bool) → (r ≡ false → s ≡ false → t ≡ false) → lex a b r ≡ false → lex b c s ≡ false → lex a c t ≡ false
lex-not_trans a b c r s t h p q = grind (arith, nat_tests)

-- ---- the order of faults
precedes-trans : (f g h : TypeFault) → precedes f g ≡ true → precedes g h ≡ true → precedes f h ≡ true
precedes-trans f g h p q =
    precedes-before f h
    ∙ lex-trans (place_of f).line (place_of g).line (place_of h).line _ _ _
    (lex-trans (place_of f).column (place_of g).column (place_of h).column _ _ _ (less-trans (number_of f) (number_of g) (number_of h))) (sym (precedes-before f g) ∙ p) (sym (precedes-before g h) ∙ q)

precedes-not_trans : (f g h : TypeFault) → precedes f g ≡ false → precedes g h ≡ false → precedes f h ≡ false
precedes-not_trans f g h p q =
    precedes-before f h
    ∙ lex-not_trans (place_of f).line (place_of g).line (place_of h).line _ _ _
    (lex-not_trans (place_of f).column (place_of g).column (place_of h).column _ _ _ (not_less-trans (number_of f) (number_of g) (number_of h))) (sym (precedes-before f g) ∙ p) (sym (precedes-before g h) ∙ q)

-- ---- the first of a list
-- the first of the faults so far and of a list's
abbrev joined : Option TypeFault → Option TypeFault → Option TypeFault
joined None y = y
joined (Some f) y = Some (first_of_two f y)

-- the first of three, taken from the left and from the right
least-assoc : (g f h : TypeFault) → cond (precedes h (cond (precedes f g) f g)) h (cond (precedes f g) f g) ≡ cond (precedes (cond (precedes h f) h f) g) (cond (precedes h f) h f) g
least-assoc g f h = by (precedes f g) (precedes h f) refl refl
  where
    by : (a b : Bool) → precedes f g ≡ a → precedes h f ≡ b → cond (precedes h (cond a f g)) h (cond a f g) ≡ cond (precedes (cond b h f) g) (cond b h f) g
    by true true p q = ap (λ c. cond c h f) q ∙ sym (ap (λ c. cond c h g) (precedes-trans h f g q p))
    by true false p q = ap (λ c. cond c h f) q ∙ sym (ap (λ c. cond c f g) p)
    by false true p q = refl
    by false false p q = ap (λ c. cond c h g) (precedes-not_trans h f g q p) ∙ sym (ap (λ c. cond c f g) p)

joined-noting : (t : Option TypeFault) (f : TypeFault) (y : Option TypeFault) → joined (noting t f) y ≡ joined t (joined (Some f) y)
joined-noting None f y = refl
joined-noting (Some g) f None = refl
joined-noting (Some g) f (Some h) = ap Some (least-assoc g f h)

noted-joined : (t : Option TypeFault) (fs : List TypeFault) → noted t fs ≡ joined t (first_fault fs)
noted-joined None [] = refl
noted-joined (Some g) [] = refl
noted-joined t (f ∷ fs) = noted-joined (noting t f) fs ∙ joined-noting t f (first_fault fs)

-- the first of a list, noted one by one
pub noted-first_fault : (fs : List TypeFault) → noted None fs ≡ first_fault fs
noted-first_fault fs = noted-joined None fs
