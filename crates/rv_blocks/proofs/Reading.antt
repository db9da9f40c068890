-- What is read assignment after assignment is what the block reads.
--
-- 1. A name is among what was found in the end exactly if it was before, or is read and was not given a value.
-- 2. Two sets in order with the same names are one.
use Rattle.std.proofs.Common.{◌≡◌, ◌≤◌, ◌∙◌, length, drop, ◌&&◌, ◌||◌, ℕ, Bool, true, false, cond, not, List, [], ◌∷◌, filter, Option, Some, None, is_some, refl, sym, ap}
use Rattle.std.specs.Ordering.{eq_by_cmp}
use Rattle.std.specs.Cmp.{eq_by_cmp_equiv}
use Rattle.std.specs.Cmp.Lexicographic.{nat_list_cmp_total, texts_ties}
use Rattle.std.specs.List.{list_any}
use Rattle.std.proofs.lemmas.List.{drop_all}
use Rattle.std.proofs.lemmas.List.Folds.{list_any-append}
use Rattle.lang_model.specs.declared.syntax.Let.{Let}
use Rattle.lang_model.specs.Tokens.{same_text}
use Rattle.lang_model.specs.Eval.{names_in}
use Rattle.lang_model.specs.Blocks.{names_read}
use Rattle.run_model.specs.Names.{compare, Names, lookup, set, names_of, IsIncreasing}
use Rattle.run_model.specs.Blocks.{as_set, block_reads}
use Rattle.run_model.proofs.Ordering.{names_laws, one_name}
use Rattle.rv_blocks.specs.Reads.{put_new, read_on}

abbrev Set : Type 0
Set = Names (Unit {0})

-- whether a name is among names
abbrev among : List (List ℕ) → List ℕ → Bool
among names q = list_any (eq_by_cmp compare q) names

-- a set has a name, or what it had
abbrev there : Bool → Option (Unit {0}) → Option (Unit {0})
there b o = cond b (Some tt) o

pub lookup-as_set : (names : List (List ℕ)) (q : List ℕ) → lookup (as_set names) q ≡ there (among names q) None
lookup-as_set [] q = refl
lookup-as_set (n ∷ ns) q =
    names_laws.set_name q n tt (as_set ns) ∙ ap (λ o. cond (eq_by_cmp compare q n) (Some tt) o) (lookup-as_set ns q)
    ∙ either (eq_by_cmp compare q n) (among ns q)
  where
    either : (a b : Bool) → cond a (Some tt) (there b None) ≡ there (a || b) None
    either true b = refl
    either false b = refl

as_set-increasing : (names : List (List ℕ)) → IsIncreasing (as_set names)
as_set-increasing [] = tt
as_set-increasing (n ∷ ns) = names_laws.set_in_order n tt (as_set ns) (as_set-increasing ns)

-- the set then has the names that it had, and those of the list that were not given a value, by induction: each one is
-- put in or stays out
lookup-put_new : (given : Set) (names : List (List ℕ)) (found : Set) (q : List ℕ)
    → lookup (put_new given names found) q ≡ there (among names q && not (is_some (lookup given q))) (lookup found q)
lookup-put_new given [] found q = refl
lookup-put_new given (n ∷ ns) found q =
    lookup-put_new given ns (cond (is_some (lookup given n)) found (set n tt found)) q
    ∙ ap (there (among ns q && not (is_some (lookup given q)))) (one (is_some (lookup given n)) refl (eq_by_cmp compare q n) refl)
    ∙ either (eq_by_cmp compare q n) (among ns q) (not (is_some (lookup given q))) (lookup found q)
  where
    -- what one name adds
    one : (g : Bool) → is_some (lookup given n) ≡ g → (t : Bool) → eq_by_cmp compare q n ≡ t
        → lookup (cond g found (set n tt found)) q ≡ there (eq_by_cmp compare q n && not (is_some (lookup given q))) (lookup found q)
    one true e true f =
        sym (ap (λ b. there (b && not (is_some (lookup given q))) (lookup found q)) f
        ∙ ap (λ m. there (not (is_some (lookup given m))) (lookup found q)) (one_name q n f)
        ∙ ap (λ b. there (not b) (lookup found q)) e)
    one true e false f = sym (ap (λ b. there (b && not (is_some (lookup given q))) (lookup found q)) f)
    one false e true f =
        names_laws.set_name q n tt found ∙ ap (λ b. cond b (Some tt) (lookup found q)) f
        ∙ sym (ap (λ b. there (b && not (is_some (lookup given q))) (lookup found q)) f
        ∙ ap (λ m. there (not (is_some (lookup given m))) (lookup found q)) (one_name q n f)
        ∙ ap (λ b. there (not b) (lookup found q)) e)
    one false e false f =
        names_laws.set_name q n tt found ∙ ap (λ b. cond b (Some tt) (lookup found q)) f
        ∙ sym (ap (λ b. there (b && not (is_some (lookup given q))) (lookup found q)) f)

    either : (a b g : Bool) (o : Option (Unit {0})) → there (b && g) (there (a && g) o) ≡ there ((a || b) && g) o
    either true true true o = refl
    either true true false o = refl
    either true false true o = refl
    either true false false o = refl
    either false true true o = refl
    either false true false o = refl
    either false false g o = refl

-- texts are the same exactly if they tie
same_text-ties : (a b : List ℕ) → same_text a b ≡ eq_by_cmp compare b a
same_text-ties a b = texts_ties a b ∙ (eq_by_cmp_equiv nat_list_cmp_total).symm a b

-- all but one name
among-filter : (name : List ℕ) (names : List (List ℕ)) (q : List ℕ)
    → among (filter (λ n. not (same_text name n)) names) q ≡ (among names q && not (eq_by_cmp compare q name))
among-filter name [] q = refl
among-filter name (n ∷ ns) q =
    ap (λ b. among (cond (not b) (n ∷ rest) rest) q) (same_text-ties name n)
    ∙ at (eq_by_cmp compare n name) refl (eq_by_cmp compare q n) refl (among-filter name ns q)
  where
    rest : List (List ℕ)
    rest = filter (λ n. not (same_text name n)) ns

    absorb : (e a : Bool) → (a && not e) ≡ ((e || a) && not e)
    absorb true true = refl
    absorb true false = refl
    absorb false a = refl

    at : (s : Bool) → eq_by_cmp compare n name ≡ s → (t : Bool) → eq_by_cmp compare q n ≡ t
        → among rest q ≡ (among ns q && not (eq_by_cmp compare q name))
        → among (cond (not s) (n ∷ rest) rest) q ≡ ((eq_by_cmp compare q n || among ns q) && not (eq_by_cmp compare q name))
    at true e t f more =
        more ∙ absorb (eq_by_cmp compare q name) (among ns q)
        ∙ ap (λ m. (eq_by_cmp compare q m || among ns q) && not (eq_by_cmp compare q name)) (sym (one_name n name e))
    at false e false f more =
        ap (λ b. b || among rest q) f ∙ more
        ∙ sym (ap (λ b. (b || among ns q) && not (eq_by_cmp compare q name)) f)
    at false e true f more =
        let other : eq_by_cmp compare q name ≡ false = ap (λ m. eq_by_cmp compare m name) (one_name q n f) ∙ e in
        ap (λ b. b || among rest q) f
        ∙ sym (ap (λ b. (b || among ns q) && not (eq_by_cmp compare q name)) f ∙ ap not other)

-- over assignments the set then has the names that it had, and those read and not given a value, by induction: the name
-- of an assignment is given from there on, and the names read leave it out too
lookup-read_on : (ls : List Let) (given found : Set) (q : List ℕ)
    → lookup (read_on ls given found) q ≡ there (among (names_read ls) q && not (is_some (lookup given q))) (lookup found q)
lookup-read_on [] given found q = refl
lookup-read_on (l ∷ ls) given found q =
    lookup-read_on ls (set l.name tt given) (put_new given (names_in l.value) found) q
    ∙ ap (there (among (names_read ls) q && not (is_some (lookup (set l.name tt given) q)))) (lookup-put_new given (names_in l.value) found q)
    ∙ ap (λ o. there (among (names_read ls) q && not (is_some o)) (there (among (names_in l.value) q && not (is_some (lookup given q))) (lookup found q)))
    (names_laws.set_name q l.name tt given)
    ∙ either (eq_by_cmp compare q l.name) (lookup given q) (among (names_in l.value) q) (among (names_read ls) q) (lookup found q)
    ∙ sym (ap (λ b. there (b && not (is_some (lookup given q))) (lookup found q))
    (list_any-append (eq_by_cmp compare q) (names_in l.value) (filter (λ n. not (same_text l.name n)) (names_read ls))
    ∙ ap (λ b. among (names_in l.value) q || b) (among-filter l.name (names_read ls) q)))
  where
    either : (e : Bool) (g : Option (Unit {0})) (a b : Bool) (o : Option (Unit {0}))
        → there (b && not (is_some (cond e (Some tt) g))) (there (a && not (is_some g)) o)
        ≡ there ((a || (b && not e)) && not (is_some g)) o
    either true None true true o = refl
    either true None true false o = refl
    either true None false true o = refl
    either true None false false o = refl
    either true (Some u) true true o = refl
    either true (Some u) true false o = refl
    either true (Some u) false true o = refl
    either true (Some u) false false o = refl
    either false None true true o = refl
    either false None true false o = refl
    either false None false true o = refl
    either false None false false o = refl
    either false (Some u) true true o = refl
    either false (Some u) true false o = refl
    either false (Some u) false true o = refl
    either false (Some u) false false o = refl

-- what was found in the end is what the block reads
pub read_on-reads : (ls : List Let) (found : Set) → IsIncreasing found → found ≡ read_on ls [] [] → names_of found ≡ block_reads ls
unfolding block_reads
read_on-reads ls found order e =
    ap names_of
    (names_laws.one_map found (as_set (names_read ls)) order (as_set-increasing (names_read ls))
    (λ q. ap (λ m. lookup m q) e ∙ lookup-read_on ls [] [] q ∙ plain (among (names_read ls) q) ∙ sym (lookup-as_set (names_read ls) q)))
  where
    plain : (b : Bool) → there (b && true) None ≡ there b None
    plain true = refl
    plain false = refl

-- after the last assignment
pub read_on-end : (ls : List Let) (i : ℕ) (given found : Set) → length ls ≤ i → read_on ls [] [] ≡ read_on (drop i ls) given found
    → found ≡ read_on ls [] []
read_on-end ls i given found past h = sym (h ∙ ap (λ rest. read_on rest given found) (drop_all i ls past))
