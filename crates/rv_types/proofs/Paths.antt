-- The walk over sets of names and the paths through statements say the same. By induction on statements:
-- (1) a name that the walk has behind statements was there before or is on each path (`on_each`);
-- (2) a name that it has not was not there before, and a path without it is built: of an IF the part that lacks it, of a WHILE no turn (`avoided`).
use Rattle.std.proofs.Common.{◌≡◌, ◌||◌, ◌++◌, ◌∙◌, ℕ, Bool, true, false, List, [], ◌∷◌, refl, sym, ap, subst, inl, inr, ⊎_elim}
use Rattle.std.proofs.lemmas.Bool.{both_ways, cases_Bool, or_cases, and_parts, and_cases, or_parts, or_from, or_left, or_right, true_from_ne_false}
use Rattle.std.proofs.lemmas.List.Folds.{list_any-append}
use Rattle.lang_model.specs.declared.syntax.Stmt.{Stmt, Set, While', If', Row_of-Stmt, end_of-Stmt, more_of-Stmt}
use Rattle.lang_model.specs.Tokens.{same_text}
use Rattle.lang_model.specs.Checking.{Names, among, no_name, assigned_after, assigned_behind, assigned_by}
use Rattle.rv_types.specs.Paths.{no_turn, IsPathOf, IsPathWithin, IsPath, AssignedOnEveryPath}

turned : (a b : Bool) → (b || a) ≡ true → (a || (b || false)) ≡ true
turned true b h = refl
turned false true h = refl
turned false false h = h

-- one path behind another
regrouped : (a b c : Bool) → (a || (b || c)) ≡ ((a || b) || c)
regrouped true b c = refl
regrouped false b c = refl

pub among-append : (n : List ℕ) (one more : List (List ℕ)) → among (one ++ more) n ≡ (among one n || among more n)
among-append n one more = list_any-append (λ t. same_text t n) one more

went : (a b c d : Bool) → (d ≡ true → (a || b) ≡ true) → (d || c) ≡ true → ((a || b) || c) ≡ true
went a b c true f h = or_left (a || b) c (f refl)
went a b c false f h = or_right (a || b) c h

on_both : (n : List ℕ) (A B : Names) (p one more : List (List ℕ)) → p ≡ one ++ more → (B n ≡ true → (A n || among one n) ≡ true) → (B n || among more n) ≡ true → (A n || among p n) ≡ true
on_both n A B p one more is f h =
    ap (λ q. A n || among q n) is ∙ ap (λ b. A n || b) (among-append n one more) ∙ regrouped (A n) (among one n) (among more n) ∙ went (A n) (among one n) (among more n) (B n) f h

-- a name that is on neither of two paths is not on one behind the other
pub off_both : (n : List ℕ) (one more : List (List ℕ)) → among one n ≡ false → among more n ≡ false → among (one ++ more) n ≡ false
off_both n one more f g = among-append n one more ∙ or_from (among one n) (among more n) f g

-- a path of this kind that does not assign the name, which was not assigned before
abbrev pub Avoids : List ℕ → Names → (List (List ℕ) → Type 0) → Type 0
Avoids n A IsOne = (p : List (List ℕ)) × (A n ≡ false) × IsOne p × (among p n ≡ false)

module _ (n : List ℕ) where
  mutual
    pub stmt-on_each : (A : Names) (s : Stmt) (p : List (List ℕ)) → IsPathOf s p → assigned_after A s n ≡ true → (A n || among p n) ≡ true
    stmt-on_each A (Set at name value) p is h = subst (λ q. (A n || among q n) ≡ true) (sym is) (turned (A n) (same_text name n) h)
    stmt-on_each A (While' at test s body) p is h = or_left (A n) (among p n) h
    stmt-on_each A (If' at test s first t second) p is h =
        ⊎_elim (λ a. or_left (A n) (among p n) a)
        (λ both. ⊎_elim (λ q. row-on_each A first p q (and_parts _ _ both).0) (λ q. row-on_each A second p q (and_parts _ _ both).1) is) (or_cases (A n) _ h)

    row-on_each : (A : Names) {m : _} (k : Row_of-Stmt m) (p : List (List ℕ)) → IsPathWithin k p → assigned_behind A k n ≡ true → (A n || among p n) ≡ true
    row-on_each A end_of-Stmt p is h = or_left (A n) (among p n) h
    row-on_each A (more_of-Stmt s rest) p is h = on_both n A (assigned_after A s) p is.0 is.1 is.4 (stmt-on_each A s is.0 is.2) (row-on_each (assigned_after A s) rest is.1 is.3 h)

  -- a name that the walk has behind a list of statements was there before or is on each path, by induction on the
  -- statements
  pub list-on_each : (A : Names) (ss : List Stmt) (p : List (List ℕ)) → IsPath ss p → assigned_by A ss n ≡ true → (A n || among p n) ≡ true
  list-on_each A [] p is h = or_left (A n) (among p n) h
  list-on_each A (s ∷ ss) p is h = on_both n A (assigned_after A s) p is.0 is.1 is.4 (stmt-on_each A s is.0 is.2) (list-on_each (assigned_after A s) ss is.1 is.3 h)

  mutual
    pub stmt-avoided : (A : Names) (s : Stmt) → assigned_after A s n ≡ false → Avoids n A (IsPathOf s)
    stmt-avoided A (Set at name value) h =
        let parts = or_parts (same_text name n) (A n) h in
        (name ∷ [], parts.1, refl, or_from (same_text name n) false parts.0 refl)
    stmt-avoided A (While' at test s body) h = ([], h, no_turn, refl)
    stmt-avoided A (If' at test s first t second) h =
        ⊎_elim (λ one. let r = row-avoided A first one in (r.0, r.1, inl r.2, r.3)) (λ two. let r = row-avoided A second two in (r.0, r.1, inr r.2, r.3))
        (and_cases (assigned_behind A first n) (assigned_behind A second n) (or_parts (A n) _ h).1)

    row-avoided : (A : Names) {m : _} (k : Row_of-Stmt m) → assigned_behind A k n ≡ false → Avoids n A (IsPathWithin k)
    row-avoided A end_of-Stmt h = ([], h, refl, refl)
    row-avoided A (more_of-Stmt s rest) h =
        let r = row-avoided (assigned_after A s) rest h in
        let l = stmt-avoided A s r.1 in
        (l.0 ++ r.0, l.1, (l.0, r.0, l.2, r.2, refl), off_both n l.0 r.0 l.3 r.3)

  pub list-avoided : (A : Names) (ss : List Stmt) → assigned_by A ss n ≡ false → Avoids n A (IsPath ss)
  list-avoided A [] h = ([], h, refl, refl)
  list-avoided A (s ∷ ss) h =
      let r = list-avoided (assigned_after A s) ss h in
      let l = stmt-avoided A s r.1 in
      (l.0 ++ r.0, l.1, (l.0, r.0, l.2, r.2, refl), off_both n l.0 r.0 l.3 r.3)

other_one : (a b : Bool) → a ≡ false → (a || b) ≡ true → b ≡ true
other_one a b f h = ⊎_elim (λ t. absurd (both_ways a f t)) (λ t. t) (or_cases a b h)

pub assigned_on_every_path : AssignedOnEveryPath
assigned_on_every_path ss n = record {
  from_none = (
    λ h p is. list-on_each n no_name ss p is h,
    λ each. true_from_ne_false (assigned_by no_name ss n) (λ f. let r = list-avoided n no_name ss f in both_ways (among r.0 n) r.3 (each r.0 r.2)),
  );
  from_others = λ A. (
    λ h. ⊎_elim (λ t. inl t) (λ f. inr (λ p is. other_one (A n) (among p n) f (list-on_each n A ss p is h))) (cases_Bool (A n)),
    λ either. true_from_ne_false (assigned_by A ss n) (λ f. let r = list-avoided n A ss f in ⊎_elim (λ t. both_ways (A n) r.1 t) (λ each. both_ways (among r.0 n) r.3 (each r.0 r.2)) either),
  );
}
