-- Names that get values one after another, and that have again what they had, the last first.
--
-- 1. A journal leads from the first names to the last: each note has what its name had before it got a value.
-- 2. So its last note tells of the names before the last, and undoing it leads there.
use Rattle.std.proofs.Common.{◌≡◌, ◌∙◌, ◌<◌, ◌+◌, ℕ, Bool, true, false, cond, List, [], ◌∷◌, ◌++◌, length, take, get_or, Option, Some, None, refl, sym, ap, subst, arith}
use Rattle.std.specs.Prelude.{IsSome}
use Rattle.std.specs.Ordering.{eq_by_cmp, is_eq}
use Rattle.std.specs.Cmp.{tied_itself}
use Rattle.std.specs.Cmp.Lexicographic.{nat_list_cmp_total}
use Rattle.std.proofs.lemmas.List.{take_more}
use Rattle.run_model.specs.Names.{compare, Names, lookup, set, remove, IsIncreasing}
use Rattle.run_model.proofs.Ordering.{names_laws, one_name}
use Rattle.name_map.specs.Giving.{set_all, restored, Led}

module _ {V : Type 0} where
  -- a name that is set has that
  lookup-set : (m : Names V) (n : List ℕ) (rel : V) → lookup (set n rel m) n ≡ Some rel
  lookup-set m n rel = names_laws.set_name n n rel m ∙ ap (λ r. cond (is_eq r) (Some rel) (lookup m n)) (tied_itself nat_list_cmp_total n)

  lookup-restored : (n : List ℕ) (o : Option V) (m : Names V) (q : List ℕ) → lookup (restored n o m) q ≡ cond (eq_by_cmp compare q n) o (lookup m q)
  lookup-restored n None m q = names_laws.removed_name q n m
  lookup-restored n (Some r) m q = names_laws.set_name q n r m

  restored_in_order : (n : List ℕ) (o : Option V) (m : Names V) → IsIncreasing m → IsIncreasing (restored n o m)
  restored_in_order n None m h = names_laws.removed_in_order n m h
  restored_in_order n (Some r) m h = names_laws.set_in_order n r m h

  covered : (b : Bool) (x y z : Option V) → (b ≡ true → x ≡ z) → cond b x (cond b y z) ≡ z
  covered true x y z h = h refl
  covered false x y z h = refl

  -- a name that got a relation has again what it had: all is as before
  restored-set : (n : List ℕ) (rel : V) (m : Names V) → IsIncreasing m → restored n (lookup m n) (set n rel m) ≡ m
  restored-set n rel m order =
      names_laws.one_map (restored n (lookup m n) (set n rel m)) m (restored_in_order n (lookup m n) (set n rel m) (names_laws.set_in_order n rel m order)) order
      (λ q. lookup-restored n (lookup m n) (set n rel m) q
      ∙ ap (cond (eq_by_cmp compare q n) (lookup m n)) (names_laws.set_name q n rel m)
      ∙ covered (eq_by_cmp compare q n) (lookup m n) (Some rel) (lookup m q) (λ t. ap (lookup m) (sym (one_name q n t))))

  pub changed_back : (n : List ℕ) (now first new : Names V) (rel r : V) → IsIncreasing first → now ≡ set n rel first → Some r ≡ lookup first n
      → (IsSome (lookup now n) → new ≡ set n r now) → new ≡ first
  changed_back n now first new rel r order was had change =
      let some : IsSome (lookup now n) = subst IsSome (sym (ap (λ m. lookup m n) was ∙ lookup-set first n rel)) refl in
      change some ∙ ap (set n r) was ∙ ap (λ o. restored n o (set n rel first)) had ∙ restored-set n rel first order

  pub taken_back : (n : List ℕ) (now first new : Names V) (rel : V) → IsIncreasing first → now ≡ set n rel first → None ≡ lookup first n → new ≡ remove n now → new ≡ first
  taken_back n now first new rel order was had take =
      take ∙ ap (remove n) was ∙ ap (λ o. restored n o (set n rel first)) had ∙ restored-set n rel first order

  -- ---- journals
  pub led_start : (m : Names V) (notes : List (List ℕ × Option V)) → notes ≡ [] → Led notes m m
  led_start m notes e = subst (λ ns. Led ns m m) (sym e) refl

  led_push : (notes : List (List ℕ × Option V)) (first last : Names V) (n : List ℕ) (rel : V) → Led notes first last → Led (notes ++ (n, lookup last n) ∷ []) first (set n rel last)
  led_push [] first last n rel h = (rel, ap (λ m. lookup m n) h, ap (set n rel) h)
  led_push (note ∷ notes) first last n rel h = (h.0, h.1, led_push notes (set note.0 h.0 first) last n rel h.2)

  pub led_more : (notes more : List (List ℕ × Option V)) (first last new : Names V) (n : List ℕ) (rel : V) → more ≡ notes ++ (n, lookup last n) ∷ [] → new ≡ set n rel last → Led notes first last → Led more first new
  led_more notes more first last new n rel d e h =
      subst (λ ns. Led ns first new) (sym d) (subst (λ m. Led (notes ++ (n, lookup last n) ∷ []) first m) (sym e) (led_push notes first last n rel h))

  pub led_same : (notes more : List (List ℕ × Option V)) (first last new : Names V) → more ≡ notes → new ≡ last → Led notes first last → Led more first new
  led_same notes more first last new d e h = subst (λ ns. Led ns first new) (sym d) (subst (λ m. Led notes first m) (sym e) h)

  led_pop : (notes : List (List ℕ × Option V)) (note : List ℕ × Option V) (first last : Names V) → Led (notes ++ note ∷ []) first last
      → (m : Names V) × (rel : V) × Led notes first m × (last ≡ set note.0 rel m) × (note.1 ≡ lookup m note.0)
  led_pop [] note first last h = (first, h.0, refl, h.2, h.1)
  led_pop (x ∷ xs) note first last h =
      let k = led_pop xs note (set x.0 h.0 first) last h.2 in
      (k.0, k.1, (h.0, h.1, k.2), k.3, k.4)

  led_in_order : (notes : List (List ℕ × Option V)) (first last : Names V) → IsIncreasing first → Led notes first last → IsIncreasing last
  led_in_order [] first last order h = subst IsIncreasing (sym h) order
  led_in_order (note ∷ notes) first last order h = led_in_order notes (set note.0 h.0 first) last (names_laws.set_in_order note.0 h.0 first order) h.2

  -- the last note is undone
  pub led_back : (notes rest : List (List ℕ × Option V)) (note : List ℕ × Option V) (first last new : Names V) → notes ≡ rest ++ note ∷ []
      → ((m : Names V) (rel : V) → IsIncreasing m → last ≡ set note.0 rel m → note.1 ≡ lookup m note.0 → new ≡ m)
      → IsIncreasing first → Led notes first last → Led rest first new
  led_back notes rest note first last new e undo order h =
      let k = led_pop rest note first last (subst (λ ns. Led ns first last) e h) in
      subst (λ m. Led rest first m) (sym (undo k.0 k.1 (led_in_order rest first k.0 order k.2) k.3 k.4)) k.2

  pub led_none : (notes : List (List ℕ × Option V)) (first last : Names V) → length notes ≡ 0 → Led notes first last → last ≡ first
  led_none [] first last e h = h
  led_none (note ∷ notes) first last e h = absurd (omega arith)

  -- ---- lists of gifts
  set_all-push : (gifts : List (List ℕ × V)) (gift : List ℕ × V) (m : Names V) → set_all (gifts ++ gift ∷ []) m ≡ set gift.0 gift.1 (set_all gifts m)
  set_all-push [] gift m = refl
  set_all-push (g ∷ gs) gift m = set_all-push gs gift (set g.0 g.1 m)

  pub set_all-take : (gifts : List (List ℕ × V)) (i : ℕ) (gift : List ℕ × V) (m : Names V) → i < length gifts → gift ≡ get_or gifts i gift
      → set_all (take (i + 1) gifts) m ≡ set gift.0 gift.1 (set_all (take i gifts) m)
  set_all-take gifts i gift m h e =
      ap (λ gs. set_all gs m) (take_more gifts i gift h ∙ ap (λ x. take i gifts ++ x ∷ []) (sym e)) ∙ set_all-push (take i gifts) gift m
