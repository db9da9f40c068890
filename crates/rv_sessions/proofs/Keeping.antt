-- What is kept of an ordered map of snapshots: it goes entry by entry into a map that is set, and into a look-up.
use Rattle.std.proofs.Common.{◌≡◌, ◌∙◌, ℕ, Bool, true, false, cond, List, [], ◌∷◌, Option, Some, None, Bor, Ordering, Less, Equal, Greater, refl, ap}
use Rattle.std.specs.Option.{option_map, option_copied}
use Rattle.std.specs.Ordering.{eq_by_cmp}
use Rattle.std.specs.FinMap.Entries.{by_order}
use Rattle.run_model.specs.Names.{compare, Names, lookup, set}
use Rattle.run_model.specs.Carried.{Carried}
use Rattle.rv_workspace.specs.declared.reading.View.{View}
use Rattle.rv_sessions.specs.Standing.{Kept}
use Rattle.rv_sessions.specs.Keeping.{kept_of}

pub kept-nil : kept_of [] ≡ []
unfolding kept_of
kept-nil = refl

one_order : (o : Ordering) (x y z : Names View) → kept_of (by_order o x y z) ≡ by_order o (kept_of x) (kept_of y) (kept_of z)
one_order Less x y z = refl
one_order Equal x y z = refl
one_order Greater x y z = refl

pub kept-set : (name : List ℕ) (v : View) (m : Names View) → kept_of (set name v m) ≡ set name v.names.items (kept_of m)
unfolding kept_of
kept-set name v [] = refl
kept-set name v (e ∷ es) =
    one_order (compare name e.0) ((name, v) ∷ e ∷ es) ((e.0, v) ∷ es) (e ∷ set name v es)
    ∙ ap (λ (z : Kept). by_order (compare name e.0) ((name, v.names.items) ∷ (e.0, e.1.names.items) ∷ kept_of es) ((e.0, v.names.items) ∷ kept_of es) ((e.0, e.1.names.items) ∷ z)) (kept-set name v es)

-- what a view keeps
abbrev pub items_of : View → Carried
items_of v = v.names.items

found : (b : Bool) (v : View) (o : Option View) (p : Option Carried) → p ≡ option_map items_of o →
    cond b (Some v.names.items) p ≡ option_map items_of (cond b (Some v) o)
found true v o p h = refl
found false v o p h = h

pub kept-lookup : (m : Names View) (name : List ℕ) → lookup (kept_of m) name ≡ option_map items_of (lookup m name)
unfolding kept_of
kept-lookup [] name = refl
kept-lookup (e ∷ es) name = found (eq_by_cmp compare name e.0) e.1 (lookup es name) (lookup (kept_of es) name) (kept-lookup es name)

-- a view that is found, as what it keeps
pub found_view : (o : Option (Bor View)) → option_map (λ v. v.now.names.items) o ≡ option_map items_of (option_copied o)
found_view None = refl
found_view (Some v) = refl
