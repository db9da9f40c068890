-- Truth values.
use Rattle.std.proofs.Common.{◌≡◌, ◌||◌, Bool, true, false, refl, sym}

-- each is true if the other is
pub same_truth : (a b : Bool) → (a ≡ true → b ≡ true) → (b ≡ true → a ≡ true) → a ≡ b
same_truth true b f g = sym (f refl)
same_truth false true f g = g refl
same_truth false false f g = refl

pub or_here : (a b : Bool) → a ≡ true → (a || b) ≡ true
or_here true b h = refl
or_here false b h = absurd_truth b h
  where
    absurd_truth : (b : Bool) → false ≡ true → b ≡ true
    absurd_truth true h = refl
    absurd_truth false h = h

pub or_none : (a : Bool) → (a || false) ≡ a
or_none true = refl
or_none false = refl

pub or_or : (a b c : Bool) → (a || (b || c)) ≡ ((a || b) || c)
or_or true b c = refl
or_or false b c = refl

-- what is added to each of two, before a third
pub or_each : (u l x y m : Bool) → ((u || l) || ((x || y) || m)) ≡ (((u || x) || (l || y)) || m)
or_each true l x y m = refl
or_each false true true y m = refl
or_each false true false y m = refl
or_each false false true y m = refl
or_each false false false y m = refl
