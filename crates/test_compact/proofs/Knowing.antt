-- What calls on a seat keep, one after another.
use Rattle.std.proofs.Common.{ℕ, sym, ◌∙◌, refl, inl, inr}
use Rattle.rel_model.specs.Views.{View, IsKnown, Keeps}
use Rattle.rel_model.proofs.NamesStand.{extends_on}

-- two calls keep what each keeps
pub keeps_on : (a b c : View) → Keeps a b → Keeps b c → Keeps a c
keeps_on a b c x y = record { seen = extends_on a.words b.words c.words x.seen y.seen; house = y.house ∙ x.house; spare = y.spare ∙ x.spare }

-- a call that does nothing keeps all
pub keeps_itself : (a : View) → Keeps a a
keeps_itself a = record { seen = record { same_length = refl; kept = λ n h. refl }; house = refl; spare = refl }

-- what was known is known
pub known_stays : (a b : View) (n : ℕ) → Keeps a b → IsKnown a n → IsKnown b n
known_stays a b n x k = elim k [ inl e ↦ inl e | inr h ↦ inr (λ z. h (sym (x.seen.kept n h) ∙ z)) ]
