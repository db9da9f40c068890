-- The base names and the domain operators, defined once: how each is written, and what it takes.
use Rattle.std.specs.Prelude.{ℕ, List, [], ◌∷◌, codes}
use Rattle.lang_model.specs.declared.syntax.Base.{Base}
use Rattle.lang_model.specs.declared.syntax.Base.TheVariants.{L, O, I, Ln1, On1, L1n, O1n, Dom, Ran, Trans, Refl, Epsi}
use Rattle.lang_model.specs.declared.syntax.Base.TheVariants.{Point, Atom, Init, Next, Inj, Empty, Unival, Less, Hasse}
use Rattle.lang_model.specs.declared.syntax.Base.TheVariants.{Quot, Syq, Eq, Incl, Ubd, Lbd, Least, Greatest, Sup, Inf}
use Rattle.lang_model.specs.declared.syntax.Base.TheVariants.{P1, P2, I1, I2}

-- how a base name or a domain operator is written
abbrev pub base_text : Base → List ℕ
base_text L = codes "L"
base_text O = codes "O"
base_text I = codes "I"
base_text Ln1 = codes "Ln1"
base_text On1 = codes "On1"
base_text L1n = codes "L1n"
base_text O1n = codes "O1n"
base_text Dom = codes "dom"
base_text Ran = codes "ran"
base_text Trans = codes "trans"
base_text Refl = codes "refl"
base_text Epsi = codes "epsi"
base_text Point = codes "point"
base_text Atom = codes "atom"
base_text Init = codes "init"
base_text Next = codes "next"
base_text Inj = codes "inj"
base_text Empty = codes "empty"
base_text Unival = codes "unival"
base_text Less = codes "less"
base_text Hasse = codes "hasse"
base_text Quot = codes "quot"
base_text Syq = codes "syq"
base_text Eq = codes "eq"
base_text Incl = codes "incl"
base_text Ubd = codes "ubd"
base_text Lbd = codes "lbd"
base_text Least = codes "least"
base_text Greatest = codes "greatest"
base_text Sup = codes "sup"
base_text Inf = codes "inf"
base_text P1 = codes "p-1"
base_text P2 = codes "p-2"
base_text I1 = codes "i-1"
base_text I2 = codes "i-2"

-- the base names, which are reserved words
abbrev pub base_names : List Base
base_names =
    L ∷ O ∷ I ∷ Ln1 ∷ On1 ∷ L1n ∷ O1n ∷ Dom ∷ Ran ∷ Trans ∷ Refl ∷ Epsi ∷ Point ∷ Atom ∷ Init ∷ Next ∷ Inj ∷ Empty
    ∷ Unival ∷ Less ∷ Hasse ∷ Quot ∷ Syq ∷ Eq ∷ Incl ∷ Ubd ∷ Lbd ∷ Least ∷ Greatest ∷ Sup ∷ Inf ∷ []

-- the domain operators, which are not words
abbrev pub domain_operator_names : List Base
domain_operator_names = P1 ∷ P2 ∷ I1 ∷ I2 ∷ []

-- what stands in the parentheses after a base name or a domain operator: one expression, two, or the name of a domain
pub data Form : Type 0 where
  TakesOne : Form
  TakesTwo : Form
  TakesDomain : Form

-- the form of each base name and domain operator
abbrev pub form_of : Base → Form
form_of Syq = TakesTwo
form_of Eq = TakesTwo
form_of Incl = TakesTwo
form_of Ubd = TakesTwo
form_of Lbd = TakesTwo
form_of Least = TakesTwo
form_of Greatest = TakesTwo
form_of Sup = TakesTwo
form_of Inf = TakesTwo
form_of P1 = TakesDomain
form_of P2 = TakesDomain
form_of I1 = TakesDomain
form_of I2 = TakesDomain
form_of _ = TakesOne
