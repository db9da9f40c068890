-- What `look` and `note` draw from the table: the fields of an equation fit their bits, and an equation that a memo word holds is true.
use Rattle.std.proofs.Common.{◌≡◌, ◌≢◌, ◌<◌, ◌≤◌, ◌+◌, ◌*◌, ◌^◌, ℕ, true, length, Option, Some, None, IfSome, IfNone, refl, sym, ◌∙◌, arith}
use Rattle.std.proofs.Math.Pow.{pow_mono}
use Rattle.rel_model.specs.Trees.{top_height, stands}
use Rattle.rel_model.specs.Words.{most_bits}
use Rattle.rel_model.specs.Equations.{Operator, Union, Inter, Diff, Transpose, Compose, Equation, IsTrueIn, depth_of, home_slot, word_of_equation}
use Rattle.rel_model.specs.Views.{Table, View, IsOf, Loads}
use Rattle.rel_model.proofs.TreeLaws.{stands-below}
use Rattle.rel_model.proofs.EquationLaws.{HasRoom, true_has_room, memo_tells}
use Rattle.memo_laws.specs.Looking.{IsWordFor, Looks}

-- a view has some words, and no more than the largest table
pub record HasSize (v : View) : Type 0 where
  pub some : 0 < length v.words
  pub most : length v.words ≤ 2 ^ most_bits

pub has_size : (v : View) (t : Table) → IsOf v t → HasSize v
has_size v t o =
    let low : 2 ^ 10 ≤ 2 ^ t.bits = pow_mono o.low in
    let high : 2 ^ t.bits ≤ 2 ^ 24 = pow_mono o.high in
    let e = o.size in
    record { some = omega arith; most = omega arith }

-- the fields of an equation that is asked for fit their bits
pub asked_has_room : (v : View) (t : Table) (op : Operator) (height a b r : ℕ) → IsOf v t → height ≤ top_height → stands v.words (depth_of height) a ≡ true → stands v.words (depth_of height) b ≡ true → r < 2 ^ most_bits
    → HasRoom (record { op = op; height = height; a = a; b = b; r = r })
unfolding top_height
asked_has_room v t op height a b r o h x y l =
    let s = has_size v t o in
    let p = stands-below v.words s.some (depth_of height) a x in
    let q = stands-below v.words s.some (depth_of height) b y in
    let m = s.most in
    record { a_fits = omega arith; b_fits = omega arith; r_fits = l; height_fits = omega arith }

-- the fields of an equation that is true fit their bits
pub noted_has_room : (v : View) (t : Table) (e : Equation) → IsOf v t → IsTrueIn v.words e → HasRoom e
noted_has_room v t e o h = let s = has_size v t o in true_has_room v.words e s.some s.most h

-- the word of an equation is not 0
pub word_of_equation-not_0 : (op : Operator) (height a b r : ℕ) → word_of_equation (record { op = op; height = height; a = a; b = b; r = r }) ≢ 0
word_of_equation-not_0 Union height a b r = omega arith
word_of_equation-not_0 Inter height a b r = omega arith
word_of_equation-not_0 Diff height a b r = omega arith
word_of_equation-not_0 Transpose height a b r = omega arith
word_of_equation-not_0 Compose height a b r = omega arith

-- the answer that is read from a loaded word is what `look` promises
pub looked_up : (old new : View) (t : Table) (op : Operator) (height a b word asked : ℕ) (answer : Option ℕ) → IsOf new t → HasRoom (record { op = op; height = height; a = a; b = b; r = 0 })
    → Loads (home_slot a b) word old new → asked ≡ word_of_equation (record { op = op; height = height; a = a; b = b; r = 0 })
    → IfSome answer (λ r. (r < 2 ^ most_bits) × (word ≡ asked + r * 2 ^ 9)) → IfNone answer ((r : ℕ) → r < 2 ^ most_bits → word ≢ asked + r * 2 ^ 9)
    → Looks op height a b old new answer
looked_up old new t op height a b word asked answer o h l e = read answer
  where
    step : (r : ℕ) → asked + r * 2 ^ 9 ≡ word_of_equation (record { op = op; height = height; a = a; b = b; r = r })
    step r = omega arith

    read : (answer : Option ℕ) → IfSome answer (λ r. (r < 2 ^ most_bits) × (word ≡ asked + r * 2 ^ 9)) → IfNone answer ((r : ℕ) → r < 2 ^ most_bits → word ≢ asked + r * 2 ^ 9) → Looks op height a b old new answer
    read None _ n = record {
      word = word;
      last = l.last;
      found = tt;
      holds = tt;
      none = λ r g w. n r g (w ∙ sym (step r));
      only_none = λ _. refl;
      keeps = l.keeps;
      made = l.made;
      refused = l.refused;
    }
    read (Some r) s _ =
        let w : IsWordFor word op height a b r = s.1 ∙ step r in
        let z : word ≢ 0 = (λ z. word_of_equation-not_0 op height a b r (sym w ∙ z)) in
        let m = has_size new t o in
        let room : HasRoom (record { op = op; height = height; a = a; b = b; r = r }) = record { a_fits = h.a_fits; b_fits = h.b_fits; r_fits = s.0; height_fits = h.height_fits } in
        record {
          word = word;
          last = l.last;
          found = w;
          holds = memo_tells new.words (home_slot a b) word _ m.some m.most (l.holds z) room w refl;
          none = tt;
          only_none = λ f. absurd (f r s.0 w);
          keeps = l.keeps;
          made = l.made;
          refused = l.refused;
        }
