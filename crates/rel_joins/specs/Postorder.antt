-- Elements in an order in which each comes after all that pairs lead to from it.
use Rattle.std.specs.Prelude.{◌≡◌, ◌<◌, ℕ, true, List, length, get_or}
use Rattle.rel_model.specs.Listed.{is_among}

-- an element has a place in a list below a given one
pub record IsBefore (order : List ℕ) (limit x : ℕ) : Type 0 where
  pub place : ℕ
  pub below : place < limit
  pub inside : place < length order
  pub here : get_or order place 0 ≡ x

-- the elements at the first places are below n, and each comes after all that pairs lead to from it
pub record ComeAfter (n : ℕ) (pairs : List (ℕ × ℕ)) (order : List ℕ) (count : ℕ) : Type 0 where
  pub within : (p : ℕ) → p < count → get_or order p 0 < n
  pub after : (p y : ℕ) → p < count → is_among pairs (get_or order p 0) y ≡ true → IsBefore order p y

-- all n elements are listed, and each comes after all that pairs lead to from it
pub record IsPostorder (n : ℕ) (pairs : List (ℕ × ℕ)) (order : List ℕ) : Type 0 where
  pub come_after : ComeAfter n pairs order (length order)
  pub all : (x : ℕ) → x < n → IsBefore order (length order) x
