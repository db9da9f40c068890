-- What a closure by rows of bits works on.
use Rattle.std.specs.Prelude.{◌≡◌, ◌<◌, ◌≤◌, ◌+◌, ◌*◌, ℕ, List, length}
use Rattle.rel_model.specs.Roots.{height_over}
use Rattle.rel_joins.specs.declared.ordered.Ordered.{Ordered}
use Rattle.rel_joins.specs.Postorder.{IsPostorder}
use Rattle.rel_joins.specs.Columns.{AreBare}

-- n elements with these pairs are in order, and there are rows and squares for their closure over leaves of a height
pub record IsReady (least n : ℕ) (pairs : List (ℕ × ℕ)) (o : Ordered) : Type 0 where
  pub leaf : least ≡ 3
  pub order : IsPostorder n pairs o.order.items
  pub bare : AreBare n o.rows.items
  pub size : length o.rows.items ≡ 256 * o.blocks
  pub all : length o.squares.items ≡ o.blocks * o.blocks
  pub covered : n ≤ 256 * o.blocks
  pub close : 256 * o.blocks < n + 256
  pub same_height : o.height ≡ height_over least n n
  pub low : 8 ≤ o.height
  pub high : o.height ≤ 16
