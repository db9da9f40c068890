-- What the parts of a file describe, and that bytes without a fault have these parts.
use Rattle.std.specs.Prelude.{◌≡◌, ℕ, List, [], map, None}
use Rattle.run_model.specs.SharedFiles.{Quadrant, NamedRoot, quadrants_of, heights_behind, first_bad, entries_of, shared_fault}
use Rattle.k2_parts.specs.declared.form.Quadrant.{Quadrant as LISTED}
use Rattle.k2_parts.specs.declared.form.NamedRoot.{NamedRoot as NAMED}
use Rattle.k2_parts.specs.declared.form.Form.{Form}

-- a listed quadrant, by its numbers
abbrev pub quadrant_told : LISTED → Quadrant
quadrant_told q = record { nw = q.nw; ne = q.ne; sw = q.sw; se = q.se }

-- listed quadrants by their numbers
abbrev pub quadrants_told : List LISTED → List Quadrant
quadrants_told quads = map quadrant_told quads

-- a named root as given in the bytes
abbrev pub root_told : NAMED → NamedRoot
root_told r = record { name = r.name; rows = r.rows; cols = r.cols; root = r.root }

-- named roots as given in the bytes
abbrev pub roots_told : List NAMED → List NamedRoot
roots_told roots = map root_told roots

-- bytes fail no test, and have these parts
pub record IsFormOf (bytes : List ℕ) (form : Form) : Type 0 where
  pub passes : shared_fault bytes ≡ None
  pub quads : quadrants_told form.quads.items ≡ quadrants_of bytes
  pub heights : form.heights.items ≡ heights_behind [] (quadrants_of bytes)
  pub roots : roots_told form.roots.items ≡ entries_of bytes

-- listed quadrants are sound, and these are their heights
pub record AreSound (quads : List LISTED) (heights : List ℕ) : Type 0 where
  pub none_bad : first_bad 2 [] [] (quadrants_told quads) ≡ None
  pub heights_are : heights ≡ heights_behind [] (quadrants_told quads)
