-- Limits on what is printed, listed and saved.
use Rattle.std.specs.Prelude.{◌^◌, ℕ}

-- the greatest number of cells of a relation that is printed
abbrev pub print_limit : ℕ
print_limit = 2 ^ 20

-- the greatest number of pairs of a relation that is listed
abbrev pub list_limit : ℕ
list_limit = 2 ^ 20

-- the greatest number of bits of a relation's tree that is saved
abbrev pub save_limit : ℕ
save_limit = 2 ^ 26
