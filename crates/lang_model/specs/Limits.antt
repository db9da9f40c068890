-- The limits of texts.
use Rattle.std.specs.Prelude.{◌^◌, ℕ}

-- the greatest length of a script, in bytes
abbrev pub script_limit : ℕ
script_limit = 2 ^ 20

-- the greatest length of a name, in bytes
abbrev pub name_limit : ℕ
name_limit = 64

-- the greatest length of a file's name in a script, in bytes
abbrev pub file_text_limit : ℕ
file_text_limit = 255

-- how many constructs may be open at once
abbrev pub nesting_limit : ℕ
nesting_limit = 40

-- how many more parameters, or arguments, may follow the first
abbrev pub more_limit : ℕ
more_limit = 15

-- the greatest rank of a definition
abbrev pub rank_limit : ℕ
rank_limit = 16

-- the greatest number of operands of a chain in which repeated operands are looked for
abbrev pub compared_limit : ℕ
compared_limit = 64
