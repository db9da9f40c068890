use Rattle.std.proofs.Common.{◌≡◌, take, true}
use Rattle.std.specs.List.{list_all}
use Rattle.lang_model.specs.Tokens.{is_word_byte}
use Rattle.k2_parts.proofs.words.are_word_bytes.Given as goal

-- those so far may stand in a word
abbrev pub invariant-bytes : goal.invariant-bytes
invariant-bytes l = list_all is_word_byte (take l.byte-index l.bytes) ≡ true
