use Rattle.std.proofs.Common.{◌≡◌, ◌+◌, length, take, drop}
use Rattle.rv_words.specs.Parts.{parts_of}
use Rattle.rv_words.specs.Shown.{texts}
use Rattle.rv_words.proofs.Cutting.{headed}
use Rattle.rv_words.proofs.parts.first_part.Given as goal

abbrev pub invariant-words : goal.invariant-words
invariant-words l = record {
  parts : parts_of (texts l.fn.words) ≡ headed (take l.count (texts l.fn.words)) (parts_of (texts l.rest));
  place : drop l.count (texts l.fn.words) ≡ texts l.rest;
  within : l.count + length l.rest ≡ length l.fn.words;
}

abbrev pub decreases-words : goal.decreases-words
decreases-words l = length l.rest
