use Rattle.std.proofs.Common.{arith, ◌≡◌, true}
use Rattle.std.proofs.lemmas.Grind.{common_steps}
use Rattle.rv_words.specs.Said as said
use Rattle.rv_words.proofs.Digits.{too_large}
use Rattle.rv_words.proofs.numbers.number_within.Goals as goal

pub returns-in-Err-clause-number : goal.returns-in-Err-clause-number
returns-in-Err-clause-number c =
    let is : said.is_number c.args.text.now ≡ true = grind (arith, common_steps, c.is_number.ensures, c.if-not-is_number.false) in
    too_large c.args.text.now c.in-Err.field-0 c.args.least c.args.most c.in-Err.ensures.value.0 is c.ranges.most.fits
