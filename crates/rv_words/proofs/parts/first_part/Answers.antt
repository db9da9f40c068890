use Rattle.std.proofs.Common.{◌≡◌, ◌∙◌, ◌∷◌, ◌-◌, ap, sym, refl, length, take, drop, arith, true, false}
use Rattle.std.specs.String.{string_bytes}
use Rattle.std.specs.Str.{bytes_eq}
use Rattle.std.proofs.lemmas.List.{take-map}
use Rattle.rv_words.specs.Parts.{parts_of, then_word, ends_word}
use Rattle.rv_words.specs.Shown.{texts}
use Rattle.rv_words.proofs.Cutting.{headed, ends_part, ends_cutting, one_more, all_cut, head_tail, drop-more, none_left}
use Rattle.rv_words.proofs.parts.first_part.Goals as goal

pub returns-then-eq : goal.returns-then-eq
returns-then-eq c =
    let words = texts c.args.words.now in
    let word = c.word-item.result in
    let head = head_tail c.words.rest.now word _ c.in-len1-up.len_at_least c.word-item.is refl in
    let is : bytes_eq (string_bytes word) then_word ≡ true = ap (λ w. bytes_eq w then_word) (sym c.as_str.ensures.value) ∙ sym c.if-eq.ensures in
    ends_part words c.words.count (string_bytes word) _ (c.words.invariant.place ∙ ap texts head)
    (c.words.invariant.parts ∙ ap (λ ws. headed (take c.words.count words) (parts_of (texts ws))) head) is
    ∙ ap (λ part. part ∷ parts_of (texts (take (length c.words.rest.now - 1) (drop 1 c.words.rest.now)))) (take-map string_bytes c.words.count c.args.words.now)

pub returns-then-eq-2 : goal.returns-then-eq-2
returns-then-eq-2 c =
    let words = texts c.args.words.now in
    let word = c.word-item.result in
    let head = head_tail c.words.rest.now word _ c.in-len1-up.len_at_least c.word-item.is refl in
    let other : bytes_eq (string_bytes word) then_word ≡ false = ap (λ w. bytes_eq w then_word) (sym c.as_str.ensures.value) ∙ sym c.if-eq.ensures in
    let is : bytes_eq (string_bytes word) ends_word ≡ true = ap (λ w. bytes_eq w ends_word) (sym c.as_str-in-len1-up.ensures.value) ∙ sym c.if-eq-2.ensures in
    ends_cutting words c.words.count (string_bytes word) _ (c.words.invariant.place ∙ ap texts head)
    (c.words.invariant.parts ∙ ap (λ ws. headed (take c.words.count words) (parts_of (texts ws))) head) other is

pub words-preserved : goal.words-preserved
words-preserved c =
    let words = texts c.args.words.now in
    let word = c.word-item.result in
    let head = head_tail c.words.rest.now word _ c.in-len1-up.len_at_least c.word-item.is refl in
    let place = c.words.invariant.place ∙ ap texts head in
    let other : bytes_eq (string_bytes word) then_word ≡ false = ap (λ w. bytes_eq w then_word) (sym c.as_str.ensures.value) ∙ sym c.if-eq.ensures in
    let none : bytes_eq (string_bytes word) ends_word ≡ false = ap (λ w. bytes_eq w ends_word) (sym c.as_str-in-len1-up.ensures.value) ∙ sym c.if-eq-2.ensures in
    record {
      parts = one_more words c.words.count (string_bytes word) _ place
          (c.words.invariant.parts ∙ ap (λ ws. headed (take c.words.count words) (parts_of (texts ws))) head) other none;
      place = drop-more words c.words.count (string_bytes word) _ place;
      within = grind (arith, c.words.invariant.within, ap length head);
    }

pub returns : goal.returns
returns c =
    let words = texts c.args.words.now in
    let none = none_left c.words.rest.now c.in_default.len_below in
    all_cut words c.words.count (c.words.invariant.place ∙ ap texts none)
    (c.words.invariant.parts ∙ ap (λ ws. headed (take c.words.count words) (parts_of (texts ws))) none)
