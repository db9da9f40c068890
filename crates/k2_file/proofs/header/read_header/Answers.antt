-- The tests of the header, one by one.
use Rattle.std.proofs.Common.{◌≡◌, ◌≤◌, ◌<◌, ◌∙◌, sym, arith}
use Rattle.rel_model.specs.Relation.{size_limit}
use Rattle.run_model.specs.Files.{fields}
use Rattle.k2_file.specs.Told.{end_of}
use Rattle.k2_file.proofs.ReadHeader.{header-short, header-magic, header-rows, header-cols, header-height, header-end, header-good, same-height, same-end, height-least}
use Rattle.k2_file.proofs.header.read_header.Goals as goal

pub returns-then-bytes-lt-HEADER-clause-fault : goal.returns-then-bytes-lt-HEADER-clause-fault
returns-then-bytes-lt-HEADER-clause-fault c = sym (header-short c.args.bytes.now c.if-bytes-lt-HEADER.true)

pub returns-then-not-has_name-clause-fault : goal.returns-then-not-has_name-clause-fault
returns-then-not-has_name-clause-fault c = sym (header-magic c.args.bytes.now c.if-bytes-lt-HEADER.false (sym c.if-not-has_name.ensures))

pub returns-then-header-gt-SIZE_LIMIT-clause-fault : goal.returns-then-header-gt-SIZE_LIMIT-clause-fault
returns-then-header-gt-SIZE_LIMIT-clause-fault c =
    let over : size_limit < (fields c.args.bytes.now).rows = omega (arith, c.decode-header.ensures.rows_are, c.if-header-gt-SIZE_LIMIT.true) in
    sym (header-rows c.args.bytes.now c.if-bytes-lt-HEADER.false (sym c.if-not-has_name.ensures) over)

pub returns-then-header-gt-SIZE_LIMIT-2-clause-fault : goal.returns-then-header-gt-SIZE_LIMIT-2-clause-fault
returns-then-header-gt-SIZE_LIMIT-2-clause-fault c =
    let over : size_limit < (fields c.args.bytes.now).cols = omega (arith, c.decode-header.ensures.cols_are, c.if-header-gt-SIZE_LIMIT-2.true) in
    sym (header-cols c.args.bytes.now c.if-bytes-lt-HEADER.false (sym c.if-not-has_name.ensures) over)

pub returns-then-header-height_of_file-clause-fault : goal.returns-then-header-height_of_file-clause-fault
returns-then-header-height_of_file-clause-fault c =
    let bytes = c.args.bytes.now in
    let w = c.decode-header.ensures in
    let rows : (fields bytes).rows ≤ size_limit = omega (arith, w.rows_are, c.if-header-gt-SIZE_LIMIT.false) in
    let cols : (fields bytes).cols ≤ size_limit = omega (arith, w.cols_are, c.if-header-gt-SIZE_LIMIT-2.false) in
    sym (header-height bytes c.if-bytes-lt-HEADER.false (sym c.if-not-has_name.ensures) rows cols
    (λ e. c.if-header-height_of_file.true (w.height_is ∙ e ∙ sym (same-height bytes c.decode-header.result w) ∙ sym c.height_of_file.ensures.value)))

pub returns-then-bytes-end-clause-fault : goal.returns-then-bytes-end-clause-fault
returns-then-bytes-end-clause-fault c =
    let bytes = c.args.bytes.now in
    let w = c.decode-header.ensures in
    let rows : (fields bytes).rows ≤ size_limit = omega (arith, w.rows_are, c.if-header-gt-SIZE_LIMIT.false) in
    let cols : (fields bytes).cols ≤ size_limit = omega (arith, w.cols_are, c.if-header-gt-SIZE_LIMIT-2.false) in
    let end : c.end.result ≡ end_of bytes = c.end.ensures ∙ same-end bytes c.decode-header.result w in
    sym (header-end bytes c.if-bytes-lt-HEADER.false (sym c.if-not-has_name.ensures) rows cols
    (sym w.height_is ∙ c.if-header-height_of_file.false ∙ c.height_of_file.ensures.value ∙ same-height bytes c.decode-header.result w)
    (omega (arith, end, c.if-bytes-end.true)))

pub returns-clause-header : goal.returns-clause-header
returns-clause-header c =
    let h = c.decode-header.result in
    record {
      numbers = c.decode-header.ensures;
      row_limit = c.if-header-gt-SIZE_LIMIT.false;
      col_limit = c.if-header-gt-SIZE_LIMIT-2.false;
      least = omega (arith, c.if-header-height_of_file.false, c.height_of_file.ensures.value, height-least h.rows h.cols);
      top = omega (arith, c.if-header-height_of_file.false, c.height_of_file.ensures.limit);
      is_height = c.if-header-height_of_file.false ∙ c.height_of_file.ensures.value;
      long = omega (arith, c.end.ensures, c.if-bytes-end.false);
    }

pub returns-clause-fault : goal.returns-clause-fault
returns-clause-fault c =
    let bytes = c.args.bytes.now in
    let w = c.decode-header.ensures in
    let rows : (fields bytes).rows ≤ size_limit = omega (arith, w.rows_are, c.if-header-gt-SIZE_LIMIT.false) in
    let cols : (fields bytes).cols ≤ size_limit = omega (arith, w.cols_are, c.if-header-gt-SIZE_LIMIT-2.false) in
    let end : c.end.result ≡ end_of bytes = c.end.ensures ∙ same-end bytes c.decode-header.result w in
    sym (header-good bytes c.if-bytes-lt-HEADER.false (sym c.if-not-has_name.ensures) rows cols
    (sym w.height_is ∙ c.if-header-height_of_file.false ∙ c.height_of_file.ensures.value ∙ same-height bytes c.decode-header.result w)
    (omega (arith, end, c.if-bytes-end.false)))
