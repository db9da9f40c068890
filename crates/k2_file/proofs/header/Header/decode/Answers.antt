-- Each number stands in its bytes, the highest first.
use Rattle.std.proofs.Common.{◌∙◌, sym}
use Rattle.run_model.specs.Files.{part}
use Rattle.k2_file.proofs.ReadHeader.{number_4, number_8, rows-is, cols-is, height-is, tree_count-is, cell_count-is}
use Rattle.k2_file.proofs.header.Header.decode.Goals as goal

pub returns : goal.returns
returns c =
    let bytes = c.args.bytes.now in
    record {
      rows_are = c.read_u32.ensures ∙ number_4 (part bytes 4 4) ∙ sym (rows-is bytes);
      cols_are = c.read_u32-2.ensures ∙ number_4 (part bytes 8 4) ∙ sym (cols-is bytes);
      height_is = sym (height-is bytes);
      tree_is = c.read_u64.ensures ∙ number_8 (part bytes 13 8) ∙ sym (tree_count-is bytes);
      cells_are = c.read_u64-2.ensures ∙ number_8 (part bytes 21 8) ∙ sym (cell_count-is bytes);
    }
