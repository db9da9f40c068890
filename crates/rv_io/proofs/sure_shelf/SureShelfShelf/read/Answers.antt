use Rattle.std.proofs.Common.{◌≡◌, ◌<◌, ◌+◌, ◌-◌, ◌∙◌, ap, take, drop, length, arith}
use Rattle.rv_io.proofs.Keeping.{read_part}
use Rattle.rv_io.proofs.sure_shelf.SureShelfShelf.read.Goals as goal

pub returns-clause-bytes : goal.returns-clause-bytes
returns-clause-bytes c =
    let now = c.args.self.now in
    let bytes = now.kept.bytes.items in
    let n = c.min-count.result in
    let nothing : n ≡ 0 → 0 < length c.args.buf.now → now.to - (now.from + n) ≡ 0 = λ none some. omega (arith, none, some, now.order) in (
      read_part bytes c.copy_from_slice.new.self (drop n c.args.buf.now) now.from now.to n (omega (arith, now.order)) now.within (c.copy_from_slice.ensures.after ∙ c.part.ensures),
      λ none some. ap (λ k. take k (drop (now.from + n) bytes)) (nothing none c.requires),
    )
