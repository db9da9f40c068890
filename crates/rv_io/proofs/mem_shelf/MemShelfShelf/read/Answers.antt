use Rattle.std.proofs.Common.{◌≡◌, ◌≤◌, ◌+◌, ◌-◌, length, drop, take, ap, ◌∙◌, arith}
use Rattle.std.proofs.lemmas.List.{drop_all}
use Rattle.rv_io.proofs.Pieces.{read_front}
use Rattle.rv_io.proofs.mem_shelf.MemShelfShelf.read.Goals as goal

pub returns-clause-bytes : goal.returns-clause-bytes
returns-clause-bytes c =
    let xs = c.args.self.now.picked.items in
    let at = c.args.self.now.taken in
    let n = c.min-count.result in
    let long : length xs ≡ c.len.result = omega arith in
    let room : at + n ≤ length xs = omega (arith, c.args.self.now.within) in (
      read_front xs c.copy_from_slice.new.self (drop n c.args.buf.now) at n room (c.copy_from_slice.ensures.after ∙ ap (λ ys. take ((at + n) - at) (drop at ys)) c.deref.ensures.value),
      λ none some. drop_all (at + n) xs (omega (arith, c.args.self.now.within, c.requires)),
    )
