use Rattle.std.proofs.Common.{◌≡◌, ap, arith}
use Rattle.run_model.specs.Versions.{noted}
use Rattle.rv_blocks.proofs.Raising.{all_raised-few}
use Rattle.test_outside.proofs.reads.noted.Goals as goal

pub note_all-requires : goal.note_all-requires
note_all-requires c =
    let none = c.new-versions.ensures in
    let long = c.as_slice.ensures.len in
    let few = c.len.ensures in
    let less = c.if-len-lt100.true in
    record {
      fits = λ name.
          let a = all_raised-few c.as_slice.result.now c.new-versions.result name in
          let v : noted c.new-versions.result name ≡ 0 = ap (λ m. noted m name) none in
          omega (arith, a, v, long, few, less);
    }
