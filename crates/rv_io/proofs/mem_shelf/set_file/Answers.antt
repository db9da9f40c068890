use Rattle.std.proofs.Common.{ap, ◌∙◌, Some}
use Rattle.std.specs.List.{position}
use Rattle.std.specs.String.{string_bytes}
use Rattle.rv_io.specs.Memory.{has_name, file_at}
use Rattle.rv_io.proofs.Placing.{put_at, put_last}
use Rattle.rv_io.proofs.mem_shelf.set_file.Goals as goal

pub returns-in-Some-clause-file : goal.returns-in-Some-clause-file
returns-in-Some-clause-file c =
    let name = c.args.name.now in
    let old = c.index_mut.result.now in
    let place = c.in-Some.ensures ∙ ap (λ files. position (has_name name) files) c.as_slice.ensures.value in
    let put = put_at c.args.files.now.items c.in-Some.place (old.0, c.in_ok-bytes.bytes) old name place (ap (λ file. string_bytes file.0) c.index_mut.ensures.value) in
    put.file ∙ ap (λ bytes. Some bytes) c.in_ok-bytes.ensures.items

pub returns-in-Some-clause-others : goal.returns-in-Some-clause-others
returns-in-Some-clause-others c =
    let name = c.args.name.now in
    let old = c.index_mut.result.now in
    let place = c.in-Some.ensures ∙ ap (λ files. position (has_name name) files) c.as_slice.ensures.value in
    (put_at c.args.files.now.items c.in-Some.place (old.0, c.in_ok-bytes.bytes) old name place (ap (λ file. string_bytes file.0) c.index_mut.ensures.value)).others

pub returns-in_ok-push-in-None-clause-file : goal.returns-in_ok-push-in-None-clause-file
returns-in_ok-push-in-None-clause-file c =
    let name = c.args.name.now in
    let none = c.in-None.ensures ∙ ap (λ files. position (has_name name) files) c.as_slice.ensures.value in
    let put = put_last c.args.files.now.items (c.in_ok-from_str-in-None.field-0, c.in_ok-bytes.bytes) name none c.in_ok-from_str-in-None.ensures.ok in
    ap (λ files. file_at files name) c.in_ok-push-in-None.ensures.items ∙ put.file ∙ ap (λ bytes. Some bytes) c.in_ok-bytes.ensures.items

pub returns-in_ok-push-in-None-clause-others : goal.returns-in_ok-push-in-None-clause-others
returns-in_ok-push-in-None-clause-others c =
    let name = c.args.name.now in
    let none = c.in-None.ensures ∙ ap (λ files. position (has_name name) files) c.as_slice.ensures.value in
    let put = put_last c.args.files.now.items (c.in_ok-from_str-in-None.field-0, c.in_ok-bytes.bytes) name none c.in_ok-from_str-in-None.ensures.ok in
    λ other differs. ap (λ files. file_at files other) c.in_ok-push-in-None.ensures.items ∙ put.others other differs
