use Rattle.std.proofs.Common.{◌∙◌, ap, refl}
use Rattle.rv_runs.specs.Pages.{page_told}
use Rattle.relview.proofs.Growing.{all_finished}
use Rattle.relview.proofs.batches.finish.Goals as goal

pub returns : goal.returns
returns c bits turns files scripts ends is =
    let so_far = c.args.so_far in
    all_finished bits turns files scripts ends c.args.asked so_far _ is refl c.in_ok-outcomes.ensures.outcomes
    (c.in_ok-page.ensures ∙ ap (λ ts. page_told ts c.as_slice-2.result.now c.args.asked) c.as_slice.ensures.value ∙ ap (λ es. page_told so_far.told.items es c.args.asked) c.as_slice-2.ensures.value)
    c.in_ok-outcomes.ensures.saves refl refl
