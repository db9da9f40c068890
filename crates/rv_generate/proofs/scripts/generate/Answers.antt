use Rattle.std.proofs.Common.{◌≡◌, ◌%◌, ◌^◌, ◌∙◌, ap, sym, arith}
use Rattle.rv_generate.specs.Generator.{scripts_from, texts_of, generated}
use Rattle.rv_generate.proofs.Drawing.{after-none, scripts-more, draws-more}
use Rattle.rv_generate.proofs.scripts.generate.Goals as goal

pub scripts-init : goal.scripts-init
scripts-init c = record {
  texts = ap texts_of c.new-scripts.ensures.items;
  draws = c.new-draws.ensures ∙ sym (after-none _);
}

pub scripts-preserved : goal.scripts-preserved
scripts-preserved c =
    let x = c.args.number % 2 ^ 32 in
    let n = c.scripts.made in
    let s = c.scripts.draws.state in
    let inv = c.scripts.invariant in
    record {
      texts = scripts-more x n s c.scripts.scripts.items _ c.in_ok-script.script inv.texts inv.draws c.in_ok-push.ensures.items c.in_ok-script.ensures.text;
      draws = draws-more x n s _ inv.draws c.in_ok-script.ensures.draws;
    }

pub returns : goal.returns
unfolding generated
returns c =
    let all : c.scripts.made ≡ 8 = omega (arith, c.scripts.auto.made-end, c.scripts-test.false) in
    c.scripts.invariant.texts ∙ ap (λ n. scripts_from (c.args.number % 2 ^ 32) n) all
