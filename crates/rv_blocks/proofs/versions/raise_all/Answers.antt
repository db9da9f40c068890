use Rattle.std.proofs.Common.{◌∙◌, ◌+◌, ap, arith, rules}
use Rattle.run_model.specs.Versions.{number_or_0}
use Rattle.name_map.proofs.Journals.{led_more}
use Rattle.rv_blocks.proofs.Raising.{noted-read, raise_step, step_fits}
use Rattle.rv_blocks.proofs.versions.raise_all.Goals as goal

pub names-preserved : goal.names-preserved
names-preserved c =
    let n = c.name-item.result in
    let k = c.unwrap_or-next.result in
    let e = c.in-Ok.ensures in
    let number = c.unwrap_or-next.ensures ∙ noted-read c.get.result ∙ ap number_or_0 c.get.ensures in
    record {
      value = raise_step c.args.names.now c.names.name-index n c.args.map.now c.names.map c.put_noted.new.names k c.names-test.true c.name-item.is number e.value c.names.invariant.value;
      led = led_more c.names.journal.items c.put_noted.new.journal.items c.args.map.now c.names.map c.put_noted.new.names n (k + 1) e.noted e.value c.names.invariant.led;
      len = omega (arith, e.len, c.names.invariant.len);
      room = omega (arith, e.capacity, c.names.invariant.room);
    }

pub overflow_add-next : goal.overflow_add-next
overflow_add-next c =
    let number = c.unwrap_or-next.ensures ∙ noted-read c.get.result ∙ ap number_or_0 c.get.ensures in
    let fits = step_fits c.args.names.now c.names.name-index c.name-item.result c.args.map.now c.names.map c.unwrap_or-next.result c.names-test.true c.name-item.is number c.names.invariant.value c.requires.fits in
    search (rules, fits)
