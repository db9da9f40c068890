use Rattle.std.proofs.Common.{◌∙◌, ap, sym, refl, arith, rules}
use Rattle.run_model.specs.Names.{set}
use Rattle.name_map.proofs.Journals.{led_start, led_more, led_same, set_all-take}
use Rattle.name_map.proofs.giving.put_all.Goals as goal

pub gifts-init : goal.gifts-init
gifts-init g c = record {
  value = refl;
  led = led_start c.args.names.now c.in_ok-journal.journal.items c.in_ok-journal.ensures.items;
  len = search rules;
  room = search rules;
}

pub gifts-preserved : goal.gifts-preserved
gifts-preserved g c =
    let g = c.gift-item.result in
    let e = c.in-Ok.ensures in
    record {
      value = e.value ∙ ap (set g.0 g.1) c.gifts.invariant.value ∙ sym (set_all-take c.args.list.now c.gifts.gift-index g c.args.names.now (omega arith) c.gift-item.is);
      led = led_more c.gifts.journal.items c.put_noted.new.journal.items c.args.names.now c.gifts.names c.put_noted.new.names g.0 g.1 e.noted e.value c.gifts.invariant.led;
      len = omega (arith, e.len, c.gifts.invariant.len);
      room = omega (arith, e.capacity, c.gifts.invariant.room);
    }

pub returns-in-Err-clause-err : goal.returns-in-Err-clause-err
returns-in-Err-clause-err g c =
    c.take_back.ensures c.args.names.now c.in_order.ensures
    (led_same c.gifts.journal.items c.put_noted.new.journal.items c.args.names.now c.gifts.names c.put_noted.new.names c.in-Err.ensures.err_journal c.in-Err.ensures.err c.gifts.invariant.led)
