use Rattle.std.proofs.Common.{◌∙◌, ◌++◌, ap, arith}
use Rattle.std.specs.Option.{option_to_list}
use Rattle.name_map.proofs.Journals.{led_back, led_none}
use Rattle.name_map.proofs.giving.take_back.Goals as goal

pub notes-init : goal.notes-init
notes-init g c first order led = led

pub notes-preserved : goal.notes-preserved
notes-preserved g c first order led =
    let rest = c.pop.new.self.items in
    led_back c.notes.journal.items rest (c.in-Some.name, c.in-Some.had) first c.notes.names c.put_back.new.self
    (c.pop.ensures.items ∙ ap (λ o. rest ++ option_to_list o) c.in-Some.is)
    (λ m rel o w h. c.put_back.ensures m rel o w h) order (c.notes.invariant first order led)

pub returns : goal.returns
returns g c first order led = led_none c.notes.journal.items first c.notes.names (omega (arith, c.in_default.ensures.cases.0, c.notes.journal.ok.0)) (c.notes.invariant first order led)
