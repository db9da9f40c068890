use Rattle.std.proofs.Common.{◌∙◌, sym}
use Rattle.name_map.proofs.Journals.{changed_back, taken_back}
use Rattle.name_map.proofs.map.NameMap.put_back.Goals as goal

pub returns-in-Some : goal.returns-in-Some
returns-in-Some g c first rel order was had =
    changed_back c.args.name.now c.args.self.now first c.change.new.self rel c.in-Some.value order was (sym c.in-Some.is ∙ had) c.change.ensures

pub returns-in-None : goal.returns-in-None
returns-in-None g c first rel order was had =
    taken_back c.args.name.now c.args.self.now first c.take.new.self rel order was (sym c.in-None.is ∙ had) c.take.ensures.value
