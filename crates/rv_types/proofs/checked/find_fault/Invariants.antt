use Rattle.std.proofs.Common.{◌≡◌, [], None, drop}
use Rattle.lang_model.specs.Checking.{items_faults}
use Rattle.rv_types.specs.Items.{RanksWithin}
use Rattle.rv_types.specs.Found.{told, noted}
use Rattle.rv_types.proofs.checked.find_fault.Given as goal

abbrev pub invariant-each : goal.invariant-each
invariant-each l =
    (noted None (items_faults [] l.items) ≡ noted (told l.found) (items_faults l.definitions (drop l.item-index l.items))) × RanksWithin l.item-index l.definitions
