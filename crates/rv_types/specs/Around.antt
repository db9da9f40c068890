-- The surroundings of an expression, as the walk over types keeps them.
use Rattle.lang_model.specs.Shape.{AroundTypes, around_types, types_of_calls}
use Rattle.rv_types.specs.declared.typing.Around.{Around}

-- the types of calls there, and the declarations of its program
abbrev pub around_of : Around → AroundTypes
around_of around = around_types (types_of_calls around.checked.now.items.items around.rank) around.decls.now
