use Rattle.std.proofs.Common.{rules}
use Rattle.rv_spell.proofs.Again.{read_again, prints_again}
use Rattle.rv_spell.proofs.print.print_expr.Goals as goal

pub returns-clause-again : goal.returns-clause-again
returns-clause-again c = read_again c.args.expr.now c.write_expr.new.text.items (search rules)

pub returns-clause-script : goal.returns-clause-script
returns-clause-script c = λ d. prints_again d c.args.expr.now c.write_expr.new.text (search rules)
