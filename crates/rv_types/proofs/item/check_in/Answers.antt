use Rattle.std.proofs.Common.{◌≡◌, ◌∙◌, true, sym, ap, subst}
use Rattle.std.specs.Prelude.{IfOk}
use Rattle.lang_model.specs.Checking.{Scope, no_name, head_faults, decl_faults, faults, faults_by, assigned_by, function_scope, program_scope, item_faults, rank_of}
use Rattle.rv_types.specs.Found.{told, noted}
use Rattle.rv_types.proofs.Items.{noted-function, noted-program}
use Rattle.rv_types.proofs.item.check_in.Goals as goal

-- the same scope for a command
abbrev as_command : Scope → Scope
as_command s = record { is_command = true; parameters = s.parameters; variables = s.variables; products = s.products; sums = s.sums; earlier = s.earlier }

pub returns-in-Function-clause-fault : goal.returns-in-Function-clause-fault
returns-in-Function-clause-fault c =
    let E = c.args.scope.now.earlier.now in
    let t = told c.args.so_far in
    let f = c.in-Function in
    let h = c.new-head.ensures in
    let params = c.new-head.result.params.now in
    let rank = c.requires.rank ∙ ap (rank_of E) f.is in
    subst (λ u. IfOk c.check_head_and_value.result (λ r. told r ≡ u))
    ((λ i. noted (noted t (head_faults E (h.place i) (h.name i) params (h.rank i))) (faults (function_scope E params) no_name f.body))
    ∙ noted-function t E f.at f.name f.params f.body params c.args.rank rank (h.parameters ∙ c.as_slice.ensures.value)
    ∙ ap (λ item. noted t (item_faults E item)) (sym f.is))
    c.check_head_and_value.ensures

pub returns-in-Program-clause-fault : goal.returns-in-Program-clause-fault
returns-in-Program-clause-fault c =
    let E = c.args.scope.now.earlier.now in
    let t = told c.args.so_far in
    let p = c.in-Program in
    let h = c.new-head-in-Program.ensures in
    let params = c.new-head-in-Program.result.params.now in
    let decls = c.as_slice-in-Program-2.result.now in
    let body = c.as_slice-in-Program-3.result.now in
    let inside = program_scope E params decls in
    let rank = c.requires.rank ∙ ap (rank_of E) p.is in
    subst (λ u. IfOk c.check_parts.result (λ r. told r ≡ u))
    ((λ i. noted (noted (noted (noted t (head_faults E (h.place i) (h.name i) params (h.rank i))) (decl_faults params params decls)) (faults_by inside no_name body)) (faults inside (assigned_by no_name body) p.result))
    ∙ noted-program t E p.at p.name p.params p.decls p.body p.result params decls body c.args.rank rank
    (h.parameters ∙ c.as_slice-in-Program.ensures.value) c.as_slice-in-Program-2.ensures.value c.as_slice-in-Program-3.ensures.value
    ∙ ap (λ item. noted t (item_faults E item)) (sym p.is))
    c.check_parts.ensures

pub check_command-requires : goal.check_command-requires
check_command-requires c = ap as_command c.requires.bare
